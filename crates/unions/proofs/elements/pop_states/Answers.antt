use native.Mathlib.Omega.{arith}
use Rattle.unions.proofs.Gathering.{gathered_none, gathered-on, gathered-ends}
use Rattle.unions.proofs.elements.pop_states.Goals as goal

pub loop-r-init : goal.loop-r-init
loop-r-init c = (omega arith, gathered_none _)

pub overflow_mul-at : goal.overflow_mul-at
overflow_mul-at c = omega (arith, c.requires, c.loop-r-test.true)

pub overflow_add-at : goal.overflow_add-at
overflow_add-at c = omega (arith, c.requires, c.loop-r-test.true)

pub bounds-rules-at : goal.bounds-rules-at
bounds-rules-at c = omega (arith, c.requires, c.loop-r-test.true)

pub overflow_add-at-in-loop-r : goal.overflow_add-at-in-loop-r
overflow_add-at-in-loop-r c = omega (arith, c.requires, c.loop-r-test.true)

pub bounds-rules-at-in-loop-r : goal.bounds-rules-at-in-loop-r
bounds-rules-at-in-loop-r c = omega (arith, c.requires, c.loop-r-test.true)

pub pop_set-set-requires : goal.pop_set-set-requires
pop_set-set-requires c = tt

pub loop-r-preserved : goal.loop-r-preserved
loop-r-preserved c = (omega (arith, c.loop-r-test.true), gathered-on _ _ _ _ c.loop-r.invariant.1 c.pop_set-set.ensures)

pub returns : goal.returns
returns c = gathered-ends _ _ _ _ c.loop-r.invariant.0 c.loop-r-test.false c.loop-r.invariant.1
