use native.Mathlib.Omega.{arith}
use mathlib.Core.Path.{refl}
use Rattle.unions.proofs.Gathering.{gathered_none, gathered-on, gathered-ends}
use Rattle.unions.proofs.elements.target_states.Goals as goal

pub loop-t-init : goal.loop-t-init
loop-t-init c = (omega arith, gathered_none _)

pub overflow_mul-set : goal.overflow_mul-set
overflow_mul-set c = omega (arith, c.requires, c.loop-t-test.true)

pub overflow_add-set : goal.overflow_add-set
overflow_add-set c = omega (arith, c.requires, c.loop-t-test.true)

pub offset_bounds-targets-t : goal.offset_bounds-targets-t
offset_bounds-targets-t c = omega (arith, c.requires, c.loop-t-test.true)

pub bounds-targets-t : goal.bounds-targets-t
bounds-targets-t c = omega (arith, c.requires, c.loop-t-test.true)

pub loop-t-preserved : goal.loop-t-preserved
loop-t-preserved c = (omega (arith, c.loop-t-test.true), gathered-on _ _ _ _ c.loop-t.invariant.1 refl)

pub returns : goal.returns
returns c = gathered-ends _ _ _ _ c.loop-t.invariant.0 c.loop-t-test.false c.loop-t.invariant.1
