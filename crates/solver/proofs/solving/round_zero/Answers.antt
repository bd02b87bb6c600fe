use native.Mathlib.Omega.{arith}
use mathlib.Core.Path.{refl}
use Rattle.rounds.proofs.StoredRows.{long_of}
use Rattle.solver.proofs.Targets.{adding-starts, adding-next, adding-stops, adding-ends, counted, many, state-small, letter-small, entry-small}
use Rattle.solver.proofs.solving.round_zero.Goals as goal

pub loop-t-init : goal.loop-t-init
loop-t-init c = (omega arith, λ g n h e. adding-starts g n _ e)

pub bounds-targets-at : goal.bounds-targets-at
bounds-targets-at c = omega (arith, counted _ _ _ _ c.requires.1, many _ _ _ _ c.requires.1)

pub bounds-targets-at-in-loop-t : goal.bounds-targets-at-in-loop-t
bounds-targets-at-in-loop-t c = omega (arith, counted _ _ _ _ c.requires.1, many _ _ _ _ c.requires.1)

pub overflow_mul-entry : goal.overflow_mul-entry
overflow_mul-entry c = omega (arith, letter-small _ _ _ _ c.requires.1 _ c.loop-t-test.true)

pub overflow_add-entry-in-loop-t : goal.overflow_add-entry-in-loop-t
overflow_add-entry-in-loop-t c = omega (arith, letter-small _ _ _ _ c.requires.1 _ c.loop-t-test.true, state-small _ _ _ _ c.requires.1 _ c.loop-t-test.true)

pub bounds-targets-at-in-loop-t-2 : goal.bounds-targets-at-in-loop-t-2
bounds-targets-at-in-loop-t-2 c = omega (arith, counted _ _ _ _ c.requires.1, many _ _ _ _ c.requires.1)

pub loop-t-preserved : goal.loop-t-preserved
loop-t-preserved c = (omega (arith, c.in_ok-count.ensures.within), λ g n h e. let a = c.loop-t.invariant.1 g n h e in adding-next g _ _ _ h _ c.loop-t-test.true n _ _ a _ _ (c.in_ok-count.ensures.by_index n a.now (long_of n _ _ a.now a.filled) a.filled (entry-small g _ _ _ h _ c.loop-t-test.true)))

pub returns-in_err-count-clause-filled : goal.returns-in_err-count-clause-filled
returns-in_err-count-clause-filled c =
    rw c.from_residual.ensures
    (λ g n h e.
    let a = c.loop-t.invariant.1 g n h e in
    adding-stops g _ _ _ h n _ _ _
    (adding-next g _ _ _ h _ c.loop-t-test.true n _ _ a _ _
    (c.in_err-count.ensures.by_index n a.now (long_of n _ _ a.now a.filled) a.filled (entry-small g _ _ _ h _ c.loop-t-test.true)))
    refl)

pub returns-clause-filled : goal.returns-clause-filled
returns-clause-filled c = λ g n h e. adding-ends g _ _ _ h n _ _ _ (c.loop-t.invariant.1 g n h e) c.loop-t-test.false
