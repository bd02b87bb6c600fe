use mathlib.Core.Path.{refl}
use borrow.Author.Rules.{rules}
use native.Mathlib.Omega.{arith}
use lib.ListN.{length-set}
use Rattle.family.proofs.Areas.{walk-starts, walk-on, copied, copied_all, copied-one, copied-two, copied-four}
use Rattle.family.proofs.area.copy_at.Goals as goal

pub offset_bounds-others-at : goal.offset_bounds-others-at
offset_bounds-others-at c = omega arith

pub bounds-others-at : goal.bounds-others-at
bounds-others-at c = omega arith

pub offset_bounds-words-to : goal.offset_bounds-words-to
offset_bounds-words-to c = omega arith

pub bounds-words-to : goal.bounds-words-to
bounds-words-to c = omega arith

pub returns-then-n-eq1 : goal.returns-then-n-eq1
returns-then-n-eq1 c =
    record {
      copied = copied-one _ _ _ _ _ c.if-n-eq1.true c.requires.0;
    }

pub offset_bounds-others-at-then-n-eq2 : goal.offset_bounds-others-at-then-n-eq2
offset_bounds-others-at-then-n-eq2 c = omega arith

pub bounds-others-at-then-n-eq2 : goal.bounds-others-at-then-n-eq2
bounds-others-at-then-n-eq2 c = omega (arith, c.requires, c.if-n-eq2.true)

pub offset_bounds-words-to-then-n-eq2 : goal.offset_bounds-words-to-then-n-eq2
offset_bounds-words-to-then-n-eq2 c = omega arith

pub bounds-words-to-then-n-eq2 : goal.bounds-words-to-then-n-eq2
bounds-words-to-then-n-eq2 c = omega (arith, c.if-n-eq2.true, c.requires)

pub overflow_add-words : goal.overflow_add-words
overflow_add-words c = omega arith

pub offset_bounds-others-at-then-n-eq2-2 : goal.offset_bounds-others-at-then-n-eq2-2
offset_bounds-others-at-then-n-eq2-2 c = omega arith

pub bounds-others-at-then-n-eq2-2 : goal.bounds-others-at-then-n-eq2-2
bounds-others-at-then-n-eq2-2 c = omega (arith, c.requires, c.if-n-eq2.true)

pub overflow_add-words-then-n-eq2 : goal.overflow_add-words-then-n-eq2
overflow_add-words-then-n-eq2 c = omega arith

pub offset_bounds-words-to-then-n-eq2-2 : goal.offset_bounds-words-to-then-n-eq2-2
offset_bounds-words-to-then-n-eq2-2 c = omega arith

pub bounds-words-to-then-n-eq2-2 : goal.bounds-words-to-then-n-eq2-2
bounds-words-to-then-n-eq2-2 c = rw length-set (omega (arith, c.if-n-eq2.true, c.requires))

pub returns-then-n-eq2 : goal.returns-then-n-eq2
returns-then-n-eq2 c =
    record {
      copied = copied-two _ _ _ _ _ c.if-n-eq2.true c.requires.0;
    }

pub offset_bounds-others-at-then-n-eq4 : goal.offset_bounds-others-at-then-n-eq4
offset_bounds-others-at-then-n-eq4 c = omega arith

pub bounds-others-at-then-n-eq4 : goal.bounds-others-at-then-n-eq4
bounds-others-at-then-n-eq4 c = omega (arith, c.requires, c.if-n-eq4.true)

pub offset_bounds-words-to-then-n-eq4 : goal.offset_bounds-words-to-then-n-eq4
offset_bounds-words-to-then-n-eq4 c = omega arith

pub bounds-words-to-then-n-eq4 : goal.bounds-words-to-then-n-eq4
bounds-words-to-then-n-eq4 c = omega (arith, c.if-n-eq4.true, c.requires)

pub overflow_add-words-then-n-eq4 : goal.overflow_add-words-then-n-eq4
overflow_add-words-then-n-eq4 c = omega arith

pub offset_bounds-others-at-then-n-eq4-2 : goal.offset_bounds-others-at-then-n-eq4-2
offset_bounds-others-at-then-n-eq4-2 c = omega arith

pub bounds-others-at-then-n-eq4-2 : goal.bounds-others-at-then-n-eq4-2
bounds-others-at-then-n-eq4-2 c = omega (arith, c.requires, c.if-n-eq4.true)

pub overflow_add-words-then-n-eq4-2 : goal.overflow_add-words-then-n-eq4-2
overflow_add-words-then-n-eq4-2 c = omega arith

pub offset_bounds-words-to-then-n-eq4-2 : goal.offset_bounds-words-to-then-n-eq4-2
offset_bounds-words-to-then-n-eq4-2 c = omega arith

pub bounds-words-to-then-n-eq4-2 : goal.bounds-words-to-then-n-eq4-2
bounds-words-to-then-n-eq4-2 c = rw length-set (omega (arith, c.if-n-eq4.true, c.requires))

pub overflow_add-words-then-n-eq4-3 : goal.overflow_add-words-then-n-eq4-3
overflow_add-words-then-n-eq4-3 c = omega arith

pub offset_bounds-others-at-then-n-eq4-3 : goal.offset_bounds-others-at-then-n-eq4-3
offset_bounds-others-at-then-n-eq4-3 c = omega arith

pub bounds-others-at-then-n-eq4-3 : goal.bounds-others-at-then-n-eq4-3
bounds-others-at-then-n-eq4-3 c = omega (arith, c.requires, c.if-n-eq4.true)

pub overflow_add-words-then-n-eq4-4 : goal.overflow_add-words-then-n-eq4-4
overflow_add-words-then-n-eq4-4 c = omega arith

pub offset_bounds-words-to-then-n-eq4-3 : goal.offset_bounds-words-to-then-n-eq4-3
offset_bounds-words-to-then-n-eq4-3 c = omega arith

pub bounds-words-to-then-n-eq4-3 : goal.bounds-words-to-then-n-eq4-3
bounds-words-to-then-n-eq4-3 c = rw (length-set, length-set) (omega (arith, c.if-n-eq4.true, c.requires))

pub overflow_add-words-then-n-eq4-5 : goal.overflow_add-words-then-n-eq4-5
overflow_add-words-then-n-eq4-5 c = omega arith

pub offset_bounds-others-at-then-n-eq4-4 : goal.offset_bounds-others-at-then-n-eq4-4
offset_bounds-others-at-then-n-eq4-4 c = omega arith

pub bounds-others-at-then-n-eq4-4 : goal.bounds-others-at-then-n-eq4-4
bounds-others-at-then-n-eq4-4 c = omega (arith, c.requires, c.if-n-eq4.true)

pub overflow_add-words-then-n-eq4-6 : goal.overflow_add-words-then-n-eq4-6
overflow_add-words-then-n-eq4-6 c = omega arith

pub offset_bounds-words-to-then-n-eq4-4 : goal.offset_bounds-words-to-then-n-eq4-4
offset_bounds-words-to-then-n-eq4-4 c = omega arith

pub bounds-words-to-then-n-eq4-4 : goal.bounds-words-to-then-n-eq4-4
bounds-words-to-then-n-eq4-4 c = rw (length-set, length-set, length-set) (omega (arith, c.if-n-eq4.true, c.requires))

pub returns-then-n-eq4 : goal.returns-then-n-eq4
returns-then-n-eq4 c =
    record {
      copied = copied-four _ _ _ _ _ c.if-n-eq4.true c.requires.0;
    }

pub loop-i-init : goal.loop-i-init
loop-i-init c = walk-starts _ _ _ _

pub overflow_add-words-in-loop-i : goal.overflow_add-words-in-loop-i
overflow_add-words-in-loop-i c = omega arith

pub offset_bounds-others-at-in-loop-i : goal.offset_bounds-others-at-in-loop-i
offset_bounds-others-at-in-loop-i c = omega arith

pub bounds-others-at-in-loop-i : goal.bounds-others-at-in-loop-i
bounds-others-at-in-loop-i c = omega (arith, c.requires, c.loop-i-test.true)

pub overflow_add-words-in-loop-i-2 : goal.overflow_add-words-in-loop-i-2
overflow_add-words-in-loop-i-2 c = omega arith

pub offset_bounds-words-to-in-loop-i : goal.offset_bounds-words-to-in-loop-i
offset_bounds-words-to-in-loop-i c = omega arith

pub bounds-words-to-in-loop-i : goal.bounds-words-to-in-loop-i
bounds-words-to-in-loop-i c = omega (arith, c.loop-i.invariant.long, c.requires, c.loop-i-test.true)

pub loop-i-preserved : goal.loop-i-preserved
loop-i-preserved c = walk-on _ _ _ _ _ _ c.loop-i.invariant c.requires.0 c.loop-i-test.true _ refl

pub returns : goal.returns
returns c =
    record {
      copied = copied_all _ _ _ _ _ _ _ c.loop-i.invariant c.loop-i-test.false;
    }
