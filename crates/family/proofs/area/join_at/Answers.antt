use native.Mathlib.Omega.{arith}
use mathlib.Core.Path.{refl}
use Rattle.family.proofs.Areas.{walk-starts, walk_here, walk-on, joined-all, joined-one}
use Rattle.family.proofs.area.join_at.Goals as goal

pub offset_bounds-words-to : goal.offset_bounds-words-to
offset_bounds-words-to c = omega arith

pub bounds-words-to : goal.bounds-words-to
bounds-words-to c = omega arith

pub offset_bounds-others-at : goal.offset_bounds-others-at
offset_bounds-others-at c = omega arith

pub bounds-others-at : goal.bounds-others-at
bounds-others-at c = omega arith

pub offset_bounds-words-to-then-n-eq1 : goal.offset_bounds-words-to-then-n-eq1
offset_bounds-words-to-then-n-eq1 c = omega arith

pub bounds-words-to-then-n-eq1 : goal.bounds-words-to-then-n-eq1
bounds-words-to-then-n-eq1 c = omega arith

pub returns-then-n-eq1 : goal.returns-then-n-eq1
returns-then-n-eq1 c =
    record {
      joined = joined-one _ _ _ _ _ c.if-n-eq1.true c.requires.0;
    }

pub loop-i-init : goal.loop-i-init
loop-i-init c = walk-starts _ _ _ _

pub overflow_add-words : goal.overflow_add-words
overflow_add-words c = omega arith

pub offset_bounds-words-to-in-loop-i : goal.offset_bounds-words-to-in-loop-i
offset_bounds-words-to-in-loop-i c = omega arith

pub bounds-words-to-in-loop-i : goal.bounds-words-to-in-loop-i
bounds-words-to-in-loop-i c = omega (arith, c.loop-i.invariant.long, c.requires, c.loop-i-test.true)

pub overflow_add-words-in-loop-i : goal.overflow_add-words-in-loop-i
overflow_add-words-in-loop-i c = omega arith

pub offset_bounds-others-at-in-loop-i : goal.offset_bounds-others-at-in-loop-i
offset_bounds-others-at-in-loop-i c = omega arith

pub bounds-others-at-in-loop-i : goal.bounds-others-at-in-loop-i
bounds-others-at-in-loop-i c = omega (arith, c.requires, c.loop-i-test.true)

pub overflow_add-words-in-loop-i-2 : goal.overflow_add-words-in-loop-i-2
overflow_add-words-in-loop-i-2 c = omega arith

pub offset_bounds-words-to-in-loop-i-2 : goal.offset_bounds-words-to-in-loop-i-2
offset_bounds-words-to-in-loop-i-2 c = omega arith

pub bounds-words-to-in-loop-i-2 : goal.bounds-words-to-in-loop-i-2
bounds-words-to-in-loop-i-2 c = omega (arith, c.loop-i.invariant.long, c.requires, c.loop-i-test.true)

pub loop-i-preserved : goal.loop-i-preserved
loop-i-preserved c = walk-on _ _ _ _ _ _ c.loop-i.invariant c.requires.0 c.loop-i-test.true _ (rw (walk_here _ _ _ _ _ _ c.loop-i.invariant) refl)

pub shape_of-words : goal.shape_of-words
shape_of-words c = c.loop-i.invariant.long

pub returns : goal.returns
returns c =
    record {
      joined = joined-all _ _ _ _ _ _ _ c.loop-i.invariant c.loop-i-test.false;
    }
