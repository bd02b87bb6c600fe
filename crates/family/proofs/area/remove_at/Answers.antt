use native.Mathlib.Omega.{arith}
use mathlib.Core.Path.{refl}
use Rattle.family.proofs.Areas.{walk-starts, walk_here, walk-on, without_all}
use Rattle.family.proofs.area.remove_at.Goals as goal

pub loop-i-init : goal.loop-i-init
loop-i-init c = walk-starts _ _ _ _

pub overflow_add-words : goal.overflow_add-words
overflow_add-words c = omega arith

pub offset_bounds-words-to : goal.offset_bounds-words-to
offset_bounds-words-to c = omega arith

pub bounds-words-to : goal.bounds-words-to
bounds-words-to c = omega arith

pub overflow_add-words-in-loop-i : goal.overflow_add-words-in-loop-i
overflow_add-words-in-loop-i c = omega arith

pub offset_bounds-words-to-in-loop-i : goal.offset_bounds-words-to-in-loop-i
offset_bounds-words-to-in-loop-i c = omega arith

pub bounds-words-to-in-loop-i : goal.bounds-words-to-in-loop-i
bounds-words-to-in-loop-i c = omega arith

pub overflow_add-words-in-loop-i-2 : goal.overflow_add-words-in-loop-i-2
overflow_add-words-in-loop-i-2 c = omega arith

pub offset_bounds-others-at : goal.offset_bounds-others-at
offset_bounds-others-at c = omega arith

pub bounds-others-at : goal.bounds-others-at
bounds-others-at c = omega arith

pub overflow_add-words-in-loop-i-3 : goal.overflow_add-words-in-loop-i-3
overflow_add-words-in-loop-i-3 c = omega arith

pub offset_bounds-words-to-in-loop-i-2 : goal.offset_bounds-words-to-in-loop-i-2
offset_bounds-words-to-in-loop-i-2 c = omega arith

pub bounds-words-to-in-loop-i-2 : goal.bounds-words-to-in-loop-i-2
bounds-words-to-in-loop-i-2 c = omega arith

pub loop-i-preserved : goal.loop-i-preserved
loop-i-preserved c = walk-on _ _ _ _ _ _ c.loop-i.invariant c.requires.0 c.loop-i-test.true _ (rw (walk_here _ _ _ _ _ _ c.loop-i.invariant) refl)

pub shape_of-words : goal.shape_of-words
shape_of-words c = c.loop-i.invariant.long

pub returns : goal.returns
returns c =
    record {
      without = without_all _ _ _ _ _ _ _ c.loop-i.invariant c.loop-i-test.false;
    }
