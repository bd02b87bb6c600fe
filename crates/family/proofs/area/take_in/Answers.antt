use native.Mathlib.Omega.{arith}
use mathlib.Core.Path.{refl}
use Rattle.family.proofs.Areas.{walk-starts, walk_here, walk-on, taken-all, taken-one}
use Rattle.family.proofs.area.take_in.Goals as goal

pub bounds-d-0 : goal.bounds-d-0
bounds-d-0 c = omega arith

pub bounds-d-0-then-n-eq1 : goal.bounds-d-0-then-n-eq1
bounds-d-0-then-n-eq1 c = omega arith

pub offset_bounds-all-to : goal.offset_bounds-all-to
offset_bounds-all-to c = omega arith

pub bounds-all-to : goal.bounds-all-to
bounds-all-to c = omega arith

pub offset_bounds-new-to : goal.offset_bounds-new-to
offset_bounds-new-to c = omega arith

pub bounds-new-to : goal.bounds-new-to
bounds-new-to c = omega arith

pub offset_bounds-all-to-then-n-eq1 : goal.offset_bounds-all-to-then-n-eq1
offset_bounds-all-to-then-n-eq1 c = omega arith

pub bounds-all-to-then-n-eq1 : goal.bounds-all-to-then-n-eq1
bounds-all-to-then-n-eq1 c = omega arith

pub offset_bounds-all-to-then-n-eq1-2 : goal.offset_bounds-all-to-then-n-eq1-2
offset_bounds-all-to-then-n-eq1-2 c = omega arith

pub bounds-all-to-then-n-eq1-2 : goal.bounds-all-to-then-n-eq1-2
bounds-all-to-then-n-eq1-2 c = omega arith

pub returns-then-n-eq1 : goal.returns-then-n-eq1
returns-then-n-eq1 c =
    record {
      taken_in = taken-one _ _ _ _ _ c.if-n-eq1.true c.requires.0 c.requires.1;
    }

pub loop-t-init : goal.loop-t-init
loop-t-init c = (walk-starts _ _ _ _, walk-starts _ _ _ _)

pub offset_bounds-d-t : goal.offset_bounds-d-t
offset_bounds-d-t c = omega (arith, c.requires, c.loop-t-test.true)

pub bounds-d-t : goal.bounds-d-t
bounds-d-t c = omega (arith, c.requires, c.loop-t-test.true)

pub offset_bounds-d-t-in-loop-t : goal.offset_bounds-d-t-in-loop-t
offset_bounds-d-t-in-loop-t c = omega (arith, c.requires, c.loop-t-test.true)

pub bounds-d-t-in-loop-t : goal.bounds-d-t-in-loop-t
bounds-d-t-in-loop-t c = omega (arith, c.requires, c.loop-t-test.true)

pub overflow_add-v : goal.overflow_add-v
overflow_add-v c = omega (arith, c.requires, c.loop-t-test.true)

pub offset_bounds-all-to-in-loop-t : goal.offset_bounds-all-to-in-loop-t
offset_bounds-all-to-in-loop-t c = omega (arith, c.requires, c.loop-t-test.true)

pub bounds-all-to-in-loop-t : goal.bounds-all-to-in-loop-t
bounds-all-to-in-loop-t c = omega (arith, c.requires, c.loop-t.invariant.0.long, c.loop-t-test.true)

pub overflow_add-new : goal.overflow_add-new
overflow_add-new c = omega (arith, c.requires, c.loop-t-test.true)

pub offset_bounds-new-to-in-loop-t : goal.offset_bounds-new-to-in-loop-t
offset_bounds-new-to-in-loop-t c = omega (arith, c.requires, c.loop-t-test.true)

pub bounds-new-to-in-loop-t : goal.bounds-new-to-in-loop-t
bounds-new-to-in-loop-t c = omega (arith, c.requires, c.loop-t.invariant.1.long, c.loop-t-test.true)

pub overflow_add-all : goal.overflow_add-all
overflow_add-all c = omega (arith, c.requires, c.loop-t-test.true)

pub offset_bounds-all-to-in-loop-t-2 : goal.offset_bounds-all-to-in-loop-t-2
offset_bounds-all-to-in-loop-t-2 c = omega (arith, c.requires, c.loop-t-test.true)

pub bounds-all-to-in-loop-t-2 : goal.bounds-all-to-in-loop-t-2
bounds-all-to-in-loop-t-2 c = omega (arith, c.requires, c.loop-t.invariant.0.long, c.loop-t-test.true)

pub overflow_add-all-in-loop-t : goal.overflow_add-all-in-loop-t
overflow_add-all-in-loop-t c = omega (arith, c.requires, c.loop-t-test.true)

pub offset_bounds-all-to-in-loop-t-3 : goal.offset_bounds-all-to-in-loop-t-3
offset_bounds-all-to-in-loop-t-3 c = omega (arith, c.requires, c.loop-t-test.true)

pub bounds-all-to-in-loop-t-3 : goal.bounds-all-to-in-loop-t-3
bounds-all-to-in-loop-t-3 c = omega (arith, c.requires, c.loop-t.invariant.0.long, c.loop-t-test.true)

pub loop-t-preserved : goal.loop-t-preserved
loop-t-preserved c = (
  walk-on _ _ _ _ _ _ c.loop-t.invariant.0 c.requires.0 c.loop-t-test.true _ (rw (walk_here _ _ _ _ _ _ c.loop-t.invariant.0) refl),
  walk-on _ _ _ _ _ _ c.loop-t.invariant.1 c.requires.1 c.loop-t-test.true _ (rw (walk_here _ _ _ _ _ _ c.loop-t.invariant.0) refl),
)

pub shape_of-all : goal.shape_of-all
shape_of-all c = c.loop-t.invariant.0.long

pub shape_of-new : goal.shape_of-new
shape_of-new c = c.loop-t.invariant.1.long

pub returns : goal.returns
returns c =
    record {
      taken_in = taken-all _ _ _ _ _ _ _ _ c.loop-t.invariant.0 c.loop-t.invariant.1 c.loop-t-test.false;
    }
