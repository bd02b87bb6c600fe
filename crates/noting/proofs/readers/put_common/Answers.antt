use native.Mathlib.Omega.{arith}
use Rattle.noting.proofs.ActiveRules.{meeting-starts, meeting-on, meeting-ends}
use Rattle.noting.proofs.readers.put_common.Goals as goal

pub loop-w-init : goal.loop-w-init
loop-w-init c = meeting-starts _ _ _ _

pub offset_bounds-active-w : goal.offset_bounds-active-w
offset_bounds-active-w c = omega (arith, c.loop-w-test.true)

pub bounds-active-w : goal.bounds-active-w
bounds-active-w c = omega (arith, c.requires.3, c.loop-w.invariant.long, c.loop-w-test.true)

pub offset_bounds-some-w : goal.offset_bounds-some-w
offset_bounds-some-w c = omega (arith, c.loop-w-test.true)

pub bounds-some-w : goal.bounds-some-w
bounds-some-w c = omega (arith, c.requires.2, c.loop-w-test.true)

pub overflow_add-active : goal.overflow_add-active
overflow_add-active c = omega (arith, c.requires.0, c.loop-w-test.true)

pub offset_bounds-readers-at : goal.offset_bounds-readers-at
offset_bounds-readers-at c = omega (arith, c.requires.0, c.loop-w-test.true)

pub bounds-readers-at : goal.bounds-readers-at
bounds-readers-at c = omega (arith, c.requires.0, c.requires.1, c.loop-w-test.true)

pub offset_bounds-active-w-in-loop-w : goal.offset_bounds-active-w-in-loop-w
offset_bounds-active-w-in-loop-w c = omega (arith, c.loop-w-test.true)

pub bounds-active-w-in-loop-w : goal.bounds-active-w-in-loop-w
bounds-active-w-in-loop-w c = omega (arith, c.requires.3, c.loop-w.invariant.long, c.loop-w-test.true)

pub loop-w-preserved : goal.loop-w-preserved
loop-w-preserved c = meeting-on _ _ _ _ _ _ c.loop-w.invariant c.requires.3 c.loop-w-test.true

pub shape_of-active : goal.shape_of-active
shape_of-active c = c.loop-w.invariant.long

pub returns : goal.returns
returns c =
    record {
      met = meeting-ends _ _ _ _ _ _ c.loop-w.invariant c.loop-w-test.false;
    }
