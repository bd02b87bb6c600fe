use Prim.Native.Nat.{◌+◌}
use native.Mathlib.Omega.{arith}
use mathlib.Core.Path.{refl}
use lib.ListN.{length-set}
use lib.Bits.{or_self}
use Rattle.family.proofs.Within.{left-least, above-contains}
use Rattle.family.proofs.Into.{placed-starts, placed-skips, placed-more, placed-ends}
use Rattle.family.proofs.uniting.unite_with.Goals as goal
use Rattle.family.proofs.uniting.unite_with.Goals.{then-many-ne0, else-many-ne0}

pub loop-p-init : goal.loop-p-init
loop-p-init c = (refl, or_self _, λ r. placed-starts _ _ _ _ _ _ c.requires.4 c.requires.2)

pub gathered-many-requires : goal.gathered-many-requires
gathered-many-requires c = (omega (arith, c.requires.4, c.loop-p-test.true), c.loop-p.invariant.1, omega (arith, c.requires.1, c.loop-p-test.true))

pub offset_bounds-out-p : goal.offset_bounds-out-p
offset_bounds-out-p c = omega (arith, c.requires.4, c.loop-p-test.true)

pub bounds-out-p : goal.bounds-out-p
bounds-out-p c = omega (arith, c.requires.4, c.requires.0, c.loop-p.invariant.0, c.loop-p-test.true)

pub unite_by-requires : goal.unite_by-requires
unite_by-requires c = c.requires.3

pub offset_bounds-out-p-then-many-ne0 : goal.offset_bounds-out-p-then-many-ne0
offset_bounds-out-p-then-many-ne0 c = omega (arith, c.requires.4, c.loop-p-test.true)

pub bounds-out-p-then-many-ne0 : goal.bounds-out-p-then-many-ne0
bounds-out-p-then-many-ne0 c = omega (arith, c.requires.4, c.requires.0, c.loop-p.invariant.0, c.loop-p-test.true)

pub overflow_add-p : goal.overflow_add-p
overflow_add-p c = omega (arith, c.requires.4, c.loop-p-test.true)

pub loop-p-smaller : goal.loop-p-smaller
loop-p-smaller c = omega (arith, c.loop-p-test.true, left-least (c.loop-p.p + 1) c.args.i)

pub loop-p-preserved : goal.loop-p-preserved
loop-p-preserved c =
    let past = above-contains c.args.i c.loop-p.p (omega (arith, c.requires.2, c.requires.4)) (omega (arith, c.loop-p-test.true, c.requires.4)) in
    elim c.if-many-ne0.branch [
      | then-many-ne0 w ↦ rw w.out-is (rw length-set c.loop-p.invariant.0, past, λ r. placed-more _ _ _ _ _ _ c.requires.4 c.requires.2 _ _ (c.loop-p.invariant.2 r) c.loop-p.invariant.1 c.loop-p-test.true _ c.gathered-many.ensures (omega (arith, c.requires.4, c.requires.0, c.loop-p.invariant.0, c.loop-p-test.true)) _ (w.unite_by.ensures r))
      | else-many-ne0 w ↦ rw w.out-is (c.loop-p.invariant.0, past, λ r. placed-skips _ _ _ _ _ _ c.requires.4 c.requires.2 _ _ (c.loop-p.invariant.2 r) c.loop-p.invariant.1 c.loop-p-test.true _ c.gathered-many.ensures w.if-many-ne0.false)
    ]

pub shape_of-out : goal.shape_of-out
shape_of-out c = c.loop-p.invariant.0

pub returns : goal.returns
returns c =
    record {
      row = λ r. placed-ends _ _ _ _ _ _ c.requires.4 c.requires.2 _ _ (c.loop-p.invariant.2 r) c.loop-p-test.false;
    }
