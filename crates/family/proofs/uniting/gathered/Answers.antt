use native.Mathlib.Omega.{arith}
use Prim.Native.Nat.{◌-◌}
use lib.Bits.{and_le_l, and_le_r}
use Rattle.family.proofs.Within.{contained}
use Rattle.family.proofs.Into.{gathering-starts, gathering-more, gathering-ends}
use Rattle.family.proofs.uniting.gathered.Goals as goal

pub overflow_add-sum : goal.overflow_add-sum
overflow_add-sum c = omega (arith, c.requires.2, c.well_formed)

pub overflow_sub-sum : goal.overflow_sub-sum
overflow_sub-sum c = omega (arith, contained c.args.i c.args.p c.requires.1)

pub offset_bounds-a-at : goal.offset_bounds-a-at
offset_bounds-a-at c = omega (arith, c.requires.2, c.well_formed)

pub bounds-a-at : goal.bounds-a-at
bounds-a-at c = omega (arith, c.requires.2)

pub loop-s-init : goal.loop-s-init
loop-s-init c = gathering-starts _ _ _ _ c.requires.0 c.requires.1

pub overflow_sub-s : goal.overflow_sub-s
overflow_sub-s c = omega (arith, c.loop-s-test.true)

pub overflow_add-sum-in-loop-s : goal.overflow_add-sum-in-loop-s
overflow_add-sum-in-loop-s c = omega (arith, c.requires.2, c.well_formed)

pub overflow_sub-sum-in-loop-s : goal.overflow_sub-sum-in-loop-s
overflow_sub-sum-in-loop-s c = omega (arith, and_le_r (c.loop-s.s - 1) c.args.i, contained c.args.i c.args.p c.requires.1)

pub offset_bounds-a-at-in-loop-s : goal.offset_bounds-a-at-in-loop-s
offset_bounds-a-at-in-loop-s c = omega (arith, c.requires.2, c.well_formed)

pub bounds-a-at-in-loop-s : goal.bounds-a-at-in-loop-s
bounds-a-at-in-loop-s c = omega (arith, c.requires.2)

pub loop-s-smaller : goal.loop-s-smaller
loop-s-smaller c = omega (arith, and_le_l (c.loop-s.s - 1) c.args.i, c.loop-s-test.true)

pub loop-s-preserved : goal.loop-s-preserved
loop-s-preserved c = gathering-more _ _ _ _ c.requires.0 c.requires.1 _ _ c.loop-s.invariant (omega (arith, c.loop-s-test.true))

pub returns : goal.returns
returns c = gathering-ends _ _ _ _ c.requires.0 c.requires.1 _ _ c.loop-s.invariant (omega (arith, c.loop-s-test.false))
