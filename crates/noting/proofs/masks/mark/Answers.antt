use native.Mathlib.Omega.{arith}
use Rattle.noting.proofs.Marking.{head_small, head-place, marks-none, marks-more, marks-less, marks-all}
use Rattle.unions.specs.PlaceLaws.{row_small}
use Rattle.noting.proofs.masks.mark.Goals as goal
use Rattle.noting.proofs.masks.mark.Goals.{then-not-is_empty_at, else-not-is_empty_at}

pub loop-k-init : goal.loop-k-init
loop-k-init c = marks-none _ _ _ _ _ _

pub bounds-states-k : goal.bounds-states-k
bounds-states-k c = omega (arith, c.requires.0, c.requires.1, c.loop-k-test.true)

pub overflow_mul-head : goal.overflow_mul-head
overflow_mul-head c = omega (arith, row_small c.from.result _ (omega (arith, c.from.ensures)) c.requires.6)

pub overflow_add-head : goal.overflow_add-head
overflow_add-head c = omega (arith, row_small c.from.result _ (omega (arith, c.from.ensures)) c.requires.6, c.requires.7, c.requires.6)

pub overflow_mul-head-in-loop-k : goal.overflow_mul-head-in-loop-k
overflow_mul-head-in-loop-k c = omega (arith, head_small c.from.result _ c.args.letters c.args.c _ c.from.ensures (c.requires.2 _ (omega (arith, c.loop-k-test.true, c.requires.1))) c.requires.7 c.args.n c.requires.3 c.requires.4)

pub is_empty_at-requires : goal.is_empty_at-requires
is_empty_at-requires c = head-place _ _ _ _ _ c.from.ensures (c.requires.2 _ (omega (arith, c.loop-k-test.true, c.requires.1))) c.requires.7 _ _ c.requires.5

pub overflow_shl-set : goal.overflow_shl-set
overflow_shl-set c = omega (arith, c.loop-k-test.true, c.requires.1)

pub loop-k-preserved : goal.loop-k-preserved
loop-k-preserved c =
    elim c.if-not-is_empty_at.branch [
      | then-not-is_empty_at w ↦ marks-more _ _ _ _ _ _ _ _ c.loop-k.invariant c.loop-k-test.true c.requires.1 _ w.set-is
      | else-not-is_empty_at w ↦ marks-less _ _ _ _ _ _ _ _ c.loop-k.invariant c.loop-k-test.true c.requires.1 _ w.set-is _ c.from.ensures (c.is_empty_at.ensures w.if-not-is_empty_at.false)
    ]

pub returns : goal.returns
returns c =
    record {
      marked = marks-all _ _ _ _ _ _ _ _ c.loop-k-test.false c.loop-k.invariant;
      upper_bound = c.loop-k.invariant.small;
    }
