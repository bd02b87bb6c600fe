use native.Mathlib.Omega.{arith}
use Rattle.unions.proofs.Passes.{one-positive}
use Rattle.unions.proofs.Making.{made-first, made-small, made-room, made-less, made-on, made-last, head-within}
use Rattle.unions.specs.PlaceLaws.{one_shifted}
use Rattle.unions.specs.PoolLaws.{fits_on}
use Rattle.unions.proofs.lines.make_lines.Goals as goal

pub highest-top-requires : goal.highest-top-requires
highest-top-requires c = (c.requires.1, c.requires.2)

pub overflow_shl-rest : goal.overflow_shl-rest
overflow_shl-rest c = omega (arith, c.highest-top.ensures.small)

pub nonzero_rem-rest : goal.nonzero_rem-rest
nonzero_rem-rest c = one-positive _ c.highest-top.ensures.small

pub head_of-requires : goal.head_of-requires
head_of-requires c = (c.requires.0.long, omega (arith, c.highest-top.ensures.small), c.args.frame.now.few, c.requires.3)

pub room_after-requires : goal.room_after-requires
room_after-requires c = c.requires.4

pub loop-rest-init : goal.loop-rest-init
loop-rest-init c = made-first _ _ _ _ _ _ _ _ _ _ _ _ _ _ _ _ c.highest-top.ensures (one_shifted _ c.highest-top.ensures.small) c.requires.2 c.head_of.ensures (head-within _ _ _ _ _ _ _ _ c.requires.0 _ _ _ c.highest-top.ensures.small c.requires.3 c.head_of.ensures) c.requires.0.some c.room_after.ensures

pub highest-s-requires : goal.highest-s-requires
highest-s-requires c = (omega (arith, c.loop-rest-test.true), omega (arith, made-small _ _ _ _ _ _ _ _ _ _ _ _ c.loop-rest.invariant, c.requires.2))

pub overflow_shl-rest-in-loop-rest : goal.overflow_shl-rest-in-loop-rest
overflow_shl-rest-in-loop-rest c = omega (arith, c.highest-s.ensures.small)

pub nonzero_rem-rest-in-loop-rest : goal.nonzero_rem-rest-in-loop-rest
nonzero_rem-rest-in-loop-rest c = one-positive _ c.highest-s.ensures.small

pub overflow_sub-x : goal.overflow_sub-x
overflow_sub-x c = omega (arith, made-small _ _ _ _ _ _ _ _ _ _ _ _ c.loop-rest.invariant, made-less _ _ _ _ _ _ _ _ _ _ _ _ _ _ _ _ _ _ _ c.loop-rest.invariant c.requires.2 _ _ c.highest-s.ensures (one_shifted _ c.highest-s.ensures.small))

pub line_for-found-requires : goal.line_for-found-requires
line_for-found-requires c = (fits_on c.requires.0 c.loop-rest.invariant.areas c.loop-rest.invariant.keyed c.loop-rest.invariant.resting c.loop-rest.invariant.hinting, omega (arith, c.requires.2), c.highest-s.ensures.small, c.requires.3, made-room _ _ _ _ _ _ _ _ _ _ _ _ _ _ _ _ _ _ _ c.loop-rest.invariant c.requires.2 _ _ c.highest-s.ensures (one_shifted _ c.highest-s.ensures.small), c.loop-rest.invariant.placed)

pub loop-rest-smaller : goal.loop-rest-smaller
loop-rest-smaller c = made-less _ _ _ _ _ _ _ _ _ _ _ _ _ _ _ _ _ _ _ c.loop-rest.invariant c.requires.2 _ _ c.highest-s.ensures (one_shifted _ c.highest-s.ensures.small)

pub loop-rest-preserved : goal.loop-rest-preserved
loop-rest-preserved c = made-on _ _ _ _ _ _ _ _ _ _ _ _ _ _ _ _ _ _ _ c.loop-rest.invariant c.requires.2 _ _ c.highest-s.ensures (one_shifted _ c.highest-s.ensures.small) _ _ _ _ _ _ c.line_for-found.ensures.finding c.line_for-found.ensures.family_bound c.line_for-found.auto.all c.line_for-found.auto.keys c.line_for-found.auto.rests c.line_for-found.auto.hints c.requires.3

pub shape_of-all : goal.shape_of-all
shape_of-all c = c.loop-rest.invariant.areas

pub shape_of-keys : goal.shape_of-keys
shape_of-keys c = c.loop-rest.invariant.keyed

pub shape_of-rests : goal.shape_of-rests
shape_of-rests c = c.loop-rest.invariant.resting

pub shape_of-hints : goal.shape_of-hints
shape_of-hints c = c.loop-rest.invariant.hinting

pub returns : goal.returns
returns c =
    record {
      finds = made-last _ _ _ _ _ _ _ _ _ _ _ _ _ _ _ _ _ _ _ c.loop-rest-test.false c.loop-rest.invariant;
      family_bound = (c.loop-rest.invariant.placed, omega (arith, c.loop-rest.invariant.room));
    }
