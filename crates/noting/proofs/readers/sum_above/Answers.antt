use native.Mathlib.Omega.{arith}
use Rattle.game.specs.LowestLaws.{cleared-falls}
use Rattle.noting.proofs.ActiveRules.{summing-starts, summing_on, summing-ends}
use Rattle.noting.proofs.readers.sum_above.Goals as goal

pub loop-rest-init : goal.loop-rest-init
loop-rest-init c = summing-starts _ _ _

pub lowest_set-b-requires : goal.lowest_set-b-requires
lowest_set-b-requires c = omega (arith, c.loop-rest-test.true)

pub overflow_mul-b : goal.overflow_mul-b
overflow_mul-b c = omega (arith, c.lowest_set-b.ensures.small)

pub overflow_add-b : goal.overflow_add-b
overflow_add-b c = omega (arith, c.lowest_set-b.ensures.small)

pub join_at-requires : goal.join_at-requires
join_at-requires c = (omega (arith, c.requires.0, c.loop-rest.invariant.long), omega (arith, c.requires.1, c.lowest_set-b.ensures.small))

pub overflow_sub-rest : goal.overflow_sub-rest
overflow_sub-rest c = omega (arith, c.loop-rest-test.true)

pub loop-rest-smaller : goal.loop-rest-smaller
loop-rest-smaller c = cleared-falls _ (omega (arith, c.loop-rest-test.true))

pub loop-rest-preserved : goal.loop-rest-preserved
loop-rest-preserved c = summing_on _ _ _ _ _ _ _ c.loop-rest.invariant (omega (arith, c.loop-rest-test.true)) c.lowest_set-b.ensures c.join_at.ensures.joined c.join_at.auto.words

pub shape_of-sum : goal.shape_of-sum
shape_of-sum c = c.loop-rest.invariant.long

pub returns : goal.returns
returns c =
    record {
      summed = summing-ends _ _ _ _ _ c.loop-rest.invariant c.loop-rest-test.false;
    }
