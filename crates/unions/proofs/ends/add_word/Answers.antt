use native.Mathlib.Omega.{arith}
use Rattle.game.specs.LowestLaws.{cleared-falls}
use Rattle.unions.specs.PlaceLaws.{place-small}
use Rattle.unions.specs.PoolLaws.{fits_on}
use Rattle.unions.proofs.Making.{within-area}
use Rattle.unions.proofs.Summing.{wording-starts, wording-on, wording-ends, some-set}
use Rattle.unions.proofs.ends.add_word.Goals as goal

pub loop-rest-init : goal.loop-rest-init
loop-rest-init c = wording-starts _ _ _ _ _ _ _ _ _ _ _ _ _ _ c.requires.2

pub lowest_set-s-requires : goal.lowest_set-s-requires
lowest_set-s-requires c = omega (arith, c.loop-rest-test.true)

pub overflow_add-from : goal.overflow_add-from
overflow_add-from c = omega (arith, c.requires.4, c.lowest_set-s.ensures.small)

pub family_of-found-requires : goal.family_of-found-requires
family_of-found-requires c = (fits_on c.requires.0 c.loop-rest.invariant.areas c.loop-rest.invariant.keyed c.loop-rest.invariant.resting c.loop-rest.invariant.hinting, some-set _ _ _ _ c.requires.5 c.loop-rest.invariant.left c.lowest_set-s.ensures, omega (arith, c.requires.4, c.lowest_set-s.ensures.small), c.requires.1, omega (arith, c.loop-rest.invariant.room, c.loop-rest.invariant.keyed))

pub overflow_mul-found : goal.overflow_mul-found
overflow_mul-found c = (let few = c.requires.0.few in let most = c.requires.0.most in omega (arith, place-small c.family_of-found.result.family _ (omega (arith, few, most, c.family_of-found.ensures.family_bound, c.loop-rest.invariant.keyed)) c.requires.0.words))

pub join_at-requires : goal.join_at-requires
join_at-requires c = (omega (arith, c.requires.3, c.loop-rest.invariant.mores), omega (arith, within-area _ _ _ _ _ _ _ _ c.requires.0 c.family_of-found.result.family c.family_of-found.result.count c.family_of-found.ensures.family_bound.0 (omega (arith, c.family_of-found.ensures.family_bound.1, c.loop-rest.invariant.keyed)), c.loop-rest.invariant.areas, c.family_of-found.auto.all))

pub overflow_sub-rest : goal.overflow_sub-rest
overflow_sub-rest c = omega (arith, c.loop-rest-test.true)

pub loop-rest-smaller : goal.loop-rest-smaller
loop-rest-smaller c = cleared-falls _ (omega (arith, c.loop-rest-test.true))

pub loop-rest-preserved : goal.loop-rest-preserved
loop-rest-preserved c = wording-on _ _ _ _ _ _ _ _ _ _ _ _ _ _ _ _ _ _ _ _ _ _ _ _ _ _ _ _ _ c.loop-rest.invariant (omega (arith, c.loop-rest-test.true)) c.lowest_set-s.ensures c.requires.1 c.family_of-found.ensures.finds c.family_of-found.ensures.family_bound.1 c.join_at.ensures.joined c.join_at.auto.words c.family_of-found.auto.all c.family_of-found.auto.keys c.family_of-found.auto.rests c.family_of-found.auto.hints

pub shape_of-more : goal.shape_of-more
shape_of-more c = c.loop-rest.invariant.mores

pub shape_of-all : goal.shape_of-all
shape_of-all c = c.loop-rest.invariant.areas

pub shape_of-keys : goal.shape_of-keys
shape_of-keys c = c.loop-rest.invariant.keyed

pub shape_of-rests : goal.shape_of-rests
shape_of-rests c = c.loop-rest.invariant.resting

pub shape_of-hints : goal.shape_of-hints
shape_of-hints c = c.loop-rest.invariant.hinting

pub returns : goal.returns
returns c =
    record {
      by_index = wording-ends _ _ _ _ _ _ _ _ _ _ _ _ _ _ _ _ _ _ _ _ _ c.loop-rest-test.false c.loop-rest.invariant;
      upper_bound = c.loop-rest.invariant.room;
    }
