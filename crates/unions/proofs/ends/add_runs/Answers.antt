use native.Mathlib.Omega.{arith}
use Rattle.unions.proofs.Making.{within-area}
use Rattle.unions.proofs.Choosing.{running-starts, running-on, running-skips, running-ends}
use Rattle.unions.specs.PlaceLaws.{place-small}
use Rattle.unions.specs.PoolLaws.{fits_on}
use Rattle.unions.proofs.ends.add_runs.Goals as goal

pub overflow_mul-at : goal.overflow_mul-at
overflow_mul-at c = (let few = c.requires.0.few in omega (arith, place-small c.args.head _ (omega (arith, few, c.requires.4)) c.requires.0.words))

pub loop-j-init : goal.loop-j-init
loop-j-init c = running-starts _ _ _ _ _ _ _ _ _ _ _ _ _ _ _ _ c.requires.2

pub overflow_add-old : goal.overflow_add-old
overflow_add-old c = (let few = c.requires.0.few in omega (arith, place-small c.args.head _ (omega (arith, few, c.requires.4)) c.requires.0.words, c.loop-j-test.true))

pub offset_bounds-all-at : goal.offset_bounds-all-at
offset_bounds-all-at c = (let few = c.requires.0.few in omega (arith, place-small c.args.head _ (omega (arith, few, c.requires.4)) c.requires.0.words, c.loop-j-test.true))

pub bounds-all-at : goal.bounds-all-at
bounds-all-at c = omega (arith, within-area _ _ _ _ _ _ _ _ c.requires.0 c.args.head 0 (omega (arith, c.requires.4)) (omega arith), c.loop-j-test.true, c.loop-j.invariant.areas)

pub overflow_add-young : goal.overflow_add-young
overflow_add-young c = (let few = c.requires.0.few in omega (arith, place-small c.args.head _ (omega (arith, few, c.requires.4)) c.requires.0.words, c.loop-j-test.true))

pub offset_bounds-new-at : goal.offset_bounds-new-at
offset_bounds-new-at c = (let few = c.requires.0.few in omega (arith, place-small c.args.head _ (omega (arith, few, c.requires.4)) c.requires.0.words, c.loop-j-test.true))

pub bounds-new-at : goal.bounds-new-at
bounds-new-at c = omega (arith, within-area _ _ _ _ _ _ _ _ c.requires.0 c.args.head 0 (omega (arith, c.requires.4)) (omega arith), c.loop-j-test.true, c.requires.5)

pub loop-j-preserved-then-old-young-eq0 : goal.loop-j-preserved-then-old-young-eq0
loop-j-preserved-then-old-young-eq0 c = running-skips _ _ _ _ _ _ _ _ _ _ _ _ _ _ _ _ _ _ _ _ _ _ _ c.loop-j.invariant c.loop-j-test.true c.requires.4 c.if-old-young-eq0.true c.loop-j.invariant.keyed

pub picked-word-requires : goal.picked-word-requires
picked-word-requires c = (omega (arith, c.loop-j-test.true, c.requires.0.words), c.requires.6, c.requires.7, c.args.frame.now.masks)

pub overflow_mul-j : goal.overflow_mul-j
overflow_mul-j c = omega (arith, c.loop-j-test.true, c.requires.0.words)

pub add_word-lines-requires : goal.add_word-lines-requires
add_word-lines-requires c = (fits_on c.requires.0 c.loop-j.invariant.areas c.loop-j.invariant.keyed c.loop-j.invariant.resting c.loop-j.invariant.hinting, c.requires.1, omega (arith, c.loop-j.invariant.room, c.loop-j.invariant.keyed), omega (arith, c.requires.3, c.loop-j.invariant.mores), omega (arith, c.loop-j-test.true, c.requires.0.words), c.picked-word.ensures.result_value)

pub loop-j-preserved : goal.loop-j-preserved
loop-j-preserved c = running-on _ _ _ _ _ _ _ _ _ _ _ _ _ _ _ _ _ _ _ _ _ _ _ _ _ _ _ _ _ _ c.loop-j.invariant c.loop-j-test.true c.requires.4 c.picked-word.ensures.variant c.add_word-lines.ensures.by_index c.add_word-lines.ensures.upper_bound c.add_word-lines.auto.more c.add_word-lines.auto.all c.add_word-lines.auto.keys c.add_word-lines.auto.rests c.add_word-lines.auto.hints

pub shape_of-more : goal.shape_of-more
shape_of-more c = c.loop-j.invariant.mores

pub shape_of-all : goal.shape_of-all
shape_of-all c = c.loop-j.invariant.areas

pub shape_of-keys : goal.shape_of-keys
shape_of-keys c = c.loop-j.invariant.keyed

pub shape_of-rests : goal.shape_of-rests
shape_of-rests c = c.loop-j.invariant.resting

pub shape_of-hints : goal.shape_of-hints
shape_of-hints c = c.loop-j.invariant.hinting

pub returns : goal.returns
returns c =
    record {
      by_index = running-ends _ _ _ _ _ _ _ _ _ _ _ _ _ _ _ _ _ _ _ _ _ _ _ c.loop-j-test.false c.loop-j.invariant;
      upper_bound = c.loop-j.invariant.room;
    }
