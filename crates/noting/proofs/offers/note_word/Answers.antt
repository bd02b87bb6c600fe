use native.Mathlib.Omega.{arith}
use mathlib.Core.Logic.{inl}
use mathlib.Core.Path.{refl}
use Rattle.game.specs.LowestLaws.{cleared-falls}
use Rattle.noting.proofs.Offering.{words-start, words-full, words-on, words-end}
use Rattle.noting.proofs.offers.note_word.Goals as goal

pub loop-rest-init : goal.loop-rest-init
loop-rest-init c = words-start _ _ _ _ _ _ _ c.requires.1

pub lowest_set-s-requires : goal.lowest_set-s-requires
lowest_set-s-requires c = omega (arith, c.loop-rest-test.true)

pub shape_of-log-then-size-entries : goal.shape_of-log-then-size-entries
shape_of-log-then-size-entries c = c.loop-rest.invariant.same

pub returns-then-size-entries : goal.returns-then-size-entries
returns-then-size-entries c =
    record {
      by_index = (λ el g es now b p a ok good asc ranged t ef lp la offers. inl (refl, words-full _ _ _ _ _ _ _ _ _ _ _ c.loop-rest.invariant (omega (arith, c.loop-rest-test.true)) c.lowest_set-s.ensures c.if-size-entries.true el g es now b p a ok good asc ranged t ef lp la offers));
      upper_bound = tt;
    }

pub overflow_mul-entries : goal.overflow_mul-entries
overflow_mul-entries c = omega (arith, c.requires.2, c.if-size-entries.false)

pub overflow_add-from : goal.overflow_add-from
overflow_add-from c = omega (arith, c.requires.3, c.lowest_set-s.ensures.small)

pub overflow_cast-from : goal.overflow_cast-from
overflow_cast-from c = omega (arith, c.requires.3, c.lowest_set-s.ensures.small)

pub put_entry-requires : goal.put_entry-requires
put_entry-requires c = omega (arith, c.requires.0, c.if-size-entries.false, c.loop-rest.invariant.same)

pub overflow_add-entries : goal.overflow_add-entries
overflow_add-entries c = omega (arith, c.requires.2, c.if-size-entries.false)

pub overflow_sub-rest : goal.overflow_sub-rest
overflow_sub-rest c = omega (arith, c.loop-rest-test.true)

pub loop-rest-smaller : goal.loop-rest-smaller
loop-rest-smaller c = cleared-falls _ (omega (arith, c.loop-rest-test.true))

pub loop-rest-preserved : goal.loop-rest-preserved
loop-rest-preserved c = words-on _ _ _ _ _ _ _ _ _ _ _ c.loop-rest.invariant (omega (arith, c.loop-rest-test.true)) c.lowest_set-s.ensures _ (omega (arith, c.if-size-entries.false)) c.requires.0 c.put_entry.ensures.table_after c.put_entry.auto.table

pub shape_of-log : goal.shape_of-log
shape_of-log c = c.loop-rest.invariant.same

pub returns : goal.returns
returns c =
    record {
      by_index = words-end _ _ _ _ _ _ _ _ _ _ c.loop-rest-test.false c.loop-rest.invariant;
      upper_bound = omega (arith, c.loop-rest.invariant.room);
    }
