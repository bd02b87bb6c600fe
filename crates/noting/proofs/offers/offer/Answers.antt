use lib.ListN.{length-set}
use native.Mathlib.Omega.{arith}
use mathlib.Core.Path.{refl}
use Rattle.noting.proofs.Giving.{giving-starts, giving-full, giving-on, giving-none, giving-skips, giving-ends}
use Rattle.unions.specs.PlaceLaws.{place-small}
use Rattle.noting.proofs.offers.offer.Goals as goal
use Rattle.noting.proofs.offers.offer.Goals.{then-word-ne0+in_ok-entries, else-word-ne0}

pub loop-j-init : goal.loop-j-init
loop-j-init c = giving-starts _ _ _ _ _ _ _ _ _ _ _ c.requires.1

pub overflow_add-given : goal.overflow_add-given
overflow_add-given c = omega (arith, c.requires.3, c.requires.5, c.loop-j-test.true)

pub offset_bounds-d-at : goal.offset_bounds-d-at
offset_bounds-d-at c = omega (arith, c.requires.3, c.requires.5, c.loop-j-test.true)

pub bounds-d-at : goal.bounds-d-at
bounds-d-at c = omega (arith, c.requires.4, c.loop-j-test.true)

pub loop-j-preserved-then-given-eq0 : goal.loop-j-preserved-then-given-eq0
loop-j-preserved-then-given-eq0 c = giving-skips _ _ _ _ _ _ _ _ _ _ _ _ _ _ _ c.loop-j.invariant c.loop-j-test.true (omega (arith, c.requires.8, c.loop-j.invariant.areas)) c.if-given-eq0.true

pub overflow_mul-head : goal.overflow_mul-head
overflow_mul-head c = omega (arith, place-small c.args.head _ (omega (arith, c.requires.6)) c.requires.3)

pub overflow_add-head : goal.overflow_add-head
overflow_add-head c = omega (arith, place-small c.args.head _ (omega (arith, c.requires.6)) c.requires.3, c.requires.3, c.loop-j-test.true)

pub offset_bounds-all-head : goal.offset_bounds-all-head
offset_bounds-all-head c = omega (arith, place-small c.args.head _ (omega (arith, c.requires.6)) c.requires.3, c.requires.3, c.loop-j-test.true)

pub bounds-all-head : goal.bounds-all-head
bounds-all-head c = omega (arith, c.requires.7, c.loop-j-test.true)

pub overflow_mul-head-in-loop-j : goal.overflow_mul-head-in-loop-j
overflow_mul-head-in-loop-j c = omega (arith, place-small c.args.head _ (omega (arith, c.requires.6)) c.requires.3)

pub overflow_add-head-in-loop-j : goal.overflow_add-head-in-loop-j
overflow_add-head-in-loop-j c = omega (arith, place-small c.args.head _ (omega (arith, c.requires.6)) c.requires.3, c.requires.3, c.loop-j-test.true)

pub offset_bounds-added-head : goal.offset_bounds-added-head
offset_bounds-added-head c = omega (arith, place-small c.args.head _ (omega (arith, c.requires.6)) c.requires.3, c.requires.3, c.loop-j-test.true)

pub bounds-added-head : goal.bounds-added-head
bounds-added-head c = omega (arith, c.requires.8, c.loop-j-test.true, c.loop-j.invariant.areas)

pub overflow_mul-j : goal.overflow_mul-j
overflow_mul-j c = omega (arith, c.requires.3, c.loop-j-test.true)

pub note_word-requires : goal.note_word-requires
note_word-requires c = (omega (arith, c.requires.0, c.loop-j.invariant.same), c.loop-j.invariant.room, c.requires.2, omega (arith, c.requires.3, c.loop-j-test.true))

pub returns-in_err-entries-clause-by_index : goal.returns-in_err-entries-clause-by_index
returns-in_err-entries-clause-by_index c =
    λ el g es now b p a lay good asc ranged t ef lp la eh hold adding offered. rw c.from_residual.ensures (giving-full _ _ _ _ _ _ _ _ _ _ _ _ _ _ _ _ c.loop-j.invariant c.loop-j-test.true (omega (arith, c.requires.8, c.loop-j.invariant.areas)) c.unseen-word.ensures _ _ (rw c.in_err-entries.was at c.note_word.ensures.by_index) (omega arith) (omega arith) el g es now b p a lay good asc ranged t ef lp la eh hold adding offered _)

pub overflow_mul-added : goal.overflow_mul-added
overflow_mul-added c = omega (arith, place-small c.args.head _ (omega (arith, c.requires.6)) c.requires.3)

pub overflow_add-added : goal.overflow_add-added
overflow_add-added c = omega (arith, place-small c.args.head _ (omega (arith, c.requires.6)) c.requires.3, c.requires.3, c.loop-j-test.true)

pub offset_bounds-added-head-then-word-ne0 : goal.offset_bounds-added-head-then-word-ne0
offset_bounds-added-head-then-word-ne0 c = omega (arith, place-small c.args.head _ (omega (arith, c.requires.6)) c.requires.3, c.requires.3, c.loop-j-test.true)

pub bounds-added-head-then-word-ne0 : goal.bounds-added-head-then-word-ne0
bounds-added-head-then-word-ne0 c = omega (arith, c.requires.8, c.loop-j-test.true, c.loop-j.invariant.areas)

pub overflow_mul-added-then-word-ne0 : goal.overflow_mul-added-then-word-ne0
overflow_mul-added-then-word-ne0 c = omega (arith, place-small c.args.head _ (omega (arith, c.requires.6)) c.requires.3)

pub overflow_add-added-then-word-ne0 : goal.overflow_add-added-then-word-ne0
overflow_add-added-then-word-ne0 c = omega (arith, place-small c.args.head _ (omega (arith, c.requires.6)) c.requires.3, c.requires.3, c.loop-j-test.true)

pub offset_bounds-added-head-then-word-ne0-2 : goal.offset_bounds-added-head-then-word-ne0-2
offset_bounds-added-head-then-word-ne0-2 c = omega (arith, place-small c.args.head _ (omega (arith, c.requires.6)) c.requires.3, c.requires.3, c.loop-j-test.true)

pub bounds-added-head-then-word-ne0-2 : goal.bounds-added-head-then-word-ne0-2
bounds-added-head-then-word-ne0-2 c = omega (arith, c.requires.8, c.loop-j-test.true, c.loop-j.invariant.areas)

pub loop-j-preserved : goal.loop-j-preserved
loop-j-preserved c =
    elim c.if-word-ne0.branch [
      | then-word-ne0+in_ok-entries w ↦ rw (w.added-is, w.log-is, w.entries-is) (giving-on _ _ _ _ _ _ _ _ _ _ _ _ _ _ _ _ c.loop-j.invariant c.loop-j-test.true (omega (arith, c.requires.8, c.loop-j.invariant.areas)) c.unseen-word.ensures _ _ (rw w.in_ok-entries.was at w.note_word.ensures.by_index) _ (rw w.in_ok-entries.was at w.note_word.ensures.upper_bound) w.note_word.auto.log refl (simp length-set))
      | else-word-ne0 w ↦ rw (w.added-is, w.log-is, w.entries-is) (giving-none _ _ _ _ _ _ _ _ _ _ _ _ _ _ _ _ c.loop-j.invariant c.loop-j-test.true (omega (arith, c.requires.8, c.loop-j.invariant.areas)) c.unseen-word.ensures w.if-word-ne0.false)
    ]

pub shape_of-added : goal.shape_of-added
shape_of-added c = c.loop-j.invariant.areas

pub shape_of-log : goal.shape_of-log
shape_of-log c = c.loop-j.invariant.same

pub returns : goal.returns
returns c =
    record {
      by_index = giving-ends _ _ _ _ _ _ _ _ _ _ _ _ _ _ _ c.loop-j-test.false c.loop-j.invariant;
      upper_bound = omega (arith, c.loop-j.invariant.room);
    }
