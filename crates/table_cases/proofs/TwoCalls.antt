-- Question 13 of the parts of a table, as answers: what the call over the first part refuses is refused, and where it is done the call over
-- the second answers for the whole.
use Prim.Native.Nat.{ℕ, ◌+◌, ◌*◌, ◌-◌, ◌/◌, ◌<◌, ◌≤◌}
use native.Mathlib.Omega.{arith}
use mathlib.Core.Path.{◌≡◌, refl, sym, ◌∙◌, ap}
use mathlib.Core.Bool.{true}
use mathlib.Core.List.{List}
use lib.ListN.{length, take, drop, length-drop}
use lib.Seq.{length-take-le}
use borrow.Author.Rules.{part_to_end}
use Rattle.std.specs.Prelude.{Result, Ok, Err}
use Rattle.game.specs.Game.{PushdownGame}
use Rattle.game.specs.Limits.{max_entries}
use Rattle.game.specs.Outcome.{Outcome, after, said}
use Rattle.game.specs.declared.refusal.Refusal.{Refusal}
use Rattle.table.proofs.CutLaws.{few-entries, cut_at}
use Rattle.table.specs.Rows.{words_at, no_words}
use Rattle.table.specs.Table.{entry_stride, length_in_form, form_from, table_form}
use Rattle.table.specs.declared.entry.EntryWords.{EntryWords}

-- a refusal is the answer of the whole, whatever comes after it
stays : (a : Result (Unit {0}) Refusal) (e : Refusal) → a ≡ Err e → (next : Unit {0} → Outcome (Unit {0})) → after (said a) next ≡ said a
unfolding after
stays a e d next = rw d refl

passed : (a : Result (Unit {0}) Refusal) (x : Unit {0}) → a ≡ Ok x → (next : Unit {0} → Outcome (Unit {0})) → after (said a) next ≡ next tt
unfolding after
passed a x d next = rw d refl

module _ (words : List ℕ) (k : ℕ) (form : length_in_form (length words) ≡ true) (pos : 0 < k) (within : k * entry_stride ≤ length words) where
  -- the parts have no more entries than a table may have
  pub few-before : 0 + length (take (k * entry_stride) words) / entry_stride ≤ max_entries
  few-before =
      let n = length-take-le (k * entry_stride) words within in
      omega (arith, few-entries _ form)

  pub few-after : k + length (take (length words - k * entry_stride) (drop (k * entry_stride) words)) / entry_stride ≤ max_entries
  few-after =
      let n = ap length (part_to_end words (k * entry_stride)) ∙ length-drop (k * entry_stride) words in
      omega (arith, few-entries _ form)

  module _ (g : PushdownGame) (none : EntryWords) (unused : none ≡ no_words) (first : Result (Unit {0}) Refusal)
      (told : said first ≡ form_from g 0 none.first none.set none.rule (take (k * entry_stride) words)) where
    whole : (next : Unit {0} → Outcome (Unit {0})) → after (form_from g 0 0 0 0 (take (k * entry_stride) words)) next ≡ after (said first) next
    whole next = ap (λ (o : Outcome (Unit {0})). after o next) (sym (told ∙ rw unused))

    pub first-refuses : (e : Refusal) → first ≡ Err e → (a : Result (Unit {0}) Refusal) → a ≡ Err e → said a ≡ table_form g words
    first-refuses e t a d = ap said (d ∙ sym t) ∙ sym (cut_at g words k form pos within ∙ whole _ ∙ stays first e t _)

    pub second-answers : (x : Unit {0}) → first ≡ Ok x → (before : EntryWords) → before ≡ words_at words (k - 1) → (second : Result (Unit {0}) Refusal)
        → said second
        ≡ form_from g k before.first before.set before.rule (take (length words - k * entry_stride) (drop (k * entry_stride) words))
        → said second ≡ table_form g words
    second-answers x d before e second s =
        s ∙ rw (e, part_to_end words (k * entry_stride)) (sym (cut_at g words k form pos within ∙ whole _ ∙ passed first x d _))
