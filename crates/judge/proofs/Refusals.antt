-- The refusals before the verdict, and what is known once they are passed.
use Prim.Native.Nat.{ℕ, ◌-◌}
use mathlib.Core.Path.{◌≡◌, sym, ap, subst, ◌∙◌}
use mathlib.Core.List.{List}
use native.Mathlib.Omega.{arith}
use lib.ListN.{length, get_or, drop, take, length-drop}
use Rattle.game.specs.Game.{PushdownGame}
use Rattle.game.specs.ListLaws.{◌∈◌}
use Rattle.game.specs.Outcome.{Outcome, done, refused, after, number, said}
use Rattle.game.specs.Position.{form}
use Rattle.game.specs.Questions.{reading}
use Rattle.game.specs.Stored.{sizes_of, as_stored, Reports}
use Rattle.game.specs.Held.{Held, safe, Read}
use Rattle.std.specs.Prelude.{Result, Ok, Err, MatchResult, IsErrAnd}
use Rattle.game.specs.declared.game.Game.{Game}
use Rattle.game.specs.declared.refusal.Refusal.{Refusal}
use Rattle.game.specs.declared.game.Sizes.{Sizes}
use Rattle.table.specs.Table.{entries_of, table_form}
use Rattle.table.specs.FormLaws.{accepted}
use Rattle.table.specs.OrderLaws.{accepted-in-order}
use Rattle.table.specs.Rows.{UsedPart}
use Rattle.judge.specs.Verdict.{Verdict, verdict, verdict_of_bytes, judging_game, judging}
use Rattle.judge.specs.PositionLaws.{InBytes, in_bytes}
use Rattle.judge.proofs.Recursion.{below_top, top-letter}
use Rattle.judge.specs.Judged.{judged}
use Rattle.judge.specs.Machine.{Young, Asked}

-- a refusal refuses whatever comes after it
pub refusal-told : {A : Type 0} (o : Outcome A) (refusal : Refusal) → refused (number refusal.question) refusal.place ≡ o → (next : A → Outcome Verdict)
    → judged (Err refusal) ≡ after o next
unfolding after
refusal-told (done x) refusal e next = absurd (let z : ◌≡◌ {A = ℕ} 0 1 = cc in omega arith)
refusal-told (refused n p) refusal e next = cc

module _ (g : PushdownGame) (words position : List ℕ) where
  -- 13 is answered no
  pub no_table : (refusal : Refusal) → said {A = Unit {0}} (Err refusal) ≡ table_form g words → judged (Err refusal) ≡ judging_game g words position
  unfolding judging_game
  no_table refusal e = refusal-told (table_form g words) refusal e _

  module _ (table_done : table_form g words ≡ done tt) where
    -- 14 is answered no
    pub no-position : (refusal : Refusal) → said {A = Unit {0}} (Err refusal) ≡ form g.control g.letters position
        → judged (Err refusal) ≡ judging_game g words position
    unfolding judging_game after
    no-position refusal f = rw table_done (refusal-told (form g.control g.letters position) refusal f _)

    -- both are passed: the verdict is that over the part of the table that is used
    pub both-passed : form g.control g.letters position ≡ done tt → (part : List ℕ) → UsedPart words part
        → judging_game g words position ≡ done (verdict g (entries_of part) (get_or position 0 0) (take (length position - 1) (drop 1 position)))
    unfolding judging_game after verdict_of_bytes
    both-passed f part u =
        rw (table_done, f, u.same (accepted-in-order g words table_done))
        (ap done
        (ap (verdict_of_bytes g (entries_of words)) (top-letter position (λ z. omega (arith, (in_bytes _ _ position f).many)))
        ∙ ap (verdict g (entries_of words) (get_or position 0 0)) (sym (below_top position))))

-- every used entry of a table in form was born within the rounds
pub young : (g : PushdownGame) (words : List ℕ) → table_form g words ≡ done tt → Young words
young g words e x m = (accepted g words e x m).date

not_read : (o : Outcome PushdownGame) (refusal : Refusal) → said {A = Game} (Err refusal) ≡ as_stored o → refused (number refusal.question) refusal.place ≡ o
not_read (done g) refusal e = absurd (let z : ◌≡◌ {A = ℕ} 0 1 = cc in omega arith)
not_read (refused n k) refusal e = cc

-- a file that is refused
pub no-file : (file words position : List ℕ) (r : Result Game Refusal) → Reports (reading file) r → (refusal : Refusal) → r ≡ Err refusal
    → judged (Err refusal) ≡ judging file words position
unfolding judging
no-file file words position r h refusal e = refusal-told (reading file) refusal (not_read (reading file) refusal (ap said (sym e) ∙ h)) _

-- and one that was read
pub file-read : (file words position : List ℕ) (held : Game) (x : Read file held) → judging file words position ≡ judging_game x.game words position
unfolding judging after
file-read file words position held x = rw x.reads

-- the position's test by a game's sizes
pub by-game : (g : PushdownGame) (sizes : Sizes) (position : List ℕ) → sizes ≡ sizes_of g → (o : Outcome (Unit {0})) → o ≡ form sizes.control sizes.letters position → o ≡ form g.control g.letters position
by-game g sizes position e o f = f ∙ ap (λ (s : Sizes). form s.control s.letters position) e

-- what the verdict asks
pub ready : (g : PushdownGame) (sizes : Sizes) (rules : List ℕ) → Held g sizes rules → (words position : List ℕ) → table_form g words ≡ done tt
    → InBytes sizes.control position → (part : List ℕ) → UsedPart words part
    → Asked sizes rules part (get_or position 0 0) (take (length position - 1) (drop 1 position))
ready g sizes rules h words position t b part u =
    let n = ap length (below_top position) ∙ length-drop 1 position in
    let c = ap (λ (s : Sizes). s.control) h.sized in
    let k = ap (λ (s : Sizes). s.states) h.sized in
    record {
      lent =
          record {
            safe = safe g sizes rules h;
            young = λ x m. young g words t x (subst (x ∈◌) (u.same (accepted-in-order g words t)) m);
            sorted = u.sorted (accepted-in-order g words t);
          };
      there = omega (arith, b.state, h.ranged.control);
      some-letters = omega (arith, b.many);
      short = omega (arith, b.few);
    }

-- a refusal that is told as it came leaves the answer as it was
pub as-told : {A : Type 0} {asked told : Result A Refusal} → MatchResult asked (λ x. told ≡ Ok x) (λ e. IsErrAnd told (λ r. r ≡ e)) → asked ≡ told
as-told {asked = Ok x} h = sym h
as-told {asked = Err e} {told = Err r} h = ap Err (sym h)
as-told {asked = Err e} {told = Ok x} h = absurd h
