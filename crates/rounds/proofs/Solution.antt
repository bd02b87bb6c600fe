-- A solved file: its game, its table, and that the table is a settled round whose words pass question 13.
use Rattle.std.specs.Prelude.{ℕ, ◌-◌, ◌*◌, ◌/◌, ◌%◌, ◌≤◌, ◌≡◌, ◌↔◌, true, cond, ◌&&◌, List, ◌∷◌, length, leb, eqb}
use Rattle.std.proofs.Common.{arith, sym, ◌∙◌, ap, subst, eqb-true}
use Rattle.std.proofs.Math.Option.{some}
use Rattle.game.specs.Limits.{max_entries, max_stack}
use Rattle.game.specs.Game.{PushdownGame}
use Rattle.game.specs.Outcome.{done, refused, after}
use Rattle.game.specs.OutcomeLaws.{done-same, after-done}
use Rattle.game.specs.Questions.{reading}
use Rattle.game.specs.Win.{Won}
use Rattle.game.specs.ListLaws.{both}
use Rattle.game.specs.GoodGame.{Good}
use Rattle.game.specs.Reads.{good}
use Rattle.table.specs.Table.{Entry, entry_stride, length_in_form, table_words, entries_of, table_form}
use Rattle.table.specs.FormLaws.{cond-done}
use Rattle.judge.specs.Worth.{automaton, bound}
use Rattle.judge.proofs.Within.{within-worth}
use Rattle.judge.specs.PositionLaws.{Formed, bytes-pass}
use Rattle.judge.specs.Verdict.{verdict, verdict_of_bytes, judging_game, judging}
use Rattle.rounds.specs.Solving.{Solved, solved_table, solved_of, solving_game, solving_words}
use Rattle.rounds.proofs.RoundLaws.{round-ranged}
use Rattle.rounds.proofs.Sound.{Sound, round-sound}
use Rattle.rounds.proofs.Settled.{Closed, settled-closed, won-within}
use Rattle.rounds.proofs.PlayTheorem.{bound-won}
use Rattle.table.specs.WordLaws.{form-bytes, words-entries, words-length, words-pass}
use Rattle.rounds.proofs.SolvingLaws.{SolvedAt, solved-at}

-- a length in form is that of whole entries
pub in-entries : (n : ℕ) → length_in_form n ≡ true → n ≡ entry_stride * (n / entry_stride)
unfolding length_in_form
in-entries n h =
    let p = both (leb entry_stride n && leb n (entry_stride * max_entries)) (eqb (n % entry_stride) 0) h in
    omega (arith, eqb-true (n % entry_stride) 0 p.1)

-- what a solve that was not refused says
pub record Solution (file : List ℕ) (words : ℕ) (s : Solved) : Type 0 where
  pub game : PushdownGame
  pub read : reading file ≡ done game
  pub good : Good game
  pub lent : ℕ
  pub whole : words ≡ entry_stride * lent
  pub form : length_in_form (entry_stride * lent) ≡ true
  pub table : List Entry
  pub at : SolvedAt game lent table
  pub is : s ≡ solved_of lent table

pub solution : (file : List ℕ) (table work : ℕ) (s : Solved) → solving_words file table work ≡ done s → Solution file table s
unfolding solving_words solving_game
solution file table work s e =
    let r = after-done (reading file) (λ g. cond (eqb table work && length_in_form table) (solving_game g (table / entry_stride)) (refused 10 0)) e in
    let c = cond-done (eqb table work && length_in_form table) (solving_game r.0 (table / entry_stride)) 10 0 r.2 in
    let l = both (eqb table work) (length_in_form table) c.0 in
    let t = after-done (solved_table r.0 (table / entry_stride)) (λ t. done (solved_of (table / entry_stride) t)) c.1 in
    let same : s ≡ solved_of (table / entry_stride) t.0 = done-same (sym t.2) in
    record {
      game = r.0;
      read = r.1;
      good = good file r.0 r.1;
      lent = table / entry_stride;
      whole = in-entries table l.1;
      form = subst (λ (n : ℕ). length_in_form n ≡ true) (in-entries table l.1) l.1;
      table = t.0;
      at = solved-at r.0 (table / entry_stride) t.0 t.1;
      is = same;
    }

module _ (g : PushdownGame) (goodgame : Good g) (n : ℕ) (table : List Entry) (at : SolvedAt g n table) where
  -- a solved table is sound, and what its runs give is in it
  pub sound : Sound g table
  sound = rw at.is (round-sound g goodgame at.round at.most)

  pub closed : Closed g table
  closed = settled-closed g goodgame table (rw at.is (round-ranged g goodgame at.round).1) at.settles

  -- At any height a position is won exactly if it has a bound.
  pub won-bound : (p : ℕ) (stack : List ℕ) → Formed g p stack
      → Won g (record { state = p; stack = stack }) ↔ ((b : ℕ) × (bound g table p stack ≡ some b))
  unfolding Won
  won-bound p stack f = (
    λ w.
        let r = won-within g goodgame table sound.holds closed w.0 p stack f w.1 in
        let h = within-worth (automaton g table) stack p r.0 (omega (arith, f.state, goodgame.ranged.control)) r.1 in
        (h.value, h.is),
    λ b. bound-won g goodgame table sound p stack b.0 f.state b.1,
  )

  -- its words pass 13 and give its entries back
  pub words-well : length_in_form (entry_stride * n) ≡ true → table_form g (table_words table (n - length table)) ≡ done tt
  words-well form =
      words-pass g goodgame table (n - length table) sound.forms (rw at.is (round-ranged g goodgame at.round).0)
      (subst (λ (k : ℕ). length_in_form (entry_stride * k) ≡ true) (omega (arith, at.fits)) form)

  pub entries-back : entries_of (table_words table (n - length table)) ≡ table
  entries-back = words-entries table (n - length table) (λ e m. form-bytes g goodgame e (sound.forms e m))

  -- they fill the table
  pub words-fill : length (table_words table (n - length table)) ≡ entry_stride * n
  words-fill = words-length table (n - length table) ∙ ap (λ (k : ℕ). entry_stride * k) (omega (arith, at.fits))

  -- so the judge's answer on a position in form of at most 256 letters is its verdict over that table
  pub judged-over : (file : List ℕ) → reading file ≡ done g → length_in_form (entry_stride * n) ≡ true → (p : ℕ) (stack : List ℕ) → Formed g p stack
      → length stack ≤ max_stack → judging file (table_words table (n - length table)) (p ∷ stack) ≡ done (verdict g table p stack)
  unfolding judging judging_game after verdict_of_bytes
  judged-over file read form p stack f short =
      rw (read, words-well form, bytes-pass g p stack f short, entries-back)
