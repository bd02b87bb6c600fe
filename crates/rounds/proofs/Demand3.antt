-- Demand 3, from a solve that was not refused alone: at any height a position is won exactly if it has a bound, and play under advice
-- from it keeps what document 01 says, for every list of numbers.
use Rattle.std.specs.Prelude.{ℕ, ◌<◌, ◌≡◌, true, false, List, ◌∷◌}
use Rattle.std.proofs.Common.{arith, ◌∙◌, ⊎_elim}
use Rattle.std.proofs.Math.Path.{sym, ap}
use Rattle.std.proofs.Math.Option.{some}
use borrow.Author.Tests.{eq-eqb, ne_eqb}
use Rattle.game.specs.Game.{PushdownGame}
use Rattle.game.specs.Outcome.{done}
use Rattle.game.specs.Win.{Position, in_form, is_abelard}
use Rattle.game.specs.GoodGame.{Good}
use Rattle.table.specs.Table.{Entry, entries_of}
use Rattle.judge.specs.Worth.{automaton, worths, step_worth, advice_at, bound, advised}
use Rattle.judge.proofs.Within.{worth-cons}
use Rattle.judge.proofs.Target.{bound-zero}
use Rattle.judge.specs.PositionLaws.{Formed, form-parts, parts-form}
use Rattle.judge.specs.Verdict.{eloise, to_move, or_zero, verdict_of, verdict_over, verdict, judging}
use Rattle.judge.proofs.Accepted.{advised-rule}
use Rattle.judge.specs.Play.{play, start}
use Rattle.rounds.specs.Solving.{Solved, solving_words}
use Rattle.rounds.proofs.SolvingLaws.{SolvedAt}
use Rattle.rounds.proofs.Sound.{is-eloise}
use Rattle.rounds.proofs.PlayTheorem.{played, bound-won}
use Rattle.rounds.proofs.Solution.{solution, sound, won-bound, entries-back, judged-over}
use Rattle.rounds.specs.Demand3.{KeepsWinning, Reports, Plays}

-- the verdict on Éloise's turn, the advised rule in hand
eloise-told : (g : PushdownGame) (table : List Entry) (p a : ℕ) (rest : List ℕ) (b m : ℕ) → is_abelard g p ≡ false → 0 < b
    → step_worth (automaton g table) (worths (automaton g table) rest) p a ≡ some b
    → advice_at (automaton g table) (worths (automaton g table) rest) p a (some b) ≡ some m
    → (advised g table p a rest ≡ some m) × (verdict g table p (a ∷ rest) ≡ eloise m b)
unfolding verdict verdict_over verdict_of advised to_move or_zero
eloise-told g table p a rest b m o l least rule =
    (rw (least, rule), rw (least, ne_eqb b 0 (λ z. omega arith), o, rule))

module _ (g : PushdownGame) (good : Good g) (n : ℕ) (table : List Entry) (at : SolvedAt g n table) where
  keeps : (pos : Position) → in_form g pos ≡ true → (b : ℕ) → bound g table pos.state pos.stack ≡ some b → (numbers : List ℕ)
      → KeepsWinning g table pos b numbers
  keeps pos f b e numbers =
      let h = sound g good n table at in
      let r = played g good table h numbers (start pos) b (form-parts g pos f) e in
      let last = (play g table (start pos) numbers).position in
      record {
        each = r.each;
        formed = parts-form g last.state last.stack r.formed;
        won = bound-won g good table h last.state last.stack r.left r.formed.state r.is;
        left = r.left;
        has = r.is;
        falls = omega (arith, r.falls);
        reached =
            λ enough.
            let none : r.left ≡ 0 = ⊎_elim (λ z. z) (λ l. omega arith) r.reached in
            (bound-zero g table h.holds last (omega (arith, r.formed.state, good.ranged.control))).0 (r.is ∙ ap some none);
      }

  told : (p a : ℕ) (rest : List ℕ) → Formed g p (a ∷ rest) → (b : ℕ) → bound g table p (a ∷ rest) ≡ some b
      → Reports g table p a rest b (done (verdict g table p (a ∷ rest)))
  unfolding verdict verdict_over verdict_of advised to_move or_zero
  told p a rest f b e =
      let A = automaton g table in
      let forms = (sound g good n table at).forms in
      let least : step_worth A (worths A rest) p a ≡ some b = sym (worth-cons A a rest p (omega (arith, f.state, good.ranged.control))) ∙ e in
      record {
        targets = λ z. rw (least, eq-eqb b 0 z);
        abelards = λ l o. rw (least, ne_eqb b 0 (λ z. omega arith), o);
        eloises =
            λ l o.
            let r = advised-rule g table forms p a rest b (is-eloise g p f.state o) least l in
            let t = eloise-told g table p a rest b r.0 o l least r.1 in
            (r.0, t.0, r.2, ap done t.1);
      }

pub demand-three : (file : List ℕ) (table work : ℕ) (s : Solved) → solving_words file table work ≡ done s → Plays file s
demand-three file table work s e =
    let r = solution file table work s e in
    let g = r.game in
    let same : entries_of s.words ≡ r.table =
    ap (λ (x : Solved). entries_of x.words) r.is ∙ entries-back g r.good r.lent r.table r.at
    in
    record {
      game = g;
      read = r.read;
      bounded = λ pos f. rw same (won-bound g r.good r.lent r.table r.at pos.state pos.stack (form-parts g pos f));
      targets =
          λ pos f.
          rw same
          (bound-zero g r.table (sound g r.good r.lent r.table r.at).holds pos
          (omega (arith, (form-parts g pos f).state, r.good.ranged.control)));
      plays = λ pos f b. rw same (λ h numbers. keeps g r.good r.lent r.table r.at pos f b h numbers);
      reports =
          λ p a rest f short b.
          let h = form-parts g (record { state = p; stack = a ∷ rest }) f in
          let answer : judging file s.words (p ∷ a ∷ rest) ≡ done (verdict g r.table p (a ∷ rest)) =
          ap (λ (x : Solved). judging file x.words (p ∷ a ∷ rest)) r.is
          ∙ judged-over g r.good r.lent r.table r.at file r.read r.form p (a ∷ rest) h short
          in
          rw (same, answer) (λ k. told g r.good r.lent r.table r.at p a rest h b k);
    }
