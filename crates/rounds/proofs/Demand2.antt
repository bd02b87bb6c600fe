-- Demand 2, from a solve that was not refused alone: the table is that of the rounds, entry for entry, and up to 256 letters the judge
-- refuses no position in form and says lost exactly where it is not won.
use Rattle.std.specs.Prelude.{ℕ, ◌-◌, ◌<◌, ◌≡◌, refl, ◌↔◌, Bool, true, false, cond, List, [], ◌∷◌, length, eqb}
use Rattle.std.proofs.Common.{sym, ◌∙◌, ap, arith}
use Rattle.std.proofs.Math.Option.{Option, none, some}
use Rattle.game.specs.Game.{PushdownGame}
use Rattle.game.specs.Outcome.{done}
use Rattle.game.specs.Questions.{bottom_last}
use Rattle.game.specs.Win.{is_abelard}
use Rattle.game.specs.ListLaws.{clash}
use Rattle.table.specs.Table.{Entry, table_words}
use Rattle.judge.specs.Worth.{automaton, worths, step_worth, advice_at, bound}
use Rattle.judge.proofs.Within.{none-some, worth-cons}
use Rattle.judge.specs.PositionLaws.{form-parts}
use Rattle.judge.specs.Verdict.{target, to_move, lost_field, verdict_of, verdict_over, verdict, judging}
use Rattle.rounds.specs.Solving.{Solved, latest, solving_words}
use Rattle.rounds.proofs.RoundLaws.{zero_is, round_is, round-ranged}
use Rattle.rounds.proofs.Reported.{latest-is}
use Rattle.rounds.proofs.Solution.{solution, words-fill, won-bound, judged-over}
use Rattle.rounds.specs.Demand2.{is_lost, Judges}

not-lost : (zero-bound abelards : Bool) (rule : Option ℕ) (b : ℕ) → is_lost (cond zero-bound target (to_move abelards rule b)) ≡ false
unfolding is_lost to_move
not-lost true abelards rule b = refl
not-lost false true rule b = refl
not-lost false false rule b = refl

-- a verdict is not lost exactly if there is a bound
lost-is : (abelards : Bool) (field : ℕ) (rule x : Option ℕ) → (is_lost (verdict_of abelards field rule x) ≡ false) ↔ ((b : ℕ) × (x ≡ some b))
unfolding verdict_of is_lost
lost-is abelards field rule none = (λ h. clash refl h, λ b. absurd (none-some b.1))
lost-is abelards field rule (some b) = (λ h. (b, refl), λ h. not-lost (eqb b 0) abelards rule b)

verdict-lost : (g : PushdownGame) (table : List Entry) (p : ℕ) (stack : List ℕ) → p < g.states → bottom_last stack ≡ true
    → (is_lost (verdict g table p stack) ≡ false) ↔ ((b : ℕ) × (bound g table p stack ≡ some b))
unfolding verdict verdict_over bottom_last
verdict-lost g table p [] l f = clash f refl
verdict-lost g table p (a ∷ rest) l f =
    let A = automaton g table in
    let x = step_worth A (worths A rest) p a in
    rw (worth-cons A a rest p l) (lost-is (is_abelard g p) (lost_field g A p a (worths A rest)) (advice_at A (worths A rest) p a x) x)

pub demand-two : (file : List ℕ) (table work : ℕ) (s : Solved) → solving_words file table work ≡ done s → Judges file table s
demand-two file table work s e =
    let r = solution file table work s e in
    let at = r.at in
    record {
      game = r.game;
      read = r.read;
      zero = zero_is r.game r.good;
      next = round_is r.game r.good;
      round = at.round;
      limit = at.most;
      first = at.first;
      settles = rw at.is at at.settles;
      ascending = (round-ranged r.game r.good at.round).0;
      entries = ap (λ (x : Solved). x.entries) r.is ∙ ap (λ (t : List Entry). length t) at.is;
      rounds = ap (λ (x : Solved). x.rounds) r.is ∙ ap latest at.is ∙ latest-is r.game r.good at.round at.first;
      unused = r.lent - length r.table;
      words = ap (λ (x : Solved). x.words) r.is ∙ ap (λ (t : List Entry). table_words t (r.lent - length r.table)) at.is;
      size =
          ap (λ (x : Solved). length x.words) r.is ∙ words-fill r.game r.good r.lent r.table at ∙ sym r.whole;
      verdicts =
          λ pos f short.
          let h = form-parts r.game pos f in
          let v = verdict r.game r.table pos.state pos.stack in
          let told = judged-over r.game r.good r.lent r.table at file r.read r.form pos.state pos.stack h short in
          let won = won-bound r.game r.good r.lent r.table at pos.state pos.stack h in
          let bounded = verdict-lost r.game r.table pos.state pos.stack (omega (arith, h.state, r.good.ranged.control)) h.bottom in (
            v,
            ap (λ (x : Solved). judging file x.words (pos.state ∷ pos.stack)) r.is ∙ told,
            (λ n. won.1 (bounded.0 n), λ w. bounded.1 (won.0 w)),
          );
    }
