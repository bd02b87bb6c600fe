-- What the judge answers over a table that passes question 13: the rule it names is one of the position's head, and after 14 nothing
-- refuses.
use Rattle.std.specs.Prelude.{ℕ, ◌-◌, ◌<◌, ◌≤◌, ◌≡◌, ◌⊎◌, Bool, true, false, cond, eqb}
use Rattle.std.proofs.Common.{arith, ◌∙◌, ap₂, inl, inr}
use Rattle.std.proofs.Math.Path.{sym, ap}
use Rattle.std.proofs.Math.Logic.{⊎_elim}
use mathlib.Core.List.{List, [], ◌∷◌}
use Rattle.std.proofs.Math.Option.{Option, none, some}
use Rattle.std.proofs.lemmas.Bool.{eqb-false}
use Rattle.game.specs.Limits.{max_rounds}
use Rattle.game.specs.Game.{PushdownGame}
use Rattle.game.specs.Outcome.{done, after}
use Rattle.game.specs.Position.{form}
use Rattle.game.specs.Win.{is_abelard}
use Rattle.table.specs.Table.{Entry, entries_of, is_eloise, is_rule_of, table_form}
use Rattle.game.specs.ListLaws.{◌∈◌, test}
use Rattle.game.specs.SetLaws.{has-from}
use Rattle.table.specs.FormLaws.{InForm}
use Rattle.judge.specs.Worth.{automaton, base_weight, entry_worth, step_worth, worths, advice_at, entry_of_head}
use Rattle.judge.specs.Within.{Within}
use Rattle.judge.proofs.Within.{AtMost, exact, most-of, worth-within, entry-within}
use Rattle.judge.proofs.Range.{WeightsUpTo, base_weight-mono}
use Rattle.judge.proofs.Target.{head-is, zero-or-more, weight-zero}
use Rattle.judge.proofs.Advice.{within-head, advice}
use Rattle.judge.specs.Verdict.{target, eloise, abelard, or_zero, to_move, lost_field, verdict_of, verdict_over, verdict, verdict_of_bytes, judging_game}

-- a verdict for Éloise is that of a bound above 0
eloise-told : (abelards : Bool) (field : ℕ) (rule x : Option ℕ) (n b : ℕ) → verdict_of abelards field rule x ≡ eloise n b
    → (x ≡ some b) × (0 < b) × (or_zero rule ≡ n)
unfolding verdict_of to_move
eloise-told abelards field rule none n b e = let z : ◌≡◌ {A = ℕ} 0 1 = cc in absurd (omega arith)
eloise-told abelards field rule (some c) n b e = moved abelards (test (eqb c 0)) e
  where
    moved : (o : Bool) → (eqb c 0 ≡ true) ⊎ (eqb c 0 ≡ false) → cond (eqb c 0) target (to_move o rule c) ≡ eloise n b
        → (some c ≡ some b) × (0 < b) × (or_zero rule ≡ n)
    moved o (inl u) d =
        let f : target ≡ eloise n b = cc in
        let z : ◌≡◌ {A = ℕ} 0 1 = cc in
        absurd (omega arith)
    moved true (inr u) d =
        let f : abelard c ≡ eloise n b = cc in
        let z : ◌≡◌ {A = ℕ} 0 1 = cc in
        absurd (omega arith)
    moved false (inr u) d =
        let f : eloise (or_zero rule) c ≡ eloise n b = cc in
        let same : c ≡ b = cc in
        (ap some same, omega (arith, eqb-false c 0 u), cc)

-- every entry of a table is in form, as 13 asks
abbrev pub AllInForm : PushdownGame → List Entry → Type 0
AllInForm g table = (e : Entry) → e ∈ table → InForm g e

-- birthdates are at most the limit
pub weights : (g : PushdownGame) (table : List Entry) → AllInForm g table → WeightsUpTo (automaton g table) (base_weight max_rounds)
weights g table forms e m = base_weight-mono (forms e m).date

module _ (g : PushdownGame) (table : List Entry) (forms : AllInForm g table) where
  -- a further state has transitions of birthdate 0 only, to further states only: its runs are worth 0
  pub further-free : (w : List ℕ) (n q : ℕ) → g.control ≤ q → Within (automaton g table) w n q → Within (automaton g table) w 0 q
  unfolding Within
  further-free [] n q l r = r
  further-free (a ∷ w) n q l r =
      let e = r.entry in
      let f = forms e r.there in
      ⊎_elim
      (λ (z : e.birthdate ≡ 0).
      let free : base_weight e.birthdate ≡ 0 = ap base_weight z ∙ weight-zero in
      record {
        entry = e;
        there = r.there;
        heads = r.heads;
        left = 0;
        fits = omega arith;
        rest = λ s k t. further-free w r.left s (has-from g.control e.set s (f.further z) t) (r.rest s k t);
      })
      (λ (d : 0 < e.birthdate). absurd (omega (arith, f.control d, head-is q a e r.heads)))
      (zero-or-more e.birthdate)

  -- a transition with which a bound above 0 begins is no target transition
  pub born : (p a : ℕ) (rest : List ℕ) (b : ℕ) → step_worth (automaton g table) (worths (automaton g table) rest) p a ≡ some b → 0 < b
      → (e : Entry) → e ∈ table → entry_of_head p a e ≡ true
      → AtMost (entry_worth (automaton g table) (worths (automaton g table) rest) e) b → 0 < e.birthdate
  unfolding Within
  born p a rest b least pos e m h w =
      let A = automaton g table in
      ⊎_elim
      (λ (z : e.birthdate ≡ 0).
      let free : base_weight e.birthdate ≡ 0 = ap base_weight z ∙ weight-zero in
      let r = entry-within A rest e (λ s l k x. worth-within A rest s k l x) w in
      let run : Within A (a ∷ rest) 0 p =
      record {
        entry = e;
        there = m;
        heads = h;
        left = 0;
        fits = omega arith;
        rest =
            λ s k t. further-free rest r.0 s (has-from g.control e.set s ((forms e m).further z) t) (r.2 s k t);
      }
      in
      absurd (omega (arith, most-of least (within-head A a rest p 0 run))))
      (λ d. d)
      (zero-or-more e.birthdate)

  -- where Éloise has a bound above 0, the advised rule is one of the head
  pub advised-rule : (p a : ℕ) (rest : List ℕ) (b : ℕ) → is_eloise g p ≡ true
      → step_worth (automaton g table) (worths (automaton g table) rest) p a ≡ some b → 0 < b
      → (n : ℕ) × (advice_at (automaton g table) (worths (automaton g table) rest) p a (some b) ≡ some n) × (is_rule_of g p a n ≡ true)
  advised-rule p a rest b owner least pos =
      let r = advice (automaton g table) (worths (automaton g table) rest) p a b least in
      let e = r.entry in
      let at = head-is p a e r.heads in
      let date = born p a rest b least pos e r.there r.heads (exact r.worth) in
      let name = (forms e r.there).named date (ap (is_eloise g) at.0 ∙ owner) in (
        e.rule - 1,
        r.rule,
        ap₂ (λ (q c : ℕ). is_rule_of g q c (e.rule - 1)) (sym at.0) (sym at.1) ∙ name.1,
      )

  -- an Éloise verdict names a rule of the position's head
  pub eloise-rule : (p a : ℕ) (rest : List ℕ) (n b : ℕ) → is_eloise g p ≡ true → verdict g table p (a ∷ rest) ≡ eloise n b
      → is_rule_of g p a n ≡ true
  unfolding verdict verdict_over or_zero
  eloise-rule p a rest n b owner e =
      let A = automaton g table in
      let x = step_worth A (worths A rest) p a in
      let v = eloise-told (is_abelard g p) (lost_field g A p a (worths A rest)) (advice_at A (worths A rest) p a x) x n b e in
      let r = advised-rule p a rest b owner v.0 v.1 in
      let same : n ≡ r.0 =
      sym v.2 ∙ ap (λ (y : Option ℕ). or_zero (advice_at A (worths A rest) p a y)) v.0 ∙ ap or_zero r.1
      in
      rw same r.2

-- After 13 and 14 no question refuses.
pub judged : (g : PushdownGame) (words position : List ℕ) → table_form g words ≡ done tt
    → form g.control g.letters position ≡ done tt → judging_game g words position ≡ done (verdict_of_bytes g (entries_of words) position)
unfolding judging_game after
judged g words position t f = rw (t, f)
