-- What a call of the judge can give: a bound of at most 256 × (2^R − 1), R the round limit, or a refusal by a question before the verdict.
-- No number stands for a bound that is too large; 15 is not used.
use Rattle.std.specs.Prelude.{ℕ, suc, ◌*◌, ◌^◌, ◌<◌, ◌≤◌, ◌≡◌, ◌⊎◌, Bool, true, false, cond, List, [], ◌∷◌, length, eqb}
use Rattle.std.proofs.Common.{mul-le-mul_right, le_trans, sym, inl, inr}
use native.Mathlib.Omega.{arith}
use Rattle.std.proofs.Math.Path.{refl}
use Rattle.std.proofs.Math.Option.{Option, none, some}
use Rattle.game.specs.Limits.{max_rounds, max_stack}
use Rattle.game.specs.Game.{PushdownGame}
use Rattle.std.specs.Prelude.{Result, Ok, Err}
use Rattle.game.specs.Outcome.{done, refused, number}
use Rattle.game.specs.declared.refusal.Refusal.{Refusal}
use Rattle.game.specs.Numbers.{is_one_of, file_numbers, table_numbers, position_numbers, judge_numbers}
use Rattle.game.specs.OutcomeLaws.{done-same, after-done, RefusedBy, by-none, by_after, by_front, by-back}
use Rattle.game.specs.Questions.{any, reading}
use Rattle.game.specs.Position.{form}
use Rattle.game.specs.RefusalLaws.{file-numbers, position-numbers}
use Rattle.game.specs.Win.{is_abelard}
use Rattle.game.specs.ListLaws.{test, clash}
use Rattle.table.specs.Table.{Entry, entries_of, table_form}
use Rattle.table.specs.FormLaws.{accepted, table-numbers}
use Rattle.judge.specs.Worth.{automaton, base_weight, step_worth, worths}
use Rattle.judge.proofs.Within.{exact, most-of}
use Rattle.judge.proofs.Range.{within-range}
use Rattle.judge.proofs.Advice.{head-within, within-head}
use Rattle.judge.proofs.Accepted.{AllInForm, weights}
use Rattle.judge.specs.Verdict.{Verdict, target, eloise, abelard, to_move, verdict_of, verdict_over, verdict, verdict_of_bytes, judging_game, judging}
use Rattle.judge.specs.PositionLaws.{in_bytes}
use Rattle.judge.specs.Judged.{judged}
use Rattle.judge.specs.declared.verdict.Verdict.{Verdict as Answered}
use Rattle.judge.specs.declared.verdict.Verdict.TheVariants.{Lost, Target, Eloise, Abelard}
use Rattle.judge.specs.Most.{most_bound, bound_in, returned_bound}

-- a bound on a stack of h letters is at most h × (2^R − 1)
bound-most : (g : PushdownGame) (table : List Entry) → AllInForm g table → (p a : ℕ) (rest : List ℕ) (b : ℕ)
    → step_worth (automaton g table) (worths (automaton g table) rest) p a ≡ some b → b ≤ suc (length rest) * base_weight max_rounds
bound-most g table forms p a rest b e =
    let A = automaton g table in
    let k = base_weight max_rounds in
    let run = within-range A k (weights g table forms) (a ∷ rest) b p (head-within A a rest p b (exact e)) in
    most-of e (within-head A a rest p (suc (length rest) * k) run)

bounded : (abelards : Bool) (field : ℕ) (rule x : Option ℕ) (k : ℕ) → ((b : ℕ) → x ≡ some b → b ≤ k) → bound_in (verdict_of abelards field rule x) ≤ k
unfolding verdict_of to_move bound_in
bounded abelards field rule none k h = omega arith
bounded abelards field rule (some b) k h = by (test (eqb b 0)) abelards
  where
    by : (eqb b 0 ≡ true) ⊎ (eqb b 0 ≡ false) → (o : Bool) → bound_in (cond (eqb b 0) target (to_move o rule b)) ≤ k
    by (inl t) o = rw t (omega arith)
    by (inr t) true = rw t (h b refl)
    by (inr t) false = rw t (h b refl)

-- the same of a verdict, at any height
pub verdict-most : (g : PushdownGame) (table : List Entry) → AllInForm g table → (p : ℕ) (stack : List ℕ)
    → bound_in (verdict g table p stack) ≤ length stack * base_weight max_rounds
unfolding verdict verdict_over bound_in
verdict-most g table forms p [] = omega arith
verdict-most g table forms p (a ∷ rest) = bounded (is_abelard g p) _ _ _ (suc (length rest) * base_weight max_rounds) (bound-most g table forms p a rest)

bytes_most : (g : PushdownGame) (table : List Entry) → AllInForm g table → (position : List ℕ) → length position ≤ suc max_stack
    → bound_in (verdict_of_bytes g table position) ≤ most_bound
unfolding verdict_of_bytes bound_in base_weight
bytes_most g table forms [] short = omega arith
bytes_most g table forms (p ∷ stack) short =
    let few : length stack ≤ max_stack = omega arith in
    le_trans (verdict-most g table forms p stack) (mul-le-mul_right (base_weight max_rounds) few)

module _ (file words position : List ℕ) where
  -- No judged bound is above 256 × (2^R − 1), whatever the file, the table and the position,
  pub judged-most : (v : Verdict) → judging file words position ≡ done v → bound_in v ≤ most_bound
  unfolding judging judging_game
  judged-most v e =
      let r = after-done (reading file) (λ g. judging_game g words position) e in
      let g = r.0 in
      let t = after-done (table_form g words) _ r.2 in
      let f = after-done (form g.control g.letters position) _ t.2 in
      rw (← done-same f.2)
      (bytes_most g (entries_of words) (accepted g words t.1) position (in_bytes g.control g.letters position f.1).few)

  -- so that none reaches 2^48.
  pub judged-below : (v : Verdict) → judging file words position ≡ done v → bound_in v < 2 ^ 48
  judged-below v e = omega (arith, judged-most v e)

  -- Judging refuses by one of the questions before the verdict: 1 to 9 and 19, 13, 14.
  pub judge-numbers : RefusedBy judge_numbers (judging file words position)
  unfolding judging judging_game
  judge-numbers =
      by_after judge_numbers (reading file) _ (by_front file_numbers _ (reading file) (file-numbers file))
      (λ g.
      by_after judge_numbers (table_form g words) _ (by-back file_numbers _ _ (by_front table_numbers position_numbers _ (table-numbers g words)))
      (λ u.
      by_after judge_numbers (form g.control g.letters position) _
      (by-back file_numbers _ _ (by-back table_numbers position_numbers _ (position-numbers g.control g.letters position)))
      (λ v. by-none judge_numbers (verdict_of_bytes g (entries_of words) position))))

  -- It refuses by no other number, at whatever place,
  pub returned-numbers : (question place : ℕ) → refused question place ≡ judging file words position
      → is_one_of question judge_numbers ≡ true
  returned-numbers question place e = judge-numbers question place (sym e)

  -- and so never by 15.
  pub no-fifteen : (place : ℕ) → refused 15 place ≡ judging file words position → ⊥
  unfolding any
  no-fifteen place e = clash (returned-numbers 15 place e) refl

-- Of whatever keeps the promise of `judge`:
module _ (file words position : List ℕ) where
  -- the bound that it returns is at most 256 × (2^R − 1), and below 2^48,
  pub returned-most : (r : Result Answered Refusal) → judged r ≡ judging file words position → returned_bound r ≤ most_bound
  unfolding returned_bound bound_in
  returned-most (Ok (Lost rule)) e = omega arith
  returned-most (Ok Target) e = omega arith
  returned-most (Ok (Eloise rule b)) e = judged-most file words position (eloise rule b) (sym e)
  returned-most (Ok (Abelard b)) e = judged-most file words position (abelard b) (sym e)
  returned-most (Err refusal) e = omega arith

  pub returned-below : (r : Result Answered Refusal) → judged r ≡ judging file words position → returned_bound r < 2 ^ 48
  returned-below r e = omega (arith, returned-most r e)

  -- and the refusal that it returns is by one of 1 to 9, 19, 13 and 14,
  pub returned-refusal : (refusal : Refusal) → judged (Err refusal) ≡ judging file words position
      → is_one_of (number refusal.question) judge_numbers ≡ true
  returned-refusal refusal e = returned-numbers file words position (number refusal.question) refusal.place e

  -- so not by 15, which no named question has.
  pub refusal-no-fifteen : (refusal : Refusal) → judged (Err refusal) ≡ judging file words position → number refusal.question ≡ 15 → ⊥
  unfolding any
  refusal-no-fifteen refusal e fifteen = clash (rw fifteen at (returned-refusal refusal e)) refl
