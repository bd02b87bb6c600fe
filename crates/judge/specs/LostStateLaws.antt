-- "only whether it is lost matters": which states have no worth on a stack follows from which have none on the stack one letter shorter,
-- so that a rule's successor of 257 letters is asked about without a sum over its letters.
use Prim.Native.Nat.{ℕ, zero, suc, ◌^◌, ◌<◌, ◌≤◌}
use native.Mathlib.Omega.{arith}
use Rattle.std.specs.Prelude.{◌≡◌, Bool, cond, ◌||◌, ltb, eqb}
use Rattle.std.proofs.Math.Path.{refl, sym, ap, ap₂}
use Rattle.std.proofs.Common.{◌∙◌, ltb-true, ltb-false, eqb-true, eq-eqb, ne_eqb}
use Rattle.std.proofs.Math.Logic.{⊎_elim}
use Rattle.std.proofs.Math.Bool.{true, false, not, ◌&&◌}
use mathlib.Core.List.{List, [], ◌∷◌}
use Rattle.std.proofs.Math.Option.{Option, none, some}
use Rattle.std.specs.Int.Bits.{bit_and}
use Rattle.std.proofs.lemmas.Nat.{and_le_r}
use Rattle.std.proofs.lemmas.Bool.{eqb-false}
use Rattle.game.specs.Limits.{max_states}
use Rattle.game.specs.Sets.{has}
use Rattle.game.specs.SetLaws.{none_has, member_of}
use Rattle.game.specs.DigitLaws.{has-and}
use Rattle.game.specs.ListLaws.{test, clash, both, conj, either, left_or, right_or, below_suc}
use Rattle.table.specs.Table.{Entry}
use Rattle.judge.specs.Worth.{Automaton, least, largest, plus, is_none, worth_in, largest_below, entry_worth, entry_of_head, least_over, head_worth, step_worth, step}
use Rattle.judge.specs.Tabulate.{tabulate-at}
use Rattle.judge.specs.Machine.{LostStates, is_open, head_lost}

least-none : (x y : Option ℕ) → is_none (least x y) ≡ (is_none x && is_none y)
unfolding least is_none
least-none none y = refl
least-none (some m) none = refl
least-none (some m) (some n) = refl

largest-none : (x y : Option ℕ) → is_none (largest x y) ≡ (is_none x || is_none y)
unfolding largest is_none
largest-none none y = refl
largest-none (some m) none = refl
largest-none (some m) (some n) = refl

plus_none : (k : ℕ) (x : Option ℕ) → is_none (plus k x) ≡ is_none x
unfolding plus is_none
plus_none k none = refl
plus_none k (some n) = refl

-- the largest worth of a set's members is none if one of them has none
module _ (ws : List (Option ℕ)) (set : ℕ) where
  member-none : (n s : ℕ) → s < n → has set s ≡ true → is_none (worth_in ws s) ≡ true → is_none (largest_below ws set n) ≡ true
  unfolding largest_below
  member-none zero s l h d = absurd (omega arith)
  member-none (suc n) s l h d =
      largest-none (largest_below ws set n) (cond (has set n) (worth_in ws n) (some 0))
      ∙ ⊎_elim
      (λ (m : s < n). left_or (is_none (cond (has set n) (worth_in ws n) (some 0))) (member-none n s m h d))
      (λ (e : s ≡ n).
      right_or (is_none (largest_below ws set n)) (rw (ap (has set) (sym e) ∙ h) (ap (λ (k : ℕ). is_none (worth_in ws k)) (sym e) ∙ d)))
      (below_suc l)

  none-member : (n : ℕ) → is_none (largest_below ws set n) ≡ true → (s : ℕ) × (s < n) × (has set s ≡ true) × (is_none (worth_in ws s) ≡ true)
  unfolding largest_below is_none
  none-member zero h = clash h refl
  none-member (suc n) h =
      ⊎_elim
      (λ (t : is_none (largest_below ws set n) ≡ true).
      let r = none-member n t in
      (r.0, omega (arith, r.1), r.2, r.3))
      (λ (t : is_none (cond (has set n) (worth_in ws n) (some 0)) ≡ true).
      ⊎_elim
      (λ (u : has set n ≡ true). (n, omega arith, u, rw u at t))
      (λ (u : has set n ≡ false). clash (rw u at t) refl)
      (test (has set n)))
      (either (is_none (largest_below ws set n)) (is_none (cond (has set n) (worth_in ws n) (some 0)))
      (sym (largest-none (largest_below ws set n) (cond (has set n) (worth_in ws n) (some 0))) ∙ h))

module _ {states lost : ℕ} {ws : List (Option ℕ)} (l : LostStates states lost ws) where
  -- a set without a lost state is one whose largest worth is not none
  apart-lost : (set : ℕ) → eqb (bit_and set lost) 0 ≡ not (is_none (largest_below ws set states))
  apart-lost set =
      ⊎_elim
      (λ (t : is_none (largest_below ws set states) ≡ true).
      let m = none-member ws set states t in
      let there : has (bit_and set lost) m.0 ≡ true = has-and set lost m.0 ∙ conj m.2 (l.inside m.0 m.1 ∙ m.3) in
      rw t (ne_eqb (bit_and set lost) 0 (λ e. clash there (ap (λ (x : ℕ). has x m.0) e ∙ none_has m.0))))
      (λ (t : is_none (largest_below ws set states) ≡ false). rw t (eq-eqb (bit_and set lost) 0 (empty t)))
      (test (is_none (largest_below ws set states)))
    where
      empty : is_none (largest_below ws set states) ≡ false → bit_and set lost ≡ 0
      empty t =
          ⊎_elim (λ (z : eqb (bit_and set lost) 0 ≡ true). eqb-true (bit_and set lost) 0 z)
          (λ (z : eqb (bit_and set lost) 0 ≡ false).
          let m = member_of max_states (bit_and set lost) (omega (arith, and_le_r set lost, l.small)) (omega (arith, eqb-false (bit_and set lost) 0 z)) in
          let s = m.0 in
          let b = both (has set s) (has lost s) (sym (has-and set lost s) ∙ m.2) in
          ⊎_elim
          (λ (k : ltb s states ≡ true).
          let i = ltb-true s states k in
          clash (member-none ws set states s i b.0 (sym (l.inside s i) ∙ b.1)) t)
          (λ (k : ltb s states ≡ false). clash b.1 (l.outside s (ltb-false s states k)))
          (test (ltb s states)))
          (test (eqb (bit_and set lost) 0))

  module _ (A : Automaton) (same : A.states ≡ states) (q a : ℕ) where
    entry-none : (e : Entry) → not (eqb (bit_and e.set lost) 0) ≡ is_none (entry_worth A ws e)
    unfolding entry_worth
    entry-none e =
        rw (apart-lost e.set) (twice (is_none (largest_below ws e.set states)))
        ∙ ap (λ (n : ℕ). is_none (largest_below ws e.set n)) (sym same)
        ∙ sym (plus_none (A.weight e.birthdate) (largest_below ws e.set A.states))
      where
        twice : (b : Bool) → not (not b) ≡ b
        twice true = refl
        twice false = refl

    open_none : (e : Entry) → not (is_open q a lost e) ≡ is_none (head_worth A ws q a e)
    unfolding is_open head_worth is_none
    open_none e =
        ⊎_elim (λ (t : entry_of_head q a e ≡ true). rw t (entry-none e)) (λ (t : entry_of_head q a e ≡ false). rw t refl)
        (test (entry_of_head q a e))

    over_none : (es : List Entry) → head_lost q a lost es ≡ is_none (least_over (head_worth A ws q a) es)
    unfolding head_lost least_over is_none
    over_none [] = refl
    over_none (e ∷ es) = ap₂ ◌&&◌ (open_none e) (over_none es) ∙ sym (least-none (head_worth A ws q a e) (least_over (head_worth A ws q a) es))

    -- the head of a state and a letter has no worth
    pub head-lost : head_lost q a lost A.entries ≡ is_none (step_worth A ws q a)
    unfolding step_worth
    head-lost = over_none A.entries

  -- the states without a worth on one letter more
  pub step-lost : (A : Automaton) → A.states ≡ states → (a lower : ℕ) → lower < 2 ^ max_states
      → ((q : ℕ) → q < states → has lower q ≡ head_lost q a lost A.entries) → ((q : ℕ) → states ≤ q → has lower q ≡ false)
      → LostStates states lower (step A a ws)
  unfolding step
  step-lost A same a lower fits told rest =
      record {
        small = fits;
        inside =
            λ q i.
            told q i ∙ head-lost A same q a
            ∙ ap is_none (sym (tabulate-at (λ (s : ℕ). step_worth A ws s a) A.states q none (omega (arith, same))));
        outside = rest;
      }
