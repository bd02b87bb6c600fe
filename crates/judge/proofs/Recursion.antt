-- The recursion on a stack's rest: the part below the top, and that worths stay far below none.
use Prim.Native.Nat.{ℕ, ◌*◌, ◌-◌, ◌<◌, ◌≤◌}
use mathlib.Core.Path.{◌≡◌, refl, sym, ap, ◌∙◌}
use mathlib.Core.Logic.{⊎_elim}
use mathlib.Core.Bool.{true, false}
use mathlib.Core.List.{List, [], ◌∷◌}
use mathlib.Core.Option.{Option, none, some}
use Rattle.std.specs.Prelude.{Option as Optional}
use native.Mathlib.Omega.{arith}
use native.Mathlib.Nat.{mul-le-mul_right}
use lib.ListN.{length, get_or, take, drop, length-drop}
use lib.Seq.{take_all}
use lib.Dec.{ltb}
use borrow.Author.Tests.{ltb-true, ltb-false}
use Rattle.game.specs.Limits.{max_states, max_rounds, max_stack}
use Rattle.game.specs.ListLaws.{test}
use Rattle.game.specs.declared.game.Sizes.{Sizes}
use Rattle.table.specs.Table.{entries_of}
use Rattle.judge.specs.Worth.{Automaton, base_weight, worth_in, step, worths}
use Rattle.judge.proofs.Range.{WeightsUpTo, worth-range, base_weight-mono, length-worths}
use Rattle.judge.specs.Machine.{numbers, AllOwn, Tamed, machine, automaton_of, most_below, Young, Low, Lows}
use Rattle.judge.proofs.MachineLaws.{past}
use Rattle.judge.proofs.Codes.{tamed-by}

-- the part of a stack after its top letter
pub below_top : (w : List ℕ) → take (length w - 1) (drop 1 w) ≡ drop 1 w
below_top w = take_all (length w - 1) (drop 1 w) (omega (arith, length-drop 1 w))

pub shorter : (w : List ℕ) (t : ℕ) → length w ≡ t → (length w ≡ 0 → ⊥) → length (take (length w - 1) (drop 1 w)) < t
shorter w t e n = rw (below_top w) (rw length-drop (omega arith))

pub no-taller : (w : List ℕ) (h : ℕ) → length w ≤ h → length (take (length w - 1) (drop 1 w)) ≤ h
no-taller w h l = rw (below_top w) (rw length-drop (omega arith))

pub no-letters : (w : List ℕ) → length w ≡ 0 → w ≡ []
no-letters [] e = refl
no-letters (a ∷ w) e = absurd (omega arith)

pub top-letter : (w : List ℕ) → (length w ≡ 0 → ⊥) → w ≡ get_or w 0 0 ∷ drop 1 w
top-letter [] n = absurd (n refl)
top-letter (a ∷ w) n = refl

module _ (sizes : Sizes) (small : sizes.states ≤ max_states) (words : List ℕ) (young : Young words) where
  abbrev A : Automaton
  A = automaton_of sizes (entries_of words)

  up_to : WeightsUpTo A (base_weight max_rounds)
  up_to e m = base_weight-mono (young e m)

  largest-sum : max_stack * base_weight max_rounds ≤ most_below
  unfolding base_weight
  largest-sum = omega arith

  pub lows : (w : List ℕ) → length w ≤ max_stack → Lows (worths A w)
  lows w h q =
      ⊎_elim
      (λ (p : ltb q sizes.states ≡ true). bounded (worth_in (worths A w) q) refl (ltb-true q sizes.states p))
      (λ (p : ltb q sizes.states ≡ false). rw (past (worths A w) q (omega (arith, length-worths A w, ltb-false q sizes.states p))) tt)
      (test (ltb q sizes.states))
    where
      bounded : (x : Option ℕ) → worth_in (worths A w) q ≡ x → q < sizes.states → Low x
      bounded none e l = tt
      bounded (some m) e l =
          omega (arith, worth-range A (base_weight max_rounds) up_to w q m l e, mul-le-mul_right (base_weight max_rounds) h, largest-sum)

  pub tame-worths : (w : List ℕ) → length w ≤ max_stack → (below : List (Optional ℕ)) → AllOwn below → numbers below ≡ machine (worths A w) → Tamed below
  tame-worths w h below own is = tamed-by below (worths A w) own is (omega (arith, length-worths A w)) (lows w h)

  -- the top letter's step over the worths of the rest below it
  pub stepped : (w : List ℕ) → length w ≤ max_stack → (length w ≡ 0 → ⊥) → (below : List (Optional ℕ))
      → numbers below ≡ machine (worths A (take (length w - 1) (drop 1 w))) → (r : List (Optional ℕ))
      → ((rest : List (Option ℕ)) → numbers below ≡ machine rest → length rest ≡ sizes.states → Lows rest → numbers r ≡ machine (step A (get_or w 0 0) rest))
      → numbers r ≡ machine (worths A w)
  unfolding worths
  stepped w h n below b r s =
      let v = drop 1 w in
      let e : numbers below ≡ machine (worths A v) = b ∙ ap (λ (x : List ℕ). machine (worths A x)) (below_top w) in
      s (worths A v) e (length-worths A v) (lows v (rw length-drop (omega arith)))
      ∙ ap (λ (x : List ℕ). machine (worths A x)) (sym (top-letter w n))
