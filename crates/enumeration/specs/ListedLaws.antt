-- Laws of lists as the code keeps them: which sets the list of a rule has, and words that were all zeroed.
use Rattle.std.specs.Prelude.{ℕ, zero, suc, ◌+◌, ◌-◌, ◌<◌, ◌≤◌, ◌≡◌, refl, true, false, List, [], ◌∷◌, length, get_or, take, drop, ltb}
use Rattle.std.proofs.Common.{arith, ⊎_elim, ltb-true, ltb-false}
use mathlib.Core.List.Memᴰ
use Rattle.std.proofs.Math.ListN.{get_or-eq_default}
use Rattle.game.specs.ListLaws.{◌∈◌, test}
use Rattle.enumeration.specs.PastLaws.{part_in}
use Rattle.enumeration.specs.Lists.{start_of, stop_of, list_of, Zero, Cleared}

-- what stands within a part of a list is in it
in-part : {A : Type 0} (d : A) (m n : ℕ) (xs : List A) (k : ℕ) → n ≤ k → k < n + m → k < length xs → get_or xs k d ∈ take m (drop n xs)
in-part d zero n xs k l h i = absurd (omega arith)
in-part d (suc m) n [] k l h i = absurd (omega arith)
in-part d (suc m) zero (y ∷ xs) zero l h i = Memᴰ.head refl
in-part d (suc m) zero (y ∷ xs) (suc k) l h i = Memᴰ.tail (in-part d m zero xs k (omega arith) (omega arith) (omega arith))
in-part d (suc m) (suc n) (y ∷ xs) zero l h i = absurd (omega arith)
in-part d (suc m) (suc n) (y ∷ xs) (suc k) l h i = in-part d (suc m) n xs k (omega arith) (omega arith) (omega arith)

-- the sets of a list are those from where it begins to where it ends
module _ (lists spans : List ℕ) (r : ℕ) where
  pub list-in : start_of spans r < stop_of spans r (length lists) → {z : ℕ} → z ∈ list_of lists spans r
      → (i : ℕ) × (start_of spans r ≤ i) × (i < stop_of spans r (length lists)) × (z ≡ get_or lists i 0)
  list-in some m =
      let k = part_in 0 (stop_of spans r (length lists) - start_of spans r) (start_of spans r) lists m in
      (k.0, k.1, omega (arith, k.2), k.3)

  pub in_list : (i : ℕ) → start_of spans r ≤ i → i < stop_of spans r (length lists) → get_or lists i 0 ∈ list_of lists spans r
  in_list i l h =
      in-part 0 (stop_of spans r (length lists) - start_of spans r) (start_of spans r) lists i l (omega arith) (omega arith)

-- where all words are zeroed, those beyond the end count as 0 too
pub all-cleared : (words : List ℕ) (i : ℕ) (after : List ℕ) → Cleared words i after → length words ≤ i → Zero after
all-cleared words i after d h k =
    ⊎_elim
    (λ (t : ltb k i ≡ true). d.zeros k (ltb-true k i t))
    (λ (t : ltb k i ≡ false). get_or-eq_default after 0 (omega (arith, d.long, ltb-false k i t)))
    (test (ltb k i))
