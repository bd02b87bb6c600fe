-- A test that is computed along a list of numbers, one entry after the other, passes at each of its entries.
use Prim.Native.Nat.{ℕ, zero, suc, ◌+◌, ◌<◌}
use native.Mathlib.Omega.{arith}
use native.Mathlib.Nat.{add-zero, zero-add, add-suc, suc-add}
use mathlib.Core.Path.{◌≡◌, refl, ap, sym, ◌∙◌}
use mathlib.Core.Bool.{Bool, true, false}
use mathlib.Core.List.{List, [], ◌∷◌}
use lib.ListN.{length, get_or}
use Rattle.game.specs.ListLaws.{clash}

-- the second test is computed only where the first passes
abbrev both : Bool → Bool → Bool
both true b = b
both false b = false

both_first : (a b : Bool) → both a b ≡ true → a ≡ true
both_first true b h = refl
both_first false b h = h

both-second : (a b : Bool) → both a b ≡ true → b ≡ true
both-second true b h = h
both-second false b h = clash h refl

-- the test passes at each entry of the list, with its place counted from i
abbrev pub every : (ℕ → ℕ → Bool) → ℕ → List ℕ → Bool
every f i [] = true
every f i (v ∷ list) = both (f i v) (every f (suc i) list)

every-from : (f : ℕ → ℕ → Bool) (list : List ℕ) (i : ℕ) → every f i list ≡ true → (k : ℕ) → k < length list → f (i + k) (get_or list k 0) ≡ true
every-from f [] i h k l = absurd (omega arith)
every-from f (v ∷ list) i h zero l = ap (λ (m : ℕ). f m v) (add-zero i) ∙ both_first (f i v) (every f (suc i) list) h
every-from f (v ∷ list) i h (suc k) l =
    ap (λ (m : ℕ). f m (get_or list k 0)) (add-suc i k ∙ sym (suc-add i k))
    ∙ every-from f list (suc i) (both-second (f i v) (every f (suc i) list) h) k (omega arith)

pub every-at : (f : ℕ → ℕ → Bool) (list : List ℕ) → every f 0 list ≡ true → (k : ℕ) → k < length list → f k (get_or list k 0) ≡ true
every-at f list h k l = ap (λ (m : ℕ). f m (get_or list k 0)) (sym (zero-add k)) ∙ every-from f list 0 h k l
