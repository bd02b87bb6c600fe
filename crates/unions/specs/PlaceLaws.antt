-- Where families and their sets are: places are small numbers, a set is a bit of a word.
use Rattle.std.specs.Prelude.{ℕ, zero, suc, ◌+◌, ◌*◌, ◌/◌, ◌%◌, ◌^◌, ◌<◌, ◌≤◌, ◌≡◌, refl, false, List, get_or, replicate}
use Rattle.std.proofs.Common.{arith, one-mul, mod-eq_of_lt, mul-le-mul, ap, ◌∙◌}
use Rattle.std.proofs.Math.Pow.{pow-lt}
use Rattle.game.specs.Sets.{has}
use Rattle.game.specs.SetLaws.{none_has}
use Rattle.family.specs.Family.{holds}

-- a product of small numbers is small
pub row_small : (s l : ℕ) → s < 256 → l ≤ 64 → s * l ≤ 16384
row_small s l h k = let s-small : s ≤ 256 = omega arith in mul-le-mul s-small k

pub place-small : (f n : ℕ) → f ≤ 4096 → n ≤ 16 → f * n ≤ 65536
place-small f n h k = mul-le-mul h k

-- an element as a set
pub one_shifted : (s : ℕ) → s < 10 → 1 * 2 ^ s % 18446744073709551616 ≡ 2 ^ s
one_shifted s l = rw one-mul (mod-eq_of_lt (pow-lt {j = 64} (omega arith)))

-- a set by its word
pub holds-word : (words : List ℕ) (at j s : ℕ) → s < 64 → holds words at (j * 64 + s) ≡ has (get_or words (at + j) 0) s
unfolding holds
holds-word words at j s l =
    let word : (j * 64 + s) / 64 ≡ j = omega arith in
    let place : (j * 64 + s) % 64 ≡ s = omega arith in
    rw (word, place)

-- an area of zeros has no sets
pub no-sets : (n at x : ℕ) → holds (replicate {A = ℕ} n 0) at x ≡ false
unfolding holds
no-sets n at x = ap (λ (w : ℕ). has w (x % 64)) (zeros n (at + x / 64)) ∙ none_has (x % 64)
  where
    zeros : (n i : ℕ) → get_or (replicate {A = ℕ} n 0) i 0 ≡ 0
    zeros zero i = refl
    zeros (suc n) zero = refl
    zeros (suc n) (suc i) = zeros n i
