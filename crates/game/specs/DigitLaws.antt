-- Digits of numbers: of both, of either, and of one without the other.
use Rattle.std.specs.Prelude.{ℕ, zero, suc, ◌/◌, ◌%◌, ◌^◌, ◌<◌, min, max, ◌≡◌, refl, true, false, not, ◌&&◌, ◌||◌, eqb}
use Rattle.std.proofs.Common.{arith, mod-lt, ap, ◌∙◌, ⊎_elim, eqb-true, eq-eqb, ne_eqb}
use Rattle.std.specs.Int.Bits.{bit_and, bit_or, bit_xor, differ, and_step, or_step, xor_step}
use Rattle.std.proofs.lemmas.Nat.{and_shr, or_shr, xor_shr}
use Rattle.std.proofs.lemmas.Bool.{eqb-false}
use Rattle.std.proofs.Math.Arith.{digits_mod}
use Rattle.game.specs.Sets.{has}
use Rattle.game.specs.ListLaws.{test}

-- of two digits: both are 1, one is
both_one : (m n : ℕ) → m < 2 → n < 2 → eqb (min m n) 1 ≡ (eqb m 1 && eqb n 1)
both_one m n l k =
    ⊎_elim
    (λ (t : eqb m 1 ≡ true).
    let one = eqb-true m 1 t in
    let same : min m n ≡ n = omega arith in
    rw (t, same) refl)
    (λ (t : eqb m 1 ≡ false).
    let none = eqb-false m 1 t in
    rw (t, ne_eqb (min m n) 1 (λ e. omega (arith, none))) refl)
    (test (eqb m 1))

one-is : (m n : ℕ) → m < 2 → n < 2 → eqb (max m n) 1 ≡ (eqb m 1 || eqb n 1)
one-is m n l k =
    ⊎_elim
    (λ (t : eqb m 1 ≡ true).
    let one = eqb-true m 1 t in
    rw (t, eq-eqb (max m n) 1 (omega arith)) refl)
    (λ (t : eqb m 1 ≡ false).
    let none = eqb-false m 1 t in
    let same : max m n ≡ n = omega (arith, none) in
    rw (t, same) refl)
    (test (eqb m 1))

and_last : (a b : ℕ) → bit_and a b % 2 ≡ min (a % 2) (b % 2)
and_last a b = omega (arith, and_step a b, mod-lt a two, mod-lt b two)
  where
    two : 0 < 2
    two = omega arith

or-last : (a b : ℕ) → bit_or a b % 2 ≡ max (a % 2) (b % 2)
or-last a b = omega (arith, or_step a b, mod-lt a two, mod-lt b two)
  where
    two : 0 < 2
    two = omega arith

pub has-and : (a b s : ℕ) → has (bit_and a b) s ≡ (has a s && has b s)
unfolding has
has-and a b s =
    let x = a / 2 ^ s in
    let y = b / 2 ^ s in
    ap (λ (z : ℕ). eqb (z % 2) 1) (and_shr a b s)
    ∙ ap (λ (z : ℕ). eqb z 1) (and_last x y)
    ∙ both_one (x % 2) (y % 2) (mod-lt x (omega arith)) (mod-lt y (omega arith))

pub has-or : (a b s : ℕ) → has (bit_or a b) s ≡ (has a s || has b s)
unfolding has
has-or a b s =
    let x = a / 2 ^ s in
    let y = b / 2 ^ s in
    ap (λ (z : ℕ). eqb (z % 2) 1) (or_shr a b s)
    ∙ ap (λ (z : ℕ). eqb z 1) (or-last x y)
    ∙ one-is (x % 2) (y % 2) (mod-lt x (omega arith)) (mod-lt y (omega arith))

-- of two digits: the first is 1 and the second is not
less_one : (m n : ℕ) → m < 2 → n < 2 → eqb (differ m (min m n)) 1 ≡ (eqb m 1 && not (eqb n 1))
less_one zero zero l k = refl
less_one zero (suc zero) l k = refl
less_one zero (suc (suc n)) l k = absurd (omega arith)
less_one (suc zero) zero l k = refl
less_one (suc zero) (suc zero) l k = refl
less_one (suc zero) (suc (suc n)) l k = absurd (omega arith)
less_one (suc (suc m)) n l k = absurd (omega arith)

differ-small : (m n : ℕ) → m < 2 → n < 2 → differ m n < 2
differ-small zero n l k = k
differ-small (suc zero) zero l k = l
differ-small (suc zero) (suc zero) l k = omega arith
differ-small (suc zero) (suc (suc n)) l k = absurd (omega arith)
differ-small (suc (suc m)) n l k = absurd (omega arith)

xor-last : (a b : ℕ) → bit_xor a b % 2 ≡ differ (a % 2) (b % 2)
xor-last a b =
    ap (λ (z : ℕ). z % 2) (xor_step a b)
    ∙ digits_mod (bit_xor (a / 2) (b / 2)) (differ-small (a % 2) (b % 2) (mod-lt a (omega arith)) (mod-lt b (omega arith)))

pub has-less : (a b s : ℕ) → has (bit_xor a (bit_and a b)) s ≡ (has a s && not (has b s))
unfolding has
has-less a b s =
    let x = a / 2 ^ s in
    let y = b / 2 ^ s in
    ap (λ (z : ℕ). eqb (z % 2) 1) (xor_shr a (bit_and a b) s ∙ ap (bit_xor x) (and_shr a b s))
    ∙ ap (λ (z : ℕ). eqb z 1) (xor-last x (bit_and x y) ∙ ap (differ (x % 2)) (and_last x y))
    ∙ less_one (x % 2) (y % 2) (mod-lt x (omega arith)) (mod-lt y (omega arith))
