-- Laws of tests joined by `and`, and of a shifted 1.
use Prim.Native.Nat.{ℕ, ◌*◌, ◌%◌, ◌^◌, ◌<◌}
use mathlib.Core.Path.{◌≡◌, refl}
use mathlib.Core.Bool.{Bool, true, false, ◌&&◌}
use native.Mathlib.Nat.{one-mul, mod-eq_of_lt}
use lib.Pow.{pow-lt}

-- both hold
pub and_both : {a b : Bool} → a ≡ true → b ≡ true → (a && b) ≡ true
and_both p q = rw (p, q)

-- where the first holds, what is left is the second
pub and_second : {a : Bool} (b : Bool) → a ≡ true → b ≡ (a && b)
and_second b p = rw p

-- where the second is true, what is left is the first
pub and_first : (a : Bool) → a ≡ (a && true)
and_first true = refl
and_first false = refl

-- where the second is false, so are both
pub and_none : (a : Bool) → false ≡ (a && false)
and_none true = refl
and_none false = refl

-- 1 shifted left within 64 bits
pub shifted_one : (s : ℕ) → s < 64 → 1 * 2 ^ s % 2 ^ 64 ≡ 2 ^ s
shifted_one s h = rw one-mul (mod-eq_of_lt (pow-lt h))

-- 1 shifted left within 32 bits
pub shifted-one-word : (s : ℕ) → s < 32 → 1 * 2 ^ s % 2 ^ 32 ≡ 2 ^ s
shifted-one-word s h = rw one-mul (mod-eq_of_lt (pow-lt h))

-- six tests, and three, taken together from either end
pub six : (a b c d e f : Bool) → (a && (b && (c && (d && (e && f))))) ≡ (((((a && b) && c) && d) && e) && f)
six false b c d e f = refl
six true false c d e f = refl
six true true false d e f = refl
six true true true false e f = refl
six true true true true false f = refl
six true true true true true f = refl
