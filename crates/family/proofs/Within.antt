-- Sets of at most four elements as numbers below 16, one within another. What `or_add_and` does not give is a test of all such numbers.
use Prim.Native.Nat.{ℕ, ◌+◌, ◌-◌, ◌<◌, ◌≤◌}
use native.Mathlib.Omega.{arith}
use mathlib.Core.Path.{◌≡◌, refl}
use mathlib.Core.Bool.{Bool, true, false, not, ◌||◌}
use lib.Bits.{bit_and, or_add_and, and_le_l, and_le_r}
use lib.Dec.{eqb, ltb, leb}
use borrow.Author.Tests.{eqb-true, eq-eqb, lt-ltb, leb-true}
use Rattle.game.specs.Sets.{union}
use Rattle.game.specs.Questions.{all_below}
use Rattle.game.specs.ListLaws.{clash, all_below-at}

-- a test that passes wherever another does
implies : Bool → Bool → Bool
implies a b = not a || b

passes : (a b : Bool) → implies a b ≡ true → a ≡ true → b ≡ true
unfolding implies
passes true b e h = e
passes false b e h = clash h refl

by : {a b : Bool} → implies a b ≡ true → a ≡ true → b ≡ true
by {a = a} {b = b} = passes a b

every : (ℕ → ℕ → ℕ → Bool) → Bool
every f = all_below 16 (λ i. all_below 16 (λ s. all_below 16 (f i s)))

at_every : (f : ℕ → ℕ → ℕ → Bool) → every f ≡ true → (i s t : ℕ) → i < 16 → s < 16 → t < 16 → f i s t ≡ true
unfolding every
at_every f e i s t li ls lt =
    all_below-at 16 (f i s) (all_below-at 16 (λ k. all_below 16 (f i k)) (all_below-at 16 (λ k. all_below 16 (λ l. all_below 16 (f k l))) e i li) s ls) t lt

-- t is within i
abbrev pub Within : ℕ → ℕ → Type 0
Within t i = bit_and t i ≡ t

abbrev within : ℕ → ℕ → Bool
within t i = eqb (bit_and t i) t

pub within-least : (t i : ℕ) → Within t i → t ≤ i
within-least t i h = omega (arith, and_le_r t i, h)

-- a union is not below its parts
pub left-least : (i j : ℕ) → i ≤ union i j
left-least i j = omega (arith, or_add_and i j, and_le_r i j)

pub right-least : (i j : ℕ) → j ≤ union i j
right-least i j = omega (arith, or_add_and i j, and_le_l i j)

pub contained : (i p : ℕ) → union i p ≡ p → i ≤ p
contained i p e = omega (arith, left-least i p, e)

-- the next number below s that is within i, and none is between
abbrev next-test : ℕ → ℕ → ℕ → Bool
next-test i s t = implies (within s i) (implies (within t i) (implies (ltb t s) (leb t (bit_and (s - 1) i))))

next-tested : every next-test ≡ true
unfolding all_below every implies
next-tested = refl

pub next-within : (i s t : ℕ) → i < 16 → s < 16 → t < 16 → Within s i → Within t i → t < s → t ≤ bit_and (s - 1) i
next-within i s t li ls lt hs ht l =
    leb-true t (bit_and (s - 1) i) (by (by (by (at_every next-test next-tested i s t li ls lt) (eq-eqb (bit_and s i) s hs)) (eq-eqb (bit_and t i) t ht)) (lt-ltb t s l))

abbrev again-test : ℕ → ℕ → ℕ → Bool
again-test i s t = within (bit_and (s - 1) i) i

again-tested : every again-test ≡ true
unfolding all_below every implies
again-tested = refl

pub again-within : (i s : ℕ) → i < 16 → s < 16 → Within (bit_and (s - 1) i) i
again-within i s li ls = eqb-true (bit_and (bit_and (s - 1) i) i) (bit_and (s - 1) i) (at_every again-test again-tested i s 0 li ls (omega arith))

-- what a union with i has more than the other part is within i
abbrev part-test : ℕ → ℕ → ℕ → Bool
part-test i j t = within (union i j - j) i

part-tested : every part-test ≡ true
unfolding all_below every implies
part-tested = refl

pub part-within : (i j : ℕ) → i < 16 → j < 16 → Within (union i j - j) i
part-within i j li lj = eqb-true (bit_and (union i j - j) i) (union i j - j) (at_every part-test part-tested i j 0 li lj (omega arith))

-- of a number that contains i, what is within i can be left out, and i brings it back
abbrev back-test : ℕ → ℕ → ℕ → Bool
back-test i p t = implies (eqb (union i p) p) (implies (within t i) (eqb (union i (p - t)) p))

back-tested : every back-test ≡ true
unfolding all_below every implies
back-tested = refl

pub brought-back : (i p t : ℕ) → i < 16 → p < 16 → t < 16 → union i p ≡ p → Within t i → union i (p - t) ≡ p
brought-back i p t li lp lt hp ht =
    eqb-true (union i (p - t)) p (by (by (at_every back-test back-tested i p t li lp lt) (eq-eqb (union i p) p hp)) (eq-eqb (bit_and t i) t ht))

-- the next number above p that contains i, and none is between
abbrev above-test : ℕ → ℕ → ℕ → Bool
above-test i p q = implies (eqb (union i p) p) (implies (eqb (union i q) q) (implies (ltb p q) (leb (union (p + 1) i) q)))

above-tested : every above-test ≡ true
unfolding all_below every implies
above-tested = refl

pub next-above : (i p q : ℕ) → i < 16 → p < 16 → q < 16 → union i p ≡ p → union i q ≡ q → p < q → union (p + 1) i ≤ q
next-above i p q li lp lq hp hq l =
    leb-true (union (p + 1) i) q (by (by (by (at_every above-test above-tested i p q li lp lq) (eq-eqb (union i p) p hp)) (eq-eqb (union i q) q hq)) (lt-ltb p q l))

abbrev contains-test : ℕ → ℕ → ℕ → Bool
contains-test i p t = eqb (union i (union (p + 1) i)) (union (p + 1) i)

contains-tested : every contains-test ≡ true
unfolding all_below every implies
contains-tested = refl

pub above-contains : (i p : ℕ) → i < 16 → p < 16 → union i (union (p + 1) i) ≡ union (p + 1) i
above-contains i p li lp = eqb-true (union i (union (p + 1) i)) (union (p + 1) i) (at_every contains-test contains-tested i p 0 li lp (omega arith))

-- a union with i contains i
abbrev twice-test : ℕ → ℕ → ℕ → Bool
twice-test i j t = eqb (union i (union i j)) (union i j)

twice-tested : every twice-test ≡ true
unfolding all_below every implies
twice-tested = refl

pub union-contains : (i j : ℕ) → i < 16 → j < 16 → union i (union i j) ≡ union i j
union-contains i j li lj = eqb-true (union i (union i j)) (union i j) (at_every twice-test twice-tested i j 0 li lj (omega arith))
