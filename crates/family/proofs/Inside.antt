-- One set inside another, by its states and by their union: the union has just the states of the larger if every state of the
-- smaller is there, and two sets with the same states are the same number.
use Prim.Native.Nat.{ℕ, zero, suc, ◌+◌, ◌/◌, ◌%◌, ◌^◌, ◌<◌}
use native.Mathlib.Omega.{arith}
use native.Mathlib.Nat.{div-one, pow-suc}
use mathlib.Core.Path.{◌≡◌, refl, sym, ap, ◌∙◌}
use mathlib.Core.Logic.{⊎_elim}
use mathlib.Core.Bool.{Bool, true, false, not, ◌&&◌, ◌||◌}
use lib.Dec.{eqb}
use lib.Pow.{shr-shr}
use borrow.Author.Tests.{eqb-true, eqb-false, eq-eqb}
use Rattle.game.specs.Sets.{has, union}
use Rattle.game.specs.SetLaws.{union-below}
use Rattle.game.specs.ListLaws.{test, all_below-at, at-all_below}
use Rattle.game.specs.Questions.{all_below}
use Rattle.game.specs.DigitLaws.{has-or}

-- two tests are the same if each passes where the other does
pub same_test : (a b : Bool) → (a ≡ true → b ≡ true) → (b ≡ true → a ≡ true) → a ≡ b
same_test true b f g = sym (f refl)
same_test false true f g = g refl
same_test false false f g = refl

-- two sets are the same if they have the same states
has-half : (set k : ℕ) → has set (suc k) ≡ has (set / 2) k
unfolding has
has-half set k =
    let e : suc k ≡ 1 + k = omega arith in
    ap (λ (x : ℕ). eqb (set / 2 ^ x % 2) 1) e ∙ sym (ap (λ (x : ℕ). eqb (x % 2) 1) (shr-shr set 1 k))

last-is : (a b : ℕ) → has a 0 ≡ has b 0 → a % 2 ≡ b % 2
unfolding has
last-is a b e =
    ⊎_elim
    (λ (t : has b 0 ≡ true).
    omega (arith, div-one a, div-one b, eqb-true (a / 2 ^ 0 % 2) 1 (e ∙ t), eqb-true (b / 2 ^ 0 % 2) 1 t))
    (λ (t : has b 0 ≡ false).
    omega (arith, div-one a, div-one b, eqb-false (a / 2 ^ 0 % 2) 1 (e ∙ t), eqb-false (b / 2 ^ 0 % 2) 1 t))
    (test (has b 0))

same_set : (n a b : ℕ) → a < 2 ^ n → b < 2 ^ n → ((k : ℕ) → k < n → has a k ≡ has b k) → a ≡ b
same_set zero a b l m same = omega arith
same_set (suc n) a b l m same =
    let half : a / 2 ≡ b / 2 =
    same_set n (a / 2) (b / 2) (omega (arith, pow-suc 2 n)) (omega (arith, pow-suc 2 n))
    (λ k o. sym (has-half a k) ∙ same (suc k) (omega arith) ∙ has-half b k)
    in
    omega (arith, half, last-is a b (same 0 (omega arith)))

-- state k of a is in b
abbrev kept : ℕ → ℕ → ℕ → Bool
kept a b k = not (has a k) || has b k

-- the states of a below e are in b
unfoldable pub inside : ℕ → ℕ → ℕ → Bool
inside e a b = all_below e (kept a b)

pub inside-none : (a b : ℕ) → inside 0 a b ≡ true
unfolding inside all_below
inside-none a b = refl

pub inside-more : (e a b : ℕ) → inside (suc e) a b ≡ (inside e a b && kept a b e)
unfolding inside all_below
inside-more e a b = refl

pub inside_is : (n a b : ℕ) → a < 2 ^ n → b < 2 ^ n → inside n a b ≡ eqb (union b a) b
unfolding inside
inside_is n a b l m =
    same_test (inside n a b) (eqb (union b a) b)
    (λ h.
    eq-eqb (union b a) b
    (same_set n (union b a) b (union-below n b a m l) m
    (λ k o. has-or b a k ∙ absorbed (has b k) (has a k) (all_below-at n (kept a b) h k o))))
    (λ h.
    at-all_below n (kept a b)
    (λ k o. within (has b k) (has a k) (sym (has-or b a k) ∙ ap (λ (x : ℕ). has x k) (eqb-true (union b a) b h))))
  where
    absorbed : (p q : Bool) → not q || p ≡ true → (p || q) ≡ p
    absorbed true q h = refl
    absorbed false true h = sym h
    absorbed false false h = refl

    within : (p q : Bool) → (p || q) ≡ p → not q || p ≡ true
    within true true h = refl
    within true false h = refl
    within false true h = sym h
    within false false h = refl
