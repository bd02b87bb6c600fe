-- A set of a family by its word and its place there, and a word joined to a word of a family at the front of an area: a set is there
-- afterwards if it was there before or is in the word that was joined.
use Prim.Native.Nat.{ℕ, ◌+◌, ◌*◌, ◌/◌, ◌%◌, ◌<◌, ◌≤◌}
use native.Mathlib.Omega.{arith}
use mathlib.Core.Path.{◌≡◌, refl, sym, ap, ◌∙◌}
use mathlib.Core.Logic.{◌⊎◌, inl, inr, ⊎_elim}
use mathlib.Core.Bool.{true, false}
use mathlib.Core.List.{List}
use lib.ListN.{length, get_or, set}
use lib.Seq.{get_or-set_same, get_or-set_other}
use lib.Bits.{bit_or, or_block}
use lib.Dec.{eqb}
use borrow.Author.Tests.{eqb-true, eqb-false}
use Rattle.game.specs.Sets.{has, union}
use Rattle.game.specs.SetLaws.{union-below, union-has, left-union, right-union}
use Rattle.game.specs.ListLaws.{test}
use Rattle.family.specs.Family.{holds}

-- a set by its word and its place there
pub at-word : (words : List ℕ) (at x j : ℕ) → x / 64 ≡ j → holds words at x ≡ has (get_or words (at + j) 0) (x % 64)
unfolding holds
at-word words at x j e = ap (λ (k : ℕ). has (get_or words (at + k) 0) (x % 64)) e

pub at_front : (words : List ℕ) (x j : ℕ) → x / 64 ≡ j → holds words 0 x ≡ has (get_or words j 0) (x % 64)
unfolding holds
at_front words x j e =
    let here : 0 + x / 64 ≡ j = omega (arith, e) in
    ap (λ (k : ℕ). has (get_or words k 0) (x % 64)) here

pub word-is : (j s : ℕ) → s < 64 → (j * 64 + s) / 64 ≡ j
word-is j s l = omega arith

pub bit_is : (j s : ℕ) → s < 64 → (j * 64 + s) % 64 ≡ s
bit_is j s l = omega arith

-- set s of word j
pub of_word : (words : List ℕ) (at j s : ℕ) → s < 64 → holds words at (j * 64 + s) ≡ has (get_or words (at + j) 0) s
of_word words at j s l = at-word words at (j * 64 + s) j (word-is j s l) ∙ ap (has (get_or words (at + j) 0)) (bit_is j s l)

pub whole : (x j : ℕ) → x / 64 ≡ j → x ≡ j * 64 + x % 64
whole x j e = omega (arith, e)

-- a union by the words and the places
pub union-parts : (i j s t : ℕ) → s < 64 → t < 64 → union (i * 64 + s) (j * 64 + t) ≡ union i j * 64 + union s t
union-parts i j s t l m = or_block 6 i j s t l m

pub union-place : (i j n : ℕ) → i < 16 → j < n → n ≤ 16 → union i j < 16
union-place i j n l m k = union-below 4 i j l (omega arith)

-- a word joined to one of an area
module _ (out : List ℕ) (to : ℕ) (l : to < length out) (r : ℕ) where
  abbrev before : ℕ
  before = get_or out to 0

  abbrev after : List ℕ
  after = set out to (bit_or before r)

  written : (x : ℕ) → x / 64 ≡ to → holds after 0 x ≡ has (bit_or before r) (x % 64)
  written x e = at_front after x to e ∙ ap (λ (w : ℕ). has w (x % 64)) (get_or-set_same out to (bit_or before r) 0 l)

  others-kept : (x : ℕ) → (x / 64 ≡ to → ⊥) → holds after 0 x ≡ holds out 0 x
  others-kept x apart =
      at_front after x (x / 64) refl
      ∙ ap (λ (w : ℕ). has w (x % 64)) (get_or-set_other out to (x / 64) (bit_or before r) 0 apart)
      ∙ sym (at_front out x (x / 64) refl)

  pub joined-kept : (x : ℕ) → holds out 0 x ≡ true → holds after 0 x ≡ true
  joined-kept x h =
      ⊎_elim
      (λ (t : eqb (x / 64) to ≡ true).
      let here = eqb-true (x / 64) to t in
      written x here ∙ left-union before r (x % 64) (sym (at_front out x to here) ∙ h))
      (λ (t : eqb (x / 64) to ≡ false). others-kept x (eqb-false (x / 64) to t) ∙ h)
      (test (eqb (x / 64) to))

  pub joined-from : (x : ℕ) → holds after 0 x ≡ true → (holds out 0 x ≡ true) ⊎ ((x / 64 ≡ to) × (has r (x % 64) ≡ true))
  joined-from x h =
      ⊎_elim
      (λ (t : eqb (x / 64) to ≡ true).
      let here = eqb-true (x / 64) to t in
      ⊎_elim (λ u. inl (at_front out x to here ∙ u)) (λ u. inr (here, u)) (union-has before r (x % 64) (sym (written x here) ∙ h)))
      (λ (t : eqb (x / 64) to ≡ false). inl (sym (others-kept x (eqb-false (x / 64) to t)) ∙ h))
      (test (eqb (x / 64) to))

  pub joined-into : (s : ℕ) → s < 64 → has r s ≡ true → holds after 0 (to * 64 + s) ≡ true
  joined-into s m h =
      written (to * 64 + s) (word-is to s m) ∙ ap (has (bit_or before r)) (bit_is to s m) ∙ right-union before r s h
