-- A set joined to one of the sets of a list.
use Prim.Native.Nat.{ℕ, ◌*◌, ◌%◌, ◌^◌, ◌<◌}
use native.Mathlib.Nat.{one-mul, mod-eq_of_lt}
use mathlib.Core.Path.{◌≡◌, sym, ap, subst, ◌∙◌}
use mathlib.Core.Logic.{⊎_elim}
use mathlib.Core.Bool.{true, false}
use mathlib.Core.List.{List}
use lib.ListN.{length, get_or, set}
use lib.Seq.{get_or-set_same, get_or-set_other}
use lib.Pow.{pow-lt}
use lib.Dec.{eqb}
use borrow.Author.Tests.{eqb-true, eqb-false}
use Rattle.game.specs.Sets.{has, union}
use Rattle.game.specs.SetLaws.{left-union, right-union, single-has, union-below}
use Rattle.game.specs.ListLaws.{test, clash}
use Rattle.noting.specs.Closing.{Includes}

module _ (list : List ℕ) (a r : ℕ) (room : a < length list) where
  abbrev joined : List ℕ
  joined = set list a (union (get_or list a 0) r)

  here : get_or joined a 0 ≡ union (get_or list a 0) r
  here = get_or-set_same list a (union (get_or list a 0) r) 0 room

  other : (c : ℕ) → (c ≡ a → ⊥) → get_or joined c 0 ≡ get_or list c 0
  other c ne = get_or-set_other list a c (union (get_or list a 0) r) 0 ne

  pub join_more : (c : ℕ) → Includes (get_or joined c 0) (get_or list c 0)
  join_more c k h =
      ⊎_elim
      (λ (t : eqb c a ≡ true).
      let e = eqb-true c a t in
      ap (λ (d : ℕ). has (get_or joined d 0) k) e ∙ ap (λ (v : ℕ). has v k) here ∙ left-union (get_or list a 0) r k (ap (λ (d : ℕ). has (get_or list d 0) k) (sym e) ∙ h))
      (λ (t : eqb c a ≡ false). ap (λ (v : ℕ). has v k) (other c (eqb-false c a t)) ∙ h)
      (test (eqb c a))

  pub join-in : Includes (get_or joined a 0) r
  join-in k h = ap (λ (v : ℕ). has v k) here ∙ right-union (get_or list a 0) r k h

  pub join-few : r < 1024 → ((c : ℕ) → c < 64 → get_or list c 0 < 1024) → a < 64 → (c : ℕ) → c < 64 → get_or joined c 0 < 1024
  join-few small olds la c l =
      ⊎_elim
      (λ (t : eqb c a ≡ true).
      let e = eqb-true c a t in
      subst (λ (w : ℕ). w < 1024) (sym (ap (λ (d : ℕ). get_or joined d 0) e ∙ here)) (union-below 10 (get_or list a 0) r (olds a la) small))
      (λ (t : eqb c a ≡ false). subst (λ (w : ℕ). w < 1024) (sym (other c (eqb-false c a t))) (olds c l))
      (test (eqb c a))

-- the set of one letter
one-letter : (a : ℕ) → a < 64 → 1 * 2 ^ a % 2 ^ 64 ≡ 2 ^ a
one-letter a l = rw one-mul (mod-eq_of_lt (pow-lt {j = 64} l))

-- a head that is not marked was not, and is another than the one that was marked last
pub mark-clear : (words : List ℕ) (p a : ℕ) → p < length words → a < 64 → (q c : ℕ) → has (get_or (set words p (union (get_or words p 0) (1 * 2 ^ a % 2 ^ 64))) q 0) c ≡ false
    → (has (get_or words q 0) c ≡ false) × (q ≡ p → c ≡ a → ⊥)
mark-clear words p a lp la q c off = (
  ⊎_elim (λ (t : has (get_or words q 0) c ≡ true). clash (join_more words p (1 * 2 ^ a % 2 ^ 64) lp q c t) off) (λ t. t) (test (has (get_or words q 0) c)),
  λ eq ec.
      clash (join-in words p (1 * 2 ^ a % 2 ^ 64) lp a (ap (λ (v : ℕ). has v a) (one-letter a la) ∙ single-has a))
      (ap (λ (d : ℕ). has (get_or (joined words p (1 * 2 ^ a % 2 ^ 64) lp) d 0) a) (sym eq) ∙ ap (has (get_or (joined words p (1 * 2 ^ a % 2 ^ 64) lp) q 0)) (sym ec) ∙ off),
)
