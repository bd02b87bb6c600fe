-- Going through the states of a set, the lowest first, and collecting their elements.
use Prim.Native.Nat.{ℕ, ◌-◌, ◌^◌, ◌<◌}
use native.Mathlib.Omega.{arith}
use mathlib.Core.Path.{◌≡◌, sym, ap, subst, ◌∙◌}
use mathlib.Core.Logic.{⊎_elim}
use mathlib.Core.Bool.{true, false}
use mathlib.Core.List.{List}
use lib.ListN.{length, get_or}
use lib.Bits.{bit_and}
use lib.Dec.{eqb}
use lib.Pow.{pow-lt, pow_pos}
use borrow.Author.Tests.{eqb-true, eqb-false}
use Rattle.game.specs.Sets.{has, union}
use Rattle.game.specs.SetLaws.{union-has, left-union, right-union, union-below, single-has, has-single}
use Rattle.game.specs.UnionLaws.{union_assoc, union-none, none-union}
use Rattle.game.specs.LowestLaws.{LowestOf, Cleared, cleared}
use Rattle.game.specs.ListLaws.{test, clash}
use Rattle.game.specs.Game.{PushdownGame}
use Rattle.unions.specs.Expand.{expand, Within}
use Rattle.unions.specs.ExpandLaws.{alike, same_test, expand-none, expand-has, expand-union, expand-single}
use Rattle.unions.specs.ElementsOf.{ElementsOf}

-- a set without its lowest state
module _ (rest s : ℕ) (some : 0 < rest) (low : LowestOf 32 rest s) where
  pub gone : Cleared rest s (bit_and rest (rest - 1))
  gone = cleared s rest some low.member low.below

  pub rest-kept : (k : ℕ) → has (bit_and rest (rest - 1)) k ≡ true → has rest k ≡ true
  rest-kept k h = sym (gone.kept k (λ e. clash (ap (has (bit_and rest (rest - 1))) (sym e) ∙ h) gone.gone)) ∙ h

  pub apart : rest ≡ union (2 ^ s) (bit_and rest (rest - 1))
  apart =
      alike rest (union (2 ^ s) (bit_and rest (rest - 1)))
      (λ k.
      same_test (has rest k) (has (union (2 ^ s) (bit_and rest (rest - 1))) k)
      (λ h.
      ⊎_elim
      (λ (u : eqb k s ≡ true).
      subst (λ (w : ℕ). has (union (2 ^ s) (bit_and rest (rest - 1))) w ≡ true) (sym (eqb-true k s u)) (left-union (2 ^ s) (bit_and rest (rest - 1)) s (single-has s)))
      (λ (u : eqb k s ≡ false). right-union (2 ^ s) (bit_and rest (rest - 1)) k (gone.kept k (eqb-false k s u) ∙ h))
      (test (eqb k s)))
      (λ h.
      ⊎_elim (λ r. subst (λ (w : ℕ). has rest w ≡ true) (sym (has-single s k r)) low.member)
      (λ r. rest-kept k r)
      (union-has (2 ^ s) (bit_and rest (rest - 1)) k h)))

-- the elements found stand for states that make up the set with those left
pub record Uniting (numbers : List ℕ) (set rest found : ℕ) : Type 0 where
  pub small : found < 1024
  pub stands : (g : PushdownGame) (el : List ℕ) (count : ℕ) (states : List ℕ) → ElementsOf g el count states numbers → Within el set
      → (found < 2 ^ length el) × (union (expand el found) rest ≡ set)

pub uniting-starts : (numbers : List ℕ) (set : ℕ) → Uniting numbers set set 0
uniting-starts numbers set =
    record {
      small = omega arith;
      stands = λ g el count states of w. (pow_pos (length el), ap (λ (z : ℕ). union z set) (expand-none el) ∙ none-union set);
    }

module _ (numbers : List ℕ) (set rest found s : ℕ) (some : 0 < rest) (low : LowestOf 32 rest s) (u : Uniting numbers set rest found) where
  element-more : (g : PushdownGame) (el : List ℕ) (count : ℕ) (states : List ℕ) → ElementsOf g el count states numbers → Within el set
      → (union found (get_or numbers s 0) < 2 ^ length el) × (union (expand el (union found (get_or numbers s 0))) (bit_and rest (rest - 1)) ≡ set)
  element-more g el count states of w =
      let p = u.stands g el count states of w in
      let member : has set s ≡ true = ap (λ (z : ℕ). has z s) (sym p.1) ∙ right-union (expand el found) rest s low.member in
      let q = expand-has el g.states of.elements w.0 s (ap (λ (z : ℕ). has z s) (sym w.2) ∙ member) in
      let number : get_or numbers s 0 ≡ 2 ^ q.0 = ap (λ (k : ℕ). get_or numbers k 0) (sym q.2) ∙ of.numbered q.0 q.1 in
      let one : expand el (get_or numbers s 0) ≡ 2 ^ s =
      ap (expand el) number ∙ expand-single el g.states of.elements q.0 q.1 ∙ ap (λ (k : ℕ). 2 ^ k) q.2 in (
        union-below (length el) found (get_or numbers s 0) p.0 (subst (λ (z : ℕ). z < 2 ^ length el) (sym number) (pow-lt q.1)),
        ap (λ (z : ℕ). union z (bit_and rest (rest - 1))) (expand-union el g.states of.elements found (get_or numbers s 0) ∙ ap (union (expand el found)) one)
            ∙ union_assoc (expand el found) (2 ^ s) (bit_and rest (rest - 1))
            ∙ ap (union (expand el found)) (sym (apart rest s some low))
            ∙ p.1,
      )

  pub uniting-on : ((q : ℕ) → q < 32 → get_or numbers q 0 < 1024) → Uniting numbers set (bit_and rest (rest - 1)) (union found (get_or numbers s 0))
  uniting-on few =
      record {
        small = union-below 10 found (get_or numbers s 0) u.small (few s low.small);
        stands = element-more;
      }

pub uniting-ends : (numbers : List ℕ) (set rest found : ℕ) → rest ≡ 0 → Uniting numbers set rest found
    → (g : PushdownGame) (el : List ℕ) (count : ℕ) (states : List ℕ) → ElementsOf g el count states numbers → Within el set
    → (found < 2 ^ length el) × (expand el found ≡ set)
uniting-ends numbers set rest found e u g el count states of w =
    let p = u.stands g el count states of w in
    (p.0, sym (ap (union (expand el found)) e ∙ union-none (expand el found)) ∙ p.1)
