-- The sets of a word united with the sets of another word, set by set.
use Prim.Native.Nat.{ℕ, ◌+◌, ◌-◌, ◌^◌, ◌<◌}
use native.Mathlib.Omega.{arith}
use mathlib.Core.Path.{◌≡◌, sym, ap, subst, ◌∙◌}
use mathlib.Core.Logic.{⊎_elim}
use mathlib.Core.Bool.{true, false}
use lib.Bits.{bit_and}
use lib.Pow.{pow-lt}
use lib.Count.{count_trailing_zeros}
use lib.Dec.{eqb}
use borrow.Author.Tests.{eqb-true, eqb-false}
use Rattle.game.specs.Sets.{has, union}
use Rattle.game.specs.SetLaws.{union-below, union-has, left-union, right-union, has-below, none_has}
use Rattle.game.specs.LowestLaws.{lowest-of, cleared, cleared-falls}
use Rattle.game.specs.ListLaws.{test, clash}
use Rattle.family.specs.Family.{Unites, Lifts}
use Rattle.family.proofs.Digits.{union_more}

-- a digit that is set anew carries nothing
pub no-carry : (s e : ℕ) → e < 6 → s < 64 → has s e ≡ false → s + 2 ^ e < 64
no-carry s e l m off = subst (λ (x : ℕ). x < 64) (union_more s e off) (union-below 6 s (2 ^ e) m (pow-lt {j = 6} l))

-- A set of a word, and the word without it.
pub record Taken (word j rest : ℕ) : Type 0 where
  pub member : has word j ≡ true
  pub part : (s : ℕ) → has rest s ≡ true → has word s ≡ true
  pub alone : (s : ℕ) → has word s ≡ true → has rest s ≡ false → s ≡ j
  pub less : rest < word

-- its lowest set
pub lowest-taken : (word : ℕ) → word < 2 ^ 64 → (word ≡ 0 → ⊥) → Taken word (count_trailing_zeros 64 word) (bit_and word (word - 1)) × (count_trailing_zeros 64 word < 64)
lowest-taken word small some =
    let filled : 0 < word = omega (arith, some) in
    let t = lowest-of 64 word filled small in
    let c = cleared (count_trailing_zeros 64 word) word filled t.member t.below in (
      record {
        member = t.member;
        part =
            λ s h.
            ⊎_elim
            (λ (e : eqb s (count_trailing_zeros 64 word) ≡ true).
            clash h (ap (has (bit_and word (word - 1))) (eqb-true s (count_trailing_zeros 64 word) e) ∙ c.gone))
            (λ (e : eqb s (count_trailing_zeros 64 word) ≡ false). sym (c.kept s (eqb-false s (count_trailing_zeros 64 word) e)) ∙ h)
            (test (eqb s (count_trailing_zeros 64 word)));
        alone =
            λ s h off.
            ⊎_elim (λ (e : eqb s (count_trailing_zeros 64 word) ≡ true). eqb-true s (count_trailing_zeros 64 word) e)
            (λ (e : eqb s (count_trailing_zeros 64 word) ≡ false). clash h (sym (c.kept s (eqb-false s (count_trailing_zeros 64 word) e)) ∙ off))
            (test (eqb s (count_trailing_zeros 64 word)));
        less = cleared-falls word filled;
      },
      t.small,
    )

-- The sets of the second word that are passed have given their unions.
pub record Wording (a b out rest : ℕ) : Type 0 where
  pub small : rest < 2 ^ 64
  pub part : (s : ℕ) → has rest s ≡ true → has b s ≡ true
  pub from : (s : ℕ) → s < 64 → has out s ≡ true
      → (y z : ℕ) × (y < 64) × (z < 64) × (has a y ≡ true) × (has b z ≡ true) × (s ≡ union y z)
  pub into : (y z : ℕ) → y < 64 → z < 64 → has a y ≡ true → has b z ≡ true → has rest z ≡ false → has out (union y z) ≡ true

pub wording-starts : (a b : ℕ) → b < 2 ^ 64 → Wording a b 0 b
wording-starts a b small =
    record {
      small = small;
      part = λ s h. h;
      from = λ s l h. clash h (none_has s);
      into = λ y z l m h k off. clash k off;
    }

pub wording-more : (a b out rest : ℕ) → Wording a b out rest → (j next : ℕ) → Taken rest j next → (r : ℕ) → Lifts a j r
    → Wording a b (union out r) next
wording-more a b out rest w j next t r lifted =
    let here = w.part j t.member in
    record {
      small = omega (arith, w.small, t.less);
      part = λ s h. w.part s (t.part s h);
      from =
          λ s l h.
          ⊎_elim (w.from s l)
          (λ u.
          let p = lifted.from s l u in
          (p.0, j, p.1, has-below 64 rest j w.small t.member, p.2, here, p.3))
          (union-has out r s h);
      into =
          λ y z l m h k off.
          ⊎_elim
          (λ (on : has rest z ≡ true).
          right-union out r (union y z) (ap (λ (x : ℕ). has r (union y x)) (t.alone z on off) ∙ lifted.into y l h))
          (λ (gone : has rest z ≡ false). left-union out r (union y z) (w.into y z l m h k gone))
          (test (has rest z));
    }

pub wording-ends : (a b out rest : ℕ) → Wording a b out rest → rest ≡ 0 → Unites a b out
wording-ends a b out rest w none =
    record {
      from = w.from;
      into = λ y z l m h k. w.into y z l m h k (ap (λ (x : ℕ). has x z) none ∙ none_has z);
    }
