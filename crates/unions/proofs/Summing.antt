-- The unions over sets are put into a family set by set.
use Prim.Native.Nat.{ℕ, ◌+◌, ◌*◌, ◌-◌, ◌/◌, ◌^◌, ◌<◌, ◌≤◌}
use native.Mathlib.Omega.{arith}
use mathlib.Core.Path.{◌≡◌, refl, sym, ap, subst, ◌∙◌}
use mathlib.Core.Logic.{◌⊎◌, inl, inr, ⊎_elim}
use mathlib.Core.Bool.{true, false}
use mathlib.Core.List.{List}
use lib.ListN.{length}
use lib.Bits.{bit_and}
use lib.Dec.{eqb}
use borrow.Author.Tests.{eqb-true, eqb-false}
use Rattle.game.specs.Sets.{has}
use Rattle.game.specs.SetLaws.{none_has}
use Rattle.game.specs.LowestLaws.{LowestOf, Cleared, cleared}
use Rattle.game.specs.ListLaws.{test, clash, either, left_or, right_or}
use Rattle.game.specs.Game.{PushdownGame}
use Rattle.judge.proofs.Target.{zero-or-more}
use Rattle.table.specs.Table.{Entry}
use Rattle.family.specs.Family.{holds, Joined}
use Rattle.family.specs.Masks.{Raising}
use Rattle.unions.specs.Expand.{expand}
use Rattle.unions.specs.Pool.{Is, Union, Pool, Names}
use Rattle.unions.specs.PoolLaws.{names-is, element-set}
use Rattle.unions.specs.Finding.{Finds}
use Rattle.unions.specs.Ending.{Sum, OfWord, Passed}

module _ (el : List ℕ) (g : PushdownGame) (n : ℕ) (es : List Entry) (c : ℕ) where
  pub sum-none : (S : ℕ → Type 0) (old : List ℕ) → ((y : ℕ) → S y → ⊥) → Sum el g n es c S old old
  sum-none S old none = record { from = λ x l h. inl h; kept = λ x l h. h; into = λ x y l s u. absurd (none y s) }

  -- one set more
  pub sum_one : (S T : ℕ → Type 0) (w : ℕ) (old mid more all : List ℕ) (at : ℕ) → ((x : ℕ) → x < 2 ^ length el → x / 64 < n) → Sum el g n es c S old mid
      → Is el n all at (Union g es c (expand el w)) → Joined mid 0 n all at more → ((y : ℕ) → S y → T y) → T w → ((y : ℕ) → T y → S y ⊎ (y ≡ w))
      → Sum el g n es c T old more
  sum_one S T w old mid more all at room s is j up new parts =
      record {
        from =
            λ x l h.
            ⊎_elim
            (λ k. ⊎_elim inl (λ q. inr (q.0, (q.1.0, up q.1.0 q.1.1, q.1.2))) (s.from x l k))
            (λ k. let q = is.from x l k in inr (q.0, (w, new, q.1)))
            (either (holds mid 0 x) (holds all at x) (sym (j.here x l) ∙ h));
        kept = λ x l h. j.here x l ∙ left_or (holds all at x) (s.kept x l h);
        into =
            λ x y l t u.
            j.here x (room x l)
            ∙ ⊎_elim (λ k. left_or (holds all at x) (s.into x y l k u))
            (λ (e : y ≡ w). right_or (holds mid 0 x) (is.into x l (subst (λ (v : ℕ). Union g es c (expand el v) (expand el x)) e u)))
            (parts y t);
      }

pub record Wording (word from c letters heads n : ℕ) (states raising more₀ all₀ keys₀ rests₀ hints₀ : List ℕ) (count₀ rest : ℕ) (more all keys rests hints : List ℕ) (count : ℕ) : Type 0 where
  pub left : (s : ℕ) → has rest s ≡ true → has word s ≡ true
  pub room : count ≤ length keys₀
  pub mores : length more ≡ length more₀
  pub areas : length all ≡ length all₀
  pub keyed : length keys ≡ length keys₀
  pub resting : length rests ≡ length rests₀
  pub hinting : length hints ≡ length hints₀
  pub sums : (el : List ℕ) (g : PushdownGame) (es : List Entry) → Raising raising → letters ≡ g.letters
      → ((s : ℕ) → s < 64 → has word s ≡ true → from + s < 2 ^ length el) → Pool el g n heads states es all₀ keys₀ rests₀ count₀
      → Pool el g n heads states es all keys rests count × Sum el g n es c (Passed word from rest) more₀ more

module _ (word from c letters heads n : ℕ) (states raising more₀ all₀ keys₀ rests₀ hints₀ : List ℕ) (count₀ : ℕ) where
  pub wording-starts : count₀ ≤ length keys₀ → Wording word from c letters heads n states raising more₀ all₀ keys₀ rests₀ hints₀ count₀ word more₀ all₀ keys₀ rests₀ hints₀ count₀
  wording-starts l =
      record {
        left = λ s h. h;
        room = l;
        mores = refl;
        areas = refl;
        keyed = refl;
        resting = refl;
        hinting = refl;
        sums = λ el g es ra lt small pool. (pool, sum-none el g n es c (Passed word from word) more₀ (λ y p. clash p.2 p.3));
      }

  module _ (rest s : ℕ) (more all keys rests hints more' all' keys' rests' hints' : List ℕ) (count family count' : ℕ) (w : Wording word from c letters heads n states raising more₀ all₀ keys₀ rests₀ hints₀ count₀ rest more all keys rests hints count) (some : 0 < rest) (low : LowestOf 64 rest s) (lc : c < letters) where
    gone : Cleared rest s (bit_and rest (rest - 1))
    gone = cleared s rest some low.member low.below

    kept : (k : ℕ) → has (bit_and rest (rest - 1)) k ≡ true → has rest k ≡ true
    kept k h = sym (gone.kept k (λ e. clash (ap (has (bit_and rest (rest - 1))) (sym e) ∙ h) gone.gone)) ∙ h

    parts : (y : ℕ) → Passed word from (bit_and rest (rest - 1)) y → Passed word from rest y ⊎ (y ≡ from + s)
    parts y m =
        ⊎_elim (λ (t : eqb m.0 s ≡ true). inr (m.4 ∙ ap (λ (k : ℕ). from + k) (eqb-true m.0 s t)))
        (λ (t : eqb m.0 s ≡ false). inl (m.0, m.1, m.2, sym (gone.kept m.0 (eqb-false m.0 s t)) ∙ m.3, m.4))
        (test (eqb m.0 s))

    pub wording-on : Finds letters heads n (from + s) c states raising all keys rests count all' keys' rests' family count' → count' ≤ length keys
        → Joined more 0 n all' (family * n) more' → length more' ≡ length more → length all' ≡ length all → length keys' ≡ length keys → length rests' ≡ length rests
        → length hints' ≡ length hints
        → Wording word from c letters heads n states raising more₀ all₀ keys₀ rests₀ hints₀ count₀ (bit_and rest (rest - 1)) more' all' keys' rests' hints' count'
    wording-on find lc' joined lm la lk lr lh =
        record {
          left = λ k h. w.left k (kept k h);
          room = omega (arith, lc', w.keyed);
          mores = lm ∙ w.mores;
          areas = la ∙ w.areas;
          keyed = lk ∙ w.keyed;
          resting = lr ∙ w.resting;
          hinting = lh ∙ w.hinting;
          sums =
              λ el g es ra lt small pool.
              let now = w.sums el g es ra lt small pool in
              let on = w.left s low.member in
              let inside = small s low.small on in
              let found = find el g es ra lt inside now.0 in
              let p = found.0 in
              let lcg : c < g.letters = omega arith in
              let is = names-is el g n p.layout heads keys' es all' count' family (from + s) c p.hold p.done lcg
              (element-set el g.states (from + s) p.layout.elements inside) (subst (λ (l : ℕ). Names el l heads keys' count' family (from + s) c) lt found.1) in (
                p,
                sum_one el g n es c (Passed word from rest) (Passed word from (bit_and rest (rest - 1))) (from + s) more₀ more more' all' (family * n) p.layout.room now.1 is joined
                    (λ y m. (m.0, m.1, m.2, gone.kept m.0 (λ e. clash low.member (ap (has rest) (sym e) ∙ m.3)) ∙ m.3, m.4))
                    (s, low.small, on, gone.gone, refl)
                    parts,
              );
        }

  pub wording-ends : (rest : ℕ) (more all keys rests hints : List ℕ) (count : ℕ) → rest ≡ 0
      → Wording word from c letters heads n states raising more₀ all₀ keys₀ rests₀ hints₀ count₀ rest more all keys rests hints count
      → (el : List ℕ) (g : PushdownGame) (es : List Entry) → Raising raising → letters ≡ g.letters
      → ((s : ℕ) → s < 64 → has word s ≡ true → from + s < 2 ^ length el) → Pool el g n heads states es all₀ keys₀ rests₀ count₀
      → Pool el g n heads states es all keys rests count × Sum el g n es c (OfWord word from) more₀ more
  wording-ends rest more all keys rests hints count e w el g es ra lt small pool =
      let r = w.sums el g es ra lt small pool in (
        r.0,
        record {
          from = λ x l h. ⊎_elim inl (λ q. let p = q.1.1 in inr (q.0, (q.1.0, (p.0, p.1, p.2, p.4), q.1.2))) (r.1.from x l h);
          kept = r.1.kept;
          into = λ x y l p u. r.1.into x y l (p.0, p.1, p.2, ap (λ (k : ℕ). has k p.0) e ∙ none_has p.0, p.3) u;
        },
      )

-- no set that is passed is empty
pub some-set : (word from rest s : ℕ) → (from ≡ 0 → has word 0 ≡ false) → ((k : ℕ) → has rest k ≡ true → has word k ≡ true) → LowestOf 64 rest s → 0 < from + s
some-set word from rest s none left low = ⊎_elim (λ (e : from + s ≡ 0). absurd (fails e)) (λ l. l) (zero-or-more (from + s))
  where
    fails : from + s ≡ 0 → ⊥
    fails e =
        let first : from ≡ 0 = omega arith in
        let zero-s : s ≡ 0 = omega arith in
        clash (ap (has word) (sym zero-s) ∙ left s low.member) (none first)
