-- The entries of the last round are noted one after another, and rules that can have none of them are looked for from the last one
-- on.
use Prim.Native.Nat.{ℕ, ◌+◌, ◌*◌, ◌/◌, ◌%◌, ◌<◌}
use native.Mathlib.Omega.{arith}
use mathlib.Core.Path.{◌≡◌, ap, ◌∙◌}
use mathlib.Core.Logic.{◌⊎◌, inl, inr, ⊎_elim}
use mathlib.Core.Bool.{true, false}
use mathlib.Core.List.{List}
use lib.ListN.{length, get_or, set}
use lib.Seq.{get_or-set_same, get_or-set_other}
use lib.Dec.{eqb, ltb}
use borrow.Author.Tests.{eqb-true, eqb-false, ltb-true, ltb-false}
use Rattle.game.specs.Sets.{has, single, union}
use Rattle.game.specs.SetLaws.{left-union, right-union, single-has}
use Rattle.game.specs.ListLaws.{test}
use Rattle.enumeration.specs.Past.{Marked}

module _ (work fresh : List ℕ) (late i : ℕ) (m : Marked work fresh late i) (first : ℕ) (e : first ≡ get_or work (i * 3) 0) where
  -- one entry more, by what is known of it
  one_more : (fresh' : List ℕ)
      → ((k : ℕ) → has (get_or fresh (get_or work (k * 3) 0 / 256 % 256) 0) (get_or work (k * 3) 0 % 256) ≡ true
      → has (get_or fresh' (get_or work (k * 3) 0 / 256 % 256) 0) (get_or work (k * 3) 0 % 256) ≡ true)
      → (first % 256 < 32 → (first < late) ⊎ (has (get_or fresh' (first / 256 % 256) 0) (first % 256) ≡ true))
      → Marked work fresh' late (i + 1)
  one_more fresh' kept here k l small =
      ⊎_elim
      (λ (t : ltb k i ≡ true). ⊎_elim inl (λ h. inr (kept k h)) (m k (ltb-true k i t) small))
      (λ (t : ltb k i ≡ false).
      let same : i ≡ k = omega (arith, ltb-false k i t) in
      let is : first ≡ get_or work (k * 3) 0 = e ∙ ap (λ (j : ℕ). get_or work (j * 3) 0) same in
      rw is at here small)
      (test (ltb k i))

  module _ (at word : ℕ) (a : at ≡ first / 256 % 256) (inside : at < length fresh) (w : word ≡ union (get_or fresh at 0) (single (first % 256))) where
    here-is : get_or (set fresh at word) at 0 ≡ word
    here-is = get_or-set_same fresh at word 0 inside

    kept_at : (b q : ℕ) → has (get_or fresh b 0) q ≡ true → has (get_or (set fresh at word) b 0) q ≡ true
    kept_at b q h =
        ⊎_elim
        (λ (t : eqb b at ≡ true).
        let same = eqb-true b at t in
        rw (same, here-is, w) (left-union (get_or fresh at 0) (single (first % 256)) q (rw same at h)))
        (λ (t : eqb b at ≡ false). rw (get_or-set_other fresh at b word 0 (λ x. eqb-false b at t x)) h)
        (test (eqb b at))

    pub mark_set : Marked work (set fresh at word) late (i + 1)
    mark_set =
        one_more (set fresh at word) (λ k h. kept_at (get_or work (k * 3) 0 / 256 % 256) (get_or work (k * 3) 0 % 256) h)
        (λ small.
        inr
        (rw (← a, here-is, w) (right-union (get_or fresh at 0) (single (first % 256)) (first % 256) (single-has (first % 256)))))
