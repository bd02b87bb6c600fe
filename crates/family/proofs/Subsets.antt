-- The subsets of a set by words: word j has some if j is inside the set's own word, and then those whose place is inside the set's place.
use Prim.Native.Nat.{ℕ, ◌+◌, ◌*◌, ◌/◌, ◌%◌, ◌<◌}
use native.Mathlib.Omega.{arith}
use native.Mathlib.Nat.{mod-lt}
use mathlib.Core.Path.{◌≡◌, refl, sym, ap, ◌∙◌}
use mathlib.Core.Logic.{◌↔◌}
use mathlib.Core.Bool.{true}
use mathlib.Core.List.{List}
use lib.ListN.{get_or}
use borrow.Author.Tests.{eqb-true, eq-eqb}
use Rattle.game.specs.Sets.{has, union}
use Rattle.game.specs.SetLaws.{union-below, none_has}
use Rattle.game.specs.ListLaws.{clash}
use Rattle.family.specs.Masks.{Masks}
use Rattle.family.proofs.Places.{whole, union-parts}

module _ (x j s : ℕ) (l : s < 64) where
  parts : union (j * 64 + s) x ≡ union j (x / 64) * 64 + union s (x % 64)
  parts = ap (union (j * 64 + s)) (whole x (x / 64) refl) ∙ union-parts j (x / 64) s (x % 64) l (mod-lt x (omega arith))

  place-fits : union s (x % 64) < 64
  place-fits = union-below 6 s (x % 64) l (mod-lt x (omega arith))

  pub no-subset : (union j (x / 64) ≡ x / 64 → ⊥) → (has 0 s ≡ true) ↔ (union (j * 64 + s) x ≡ x)
  no-subset apart = (λ h. clash h (none_has s), λ e. absurd (apart (omega (arith, parts, place-fits, e))))

  pub subset : (table : List ℕ) → Masks table (x % 64) → union j (x / 64) ≡ x / 64
      → (has (get_or table (x % 64 * 8 + 7) 0) s ≡ true) ↔ (union (j * 64 + s) x ≡ x)
  subset table m word = (
    λ h.
        let place = eqb-true (union s (x % 64)) (x % 64) (sym (m.under s l) ∙ h) in
        omega (arith, parts, word, place),
    λ e. m.under s l ∙ eq-eqb (union s (x % 64)) (x % 64) (omega (arith, parts, place-fits, e)),
  )
