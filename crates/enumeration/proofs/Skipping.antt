-- The turns of a walk over entries that are passed over.
use Prim.Native.Nat.{ℕ, ◌+◌, ◌*◌, ◌<◌}
use native.Mathlib.Omega.{arith}
use mathlib.Core.Path.{◌≡◌, subst}
use mathlib.Core.Logic.{◌⊎◌, ⊎_elim}
use mathlib.Core.Bool.{true, false}
use mathlib.Core.List.{List}
use lib.ListN.{get_or}
use lib.Dec.{ltb}
use borrow.Author.Tests.{ltb-true, ltb-false}
use Rattle.game.specs.ListLaws.{test}
use Rattle.game.specs.Sets.{union as unite}
use Rattle.enumeration.specs.Memo.{line_at}
use Rattle.enumeration.specs.Walk.{Skipped}

module _ (work memo : List ℕ) (tag rest union from end passing : ℕ) where
  abbrev pub Has : ℕ → Type 0
  Has k =
      (get_or work (k * 3) 0 < passing)
      ⊎ ((line : ℕ) × (line_at memo line ≡ record { tag = tag; left = rest; union = unite union (get_or work (k * 3 + 1) 0) }))

  pub begins : Skipped work memo tag rest union from end passing from
  begins = record { after = omega arith; within = omega arith; finished = λ k l m. absurd (omega arith) }

  pub skips : (i : ℕ) → Skipped work memo tag rest union from end passing i → i < end → Has i → Skipped work memo tag rest union from end passing (i + 1)
  skips i s l has =
      record {
        after = omega (arith, s.after);
        within = omega (arith, s.after);
        finished =
            λ k m n.
            ⊎_elim (λ (t : ltb k i ≡ true). s.finished k m (ltb-true k i t))
            (λ (t : ltb k i ≡ false).
            let same : i ≡ k = omega (arith, ltb-false k i t) in
            subst Has same has)
            (test (ltb k i));
      }
