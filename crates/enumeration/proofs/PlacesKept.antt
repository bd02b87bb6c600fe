-- The places of heads after those of one more were written.
use Prim.Native.Nat.{ℕ, ◌+◌, ◌*◌, ◌<◌, ◌≤◌}
use native.Mathlib.Omega.{arith}
use mathlib.Core.Path.{◌≡◌, ◌∙◌}
use mathlib.Core.Logic.{⊎_elim}
use mathlib.Core.Bool.{true, false}
use mathlib.Core.List.{List}
use lib.ListN.{length, get_or, set, length-set}
use lib.Seq.{get_or-set_same, get_or-set_other}
use lib.Dec.{ltb}
use borrow.Author.Tests.{ltb-true, ltb-false}
use Rattle.game.specs.ListLaws.{test}
use Rattle.table.specs.Table.{key}
use Rattle.table.specs.Rows.{Placed}
use Rattle.enumeration.specs.Places.{place_at, PlacedHead, PlacedTo}

module _ (work : List ℕ) (count : ℕ) (places : List ℕ) (letters q a start end : ℕ) (long : length places ≡ 4096) (low : q < 32) (high : a < 64) where
  abbrev one : List ℕ
  one = set places (place_at q a) start

  abbrev both : List ℕ
  both = set one (place_at q a + 1) end

  long-both : length both ≡ 4096
  long-both = rw (length-set, length-set) long

  untouched : (j : ℕ) → (j ≡ place_at q a → ⊥) → (j ≡ place_at q a + 1 → ⊥) → get_or both j 0 ≡ get_or places j 0
  untouched j x y =
      get_or-set_other one (place_at q a + 1) j end 0 y ∙ get_or-set_other places (place_at q a) j start 0 x

  -- a head that was placed before
  kept : (p b : ℕ) → p * 64 + b < q * 64 + a → PlacedHead work count places p b → PlacedHead work count both p b
  kept p b l h =
      record {
        inside = rw long-both (omega (arith, h.inside));
        start = rw (untouched (place_at p b) (λ e. omega arith) (λ e. omega arith)) h.start;
        end = rw (untouched (place_at p b + 1) (λ e. omega arith) (λ e. omega arith)) h.end;
      }

  -- the one that is written
  written : Placed work count (key q a 0) start → Placed work count (key q a 4294967296) end → PlacedHead work count both q a
  written s e =
      record {
        inside = rw long-both (omega arith);
        start =
            rw
            (get_or-set_other one (place_at q a + 1) (place_at q a) end 0 (λ x. omega arith)
            ∙ get_or-set_same places (place_at q a) start 0 (omega arith))
            s;
        end = rw (get_or-set_same one (place_at q a + 1) end 0 (rw length-set (omega arith))) e;
      }

  pub head-placed : letters ≤ 64 → Placed work count (key q a 0) start → Placed work count (key q a 4294967296) end
      → PlacedTo work count places letters (q * 64 + a) → PlacedTo work count both letters (q * 64 + a + 1)
  head-placed few s e to p b lb l =
      ⊎_elim
      (λ (t : ltb (p * 64 + b) (q * 64 + a) ≡ true).
      let before = ltb-true (p * 64 + b) (q * 64 + a) t in
      kept p b before (to p b lb before))
      (λ (t : ltb (p * 64 + b) (q * 64 + a) ≡ false).
      let not-before = ltb-false (p * 64 + b) (q * 64 + a) t in
      let same-state : p ≡ q = omega (arith, not-before) in
      let same-letter : b ≡ a = omega (arith, not-before) in
      rw (same-state, same-letter) (written s e))
      (test (ltb (p * 64 + b) (q * 64 + a)))
