-- The pass over a table, one entry at a time.
use Prim.Native.Nat.{ℕ, ◌+◌, ◌*◌, ◌/◌, ◌%◌, ◌<◌, ◌≤◌}
use mathlib.Core.Path.{◌≡◌}
use mathlib.Core.Bool.{true, false, ◌&&◌}
use mathlib.Core.List.{List}
use native.Mathlib.Omega.{arith}
use lib.ListN.{length}
use lib.Dec.{eqb, leb}
use borrow.Author.Tests.{leb-true}
use Rattle.game.specs.Limits.{max_entries}
use Rattle.game.specs.ListLaws.{both}
use Rattle.game.specs.Game.{PushdownGame}
use Rattle.game.specs.Outcome.{refused}
use Rattle.table.specs.Table.{length_in_form, form_from, table_form}

module _ (g : PushdownGame) (words : List ℕ) where
  pub opens : length_in_form (length words) ≡ true → table_form g words ≡ form_from g 0 0 0 0 words
  unfolding table_form
  opens h = rw h

  pub refuses-length : length_in_form (length words) ≡ false → table_form g words ≡ refused 13 0
  unfolding table_form
  refuses-length h = rw h

pub room : (i n : ℕ) → i < n / 3 → (i + 1) * 3 ≤ n
room i n h = omega arith

-- a length in form is that of a table's entries at most
pub few : (n : ℕ) → length_in_form n ≡ true → 0 + n / 3 ≤ max_entries
unfolding length_in_form
few n h = let z = leb-true n 6144 (both (leb 3 n) (leb n 6144) (both (leb 3 n && leb n 6144) (eqb (n % 3) 0) h).0).1 in omega arith
