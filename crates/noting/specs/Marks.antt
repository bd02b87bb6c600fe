-- For each letter the elements that have a transition on it.
use Rattle.std.specs.Prelude.{ℕ, ◌+◌, ◌*◌, ◌/◌, ◌<◌, ◌≡◌, false, List, length, get_or}
use Rattle.game.specs.Sets.{has}
use Rattle.game.specs.Game.{PushdownGame}
use Rattle.table.specs.Table.{Entry}
use Rattle.family.specs.Family.{holds}
use Rattle.unions.specs.Pool.{Head}

-- of the first `count` elements those that are not marked have no set on letter c in an area
pub record Marked (n letters : ℕ) (states words : List ℕ) (c count set : ℕ) : Type 0 where
  pub none : (k : ℕ) → k < count → has set k ≡ false → (x : ℕ) → x / 64 < n → holds words ((get_or states k 0 * letters + c) * n) x ≡ false

-- for each letter, the elements that have a transition in the table are among those noted
abbrev pub Dead : List ℕ → PushdownGame → List Entry → List ℕ → Type 0
Dead el g es alive = (c k z : ℕ) → c < g.letters → k < length el → has (get_or alive c 0) k ≡ false → Head es (get_or el k 0) c z → ⊥
