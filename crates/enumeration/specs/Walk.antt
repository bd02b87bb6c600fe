-- What a walk through the states left of a set keeps: entries that are older than a word says, or that the memo has, are passed over.
use Rattle.std.specs.Prelude.{ℕ, ◌+◌, ◌*◌, ◌<◌, ◌≤◌, max, ◌≡◌, ◌⊎◌, List, get_or}
use Rattle.game.specs.Sets.{union as unite}
use Rattle.enumeration.specs.Memo.{line_at}

-- from one place to another, every entry's first word is below a word, or its set, united with what was passed, stands in the memo
-- with the states `rest` left
pub record Skipped (work memo : List ℕ) (tag rest union from end passing r : ℕ) : Type 0 where
  pub after : from ≤ r
  pub within : r ≤ max from end
  pub finished : (k : ℕ) → from ≤ k → k < r
      → (get_or work (k * 3) 0 < passing)
      ⊎ ((line : ℕ) × (line_at memo line ≡ record { tag = tag; left = rest; union = unite union (get_or work (k * 3 + 1) 0) }))
