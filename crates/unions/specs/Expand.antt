-- Sets of elements: few states can be in a set at all, and a set of these is written as a small number, bit i for the i-th of them.
use Rattle.std.specs.Prelude.{ℕ, ◌+◌, ◌*◌, ◌/◌, ◌%◌, ◌^◌, ◌<◌, ◌≤◌, ◌≡◌, List, [], ◌∷◌, length, get_or}
use Rattle.game.specs.ListLaws.{◌∈◌}
use Rattle.table.specs.Table.{Entry}

-- the set of states that a set of elements stands for; the states of the elements are listed, the lowest first
unfoldable pub expand : List ℕ → ℕ → ℕ
expand [] x = 0
expand (s ∷ el) x = x % 2 * 2 ^ s + expand el (x / 2)

-- the listed states ascend, are at most ten, and are states below a number
pub record Elements (el : List ℕ) (states : ℕ) : Type 0 where
  pub rising : (i j : ℕ) → i < j → j < length el → get_or el i 0 < get_or el j 0
  pub few : length el ≤ 10
  pub small : (i : ℕ) → i < length el → get_or el i 0 < states

-- a set of elements stands for the set of states
abbrev pub Within : List ℕ → ℕ → Type 0
Within el z = (x : ℕ) × (x < 2 ^ length el) × (z ≡ expand el x)

abbrev pub AllWithin : List ℕ → List Entry → Type 0
AllWithin el es = (e : Entry) → e ∈ es → Within el e.set
