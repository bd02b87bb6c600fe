-- The ends of rules as the code keeps them: lists of sets, one after another in one area, and for each rule two words that say
-- where its list begins and where it ends.
use Rattle.std.specs.Prelude.{ℕ, ◌+◌, ◌*◌, ◌-◌, ◌<◌, ◌≤◌, min, ◌≡◌, ◌⊎◌, length, get_or, take, drop, set}
use mathlib.Core.List.{List, flat_map}
use Rattle.game.specs.Sets.{union}
use Rattle.game.specs.Game.{PushdownGame}
use Rattle.game.specs.StoredLaws.{no_rule}
use Rattle.game.specs.ListLaws.{◌∈◌}
use Rattle.table.specs.Table.{Entry}
use Rattle.rounds.specs.Rounds.{rule_ends}
use Rattle.enumeration.specs.Jobs.{sub_runs}

-- where the list of a rule begins
abbrev pub start_of : List ℕ → ℕ → ℕ
start_of spans r = get_or spans (r * 2) 0

-- where it ends, within an area of so many words
abbrev pub stop_of : List ℕ → ℕ → ℕ → ℕ
stop_of spans r size = min (get_or spans (r * 2 + 1) 0) size

-- the list of a rule
abbrev pub list_of : List ℕ → List ℕ → ℕ → List ℕ
list_of lists spans r = take (stop_of spans r (length lists) - start_of spans r) (drop (start_of spans r) lists)

-- A list that is not empty has the ends of its rule's runs, none of them empty.
pub record Listed (g : PushdownGame) (old : List Entry) (lists spans : List ℕ) : Type 0 where
  pub inside : (r z : ℕ) → r < length g.rules → start_of spans r < stop_of spans r (length lists) → z ∈ list_of lists spans r
      → (z ∈ rule_ends g old (get_or g.rules r no_rule)) × (0 < z)
  pub all : (r z : ℕ) → r < length g.rules → start_of spans r < stop_of spans r (length lists)
      → z ∈ rule_ends g old (get_or g.rules r no_rule) → z ∈ list_of lists spans r

-- words after the first n of them were set to 0
pub record Cleared (words : List ℕ) (n : ℕ) (after : List ℕ) : Type 0 where
  pub long : length after ≡ length words
  pub zeros : (k : ℕ) → k < n → get_or after k 0 ≡ 0
  pub others : (k : ℕ) → n ≤ k → get_or after k 0 ≡ get_or words k 0

-- an area after the sets of so many entries were put into it from a place on
pub record Copied (lists sets : List ℕ) (count room : ℕ) (after : List ℕ) : Type 0 where
  pub long : length after ≡ length lists
  pub copies : (k : ℕ) → k < count → get_or after (room + k) 0 ≡ get_or sets (k * 3 + 1) 0
  pub before : (k : ℕ) → k < room → get_or after k 0 ≡ get_or lists k 0

-- the sets were put there as the list of rule r
pub record Appended (lists spans sets : List ℕ) (count r room : ℕ) (lists' spans' : List ℕ) (x : ℕ) : Type 0 where
  pub ends : x ≡ room + count
  pub marked : spans' ≡ set (set spans (r * 2) room) (r * 2 + 1) (room + count)
  pub copied : Copied lists sets count room lists'

-- What is left of lists and spans when the sets of the first `count` entries were to be kept as the list of rule r from `room` on,
-- and the room begins at x afterwards: nothing has changed, or the list is there.
pub record Kept (lists spans sets : List ℕ) (count r room : ℕ) (lists' spans' : List ℕ) (x : ℕ) : Type 0 where
  pub long : length lists' ≡ length lists
  pub wide : length spans' ≡ length spans
  pub within : x ≤ length lists
  pub either :
      ((lists' ≡ lists) × (spans' ≡ spans) × (x ≡ room))
      ⊎ Appended lists spans sets count r room lists' spans' x

-- the unions of the ends that are listed for rule r, `u` in hand, with one run for each of the job's later rules
unfoldable pub listed_runs : PushdownGame → List Entry → ℕ → ℕ → ℕ → List ℕ → List ℕ → ℕ → ℕ → List ℕ
listed_runs g old p a end lists spans r u = flat_map (λ z. sub_runs g old p a end r 0 (union u z)) (list_of lists spans r)

-- every word is zero: of spans, no rule is listed
abbrev pub Zero : List ℕ → Type 0
Zero words = (k : ℕ) → get_or words k 0 ≡ 0

-- every list ends before the room begins
abbrev pub Bounded : List ℕ → ℕ → Type 0
Bounded spans room = (k : ℕ) → get_or spans (k * 2 + 1) 0 ≤ room
