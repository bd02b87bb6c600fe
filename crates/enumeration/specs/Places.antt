-- Where the entries of each head stand in the old round, as the code keeps it: two places for each head.
use Rattle.std.specs.Prelude.{ℕ, ◌+◌, ◌*◌, ◌<◌, ◌≤◌, ◌≡◌, true, List, length, get_or}
use Rattle.game.specs.Sets.{has}
use Rattle.game.specs.Game.{PushdownGame}
use Rattle.table.specs.Table.{key}
use Rattle.table.specs.Rows.{Placed}

-- where a head's places are
abbrev pub place_at : ℕ → ℕ → ℕ
place_at q a = 2 * (q * 64 + a)

-- the place of a head's first entry, and the place after its last
pub record PlacedHead (work : List ℕ) (count : ℕ) (places : List ℕ) (q a : ℕ) : Type 0 where
  pub inside : place_at q a + 1 < length places
  pub start : Placed work count (key q a 0) (get_or places (place_at q a) 0)
  pub end : Placed work count (key q a 4294967296) (get_or places (place_at q a + 1) 0)

-- those of the heads before number m
abbrev pub PlacedTo : List ℕ → ℕ → List ℕ → ℕ → ℕ → Type 0
PlacedTo work count places letters m = (q a : ℕ) → a < letters → q * 64 + a < m → PlacedHead work count places q a

-- those of every head of the automaton
abbrev pub Placing : PushdownGame → List ℕ → ℕ → List ℕ → Type 0
Placing g work count places = (q a : ℕ) → q < g.states → a < g.letters → PlacedHead work count places q a

-- a state of a set has no entry on a letter: the place after its last one is not beyond that of its first
pub record Blocked (set count : ℕ) (places : List ℕ) (a : ℕ) : Type 0 where
  pub state : ℕ
  pub member : has set state ≡ true
  pub first : ℕ
  pub last : ℕ
  pub starts : (work : List ℕ) → PlacedHead work count places state a → Placed work count (key state a 0) first
  pub ends : (work : List ℕ) → PlacedHead work count places state a → Placed work count (key state a 4294967296) last
  pub none : last ≤ first
