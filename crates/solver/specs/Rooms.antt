-- What the rounds of a game whose sets have few states are given: the elements, and areas with nothing in them.
use Rattle.std.specs.Prelude.{ℕ, ◌+◌, ◌*◌, ◌/◌, ◌^◌, ◌<◌, ◌≤◌, ◌≡◌, false, List, length, get_or}
use Rattle.game.specs.Game.{PushdownGame}
use Rattle.family.specs.Family.{holds}
use Rattle.unions.specs.ElementsOf.{ElementsOf}

-- the elements as the code has them: their states and the numbers of states, and that no state leads out of the heads
pub record Numbers (elements : ℕ) (states numbers : List ℕ) (letters heads : ℕ) : Type 0 where
  pub few : elements ≤ 10
  pub long : length states ≡ 16
  pub wide : length numbers ≡ 32
  pub small : (q : ℕ) → q < 32 → get_or numbers q 0 < 1024
  pub rows : (i : ℕ) → i < 16 → get_or states i 0 * letters + letters ≤ heads

-- arrays of so many words, lines, hints, words that are given, and words of ends have room for the families of all heads, of as many
-- lines, and of 256 rules
pub record Rooms (heads n words lines hints given ends : ℕ) : Type 0 where
  pub few : heads ≤ 2048
  pub width : n ≤ 16
  pub area : (heads + lines) * n ≤ words
  pub giving : heads * n ≤ given
  pub ended : 256 * n ≤ ends
  pub some : 10 ≤ lines
  pub most : lines ≤ 2048
  pub hinted : 0 < hints
  pub hinting : hints ≤ 65536
  pub memory : (words ≤ 65536) × (given ≤ 65536) × (ends ≤ 65536)

-- no set is anywhere in an area
abbrev pub Blank : List ℕ → Type 0
Blank words = (place x : ℕ) → holds words place x ≡ false

pub record Blanks (all new added ends : List ℕ) : Type 0 where
  pub alls : Blank all
  pub news : Blank new
  pub adds : Blank added
  pub runs : Blank ends

-- the elements are those of a game, and n words have room for every set of them
pub record Few (g : PushdownGame) (elements n : ℕ) (states numbers : List ℕ) : Type 0 where
  pub el : List ℕ
  pub are : ElementsOf g el elements states numbers
  pub room : (x : ℕ) → x < 2 ^ length el → x / 64 < n

-- sets of so many elements have room in n words, and the states that are listed are states of the game
pub record Narrow (elements n : ℕ) (listed : List ℕ) (states : ℕ) : Type 0 where
  pub few : elements ≤ 10
  pub words : n ≤ 16
  pub room : (x : ℕ) → x < 2 ^ elements → x / 64 < n
  pub below : (i : ℕ) → i < 16 → get_or listed i 0 < states
