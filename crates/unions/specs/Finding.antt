-- What looking a family up promises: the families as they were, and of a set and a letter the family that has their unions.
use Rattle.std.specs.Prelude.{ℕ, ◌+◌, ◌*◌, ◌^◌, ◌<◌, ◌≤◌, ◌≡◌, ◌⊎◌, true, false, List, length, get_or}
use Rattle.game.specs.Sets.{has}
use Rattle.game.specs.Game.{PushdownGame}
use Rattle.table.specs.Table.{Entry}
use Rattle.family.specs.Masks.{Raising}
use Rattle.unions.specs.UnionSteps.{Added}
use Rattle.unions.specs.Pool.{Pool, Names, Head, Layout, Lines}
use Rattle.unions.specs.Pool as pool
use Rattle.unions.specs.Expand.{AllWithin}

-- the highest element of a set
pub record Top (x s : ℕ) : Type 0 where
  pub small : s < 10
  pub member : has x s ≡ true
  pub under : x < 2 ^ (s + 1)

-- as many lines as before, with room for ten more, or none
abbrev pub Kept : ℕ → ℕ → ℕ → Type 0
Kept count room r = ((r ≡ count) ⊎ (r ≡ 0)) × (10 ≤ room → r + 10 ≤ room)

abbrev pub Finds : ℕ → ℕ → ℕ → ℕ → ℕ → List ℕ → List ℕ → List ℕ → List ℕ → List ℕ → ℕ → List ℕ → List ℕ → List ℕ → ℕ → ℕ → Type 0
Finds letters heads n x c states raising all keys rests count all' keys' rests' family count' =
    (el : List ℕ) (g : PushdownGame) (es : List Entry) → Raising raising → letters ≡ g.letters → x < 2 ^ length el
    → Pool el g n heads states es all keys rests count
    → Pool el g n heads states es all' keys' rests' count' × Names el letters heads keys' count' family x c

-- the same where the family of the set without its lowest element is at hand
abbrev pub Finding : ℕ → ℕ → ℕ → ℕ → ℕ → ℕ → List ℕ → List ℕ → List ℕ → List ℕ → List ℕ → ℕ → ℕ → List ℕ → List ℕ → List ℕ → ℕ → ℕ → Type 0
Finding letters heads n y s c states raising all keys rests before count all' keys' rests' family count' =
    (el : List ℕ) (g : PushdownGame) (es : List Entry) (z : ℕ) → Raising raising → letters ≡ g.letters → c < letters → s < length el → y < 2 ^ length el → z < 1024
    → Added (length el) z s y → Pool el g n heads states es all keys rests count → Names el letters heads keys count before z c
    → Pool el g n heads states es all' keys' rests' count' × Names el letters heads keys' count' family y c

-- what the indices of bringing lines up to a table need
pub record Renewable (letters heads n : ℕ) (states all new keys rests fresh : List ℕ) : Type 0 where
  pub long : length states ≡ 16
  pub rows : (i : ℕ) → i < 16 → get_or states i 0 * letters + letters ≤ heads
  pub few : heads ≤ 2048
  pub words : n ≤ 16
  pub area : (heads + length keys) * n ≤ length all
  pub alike : length new ≡ length all
  pub most : length keys ≤ 2048
  pub same : length rests ≡ length keys
  pub masks : length fresh ≡ 64

-- for each letter, the elements that have a transition in the table and not in the older one are among those noted
abbrev pub Fresh : List ℕ → PushdownGame → List Entry → List Entry → List ℕ → Type 0
Fresh el g old es fresh =
    (c i z : ℕ) → c < g.letters → i < length el → has (get_or fresh c 0) i ≡ false → Head es (get_or el i 0) c z → Head old (get_or el i 0) c z

-- a table, an older one, and the lines
pub record Renewing (el : List ℕ) (g : PushdownGame) (n heads : ℕ) (states : List ℕ) (old es : List Entry) (fresh keys rests : List ℕ) (count : ℕ) : Type 0 where
  pub layout : Layout el g n
  pub listed : (i : ℕ) → i < length el → get_or states i 0 ≡ get_or el i 0
  pub rows : heads ≡ g.states * g.letters
  pub within : AllWithin el es
  pub kept : pool.Kept old es
  pub touched : Fresh el g old es fresh
  pub lines : Lines el g heads keys rests count
