-- The families of a round as the code keeps them: in one area those of the heads and, after them, lines, each of which has the unions
-- over a set and a letter.
use Rattle.std.specs.Prelude.{ℕ, ◌+◌, ◌*◌, ◌/◌, ◌^◌, ◌<◌, ◌≤◌, ◌≡◌, ◌⊎◌, true, List, length, get_or}
use Rattle.game.specs.Game.{PushdownGame}
use Rattle.game.specs.ListLaws.{◌∈◌}
use Rattle.table.specs.Table.{Entry}
use Rattle.family.specs.Family.{holds}
use Rattle.rounds.specs.Rounds.{sets_of}
use Rattle.unions.specs.Expand.{expand, Elements, AllWithin}
use Rattle.unions.specs.UnionSteps.{unions_of, Added}

-- the family of n words at a place has the sets that are described, and no others
pub record Is (el : List ℕ) (n : ℕ) (words : List ℕ) (at : ℕ) (P : ℕ → Type 0) : Type 0 where
  pub from : (x : ℕ) → x / 64 < n → holds words at x ≡ true → (x < 2 ^ length el) × P (expand el x)
  pub into : (x : ℕ) → x < 2 ^ length el → P (expand el x) → holds words at x ≡ true

-- it has sets that are described by P, and all that are not described by Q
pub record Grew (el : List ℕ) (n : ℕ) (words : List ℕ) (at : ℕ) (P Q : ℕ → Type 0) : Type 0 where
  pub from : (x : ℕ) → x / 64 < n → holds words at x ≡ true → (x < 2 ^ length el) × P (expand el x)
  pub into : (x : ℕ) → x < 2 ^ length el → P (expand el x) → Q (expand el x) ⊎ (holds words at x ≡ true)

-- a transition of a head, and a union over a set
abbrev pub Head : List Entry → ℕ → ℕ → ℕ → Type 0
Head es q a z = z ∈ sets_of es q a

abbrev pub Union : PushdownGame → List Entry → ℕ → ℕ → ℕ → Type 0
Union g es c x z = z ∈ unions_of g es c x

-- the elements of a game, and that a family of n words has room for every set of them
pub record Layout (el : List ℕ) (g : PushdownGame) (n : ℕ) : Type 0 where
  pub elements : Elements el g.states
  pub room : (x : ℕ) → x < 2 ^ length el → x / 64 < n
  pub few : n ≤ 16

abbrev pub HeadsHold : List ℕ → PushdownGame → ℕ → List Entry → List ℕ → Type 0
HeadsHold el g n es all = (q a : ℕ) → q < g.states → a < g.letters → Is el n all ((q * g.letters + a) * n) (Head es q a)

-- what each head has more than in an older table
abbrev pub HeadsGrew : List ℕ → PushdownGame → ℕ → List Entry → List Entry → List ℕ → Type 0
HeadsGrew el g n old es new = (q a : ℕ) → q < g.states → a < g.letters → Grew el n new ((q * g.letters + a) * n) (Head es q a) (Head old q a)

-- no head has less than in an older table
abbrev pub Kept : List Entry → List Entry → Type 0
Kept old es = (q a z : ℕ) → Head old q a z → Head es q a z

-- the key of a line: set and letter
abbrev pub key_for : ℕ → ℕ → ℕ
key_for x c = x + 1024 * c

-- a family by its number is that of the unions over set z of elements on letter c: that of a head, or an earlier line
pub data Names (el : List ℕ) (letters heads : ℕ) (keys : List ℕ) (count f z c : ℕ) : Type 0 where
  of-head : (i : ℕ) → i < length el → z ≡ 2 ^ i → f ≡ get_or el i 0 * letters + c → Names el letters heads keys count f z c
  of-line : (k : ℕ) → k < count → f ≡ heads + k → get_or keys k 0 ≡ key_for z c → Names el letters heads keys count f z c

-- a line: its set has an element below those of its rest, and the family of the rest comes before it
pub record Line (el : List ℕ) (g : PushdownGame) (heads : ℕ) (keys rests : List ℕ) (k : ℕ) : Type 0 where
  pub set : ℕ
  pub letter : ℕ
  pub keyed : get_or keys k 0 ≡ key_for set letter
  pub small : set < 2 ^ length el
  pub below : letter < g.letters
  pub element : ℕ
  pub rest : ℕ
  pub few : rest < 1024
  pub listed : element < length el
  pub added : Added (length el) rest element set
  pub named : Names el g.letters heads keys k (get_or rests k 0) rest letter

abbrev pub Lines : List ℕ → PushdownGame → ℕ → List ℕ → List ℕ → ℕ → Type 0
Lines el g heads keys rests count = (k : ℕ) → k < count → Line el g heads keys rests k

-- the lines from k on have the unions over a table
abbrev pub LinesHold : List ℕ → PushdownGame → ℕ → ℕ → List Entry → List ℕ → List ℕ → ℕ → ℕ → Type 0
LinesHold el g heads n es all keys k count =
    (i z c : ℕ) → k ≤ i → i < count → get_or keys i 0 ≡ key_for z c → z < 1024 → Is el n all ((heads + i) * n) (Union g es c (expand el z))

-- what they have more than over an older table
abbrev pub LinesGrew : List ℕ → PushdownGame → ℕ → ℕ → List Entry → List Entry → List ℕ → List ℕ → ℕ → Type 0
LinesGrew el g heads n old es new keys count =
    (i z c : ℕ) → i < count → get_or keys i 0 ≡ key_for z c → z < 1024
    → Grew el n new ((heads + i) * n) (Union g es c (expand el z)) (Union g old c (expand el z))

-- The families of a table, as the code keeps them; the states of the elements stand in a list that may be longer.
pub record Pool (el : List ℕ) (g : PushdownGame) (n heads : ℕ) (states : List ℕ) (es : List Entry) (all keys rests : List ℕ) (count : ℕ) : Type 0 where
  pub layout : Layout el g n
  pub listed : (i : ℕ) → i < length el → get_or states i 0 ≡ get_or el i 0
  pub rows : heads ≡ g.states * g.letters
  pub within : AllWithin el es
  pub hold : HeadsHold el g n es all
  pub lines : Lines el g heads keys rests count
  pub done : LinesHold el g heads n es all keys 0 count

-- what indices and casts need: the lengths of the areas
pub record Fits (letters heads n : ℕ) (states all keys rests hint : List ℕ) : Type 0 where
  pub long : length states ≡ 16
  pub rows : (i : ℕ) → i < 16 → get_or states i 0 * letters + letters ≤ heads
  pub few : heads ≤ 2048
  pub words : n ≤ 16
  pub area : (heads + length keys) * n ≤ length all
  pub some : 10 ≤ length keys
  pub most : length keys ≤ 2048
  pub same : length rests ≡ length keys
  pub hinted : 0 < length hint
  pub hints : length hint ≤ 65536
