-- The unions over several sets, put into one family.
use Rattle.std.specs.Prelude.{ℕ, ◌+◌, ◌*◌, ◌/◌, ◌^◌, ◌<◌, ◌≤◌, ◌≡◌, ◌⊎◌, true, false, List, [], length, get_or}
use Rattle.game.specs.Sets.{has, union}
use Rattle.game.specs.Game.{Rule, PushdownGame, word_of}
use Rattle.game.specs.ListLaws.{◌∈◌}
use Rattle.table.specs.Table.{Entry}
use Rattle.rounds.specs.Rounds.{ends}
use Rattle.rounds.specs.RoundLaws.{AllRanged}
use Rattle.family.specs.Family.{holds}
use Rattle.unions.specs.Expand.{expand}
use Rattle.unions.specs.Pool.{Head, Union, HeadsGrew}
use Rattle.unions.specs.Finding.{Fresh}

-- of the sets of elements that S describes
pub record Sum (el : List ℕ) (g : PushdownGame) (n : ℕ) (es : List Entry) (c : ℕ) (S : ℕ → Type 0) (old more : List ℕ) : Type 0 where
  pub from : (x : ℕ) → x / 64 < n → holds more 0 x ≡ true
      → (holds old 0 x ≡ true) ⊎ ((x < 2 ^ length el) × ((y : ℕ) × S y × Union g es c (expand el y) (expand el x)))
  pub kept : (x : ℕ) → x / 64 < n → holds old 0 x ≡ true → holds more 0 x ≡ true
  pub into : (x y : ℕ) → x < 2 ^ length el → S y → Union g es c (expand el y) (expand el x) → holds more 0 x ≡ true

-- the sets of a word whose first set is `from`
abbrev pub OfWord : ℕ → ℕ → ℕ → Type 0
OfWord word from y = (s : ℕ) × (s < 64) × (has word s ≡ true) × (y ≡ from + s)

-- the sets of a word that are passed
abbrev pub Passed : ℕ → ℕ → ℕ → ℕ → Type 0
Passed word from rest y = (s : ℕ) × (s < 64) × (has word s ≡ true) × (has rest s ≡ false) × (y ≡ from + s)

-- set y, at digit s of a word of old sets and of one of new ones, is looked at
pub record Choice (old new still alive y s : ℕ) : Type 0 where
  pub some : 0 < y
  pub lives : union y alive ≡ alive
  pub moves : (has new s ≡ true) ⊎ ((has old s ≡ true) × (union y still ≡ still → ⊥))

-- the same by the family at a place
pub record Picked (n still alive : ℕ) (all new : List ℕ) (at y : ℕ) : Type 0 where
  pub within : y / 64 < n
  pub some : 0 < y
  pub lives : union y alive ≡ alive
  pub moves : (holds new at y ≡ true) ⊎ ((holds all at y ≡ true) × (union y still ≡ still → ⊥))

-- the sets at a place are sets of elements
abbrev pub Sets : List ℕ → ℕ → ℕ → List ℕ → List ℕ → Type 0
Sets el n at all new = (y : ℕ) → y / 64 < n → (holds all at y ≡ true) ⊎ (holds new at y ≡ true) → y < 2 ^ length el

-- the ends of runs over two letters, from a head and the letter below
abbrev pub Runs : PushdownGame → List Entry → ℕ → ℕ → ℕ → ℕ → Type 0
Runs g es q b c z = (x : ℕ) × Head es q b x × Union g es c x z

-- the ends of runs over a word, and those that were there when a round before, if there was one, was taken from an older table
abbrev pub Ends : PushdownGame → List Entry → ℕ → List ℕ → ℕ → Type 0
Ends g es q word z = z ∈ ends g.states es word q

abbrev pub Before : PushdownGame → List Entry → ℕ → ℕ → List ℕ → ℕ → Type 0
Before g old i q word z = (0 < i) × Ends g old q word z

-- no set is in a family
abbrev pub NoSets : List ℕ → Type 0
NoSets words = (x : ℕ) → holds words 0 x ≡ false

-- a state is one of the elements
abbrev pub Listed : List ℕ → ℕ → Type 0
Listed el q = (i : ℕ) × (i < length el) × (get_or el i 0 ≡ q)

-- what the indices need: each state's number as a set, and for each letter two sets of elements
pub record Masked (numbers fresh alive : List ℕ) : Type 0 where
  pub states : length numbers ≡ 32
  pub small : (q : ℕ) → q < 32 → get_or numbers q 0 < 1024
  pub news : length fresh ≡ 64
  pub lives : length alive ≡ 64
  pub few : (c : ℕ) → c < 64 → get_or alive c 0 < 1024

-- a table and an older one: what the heads have more, and the elements with new transitions, and with any; before round 1 the older
-- one is empty
pub record Growth (el : List ℕ) (g : PushdownGame) (n : ℕ) (old es : List Entry) (i : ℕ) (numbers new fresh alive : List ℕ) : Type 0 where
  pub grew : HeadsGrew el g n old es new
  pub touched : Fresh el g old es fresh
  pub dead : (c k z : ℕ) → c < g.letters → k < length el → has (get_or alive c 0) k ≡ false → Head es (get_or el k 0) c z → ⊥
  pub numbered : (k : ℕ) → k < length el → get_or numbers (get_or el k 0) 0 ≡ 2 ^ k
  pub ranged : AllRanged g es
  pub first : i ≡ 0 → old ≡ []

-- the same of a rule
abbrev pub RuleEnds : PushdownGame → List Entry → Rule → ℕ → Type 0
RuleEnds g es r = Ends g es r.to (word_of r.count r.above r.below)

abbrev pub RuleBefore : PushdownGame → List Entry → ℕ → Rule → ℕ → Type 0
RuleBefore g old i r = Before g old i r.to (word_of r.count r.above r.below)

-- what the indices of a rule's bytes need
pub record RuleFits (rules : List ℕ) (letters heads r : ℕ) : Type 0 where
  pub there : r * 6 + 6 ≤ length rules
  pub row : get_or rules (r * 6 + 2) 0 * letters + letters ≤ heads
  pub above : get_or rules (r * 6 + 4) 0 < letters
  pub below : get_or rules (r * 6 + 5) 0 < letters
  pub state : get_or rules (r * 6 + 2) 0 < 32
