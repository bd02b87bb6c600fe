-- The end of a round: what the heads have on the way, and at the end.
use Rattle.std.specs.Prelude.{ℕ, ◌+◌, ◌*◌, ◌/◌, ◌^◌, ◌<◌, ◌≡◌, ◌⊎◌, Bool, true, false, List, length, get_or}
use Rattle.game.specs.Sets.{has}
use Rattle.game.specs.Game.{PushdownGame}
use Rattle.table.specs.Table.{Entry}
use Rattle.family.specs.Family.{holds}
use Rattle.unions.specs.Expand.{expand}
use Rattle.unions.specs.Pool.{Head, HeadsHold, HeadsGrew}
use Rattle.noting.specs.Offers.{Adding}

-- every head has the transitions of the new table, what it has more is at hand, and what is left of the round's sets is in the table
pub record Ready (el : List ℕ) (g : PushdownGame) (n : ℕ) (es after : List Entry) (all new added : List ℕ) : Type 0 where
  pub hold : HeadsHold el g n after all
  pub grew : HeadsGrew el g n es after new
  pub idle : Adding el g n after after added

-- every element of a set is in another
abbrev pub Includes : ℕ → ℕ → Type 0
Includes more less = (k : ℕ) → has less k ≡ true → has more k ≡ true

-- a head has no more than in an older table
abbrev pub Still : List Entry → List Entry → ℕ → ℕ → Type 0
Still es after q a = (z : ℕ) → Head after q a z → Head es q a z

-- what a head has lies between two tables, and nothing is new that is not in the later one
pub record Between (el : List ℕ) (n : ℕ) (es after : List Entry) (q a at : ℕ) (all new : List ℕ) : Type 0 where
  pub from : (x : ℕ) → x / 64 < n → holds all at x ≡ true → (x < 2 ^ length el) × Head after q a (expand el x)
  pub into : (x : ℕ) → x < 2 ^ length el → Head es q a (expand el x) → holds all at x ≡ true
  pub news : (x : ℕ) → x / 64 < n → holds new at x ≡ true → (x < 2 ^ length el) × Head after q a (expand el x)

-- a head of a control state: while it is open, what it was given is added; once it is closed, it has all of the later table, what is
-- more than in the older one is new, and its mark is in two sets of elements if there is any
pub record Stage (el : List ℕ) (n : ℕ) (es after : List Entry) (q a at : ℕ) (is_open : Bool) (mark fresh alive : ℕ) (all new added : List ℕ) : Type 0 where
  pub given : (x : ℕ) → x / 64 < n → holds added at x ≡ true → (x < 2 ^ length el) × Head after q a (expand el x)
  pub left : is_open ≡ true → (x : ℕ) → x < 2 ^ length el → Head after q a (expand el x) → Head es q a (expand el x) ⊎ (holds added at x ≡ true)
  pub full : is_open ≡ false → (x : ℕ) → x < 2 ^ length el → Head after q a (expand el x) → holds all at x ≡ true
  pub more : is_open ≡ false → (x : ℕ) → x < 2 ^ length el → Head after q a (expand el x) → Head es q a (expand el x) ⊎ (holds new at x ≡ true)
  pub noted : is_open ≡ false → Still es after q a ⊎ (Includes fresh mark × Includes alive mark)

-- all heads; those of control states are open by a word for each state and a bit for each letter
pub record Halfway (el : List ℕ) (g : PushdownGame) (n : ℕ) (es after : List Entry) (numbers opens all new added fresh alive : List ℕ) : Type 0 where
  pub between : (q a : ℕ) → q < g.states → a < g.letters → Between el n es after q a ((q * g.letters + a) * n) all new
  pub stages : (p a : ℕ) → p < g.control → a < g.letters
      → Stage el n es after p a ((p * g.letters + a) * n) (has (get_or opens p 0) a) (get_or numbers p 0) (get_or fresh a 0) (get_or alive a 0) all new added
