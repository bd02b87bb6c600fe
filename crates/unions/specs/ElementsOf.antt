-- The elements of a game: the states of the sets of its target transitions, and those to which rules lead that write no letters. The sets
-- of all rounds are unions of these.
use Rattle.std.specs.Prelude.{ℕ, ◌+◌, ◌*◌, ◌%◌, ◌^◌, ◌<◌, ◌≤◌, ◌≡◌, ◌⊎◌, true, cond, List, ◌++◌, length, get_or, eqb}
use Rattle.game.specs.Sets.{has}
use Rattle.game.specs.Game.{Rule, Transition, PushdownGame}
use Rattle.game.specs.ListLaws.{◌∈◌}
use Rattle.game.specs.Held.{Held}
use Rattle.game.specs.Stored.{target_words}
use Rattle.game.specs.declared.game.Sizes.{Sizes}
use Rattle.unions.specs.Expand.{Elements, Within}
use Rattle.unions.specs.Ending.{Listed}

-- the elements as the code has them: how many, their states, the lowest first, and for each state its number as a set, 0 where it is none
pub record ElementsOf (g : PushdownGame) (el : List ℕ) (count : ℕ) (states numbers : List ℕ) : Type 0 where
  pub counted : count ≡ length el
  pub elements : Elements el g.states
  pub listed : (i : ℕ) → i < length el → get_or states i 0 ≡ get_or el i 0
  pub numbered : (i : ℕ) → i < length el → get_or numbers (get_or el i 0) 0 ≡ 2 ^ i
  pub others : (q : ℕ) → q < g.states → Listed el q ⊎ (get_or numbers q 0 ≡ 0)
  pub targets : (t : Transition) → t ∈ g.targets → Within el t.set
  pub pops : (r : Rule) → r ∈ g.rules → r.count ≡ 0 → Listed el r.to

-- what the code holds of a game: its sizes by value, its rules and target transitions as lent flat lists
pub record HeldTargets (g : PushdownGame) (sizes : Sizes) (rules targets : List ℕ) : Type 0 where
  pub held : Held g sizes rules
  pub slack : List ℕ
  pub targeted : targets ≡ target_words g.targets ++ slack

-- the elements as a set of states
pub record Reached (g : PushdownGame) (set : ℕ) : Type 0 where
  pub small : set < 2 ^ g.states
  pub targets : (t : Transition) → t ∈ g.targets → (s : ℕ) → has t.set s ≡ true → has set s ≡ true
  pub pops : (r : Rule) → r ∈ g.rules → r.count ≡ 0 → has set r.to ≡ true

-- the union of sets that are numbered: it has the states of each, and stays below a power of 2 below which they all are
pub record Gathered (part : ℕ → ℕ) (count set : ℕ) : Type 0 where
  pub all : (t s : ℕ) → t < count → has (part t) s ≡ true → has set s ≡ true
  pub small : (n : ℕ) → ((t : ℕ) → t < count → part t < 2 ^ n) → set < 2 ^ n

-- the set of a target transition, and the state to which a rule leads that writes no letters, as a set
abbrev pub target_set : List ℕ → ℕ → ℕ
target_set targets t = get_or targets (t * 3 + 2) 0

unfoldable pub pop_set : ℕ → ℕ → ℕ
pop_set to count = cond (eqb count 0) (2 ^ (to % 32)) 0

abbrev pub pop_set_at : List ℕ → ℕ → ℕ
pop_set_at rules r = pop_set (get_or rules (r * 6 + 2) 0) (get_or rules (r * 6 + 3) 0)

-- The states of a set are listed and numbered, the lowest first, as far as they are not in what is left of it.
pub record Named (set rest count : ℕ) (states numbers : List ℕ) : Type 0 where
  pub room : count ≤ length states
  pub rising : (i j : ℕ) → i < j → j < count → get_or states i 0 < get_or states j 0
  pub member : (i : ℕ) → i < count → has set (get_or states i 0) ≡ true
  pub before : (i k : ℕ) → i < count → has rest k ≡ true → get_or states i 0 < k
  pub numbered : (i : ℕ) → i < count → get_or numbers (get_or states i 0) 0 ≡ 2 ^ i
  pub others : (q : ℕ) → q < 32 → ((i : ℕ) × (i < count) × (get_or states i 0 ≡ q)) ⊎ (get_or numbers q 0 ≡ 0)
  pub whole : (k : ℕ) → has set k ≡ true → (has rest k ≡ true) ⊎ ((i : ℕ) × (i < count) × (get_or states i 0 ≡ k))
