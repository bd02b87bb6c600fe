-- Which heads and rules something has happened to, as bits. A bit may be set without need; where it is clear, nothing has happened.
use Rattle.std.specs.Prelude.{ℕ, ◌+◌, ◌*◌, ◌<◌, ◌≡◌, ◌⊎◌, Bool, true, false, List, get_or}
use Rattle.game.specs.Sets.{has}
use Rattle.game.specs.Game.{Rule, PushdownGame}
use Rattle.game.specs.ListLaws.{◌∈◌}
use Rattle.table.specs.Table.{Entry}
use Rattle.family.specs.Family.{holds}
use Rattle.unions.specs.Pool.{Head}
use Rattle.unions.specs.Ending.{RuleEnds, RuleBefore}

-- heads, by a word for each state and a bit for each letter: one that is not marked has no new transition
abbrev pub NoNews : PushdownGame → List Entry → List Entry → List ℕ → Type 0
NoNews g old es news = (q a z : ℕ) → q < g.states → a < g.letters → has (get_or news q 0) a ≡ false → Head es q a z → Head old q a z

-- the heads of control states, in a round: one that is not marked was given nothing
abbrev pub NoGains : PushdownGame → List Entry → List Entry → List ℕ → Type 0
NoGains g es now gains = (p a z : ℕ) → p < g.control → a < g.letters → has (get_or gains p 0) a ≡ false → Head now p a z → Head es p a z

-- rules, by a bit for each: the runs of one that is not marked have no new end
abbrev pub Unmoved : PushdownGame → List Entry → List Entry → ℕ → List ℕ → Type 0
Unmoved g old es i active = (r : Rule) → r ∈ g.rules → holds active 0 r.number ≡ false → (z : ℕ) → RuleEnds g es r z → RuleBefore g old i r z

-- the first head of a rule that is not marked has no transition
abbrev pub Held : PushdownGame → List Entry → List ℕ → Type 0
Held g es held = (r : Rule) → r ∈ g.rules → 0 < r.count → holds held 0 r.number ≡ false → (z : ℕ) → Head es r.to r.above z → ⊥

-- Rules by what their words read, as sets of rules of four words each: for each of 32 states those that lead to it, for each of 64
-- letters those that write it above, and those that write it below another, and then those that write no letters.
pub record Reads (rules : List ℕ) (count : ℕ) (readers : List ℕ) : Type 0 where
  pub start : (r : ℕ) → r < count → 0 < get_or rules (r * 6 + 3) 0 → holds readers (get_or rules (r * 6 + 2) 0 * 4) r ≡ true
  pub above : (r : ℕ) → r < count → 0 < get_or rules (r * 6 + 3) 0 → holds readers (128 + get_or rules (r * 6 + 4) 0 * 4) r ≡ true
  pub below : (r : ℕ) → r < count → 1 < get_or rules (r * 6 + 3) 0 → holds readers (384 + get_or rules (r * 6 + 5) 0 * 4) r ≡ true
  pub alone : (r : ℕ) → r < count → get_or rules (r * 6 + 3) 0 ≡ 0 → holds readers 640 r ≡ true

-- why rule r is passed over in a round, where it is: it is not the first round, its first head has no new transition, and no element has
-- one on a second letter, or the first head has no transition at all
pub record Left (rules : List ℕ) (r : ℕ) (news fresh : List ℕ) (is-first : Bool) (held held' active : List ℕ) : Type 0 where
  pub alone : holds active 0 r ≡ false → get_or rules (r * 6 + 3) 0 ≡ 0 → is-first ≡ false
  pub first : holds active 0 r ≡ false → 0 < get_or rules (r * 6 + 3) 0 → has (get_or news (get_or rules (r * 6 + 2) 0) 0) (get_or rules (r * 6 + 4) 0) ≡ false
  pub second : holds active 0 r ≡ false → 1 < get_or rules (r * 6 + 3) 0 → (get_or fresh (get_or rules (r * 6 + 5) 0) 0 ≡ 0) ⊎ (holds held' 0 r ≡ false)
  pub kept : holds held' 0 r ≡ false → 0 < get_or rules (r * 6 + 3) 0
      → (holds held 0 r ≡ false) × (has (get_or news (get_or rules (r * 6 + 2) 0) 0) (get_or rules (r * 6 + 4) 0) ≡ false)
