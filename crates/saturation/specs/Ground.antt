-- What a round is taken from, what its areas must have room for, and what holds once some of the rules are taken.
use Rattle.std.specs.Prelude.{ℕ, ◌+◌, ◌*◌, ◌<◌, ◌≤◌, ◌≡◌, ◌⊎◌, true, List, ◌++◌, length, get_or}
use Rattle.game.specs.Game.{Rule, PushdownGame}
use Rattle.game.specs.GoodGame.{Good}
use Rattle.game.specs.Stored.{rule_bytes}
use Rattle.game.specs.Win.{is_abelard}
use Rattle.game.specs.ListLaws.{◌∈◌}
use Rattle.table.specs.Table.{Entry}
use Rattle.table.specs.Pairwise.{Ascending}
use Rattle.family.specs.Masks.{Raising}
use Rattle.rounds.specs.Rounds.{next_round}
use Rattle.unions.specs.Pool.{Is, Pool, Fits, Kept}
use Rattle.unions.specs.Ending.{Growth, Listed, Masked, RuleEnds, RuleBefore, RuleFits}
use Rattle.saturation.specs.Steps.{Ripe, Calm, Stepped, EloisesTo}

-- what the code holds of a game in a round: Abelard's states, how many letters and rules there are, and the rules' bytes
pub record Owned (g : PushdownGame) (abelard letters rulecount : ℕ) (rules : List ℕ) : Type 0 where
  pub lettered : letters ≡ g.letters
  pub owners : abelard ≡ g.abelard
  pub counted : rulecount ≡ length g.rules
  pub slack : List ℕ
  pub stands : rules ≡ rule_bytes g.rules ++ slack

-- a good game, its table, and the older table that the last round was taken from
pub record Ground (el : List ℕ) (g : PushdownGame) (n : ℕ) (old es : List Entry) (i abelard letters rulecount : ℕ) (rules numbers new fresh alive raising : List ℕ) : Type 0 where
  pub owned : Owned g abelard letters rulecount rules
  pub good : Good g
  pub raises : Raising raising
  pub growth : Growth el g n old es i numbers new fresh alive
  pub kept : Kept old es
  pub pops : (r : Rule) → r ∈ g.rules → r.count ≡ 0 → Listed el r.to
  pub ripe : Ripe g old es i
  pub ascending : Ascending es

-- what the indices of a round need: the lengths of its areas, and that the bytes of the rules lead nowhere else
pub record Areas (letters heads n rulecount size : ℕ) (rules states numbers all new keys rests hints fresh alive ends added log raising : List ℕ) : Type 0 where
  pub fits : Fits letters heads n states all keys rests hints
  pub few : letters ≤ 64
  pub alike : length new ≡ length all
  pub masked : Masked numbers fresh alive
  pub masks : 512 ≤ length raising
  pub ruled : (r : ℕ) → r < rulecount → RuleFits rules letters heads r
  pub headed : (r : ℕ) → r < rulecount → get_or rules (r * 6) 0 * letters + get_or rules (r * 6 + 1) 0 < heads
  pub owned : (r : ℕ) → r < rulecount → (get_or rules (r * 6) 0 < 32) × (get_or rules (r * 6 + 1) 0 < 64)
  pub some : rulecount ≤ 256
  pub ended : rulecount * n ≤ length ends
  pub giving : heads * n ≤ length added
  pub noting : size * 3 ≤ length log
  pub most : size ≤ 2048

-- The rules below number k are taken: the ends of Abelard's are those over the table, the heads of which have more are marked, and what
-- Éloise's give is noted.
pub record RulesTo (el : List ℕ) (g : PushdownGame) (n heads : ℕ) (states : List ℕ) (old es : List Entry) (i b : ℕ) (now : List Entry) (k : ℕ) (all keys rests ends stirred gains log added : List ℕ) (lines count : ℕ) : Type 0 where
  pub pool : Pool el g n heads states es all keys rests lines
  pub done : (r : Rule) → r ∈ g.rules → is_abelard g r.from ≡ true → r.number < k → Is el n ends (r.number * n) (RuleEnds g es r)
  pub calm : (r : Rule) → r ∈ g.rules → r.number < k → Calm g old es i stirred r
  pub left : (r : Rule) → r ∈ g.rules → is_abelard g r.from ≡ true → k ≤ r.number → Is el n ends (r.number * n) (RuleBefore g old i r)
  pub stepped : Stepped el g n es b now (EloisesTo g es k) gains log added count

-- or the round does not fit so many entries
abbrev pub RulesTaken : List ℕ → PushdownGame → ℕ → ℕ → List ℕ → List Entry → List Entry → ℕ → ℕ → ℕ → List Entry → ℕ → List ℕ → List ℕ → List ℕ → List ℕ → List ℕ → List ℕ → List ℕ → List ℕ → ℕ → ℕ → Type 0
RulesTaken el g n heads states old es i b size now k all keys rests ends stirred gains log added lines count =
    ((count ≡ size + 1) × (size < length (next_round g es b)))
    ⊎ ((count ≤ size) × RulesTo el g n heads states old es i b now k all keys rests ends stirred gains log added lines count)
