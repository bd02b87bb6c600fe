-- A round as the code takes it, step by step: what was noted before a step, and what is noted after it.
use Rattle.std.specs.Prelude.{ℕ, ◌+◌, ◌*◌, ◌<◌, ◌≤◌, ◌≡◌, ◌⊎◌, true, false, List, map, length, get_or}
use Rattle.game.specs.Sets.{has}
use Rattle.game.specs.Game.{Rule, PushdownGame, rules_of}
use Rattle.game.specs.Win.{is_abelard}
use Rattle.game.specs.ListLaws.{◌∈◌}
use Rattle.table.specs.Table.{Entry}
use Rattle.rounds.specs.Rounds.{unions, rule_ends, next_round}
use Rattle.rounds.specs.Candidates.{Gives}
use Rattle.unions.specs.Pool.{Is, Head}
use Rattle.unions.specs.Ending.{RuleEnds, RuleBefore}
use Rattle.noting.specs.Signs.{NoGains}
use Rattle.noting.specs.Taking.{Taking}
use Rattle.noting.specs.Offers.{Adding}

-- the ends of the runs of each of Abelard's rules, at its number
abbrev pub EndsHold : List ℕ → PushdownGame → ℕ → List Entry → List ℕ → Type 0
EndsHold el g n es ends = (r : Rule) → r ∈ g.rules → is_abelard g r.from ≡ true → Is el n ends (r.number * n) (RuleEnds g es r)

-- a rule of Abelard's whose head is not marked has no new end
abbrev pub Calm : PushdownGame → List Entry → List Entry → ℕ → List ℕ → Rule → Type 0
Calm g old es i stirred r = is_abelard g r.from ≡ true → has (get_or stirred r.from 0) r.top ≡ false → (z : ℕ) → RuleEnds g es r z → RuleBefore g old i r z

-- what the runs of the older table give is in the table, if a round was taken from the older one
abbrev pub Ripe : PushdownGame → List Entry → List Entry → ℕ → Type 0
Ripe g old es i = (p a z field : ℕ) → p < g.control → a < g.letters → 0 < i → Gives g old p a z field → Head es p a z

-- more was noted: all that was there, and what G describes; a head that is not marked was given nothing in the round
pub record Stepped (el : List ℕ) (g : PushdownGame) (n : ℕ) (es : List Entry) (b : ℕ) (now : List Entry) (G : ℕ → ℕ → ℕ → Type 0) (gains log added : List ℕ) (count : ℕ) : Type 0 where
  pub after : List Entry
  pub taking : Taking el g es b log count after
  pub adding : Adding el g n es after added
  pub kept : (q c z : ℕ) → Head now q c z → Head after q c z
  pub given : (p a z : ℕ) → p < g.control → a < g.letters → G p a z → Head after p a z
  pub gained : NoGains g es after gains

-- or the round does not fit so many entries
abbrev pub Step : List ℕ → PushdownGame → ℕ → List Entry → ℕ → ℕ → List Entry → (ℕ → ℕ → ℕ → Type 0) → List ℕ → List ℕ → List ℕ → ℕ → Type 0
Step el g n es b size now G gains log added count =
    ((count ≡ size + 1) × (size < length (next_round g es b))) ⊎ ((count ≤ size) × Stepped el g n es b now G gains log added count)

-- what Éloise's rules below number k give
abbrev pub EloisesTo : PushdownGame → List Entry → ℕ → ℕ → ℕ → ℕ → Type 0
EloisesTo g es k p a z = (is_abelard g p ≡ false) × ((r : Rule) × (r ∈ rules_of g p a) × (r.number < k) × (z ∈ rule_ends g es r))

-- what the runs give those of Abelard's heads whose number is below k
abbrev pub AbelardsTo : PushdownGame → List Entry → ℕ → ℕ → ℕ → ℕ → Type 0
AbelardsTo g es k p a z = (is_abelard g p ≡ true) × (p * g.letters + a < k) × (z ∈ unions (map (rule_ends g es) (rules_of g p a)))
