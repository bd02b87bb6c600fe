-- What is kept from round to round.
use Rattle.std.specs.Prelude.{ℕ, suc, ◌+◌, ◌*◌, ◌<◌, ◌≤◌, ◌≡◌, ◌⊎◌, true, List, length, get_or}
use Rattle.game.specs.Game.{Rule, PushdownGame}
use Rattle.game.specs.Win.{is_abelard}
use Rattle.game.specs.ListLaws.{◌∈◌}
use Rattle.table.specs.Table.{Entry}
use Rattle.rounds.specs.Rounds.{next_round}
use Rattle.unions.specs.Expand.{AllWithin}
use Rattle.unions.specs.Pool.{Is, Layout, Lines}
use Rattle.unions.specs.PoolLaws.{Passing}
use Rattle.unions.specs.Ending.{RuleBefore}
use Rattle.noting.specs.Signs.{NoNews, Held}
use Rattle.noting.specs.Offers.{Adding}
use Rattle.unions.specs.Log.{Log}
use Rattle.saturation.specs.Steps.{Stepped, AbelardsTo}
use Rattle.saturation.specs.Ground.{Ground, RulesTo}

-- Between two rounds the heads have the transitions of the table `es` and what it has more than the older one, `old`; the lines and the
-- ends of Abelard's rules are still those over `old`; the entries are noted; and the heads with new transitions are marked, and the rules
-- whose first head had a transition.
pub record Resting (el : List ℕ) (g : PushdownGame) (n heads : ℕ) (old es : List Entry) (i abelard letters rulecount : ℕ) (rules states numbers raising all new keys rests fresh alive ends added log news held : List ℕ) (lines count : ℕ) : Type 0 where
  pub ground : Ground el g n old es i abelard letters rulecount rules numbers new fresh alive raising
  pub layout : Layout el g n
  pub listed : (k : ℕ) → k < length el → get_or states k 0 ≡ get_or el k 0
  pub rows : heads ≡ g.states * g.letters
  pub within : AllWithin el es
  pub passing : Passing el g n heads keys old es all new 0 lines
  pub lined : Lines el g heads keys rests lines
  pub ended : (r : Rule) → r ∈ g.rules → is_abelard g r.from ≡ true → Is el n ends (r.number * n) (RuleBefore g old i r)
  pub idle : Adding el g n es es added
  pub logged : Log el log count es
  pub tidings : NoNews g old es news
  pub reading : Held g old held

-- All that the runs give is noted: by the rules, then by Abelard's heads, of which there are no more than `rows`.
pub record RoundNoted (el : List ℕ) (g : PushdownGame) (n heads : ℕ) (states : List ℕ) (old es : List Entry) (i b rulecount rows : ℕ) (all keys rests ends stirred gains log added : List ℕ) (lines count : ℕ) : Type 0 where
  pub half-gains : List ℕ
  pub half-log : List ℕ
  pub half-added : List ℕ
  pub half_count : ℕ
  pub to : RulesTo el g n heads states old es i b es rulecount all keys rests ends stirred half-gains half-log half-added lines half_count
  pub stepped : Stepped el g n es b to.stepped.after (AbelardsTo g es rows) gains log added count

-- A round is taken, or does not fit so many entries.
abbrev pub RoundTaken : List ℕ → PushdownGame → ℕ → ℕ → List Entry → ℕ → ℕ → ℕ → ℕ → ℕ → ℕ → List ℕ → List ℕ → List ℕ → List ℕ → List ℕ → List ℕ → List ℕ → List ℕ → List ℕ → List ℕ → List ℕ → List ℕ → List ℕ → List ℕ → List ℕ → ℕ → ℕ → Type 0
RoundTaken el g n heads es i b size abelard letters rulecount rules states numbers raising all new keys rests fresh alive ends added log news held lines count =
    ((count ≡ size + 1) × (size < length (next_round g es b)))
    ⊎ ((count ≤ size) × Resting el g n heads es (next_round g es b) (suc i) abelard letters rulecount rules states numbers raising all new keys rests fresh alive ends added log news held lines count)
