-- What a lost verdict says over any table that passes 13, solved or from elsewhere: the rule field names the lowest-numbered rule of
-- Abelard's head whose successor has no bound over that table, or it is 0.
use Rattle.std.specs.Prelude.{ℕ, suc, ◌<◌, ◌≡◌, ◌⊎◌, true, false, List, ◌∷◌}
use Rattle.std.proofs.Math.Option.{Option, none, some}
use Rattle.game.specs.Game.{Rule, PushdownGame, rules_of}
use Rattle.game.specs.Outcome.{done}
use Rattle.game.specs.Questions.{reading}
use Rattle.game.specs.Win.{successor, is_abelard}
use Rattle.game.specs.ListLaws.{◌∈◌}
use Rattle.table.specs.Table.{Entry, entries_of}
use Rattle.judge.specs.Worth.{bound}

-- the bound of the position to which a rule leads, over what lies below the top, of any height
abbrev pub bound_after : PushdownGame → List Entry → List ℕ → Rule → Option ℕ
bound_after g table rest r = bound g table (successor r rest).state (successor r rest).stack

-- "the lowest-numbered rule that leads to a lost position" among those listed, by what is said of the position to which each leads; the
-- field has "its number plus 1"
pub record NamesLowest (after-rule : Rule → Option ℕ) (rs : List Rule) (field : ℕ) : Type 0 where
  pub rule : Rule
  pub there : rule ∈ rs
  pub named : field ≡ suc rule.number
  pub unbound : after-rule rule ≡ none
  pub lower : (s : Rule) → s ∈ rs → s.number < rule.number → (b : ℕ) × (after-rule s ≡ some b)

-- "on a table from elsewhere without such a rule it stays 0"
pub record NamesNone (after-rule : Rule → Option ℕ) (rs : List Rule) (field : ℕ) : Type 0 where
  pub stays : field ≡ 0
  pub bounded : (s : Rule) → s ∈ rs → (b : ℕ) × (after-rule s ≡ some b)

abbrev pub Names : (Rule → Option ℕ) → List Rule → ℕ → Type 0
Names after-rule rs field = NamesLowest after-rule rs field ⊎ NamesNone after-rule rs field

-- What is said of a position, given as state, top letter and rest, where the judge says lost with a rule field.
pub record SaysLost (file words : List ℕ) (p a : ℕ) (rest : List ℕ) (field : ℕ) : Type 0 where
  pub game : PushdownGame
  pub read : reading file ≡ done game
  pub unbound : bound game (entries_of words) p (a ∷ rest) ≡ none
  pub abelards : is_abelard game p ≡ true → Names (bound_after game (entries_of words) rest) (rules_of game p a) field
  pub eloises : is_abelard game p ≡ false → field ≡ 0
