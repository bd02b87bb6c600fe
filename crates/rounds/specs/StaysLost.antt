-- Document 02, 'Abelard's side of the contest', from a solve that was not refused alone: the rule field of a lost position of Abelard's
-- names the lowest-numbered rule that leads to a lost position, and "if Abelard plays these and Éloise plays anything, then no position
-- of the play, after any number of moves, is in the target".
use Rattle.std.specs.Prelude.{ℕ, suc, ◌<◌, ◌≤◌, ◌≡◌, true, false, length}
use mathlib.Core.List.{List, [], ◌∷◌}
use Rattle.std.proofs.Math.Option.{none}
use Rattle.game.specs.Limits.{max_stack}
use Rattle.game.specs.Game.{Rule, PushdownGame, rules_of}
use Rattle.game.specs.Outcome.{Outcome, done}
use Rattle.game.specs.Questions.{reading}
use Rattle.game.specs.Win.{Position, in_form, successor, in_target, is_abelard, Won, Lost}
use Rattle.game.specs.ListLaws.{◌∈◌}
use Rattle.table.specs.Table.{Entry, entries_of}
use Rattle.judge.specs.Worth.{bound}
use Rattle.judge.specs.Verdict.{Verdict, lost, lost_field_of, judging}
use Rattle.judge.specs.Play.{refuse, move, Play, start}
use Rattle.judge.specs.Contest.{against, one_against, contest}
use Rattle.rounds.specs.Solving.{Solved}

-- "the lowest-numbered rule that leads to a lost position"; the field "carries its number plus 1"
pub record KeepsLost (g : PushdownGame) (table : List Entry) (p a : ℕ) (below : List ℕ) : Type 0 where
  pub rule : Rule
  pub there : rule ∈ rules_of g p a
  pub field : lost_field_of g table p a below ≡ suc rule.number
  pub loses : Lost g (successor rule below)
  pub lower : (s : Rule) → s ∈ rules_of g p a → s.number < rule.number → Won g (successor s below)

-- One number at a position. "Abelard plays these": on his turn the rule of the field is played, whatever the number, and never refused.
-- "Éloise plays anything": the number of a rule of hers has that rule played; any other is refused and changes nothing.
pub record Heard (g : PushdownGame) (table : List Entry) (pos : Position) (n : ℕ) : Type 0 where
  pub top : ℕ
  pub below : List ℕ
  pub is : pos.stack ≡ top ∷ below
  pub abelards :
      is_abelard g pos.state ≡ true
      → (l : KeepsLost g table pos.state top below) × (against g table pos n ≡ move (successor l.rule below))
  pub eloises :
      is_abelard g pos.state ≡ false → (r : Rule) → r ∈ rules_of g pos.state top → r.number ≡ n
      → against g table pos n ≡ move (successor r below)
  pub others :
      is_abelard g pos.state ≡ false → ((r : Rule) → r ∈ rules_of g pos.state top → r.number ≡ n → ⊥)
      → against g table pos n ≡ refuse

-- the same of each number of a list, at the position that the numbers before it left
unfoldable pub EachHeard : PushdownGame → List Entry → Play → List ℕ → Type 0
EachHeard g table s [] = Unit {0}
EachHeard g table s (n ∷ ns) = Heard g table s.position n × EachHeard g table (one_against g table s n) ns

-- What holds of a contest from a lost position, after any list of numbers.
pub record StaysLost (g : PushdownGame) (table : List Entry) (pos : Position) (numbers : List ℕ) : Type 0 where
  -- Abelard's turn is never refused, and Éloise's only where the number is that of no rule of hers
  pub each : EachHeard g table (start pos) numbers
  -- afterwards: the position is in form, not won, without a bound over the table, and not in the target
  pub formed : in_form g (contest g table (start pos) numbers).position ≡ true
  pub lost : Lost g (contest g table (start pos) numbers).position
  pub unbound :
      bound g table (contest g table (start pos) numbers).position.state (contest g table (start pos) numbers).position.stack ≡ none
  pub outside : in_target g (contest g table (start pos) numbers).position ≡ false

-- The judge reports the rule of a lost position, given as state, top letter and rest, by its answer.
pub record ReportsLost (g : PushdownGame) (table : List Entry) (p a : ℕ) (below : List ℕ) (answer : Outcome Verdict) : Type 0 where
  pub abelards : is_abelard g p ≡ true → (l : KeepsLost g table p a below) × (answer ≡ done (lost (suc l.rule.number)))
  pub eloises : is_abelard g p ≡ false → answer ≡ done (lost 0)

-- What is claimed of what a file's solve returned; the table is the entries of the words that it left.
pub record Contests (file : List ℕ) (s : Solved) : Type 0 where
  pub game : PushdownGame
  pub read : reading file ≡ done game
  -- at any height: "above 256 letters the rule is the defined one"
  pub rules :
      (p a : ℕ) (below : List ℕ) → in_form game (record { state = p; stack = a ∷ below }) ≡ true
      → Lost game (record { state = p; stack = a ∷ below }) → is_abelard game p ≡ true → KeepsLost game (entries_of s.words) p a below
  -- at any height, and for every list of numbers
  pub stays :
      (pos : Position) → in_form game pos ≡ true → Lost game pos → (numbers : List ℕ)
      → StaysLost game (entries_of s.words) pos numbers
  -- up to 256 letters the rule is the judge's
  pub reports :
      (p a : ℕ) (below : List ℕ) → in_form game (record { state = p; stack = a ∷ below }) ≡ true → suc (length below) ≤ max_stack
      → Lost game (record { state = p; stack = a ∷ below })
      → ReportsLost game (entries_of s.words) p a below (judging file s.words (p ∷ a ∷ below))
