-- Demand 3, from a solve that was not refused alone: at any height a position is won exactly if it has a bound, and play under advice
-- from it keeps what document 01 says, for every list of numbers.
use Rattle.std.specs.Prelude.{ℕ, suc, ◌+◌, ◌<◌, ◌≤◌, ◌≡◌, ◌↔◌, true, false, List, ◌∷◌, length}
use Rattle.std.proofs.Math.Option.{some}
use Rattle.game.specs.Limits.{max_stack}
use Rattle.game.specs.Game.{PushdownGame}
use Rattle.game.specs.Outcome.{Outcome, done}
use Rattle.game.specs.Questions.{reading}
use Rattle.game.specs.Win.{Position, in_form, in_target, is_abelard, Won}
use Rattle.table.specs.Table.{Entry, entries_of, is_rule_of}
use Rattle.judge.specs.Worth.{bound, advised}
use Rattle.judge.specs.Verdict.{Verdict, target, eloise, abelard, judging}
use Rattle.judge.specs.Play.{play, heeded, start}
use Rattle.rounds.specs.Solving.{Solved}
use Rattle.rounds.specs.PlayTheorem.{EachFair}

-- What holds of play under advice from a position with bound b, after any list of numbers.
pub record KeepsWinning (g : PushdownGame) (table : List Entry) (pos : Position) (b : ℕ) (numbers : List ℕ) : Type 0 where
  -- each move made leads to a won position with a smaller bound, and Éloise's turn is never refused
  pub each : EachFair g table (start pos) numbers
  -- afterwards: the position is in form and won, its bound and the moves made are together at most b
  pub formed : in_form g (play g table (start pos) numbers).position ≡ true
  pub won : Won g (play g table (start pos) numbers).position
  pub left : ℕ
  pub has :
      bound g table (play g table (start pos) numbers).position.state (play g table (start pos) numbers).position.stack ≡ some left
  pub falls : left + (play g table (start pos) numbers).moves ≤ b
  -- if at least b of the numbers were not refused, it is in the target
  pub reached : b ≤ heeded g table (start pos) numbers → in_target g (play g table (start pos) numbers).position ≡ true

-- The judge reports bound b and the advised rule of a position, given as state, top letter and rest, by its answer.
pub record Reports (g : PushdownGame) (table : List Entry) (p a : ℕ) (rest : List ℕ) (b : ℕ) (answer : Outcome Verdict) : Type 0 where
  pub targets : b ≡ 0 → answer ≡ done target
  pub abelards : 0 < b → is_abelard g p ≡ true → answer ≡ done (abelard b)
  pub eloises :
      0 < b → is_abelard g p ≡ false
      → (n : ℕ) × (advised g table p a rest ≡ some n) × (is_rule_of g p a n ≡ true) × (answer ≡ done (eloise n b))

-- What demand 3 claims of what a file's solve returned; the table is the entries of the words that it left.
pub record Plays (file : List ℕ) (s : Solved) : Type 0 where
  pub game : PushdownGame
  pub read : reading file ≡ done game
  -- at any height: won exactly if it has a bound
  pub bounded :
      (pos : Position) → in_form game pos ≡ true
      → Won game pos ↔ ((b : ℕ) × (bound game (entries_of s.words) pos.state pos.stack ≡ some b))
  -- at any height: the bound is 0 exactly in the target
  pub targets :
      (pos : Position) → in_form game pos ≡ true
      → (bound game (entries_of s.words) pos.state pos.stack ≡ some 0) ↔ (in_target game pos ≡ true)
  -- at any height, and for every list of numbers
  pub plays :
      (pos : Position) → in_form game pos ≡ true → (b : ℕ) → bound game (entries_of s.words) pos.state pos.stack ≡ some b
      → (numbers : List ℕ) → KeepsWinning game (entries_of s.words) pos b numbers
  -- up to 256 letters bound and rule are the judge's
  pub reports :
      (p a : ℕ) (rest : List ℕ) → in_form game (record { state = p; stack = a ∷ rest }) ≡ true → suc (length rest) ≤ max_stack → (b : ℕ)
      → bound game (entries_of s.words) p (a ∷ rest) ≡ some b
      → Reports game (entries_of s.words) p a rest b (judging file s.words (p ∷ a ∷ rest))
