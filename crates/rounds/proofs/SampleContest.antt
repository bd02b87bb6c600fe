-- The contest at sample positions: it is not empty. B1 of document 01, (1,[1,0]) of game B, is Abelard's and lost by rule 5; in a game
-- without a target both owners have turns.
use Rattle.std.specs.Prelude.{ℕ, ◌≡◌, refl, true, List, [], ◌∷◌}
use Rattle.std.proofs.Common.{sym, ◌∙◌, subst}
use Rattle.std.proofs.Math.Option.{none, some}
use Rattle.game.specs.Game.{PushdownGame}
use Rattle.game.specs.Outcome.{done}
use Rattle.game.specs.OutcomeLaws.{done-same}
use Rattle.game.specs.Questions.{reading}
use Rattle.game.specs.Win.{Position, letters_below, in_form, Lost}
use Rattle.table.specs.Table.{Entry, entries_of}
use Rattle.judge.specs.Worth.{bound}
use Rattle.judge.proofs.Within.{none-some}
use Rattle.judge.specs.Verdict.{lost}
use Rattle.judge.specs.Play.{rule_numbered, playing, wanted, after_effect, start}
use Rattle.judge.specs.Contest.{rule_of_field, turn_against, one_against, contest}
use Rattle.rounds.specs.Solving.{Solved, solved_of, solving}
use Rattle.rounds.proofs.Samples.{rule_five_to, sample_b, computing, verdict_on}
use Rattle.rounds.proofs.SamplePlay.{game_five_to}
use Rattle.rounds.specs.Demand3.{Plays}
use Rattle.rounds.proofs.Demand3.{demand-three}
use Rattle.rounds.specs.StaysLost.{StaysLost, Contests}
use Rattle.rounds.proofs.StaysLost.{stays-lost}

-- the table of B: (1,1) has no transition
unfoldable pub entries_b : List Entry
entries_b =
    record { state = 0; letter = 0; set = 4; birthdate = 0; rule = 0 }
    ∷ record { state = 0; letter = 1; set = 1; birthdate = 1; rule = 3 }
    ∷ record { state = 1; letter = 0; set = 4; birthdate = 1; rule = 0 }
    ∷ []

abbrev pub game_b : PushdownGame
game_b = game_five_to 1

read_b : reading sample_b ≡ done game_b
unfolding computing rule_five_to game_five_to
read_b = refl

abbrev solved_b : Solved
solved_b = solved_of 3 entries_b

solve_b : solving sample_b 3 ≡ done solved_b
unfolding computing rule_five_to entries_b
solve_b = refl

-- a position without a bound over the table of a solved game is lost
lost-unbound : (file : List ℕ) (s : Solved) → Plays file s → (g : PushdownGame) → reading file ≡ done g → (pos : Position) → in_form g pos ≡ true
    → bound g (entries_of s.words) pos.state pos.stack ≡ none → Lost g pos
lost-unbound file s plays g read pos formed unbound w =
    let same : plays.game ≡ g = done-same (sym plays.read ∙ read) in
    let b : (b : ℕ) × (bound g (entries_of s.words) pos.state pos.stack ≡ some b) =
    rw same at ((plays.bounded pos (rw same formed)).0 (rw same w))
    in
    none-some (sym unbound ∙ b.1)

-- and so is every position of a contest from a lost one, after every list of numbers
contest-from : (file : List ℕ) (s : Solved) → Contests file s → (g : PushdownGame) → reading file ≡ done g → (pos : Position) → in_form g pos ≡ true
    → Lost g pos → (numbers : List ℕ) → StaysLost g (entries_of s.words) pos numbers
contest-from file s contests g read pos formed lost-there numbers =
    let same : contests.game ≡ g = done-same (sym contests.read ∙ read) in
    subst (λ (h : PushdownGame). StaysLost h (entries_of s.words) pos numbers) same
    (contests.stays pos (rw same formed) (rw same lost-there) numbers)

abbrev pub position_b1 : Position
position_b1 = record { state = 1; stack = 1 ∷ 0 ∷ [] }

-- "B1 (1,[1,0]) lost"
pub lost-B1 : Lost game_b position_b1
unfolding computing entries_b game_five_to in_form letters_below
lost-B1 = lost-unbound sample_b solved_b (demand-three sample_b 9 9 solved_b solve_b) game_b read_b position_b1 refl refl

-- after every list of numbers
pub contest-from-B1 : (numbers : List ℕ) → StaysLost game_b (entries_of solved_b.words) position_b1 numbers
unfolding computing game_five_to in_form letters_below
contest-from-B1 numbers = contest-from sample_b solved_b (stays-lost sample_b 9 9 solved_b solve_b) game_b read_b position_b1 refl lost-B1 numbers

-- Abelard plays rule 5, whatever the number: two moves, and he is where he was
pub played-from-B1 :
    contest game_b (entries_of solved_b.words) (start position_b1) (4 ∷ 0 ∷ []) ≡ record { position = position_b1; moves = 2 }
unfolding computing entries_b game_five_to rule_numbered playing wanted after_effect rule_of_field turn_against one_against contest
played-from-B1 = refl

-- A game without a target, in which both owners have turns and the stack grows. State 1 is Abelard's. Rules 0: (0,0)→(1,[1,0]);
-- 1: (0,1)→(1,[1,1]); 2: (0,1)→(0,[]); 3: (1,0)→(0,[0]); 4: (1,1)→(0,[1]).
unfoldable pub sample_lost : List ℕ
sample_lost =
    1 ∷ 2 ∷ 3 ∷ 2 ∷
    2 ∷ 1 ∷
    4 ∷ 0 ∷ 0 ∷ 1 ∷ 2 ∷ 1 ∷ 0 ∷
    4 ∷ 0 ∷ 1 ∷ 1 ∷ 2 ∷ 1 ∷ 1 ∷
    4 ∷ 0 ∷ 1 ∷ 0 ∷ 0 ∷ 0 ∷ 0 ∷
    4 ∷ 1 ∷ 0 ∷ 0 ∷ 1 ∷ 0 ∷ 0 ∷
    4 ∷ 1 ∷ 1 ∷ 0 ∷ 1 ∷ 1 ∷ 0 ∷
    255 ∷ []

unfoldable pub game_lost : PushdownGame
game_lost =
    record {
      control = 2;
      states = 3;
      letters = 2;
      abelard = 2;
      finals = 0;
      rules =
          record { number = 0; from = 0; top = 0; to = 1; count = 2; above = 1; below = 0 }
          ∷ record { number = 1; from = 0; top = 1; to = 1; count = 2; above = 1; below = 1 }
          ∷ record { number = 2; from = 0; top = 1; to = 0; count = 0; above = 0; below = 0 }
          ∷ record { number = 3; from = 1; top = 0; to = 0; count = 1; above = 0; below = 0 }
          ∷ record { number = 4; from = 1; top = 1; to = 0; count = 1; above = 1; below = 0 }
          ∷ [];
      targets = [];
    }

read_lost : reading sample_lost ≡ done game_lost
unfolding computing sample_lost game_lost
read_lost = refl

-- its table: letter 1 can be taken off, and nothing accepts the bottom
unfoldable pub entries_lost : List Entry
entries_lost =
    record { state = 0; letter = 1; set = 1; birthdate = 1; rule = 3 }
    ∷ record { state = 1; letter = 1; set = 1; birthdate = 2; rule = 0 }
    ∷ []

abbrev solved_lost : Solved
solved_lost = solved_of 2 entries_lost

solve_lost : solving sample_lost 2 ≡ done solved_lost
unfolding computing sample_lost entries_lost
solve_lost = refl

-- the verdicts: Éloise's lost position without a rule, Abelard's with rules 3 and 4
pub verdicts-lost :
    verdict_on sample_lost (0 ∷ 0 ∷ []) ∷ verdict_on sample_lost (1 ∷ 0 ∷ []) ∷ verdict_on sample_lost (1 ∷ 1 ∷ 0 ∷ []) ∷ []
    ≡ done (lost 0) ∷ done (lost 4) ∷ done (lost 5) ∷ []
unfolding computing sample_lost verdict_on
verdicts-lost = refl

abbrev pub position_bottom : Position
position_bottom = record { state = 0; stack = 0 ∷ [] }

-- after every list of numbers
pub contest-from-bottom : (numbers : List ℕ) → StaysLost game_lost (entries_of solved_lost.words) position_bottom numbers
unfolding computing game_lost entries_lost in_form letters_below
contest-from-bottom numbers =
    contest-from sample_lost solved_lost (stays-lost sample_lost 6 6 solved_lost solve_lost) game_lost read_lost position_bottom refl
    (lost-unbound sample_lost solved_lost (demand-three sample_lost 6 6 solved_lost solve_lost) game_lost read_lost position_bottom refl refl)
    numbers

-- Éloise plays rule 0, then rule 1; Abelard plays rule 4 each time, whatever the number; at last a number that is no rule of hers is refused
pub played-from-bottom :
    contest game_lost (entries_of solved_lost.words) (start position_bottom) (0 ∷ 9 ∷ 1 ∷ 3 ∷ 0 ∷ [])
    ≡ record { position = record { state = 0; stack = 1 ∷ 1 ∷ 0 ∷ [] }; moves = 4 }
unfolding computing game_lost entries_lost rule_numbered playing wanted after_effect rule_of_field turn_against one_against contest
played-from-bottom = refl
