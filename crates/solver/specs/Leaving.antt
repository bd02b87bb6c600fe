-- What a call of solving returns and leaves in both areas: document 01, 'The questions'.
use Rattle.std.specs.Prelude.{ℕ, List, replicate, Result, Ok, Err}
use Rattle.game.specs.declared.refusal.Refusal.{Refusal}
use Rattle.game.specs.Outcome.{Outcome, done, refused, number}
use Rattle.rounds.specs.Solving.{Solved, solving_words}
use Rattle.solver.specs.declared.solving.Solved.{Solved as SolvedIs}

-- "Solving returns entries and rounds"
pub record Report : Type 0 where
  pub entries : ℕ
  pub rounds : ℕ

-- the answer, and every word of both areas
pub record Call : Type 0 where
  pub answer : Outcome Report
  pub table : List ℕ
  pub work : List ℕ

-- "A refused solve leaves table and work all zero", each at its own length; the work area "is 0 after every call".
unfoldable pub leaving : Outcome Solved → ℕ → ℕ → Call
leaving (done s) table work =
    record { answer = done (record { entries = s.entries; rounds = s.rounds }); table = s.words; work = replicate work 0 }
leaving (refused number place) table work =
    record { answer = refused number place; table = replicate table 0; work = replicate work 0 }

-- A call with a file and two areas of so many words: what they held does not matter.
unfoldable pub solve_call : List ℕ → ℕ → ℕ → Call
solve_call file table work = leaving (solving_words file table work) table work

-- what the code answers of entries and rounds
abbrev pub Answer : Type 0
Answer = Result SolvedIs Refusal

abbrev pub solved_with : ℕ → ℕ → Answer
solved_with entries rounds = Ok (record { entries = entries; rounds = rounds })

-- The values of document 01 that each case of the code's answer stands for, with what the areas hold.
abbrev pub answered : Answer → Outcome Report
answered (Ok s) = done (record { entries = s.entries; rounds = s.rounds })
answered (Err refusal) = refused (number refusal.question) refusal.place

abbrev pub called : Answer → List ℕ → List ℕ → Call
called s table work = record { answer = answered s; table = table; work = work }
