-- The numbers of the questions of documents 01 and 02, in the order in which they are put. 15 and 18 are not used.
use Rattle.std.specs.Prelude.{ℕ, Bool, List, [], ◌∷◌, ◌++◌, eqb}
use Rattle.game.specs.Questions.{any}

-- about a file
abbrev pub file_numbers : List ℕ
file_numbers = 1 ∷ 2 ∷ 19 ∷ 3 ∷ 4 ∷ 5 ∷ 6 ∷ 7 ∷ 8 ∷ 9 ∷ []

-- about the lengths of the areas and the rounds
abbrev pub round_numbers : List ℕ
round_numbers = 10 ∷ 11 ∷ 12 ∷ []

-- about a table, and about a position
abbrev pub table_numbers : List ℕ
table_numbers = 13 ∷ []

abbrev pub position_numbers : List ℕ
position_numbers = 14 ∷ []

-- about a session and a move
abbrev pub turn_numbers : List ℕ
turn_numbers = 14 ∷ 16 ∷ 17 ∷ []

-- what solving, judging and moving put
abbrev pub solve_numbers : List ℕ
solve_numbers = file_numbers ++ round_numbers

abbrev pub judge_numbers : List ℕ
judge_numbers = file_numbers ++ (table_numbers ++ position_numbers)

abbrev pub move_numbers : List ℕ
move_numbers = file_numbers ++ turn_numbers

-- a number is one of a list
abbrev pub is_one_of : ℕ → List ℕ → Bool
is_one_of n numbers = any (eqb n) numbers
