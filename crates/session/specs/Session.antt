-- The session of document 01, 'File, table, session', and the move: 'The questions', 14, 16 and 17.
use Rattle.std.specs.Prelude.{ℕ, zero, suc, ◌+◌, ◌≤◌, Bool, cond, ◌&&◌, List, [], ◌∷◌, ◌++◌, length, get_or, leb}
use Rattle.game.specs.Limits.{max_stack, rule_stride}
use Rattle.game.specs.Game.{Rule, PushdownGame, rules_of}
use Rattle.game.specs.Outcome.{Outcome, done, refused, number, said}
use Rattle.game.specs.Questions.{reading}
use Rattle.game.specs.Stored.{padded}
use Rattle.game.specs.NumberLaws.{number_is}
use Rattle.game.specs.Win.{Position, in_form, successor}
use Rattle.std.specs.Prelude.{Result, Ok, Err}
use Rattle.game.specs.declared.refusal.Refusal.{Refusal}
use Rattle.session.specs.declared.moving.Played.{Played}
use Rattle.session.specs.declared.playing.Session.{Session}

-- "A session holds state, stack (256 cells, bottom first) and height"
abbrev pub session : ℕ → List ℕ → ℕ → Session
session p cells h = record { state = p; stack = cells; height = h }

-- the letters of the cells below a height, top letter first
unfoldable pub top_first : ℕ → List ℕ → List ℕ
top_first zero cells = []
top_first (suc h) cells = get_or cells h 0 ∷ top_first h cells

-- The position of a session. "Cells from the height up are not looked at"
abbrev pub position : Session → Position
position s = record { state = s.state; stack = top_first s.height s.stack }

-- a stack's letters, bottom letter first
unfoldable pub bottom_first : List ℕ → List ℕ
bottom_first [] = []
bottom_first (a ∷ w) = bottom_first w ++ (a ∷ [])

-- The session of a position: cells from the height up "are 0 after a played move".
abbrev pub session_of : Position → Session
session_of pos = session pos.state (padded max_stack (bottom_first pos.stack)) (length pos.stack)

-- 14. "(the session, height 1 to 256, cell 0 being the last letter; place 0)": "in form (state below P, letters below L, 0 last
-- and only last)"
unfoldable pub session_in_form : PushdownGame → Session → Bool
session_in_form g s = leb 1 s.height && leb s.height max_stack && in_form g (position s)

-- 16. Is the rule one of this head? [0] The rule of a number among the rules of a head.
unfoldable pub numbered : ℕ → List Rule → Outcome Rule
numbered n [] = refused 16 0
numbered n (r ∷ rs) = cond (number_is n r) (done r) (numbered n rs)

-- 17. Is the new stack at most 256 letters? [0]
unfoldable pub fitting : Position → Outcome Position
fitting pos = cond (leb (length pos.stack) max_stack) (done pos) (refused 17 0)

-- 17 of the rule that 16 gave: it "replaces top a by w"
unfoldable pub replaced : List ℕ → Outcome Rule → Outcome Position
replaced rest (done r) = fitting (successor r rest)
replaced rest (refused number place) = refused number place

-- 16 and 17 at a control state and a stack; an empty stack has no head
unfoldable pub turn : PushdownGame → ℕ → List ℕ → ℕ → Outcome Position
turn g p [] n = refused 16 0
turn g p (a ∷ rest) n = replaced rest (numbered n (rules_of g p a))

-- 14, 16 and 17: the position that a rule number leads to
unfoldable pub moving : PushdownGame → Session → ℕ → Outcome Position
moving g s n = cond (session_in_form g s) (turn g s.state (top_first s.height s.stack) n) (refused 14 0)

-- "Moving, after 1 to 9", and 19
unfoldable pub moving_in : Outcome PushdownGame → Session → ℕ → Outcome Position
moving_in (done g) s n = moving g s n
moving_in (refused number place) s n = refused number place

-- What a move answers, "done, or number and place", and the session afterwards.
pub record Moved : Type 0 where
  pub answer : Outcome (Unit {0})
  pub session : Session

-- the session of the new position; "A refused move leaves the session untouched."
abbrev pub moved : Session → Outcome Position → Moved
moved s (done pos) = record { answer = done tt; session = session_of pos }
moved s (refused number place) = record { answer = refused number place; session = s }

-- The move: of a file's bytes, a session and a rule number.
unfoldable pub move : List ℕ → Session → ℕ → Moved
move file s n = moved s (moving_in (reading file) s n)

-- what the code answers and leaves
abbrev pub left : Result (Unit {0}) Refusal → Session → Moved
left a s = record { answer = said a; session = s }

abbrev pub handed : Played → Moved
handed r = left r.answer r.session

-- a move of a session, by the session after it
abbrev pub told : Session → Result Session Refusal → Moved
told s (Ok t) = record { answer = done tt; session = t }
told s (Err refusal) = record { answer = refused (number refusal.question) refusal.place; session = s }

-- what the code needs of a rule stored at an offset and of a height before it plays the rule
pub record Playable (rules : List ℕ) (at height : ℕ) : Type 0 where
  pub inside : at + rule_stride ≤ length rules
  pub word : get_or rules (at + 3) 0 ≤ 2
  pub low : 1 ≤ height
  pub high : height ≤ max_stack
