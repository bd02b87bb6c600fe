-- What each function of the C interface returns and writes, in terms of the definitions of the entry points. A result is 0, the
-- number of the question that was answered no, or 100 where an area for results has another length than it must have: then nothing
-- is written.
use Rattle.std.specs.Prelude.{ℕ, ◌+◌, ◌*◌, ◌/◌, ◌%◌, cond, ◌&&◌, List, [], ◌∷◌, length, get_or, drop, eqb}
use Rattle.game.specs.Game.{PushdownGame}
use Rattle.game.specs.Outcome.{Outcome, done, refused}
use Rattle.game.specs.Questions.{reading}
use Rattle.judge.specs.Verdict.{Verdict, lost, target, eloise, abelard, judging}
use Rattle.session.specs.Session.{session, move}
use Rattle.session.specs.declared.playing.Session.{Session}
use Rattle.solver.specs.Leaving.{Call, Report, solve_call}

-- the result where an area has the wrong length
abbrev pub wrong_length : ℕ
wrong_length = 100

-- The version: the major number is raised where a caller must change (a number, a word, a layout or a limit), the minor one by what is
-- only added.
abbrev pub version_major : ℕ
version_major = 4

abbrev pub version_minor : ℕ
version_minor = 0

abbrev pub version : ℕ
version = version_major * 65536 + version_minor

-- the words of the areas for results, and the bytes of a session: state, height (lower byte first), cells
abbrev pub read_words : ℕ
read_words = 8

abbrev pub solve_words : ℕ
solve_words = 3

abbrev pub judge_words : ℕ
judge_words = 4

abbrev pub play_words : ℕ
play_words = 1

abbrev pub session_bytes : ℕ
session_bytes = 259

-- Reading: place, then control states, states, letters, Abelard's set, the finals' set, rules and target transitions; 0 after a
-- refusal.
pub record Told : Type 0 where
  pub number : ℕ
  pub out : List ℕ

unfoldable pub read_told : Outcome PushdownGame → Told
read_told (done g) =
    record {
      number = 0;
      out = 0 ∷ g.control ∷ g.states ∷ g.letters ∷ g.abelard ∷ g.finals ∷ length g.rules ∷ length g.targets ∷ [];
    }
read_told (refused number place) = record { number = number; out = place ∷ 0 ∷ 0 ∷ 0 ∷ 0 ∷ 0 ∷ 0 ∷ 0 ∷ [] }

unfoldable pub read_call : List ℕ → List ℕ → Told
read_call file out = cond (eqb (length out) read_words) (read_told (reading file)) (record { number = wrong_length; out = out })

-- Solving: place, entries, rounds; and both areas.
pub record SolveTold : Type 0 where
  pub number : ℕ
  pub out : List ℕ
  pub table : List ℕ
  pub work : List ℕ

unfoldable pub report_told : Outcome Report → Told
report_told (done r) = record { number = 0; out = 0 ∷ r.entries ∷ r.rounds ∷ [] }
report_told (refused number place) = record { number = number; out = place ∷ 0 ∷ 0 ∷ [] }

abbrev pub solve_told : Call → SolveTold
solve_told c =
    record { number = (report_told c.answer).number; out = (report_told c.answer).out; table = c.table; work = c.work }

unfoldable pub solve_with : List ℕ → List ℕ → List ℕ → List ℕ → SolveTold
solve_with file table work out =
    cond (eqb (length out) solve_words) (solve_told (solve_call file (length table) (length work)))
    (record { number = wrong_length; out = out; table = table; work = work })

-- Judging: place, kind of verdict (1 lost, 2 target, 3 Éloise's, 4 Abelard's; 0 after a refusal), rule, bound. The rule is Éloise's number,
-- or of a lost position the rule field: a number plus 1, or 0.
unfoldable pub judge_told : Outcome Verdict → Told
judge_told (done (lost rule)) = record { number = 0; out = 0 ∷ 1 ∷ rule ∷ 0 ∷ [] }
judge_told (done target) = record { number = 0; out = 0 ∷ 2 ∷ 0 ∷ 0 ∷ [] }
judge_told (done (eloise rule b)) = record { number = 0; out = 0 ∷ 3 ∷ rule ∷ b ∷ [] }
judge_told (done (abelard b)) = record { number = 0; out = 0 ∷ 4 ∷ 0 ∷ b ∷ [] }
judge_told (refused number place) = record { number = number; out = place ∷ 0 ∷ 0 ∷ 0 ∷ [] }

unfoldable pub judge_call : List ℕ → List ℕ → List ℕ → List ℕ → Told
judge_call file table position out =
    cond (eqb (length out) judge_words) (judge_told (judging file table position)) (record { number = wrong_length; out = out })

-- Playing a move: place; and the session's bytes, which a refusal leaves.
unfoldable pub session_at : List ℕ → Session
session_at bytes = session (get_or bytes 0 0) (drop 3 bytes) (get_or bytes 1 0 + 256 * get_or bytes 2 0)

unfoldable pub bytes_of : Session → List ℕ
bytes_of s = s.state ∷ s.height % 256 ∷ s.height / 256 % 256 ∷ s.stack

pub record PlayTold : Type 0 where
  pub number : ℕ
  pub out : List ℕ
  pub session : List ℕ

unfoldable pub play_told : List ℕ → Session → Outcome (Unit {0}) → PlayTold
play_told bytes s (done u) = record { number = 0; out = 0 ∷ []; session = bytes_of s }
play_told bytes s (refused number place) = record { number = number; out = place ∷ []; session = bytes }

unfoldable pub play_call : List ℕ → List ℕ → ℕ → List ℕ → PlayTold
play_call file bytes rule out =
    let m = move file (session_at bytes) rule in
    cond (eqb (length bytes) session_bytes && eqb (length out) play_words) (play_told bytes m.session m.answer)
    (record { number = wrong_length; out = out; session = bytes })
