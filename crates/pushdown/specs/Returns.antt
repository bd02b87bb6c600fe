-- What the functions of the C interface but `pushdown_version` can return, whatever they are given, the largest bound that is
-- written, and what the rule word of a lost position says. A caller that handles these numbers handles all that come; 15 is none of
-- them.
use Rattle.std.specs.Prelude.{ℕ, ◌<◌, ◌≤◌, ◌^◌, ◌≡◌, refl, true, false, ◌&&◌, List, ◌∷◌, length, get_or, eqb}
use Rattle.std.proofs.Common.{arith, subst, eq-eqb}
use Rattle.game.specs.Game.{PushdownGame}
use Rattle.game.specs.Outcome.{Outcome, done, refused}
use Rattle.game.specs.Numbers.{file_numbers, solve_numbers, judge_numbers, move_numbers, is_one_of}
use Rattle.game.specs.OutcomeLaws.{RefusedBy}
use Rattle.game.specs.Questions.{any, reading}
use Rattle.game.specs.ListLaws.{clash, of_either, right_or}
use Rattle.game.specs.RefusalLaws.{file-numbers}
use Rattle.judge.specs.Verdict.{Verdict, lost, target, eloise, abelard, judging}
use Rattle.judge.specs.LostField.{SaysLost}
use Rattle.judge.proofs.LostField.{judged-lost}
use Rattle.judge.specs.Most.{most_bound, bound_in}
use Rattle.judge.proofs.Most.{judged-most, judge-numbers}
use Rattle.session.specs.Session.{move}
use Rattle.session.specs.declared.playing.Session.{Session}
use Rattle.session.specs.MoveLaws.{move-numbers}
use Rattle.rounds.specs.Solving.{Solved, solving_words}
use Rattle.rounds.proofs.SolvingLaws.{solve-numbers}
use Rattle.solver.specs.Leaving.{leaving, solve_call}
use Rattle.pushdown.specs.Interface.{
  wrong_length,
  read_words,
  solve_words,
  judge_words,
  play_words,
  session_bytes,
  Told,
  read_told,
  read_call,
  SolveTold,
  report_told,
  solve_told,
  solve_with,
  judge_told,
  judge_call,
  session_at,
  PlayTold,
  play_told,
  play_call,
}

-- 0, the number for an area of another length, and the numbers of a function's questions
abbrev pub results : List ℕ → List ℕ
results numbers = 0 ∷ wrong_length ∷ numbers

by-question : (numbers : List ℕ) (n : ℕ) → is_one_of n numbers ≡ true → is_one_of n (results numbers) ≡ true
unfolding any
by-question numbers n h = right_or (eqb n 0) (right_or (eqb n wrong_length) h)

-- pushdown_read
read-told : (o : Outcome PushdownGame) → RefusedBy file_numbers o → is_one_of (read_told o).number (results file_numbers) ≡ true
unfolding read_told any
read-told (done g) h = refl
read-told (refused n k) h = by-question file_numbers n (h n k refl)

pub read-returns : (file out : List ℕ) → is_one_of (read_call file out).number (results file_numbers) ≡ true
unfolding read_call any
read-returns file out =
    of_either (λ (t : Told). is_one_of t.number (results file_numbers) ≡ true) (eqb (length out) read_words) (read_told (reading file)) _
    (read-told (reading file) (file-numbers file)) refl

-- pushdown_solve
solve-told : (o : Outcome Solved) (t w : ℕ) → RefusedBy solve_numbers o
    → is_one_of (solve_told (leaving o t w)).number (results solve_numbers) ≡ true
unfolding leaving report_told any
solve-told (done s) t w h = refl
solve-told (refused n k) t w h = by-question solve_numbers n (h n k refl)

pub solve-returns : (file table work out : List ℕ) → is_one_of (solve_with file table work out).number (results solve_numbers) ≡ true
unfolding solve_with solve_call any
solve-returns file table work out =
    of_either (λ (t : SolveTold). is_one_of t.number (results solve_numbers) ≡ true) (eqb (length out) solve_words)
    (solve_told (solve_call file (length table) (length work))) _
    (solve-told (solving_words file (length table) (length work)) (length table) (length work) (solve-numbers file (length table) (length work)))
    refl

-- pushdown_judge
judge-told : (o : Outcome Verdict) → RefusedBy judge_numbers o → is_one_of (judge_told o).number (results judge_numbers) ≡ true
unfolding judge_told any
judge-told (done (lost rule)) h = refl
judge-told (done target) h = refl
judge-told (done (eloise rule b)) h = refl
judge-told (done (abelard b)) h = refl
judge-told (refused n k) h = by-question judge_numbers n (h n k refl)

pub judge-returns : (file table position out : List ℕ) → is_one_of (judge_call file table position out).number (results judge_numbers) ≡ true
unfolding judge_call any
judge-returns file table position out =
    of_either (λ (t : Told). is_one_of t.number (results judge_numbers) ≡ true) (eqb (length out) judge_words)
    (judge_told (judging file table position)) _
    (judge-told (judging file table position) (judge-numbers file table position))
    refl

-- pushdown_play
play-told : (bytes : List ℕ) (s : Session) (o : Outcome (Unit {0})) → RefusedBy move_numbers o
    → is_one_of (play_told bytes s o).number (results move_numbers) ≡ true
unfolding play_told any
play-told bytes s (done u) h = refl
play-told bytes s (refused n k) h = by-question move_numbers n (h n k refl)

pub play-returns : (file bytes : List ℕ) (rule : ℕ) (out : List ℕ) → is_one_of (play_call file bytes rule out).number (results move_numbers) ≡ true
unfolding play_call any
play-returns file bytes rule out =
    let m = move file (session_at bytes) rule in
    of_either (λ (t : PlayTold). is_one_of t.number (results move_numbers) ≡ true) (eqb (length bytes) session_bytes && eqb (length out) play_words)
    (play_told bytes m.session m.answer) _
    (play-told bytes m.session m.answer (move-numbers file (session_at bytes) rule))
    refl

-- none of them returns a number, whatever it is given
pub record Unused (n : ℕ) : Type 0 where
  pub reads : (file out : List ℕ) → (read_call file out).number ≡ n → ⊥
  pub solves : (file table work out : List ℕ) → (solve_with file table work out).number ≡ n → ⊥
  pub judges : (file table position out : List ℕ) → (judge_call file table position out).number ≡ n → ⊥
  pub plays : (file bytes : List ℕ) (rule : ℕ) (out : List ℕ) → (play_call file bytes rule out).number ≡ n → ⊥

not_listed : (n : ℕ) (numbers : List ℕ) → is_one_of n numbers ≡ false → (m : ℕ) → is_one_of m numbers ≡ true → m ≡ n → ⊥
not_listed n numbers absent m listed same = clash (subst (λ (k : ℕ). is_one_of k numbers ≡ true) same listed) absent

-- 15 is not used.
pub fifteen-unused : Unused 15
unfolding any
fifteen-unused =
    record {
      reads = λ file out. not_listed 15 (results file_numbers) refl _ (read-returns file out);
      solves = λ file table work out. not_listed 15 (results solve_numbers) refl _ (solve-returns file table work out);
      judges = λ file table position out. not_listed 15 (results judge_numbers) refl _ (judge-returns file table position out);
      plays = λ file bytes rule out. not_listed 15 (results move_numbers) refl _ (play-returns file bytes rule out);
    }

-- The bound that pushdown_judge writes is the last of its words.
bound-told : (o : Outcome Verdict) → ((v : Verdict) → o ≡ done v → bound_in v ≤ most_bound) → get_or (judge_told o).out 3 0 ≤ most_bound
unfolding judge_told bound_in
bound-told (done (lost rule)) h = omega arith
bound-told (done target) h = omega arith
bound-told (done (eloise rule b)) h = h (eloise rule b) refl
bound-told (done (abelard b)) h = h (abelard b) refl
bound-told (refused n k) h = omega arith

module _ (file table position out : List ℕ) (four : length out ≡ judge_words) where
  pub judge-writes : get_or (judge_call file table position out).out 3 0 ≤ most_bound
  unfolding judge_call
  judge-writes = rw (eq-eqb (length out) judge_words four) (bound-told (judging file table position) (judged-most file table position))

  pub judge-below : get_or (judge_call file table position out).out 3 0 < 2 ^ 48
  judge-below = omega (arith, judge-writes)

-- Where the kind that pushdown_judge writes is lost, the rule word is the field of a lost verdict.
lost-written : (o : Outcome Verdict) → get_or (judge_told o).out 1 0 ≡ 1 → o ≡ done (lost (get_or (judge_told o).out 2 0))
unfolding judge_told
lost-written (done (lost rule)) e = refl
lost-written (done target) e = absurd (omega (arith, e))
lost-written (done (eloise rule b)) e = absurd (omega (arith, e))
lost-written (done (abelard b)) e = absurd (omega (arith, e))
lost-written (refused n k) e = absurd (omega (arith, e))

-- It says of the position's bytes what the judge says, over any table: the number plus 1 of Abelard's lowest-numbered rule that leads to a
-- position without a bound, or 0.
pub judge-lost : (file table : List ℕ) (p a : ℕ) (rest out : List ℕ) → length out ≡ judge_words
    → get_or (judge_call file table (p ∷ a ∷ rest) out).out 1 0 ≡ 1
    → SaysLost file table p a rest (get_or (judge_call file table (p ∷ a ∷ rest) out).out 2 0)
unfolding judge_call
judge-lost file table p a rest out four kind =
    let written = eq-eqb (length out) judge_words four in
    let o = judging file table (p ∷ a ∷ rest) in
    let is : get_or (judge_told o).out 1 0 ≡ 1 = rw written at kind in
    rw written (judged-lost file table p a rest (get_or (judge_told o).out 2 0) (lost-written o is))
