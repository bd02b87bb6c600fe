-- What the interface returns and writes, from what the entry points promise.
use Prim.Native.Nat.{ℕ}
use native.Mathlib.Omega.{arith}
use mathlib.Core.Path.{◌≡◌, refl, sym, ap, ◌∙◌}
use mathlib.Core.Bool.{Bool, true, false, ◌&&◌}
use mathlib.Core.List.{List, [], ◌∷◌}
use lib.ListN.{length, set, replicate}
use lib.Dec.{eqb}
use borrow.Author.Tests.{eq-eqb, ne_eqb}
use Rattle.game.specs.Game.{PushdownGame}
use Rattle.game.specs.Held.{was_read}
use Rattle.game.specs.Outcome.{Outcome, done, refused, number, said}
use Rattle.game.specs.Questions.{reading}
use Rattle.game.specs.Stored.{held_sizes, sizes_of, as_stored, Reports}
use Rattle.game.specs.declared.game.Sizes.{Sizes}
use Rattle.std.specs.Prelude.{Result, Ok, Err}
use Rattle.game.specs.declared.game.Game.{Game}
use Rattle.game.specs.declared.refusal.Refusal.{Refusal}
use Rattle.judge.specs.Verdict.{judging}
use Rattle.judge.specs.Judged.{judged}
use Rattle.judge.specs.declared.verdict.Verdict.{Verdict}
use Rattle.session.specs.Session.{Moved, move, left as left-by}
use Rattle.session.specs.declared.playing.Session.{Session}
use Rattle.solver.specs.Leaving.{solve_call}
use Rattle.pushdown.specs.Interface.{
  Told,
  SolveTold,
  PlayTold,
  wrong_length,
  read_words,
  solve_words,
  judge_words,
  play_words,
  session_bytes,
  read_told,
  read_call,
  solve_told,
  solve_with,
  judge_told,
  judge_call,
  session_at,
  bytes_of,
  play_told,
  play_call,
}

abbrev pub told : ℕ → List ℕ → Told
told number out = record { number = number; out = out }

abbrev pub left : ℕ → List ℕ → List ℕ → List ℕ → SolveTold
left number table work out = record { number = number; out = out; table = table; work = work }

abbrev pub played : ℕ → List ℕ → List ℕ → PlayTold
played number bytes out = record { number = number; out = out; session = bytes }

-- reading
module _ (file out : List ℕ) where
  pub read-wrong : (length out ≡ read_words → ⊥) → told wrong_length out ≡ read_call file out
  unfolding read_call
  read-wrong ne = rw (ne_eqb (length out) read_words ne)

  pub read-told : length out ≡ read_words → read_told (reading file) ≡ read_call file out
  unfolding read_call
  read-told e = rw (eq-eqb (length out) read_words e)

pub read-refused : (o : Outcome PushdownGame) (refusal : Refusal) → said {A = Game} (Err refusal) ≡ as_stored o
    → told (number refusal.question) (refusal.place ∷ replicate 7 0) ≡ read_told o
unfolding read_told
read-refused (done g) refusal e = absurd (let z : ◌≡◌ {A = ℕ} 0 1 = cc in omega arith)
read-refused (refused n k) refusal e = let p : number refusal.question ≡ n = cc in let q : refusal.place ≡ k = cc in rw (p, q)

-- the sizes that are told
abbrev pub sizes_told : Sizes → Told
sizes_told s =
    told 0
    (0 ∷ s.control ∷ s.states ∷ s.letters ∷ s.abelard ∷ s.finals ∷ s.rulecount ∷ s.targetcount ∷ [])

sizes-told : (o : Outcome PushdownGame) (g : PushdownGame) → o ≡ done g → (sizes : Sizes) → sizes ≡ sizes_of g → sizes_told sizes ≡ read_told o
unfolding read_told
sizes-told o g e sizes s = rw (e, s)

pub read-sizes : (file : List ℕ) (r : Result Game Refusal) → Reports (reading file) r → (game : Game) → r ≡ Ok game → (sizes : Sizes)
    → sizes ≡ held_sizes game → sizes_told sizes ≡ read_told (reading file)
read-sizes file r h game d sizes e =
    let x = was_read file r h game d in
    sizes-told (reading file) x.game x.reads sizes (e ∙ ap held_sizes x.stores)

-- solving
module _ (file table work out : List ℕ) where
  pub solve-wrong : (length out ≡ solve_words → ⊥) → left wrong_length table work out ≡ solve_with file table work out
  unfolding solve_with
  solve-wrong ne = rw (ne_eqb (length out) solve_words ne)

  pub solve-told : length out ≡ solve_words → solve_told (solve_call file (length table) (length work)) ≡ solve_with file table work out
  unfolding solve_with
  solve-told e = rw (eq-eqb (length out) solve_words e)

-- judging
module _ (file table position out : List ℕ) where
  pub judge-wrong : (length out ≡ judge_words → ⊥) → told wrong_length out ≡ judge_call file table position out
  unfolding judge_call
  judge-wrong ne = rw (ne_eqb (length out) judge_words ne)

  pub judge-told : length out ≡ judge_words → (v : Result Verdict Refusal) → judged v ≡ judging file table position → judge_told (judged v) ≡ judge_call file table position out
  unfolding judge_call
  judge-told e v h = rw (eq-eqb (length out) judge_words e, h)

-- an area of one word, written
pub one-word : (out : List ℕ) (x : ℕ) → length out ≡ 1 → set out 0 x ≡ x ∷ []
one-word [] x e = absurd (omega arith)
one-word (a ∷ []) x e = refl
one-word (a ∷ b ∷ out) x e = absurd (omega arith)

-- playing a move
no-right : (b : Bool) {c : Bool} → c ≡ false → (b && c) ≡ false
no-right true e = e
no-right false e = refl

module _ (file bytes : List ℕ) (rule : ℕ) (out : List ℕ) where
  pub play-wrong-session : (length bytes ≡ session_bytes → ⊥) → played wrong_length bytes out ≡ play_call file bytes rule out
  unfolding play_call
  play-wrong-session ne = rw (ne_eqb (length bytes) session_bytes ne)

  pub play-wrong : (length out ≡ play_words → ⊥) → played wrong_length bytes out ≡ play_call file bytes rule out
  unfolding play_call
  play-wrong ne = rw (no-right (eqb (length bytes) session_bytes) (ne_eqb (length out) play_words ne))

  module _ (e : length bytes ≡ session_bytes) (f : length out ≡ play_words) (a : Result (Unit {0}) Refusal) (s : Session) (h : left-by a s ≡ move file (session_at bytes) rule) where
    play-told : play_told bytes s (said a) ≡ play_call file bytes rule out
    unfolding play_call
    play-told =
        rw (eq-eqb (length bytes) session_bytes e, eq-eqb (length out) play_words f)
        (ap (λ (m : Moved). play_told bytes m.session m.answer) h)

    pub play-done : (u : Unit {0}) → a ≡ Ok u → {now out' : List ℕ} → now ≡ bytes_of s → out' ≡ 0 ∷ [] → played 0 now out' ≡ play_call file bytes rule out
    unfolding play_told
    play-done u d w o = rw (w, o) (sym (ap (λ (x : Result (Unit {0}) Refusal). play_told bytes s (said x)) d) ∙ play-told)

    pub play-refused : (refusal : Refusal) → a ≡ Err refusal → {out' : List ℕ} → out' ≡ refusal.place ∷ []
        → played (number refusal.question) bytes out' ≡ play_call file bytes rule out
    unfolding play_told
    play-refused refusal d o = rw o (sym (ap (λ (x : Result (Unit {0}) Refusal). play_told bytes s (said x)) d) ∙ play-told)
