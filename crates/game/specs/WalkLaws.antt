-- The walk over a file's commands: where it comes to, and what can be said of its answer. What holds of each answer that the walk can give
-- holds of `reading`, and where the walk comes to an offset, `reading` is what it says there.
use Prim.Native.Nat.{ℕ, zero, suc, ◌+◌, ◌<◌, ◌≤◌}
use Rattle.std.proofs.Math.Path.{◌≡◌, refl}
use Rattle.std.proofs.Common.{◌∙◌, arith}
use Rattle.std.proofs.Math.Logic.{⊎_elim}
use Rattle.std.specs.Prelude.{true, false, length}
use mathlib.Core.List.{List, [], ◌∷◌, ◌++◌}
use Rattle.std.proofs.Math.Dec.{eqb, ltb}
use borrow.Author.Tests.{ltb-true, ltb-false, lt-ltb, le-ltb, eqb-true, eqb-false}
use Rattle.game.specs.Limits.{max_file}
use Rattle.game.specs.Game.{PushdownGame, empty_game}
use Rattle.game.specs.Outcome.{Outcome, done, refused}
use Rattle.game.specs.Command.{Found, command_at}
use Rattle.std.specs.Prelude.{Ok, Err}
use Rattle.game.specs.declared.command.Unread.TheVariants.{Cut, Unknown}
use Rattle.game.specs.CommandLaws.{found_inside, found-further}
use Rattle.game.specs.Questions.{ask, ask_found, add, every_head, ending, taken, met, walk, reading}
use Rattle.game.specs.ListLaws.{test}
use Rattle.game.specs.declared.command.Command.{Command}
use Rattle.game.specs.declared.command.Command.TheVariants.{Sizes, Abelard, Final, Rule, Target, End}

-- "commands are walked in order": from an offset with a game, over commands that stand one after the other and pass 3 to 7, none of them
-- FF, to another offset with the game that they give
unfoldable pub Comes : List ℕ → ℕ → PushdownGame → List Command → ℕ → PushdownGame → Type 0
Comes file at g [] to h = (at ≡ to) × (g ≡ h)
Comes file at g (c ∷ cs) to h =
    (next : ℕ) × (command_at file at ≡ Ok (c, next)) × (ask g c ≡ 0) × (c ≡ End → ⊥) × Comes file next (add g c) cs to h

-- one command more
pub comes-on : (file : List ℕ) (at : ℕ) (g : PushdownGame) (cs : List Command) (to : ℕ) (h : PushdownGame) → Comes file at g cs to h
    → (c : Command) (next : ℕ) → command_at file to ≡ Ok (c, next) → ask h c ≡ 0 → (c ≡ End → ⊥) → Comes file at g (cs ++ (c ∷ [])) next (add h c)
unfolding Comes
comes-on file at g [] to h (e, f) c next found passed other = (next, rw e found, rw f passed, other, (refl, rw f))
comes-on file at g (d ∷ cs) to h (n, stands, asked, not_end, rest) c next found passed other =
    (n, stands, asked, not_end, comes-on file n (add g d) cs to h rest c next found passed other)

-- FF stands at an offset
abbrev pub EndAt : List ℕ → ℕ → Type 0
EndAt file at = (next : ℕ) × (command_at file at ≡ Ok (End, next))

-- X holds of each answer that the walk can give. I is what holds where it stands: of the offset and the game so far.
pub record Answers (file : List ℕ) (I : ℕ → PushdownGame → Type 0) (X : Outcome PushdownGame → Type 0) : Type 0 where
  -- 2 and 19
  pub by_byte : (at : ℕ) (g : PushdownGame) → I at g → at < length file → command_at file at ≡ (Err Unknown) → X (refused 2 at)
  pub by_end : (at : ℕ) (g : PushdownGame) → I at g → at < length file → command_at file at ≡ (Err Cut) → X (refused 19 at)
  -- 3 to 7
  pub by-command : (at next : ℕ) (g : PushdownGame) (command : Command) → I at g → command_at file at ≡ Ok (command, next)
      → (ask g command ≡ 0 → ⊥) → X (refused (ask g command) at)
  pub goes_on : (at next : ℕ) (g : PushdownGame) (command : Command) → I at g → command_at file at ≡ Ok (command, next) → ask g command ≡ 0
      → (command ≡ End → ⊥) → I next (add g command)
  -- at FF: 8, 9, and the game
  pub by-rest : (at : ℕ) (g : PushdownGame) → I at g → EndAt file at → (at + 1 ≡ length file → ⊥) → X (refused 8 at)
  pub by-head : (at : ℕ) (g : PushdownGame) → I at g → EndAt file at → at + 1 ≡ length file
      → every_head g.control g.letters g.rules ≡ false → X (refused 9 at)
  pub reads : (at : ℕ) (g : PushdownGame) → I at g → EndAt file at → at + 1 ≡ length file → ask g End ≡ 0
      → every_head g.control g.letters g.rules ≡ true → X (done g)
  -- 8 without FF
  pub runs-out : (at : ℕ) (g : PushdownGame) → I at g → length file ≤ at → X (refused 8 (length file))

module _ (file : List ℕ) (I : ℕ → PushdownGame → Type 0) (X : Outcome PushdownGame → Type 0) (answers : Answers file I X) where
  at-end : (at : ℕ) (g : PushdownGame) → I at g → EndAt file at → ask g End ≡ 0 → X (ending (length file) at g)
  unfolding ending
  at-end at g i end passed =
      let heads = every_head g.control g.letters g.rules in
      ⊎_elim
      (λ (p : eqb (at + 1) (length file) ≡ true).
      let last = eqb-true (at + 1) (length file) p in
      ⊎_elim
      (λ (q : heads ≡ true). rw (p, q) (answers.reads at g i end last passed q))
      (λ (q : heads ≡ false). rw (p, q) (answers.by-head at g i end last q))
      (test heads))
      (λ (p : eqb (at + 1) (length file) ≡ false). rw p (answers.by-rest at g i end (eqb-false (at + 1) (length file) p)))
      (test (eqb (at + 1) (length file)))

  at-taken : (at next : ℕ) (g : PushdownGame) → I at g → (command : Command) → command_at file at ≡ Ok (command, next) → ask g command ≡ 0
      → (rest : Outcome PushdownGame) → ((command ≡ End → ⊥) → X rest) → X (taken (length file) at g command rest)
  unfolding taken
  at-taken at next g i (Sizes p s l) found passed rest on = on (λ e. let z : ◌≡◌ {A = ℕ} 0 1 = cc in omega arith)
  at-taken at next g i (Abelard p) found passed rest on = on (λ e. let z : ◌≡◌ {A = ℕ} 0 1 = cc in omega arith)
  at-taken at next g i (Final q) found passed rest on = on (λ e. let z : ◌≡◌ {A = ℕ} 0 1 = cc in omega arith)
  at-taken at next g i (Rule r) found passed rest on = on (λ e. let z : ◌≡◌ {A = ℕ} 0 1 = cc in omega arith)
  at-taken at next g i (Target t) found passed rest on = on (λ e. let z : ◌≡◌ {A = ℕ} 0 1 = cc in omega arith)
  at-taken at next g i End found passed rest on = at-end at g i (next, found) passed

  at-met : (at : ℕ) (g : PushdownGame) → I at g → at < length file → (found : Found) → command_at file at ≡ found
      → (rest : ℕ → PushdownGame → Outcome PushdownGame)
      → ((next : ℕ) (grown : PushdownGame) → at < next → I next grown → X (rest next grown)) → X (met (length file) at g found rest)
  unfolding met ask_found
  at-met at g i inside (Err Cut) found rest on = answers.by_end at g i inside found
  at-met at g i inside (Err Unknown) found rest on = answers.by_byte at g i inside found
  at-met at g i inside (Ok (command, next)) found rest on =
      ⊎_elim
      (λ (p : eqb (ask g command) 0 ≡ true).
      let passed = eqb-true (ask g command) 0 p in
      rw p
      (at-taken at next g i command found passed (rest next (add g command))
      (λ other. on next (add g command) (found-further file at command next found) (answers.goes_on at next g command i found passed other))))
      (λ (p : eqb (ask g command) 0 ≡ false). rw p (answers.by-command at next g command i found (eqb-false (ask g command) 0 p)))
      (test (eqb (ask g command) 0))

  at-walk : (left at : ℕ) (g : PushdownGame) → length file ≤ at + left → I at g → X (walk left file at g)
  unfolding walk
  at-walk zero at g enough i = answers.runs-out at g i (omega (arith, enough))
  at-walk (suc left) at g enough i =
      ⊎_elim
      (λ (p : ltb at (length file) ≡ true).
      rw p
      (at-met at g i (ltb-true at (length file) p) (command_at file at) refl (walk left file)
      (λ next grown further. at-walk left next grown (omega (arith, enough, further)))))
      (λ (p : ltb at (length file) ≡ false). rw p (answers.runs-out at g i (ltb-false at (length file) p)))
      (test (ltb at (length file)))

  -- with question 1, after which the walk begins
  pub of-reading : X (refused 1 0) → (1 ≤ length file → length file ≤ max_file → I 0 empty_game) → X (reading file)
  unfolding reading
  of-reading short starts =
      ⊎_elim
      (λ (p : ltb (length file) 1 ≡ true). rw p short)
      (λ (p : ltb (length file) 1 ≡ false).
      ⊎_elim
      (λ (q : ltb max_file (length file) ≡ true). rw (p, q) short)
      (λ (q : ltb max_file (length file) ≡ false).
      rw (p, q) (at-walk (length file) 0 empty_game (omega arith) (starts (ltb-false (length file) 1 p) (ltb-false max_file (length file) q))))
      (test (ltb max_file (length file))))
      (test (ltb (length file) 1))

module _ (file : List ℕ) where
  pub not_end : (at : ℕ) (g : PushdownGame) (c : Command) (rest : Outcome PushdownGame) → (c ≡ End → ⊥) → taken (length file) at g c rest ≡ rest
  unfolding taken
  not_end at g (Sizes p s l) rest other = refl
  not_end at g (Abelard p) rest other = refl
  not_end at g (Final q) rest other = refl
  not_end at g (Rule r) rest other = refl
  not_end at g (Target t) rest other = refl
  not_end at g End rest other = absurd (other refl)

  -- one turn of the walk, within the file
  pub turn : (left at : ℕ) (g : PushdownGame) → at < length file → length file ≤ at + left
      → (m : ℕ) × (left ≡ suc m) × (walk left file at g ≡ met (length file) at g (command_at file at) (walk m file))
  unfolding walk
  turn zero at g inside enough = absurd (omega (arith, inside, enough))
  turn (suc left) at g inside enough = (left, refl, rw (lt-ltb at (length file) inside))

  -- one command is passed
  passes : (left at : ℕ) (g : PushdownGame) (c : Command) (next : ℕ) → length file ≤ at + left → command_at file at ≡ Ok (c, next) → ask g c ≡ 0
      → (c ≡ End → ⊥) → (m : ℕ) × (length file ≤ next + m) × (walk left file at g ≡ walk m file next (add g c))
  unfolding met
  passes left at g c next enough found passed other =
      let t = turn left at g (found_inside file at c next found) enough in
      let further = found-further file at c next found in
      (t.0, omega (arith, enough, further, t.1), t.2 ∙ rw (found, passed) (not_end at g c (walk t.0 file next (add g c)) other))

  -- The walk comes to an offset: what it says from there is what it says of the file.
  comes-walk : (cs : List Command) (left at : ℕ) (g : PushdownGame) (to : ℕ) (h : PushdownGame) → length file ≤ at + left → Comes file at g cs to h
      → (m : ℕ) × (length file ≤ to + m) × (walk left file at g ≡ walk m file to h)
  unfolding Comes
  comes-walk [] left at g to h enough (e, f) = (left, rw (← e) enough, rw (e, f))
  comes-walk (c ∷ cs) left at g to h enough (next, found, passed, other, rest) =
      let t = passes left at g c next enough found passed other in
      let u = comes-walk cs t.0 next (add g c) to h t.1 rest in
      (u.0, u.1, t.2 ∙ u.2)

  -- Where the walk comes to an offset within the file, reading is what the walk says of what is found there.
  pub reading-there : 1 ≤ length file → length file ≤ max_file → (cs : List Command) (at : ℕ) (g : PushdownGame) → Comes file 0 empty_game cs at g
      → at < length file → (m : ℕ) × (reading file ≡ met (length file) at g (command_at file at) (walk m file))
  unfolding reading walk
  reading-there some few cs at g comes inside =
      let there = comes-walk cs (length file) 0 empty_game at g (omega arith) comes in
      let here = turn there.0 at g inside there.1 in
      (here.0, rw (le-ltb (length file) 1 some, le-ltb max_file (length file) few) (there.2 ∙ here.2))
