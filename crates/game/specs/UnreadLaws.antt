-- What a refusal by 2 and one by 19 say of the file: "2 means an unknown command byte only. 19 when a known command's operands run past
-- the end of the file", each exactly where the walk comes to such a byte. A support desk tells a cut file from one by a newer linker by
-- this.
use Rattle.std.specs.Prelude.{ℕ, ◌+◌, ◌<◌, ◌≤◌, ◌≡◌, ◌↔◌, false, List, [], ◌∷◌, ◌++◌, length, get_or, eqb}
use Rattle.std.proofs.Math.Path.{refl}
use Rattle.std.proofs.Common.{sym, ◌∙◌, arith}
use Rattle.std.proofs.lemmas.Bool.{eqb-false}
use Rattle.game.specs.Limits.{max_file}
use Rattle.game.specs.Game.{PushdownGame, empty_game}
use Rattle.game.specs.Outcome.{Outcome, done, refused, said}
use Rattle.game.specs.Command.{whole, decoded, command_at}
use Rattle.game.specs.CommandLaws.{command_size, found-unknown, found-missing}
use Rattle.game.specs.Questions.{in_order, sizes_in_range, in_range, keeps_bottom, is_new, has_room, ask, ask_found, add, taken, met, walk, reading}
use Rattle.game.specs.WalkLaws.{Comes, comes-on, of-reading, reading-there}
use Rattle.game.specs.Stored.{as_stored, Reports}
use Rattle.game.specs.ListLaws.{of_either}
use Rattle.game.specs.declared.command.Command.{Command}
use Rattle.game.specs.declared.game.Game.{Game}
use Rattle.game.specs.declared.refusal.Refusal.{Refusal}
use Rattle.std.specs.Prelude.{Result}

-- The walk over a file of 1 to 4,096 bytes comes to an offset before its end: commands that pass stand one after the other up to there.
pub record Reached (file : List ℕ) (at : ℕ) : Type 0 where
  pub few : length file ≤ max_file
  pub inside : at < length file
  pub commands : List Command
  pub game : PushdownGame
  pub comes : Comes file 0 empty_game commands at game

-- the byte there is none of the command bytes
pub record UnknownAt (file : List ℕ) (at : ℕ) : Type 0 where
  pub reached : Reached file at
  pub unknown : command_size (get_or file at 0) ≡ 0

-- the byte there is a command byte, and the file ends before the command's last operand
pub record CutAt (file : List ℕ) (at : ℕ) : Type 0 where
  pub reached : Reached file at
  pub known : 0 < command_size (get_or file at 0)
  pub beyond : length file < at + command_size (get_or file at 0)

-- a number that is neither 2 nor 19
record Other (n : ℕ) : Type 0 where
  not-unknown : n ≡ 2 → ⊥
  not-cut : n ≡ 19 → ⊥

other : (n : ℕ) → eqb n 2 ≡ false → eqb n 19 ≡ false → Other n
other n p q = record { not-unknown = eqb-false n 2 p; not-cut = eqb-false n 19 q }

ask-other : (g : PushdownGame) (command : Command) → Other (ask g command)
unfolding ask
ask-other g command =
    of_either Other (in_order g.states command) _ 3
    (of_either Other (in_range g.control g.states g.letters command) _ 4
    (of_either Other (keeps_bottom command) _ 5
    (of_either Other (is_new g command) _ 6
    (of_either Other (has_room (length g.rules) (length g.targets) command) 0 7 (other 0 refl refl) (other 7 refl refl))
    (other 6 refl refl))
    (other 5 refl refl))
    (other 4 refl refl))
    (other 3 refl refl)

-- what an outcome of reading says of the file
pub record Tells (file : List ℕ) (o : Outcome PushdownGame) : Type 0 where
  pub unknown : (at : ℕ) → o ≡ refused 2 at → UnknownAt file at
  pub cut : (at : ℕ) → o ≡ refused 19 at → CutAt file at

module _ (file : List ℕ) where
  by-other : (n p : ℕ) → Other n → Tells file (refused n p)
  by-other n p o = record { unknown = λ at e. absurd (o.not-unknown cc); cut = λ at e. absurd (o.not-cut cc) }

  by-game : (g : PushdownGame) → Tells file (done g)
  by-game g =
      record {
        unknown = λ at e. absurd (let z : ◌≡◌ {A = ℕ} 0 1 = cc in omega arith);
        cut = λ at e. absurd (let z : ◌≡◌ {A = ℕ} 0 1 = cc in omega arith);
      }

  by-unknown : (p : ℕ) → UnknownAt file p → Tells file (refused 2 p)
  by-unknown p h =
      record {
        unknown = λ at e. let same : p ≡ at = cc in rw (← same) h;
        cut = λ at e. absurd (let z : ◌≡◌ {A = ℕ} 2 19 = cc in omega arith);
      }

  by-cut : (p : ℕ) → CutAt file p → Tells file (refused 19 p)
  by-cut p h =
      record {
        unknown = λ at e. absurd (let z : ◌≡◌ {A = ℕ} 19 2 = cc in omega arith);
        cut = λ at e. let same : p ≡ at = cc in rw (← same) h;
      }

  -- what holds where the walk stands
  abbrev Here : ℕ → PushdownGame → Type 0
  Here at g = (length file ≤ max_file) × ((cs : List Command) × Comes file 0 empty_game cs at g)

  here : (at : ℕ) (g : PushdownGame) → Here at g → at < length file → Reached file at
  here at g (few, (cs, comes)) inside = record { few = few; inside = inside; commands = cs; game = g; comes = comes }

  pub tells : Tells file (reading file)
  unfolding Comes
  tells =
      of-reading file Here (Tells file)
      (record {
        by_byte = λ at g i inside found.
            by-unknown at (record { reached = here at g i inside; unknown = (found-unknown file at inside).0 found });
        by_end = λ at g i inside found.
            let beyond = (found-missing file at inside).0 found in
            by-cut at (record { reached = here at g i inside; known = omega (arith, beyond, inside); beyond = beyond });
        by-command = λ at next g command i found h. by-other (ask g command) at (ask-other g command);
        goes_on = λ at next g command i found passed h.
            (i.0, (i.1.0 ++ (command ∷ []), comes-on file 0 empty_game i.1.0 at g i.1.1 command next found passed h));
        by-rest = λ at g i end h. by-other 8 at (other 8 refl refl);
        by-head = λ at g i end last h. by-other 9 at (other 9 refl refl);
        reads = λ at g i end last passed h. by-game g;
        runs-out = λ at g i beyond. by-other 8 (length file) (other 8 refl refl);
      })
      (by-other 1 0 (other 1 refl refl))
      (λ some few. (few, ([], (refl, refl))))

  -- and back: reading says so where the walk comes to such a byte
  module _ (at : ℕ) where
    says-unknown : UnknownAt file at → reading file ≡ refused 2 at
    unfolding met ask_found
    says-unknown h =
        let r = h.reached in
        let inside = r.inside in
        let there = reading-there file (omega (arith, inside)) r.few r.commands at r.game r.comes inside in
        there.1 ∙ rw ((found-unknown file at inside).1 h.unknown)

    says-cut : CutAt file at → reading file ≡ refused 19 at
    unfolding met ask_found
    says-cut h =
        let r = h.reached in
        let inside = r.inside in
        let there = reading-there file (omega (arith, inside)) r.few r.commands at r.game r.comes inside in
        there.1 ∙ rw ((found-missing file at inside).1 h.beyond)

answered : (o : Outcome PushdownGame) (n p : ℕ) → as_stored o ≡ refused n p → o ≡ refused n p
answered (done g) n p e = absurd (let z : ◌≡◌ {A = ℕ} 0 1 = cc in omega arith)
answered (refused m q) n p e = cc

-- Of whatever keeps the promise of `Game::read`:
module _ (file : List ℕ) (r : Result Game Refusal) (reports : Reports (reading file) r) (at : ℕ) where
  both_ways : (n : ℕ) (P : Type 0) → ((reading file ≡ refused n at) ↔ P) → ((said r ≡ refused n at) ↔ P)
  both_ways n P iff = (λ e. iff.0 (answered (reading file) n at (sym reports ∙ e)), λ p. reports ∙ rw (iff.1 p))

  -- it answers 2 exactly where the walk comes to an unknown command byte,
  pub refused-unknown : (said r ≡ refused 2 at) ↔ UnknownAt file at
  refused-unknown = both_ways 2 (UnknownAt file at) ((tells file).unknown at, says-unknown file at)

  -- and 19 exactly where it comes to a known command whose operands run past the end of the file.
  pub refused-cut : (said r ≡ refused 19 at) ↔ CutAt file at
  refused-cut = both_ways 19 (CutAt file at) ((tells file).cut at, says-cut file at)

-- An unknown command byte, the last of a file and with bytes after it; a rule cut after its first operand, which is out of range; a
-- second 01 that is cut.
pub samples :
    reading (1 ∷ 1 ∷ 2 ∷ 1 ∷ 254 ∷ [])
    ∷ reading (1 ∷ 1 ∷ 2 ∷ 1 ∷ 0 ∷ 1 ∷ 255 ∷ [])
    ∷ reading (1 ∷ 1 ∷ 2 ∷ 1 ∷ 4 ∷ 99 ∷ [])
    ∷ reading (1 ∷ 1 ∷ 2 ∷ 1 ∷ 1 ∷ 1 ∷ 2 ∷ [])
    ∷ []
    ≡ refused 2 4 ∷ refused 2 4 ∷ refused 19 4 ∷ refused 19 4 ∷ []
unfolding reading walk met ask_found taken ask in_order in_range sizes_in_range keeps_bottom is_new has_room add command_at decoded whole
samples = refl
