-- The move after the reading of the file: refused with it, or made in the game that was read.
use Prim.Native.Nat.{ℕ}
use mathlib.Core.Path.{◌≡◌, sym, ap, ◌∙◌}
use mathlib.Core.List.{List}
use native.Mathlib.Omega.{arith}
use Rattle.std.specs.Prelude.{Result, Ok, Err}
use Rattle.game.specs.Game.{PushdownGame}
use Rattle.game.specs.Outcome.{Outcome, done, refused, said}
use Rattle.game.specs.Questions.{reading}
use Rattle.game.specs.Stored.{held_sizes, as_stored, Reports}
use Rattle.game.specs.Held.{Held, Read, held, was_read}
use Rattle.game.specs.declared.game.Game.{Game}
use Rattle.game.specs.declared.game.Sizes.{Sizes}
use Rattle.game.specs.declared.refusal.Refusal.{Refusal}
use Rattle.session.specs.declared.playing.Session.{Session}
use Rattle.session.specs.Session.{moving, moving_in, Moved, moved, move, told}

not_read : (o : Outcome PushdownGame) (refusal : Refusal) (s : Session) (n : ℕ) → said {A = Game} (Err refusal) ≡ as_stored o
    → told s (Err refusal) ≡ moved s (moving_in o s n)
unfolding moving_in
not_read (done g) refusal s n e = absurd (let z : ◌≡◌ {A = ℕ} 0 1 = cc in omega arith)
not_read (refused number place) refusal s n e = cc

module _ (file : List ℕ) (r : Result Game Refusal) (reports : Reports (reading file) r) where
  -- one of the file's questions is answered no
  pub unread : (s : Session) (n : ℕ) (refusal : Refusal) → r ≡ Err refusal → told s (Err refusal) ≡ move file s n
  unfolding move
  unread s n refusal e = not_read (reading file) refusal s n (ap said (sym e) ∙ reports)

  module _ (game : Game) (d : r ≡ Ok game) (sizes : Sizes) (sized : sizes ≡ held_sizes game) where
    was : Read file game
    was = was_read file r reports game d

    -- the game that is held
    is_held : Held was.game sizes game.rules
    is_held = held game was.game sizes was.stores was.well.ranged (sized ∙ ap held_sizes was.stores)

    pub holds : (g : PushdownGame) × Held g sizes game.rules
    holds = (was.game, is_held)

    pub made : (s : Session) (n : ℕ) (m : Moved) → ((g : PushdownGame) → Held g sizes game.rules → m ≡ moved s (moving g s n)) → m ≡ move file s n
    unfolding move moving_in
    made s n m h = h was.game is_held ∙ sym (rw was.reads)
