-- The questions before the rounds: a file that is refused, areas whose lengths are refused, and what is known once both are passed.
use Prim.Native.Nat.{ℕ, ◌*◌, ◌/◌, ◌%◌, ◌≤◌}
use native.Mathlib.Omega.{arith}
use mathlib.Core.Path.{◌≡◌, sym, ap, ◌∙◌}
use mathlib.Core.Bool.{true, false, ◌&&◌}
use mathlib.Core.List.{List}
use lib.ListN.{length, replicate, length-replicate}
use lib.Dec.{eqb, leb}
use borrow.Author.Tests.{eq-eqb, ne_eqb, leb-true}
use Rattle.game.specs.Limits.{max_entries}
use Rattle.game.specs.ListLaws.{both}
use Rattle.game.specs.Game.{PushdownGame}
use Rattle.game.specs.Held.{held}
use Rattle.game.specs.GoodGame.{Good}
use Rattle.game.specs.Outcome.{Outcome, done, refused, after, said}
use Rattle.game.specs.Questions.{reading}
use Rattle.game.specs.Stored.{padded, stored, held_sizes, as_stored, Reports}
use Rattle.std.specs.Prelude.{Result, Err}
use Rattle.game.specs.declared.refusal.Refusal.{Refusal}
use Rattle.game.specs.declared.refusal.Question.TheVariants.{Areas}
use Rattle.game.specs.declared.game.Game.{Game}
use Rattle.game.specs.declared.game.Sizes.{Sizes}
use Rattle.table.specs.Table.{length_in_form, entry_stride}
use Rattle.rounds.specs.Solving.{Solved, solving_game, solving_words}
use Rattle.rounds.proofs.Solution.{in-entries}
use Rattle.solver.specs.Leaving.{leaving, called, solve_call}
use Rattle.solver.specs.Given.{Given}

-- a refusal of reading refuses whatever comes after it, and both areas are left zero
refusal-left : (o : Outcome PushdownGame) (refusal : Refusal) → said {A = Game} (Err refusal) ≡ as_stored o → (next : PushdownGame → Outcome Solved)
    → (table work : ℕ) → called (Err refusal) (replicate table 0) (replicate work 0) ≡ leaving (after o next) table work
unfolding after leaving
refusal-left (done x) refusal e next table work = absurd (let z : ◌≡◌ {A = ℕ} 0 1 = cc in omega arith)
refusal-left (refused n p) refusal e next table work = cc

module _ (file : List ℕ) (t w : ℕ) {table : List ℕ} (zeros : table ≡ replicate t 0) where
  long : length table ≡ t
  long = ap length zeros ∙ length-replicate t 0

  -- refusals: both areas are zero
  module _ {work : List ℕ} (others : work ≡ replicate w 0) where
    pub no-file : (r : Result Game Refusal) → Reports (reading file) r → (refusal : Refusal) → r ≡ Err refusal
        → called (Err refusal) table work ≡ solve_call file t w
    unfolding solve_call solving_words
    no-file r h refusal e = rw (zeros, others) (refusal-left (reading file) refusal (ap said (sym e) ∙ h) _ t w)

    module _ (g : PushdownGame) (read : reading file ≡ done g) where
      -- 10 is answered no
      no_lengths : (eqb t w && length_in_form t) ≡ false → called (Err (record { question = Areas; place = 0 })) table work ≡ solve_call file t w
      unfolding solve_call solving_words after leaving
      no_lengths b = rw (zeros, others, read, b)

      pub unequal : (length table ≡ w → ⊥) → called (Err (record { question = Areas; place = 0 })) table work ≡ solve_call file t w
      unequal ne = no_lengths (ap (◌&& length_in_form t) (ne_eqb t w (λ e. ne (long ∙ e))))

      pub out-of-form : length table ≡ w → length_in_form (length table) ≡ false → called (Err (record { question = Areas; place = 0 })) table work ≡ solve_call file t w
      out-of-form e b = no_lengths (ap (◌&& length_in_form t) (eq-eqb t w (sym long ∙ e)) ∙ rw long at b)

  -- both are passed
  module _ (g : PushdownGame) (read : reading file ≡ done g) (e : length table ≡ w) (b : length_in_form (length table) ≡ true) where
    form : length_in_form t ≡ true
    form = rw long at b

    pub lent : leaving (solving_game g (t / entry_stride)) (length table) w ≡ solve_call file t w
    unfolding solve_call solving_words after
    lent = rw (long, read, eq-eqb t w (sym long ∙ e), form)

    -- zeroed words of a length in form are those of so many entries
    pub whole-entries : table ≡ replicate (t / entry_stride * 3) 0
    whole-entries =
        let many : t ≡ t / entry_stride * 3 = in-entries t form ∙ omega arith in
        zeros ∙ ap (λ (k : ℕ). replicate k 0) many

-- a length in form is that of at most 2,048 entries
pub short : (n : ℕ) → length_in_form n ≡ true → n ≤ 6144
unfolding length_in_form
short n h =
    let p = both (leb entry_stride n && leb n (entry_stride * max_entries)) (eqb (n % entry_stride) 0) h in
    let q = both (leb entry_stride n) (leb n (entry_stride * max_entries)) p.0 in
    leb-true n 6144 q.1

-- what is lent to the rounds is the game that was read
pub given : (game : Game) (g : PushdownGame) → game ≡ stored g → Good g → (sizes : Sizes) → sizes ≡ held_sizes game
    → Given g sizes game.rules game.targets
unfolding padded
given game g e good sizes s =
    record {
      held = held game g sizes e good.ranged (s ∙ ap held_sizes e);
      good = good;
      slack = _;
      targeted = ap (λ (x : Game). x.targets) e;
    }
