-- By which numbers a file and a position are refused.
use Rattle.std.specs.Prelude.{ℕ, ◌+◌, ◌≡◌, refl, true, List, [], ◌∷◌, length, drop, get_or, ltb, eqb}
use Rattle.std.proofs.Common.{⊎_elim, eqb-true}
use Rattle.game.specs.Limits.{max_stack}
use Rattle.game.specs.Game.{PushdownGame}
use Rattle.game.specs.Outcome.{done, refused}
use Rattle.game.specs.Numbers.{is_one_of, file_numbers, position_numbers}
use Rattle.game.specs.OutcomeLaws.{RefusedBy, by-none, by_number}
use Rattle.game.specs.Questions.{any, in_order, in_range, keeps_bottom, is_new, has_room, ask, reading}
use Rattle.game.specs.Position.{stack_form, form}
use Rattle.game.specs.WalkLaws.{of-reading}
use Rattle.game.specs.ListLaws.{of_either, either}
use Rattle.game.specs.declared.command.Command.{Command}

-- the question that a command meets, or 0 where it passes
asked : (g : PushdownGame) (command : Command) → is_one_of (ask g command) (0 ∷ file_numbers) ≡ true
unfolding ask any
asked g command =
    let X : ℕ → Type 0 = λ n. is_one_of n (0 ∷ file_numbers) ≡ true in
    of_either X (in_order g.states command) _ 3
    (of_either X (in_range g.control g.states g.letters command) _ 4
    (of_either X (keeps_bottom command) _ 5
    (of_either X (is_new g command) _ 6
    (of_either X (has_room (length g.rules) (length g.targets) command) 0 7 refl refl)
    refl)
    refl)
    refl)
    refl

-- a number other than 0 that is 0 or one of a list is one of the list
nonzero : (n : ℕ) (numbers : List ℕ) → (n ≡ 0 → ⊥) → is_one_of n (0 ∷ numbers) ≡ true → is_one_of n numbers ≡ true
unfolding any
nonzero n numbers some h = ⊎_elim (λ (p : eqb n 0 ≡ true). absurd (some (eqb-true n 0 p))) (λ q. q) (either (eqb n 0) (any (eqb n) numbers) h)

-- Reading refuses by a number of 1 to 9 or by 19.
pub file-numbers : (file : List ℕ) → RefusedBy file_numbers (reading file)
unfolding any
file-numbers file =
    of-reading file (λ at g. Unit {0}) (RefusedBy file_numbers)
    (record {
      by_byte = λ at g i inside found. by_number file_numbers 2 at refl;
      by_end = λ at g i inside found. by_number file_numbers 19 at refl;
      by-command = λ at next g command i found h. by_number file_numbers (ask g command) at (nonzero (ask g command) file_numbers h (asked g command));
      goes_on = λ at next g command i found passed h. tt;
      by-rest = λ at g i end h. by_number file_numbers 8 at refl;
      by-head = λ at g i end last h. by_number file_numbers 9 at refl;
      reads = λ at g i end last passed h. by-none file_numbers g;
      runs-out = λ at g i beyond. by_number file_numbers 8 (length file) refl;
    })
    (by_number file_numbers 1 0 refl)
    (λ some few. tt)

by-fourteen : (place : ℕ) → RefusedBy {A = Unit {0}} position_numbers (refused 14 place)
unfolding any
by-fourteen place = by_number position_numbers 14 place refl

in-form : RefusedBy {A = Unit {0}} position_numbers (done tt)
in-form = by-none position_numbers tt

stack-numbers : (letters i : ℕ) (stack : List ℕ) → RefusedBy position_numbers (stack_form letters i stack)
unfolding stack_form
stack-numbers letters i [] = in-form
stack-numbers letters i (a ∷ []) = of_either (RefusedBy position_numbers) (eqb a 0) (done tt) (refused 14 i) in-form (by-fourteen i)
stack-numbers letters i (a ∷ b ∷ w) =
    of_either (RefusedBy position_numbers) (eqb a 0) (refused 14 i) _ (by-fourteen i)
    (of_either (RefusedBy position_numbers) (ltb a letters) _ (refused 14 i) (stack-numbers letters (i + 1) (b ∷ w)) (by-fourteen i))

-- A position is refused by 14 alone.
pub position-numbers : (control letters : ℕ) (bytes : List ℕ) → RefusedBy position_numbers (form control letters bytes)
unfolding form
position-numbers control letters bytes =
    of_either (RefusedBy position_numbers) (ltb (length bytes) 2) (refused 14 0) _ (by-fourteen 0)
    (of_either (RefusedBy position_numbers) (ltb (max_stack + 1) (length bytes)) (refused 14 0) _ (by-fourteen 0)
    (of_either (RefusedBy position_numbers) (ltb (get_or bytes 0 0) control) _ (refused 14 0) (stack-numbers letters 1 (drop 1 bytes)) (by-fourteen 0)))
