use mathlib.Core.Path.{refl, sym, ap, ◌∙◌}
use native.Mathlib.Omega.{arith}
use borrow.Author.Tests.{lt-ltb, le-ltb}
use borrow.Enum.Refused.{opened}
use Rattle.game.specs.Outcome.{asked}
use Rattle.game.specs.OutcomeLaws.{number_some}
use Rattle.game.specs.Questions.{reading}
use Rattle.game.specs.Stored.{padded, rule_bytes, target_words}
use Rattle.game.proofs.Filtering.{none-marked}
use Rattle.game.proofs.Going.{start, stops, few, rules-whole, targets-whole, asks, further, refuses, fits, closes, goes, runs-out}
use Rattle.game.proofs.game.Game.read.Goals as goal

pub returns-then-file-lt1 : goal.returns-then-file-lt1
unfolding reading
returns-then-file-lt1 c = rw (lt-ltb _ _ c.if-file-lt1.true, c.at.ensures)

pub returns-then-file-gt-MAX_FILE : goal.returns-then-file-gt-MAX_FILE
unfolding reading
returns-then-file-gt-MAX_FILE c = rw (le-ltb _ _ c.if-file-lt1.false, lt-ltb _ _ c.if-file-gt-MAX_FILE.true, c.at-then-file-gt-MAX_FILE.ensures)

pub loop-at-init : goal.loop-at-init
unfolding padded rule_bytes target_words
loop-at-init c = start _ _ _ _ _ c.if-file-lt1.false c.if-file-gt-MAX_FILE.false (record { sized = c.none-sizes.ensures; ruled = refl; targeted = refl }) none-marked

pub returns-in_default : goal.returns-in_default
returns-in_default c =
    rw
    (c.at-in_default.ensures, c.from.ensures, stops _ _ _ _ _ _ c.loop-at.invariant c.loop-at-test.true _ (sym c.read_command-found.ensures ∙ c.unwrap_err.ensures))

pub slice_bounds-ask_command-end-in-loop-at : goal.slice_bounds-ask_command-end-in-loop-at
slice_bounds-ask_command-end-in-loop-at c = sym (targets-whole _ _ _ _ _ _ c.loop-at.invariant c.loop-at-test.true)

pub returns-in-Err : goal.returns-in-Err
returns-in-Err c =
    rw
    (c.at-in-Err.ensures, refuses _ _ _ _ _ _ c.loop-at.invariant c.loop-at-test.true _ _ (sym c.read_command-found.ensures ∙ c.in-Ok.is) _ (ap asked (sym c.in-Err.is) ∙ c.ask_command.ensures _ c.loop-at.invariant.held c.loop-at.invariant.marked) (number_some c.in-Err.question))

pub close-requires : goal.close-requires
close-requires c = let h = few _ _ _ _ _ _ c.loop-at.invariant c.loop-at-test.true in (c.loop-at-test.true, h.0, h.1, h.2)

pub returns-in-End : goal.returns-in-End
returns-in-End c =
    rw
    (closes _ _ _ _ _ _ c.loop-at.invariant c.loop-at-test.true _ _ (sym c.read_command-found.ensures ∙ c.in-Ok.is) _ (c.ask_command.ensures _ c.loop-at.invariant.held c.loop-at.invariant.marked) (ap asked c.in_default-ask_command.is) c.in-End.is)
    (c.close.ensures _ c.loop-at.invariant.held)

pub slice_bounds-with-end-in-loop-at : goal.slice_bounds-with-end-in-loop-at
slice_bounds-with-end-in-loop-at c = sym (targets-whole _ _ _ _ _ _ c.loop-at.invariant c.loop-at-test.true)

pub with-sizes-requires : goal.with-sizes-requires
with-sizes-requires c = (fits _ _ _ _ _ _ c.loop-at.invariant c.loop-at-test.true _ _ (sym c.read_command-found.ensures ∙ c.in-Ok.is) _ (c.ask_command.ensures _ c.loop-at.invariant.held c.loop-at.invariant.marked) (ap asked c.in_default-ask_command.is), rules-whole _ _ _ _ _ _ c.loop-at.invariant c.loop-at-test.true, targets-whole _ _ _ _ _ _ c.loop-at.invariant c.loop-at-test.true, c.loop-at.invariant.marked.long)

pub loop-at-smaller : goal.loop-at-smaller
loop-at-smaller c = omega (arith, further _ _ _ _ _ _ c.loop-at.invariant c.loop-at-test.true _ _ (sym c.read_command-found.ensures ∙ c.in-Ok.is))

pub loop-at-preserved : goal.loop-at-preserved
loop-at-preserved c = goes _ _ _ _ _ _ c.loop-at.invariant c.loop-at-test.true _ _ (sym c.read_command-found.ensures ∙ c.in-Ok.is) _ (c.ask_command.ensures _ c.loop-at.invariant.held c.loop-at.invariant.marked) (ap asked c.in_default-ask_command.is) _ _ _ _ (c.with-sizes.ensures.parts _ c.loop-at.invariant.held) (c.with-sizes.ensures.filtered _ c.loop-at.invariant.marked) (opened c.in_default-command.in_default-command-own.keys2)

pub returns : goal.returns
returns c = rw (runs-out _ _ _ _ _ _ c.loop-at.invariant c.loop-at-test.false, c.at-2.ensures)
