use mathlib.Core.Path.{sym}
use borrow.Author.Tests.{le-ltb}
use Rattle.game.specs.SetLaws.{has_above}
use Rattle.game.proofs.question.has_state.Goals as goal

pub returns-else-s-lt-MAX_STATES : goal.returns-else-s-lt-MAX_STATES
returns-else-s-lt-MAX_STATES c = rw (le-ltb _ _ c.if-s-lt-MAX_STATES.false) (sym (has_above 32 _ _ c.ranges.set.fits c.if-s-lt-MAX_STATES.false))
