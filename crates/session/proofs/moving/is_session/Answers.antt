use mathlib.Core.Path.{◌∙◌}
use native.Mathlib.Omega.{arith}
use Rattle.session.proofs.Scan.{too-low, too-high, no-control, by-letters}
use Rattle.session.proofs.moving.is_session.Goals as goal

-- The tests of question 14 in the definition's order; the letters are `is_stack`'s. Assumes nothing.
pub returns-then-session-lt1 : goal.returns-then-session-lt1
returns-then-session-lt1 c = λ g e l. too-low g _ _ _ c.if-session-lt1.true

pub returns-then-session-gt-MAX_STACK : goal.returns-then-session-gt-MAX_STACK
returns-then-session-gt-MAX_STACK c = λ g e l. too-high g _ _ _ c.if-session-lt1.false c.if-session-gt-MAX_STACK.true

pub returns-then-control-session : goal.returns-then-control-session
returns-then-control-session c = λ g e l. no-control g _ _ _ c.if-session-lt1.false c.if-session-gt-MAX_STACK.false (omega (arith, c.if-control-session.true))

pub returns : goal.returns
returns c = λ g e l. c.is_stack.ensures ∙ rw l (by-letters g _ _ _ c.if-session-lt1.false c.if-session-gt-MAX_STACK.false (omega (arith, c.if-control-session.false)))
