use native.Mathlib.Omega.{arith}
use Rattle.session.proofs.Turn.{too-tall, replaces}
use Rattle.session.proofs.moving.replace_top.Goals as goal

pub returns-then-top-gt-MAX_STACK : goal.returns-then-top-gt-MAX_STACK
returns-then-top-gt-MAX_STACK c = rw c.at.ensures (too-tall _ _ _ c.args.session.stack _ (omega (arith, c.well_formed)) c.requires c.if-top-gt-MAX_STACK.true)

pub returns : goal.returns
returns c = replaces _ _ _ c.args.session.stack _ (omega (arith, c.well_formed)) c.requires c.if-top-gt-MAX_STACK.false _ c.written-cells.ensures
