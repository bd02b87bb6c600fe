use native.Mathlib.Omega.{arith}
use Rattle.session.proofs.Cells.{lays-none, lays_one, lays-two}
use Rattle.session.proofs.moving.written.Goals as goal

pub returns-then-count-eq0 : goal.returns-then-count-eq0
returns-then-count-eq0 c = lays-none c.args.stack _ c.args.below _ _ _ (omega (arith, c.well_formed)) c.cleared-cells.ensures (omega arith) c.if-count-eq0.true

pub returns-then-count-eq1 : goal.returns-then-count-eq1
returns-then-count-eq1 c = lays_one c.args.stack _ c.args.below _ _ _ (omega (arith, c.well_formed)) c.cleared-cells.ensures (omega arith) c.if-count-eq1.true

pub returns : goal.returns
returns c = lays-two c.args.stack _ c.args.below _ _ _ (omega (arith, c.well_formed)) c.cleared-cells.ensures (omega arith) c.if-count-eq0.false c.if-count-eq1.false
