use Rattle.judge.proofs.Filling.{start, next, empty_worth, empty-filled}
use Rattle.judge.proofs.worth.set_empty.Goals as goal

pub loop-q-init : goal.loop-q-init
loop-q-init c = start _ _

pub loop-q-preserved : goal.loop-q-preserved
unfolding empty_worth
loop-q-preserved c = next _ _ c.loop-q.q _ c.requires c.loop-q.invariant c.loop-q-test.true _ c.empty_worth.ensures.coded c.empty_worth.ensures.own

pub returns : goal.returns
returns c = record { coded = empty-filled _ _ c.loop-q.q _ c.requires c.loop-q.invariant c.loop-q-test.false; own = c.loop-q.invariant.own }
