use Rattle.judge.proofs.LostRules.{marked_start, marked_next, denied, none-marked}
use Rattle.judge.proofs.losing.lost_states.Goals as goal

pub loop-q-init : goal.loop-q-init
loop-q-init c = marked_start _ _

pub loop-q-preserved : goal.loop-q-preserved
loop-q-preserved c =
    let at-loop = c.loop-q in
    marked_next _ _ at-loop.q at-loop.set c.requires at-loop.invariant c.loop-q-test.true _ (denied _ _ c.is_none.ensures)
    c.marked-set.ensures

pub returns : goal.returns
returns c = none-marked c.requires c.loop-q.invariant c.loop-q-test.false
