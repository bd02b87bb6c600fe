use Rattle.judge.proofs.LostRules.{marked_start, marked_next, step-marked}
use Rattle.judge.proofs.losing.lost_above.Goals as goal

pub loop-q-init : goal.loop-q-init
loop-q-init c = marked_start _ _

pub loop-q-preserved : goal.loop-q-preserved
loop-q-preserved c =
    let at-loop = c.loop-q in
    marked_next _ _ at-loop.q at-loop.set c.requires.0 at-loop.invariant c.loop-q-test.true _ c.is_head_lost.ensures
    c.marked-set.ensures

pub returns : goal.returns
returns c =
    λ ws l.
    let at-loop = c.loop-q in
    step-marked c.args.sizes _ l _ at-loop.q at-loop.set at-loop.invariant c.loop-q-test.false
