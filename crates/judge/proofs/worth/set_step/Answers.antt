use Rattle.judge.proofs.Filling.{start, next, step_number, step-filled}
use Rattle.judge.proofs.worth.set_step.Goals as goal

pub loop-q-init : goal.loop-q-init
loop-q-init c = start _ _

pub loop-q-preserved : goal.loop-q-preserved
unfolding step_number
loop-q-preserved c = next _ _ c.loop-q.q _ c.requires.0 c.loop-q.invariant c.loop-q-test.true _ c.head_worth.ensures.coded c.head_worth.ensures.own

pub returns : goal.returns
returns c =
    record {
      coded = step-filled c.args.sizes c.requires.0 _ c.requires.1 _ _ c.loop-q.q _ c.loop-q.invariant c.loop-q-test.false;
      own = c.loop-q.invariant.own;
    }
