-- Over no letters the worths are those of the final states. Over a letter and a rest they are the step of the letter over the
-- worths of the rest, which the call gives. Assumes what the contract requires.
use Rattle.judge.proofs.Recursion.{no-taller, tame-worths, stepped}
use Rattle.judge.proofs.worth.+set_worths.Goals as goal

pub set_step-requires : goal.set_step-requires
set_step-requires t c =
    let pre = c.requires in
    (pre.0, pre.2, pre.3, tame-worths c.args.sizes pre.0 _ pre.2 _ (no-taller c.args.rest.now 256 pre.1) _ c.set_worths.ensures.own c.set_worths.ensures.coded)

pub returns : goal.returns
returns t c =
    let pre = c.requires in
    record {
      coded = stepped c.args.sizes pre.0 _ pre.2 c.args.rest.now pre.1 c.if-rest-eq0.false _ c.set_worths.ensures.coded _ c.set_step.ensures.coded;
      own = c.set_step.ensures.own;
    }
