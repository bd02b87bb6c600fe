-- A rule that writes nothing has one run, whose end is the state that it goes to; any other has those that begin with an entry of
-- the old round. Either way the function that is called leaves the list of run i. Assumes what the contract requires.
use native.Mathlib.Omega.{arith}
use Rattle.walk.proofs.FirstRuns.{runs-written, passed-some, popped, popped-past, written, written-past}
use Rattle.walk.proofs.round.run_at.Goals as goal

pub returns-then-task-at-eq0-clause-finished : goal.returns-then-task-at-eq0-clause-finished
returns-then-task-at-eq0-clause-finished c =
    λ g old birthdate n s h pl ag li w past. rw (← popped g old birthdate n _ _ c.args.task.now.work.now c.args.table.now _ c.args.memo.now s h c.args.r c.requires.0 c.joined-passed.result c.joined-passed.ensures c.if-task-at-eq0.true c.args.i) (c.rules_after.ensures.finished g old birthdate n s h pl ag li w (passed-some g old birthdate n _ _ c.args.task.now.work.now c.args.table.now _ c.args.memo.now s h c.args.r c.requires.0 c.joined-passed.result c.joined-passed.ensures) (popped-past g old birthdate n _ _ c.args.task.now.work.now c.args.table.now _ c.args.memo.now s h c.args.r c.requires.0 c.joined-passed.result c.joined-passed.ensures w c.if-task-at-eq0.true _ past))

pub runs_with-requires : goal.runs_with-requires
runs_with-requires c = (c.requires.0, omega (arith, c.requires.1, runs-written c.args.task.now.rules.now c.args.r c.args.task.now.job.count c.if-task-at-eq0.false))

pub returns-clause-finished : goal.returns-clause-finished
returns-clause-finished c =
    λ g old birthdate n s h pl ag li w past. rw (← written g old birthdate n _ _ c.args.task.now.work.now c.args.table.now _ c.args.memo.now s h c.args.r c.requires.0 c.if-task-at-eq0.false c.args.i) (c.runs_with.ensures.finished g old birthdate n s h pl ag li w (written-past g old birthdate n _ _ c.args.task.now.work.now c.args.table.now _ c.args.memo.now s h c.args.r c.requires.0 w c.if-task-at-eq0.false _ past))
