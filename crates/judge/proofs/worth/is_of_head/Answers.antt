use Rattle.judge.specs.Worth.{entry_of_head}
use Rattle.judge.proofs.Tests.{equal, unequal}
use Rattle.judge.proofs.worth.is_of_head.Goals as goal

pub returns-then-state-p : goal.returns-then-state-p
unfolding entry_of_head
returns-then-state-p c = rw (unequal c.state.ensures c.if-state-p.true)

pub returns : goal.returns
unfolding entry_of_head
returns c = rw (equal c.state.ensures c.if-state-p.false, c.letter.ensures)
