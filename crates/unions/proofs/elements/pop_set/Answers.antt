use Rattle.unions.proofs.Gathering.{pop-first, pop-none}
use Rattle.unions.proofs.elements.pop_set.Goals as goal

pub returns-then-written-eq0 : goal.returns-then-written-eq0
returns-then-written-eq0 c = pop-first _ _ c.if-written-eq0.true

pub returns : goal.returns
returns c = pop-none _ _ c.if-written-eq0.false
