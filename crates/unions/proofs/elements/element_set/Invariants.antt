use Rattle.unions.proofs.Members.{Uniting}
use Rattle.unions.proofs.elements.element_set.Given as goal

-- The states of the set are passed from the lowest up, and what the elements found stand for makes up the set with the states left
-- (`Uniting`). What falls is the set of those left. Assumes what the contract requires.
abbrev pub invariant-loop-rest : goal.invariant-loop-rest
invariant-loop-rest l = Uniting l.numbers l.set l.rest l.found

abbrev pub decreases-loop-rest : goal.decreases-loop-rest
decreases-loop-rest l = l.rest
