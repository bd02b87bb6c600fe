use Rattle.unions.proofs.Naming.{Naming}
use Rattle.unions.proofs.elements.number_states.Given as goal

-- The states of the set are passed from the lowest up and listed, and numbered, as long as they are at most ten (`Naming`). What falls is
-- the set of those left. Assumes what the contract requires.
abbrev pub invariant-loop-rest : goal.invariant-loop-rest
invariant-loop-rest l = Naming l.set l.rest l.count l.states l.numbers

abbrev pub decreases-loop-rest : goal.decreases-loop-rest
decreases-loop-rest l = l.rest
