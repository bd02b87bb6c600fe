use Rattle.table.specs.Filling.{Done}
use Rattle.solver.proofs.solving.copy.Given as goal

-- The words before place i are those copied, the others as they were.
-- Assumes what the contract requires.
abbrev pub invariant-loop-i : goal.invariant-loop-i
invariant-loop-i l = Done l.initial.to l.from l.i l.to
