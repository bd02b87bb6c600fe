use Rattle.noting.proofs.ClosingMasks.{Thinning}
use Rattle.noting.proofs.closing.clear_row.Given as goal

-- The letters of the set are passed from the lowest up (`Thinning`). What falls is the set of those left. Assumes what the contract
-- requires.
abbrev pub invariant-loop-rest : goal.invariant-loop-rest
invariant-loop-rest l =
    Thinning l.base l.letters l.bits l.n l.initial.new l.rest l.new

abbrev pub decreases-loop-rest : goal.decreases-loop-rest
decreases-loop-rest l = l.rest
