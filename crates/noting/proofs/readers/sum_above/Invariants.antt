use Rattle.noting.proofs.ActiveRules.{Summing}
use Rattle.noting.proofs.readers.sum_above.Given as goal

-- The letters passed are summed (`Summing`). What falls is the word of those left. Assumes what the contract requires.
abbrev pub invariant-loop-rest : goal.invariant-loop-rest
invariant-loop-rest l = Summing l.word l.readers l.initial.sum l.rest l.sum

abbrev pub decreases-loop-rest : goal.decreases-loop-rest
decreases-loop-rest l = l.rest
