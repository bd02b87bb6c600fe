use Rattle.noting.proofs.Offering.{Words}
use Rattle.noting.proofs.offers.note_word.Given as goal

-- The sets passed are noted (`Words`); a set that has no room shows that the round has none. What falls is the word of those left.
-- Assumes what the contract requires.
abbrev pub invariant-loop-rest : goal.invariant-loop-rest
invariant-loop-rest l = Words l.word l.from l.size l.first l.rule l.initial.log l.count l.log l.entries l.rest

abbrev pub decreases-loop-rest : goal.decreases-loop-rest
decreases-loop-rest l = l.rest
