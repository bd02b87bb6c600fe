use Rattle.judge.proofs.Filling.{Filled, empty_worth}
use Rattle.judge.proofs.worth.set_empty.Given as goal

-- The first q places hold the worths of the empty stack, the others none.
-- Assumes what the contract requires.
abbrev pub invariant-loop-q : goal.invariant-loop-q
invariant-loop-q l = Filled (empty_worth l.finals) l.states l.q l.out
