use Rattle.judge.specs.Machine.{numbers}
use Rattle.judge.proofs.Filling.{Filled, step_number}
use Rattle.judge.proofs.worth.set_step.Given as goal

-- The first q places hold the least worths of their heads, the others none (`Filled`).
-- Assumes what the contract requires.
abbrev pub invariant-loop-q : goal.invariant-loop-q
invariant-loop-q l = Filled (step_number l.sizes.states l.table (numbers l.below) l.letter) l.sizes.states l.q l.out
