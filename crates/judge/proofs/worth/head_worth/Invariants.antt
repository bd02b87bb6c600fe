use Rattle.judge.specs.Machine.{number_of, numbers, Own, head_number}
use Rattle.judge.proofs.Passes.{Passing}
use Rattle.judge.proofs.worth.head_worth.Given as goal

-- The least worth over the whole table is the lesser of what is in hand and the least over the entries from i on (`Passing`): before
-- the place of the head's key no entry is one of it, and none is after the first that is not.
-- Assumes what the contract requires.
abbrev pub invariant-loop-i : goal.invariant-loop-i
invariant-loop-i l = Passing (head_number l.q l.a l.states (numbers l.below)) l.table l.q l.a l.i (number_of l.least) × Own l.least
