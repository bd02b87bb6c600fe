use Rattle.judge.specs.Worth.{no_worth}
use Rattle.judge.proofs.Passes.{Passing, open_number}
use Rattle.judge.proofs.losing.is_head_lost.Given as goal

-- Of the head's transitions none before place i has a set without a lost state, so that the least of the numbers that say so of each
-- (`open_number`) over the whole table is that over the entries from i on (`Passing`, with none in hand). Assumes what the contract requires.
abbrev pub invariant-loop-i : goal.invariant-loop-i
invariant-loop-i l = Passing (open_number l.q l.a l.lost) l.table l.q l.a l.i no_worth
