use Rattle.judge.specs.Machine.{number_of, numbers, rule_number}
use Rattle.judge.proofs.Passes.{Passing}
use Rattle.judge.proofs.verdict.least_rule.Given as goal

-- The least rule field over the whole table is the lesser of what is in hand and the least over the entries from i on (`Passing`), as
-- for worths. Assumes what the contract requires.
abbrev pub invariant-loop-i : goal.invariant-loop-i
invariant-loop-i l = Passing (rule_number l.p l.a l.states (numbers l.below) l.bound) l.table l.p l.a l.i (number_of l.least)
