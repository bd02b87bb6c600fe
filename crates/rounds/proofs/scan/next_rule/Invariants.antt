use Rattle.rounds.proofs.Heads.{Skipping}
use Rattle.rounds.proofs.scan.next_rule.Given as goal

-- No rule from `from` up to place r is one of the head.
-- Assumes what the contract requires.
abbrev pub invariant-loop-r : goal.invariant-loop-r
invariant-loop-r l = Skipping l.rules l.end l.from l.state l.letter l.r
