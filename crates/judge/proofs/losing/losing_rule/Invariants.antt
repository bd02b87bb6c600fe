use Rattle.judge.proofs.LostRules.{Scanning}
use Rattle.judge.proofs.losing.losing_rule.Given as goal

-- The field of the whole head is that of the rules of the head from r on (`Scanning`). Assumes what the
-- contract requires.
abbrev pub invariant-loop-r : goal.invariant-loop-r
invariant-loop-r l = Scanning l.sizes l.rules l.table l.p l.a l.lost l.r
