use Prim.Native.Nat.{◌-◌}
use Rattle.saturation.proofs.HeadTurns.{Unites}
use Rattle.saturation.proofs.heads.unite_rules.Given as goal

-- Unions of one set for each rule passed are in hand (`Uniting`). What falls is the number of rules left, since a next rule comes later.
-- Assumes what the contract requires.
abbrev pub invariant-loop-r : goal.invariant-loop-r
invariant-loop-r l =
    Unites l.rules.frame.n l.ends l.rules.sizes.rulecount l.rules.nexts.now l.rules.frame.raising.now l.first l.initial.sets l.sets l.r

abbrev pub decreases-loop-r : goal.decreases-loop-r
decreases-loop-r l = l.rules.sizes.rulecount - l.r
