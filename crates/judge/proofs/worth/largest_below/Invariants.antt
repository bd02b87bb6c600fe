use Prim.Native.Nat.{◌%◌, ◌^◌, ◌≤◌}
use Rattle.judge.specs.Machine.{numbers, most_below}
use Rattle.judge.proofs.Members.{Going}
use Rattle.judge.proofs.worth.largest_below.Given as goal

-- The largest worth of the members below `states` that were taken away, and what is left of them above those (`Going`). The measure is
-- the rest, which falls as a number. Assumes what the contract requires.
abbrev pub invariant-loop-rest : goal.invariant-loop-rest
invariant-loop-rest l = Going (numbers l.below) (l.set % 2 ^ l.states) l.states l.most l.rest × (l.most ≤ most_below)

abbrev pub decreases-loop-rest : goal.decreases-loop-rest
decreases-loop-rest l = l.rest
