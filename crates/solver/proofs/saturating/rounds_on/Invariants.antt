use Prim.Native.Nat.{◌-◌}
use Rattle.game.specs.Limits.{max_rounds}
use Rattle.solver.proofs.RestTurns.{Turning}
use Rattle.solver.proofs.saturating.rounds_on.Given as goal

-- The loop's turns are the rounds: what is kept rests at round i, no earlier one is settled, and solving goes on from it (`Turning`); a round is
-- taken with all of the lines or none (`rests-kept`). The measure is how many rounds may still be taken. Assumes what the contract requires
-- and what `take_round` promises.
abbrev pub invariant-loop-next : goal.invariant-loop-next
invariant-loop-next g l =
    Turning l.rules l.first l.initial.table l.initial.log l.initial.marks l.initial.kept l.initial.arrays l.table l.log l.marks l.kept l.arrays l.size l.entries l.i

abbrev pub decreases-loop-next : goal.decreases-loop-next
decreases-loop-next g l =
    max_rounds - l.i
