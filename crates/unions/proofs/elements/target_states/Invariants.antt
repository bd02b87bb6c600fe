use Prim.Native.Nat.{◌≤◌}
use Rattle.unions.specs.ElementsOf.{Gathered, target_set}
use Rattle.unions.proofs.elements.target_states.Given as goal

-- The sets of the transitions before place t are gathered (`Gathered`). Assumes what the contract requires.
abbrev pub invariant-loop-t : goal.invariant-loop-t
invariant-loop-t l = (l.t ≤ l.count) × Gathered (target_set l.targets) l.t l.set
