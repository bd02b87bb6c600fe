use Prim.Native.Nat.{◌≤◌}
use Rattle.unions.specs.ElementsOf.{Gathered, pop_set_at}
use Rattle.unions.proofs.elements.pop_states.Given as goal

-- The states of the rules before place r are gathered (`Gathered`). Assumes what the contract requires.
abbrev pub invariant-loop-r : goal.invariant-loop-r
invariant-loop-r l = (l.r ≤ l.count) × Gathered (pop_set_at l.rules) l.r l.set
