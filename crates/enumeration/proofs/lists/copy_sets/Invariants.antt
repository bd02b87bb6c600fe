-- The sets of the entries before entry k are copied. Assumes what the contract requires.
use Prim.Native.Nat.{◌≤◌}
use Rattle.enumeration.specs.Lists.{Copied}
use Rattle.enumeration.proofs.lists.copy_sets.Given as goal

abbrev pub invariant-loop-k : goal.invariant-loop-k
invariant-loop-k l = (l.k ≤ l.count) × Copied l.initial.lists l.sets l.k l.room l.lists
