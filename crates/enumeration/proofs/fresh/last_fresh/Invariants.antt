-- From rule k on no rule of the head is fresh. Assumes what the contract requires.
use Prim.Native.Nat.{◌≤◌}
use Rattle.enumeration.specs.Past.{SettledFrom}
use Rattle.enumeration.proofs.fresh.last_fresh.Given as goal

abbrev pub invariant-loop-k : goal.invariant-loop-k
invariant-loop-k l = (l.k ≤ l.end) × SettledFrom l.rules l.fresh l.end l.p l.a l.k
