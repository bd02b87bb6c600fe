use Prim.Native.Nat.{◌≤◌}
use mathlib.Core.Path.{◌≡◌}
use lib.ListN.{length}
use Rattle.noting.specs.Reading.{SecondTo}
use Rattle.noting.proofs.readers.find_second.Given as goal

-- The letters below c are done (`SecondTo`). Assumes what the contract requires.
abbrev pub invariant-loop-c : goal.invariant-loop-c
invariant-loop-c l = SecondTo l.c l.fresh l.readers l.held l.initial.active l.active × (l.c ≤ l.letters) × (length l.active ≡ length l.initial.active)
