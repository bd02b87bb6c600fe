use Prim.Native.Nat.{◌≤◌}
use mathlib.Core.Path.{◌≡◌}
use lib.ListN.{length}
use Rattle.noting.specs.Signs.{Reads}
use Rattle.noting.proofs.readers.mark_rules.Given as goal

-- The rules below r are marked (`Reads`). Assumes what the contract requires.
abbrev pub invariant-loop-r : goal.invariant-loop-r
invariant-loop-r l = Reads l.rules l.r l.readers × (l.r ≤ l.count) × (length l.readers ≡ length l.initial.readers)
