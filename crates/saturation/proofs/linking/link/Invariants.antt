use Prim.Native.Nat.{◌≤◌}
use lib.ListN.{length}
use mathlib.Core.Path.{◌≡◌}
use Rattle.saturation.specs.RuleLinks.{LinkedFrom}
use Rattle.saturation.proofs.linking.link.Given as goal

-- The rules from r on are linked (`LinkedFrom`).  Assumes what the contract requires.
abbrev pub invariant-loop-r : goal.invariant-loop-r
invariant-loop-r l =
    LinkedFrom l.rules l.count l.letters l.control l.firsts l.nexts l.r × (l.r ≤ l.count) × (length l.firsts ≡ length l.initial.firsts) × (length l.nexts ≡ length l.initial.nexts)
