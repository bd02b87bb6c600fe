-- The entries before entry i are noted. Assumes what the contract requires.
use mathlib.Core.Path.{◌≡◌}
use lib.ListN.{length}
use Rattle.enumeration.specs.Past.{Marked}
use Rattle.enumeration.proofs.fresh.set_fresh.Given as goal

abbrev pub invariant-loop-i : goal.invariant-loop-i
invariant-loop-i l = length l.initial.fresh ≡ 256 → Marked l.work l.fresh l.late l.i
