use Prim.Native.Nat.{◌-◌, ◌≤◌}
use Rattle.session.proofs.Scan.{Scanned}
use Rattle.session.proofs.moving.is_stack.Given as goal

-- The loop goes from the top letter down to the bottom. The letters from `i` up have passed, so that the form of all letters is that of
-- the letters below `i`; at 1 the bottom is left. Assumes nothing.
abbrev pub invariant-loop-i : goal.invariant-loop-i
invariant-loop-i l = (1 ≤ l.i) × Scanned l.letters l.stack l.height (l.i - 1)
