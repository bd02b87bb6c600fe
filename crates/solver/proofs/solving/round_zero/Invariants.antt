use Prim.Native.Nat.{ℕ, ◌*◌, ◌≤◌}
use mathlib.Core.Path.{◌≡◌}
use lib.ListN.{length, replicate}
use Rattle.game.specs.Game.{PushdownGame}
use Rattle.solver.specs.Given.{Given}
use Rattle.solver.proofs.Targets.{Adding}
use Rattle.solver.proofs.solving.round_zero.Given as goal

-- The transitions before place t are added (`Adding`).
-- Assumes what the contract requires.
abbrev pub invariant-loop-t : goal.invariant-loop-t
invariant-loop-t l = (l.count * 3 ≤ length l.table) × ((g : PushdownGame) (n : ℕ) → Given g l.fn.sizes l.rules l.targets → l.initial.table ≡ replicate (n * 3) 0 → Adding g n l.t l.table l.count)
