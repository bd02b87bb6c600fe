use Prim.Native.Nat.{ℕ, ◌*◌, ◌-◌, ◌≤◌}
use mathlib.Core.Path.{◌≡◌}
use lib.ListN.{length}
use Rattle.game.specs.Limits.{max_rounds}
use Rattle.game.specs.Game.{PushdownGame}
use Rattle.game.specs.GoodGame.{Good}
use Rattle.game.specs.Held.{Held}
use Rattle.rounds.specs.Rounds.{round_zero}
use Rattle.rounds.specs.Filled.{Stored}
use Rattle.solver.proofs.RoundsTaken.{Taken}
use Rattle.solver.proofs.solving.rounds_from.Given as goal

-- The loop's turns are the rounds: round i is in the table and in `count`, no earlier one is settled, and solving goes on from it
-- (`Taken`). The work area is the copy from which the next round is taken, so a round sees the old one alone. The measure is how
-- many rounds may still be taken.
-- Assumes what the contract requires and what `take_wide` promises.
abbrev pub invariant-loop-sizes : goal.invariant-loop-sizes
invariant-loop-sizes l = (l.i ≤ max_rounds) × (length l.table ≡ length l.initial.table) × (length l.work ≡ length l.initial.work) × (l.count * 3 ≤ length l.table) × ((g : PushdownGame) (n : ℕ) → Held g l.sizes l.rules → Good g → Stored n l.initial.table l.first (round_zero g) → Taken g n l.i l.table l.count)

abbrev pub decreases-loop-sizes : goal.decreases-loop-sizes
decreases-loop-sizes l = max_rounds - l.i
