use native.Mathlib.Omega.{arith}
use Rattle.std.proofs.lemmas.Grind.{common_steps}
use Rattle.solver.proofs.RoundsTaken.{refused-left}
use Rattle.solver.proofs.solving.give_up.Goals as goal

-- That the table is zero is left to `grind`, which names a word that is not.
pub returns : goal.returns
returns c =
    record {
      work_after = refused-left _ _ _ (grind (arith, common_steps)) c.clear-2.ensures;
    }
