use Rattle.unions.proofs.Passes.{lowest-is}
use native.Mathlib.Omega.{arith}
use Rattle.unions.proofs.lines.lowest.Goals as goal

pub overflow_cast-result : goal.overflow_cast-result
overflow_cast-result c = omega (arith, (lowest-is _ c.requires.0 c.requires.1).small)

pub returns : goal.returns
returns c = lowest-is _ c.requires.0 c.requires.1
