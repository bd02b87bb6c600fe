use native.Mathlib.Omega.{arith}
use Rattle.unions.proofs.Passes.{top-is}
use Rattle.unions.proofs.lines.highest.Goals as goal

pub overflow_cast-result : goal.overflow_cast-result
overflow_cast-result c = omega (arith, (top-is _ c.requires.0 c.requires.1).0)

pub overflow_sub-result : goal.overflow_sub-result
overflow_sub-result c = (top-is _ c.requires.0 c.requires.1).0

pub returns : goal.returns
returns c = (top-is _ c.requires.0 c.requires.1).1
