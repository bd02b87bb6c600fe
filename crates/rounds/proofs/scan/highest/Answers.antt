use native.Mathlib.Omega.{arith}
use Rattle.rounds.proofs.Heads.{highest-of, highest-none}
use Rattle.rounds.proofs.scan.highest.Goals as goal

-- The highest digit of a number that is not 0 stands below its leading zeros. Assumes nothing.
pub returns-then-set-eq0 : goal.returns-then-set-eq0
returns-then-set-eq0 c = rw c.if-set-eq0.true highest-none

pub returns : goal.returns
returns c = highest-of _ c.ranges.set.fits (omega (arith, c.if-set-eq0.false))
