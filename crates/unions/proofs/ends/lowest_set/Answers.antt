use native.Mathlib.Omega.{arith}
use Rattle.game.specs.LowestLaws.{lowest-of}
use Rattle.unions.proofs.ends.lowest_set.Goals as goal

pub overflow_cast-result : goal.overflow_cast-result
overflow_cast-result c = omega (arith, (lowest-of 64 _ c.requires c.ranges.word.fits).small)

pub returns : goal.returns
returns c = lowest-of 64 _ c.requires c.ranges.word.fits
