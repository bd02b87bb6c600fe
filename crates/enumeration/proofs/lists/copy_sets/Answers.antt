use native.Mathlib.Omega.{arith}
use mathlib.Core.Path.{◌≡◌}
use Rattle.enumeration.proofs.Writing.{none-copied, next-copied}
use Rattle.enumeration.proofs.lists.copy_sets.Goals as goal

pub loop-k-init : goal.loop-k-init
loop-k-init c = (omega arith, none-copied _ _ _)

pub loop-k-preserved : goal.loop-k-preserved
loop-k-preserved c = (omega arith, next-copied _ _ _ c.loop-k.k _ c.loop-k.invariant.1 (omega (arith, c.requires)))

pub returns : goal.returns
returns c = let same : c.loop-k.k ≡ c.args.count = omega arith in rw same at c.loop-k.invariant.1
