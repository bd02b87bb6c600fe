use mathlib.Core.Path.{refl}
use native.Mathlib.Omega.{arith}
use Rattle.table.specs.Filling.{start, next, finish}
use Rattle.solver.proofs.solving.copy.Goals as goal

pub loop-i-init : goal.loop-i-init
loop-i-init c = start _ _

pub offset_bounds-to-i : goal.offset_bounds-to-i
offset_bounds-to-i c = omega (arith, c.requires)

pub bounds-to-i : goal.bounds-to-i
bounds-to-i c = omega (arith, c.requires, c.loop-i.invariant.long)

pub loop-i-preserved : goal.loop-i-preserved
loop-i-preserved c = next _ _ _ c.loop-i.i c.loop-i.invariant (omega (arith, c.requires)) _ refl

pub returns : goal.returns
returns c = finish _ _ _ c.loop-i.i c.loop-i.invariant (omega (arith, c.requires)) c.requires
