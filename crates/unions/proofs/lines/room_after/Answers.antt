use mathlib.Core.Logic.{inl, inr}
use mathlib.Core.Path.{refl}
use native.Mathlib.Omega.{arith}
use Rattle.unions.proofs.lines.room_after.Goals as goal

pub returns-then-room-count-lt10 : goal.returns-then-room-count-lt10
returns-then-room-count-lt10 c = (inr refl, λ h. omega arith)

pub returns : goal.returns
returns c = (inl refl, λ h. omega (arith, c.if-room-count-lt10.false, c.requires))
