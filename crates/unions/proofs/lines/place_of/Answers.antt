use native.Mathlib.Nat.{mod-lt}
use native.Mathlib.Omega.{arith}
use Rattle.unions.specs.PlaceLaws.{place-small}
use Rattle.unions.proofs.lines.place_of.Goals as goal

pub overflow_mul-place : goal.overflow_mul-place
overflow_mul-place c = omega (arith, place-small c.args.c c.args.n (omega (arith, c.requires.3)) c.requires.1)

pub overflow_mul-place-2 : goal.overflow_mul-place-2
overflow_mul-place-2 c = omega (arith, place-small c.args.c c.args.n (omega (arith, c.requires.3)) c.requires.1)

pub overflow_add-place : goal.overflow_add-place
overflow_add-place c = omega (arith, c.requires.2, place-small c.args.c c.args.n (omega (arith, c.requires.3)) c.requires.1)

pub returns : goal.returns
returns c = mod-lt _ c.requires.0
