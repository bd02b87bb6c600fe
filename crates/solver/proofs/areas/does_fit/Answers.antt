use native.Mathlib.Omega.{arith}
use mathlib.Core.Path.{refl}
use Rattle.game.specs.ListLaws.{clash}
use Rattle.solver.proofs.Beginnings.{small-area}
use Rattle.solver.proofs.areas.does_fit.Goals as goal

pub returns-then-heads-gt2048 : goal.returns-then-heads-gt2048
returns-then-heads-gt2048 c = λ e. clash e refl

pub returns-then-words-n : goal.returns-then-words-n
returns-then-words-n c = λ e. clash e refl

pub returns-then-area-heads : goal.returns-then-area-heads
returns-then-area-heads c = λ e. clash e refl

pub overflow_mul-result : goal.overflow_mul-result
overflow_mul-result c = omega (arith, small-area c.args.heads c.args.n (omega (arith, c.if-heads-gt2048.false)) (omega (arith, c.if-words-n.false, c.requires.1)))
