use native.Mathlib.Omega.{arith}
use native.Mathlib.Nat.{one-mul, mod-eq_of_lt}
use lib.Pow.{pow-lt}
use Rattle.solver.proofs.Beginnings.{one_word, more-words}
use Rattle.solver.proofs.areas.words_of.Goals as goal

pub returns-then-elements-le6 : goal.returns-then-elements-le6
returns-then-elements-le6 c = (omega arith, one_word _ c.if-elements-le6.true)

pub returns : goal.returns
returns c = more-words _ _ (omega (arith, c.if-elements-le6.false)) c.requires (rw one-mul (mod-eq_of_lt (pow-lt {j = 64} (omega (arith, c.requires)))))
