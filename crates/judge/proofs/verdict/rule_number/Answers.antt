use mathlib.Core.Path.{refl}
use native.Mathlib.Omega.{arith}
use Rattle.judge.proofs.Tests.{number-zero, number-none, number-some}
use Rattle.judge.proofs.verdict.rule_number.Goals as goal

pub returns-in_default : goal.returns-in_default
returns-in_default c = λ x e f. number-none _ refl x (rw c.in_default.is at e) f

pub returns-then-one_more-eq0 : goal.returns-then-one_more-eq0
returns-then-one_more-eq0 c = λ x e f. number-zero _ c.if-one_more-eq0.true x (rw c.in-Some.is at e) f

pub returns : goal.returns
returns c = λ x e f. number-some _ c.if-one_more-eq0.false (λ z. omega (arith, z)) x (rw c.in-Some.is at e) f
