use mathlib.Core.Path.{refl}
use native.Mathlib.Omega.{arith}
use Rattle.judge.proofs.MachineLaws.{weight-small}
use Rattle.judge.proofs.Codes.{own-some}
use Rattle.judge.proofs.Steps.{worth-none, worth-sum}
use Rattle.judge.proofs.worth.entry_worth.Goals as goal

pub returns-in_err-largest-clause-coded : goal.returns-in_err-largest-clause-coded
returns-in_err-largest-clause-coded c = rw c.from_residual.ensures (worth-none _ _ _ _ c.in_err-largest.ensures.coded refl)

pub weight-requires : goal.weight-requires
weight-requires c = omega (arith, c.birthdate.ensures, c.requires)

pub overflow_add-result : goal.overflow_add-result
overflow_add-result c =
    let low = c.in_ok-largest.ensures.low _ refl in
    let light = weight-small c.birthdate.result (omega (arith, c.birthdate.ensures, c.requires.2)) in
    record { fits = omega (arith, c.weight.ensures, light, low) }

pub returns-clause-coded : goal.returns-clause-coded
returns-clause-coded c =
    let low = c.in_ok-largest.ensures.low _ refl in
    worth-sum _ _ _ _ c.in_ok-largest.ensures.coded (λ z. omega (arith, z, low)) _ _ c.birthdate.ensures c.weight.ensures

pub returns-clause-own : goal.returns-clause-own
returns-clause-own c =
    let low = c.in_ok-largest.ensures.low _ refl in
    let light = weight-small c.birthdate.result (omega (arith, c.birthdate.ensures, c.requires.2)) in
    own-some (omega (arith, c.weight.ensures, light, low))
