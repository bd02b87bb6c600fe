use native.Mathlib.Omega.{arith}
use Rattle.table.specs.Table.{entry_of}
use Rattle.judge.proofs.Codes.{tame-numbers}
use Rattle.judge.proofs.MachineLaws.{weight-small}
use Rattle.judge.proofs.Steps.{worth-sum, no-lesser}
use Rattle.judge.proofs.worth.lesser_worth.Goals as goal

pub returns-in_default-largest_below-clause-coded : goal.returns-in_default-largest_below-clause-coded
returns-in_default-largest_below-clause-coded c =
    λ own.
    let tame = tame-numbers c.args.below.now c.requires.1 in
    let over = c.in_default-largest_below.ensures.beyond in
    let less = no-lesser _ _ (entry_of c.args.entry.first c.args.entry.set c.args.entry.rule) tame c.requires.0 _ _ _ c.birthdate.ensures c.weight-weight.ensures (own _ c.in-Some.is) (omega (arith, over, c.saturating_sub-limit.ensures)) in
    rw c.in-Some.is (omega (arith, less))

pub overflow_add-new : goal.overflow_add-new
overflow_add-new c =
    let low = c.in-Some-largest_below.ensures.found in
    let light = weight-small c.birthdate.result (omega (arith, c.birthdate.ensures, c.requires.2)) in
    record { fits = omega (arith, c.weight-weight.ensures, light, low) }

pub returns-then-old-new-clause-coded : goal.returns-then-old-new-clause-coded
returns-then-old-new-clause-coded c =
    λ own.
    let found = c.in-Some-largest_below.ensures.found in
    let sum = worth-sum _ _ (entry_of c.args.entry.first c.args.entry.set c.args.entry.rule) _ found.0 (λ z. omega (arith, z, found.1)) _ _ c.birthdate.ensures c.weight-weight.ensures in
    rw c.in-Some.is (omega (arith, sum, c.if-old-new.true))

pub returns-clause-coded : goal.returns-clause-coded
returns-clause-coded c =
    λ own.
    let found = c.in-Some-largest_below.ensures.found in
    let sum = worth-sum _ _ (entry_of c.args.entry.first c.args.entry.set c.args.entry.rule) _ found.0 (λ z. omega (arith, z, found.1)) _ _ c.birthdate.ensures c.weight-weight.ensures in
    rw c.in-Some.is (omega (arith, sum, c.if-old-new.false))
