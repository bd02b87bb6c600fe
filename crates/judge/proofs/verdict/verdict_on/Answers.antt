use mathlib.Core.Path.{refl}
use native.Mathlib.Omega.{arith}
use Rattle.judge.proofs.Steps.{field-small}
use Rattle.judge.proofs.Bounds.{numbers, tamed, found, rule-least, is_lost, is-target, is-abelard, is-eloise}
use Rattle.judge.proofs.verdict.verdict_on.Goals as goal

pub head_worth-found-requires : goal.head_worth-found-requires
head_worth-found-requires c =
    let asked = c.requires in
    let lent = asked.lent in
    let below = c.worths-below.ensures in
    (lent.safe.states, lent.young, lent.sorted, tamed asked _ below.coded below.own)

pub lost_rule-requires : goal.lost_rule-requires
lost_rule-requires c = let lent = c.requires.lent in (lent.safe, lent.sorted)

pub returns-in_default : goal.returns-in_default
returns-in_default c =
    λ g h.
    let asked = c.requires in
    let below = c.worths-below.ensures in
    is_lost h (found asked _ below.coded (rw c.in_default.is at c.head_worth-found.ensures.coded)) refl
    (c.lost_rule.ensures g h (numbers asked _ below.coded below.own))

pub returns-then-bound-eq0 : goal.returns-then-bound-eq0
returns-then-bound-eq0 c =
    λ g h.
    let asked = c.requires in
    let head = c.head_worth-found.ensures in
    let own = head.own _ c.in-Some.is in
    is-target h (found asked _ c.worths-below.ensures.coded (rw c.in-Some.is at head.coded)) (λ z. omega (arith, z, own)) c.if-bound-eq0.true

pub returns-then-has_state : goal.returns-then-has_state
returns-then-has_state c =
    λ g h.
    let asked = c.requires in
    let head = c.head_worth-found.ensures in
    let own = head.own _ c.in-Some.is in
    is-abelard h (found asked _ c.worths-below.ensures.coded (rw c.in-Some.is at head.coded)) (λ z. omega (arith, z, own))
    c.if-bound-eq0.false c.has_state.ensures c.if-has_state.true

pub least_rule-field-requires : goal.least_rule-field-requires
least_rule-field-requires c =
    let asked = c.requires in
    let lent = asked.lent in
    let below = c.worths-below.ensures in
    (lent.safe.states, lent.young, lent.sorted, tamed asked _ below.coded below.own, c.head_worth-found.ensures.own _ c.in-Some.is)

pub returns : goal.returns
returns c =
    λ g h.
    let asked = c.requires in
    let below = c.worths-below.ensures in
    let head = c.head_worth-found.ensures in
    let own = head.own _ c.in-Some.is in
    let bound = found asked _ below.coded (rw c.in-Some.is at head.coded) in
    let known = c.type_inv.table in
    let least = rule-least asked _ below.coded (λ k. (known k).fits) own c.least_rule-field.ensures in
    is-eloise h bound (λ z. omega (arith, z, own)) c.if-bound-eq0.false c.has_state.ensures c.if-has_state.false least c.rule_number.ensures
    (field-small _ (λ k. (known k).fits))
