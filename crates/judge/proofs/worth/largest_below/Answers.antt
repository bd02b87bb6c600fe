use native.Mathlib.Omega.{arith}
use mathlib.Core.Path.{refl, ◌∙◌}
use Rattle.judge.specs.Machine.{numbers}
use Rattle.judge.proofs.Codes.{tame-numbers}
use Rattle.judge.proofs.Members.{begin, turn, lost, inside, finish, none-from, of-all, so_far-at-most}
use Rattle.judge.proofs.worth.largest_below.Goals as goal

pub loop-rest-init : goal.loop-rest-init
loop-rest-init c = (rw c.members_below-rest.ensures (begin _ _ _), omega arith)

pub larger-requires : goal.larger-requires
larger-requires c = (c.lowest_member-member.ensures.small, c.loop-rest.invariant.1, c.requires.1)

pub returns-in_err-most-clause-beyond : goal.returns-in_err-most-clause-beyond
returns-in_err-most-clause-beyond c =
    let going = c.loop-rest.invariant.0 in
    let low = c.lowest_member-member.ensures in
    let there = inside _ _ _ _ _ going _ low (none-from c.args.set c.args.states) in
    let none =
    lost _ _ _ _ _ going _ low (tame-numbers c.args.below.now c.requires.1) c.requires.0 there c.loop-rest.invariant.1 c.in_err-most.ensures.coded
    ∙ of-all (numbers c.args.below.now) c.args.set c.args.states
    in
    rw c.from_residual.ensures (omega (arith, none, c.ranges.limit.fits))

pub returns-then-limit-most-clause-beyond : goal.returns-then-limit-most-clause-beyond
returns-then-limit-most-clause-beyond c =
    let going = c.loop-rest.invariant.0 in
    let low = c.lowest_member-member.ensures in
    let there = inside _ _ _ _ _ going _ low (none-from c.args.set c.args.states) in
    let on = turn _ _ _ _ _ going _ low (omega (arith, c.loop-rest-test.true)) there _ c.in_ok-most.ensures.coded in
    omega (arith, so_far-at-most _ _ _ _ _ on, of-all (numbers c.args.below.now) c.args.set c.args.states, c.if-limit-most.true)

pub loop-rest-preserved : goal.loop-rest-preserved
loop-rest-preserved c =
    let going = c.loop-rest.invariant.0 in
    let low = c.lowest_member-member.ensures in
    let there = inside _ _ _ _ _ going _ low (none-from c.args.set c.args.states) in
    (turn _ _ _ _ _ going _ low (omega (arith, c.loop-rest-test.true)) there _ c.in_ok-most.ensures.coded, c.in_ok-most.ensures.low _ refl)

pub returns-clause-found : goal.returns-clause-found
returns-clause-found c =
    (finish _ _ _ _ _ c.loop-rest.invariant.0 c.loop-rest-test.false ∙ of-all (numbers c.args.below.now) c.args.set c.args.states, c.loop-rest.invariant.1)
