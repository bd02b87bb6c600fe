use native.Mathlib.Omega.{arith}
use Rattle.judge.specs.Machine.{numbers, rule_number}
use Rattle.judge.proofs.Steps.{born-in}
use Rattle.judge.proofs.Passes.{begin, turn, stops, finish, told, rule-away, rule-taken}
use Rattle.judge.proofs.verdict.least_rule.Goals as goal

pub loop-i-init : goal.loop-i-init
loop-i-init c = begin _ c.requires.2 _ _ (rule_number c.args.p c.args.a c.args.states (numbers c.args.below.now) c.args.bound) (rule-away c.args.p c.args.a c.args.states (numbers c.args.below.now) c.args.bound) _ c.start_of-i.ensures

pub returns-then-not-is_of_head : goal.returns-then-not-is_of_head
returns-then-not-is_of_head c =
    stops _ c.requires.2 _ _ (rule_number c.args.p c.args.a c.args.states (numbers c.args.below.now) c.args.bound) (rule-away c.args.p c.args.a c.args.states (numbers c.args.below.now) c.args.bound) c.loop-i.i _ c.loop-i.invariant (omega arith)
    (λ k. (c.type_inv.table k).fits)
    c.loop-i-test.true
    (told c.args.table.now c.loop-i.i c.args.p c.args.a _ c.at-entry.ensures _ c.is_of_head.ensures _ (c.if-not-is_of_head.true))

pub lesser_rule-least-requires : goal.lesser_rule-least-requires
lesser_rule-least-requires c =
    (c.requires.0, c.requires.3, born-in _ c.loop-i.i (omega (arith, c.loop-i-test.true)) c.requires.1 c.requires.2 _ c.at-entry.ensures, c.requires.4)

pub loop-i-preserved : goal.loop-i-preserved
loop-i-preserved c =
    turn _ c.requires.2 _ _ (rule_number c.args.p c.args.a c.args.states (numbers c.args.below.now) c.args.bound) (rule-away c.args.p c.args.a c.args.states (numbers c.args.below.now) c.args.bound) c.loop-i.i _ c.loop-i.invariant c.loop-i-test.true _
    (rule-taken c.args.p c.args.a c.args.states (numbers c.args.below.now) c.args.bound c.args.table.now c.loop-i.i _ c.at-entry.ensures
    (told c.args.table.now c.loop-i.i c.args.p c.args.a _ c.at-entry.ensures _ c.is_of_head.ensures _ (c.if-not-is_of_head.false))
    _
    _ c.loop-i.invariant.fit
    c.lesser_rule-least.ensures)

pub returns : goal.returns
returns c = finish _ c.requires.2 _ _ (rule_number c.args.p c.args.a c.args.states (numbers c.args.below.now) c.args.bound) (rule-away c.args.p c.args.a c.args.states (numbers c.args.below.now) c.args.bound) c.loop-i.i _ c.loop-i.invariant c.loop-i-test.false
