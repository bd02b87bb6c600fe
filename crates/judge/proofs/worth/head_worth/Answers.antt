use native.Mathlib.Omega.{arith}
use Rattle.judge.specs.Machine.{numbers, head_number}
use Rattle.judge.proofs.Codes.{own-none}
use Rattle.judge.proofs.Steps.{born-in}
use Rattle.judge.proofs.Passes.{begin, turn, stops, finish, told, worth-away, worth-taken}
use Rattle.judge.proofs.worth.head_worth.Goals as goal

pub start_of-i-requires : goal.start_of-i-requires
start_of-i-requires c = omega arith

pub loop-i-init : goal.loop-i-init
loop-i-init c =
    let x = c.args in
    (begin _ c.requires.2 _ _ (head_number x.q x.a x.states (numbers x.below.now)) (worth-away x.q x.a x.states (numbers x.below.now)) _ c.start_of-i.ensures, own-none)

pub at-entry-requires : goal.at-entry-requires
at-entry-requires c = omega (arith, c.loop-i-test.true)

pub returns-then-not-is_of_head : goal.returns-then-not-is_of_head
returns-then-not-is_of_head c =
    let x = c.args in
    let at-loop = c.loop-i in
    record {
      coded =
          stops _ c.requires.2 _ _ (head_number x.q x.a x.states (numbers x.below.now)) (worth-away x.q x.a x.states (numbers x.below.now)) at-loop.i _ at-loop.invariant.0 (omega arith)
          (λ k. (c.type_inv.table k).fits)
          c.loop-i-test.true
          (told x.table.now at-loop.i x.q x.a _ c.at-entry.ensures _ c.is_of_head.ensures _ (c.if-not-is_of_head.true));
      own = at-loop.invariant.1;
    }

pub lesser_worth-least-requires : goal.lesser_worth-least-requires
lesser_worth-least-requires c =
    (c.requires.0, c.requires.3, born-in _ c.loop-i.i (omega (arith, c.loop-i-test.true)) c.requires.1 c.requires.2 _ c.at-entry.ensures)

pub loop-i-preserved : goal.loop-i-preserved
loop-i-preserved c =
    let x = c.args in
    let at-loop = c.loop-i in
    let least = c.lesser_worth-least.ensures in (
      turn _ c.requires.2 _ _ (head_number x.q x.a x.states (numbers x.below.now)) (worth-away x.q x.a x.states (numbers x.below.now)) at-loop.i _ at-loop.invariant.0 c.loop-i-test.true _
          (worth-taken x.q x.a x.states (numbers x.below.now) x.table.now at-loop.i _ c.at-entry.ensures
          (told x.table.now at-loop.i x.q x.a _ c.at-entry.ensures _ c.is_of_head.ensures _ (c.if-not-is_of_head.false))
          _
          _
          (least.coded at-loop.invariant.1)),
      least.own at-loop.invariant.1,
    )

pub returns : goal.returns
returns c =
    let x = c.args in
    let at-loop = c.loop-i in
    record {
      coded =
          finish _ c.requires.2 _ _ (head_number x.q x.a x.states (numbers x.below.now)) (worth-away x.q x.a x.states (numbers x.below.now)) at-loop.i _ at-loop.invariant.0 c.loop-i-test.false;
      own = at-loop.invariant.1;
    }
