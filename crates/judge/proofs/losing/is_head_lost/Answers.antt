use native.Mathlib.Omega.{arith}
use Rattle.judge.proofs.Passes.{begin, turn, stops, finish, told, open_number, open-away, open_none, open-found, open-lost}
use Rattle.judge.proofs.losing.is_head_lost.Goals as goal

pub loop-i-init : goal.loop-i-init
loop-i-init c =
    let x = c.args in
    begin _ c.requires _ _ (open_number x.q x.a x.lost) (open-away x.q x.a x.lost) _ c.start_of-i.ensures

pub returns-then-not-is_of_head : goal.returns-then-not-is_of_head
returns-then-not-is_of_head c =
    let x = c.args in
    let at-loop = c.loop-i in
    let away = told x.table.now at-loop.i x.q x.a _ c.at-entry.ensures _ c.is_of_head.ensures _ (c.if-not-is_of_head.true) in
    open-lost x.q x.a x.lost _
    (stops _ c.requires _ _ (open_number x.q x.a x.lost) (open-away x.q x.a x.lost) at-loop.i _ at-loop.invariant (omega arith)
    (λ k. (c.type_inv.table k).fits)
    c.loop-i-test.true
    away)

pub returns-then-entry-lost-eq0 : goal.returns-then-entry-lost-eq0
returns-then-entry-lost-eq0 c =
    let x = c.args in
    let at-loop = c.loop-i in
    let entry = c.at-entry.ensures in
    let here = told x.table.now at-loop.i x.q x.a _ entry _ c.is_of_head.ensures _ (c.if-not-is_of_head.false) in
    open-found x.q x.a x.lost x.table.now at-loop.i _ entry here c.requires at-loop.invariant c.loop-i-test.true c.if-entry-lost-eq0.true

pub loop-i-preserved : goal.loop-i-preserved
loop-i-preserved c =
    let x = c.args in
    let at-loop = c.loop-i in
    let entry = c.at-entry.ensures in
    let here = told x.table.now at-loop.i x.q x.a _ entry _ c.is_of_head.ensures _ (c.if-not-is_of_head.false) in
    turn _ c.requires _ _ (open_number x.q x.a x.lost) (open-away x.q x.a x.lost) at-loop.i _ at-loop.invariant
    c.loop-i-test.true
    _
    (open_none x.q x.a x.lost x.table.now at-loop.i _ entry here c.if-entry-lost-eq0.false)

pub returns : goal.returns
returns c =
    let x = c.args in
    let at-loop = c.loop-i in
    open-lost x.q x.a x.lost _
    (finish _ c.requires _ _ (open_number x.q x.a x.lost) (open-away x.q x.a x.lost) at-loop.i _ at-loop.invariant
    c.loop-i-test.false)
