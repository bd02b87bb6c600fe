use native.Mathlib.Omega.{arith}
use mathlib.Core.Path.{sym, ◌∙◌}
use borrow.Author.Tests.{lt-ltb, le-ltb}
use Rattle.std.proofs.lemmas.Result.{err_from_is_err_and}
use Rattle.game.specs.Command.{whole, decoded, command_at}
use Rattle.game.proofs.Decoded.{one_byte, unknown-byte, cut-whole, whole-by, operand}
use Rattle.game.proofs.command.command_at.Goals as goal

pub returns-then-file-at : goal.returns-then-file-at
unfolding command_at
returns-then-file-at c = rw (le-ltb _ _ c.if-file-at.true)

pub returns-in_err-control-in-1 : goal.returns-in_err-control-in-1
unfolding command_at decoded whole
returns-in_err-control-in-1 c =
    let p = err_from_is_err_and c.from_residual.result c.from_residual.ensures.1 in
    rw (p.1, p.2, lt-ltb _ _ c.if-file-at.false, c.in-1.is) (cut-whole _ _ _ _ _ (sym c.operands.ensures ∙ c.in_err-control-in-1.was))

pub returns-in_ok-control-in-1 : goal.returns-in_ok-control-in-1
unfolding command_at decoded whole
returns-in_ok-control-in-1 c =
    let there = sym c.operands.ensures ∙ c.in_ok-control-in-1.was in
    let o = operand 3 _ _ _ there in
    rw (lt-ltb _ _ c.if-file-at.false, c.in-1.is, o 0 (omega arith), o 1 (omega arith), o 2 (omega arith)) (whole-by 3 _ _ _ there _)

pub returns-in_err-state-in-2 : goal.returns-in_err-state-in-2
unfolding command_at decoded whole
returns-in_err-state-in-2 c =
    let p = err_from_is_err_and c.from_residual-in_err-state-in-2.result c.from_residual-in_err-state-in-2.ensures.1 in
    rw (p.1, p.2, lt-ltb _ _ c.if-file-at.false, c.in-2.is) (cut-whole _ _ _ _ _ (sym c.operands-in-2.ensures ∙ c.in_err-state-in-2.was))

pub returns-in_ok-state-in-2 : goal.returns-in_ok-state-in-2
unfolding command_at decoded whole
returns-in_ok-state-in-2 c =
    let there = sym c.operands-in-2.ensures ∙ c.in_ok-state-in-2.was in
    let o = operand 1 _ _ _ there in
    rw (lt-ltb _ _ c.if-file-at.false, c.in-2.is, o 0 (omega arith)) (whole-by 1 _ _ _ there _)

pub returns-in_err-state-in-3 : goal.returns-in_err-state-in-3
unfolding command_at decoded whole
returns-in_err-state-in-3 c =
    let p = err_from_is_err_and c.from_residual-in_err-state-in-3.result c.from_residual-in_err-state-in-3.ensures.1 in
    rw (p.1, p.2, lt-ltb _ _ c.if-file-at.false, c.in-3.is) (cut-whole _ _ _ _ _ (sym c.operands-in-3.ensures ∙ c.in_err-state-in-3.was))

pub returns-in_ok-state-in-3 : goal.returns-in_ok-state-in-3
unfolding command_at decoded whole
returns-in_ok-state-in-3 c =
    let there = sym c.operands-in-3.ensures ∙ c.in_ok-state-in-3.was in
    let o = operand 1 _ _ _ there in
    rw (lt-ltb _ _ c.if-file-at.false, c.in-3.is, o 0 (omega arith)) (whole-by 1 _ _ _ there _)

pub returns-in_err-from-in-4 : goal.returns-in_err-from-in-4
unfolding command_at decoded whole
returns-in_err-from-in-4 c =
    let p = err_from_is_err_and c.from_residual-in_err-from-in-4.result c.from_residual-in_err-from-in-4.ensures.1 in
    rw (p.1, p.2, lt-ltb _ _ c.if-file-at.false, c.in-4.is) (cut-whole _ _ _ _ _ (sym c.operands-in-4.ensures ∙ c.in_err-from-in-4.was))

pub returns-in_ok-from-in-4 : goal.returns-in_ok-from-in-4
unfolding command_at decoded whole
returns-in_ok-from-in-4 c =
    let there = sym c.operands-in-4.ensures ∙ c.in_ok-from-in-4.was in
    let o = operand 6 _ _ _ there in
    rw (lt-ltb _ _ c.if-file-at.false, c.in-4.is, o 0 (omega arith), o 1 (omega arith), o 2 (omega arith), o 3 (omega arith), o 4 (omega arith), o 5 (omega arith)) (whole-by 6 _ _ _ there _)

pub returns-in_err-state-in-5 : goal.returns-in_err-state-in-5
unfolding command_at decoded whole
returns-in_err-state-in-5 c =
    let p = err_from_is_err_and c.from_residual-in_err-state-in-5.result c.from_residual-in_err-state-in-5.ensures.1 in
    rw (p.1, p.2, lt-ltb _ _ c.if-file-at.false, c.in-5.is) (cut-whole _ _ _ _ _ (sym c.operands-in-5.ensures ∙ c.in_err-state-in-5.was))

pub returns-in_ok-state-in-5 : goal.returns-in_ok-state-in-5
unfolding command_at decoded whole
returns-in_ok-state-in-5 c =
    let there = sym c.operands-in-5.ensures ∙ c.in_ok-state-in-5.was in
    let o = operand 6 _ _ _ there in
    rw (lt-ltb _ _ c.if-file-at.false, c.in-5.is, c.set_of.ensures, o 0 (omega arith), o 1 (omega arith), o 2 (omega arith), o 3 (omega arith), o 4 (omega arith), o 5 (omega arith)) (whole-by 6 _ _ _ there _)

pub returns-in-255 : goal.returns-in-255
unfolding command_at decoded
returns-in-255 c = rw (lt-ltb _ _ c.if-file-at.false, c.in-255.is) (one_byte _ _ _ c.if-file-at.false)

pub returns-in_default : goal.returns-in_default
unfolding command_at
returns-in_default c = rw (lt-ltb _ _ c.if-file-at.false)
    (unknown-byte _ _ _ c.in_default.in_default-own.rest.0.0.0.0.0.1 c.in_default.in_default-own.rest.0.0.0.0.1 c.in_default.in_default-own.rest.0.0.0.1
    c.in_default.in_default-own.rest.0.0.1
    c.in_default.in_default-own.rest.0.1
    c.in_default.in_default-own.rest.1)
