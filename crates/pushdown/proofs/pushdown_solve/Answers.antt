use mathlib.Core.Path.{sym, ap, ◌∙◌}
use Rattle.solver.specs.Leaving.{Answer, called}
use Rattle.pushdown.specs.Interface.{report_told, solve_told}
use Rattle.pushdown.proofs.Telling.{left, solve-wrong, solve-told}
use Rattle.pushdown.proofs.pushdown_solve.Goals as goal

pub returns-then-out-ne-SOLVE_WORDS : goal.returns-then-out-ne-SOLVE_WORDS
returns-then-out-ne-SOLVE_WORDS c = solve-wrong _ _ _ _ c.if-out-ne-SOLVE_WORDS.true

pub returns-in-Ok : goal.returns-in-Ok
unfolding report_told
returns-in-Ok c =
    ap (left 0 _ _) c.copy_from_slice.ensures.after
    ∙ sym (ap (λ (s : Answer). solve_told (called s c.solve.new.table c.solve.new.work)) c.in-Ok.is)
    ∙ ap solve_told c.solve.ensures
    ∙ solve-told _ _ _ _ c.if-out-ne-SOLVE_WORDS.false

pub returns-in-Err : goal.returns-in-Err
unfolding report_told
returns-in-Err c =
    rw (c.refuse.ensures.told, c.refuse.ensures.written, c.if-out-ne-SOLVE_WORDS.false)
    (sym (ap (λ (s : Answer). solve_told (called s c.solve.new.table c.solve.new.work)) c.in-Err.is)
    ∙ ap solve_told c.solve.ensures
    ∙ solve-told _ _ _ _ c.if-out-ne-SOLVE_WORDS.false)
