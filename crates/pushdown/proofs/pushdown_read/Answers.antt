use mathlib.Core.Path.{sym, ap, ◌∙◌}
use Rattle.game.specs.Outcome.{said}
use Rattle.pushdown.proofs.Telling.{told, read-wrong, read-told, read-refused, read-sizes}
use Rattle.pushdown.proofs.pushdown_read.Goals as goal

pub returns-then-out-ne-READ_WORDS : goal.returns-then-out-ne-READ_WORDS
returns-then-out-ne-READ_WORDS c = read-wrong _ _ c.if-out-ne-READ_WORDS.true

pub returns-in-Ok : goal.returns-in-Ok
returns-in-Ok c = ap (told 0) c.copy_from_slice.ensures.after ∙ read-sizes _ _ c.read.ensures _ c.in-Ok.is _ c.sizes-sizes.ensures ∙ read-told _ _ c.if-out-ne-READ_WORDS.false

pub returns-in-Err : goal.returns-in-Err
returns-in-Err c =
    rw (c.refuse.ensures.told, c.refuse.ensures.written, c.if-out-ne-READ_WORDS.false)
    (read-refused _ _ (ap said (sym c.in-Err.is) ∙ c.read.ensures) ∙ read-told _ _ c.if-out-ne-READ_WORDS.false)
