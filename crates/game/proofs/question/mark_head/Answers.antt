use native.Mathlib.Omega.{arith}
use Rattle.game.proofs.Heads.{marks-head, no-head}
use Rattle.game.proofs.question.mark_head.Goals as goal

pub returns-then-from-ge-MAX_CONTROL : goal.returns-then-from-ge-MAX_CONTROL
returns-then-from-ge-MAX_CONTROL c = no-head _ _ _ (λ l m. omega (arith, l, c.if-from-ge-MAX_CONTROL.true))

pub returns : goal.returns
returns c = marks-head _ _ _ _ _ c.if-top-ge-MAX_LETTERS.false c.head_slot.ensures c.mark.ensures
