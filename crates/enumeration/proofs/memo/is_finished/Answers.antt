use mathlib.Core.Path.{refl}
use borrow.Author.Tests.{eqb-true}
use Rattle.enumeration.proofs.Lines.{line-is}
use Rattle.game.specs.ListLaws.{clash}
use Rattle.enumeration.proofs.memo.is_finished.Goals as goal

pub returns-then-memo-line : goal.returns-then-memo-line
returns-then-memo-line c = λ t. clash t refl

pub returns-then-memo-at : goal.returns-then-memo-at
returns-then-memo-at c = λ t. clash t refl

pub returns-then-memo-at-2 : goal.returns-then-memo-at-2
returns-then-memo-at-2 c = λ t. clash t refl

pub returns : goal.returns
returns c = λ t. (c.line_of-line.result, line-is c.args.memo.now c.line_of-line.result _ _ _ c.if-memo-at.false c.if-memo-at-2.false (eqb-true _ _ t))
