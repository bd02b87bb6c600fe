use native.Mathlib.Omega.{arith}
use mathlib.Core.Path.{refl, ◌∙◌}
use borrow.Author.Tests.{eqb-true}
use Rattle.game.specs.ListLaws.{clash}
use Rattle.unions.proofs.lines.is_line.Goals as goal

pub returns-then-count-line : goal.returns-then-count-line
returns-then-count-line c = λ e. clash e refl

pub returns : goal.returns
returns c = λ e. (omega (arith, c.if-count-line.false), eqb-true _ _ e ∙ c.key_of.ensures)
