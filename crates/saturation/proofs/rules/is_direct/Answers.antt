use mathlib.Core.Path.{◌∙◌, sym}
use borrow.Author.Tests.{eqb-true}
use Rattle.game.specs.ListLaws.{clash}
use mathlib.Core.Path.{refl}
use Rattle.saturation.proofs.rules.is_direct.Goals as goal

pub returns-then-has_state : goal.returns-then-has_state
returns-then-has_state c = λ e. clash e refl

pub returns : goal.returns
returns c = λ e. (sym c.has_state.ensures ∙ c.if-has_state.false, eqb-true _ _ e)
