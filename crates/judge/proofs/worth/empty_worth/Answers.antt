use native.Mathlib.Omega.{arith}
use mathlib.Core.Path.{sym, ◌∙◌}
use Rattle.judge.specs.Worth.{coded}
use Rattle.judge.proofs.Codes.{own-none, own-some}
use Rattle.judge.proofs.worth.empty_worth.Goals as goal

pub returns-then-has_state : goal.returns-then-has_state
unfolding coded
returns-then-has_state c = record { coded = rw (sym c.has_state.ensures ∙ c.if-has_state.true); own = own-some (omega arith) }

pub returns : goal.returns
unfolding coded
returns c = record { coded = rw (sym c.has_state.ensures ∙ c.if-has_state.false); own = own-none }
