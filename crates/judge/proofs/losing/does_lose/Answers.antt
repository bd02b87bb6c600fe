use mathlib.Core.Path.{sym, ◌∙◌}
use Rattle.judge.proofs.losing.does_lose.Goals as goal

pub returns : goal.returns
returns c =
    λ ws l to.
    rw (sym c.is_rule_of.ensures ∙ c.if-not-is_rule_of.false) (c.is_successor_lost.ensures ws l to)
