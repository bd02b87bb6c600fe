use Rattle.judge.proofs.LostRules.{of-eloise, of-abelard}
use Rattle.judge.proofs.losing.lost_rule.Goals as goal

pub returns-then-not-has_state : goal.returns-then-not-has_state
returns-then-not-has_state c = λ g h n. of-eloise h _ c.has_state.ensures (c.if-not-has_state.true) _ _ n.worths

pub returns : goal.returns
returns c =
    λ g h n.
    of-abelard h _ c.has_state.ensures (c.if-not-has_state.false) _ _ n.worths
    (c.losing_rule.ensures g h n.worths (c.lost_states.ensures n))
