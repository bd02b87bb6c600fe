use mathlib.Core.Logic.{inr}
use Rattle.walk.proofs.round.runs_end.Goals as goal

pub returns : goal.returns
returns c = inr (record { one = λ z. absurd (c.if-task-at-eq0.false z); within = λ n. c.end_at.ensures.upper_bound; placed = λ n work h. c.end_at.ensures.by_index work h })
