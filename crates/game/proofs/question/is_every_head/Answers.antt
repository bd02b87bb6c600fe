use mathlib.Core.Path.{◌∙◌}
use Rattle.game.proofs.Heads.{none-headed, heads-told}
use Rattle.game.proofs.question.is_every_head.Goals as goal

pub returns : goal.returns
returns c = λ rs t e n. c.are_heads_marked.ensures ∙ heads-told _ _ _ _ _ (c.mark_heads.ensures (none-headed _)) c.requires.2 c.requires.3 rs t e n
