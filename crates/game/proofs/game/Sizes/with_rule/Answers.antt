use mathlib.Core.Path.{refl}
use Rattle.game.proofs.Grown.{with-rule, counted-rules}
use Rattle.game.proofs.Filtering.{with-rule-marked}
use Rattle.game.proofs.game.Sizes.with_rule.Goals as goal

pub returns : goal.returns
returns c =
    record {
      parts = λ g targets e. with-rule g _ _ _ e c.args.rule _ _ refl (c.store.ensures g.rules (counted-rules g _ _ _ e) e.ruled);
      filtered = λ g f. with-rule-marked g _ f c.args.rule _ _ c.slot.ensures.0 c.mark.ensures;
    }
