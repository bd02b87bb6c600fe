use mathlib.Core.Path.{refl}
use Rattle.game.proofs.Grown.{with-target, counted-targets}
use Rattle.game.proofs.Filtering.{with-target-marked}
use Rattle.game.proofs.game.Sizes.with_target.Goals as goal

pub returns : goal.returns
returns c =
    record {
      parts = λ g rules e. with-target g _ _ _ e c.args.target _ _ refl (c.store.ensures g.targets (counted-targets g _ _ _ e) e.targeted);
      filtered = λ g f. with-target-marked g _ f c.args.target _ _ c.slot.ensures.0 c.mark.ensures;
    }
