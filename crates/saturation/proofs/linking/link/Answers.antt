use Rattle.saturation.proofs.Links.{all-linked, climbs, none_left}
use Rattle.saturation.proofs.linking.link.Goals as goal

pub returns-clause-climbs : goal.returns-clause-climbs
returns-clause-climbs c = climbs _ _ _ _ _ _ (all-linked _ _ _ _ _ _ (none_left c.loop-r.r c.loop-r-test.false c.loop-r.invariant.0))
