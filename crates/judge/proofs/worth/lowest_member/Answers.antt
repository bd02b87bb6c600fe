use Rattle.judge.proofs.Members.{lowest}
use Rattle.judge.proofs.worth.lowest_member.Goals as goal

pub returns : goal.returns
returns c = lowest _ c.requires c.ranges.set.fits
