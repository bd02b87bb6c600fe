use Rattle.family.proofs.Areas.{holds-is}
use Rattle.family.proofs.area.has_at.Goals as goal

pub returns : goal.returns
returns c = holds-is _ _ _
