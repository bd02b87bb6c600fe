use Rattle.family.proofs.Areas.{put_in}
use Rattle.family.proofs.area.put_at.Goals as goal

pub returns : goal.returns
returns c =
    record {
      put = put_in _ _ _ c.requires;
    }
