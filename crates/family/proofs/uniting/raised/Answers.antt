use Rattle.family.proofs.Lifting.{lifts-by}
use Rattle.family.proofs.uniting.raised.Goals as goal

pub returns : goal.returns
returns c = λ r. lifts-by _ _ _ c.requires.1 (r.masks _ c.requires.1)
