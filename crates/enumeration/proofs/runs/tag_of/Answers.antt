use mathlib.Core.Path.{refl}
use Rattle.enumeration.specs.Jobs.{tag_of}
use Rattle.enumeration.proofs.runs.tag_of.Goals as goal

pub returns : goal.returns
unfolding tag_of
returns c = refl
