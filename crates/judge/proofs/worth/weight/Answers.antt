use Rattle.judge.specs.Worth.{base_weight}
use Rattle.judge.proofs.Tests.{shifted}
use Rattle.judge.proofs.worth.weight.Goals as goal

pub returns : goal.returns
unfolding base_weight
returns c = rw (shifted c.args.birthdate c.requires)
