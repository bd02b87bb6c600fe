use Rattle.judge.proofs.Codes.{tame-numbers}
use Rattle.judge.proofs.Members.{all-found}
use Rattle.judge.proofs.worth.largest_member.Goals as goal

pub returns-clause-coded : goal.returns-clause-coded
returns-clause-coded c =
    all-found _ _ _ (tame-numbers c.args.below.now c.requires.1) c.requires.0 _ c.largest_below.ensures.found c.largest_below.ensures.beyond
