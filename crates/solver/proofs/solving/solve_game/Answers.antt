use Rattle.solver.proofs.Answers.{given}
use Rattle.solver.proofs.solving.solve_game.Goals as goal

pub all_rounds-requires : goal.all_rounds-requires
all_rounds-requires c = ((c.requires.0.0, given _ c.requires.0.0 c.requires.0.1 c.requires.0.2 _ c.sizes-sizes.ensures), c.requires.1, c.requires.2)

pub returns : goal.returns
returns c = λ g n e good z. c.all_rounds.ensures g n (given _ g e good _ c.sizes-sizes.ensures) z
