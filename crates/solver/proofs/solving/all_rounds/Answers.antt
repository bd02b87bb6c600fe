use Rattle.solver.proofs.Beginnings.{bounded, held-targets}
use Rattle.solver.proofs.solving.all_rounds.Goals as goal

pub elements_of-numbering-requires : goal.elements_of-numbering-requires
elements_of-numbering-requires c = ((bounded c.requires.0.1).rules-fit, (bounded c.requires.0.1).targets-fit)

pub returns : goal.returns
returns c = λ g m given zeros. c.rounds_by.ensures g m given zeros (λ few. c.elements_of-numbering.ensures.by_index g (held-targets given) few)
