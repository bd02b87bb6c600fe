use Rattle.unions.proofs.Gathering.{reached}
use Rattle.unions.proofs.elements.element_states.Goals as goal

pub returns : goal.returns
returns c = λ g h. reached g _ _ _ h _ _ c.target_states.ensures c.pop_states.ensures
