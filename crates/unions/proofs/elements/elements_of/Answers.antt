use Rattle.unions.proofs.Naming.{elements-named}
use Rattle.unions.proofs.elements.elements_of.Goals as goal

pub returns : goal.returns
returns c =
    record {
      by_index = λ g h l. elements-named g _ _ _ _ h.held.ranged.states (c.element_states.ensures g h) l (c.number_states.ensures.named l);
      by_index_2 = c.number_states.ensures.by_index;
    }
