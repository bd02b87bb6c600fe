use Rattle.pushdown.specs.Interface.{bytes_of}
use Rattle.pushdown.proofs.Sessions.{written}
use Rattle.pushdown.proofs.areas.store.Goals as goal

pub returns : goal.returns
unfolding bytes_of
returns c = rw c.copy_from_slice.ensures.after (written _ _ _ _ _ c.requires)
