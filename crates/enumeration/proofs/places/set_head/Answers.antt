use Rattle.enumeration.proofs.PlacesKept.{head-placed}
use Rattle.enumeration.proofs.places.set_head.Goals as goal

pub returns : goal.returns
returns c = λ letters long low high few to. rw c.place_at-at.ensures (head-placed _ _ _ letters _ _ _ _ long low high few c.start_of.ensures c.end_of.ensures to)
