use Rattle.pushdown.specs.Interface.{session_at}
use Rattle.std.proofs.lemmas.List.{take_rest}
use Rattle.pushdown.proofs.areas.session_of.Goals as goal

pub returns : goal.returns
unfolding session_at
returns c = rw (c.copy_from_slice.ensures.after, take_rest c.args.bytes.now 3)
