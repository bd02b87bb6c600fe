use Rattle.walk.proofs.ends.list_later.Goals as goal

pub returns : goal.returns
returns c = λ g old b stands pl ag li. c.list_rules.ensures g old b stands pl ag
