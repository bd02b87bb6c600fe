use Rattle.noting.proofs.Signing.{mark-clear}
use Rattle.noting.proofs.signs.mark.Goals as goal

pub returns : goal.returns
returns c =
    record {
      by_index = mark-clear c.args.words.now c.args.p c.args.a c.requires.0 c.requires.1;
    }
