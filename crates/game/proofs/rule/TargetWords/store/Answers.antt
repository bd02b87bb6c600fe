use native.Mathlib.Omega.{arith}
use lib.ListN.{length-set}
use Rattle.game.proofs.Grown.{stores-target}
use Rattle.game.proofs.rule.TargetWords.store.Goals as goal

pub returns : goal.returns
returns c = λ ts n e. stores-target ts _ _ c.args.self c.requires.0 n e
