use native.Mathlib.Omega.{arith}
use lib.ListN.{length-set}
use Rattle.game.proofs.Grown.{stores-rule}
use Rattle.game.proofs.rule.RuleBytes.store.Goals as goal

pub returns : goal.returns
returns c = λ rs n e. stores-rule rs _ _ c.args.self c.requires.0 n e
