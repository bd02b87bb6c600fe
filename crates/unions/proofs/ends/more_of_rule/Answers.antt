use native.Mathlib.Omega.{arith}
use mathlib.Core.Path.{refl, sym, ◌∙◌}
use Rattle.unions.proofs.Writes.{rule-more, to_is, count-is}
use Rattle.unions.proofs.ends.more_of_rule.Goals as goal

pub more_ends-requires : goal.more_ends-requires
more_ends-requires c = (c.requires.0, omega (arith, c.requires.4.below, c.from-3.ensures), c.requires.1, c.requires.6, rw c.from.ensures c.requires.4.row, c.requires.2, omega (arith, c.requires.4.above, c.from-2.ensures), c.requires.3, omega (arith, c.requires.4.state, c.from.ensures))

pub returns : goal.returns
returns c =
    record {
      by_index = (λ el g old es i rule ra lt eq good cs growth listed none pool. (let q = c.from.ensures in let m = c.more_ends.ensures.by_index el g old es i ra lt (omega (arith, q, to_is el g c.args.frame.now.n old es i c.args.r c.args.rules.now rule eq, good.to, cs)) (omega (arith, count-is el g c.args.frame.now.n old es i c.args.r c.args.rules.now rule eq, good.count)) growth (λ z. (let l = listed (sym (count-is el g c.args.frame.now.n old es i c.args.r c.args.rules.now rule eq) ∙ z) in (l.0, l.1, l.2 ∙ sym (q ∙ to_is el g c.args.frame.now.n old es i c.args.r c.args.rules.now rule eq)))) none pool in (m.0, rule-more el g c.args.frame.now.n old es i c.args.r c.args.rules.now rule eq _ _ _ _ _ q refl c.from-2.ensures c.from-3.ensures m.1)));
      upper_bound = c.more_ends.ensures.upper_bound;
    }
