use native.Mathlib.Omega.{arith}
use mathlib.Core.Path.{refl}
use Rattle.unions.specs.Pool.{of-line}
use Rattle.unions.proofs.Making.{head-within, one-element}
use Rattle.unions.proofs.lines.family_of.Goals as goal

pub returns-then-x-eq0 : goal.returns-then-x-eq0
returns-then-x-eq0 c =
    record {
      finds = (λ el g es ra lt lx pool. (pool, one-element _ _ _ _ _ _ _ _ _ _ _ _ _ _ _ pool lx c.lowest.ensures c.requires.1 c.if-x-eq0.true c.head_of-family.ensures));
      family_bound = (omega (arith, head-within _ _ _ _ _ _ _ _ c.requires.0 _ _ _ c.lowest.ensures.small c.requires.3 c.head_of-family.ensures), c.requires.4);
    }

pub overflow_add-result : goal.overflow_add-result
overflow_add-result c = omega (arith, c.requires.0.few, c.requires.0.most, c.requires.4, (c.is_line.ensures c.if-is_line.true).0)

pub returns-then-is_line : goal.returns-then-is_line
returns-then-is_line c =
    record {
      finds = (λ el g es ra lt lx pool. (pool, of-line _ (c.is_line.ensures c.if-is_line.true).0 refl (c.is_line.ensures c.if-is_line.true).1));
      family_bound = (omega (arith, (c.is_line.ensures c.if-is_line.true).0), c.requires.4);
    }
