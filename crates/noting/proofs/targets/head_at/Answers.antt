use native.Mathlib.Omega.{arith}
use mathlib.Core.Path.{refl}
use Rattle.unions.specs.PlaceLaws.{row_small}
use Rattle.noting.proofs.targets.head_at.Goals as goal

-- The tests on the way say which of the three answers it is. Assumes what the contract requires.
pub returns-then-state-ge32 : goal.returns-then-state-ge32
returns-then-state-ge32 c =
    record {
      value = (λ ls ll lh. absurd (omega (arith, ls, c.if-state-ge32.true)));
      state_bound = (λ l. absurd (omega (arith, l)));
    }

pub returns-then-letter-ge64 : goal.returns-then-letter-ge64
returns-then-letter-ge64 c =
    record {
      value = (λ ls ll lh. absurd (omega (arith, ll, c.if-letter-ge64.true)));
      state_bound = (λ l. absurd (omega (arith, l)));
    }

pub overflow_mul-result : goal.overflow_mul-result
overflow_mul-result c = omega (arith, row_small c.args.state c.args.letters (omega (arith, c.if-state-ge32.false)) c.requires)

pub overflow_add-result : goal.overflow_add-result
overflow_add-result c = omega (arith, row_small c.args.state c.args.letters (omega (arith, c.if-state-ge32.false)) c.requires, c.if-letter-ge64.false)

pub returns : goal.returns
returns c =
    record {
      value = (λ ls ll lh. refl);
      state_bound = (λ l. (omega (arith, c.if-state-ge32.false), omega (arith, c.if-letter-ge64.false)));
    }
