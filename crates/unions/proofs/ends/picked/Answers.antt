use native.Mathlib.Omega.{arith}
use lib.Bits.{bit_and, bit_or, bit_xor}
use Rattle.unions.proofs.Choosing.{choice-later, choice-first, no-first}
use Rattle.unions.proofs.ends.picked.Goals as goal

pub returns-then-j-eq0 : goal.returns-then-j-eq0
returns-then-j-eq0 c =
    record {
      variant = (λ ra s l. choice-first _ _ _ _ _ _ _ _ (c.subsets_at-untouched.ensures ra s l) (c.subsets_at.ensures ra s l) (omega (arith, c.if-j-eq0.true)));
      result_value = (λ e. no-first (bit_and (bit_or (bit_xor c.args.old (bit_and c.args.old c.subsets_at-untouched.result)) c.args.new) c.subsets_at.result));
    }

pub returns : goal.returns
returns c =
    record {
      variant = (λ ra s l. choice-later _ _ _ _ _ _ _ _ (c.subsets_at-untouched.ensures ra s l) (c.subsets_at.ensures ra s l) (omega (arith, c.if-j-eq0.false)));
      result_value = (λ e. absurd (omega (arith, e, c.if-j-eq0.false)));
    }
