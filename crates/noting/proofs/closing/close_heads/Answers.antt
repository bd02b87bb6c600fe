use Prim.Native.Nat.{◌*◌, ◌≤◌}
use native.Mathlib.Omega.{arith}
use native.Mathlib.Nat.{mul-le-mul_right}
use mathlib.Core.Path.{◌∙◌}
use Rattle.noting.proofs.ClosingMasks.{all_closed, beyond-more}
use Rattle.noting.proofs.closing.close_heads.Goals as goal

pub close_rows-requires : goal.close_rows-requires
close_rows-requires c = let fewer = mul-le-mul_right c.args.letters c.requires.0 in let rows : c.args.control * c.args.letters ≤ c.args.heads = omega (arith, fewer, c.requires.3) in (omega (arith, c.requires.0, c.requires.1), c.requires.2, omega (arith, fewer, c.requires.3, c.requires.4), c.requires.5, record { states = c.requires.6.states; small = c.requires.6.small; news = c.fill.ensures.len ∙ c.requires.6.news; lives = c.requires.6.lives; few = c.requires.6.few }, omega (arith, c.requires.7, mul-le-mul_right c.args.n rows), omega (arith, c.requires.8, mul-le-mul_right c.args.n rows), omega (arith, c.requires.9, mul-le-mul_right c.args.n rows), c.requires.10, c.requires.11)

pub clear_rows-requires : goal.clear_rows-requires
clear_rows-requires c = (c.requires.1, c.requires.2, omega (arith, c.requires.3, c.requires.4), c.requires.5, omega (arith, c.requires.8, c.close_rows.ensures.newer, mul-le-mul_right c.args.n c.requires.3), c.close_rows.ensures.tidings ∙ c.requires.10)

pub returns : goal.returns
returns c =
    record {
      by_index = all_closed c.close_rows.ensures c.clear_rows.ensures _ _ c.requires.0;
      elsewhere = (beyond-more (c.args.control * c.args.letters) _ _ _ _ (omega (arith, c.requires.3, mul-le-mul_right c.args.letters c.requires.0)) c.close_rows.ensures.aside, c.close_rows.ensures.masks.few c.requires.6.few);
    }
