use native.Mathlib.Omega.{arith}
use mathlib.Core.Path.{refl}
use Rattle.unions.proofs.Renewing.{renewed-on, renewed-last, renewable-on}
use Rattle.unions.proofs.lines.renew_lines.Goals as goal

pub loop-k-init : goal.loop-k-init
loop-k-init c = record { below = omega arith; areas = refl; news = refl; passes = λ el g old es ra lt r p. p }

pub renew_line-requires : goal.renew_line-requires
renew_line-requires c = (renewable-on c.requires.0 c.loop-k.invariant.areas c.loop-k.invariant.news, omega (arith, c.loop-k-test.true, c.requires.1))

pub loop-k-preserved : goal.loop-k-preserved
loop-k-preserved c = renewed-on c.loop-k.invariant c.loop-k-test.true c.renew_line.ensures.by_index c.renew_line.auto.all c.renew_line.auto.new

pub shape_of-all : goal.shape_of-all
shape_of-all c = c.loop-k.invariant.areas

pub shape_of-new : goal.shape_of-new
shape_of-new c = c.loop-k.invariant.news

pub returns : goal.returns
returns c =
    record {
      by_index = renewed-last c.loop-k.invariant c.loop-k-test.false;
    }
