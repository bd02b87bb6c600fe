use mathlib.Core.Path.{refl}
use Rattle.noting.proofs.signs.keep_more.Goals as goal

pub returns-then-not-take_more : goal.returns-then-not-take_more
returns-then-not-take_more c =
    record {
      joined = c.take_more.ensures.joined;
      x_value = (λ off. c.take_more.ensures.x_value (c.if-not-take_more.true));
      by_index = (λ q c' h. h);
    }

pub returns : goal.returns
returns c =
    record {
      joined = c.take_more.ensures.joined;
      x_value = (λ off. absurd ((c.mark.ensures.by_index _ _ off).1 refl refl));
      by_index = (λ q c' h. (c.mark.ensures.by_index q c' h).0);
    }
