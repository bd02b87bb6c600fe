use native.Mathlib.Omega.{arith}
use Rattle.saturation.proofs.AbelardHeads.{not_none, step-offer}
use Rattle.saturation.proofs.heads.take_head.Goals as goal

pub returns-then-rules-first : goal.returns-then-rules-first
returns-then-rules-first c =
    record {
      by_index = (λ el g old es now i rules abelard control letters stirred k lp la eh on taking adding spared. absurd (not_none el g _ old es i abelard control letters _ rules _ stirred _ _ _ _ k _ _ lp la _ eh on c.if-rules-first.true));
      upper_bound = omega (arith, c.requires.1);
    }

pub returns : goal.returns
returns c =
    record {
      by_index = (λ el g old es now i rules abelard control letters stirred k lp la eh on taking adding spared. step-offer el g _ old es i abelard control letters _ rules _ stirred _ _ _ _ k _ _ lp la _ eh on _ _ now _ _ _ _ taking adding spared _ _ _ _ _ c.unite_rules.ensures.all_of c.give.ensures.by_index);
      upper_bound = c.give.ensures.upper_bound;
    }
