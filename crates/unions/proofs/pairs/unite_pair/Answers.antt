use Rattle.unions.proofs.Pairing.{united-back}
use Rattle.unions.proofs.pairs.unite_pair.Goals as goal

pub returns-then-sets_at : goal.returns-then-sets_at
returns-then-sets_at c =
    record {
      unites_into = (λ r. united-back _ _ _ _ _ _ _ (c.unite_into.ensures.unites_into r));
    }
