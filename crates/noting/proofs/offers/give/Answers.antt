use Rattle.noting.proofs.Gaining.{gave-full, gave-same, gave-marked}
use mathlib.Core.Path.{refl}
use Rattle.noting.proofs.offers.give.Goals as goal

pub returns-in_err-entries-clause-by_index : goal.returns-in_err-entries-clause-by_index
returns-in_err-entries-clause-by_index c =
    λ el g es now b lay good asc ranged t ef lp la eh hold adding offered none.
    rw c.from_residual.ensures (gave-full good asc ranged t none ((rw c.in_err-entries.was at c.offer.ensures.by_index) el g es now b _ _ lay good asc ranged t ef lp la eh hold adding offered) refl)

pub returns-then-entries-count : goal.returns-then-entries-count
returns-then-entries-count c =
    record {
      by_index = (λ el g es now b lay good asc ranged t ef lp la eh hold adding offered none. gave-same good asc ranged t none ((rw c.in_ok-entries.was at c.offer.ensures.by_index) el g es now b _ _ lay good asc ranged t ef lp la eh hold adding offered) c.if-entries-count.true);
      upper_bound = rw c.in_ok-entries.was at c.offer.ensures.upper_bound;
    }

pub returns : goal.returns
returns c =
    record {
      by_index = (λ el g es now b lay good asc ranged t ef lp la eh hold adding offered none. gave-marked good asc ranged t none ((rw c.in_ok-entries.was at c.offer.ensures.by_index) el g es now b _ _ lay good asc ranged t ef lp la eh hold adding offered) c.mark.ensures.by_index);
      upper_bound = rw c.in_ok-entries.was at c.offer.ensures.upper_bound;
    }
