use native.Mathlib.Omega.{arith}
use native.Mathlib.Nat.{mod-lt}
use Rattle.family.proofs.Subsets.{no-subset, subset}
use Rattle.family.proofs.raising.subsets_at.Goals as goal

-- A set is inside another if its word is, which the test says, and its place there is, which the table says (`no-subset`, `subset`).
-- Assumes what the contract requires.
pub returns-then-j-set : goal.returns-then-j-set
returns-then-j-set c = λ r s l. no-subset _ _ s l c.if-j-set.true

pub returns : goal.returns
returns c = λ r s l. subset _ _ s l _ (r.masks _ (mod-lt _ (omega arith))) c.if-j-set.false
