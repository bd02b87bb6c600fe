use Prim.Native.Nat.{◌+◌, ◌*◌}
use native.Mathlib.Omega.{arith}
use Rattle.walk.proofs.Listing.{listed-none, zero-at, zeroed, next-some}
use Rattle.walk.proofs.ends.list_rules.Goals as goal

pub loop-next-init : goal.loop-next-init
loop-next-init c = let next = c.next_rule-next.ensures in (omega arith, next-some _ _ _ _ _ next.next.found next.within, zero-at 3072, zero-at 3072, λ k. omega (arith, zeroed _ _ (c.fill.ensures.after (λ y e. e)) (k * 2 + 1)), λ g old b stands pl ag. listed-none g old _ _ (zeroed _ _ (c.fill.ensures.after (λ y e. e))))

pub returns : goal.returns
returns c = λ g old b stands pl ag. c.loop-next.invariant.5 g old b stands pl ag
