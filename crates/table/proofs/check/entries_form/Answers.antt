use Prim.Native.Nat.{◌+◌}
use mathlib.Core.Path.{◌≡◌, sym, ◌∙◌}
use native.Mathlib.Omega.{arith}
use native.Mathlib.Nat.{add-zero}
use Rattle.table.proofs.Pass.{room}
use Rattle.table.proofs.Parts.{goes-on, stops-there, comes-out}
use Rattle.table.proofs.check.entries_form.Goals as goal

pub returns-then-not-does_pass : goal.returns-then-not-does_pass
returns-then-not-does_pass c =
    λ g h.
    rw c.at.ensures
    (sym
    (c.loop-i.invariant.1 g h
    ∙ stops-there g _ _ c.loop-i.i _ _ _ (room c.loop-i.i _ c.loop-i-test.true)
    (rw c.at-entry.ensures at (sym (c.does_pass.ensures g h) ∙ c.if-not-does_pass.true))))

pub loop-i-preserved : goal.loop-i-preserved
loop-i-preserved c = (
  omega arith,
  λ g h.
      let on : c.args.first + (c.loop-i.i + 1) ≡ c.args.first + c.loop-i.i + 1 = omega arith in
      rw (c.at-entry.ensures, on)
      (c.loop-i.invariant.1 g h
      ∙ goes-on g _ _ c.loop-i.i _ _ _ (room c.loop-i.i _ c.loop-i-test.true)
      (rw c.at-entry.ensures at (sym (c.does_pass.ensures g h) ∙ c.if-not-does_pass.false))),
)

pub returns : goal.returns
returns c = λ g h. sym (c.loop-i.invariant.1 g h ∙ comes-out g _ _ c.loop-i.i _ _ _ c.loop-i-test.false)
