use Prim.Native.Nat.{ℕ, ◌<◌}
use native.Mathlib.Omega.{arith}
use Rattle.std.specs.Prelude.{Option}
use Rattle.rounds.specs.Filled.{number_of}
use mathlib.Core.Path.{refl, sym, ap, subst, ◌∙◌}
use Rattle.game.specs.Held.{safe}
use Rattle.game.specs.declared.game.Sizes.{Sizes}
use Rattle.rounds.proofs.StoredRows.{long_of}
use Rattle.solver.proofs.RoundsTaken.{leaving-at, zero-full, zero-stored, zero-fits}
use Rattle.solver.proofs.solving.walk_rounds.Goals as goal

pub returns-in_default : goal.returns-in_default
returns-in_default c = λ g n h e. let f = c.round_zero.ensures.filled g n h e in (rw c.at.ensures at c.give_up.ensures.work_after) ∙ leaving-at _ c.round_zero.auto.table refl ∙ sym (zero-full g n _ _ f (subst (λ (r : Option ℕ). n < number_of n r) (sym c.in_default.is) (omega arith)) _ _)

pub rounds_from-requires : goal.rounds_from-requires
rounds_from-requires c = (safe c.requires.0.0 _ _ c.requires.0.1.held, omega (arith, ap (λ (s : Sizes). s.letters) c.requires.0.1.held.sized, c.requires.0.1.good.ranged.bottom), c.round_zero.auto.table ∙ c.requires.1, omega (arith, c.in-Some.ensures.within, c.round_zero.auto.table))

pub returns : goal.returns
returns c = λ g n h e. let f = c.in-Some.ensures.filled g n h e in c.rounds_from.ensures g n h.held h.good (zero-stored g n _ _ f (omega (arith, c.in-Some.ensures.within, c.round_zero.auto.table, long_of n _ _ _ f))) ∙ leaving-at _ c.round_zero.auto.table refl ∙ sym (zero-fits g n _ _ f (omega (arith, c.in-Some.ensures.within, c.round_zero.auto.table, long_of n _ _ _ f)) _ _)
