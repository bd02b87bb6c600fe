-- Entry i is older, or its state is joined to the states at its letter. Assumes what the contract requires.
use Prim.Native.Nat.{ℕ}
use native.Mathlib.Omega.{arith}
use mathlib.Core.Path.{ap, ◌∙◌}
use lib.ListN.{get_or}
use Rattle.game.specs.Sets.{single, union}
use Rattle.table.specs.declared.entry.EntryWords.{EntryWords}
use Rattle.enumeration.proofs.Freshness.{mark_set}
use Rattle.enumeration.proofs.fresh.mark.Goals as goal

pub returns : goal.returns
returns c = λ long m. mark_set c.args.work.now c.args.fresh.now _ c.args.i m c.at-entry.result.first (ap (λ (x : EntryWords). x.first) c.at-entry.ensures) c.letter-at.result c.joined.result c.letter-at.ensures (omega (arith, c.if-fresh-at.false)) (c.joined.ensures (omega (arith, c.if-state-ge-MAX_STATES.false)) ∙ ap (λ (q : ℕ). union (get_or c.args.fresh.now c.letter-at.result 0) (single q)) c.state-state.ensures)
