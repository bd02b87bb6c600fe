use mathlib.Core.Path.{ap, ◌∙◌}
use Rattle.game.specs.Held.{held, safe, was_read}
use Rattle.game.specs.Stored.{held_sizes}
use Rattle.table_cases.proofs.over_file.Goals as goal

pub invariant_of-sample : goal.invariant_of-sample
invariant_of-sample c =
    let x = was_read _ _ c.read.ensures _ c.in-Ok.is in
    record { safe = safe x.game _ _ (held _ x.game _ x.stores x.well.ranged (c.sizes.ensures ∙ ap held_sizes x.stores)) }
