use mathlib.Core.Path.{refl}
use Rattle.table.specs.Table.{key}
use Rattle.table.proofs.entry.EntryWords.key.Goals as goal

pub returns : goal.returns
unfolding key
returns c = refl
