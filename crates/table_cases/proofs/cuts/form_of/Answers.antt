use native.Mathlib.Omega.{arith}
use mathlib.Core.Path.{ap}
use Rattle.table.specs.Table.{length_in_form}
use Rattle.table_cases.proofs.cuts.form_of.Goals as goal

pub form_of_parts-requires : goal.form_of_parts-requires
unfolding length_in_form
form_of_parts-requires c =
    (c.args.sample.now.safe, ap length_in_form c.told-words, omega arith, omega arith)
