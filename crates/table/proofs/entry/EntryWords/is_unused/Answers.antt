use mathlib.Core.Path.{◌≡◌, refl, ◌∙◌}
use mathlib.Core.Bool.{Bool, true, false, ◌&&◌}
use lib.Dec.{eqb}
use Rattle.table.specs.Table.{unused}
use Rattle.table.proofs.entry.EntryWords.is_unused.Goals as goal

-- three tests taken together from either end
three : (a b c : Bool) → (a && (b && c)) ≡ ((a && b) && c)
three false b c = refl
three true b c = refl

pub returns : goal.returns
unfolding unused
returns c = rw c.none.ensures at c.eq.ensures ∙ three (eqb c.args.self.first 0) (eqb c.args.self.set 0) (eqb c.args.self.rule 0)
