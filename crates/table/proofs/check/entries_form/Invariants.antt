-- What question 13 says of the part is what it says of its words from place i on, the entry before them in hand. An entry that does not
-- pass is the place. Assumes what the contract requires.
use Prim.Native.Nat.{◌+◌, ◌*◌, ◌/◌, ◌≤◌}
use mathlib.Core.Path.{◌≡◌}
use lib.ListN.{length, drop}
use Rattle.game.specs.Game.{PushdownGame}
use Rattle.game.specs.Held.{Held}
use Rattle.table.specs.Table.{form_from}
use Rattle.table.proofs.check.entries_form.Given as goal

abbrev pub invariant-loop-i : goal.invariant-loop-i
invariant-loop-i l =
    (l.i ≤ length l.words / 3)
    × ((g : PushdownGame) → Held g l.sizes l.rules
    → form_from g l.first l.fn.before.first l.fn.before.set l.fn.before.rule l.words
    ≡ form_from g (l.first + l.i) l.last.first l.last.set l.last.rule (drop (l.i * 3) l.words))
