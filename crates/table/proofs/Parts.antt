-- The pass over a part of a table, one entry at a time: index j of the table is place i of the part.
use Prim.Native.Nat.{ℕ, ◌+◌, ◌*◌, ◌/◌, ◌<◌, ◌≤◌}
use mathlib.Core.Path.{◌≡◌, refl}
use mathlib.Core.Bool.{true, false}
use mathlib.Core.List.{List, [], ◌∷◌}
use native.Mathlib.Omega.{arith}
use lib.ListN.{length, get_or, drop, length-drop}
use Rattle.game.specs.Game.{PushdownGame}
use Rattle.game.specs.Outcome.{done, refused}
use Rattle.table.specs.RowLaws.{three}
use Rattle.table.specs.Table.{passes, form_from}

-- words that are no whole entry
rest : (g : PushdownGame) (j a b c : ℕ) (left : List ℕ) → length left < 3 → form_from g j a b c left ≡ done tt
unfolding form_from
rest g j a b c [] h = refl
rest g j a b c (x ∷ []) h = refl
rest g j a b c (x ∷ y ∷ []) h = refl
rest g j a b c (x ∷ y ∷ z ∷ left) h = absurd (omega arith)

module _ (g : PushdownGame) (words : List ℕ) (j i a b c : ℕ) where
  module _ (h : (i + 1) * 3 ≤ length words) where
    pub goes-on : passes g j a b c (get_or words (i * 3) 0) (get_or words (i * 3 + 1) 0) (get_or words (i * 3 + 2) 0) ≡ true
        → form_from g j a b c (drop (i * 3) words)
        ≡ form_from g (j + 1) (get_or words (i * 3) 0) (get_or words (i * 3 + 1) 0) (get_or words (i * 3 + 2) 0) (drop ((i + 1) * 3) words)
    unfolding form_from
    goes-on p = rw (three words i h, p)

    pub stops-there : passes g j a b c (get_or words (i * 3) 0) (get_or words (i * 3 + 1) 0) (get_or words (i * 3 + 2) 0) ≡ false
        → form_from g j a b c (drop (i * 3) words) ≡ refused 13 j
    unfolding form_from
    stops-there p = rw (three words i h, p)

  pub comes-out : length words / 3 ≤ i → form_from g j a b c (drop (i * 3) words) ≡ done tt
  comes-out h = rest g j a b c (drop (i * 3) words) (rw length-drop (omega arith))
