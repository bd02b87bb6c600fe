-- Sets put into an area word by word, after what is there.
use Prim.Native.Nat.{ℕ, ◌+◌, ◌*◌, ◌<◌}
use native.Mathlib.Omega.{arith}
use mathlib.Core.Path.{◌≡◌, refl, ◌∙◌}
use mathlib.Core.Logic.{⊎_elim}
use mathlib.Core.List.{List}
use lib.ListN.{length, get_or, set, length-set}
use lib.Seq.{get_or-set_same, get_or-set_other}
use Rattle.game.specs.ListLaws.{below_suc}
use Rattle.enumeration.specs.Lists.{Copied}

pub none-copied : (lists sets : List ℕ) (room : ℕ) → Copied lists sets 0 room lists
none-copied lists sets room = record { long = refl; copies = λ k l. absurd (omega arith); before = λ k l. refl }

pub next-copied : (lists sets : List ℕ) (room i : ℕ) (after : List ℕ) → Copied lists sets i room after → room + i < length lists
    → Copied lists sets (i + 1) room (set after (room + i) (get_or sets (i * 3 + 1) 0))
next-copied lists sets room i after d h =
    record {
      long = rw length-set d.long;
      copies =
          λ k l.
          ⊎_elim
          (λ (p : k < i). get_or-set_other after (room + i) (room + k) (get_or sets (i * 3 + 1) 0) 0 (λ s. omega arith) ∙ d.copies k p)
          (λ (p : k ≡ i). rw p (get_or-set_same after (room + i) (get_or sets (i * 3 + 1) 0) 0 (omega (arith, d.long))))
          (below_suc (omega arith));
      before = λ k l. get_or-set_other after (room + i) k (get_or sets (i * 3 + 1) 0) 0 (λ s. omega arith) ∙ d.before k l;
    }
