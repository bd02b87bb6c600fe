-- The unions of two families are those of the second with the first.
use Prim.Native.Nat.{ℕ, ◌/◌, ◌<◌}
use mathlib.Core.Path.{ap, subst, ◌∙◌}
use mathlib.Core.Logic.{inl, inr, ⊎_elim}
use mathlib.Core.List.{List}
use lib.Bits.{or_comm}
use Rattle.family.specs.Family.{holds, UnitesInto}

pub united-back : (n : ℕ) (a : List ℕ) (at : ℕ) (b : List ℕ) (bt : ℕ) (old out : List ℕ) → UnitesInto n a at b bt old out → UnitesInto n b bt a at old out
united-back n a at b bt old out u =
    record {
      from = λ x h. ⊎_elim inl (λ f. inr (f.1, f.0, f.3, f.2, f.5, f.4, f.6 ∙ or_comm f.0 f.1)) (u.from x h);
      kept = u.kept;
      into = λ y z l m o h k. ap (holds out 0) (or_comm y z) ∙ u.into z y m l (subst (λ (w : ℕ). w / 64 < n) (or_comm y z) o) k h;
    }
