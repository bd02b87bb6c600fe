-- The bytes of a session after they are written: state, height and cells.
use Prim.Native.Nat.{ℕ, ◌-◌}
use mathlib.Core.Path.{◌≡◌, ap, ◌∙◌}
use mathlib.Core.List.{List, [], ◌∷◌, ◌++◌, append-nil}
use native.Mathlib.Omega.{arith}
use lib.ListN.{length, set, drop_of_length-le}
use borrow.Rule.Slice.PartMut.{put_mid}

pub written : (bytes : List ℕ) (p low high : ℕ) (cells : List ℕ) → length bytes ≡ 259
    → put_mid 3 (length (set (set (set bytes 0 p) 1 low) 2 high) - 3) (set (set (set bytes 0 p) 1 low) 2 high) cells ≡ p ∷ low ∷ high ∷ cells
written [] p low high cells e = absurd (omega arith)
written (x ∷ []) p low high cells e = absurd (omega arith)
written (x ∷ y ∷ []) p low high cells e = absurd (omega arith)
written (x ∷ y ∷ z ∷ rest) p low high cells e =
    let bytes = p ∷ low ∷ high ∷ rest in
    let none = drop_of_length-le rest {i = length bytes - 3} (omega arith) in
    ap (λ (t : List ℕ). p ∷ low ∷ high ∷ (cells ++ t)) none ∙ ap (λ (t : List ℕ). p ∷ low ∷ high ∷ t) (append-nil cells)
