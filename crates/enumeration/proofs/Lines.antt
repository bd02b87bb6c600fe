-- Lines of the memo after one was written.
use Prim.Native.Nat.{ℕ, ◌+◌, ◌*◌, ◌≤◌}
use mathlib.Core.Path.{◌≡◌, ◌∙◌}
use mathlib.Core.List.{List}
use native.Mathlib.Omega.{arith}
use lib.ListN.{length, get_or, set, length-set}
use lib.Seq.{get_or-set_same, get_or-set_other}
use Rattle.enumeration.specs.Memo.{line_at}

pub line-is : (memo : List ℕ) (k tag left union : ℕ) → get_or memo (k * 3) 0 ≡ tag → get_or memo (k * 3 + 1) 0 ≡ left → get_or memo (k * 3 + 2) 0 ≡ union → line_at memo k ≡ record { tag = tag; left = left; union = union }
line-is memo k tag left union p q r = λ i. record { tag = p i; left = q i; union = r i }

module _ (memo : List ℕ) (line tag left union : ℕ) (h : line * 3 + 3 ≤ length memo) where
  abbrev one : List ℕ
  one = set memo (line * 3) tag

  abbrev two : List ℕ
  two = set one (line * 3 + 1) left

  abbrev after : List ℕ
  after = set two (line * 3 + 2) union

  written : line_at after line ≡ record { tag = tag; left = left; union = union }
  written =
      line-is after line tag left union
      (get_or-set_other two (line * 3 + 2) (line * 3) union 0 (λ e. omega arith)
      ∙ get_or-set_other one (line * 3 + 1) (line * 3) left 0 (λ e. omega arith)
      ∙ get_or-set_same memo (line * 3) tag 0 (omega arith))
      (get_or-set_other two (line * 3 + 2) (line * 3 + 1) union 0 (λ e. omega arith)
      ∙ get_or-set_same (set memo (line * 3) tag) (line * 3 + 1) left 0 (rw length-set (omega arith)))
      (get_or-set_same (set (set memo (line * 3) tag) (line * 3 + 1) left) (line * 3 + 2) union 0 (rw (length-set, length-set) (omega arith)))

  untouched : (j : ℕ) → (j ≡ line * 3 → ⊥) → (j ≡ line * 3 + 1 → ⊥) → (j ≡ line * 3 + 2 → ⊥) → get_or after j 0 ≡ get_or memo j 0
  untouched j a b c =
      get_or-set_other two (line * 3 + 2) j union 0 c
      ∙ get_or-set_other one (line * 3 + 1) j left 0 b
      ∙ get_or-set_other memo (line * 3) j tag 0 a
