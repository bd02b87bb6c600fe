-- A line of the memo: the key of a sub-enumeration.
use Rattle.std.specs.Prelude.{ℕ, ◌+◌, ◌*◌, List, get_or}

pub record Line : Type 0 where
  pub tag : ℕ
  pub left : ℕ
  pub union : ℕ

abbrev pub line_at : List ℕ → ℕ → Line
line_at memo k =
    record { tag = get_or memo (k * 3) 0; left = get_or memo (k * 3 + 1) 0; union = get_or memo (k * 3 + 2) 0 }
