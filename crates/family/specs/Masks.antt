-- The table of masks: eight words for each set below 64.
use Rattle.std.specs.Prelude.{ℕ, ◌+◌, ◌*◌, ◌<◌, ◌≡◌, ◌&&◌, List, get_or, eqb}
use Rattle.game.specs.Sets.{has, union}

-- The words of set x: for each of its states the sets with that state, then the sets that contain x, then those that x contains.
pub record Masks (table : List ℕ) (x : ℕ) : Type 0 where
  pub step : (e s : ℕ) → e < 6 → s < 64 → has (get_or table (x * 8 + e) 0) s ≡ (has x e && has s e)
  pub over : (s : ℕ) → s < 64 → has (get_or table (x * 8 + 6) 0) s ≡ eqb (union s x) s
  pub under : (s : ℕ) → s < 64 → has (get_or table (x * 8 + 7) 0) s ≡ eqb (union s x) x

pub record Raising (table : List ℕ) : Type 0 where
  pub masks : (x : ℕ) → x < 64 → Masks table x
