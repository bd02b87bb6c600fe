-- The heads of a state, closed or emptied letter by letter, and the states one after another.
use Rattle.std.specs.Prelude.{ℕ, ◌+◌, ◌*◌, ◌/◌, ◌<◌, ◌≤◌, ◌≡◌, true, List, length, get_or, set}
use Rattle.game.specs.Sets.{has}
use Rattle.game.specs.Game.{PushdownGame}
use Rattle.table.specs.Table.{Entry}
use Rattle.family.specs.Family.{holds, Elsewhere}
use Rattle.unions.specs.Pool.{Layout, Kept}
use Rattle.noting.specs.Signs.{NoGains}
use Rattle.noting.specs.Closing.{Includes, Halfway}

-- for each letter more elements
pub record Widened (fresh₀ alive₀ fresh alive : List ℕ) : Type 0 where
  pub news : length fresh ≡ length fresh₀
  pub lives : length alive ≡ length alive₀
  pub more : (c : ℕ) → Includes (get_or fresh c 0) (get_or fresh₀ c 0)
  pub grown : (c : ℕ) → Includes (get_or alive c 0) (get_or alive₀ c 0)
  pub few : ((c : ℕ) → c < 64 → get_or alive₀ c 0 < 1024) → (c : ℕ) → c < 64 → get_or alive c 0 < 1024

-- families emptied, of the heads from `base` on whose letters are in a set
pub record Thinned (base letters bits n : ℕ) (new₀ new : List ℕ) : Type 0 where
  pub long : length new ≡ length new₀
  pub fewer : (place x : ℕ) → holds new place x ≡ true → holds new₀ place x ≡ true
  pub kept : (h x : ℕ) → x / 64 < n → ((a : ℕ) → a < letters → has bits a ≡ true → h ≡ base + a → ⊥) → holds new (h * n) x ≡ holds new₀ (h * n) x

-- the heads of a state whose letters are in a set are closed but for a rest of it; the first head of the state has number `base`
pub record RowClosed (base letters bits rest mark n : ℕ) (all₀ new₀ added₀ fresh₀ alive₀ all new added fresh alive : List ℕ) : Type 0 where
  pub areas : length all ≡ length all₀
  pub news : length new ≡ length new₀
  pub adds : length added ≡ length added₀
  pub aside : Elsewhere (base * n) (letters * n) all₀ all
  pub masks : Widened fresh₀ alive₀ fresh alive
  pub closes : (el : List ℕ) (g : PushdownGame) (es after : List Entry) (numbers opens : List ℕ) (p : ℕ) → Layout el g n → Kept es after → g.control ≤ g.states → letters ≡ g.letters → base ≡ p * g.letters
      → p < g.control → p < length opens → mark ≡ get_or numbers p 0 → get_or opens p 0 ≡ bits
      → Halfway el g n es after numbers opens all₀ new₀ added₀ fresh₀ alive₀ → Halfway el g n es after numbers (set opens p rest) all new added fresh alive

-- the heads of the control states before p are closed: their states are marked as those with news, and no longer as given something
pub record RowsClosed (control letters p : ℕ) (numbers : List ℕ) (n : ℕ) (all₀ new₀ added₀ fresh₀ alive₀ news₀ gains₀ all new added fresh alive news gains : List ℕ) : Type 0 where
  pub below : p ≤ control
  pub areas : length all ≡ length all₀
  pub newer : length new ≡ length new₀
  pub adds : length added ≡ length added₀
  pub tidings : length news ≡ length news₀
  pub gainers : length gains ≡ length gains₀
  pub aside : Elsewhere 0 (control * letters * n) all₀ all
  pub masks : Widened fresh₀ alive₀ fresh alive
  pub passed : (q : ℕ) → q < p → (get_or news q 0 ≡ get_or gains₀ q 0) × (get_or gains q 0 ≡ 0)
  pub coming : (q : ℕ) → p ≤ q → get_or gains q 0 ≡ get_or gains₀ q 0
  pub closes : (el : List ℕ) (g : PushdownGame) (es after : List Entry) → Layout el g n → Kept es after → g.control ≤ g.states → control ≡ g.control → letters ≡ g.letters → NoGains g es after gains₀
      → Halfway el g n es after numbers gains₀ all₀ new₀ added₀ fresh₀ alive₀ → Halfway el g n es after numbers gains all new added fresh alive

-- the heads of states from `control` on that were marked have nothing new
pub record RowsCleared (control letters n : ℕ) (new₀ news₀ new news : List ℕ) : Type 0 where
  pub long : length new ≡ length new₀
  pub tidings : length news ≡ length news₀
  pub fewer : (place x : ℕ) → holds new place x ≡ true → holds new₀ place x ≡ true
  pub kept : (h x : ℕ) → x / 64 < n → h < control * letters → holds new (h * n) x ≡ holds new₀ (h * n) x
  pub signs : (q : ℕ) → q < control → get_or news q 0 ≡ get_or news₀ q 0
