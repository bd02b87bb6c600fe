-- Round 0 as the code takes it: the target's transitions.
use Rattle.std.specs.Prelude.{ℕ, ◌+◌, ◌*◌, ◌/◌, ◌<◌, ◌≤◌, ◌≡◌, ◌⊎◌, false, List, [], length}
use Rattle.game.specs.Game.{PushdownGame}
use Rattle.family.specs.Family.{holds}
use Rattle.rounds.specs.Rounds.{round_zero}
use Rattle.unions.specs.Expand.{AllWithin}
use Rattle.unions.specs.Pool.{HeadsHold, HeadsGrew}
use Rattle.noting.specs.Signs.{NoNews}
use Rattle.unions.specs.Log.{Log}

-- no head has a set
abbrev pub Bare : PushdownGame → ℕ → List ℕ → Type 0
Bare g n words = (q a x : ℕ) → q < g.states → a < g.letters → x / 64 < n → holds words ((q * g.letters + a) * n) x ≡ false

-- its entries are noted, and the heads have their sets, all of which are new, and are marked
pub record Started (el : List ℕ) (g : PushdownGame) (n : ℕ) (log all new news : List ℕ) (count : ℕ) : Type 0 where
  pub logged : Log el log count (round_zero g)
  pub hold : HeadsHold el g n (round_zero g) all
  pub grew : HeadsGrew el g n [] (round_zero g) new
  pub within : AllWithin el (round_zero g)
  pub marked : NoNews g [] (round_zero g) news

-- or it does not fit so many entries
abbrev pub Starts : List ℕ → PushdownGame → ℕ → ℕ → List ℕ → List ℕ → List ℕ → List ℕ → ℕ → Type 0
Starts el g n size log all new news count = ((count ≡ size + 1) × (size < length (round_zero g))) ⊎ ((count ≤ size) × Started el g n log all new news count)
