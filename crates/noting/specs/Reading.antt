-- Which rules a round looks at, step by step: what each step sets, and that no step clears a bit.
use Rattle.std.specs.Prelude.{ℕ, ◌+◌, ◌*◌, ◌<◌, ◌≤◌, ◌≡◌, true, ◌&&◌, ◌||◌, List, length, get_or}
use Rattle.game.specs.Sets.{has}
use Rattle.family.specs.Family.{holds}

-- what the indices of a rule's bytes need
pub record Readable (rules : List ℕ) (r : ℕ) : Type 0 where
  pub there : r * 6 + 6 ≤ length rules
  pub state : get_or rules (r * 6 + 2) 0 < 32
  pub above : get_or rules (r * 6 + 4) 0 < 64
  pub below : get_or rules (r * 6 + 5) 0 < 64

-- no bit of an area is cleared
abbrev pub Grows : List ℕ → List ℕ → Type 0
Grows old words = (place x : ℕ) → holds old place x ≡ true → holds words place x ≡ true

-- rule r is marked by what its word reads
pub record Marked (rules : List ℕ) (r : ℕ) (old readers : List ℕ) : Type 0 where
  pub kept : Grows old readers
  pub start : 0 < get_or rules (r * 6 + 3) 0 → holds readers (get_or rules (r * 6 + 2) 0 * 4) r ≡ true
  pub above : 0 < get_or rules (r * 6 + 3) 0 → holds readers (128 + get_or rules (r * 6 + 4) 0 * 4) r ≡ true
  pub below : 1 < get_or rules (r * 6 + 3) 0 → holds readers (384 + get_or rules (r * 6 + 5) 0 * 4) r ≡ true
  pub alone : get_or rules (r * 6 + 3) 0 ≡ 0 → holds readers 640 r ≡ true

-- no rule is taken out of a set of rules
abbrev pub Stays : List ℕ → List ℕ → Type 0
Stays old words = (r : ℕ) → r < 256 → holds old 0 r ≡ true → holds words 0 r ≡ true

-- the rules that are in two sets put into a third
abbrev pub Met : List ℕ → List ℕ → List ℕ → ℕ → List ℕ → Type 0
Met old some readers at words = (r : ℕ) → r < 256 → holds words 0 r ≡ (holds old 0 r || (holds some 0 r && holds readers at r))

-- the rules that write a letter of a word above are in a set
abbrev pub Summed : ℕ → List ℕ → List ℕ → Type 0
Summed word readers sum = (b r : ℕ) → b < 64 → r < 256 → has word b ≡ true → holds readers (128 + b * 4) r ≡ true → holds sum 0 r ≡ true

-- the rules of a set of `readers` that write a letter of a word above are put in
pub record Started (word at : ℕ) (readers old active : List ℕ) : Type 0 where
  pub kept : Stays old active
  pub set : (b r : ℕ) → b < 64 → r < 256 → has word b ≡ true → holds readers at r ≡ true → holds readers (128 + b * 4) r ≡ true → holds active 0 r ≡ true

-- the same for each state below q, by its word of `news`
pub record FirstTo (q : ℕ) (news readers old active : List ℕ) : Type 0 where
  pub kept : Stays old active
  pub set : (p b r : ℕ) → p < q → b < 64 → r < 256 → has (get_or news p 0) b ≡ true → holds readers (p * 4) r ≡ true → holds readers (128 + b * 4) r ≡ true → holds active 0 r ≡ true

-- the rules of `held` that write a letter below another, for each letter below c that has something fresh
pub record SecondTo (c : ℕ) (fresh readers held old active : List ℕ) : Type 0 where
  pub kept : Stays old active
  pub set : (b r : ℕ) → b < c → r < 256 → (get_or fresh b 0 ≡ 0 → ⊥) → holds held 0 r ≡ true → holds readers (384 + b * 4) r ≡ true → holds active 0 r ≡ true
