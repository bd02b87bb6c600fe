-- Families of sets of states as bits: words of 64 sets each, a family's words one after another at a place of an area.
use Rattle.std.specs.Prelude.{ℕ, ◌+◌, ◌*◌, ◌/◌, ◌%◌, ◌<◌, ◌≤◌, ◌≡◌, ◌⊎◌, Bool, true, false, not, ◌&&◌, ◌||◌, List, get_or, eqb}
use Rattle.game.specs.Sets.{has, union}

-- set x is in the family at a place
unfoldable pub holds : List ℕ → ℕ → ℕ → Bool
holds words at x = has (get_or words (at + x / 64) 0) (x % 64)

-- One word: the unions of a set of one with a set of the other, and no other set.
pub record Unites (a b r : ℕ) : Type 0 where
  pub from : (s : ℕ) → s < 64 → has r s ≡ true → (y z : ℕ) × (y < 64) × (z < 64) × (has a y ≡ true) × (has b z ≡ true) × (s ≡ union y z)
  pub into : (y z : ℕ) → y < 64 → z < 64 → has a y ≡ true → has b z ≡ true → has r (union y z) ≡ true

-- One word: every set united with set x.
pub record Lifts (word x r : ℕ) : Type 0 where
  pub from : (s : ℕ) → s < 64 → has r s ≡ true → (y : ℕ) × (y < 64) × (has word y ≡ true) × (s ≡ union y x)
  pub into : (y : ℕ) → y < 64 → has word y ≡ true → has r (union y x) ≡ true

-- the union of a set of word i of a family with a set of a family of n words
abbrev pub UnionIn : ℕ → ℕ → ℕ → List ℕ → ℕ → ℕ → Type 0
UnionIn n word i others at x =
    (s z : ℕ) × (s < 64) × (z / 64 < n) × (has word s ≡ true) × (holds others at z ≡ true) × (x ≡ union (i * 64 + s) z)

-- these unions, as far as a family of n words can say them, put into the family at the front of an area
pub record Row (n word i : ℕ) (others : List ℕ) (at : ℕ) (old out : List ℕ) : Type 0 where
  pub from : (x : ℕ) → holds out 0 x ≡ true → (holds old 0 x ≡ true) ⊎ UnionIn n word i others at x
  pub kept : (x : ℕ) → holds old 0 x ≡ true → holds out 0 x ≡ true
  pub into : (x : ℕ) → x / 64 < n → UnionIn n word i others at x → holds out 0 x ≡ true

-- The unions of a set of one family of n words with a set of another, as far as such a family can say them, put into the family at the
-- front of an area.
pub record UnitesInto (n : ℕ) (a : List ℕ) (at : ℕ) (b : List ℕ) (bt : ℕ) (old out : List ℕ) : Type 0 where
  pub from : (x : ℕ) → holds out 0 x ≡ true
      → (holds old 0 x ≡ true) ⊎ ((y z : ℕ) × (y / 64 < n) × (z / 64 < n) × (holds a at y ≡ true) × (holds b bt z ≡ true) × (x ≡ union y z))
  pub kept : (x : ℕ) → holds old 0 x ≡ true → holds out 0 x ≡ true
  pub into : (y z : ℕ) → y / 64 < n → z / 64 < n → union y z / 64 < n → holds a at y ≡ true → holds b bt z ≡ true → holds out 0 (union y z) ≡ true

-- the words of a family at the places j with i | j = p, joined
pub record Gathered (i p : ℕ) (a : List ℕ) (at r : ℕ) : Type 0 where
  pub from : (s : ℕ) → has r s ≡ true → (j : ℕ) × (j ≤ p) × (union i j ≡ p) × (has (get_or a (at + j) 0) s ≡ true)
  pub into : (j s : ℕ) → union i j ≡ p → has (get_or a (at + j) 0) s ≡ true → has r s ≡ true

-- the words from `at` on, n of them, aside, an area is as it was
abbrev pub Elsewhere : ℕ → ℕ → List ℕ → List ℕ → Type 0
Elsewhere at n old words = (place x : ℕ) → (place + x / 64 < at) ⊎ (at + n ≤ place + x / 64) → holds words place x ≡ holds old place x

-- set x put into the family at a place
abbrev pub Put : List ℕ → ℕ → ℕ → List ℕ → Type 0
Put old at x words = (place y : ℕ) → holds words place y ≡ (holds old place y || (eqb (place + y / 64) (at + x / 64) && eqb (y % 64) (x % 64)))

-- n words from a place on emptied
pub record Cleared (old : List ℕ) (at n : ℕ) (words : List ℕ) : Type 0 where
  pub here : (place x : ℕ) → at ≤ place + x / 64 → place + x / 64 < at + n → holds words place x ≡ false
  pub elsewhere : Elsewhere at n old words

-- a family of n words replaced by another, joined with another, and without the sets of another
pub record Copied (old : List ℕ) (to n : ℕ) (others : List ℕ) (at : ℕ) (words : List ℕ) : Type 0 where
  pub here : (x : ℕ) → x / 64 < n → holds words to x ≡ holds others at x
  pub elsewhere : Elsewhere to n old words

pub record Joined (old : List ℕ) (to n : ℕ) (others : List ℕ) (at : ℕ) (words : List ℕ) : Type 0 where
  pub here : (x : ℕ) → x / 64 < n → holds words to x ≡ (holds old to x || holds others at x)
  pub elsewhere : Elsewhere to n old words

pub record Without (old : List ℕ) (to n : ℕ) (others : List ℕ) (at : ℕ) (words : List ℕ) : Type 0 where
  pub here : (x : ℕ) → x / 64 < n → holds words to x ≡ (holds old to x && not (holds others at x))
  pub elsewhere : Elsewhere to n old words

-- the family of n words at the front of d put into the one at a place of `all`, and what was not there put at the same place of `new`
pub record TakenIn (n : ℕ) (d : List ℕ) (to : ℕ) (before all old new : List ℕ) : Type 0 where
  pub here : (x : ℕ) → x / 64 < n → holds all to x ≡ (holds before to x || holds d 0 x)
  pub fresh : (x : ℕ) → x / 64 < n → holds new to x ≡ (holds d 0 x && not (holds before to x))
  pub elsewhere : Elsewhere to n before all
  pub apart : Elsewhere to n old new
