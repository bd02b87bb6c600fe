-- Sets offered to a head: such as the runs give it and it has not, noted as entries.
use Rattle.std.specs.Prelude.{ℕ, ◌+◌, ◌*◌, ◌/◌, ◌^◌, ◌<◌, ◌≤◌, ◌≡◌, ◌⊎◌, true, List, length}
use Rattle.game.specs.Game.{PushdownGame}
use Rattle.table.specs.Table.{Entry}
use Rattle.family.specs.Family.{holds}
use Rattle.rounds.specs.Rounds.{next_round}
use Rattle.rounds.specs.Candidates.{Gives}
use Rattle.unions.specs.Expand.{expand}
use Rattle.unions.specs.Pool.{Head, Grew}
use Rattle.noting.specs.Signs.{NoGains}
use Rattle.noting.specs.Taking.{Taking}

-- set x of elements is given to a head by a rule field, the lowest, and is neither there nor noted
pub record Offer (el : List ℕ) (g : PushdownGame) (es now : List Entry) (p a rule x : ℕ) : Type 0 where
  pub small : x < 2 ^ length el
  pub gives : Gives g es p a (expand el x) rule
  pub lowest : (field : ℕ) → Gives g es p a (expand el x) field → rule ≤ field
  pub new : Head es p a (expand el x) → ⊥
  pub fresh : Head now p a (expand el x) → ⊥

-- the heads with more sets of one of them, those that S describes
pub record More (el : List ℕ) (S : ℕ → Type 0) (p a : ℕ) (now after : List Entry) : Type 0 where
  pub from : (q c z : ℕ) → Head after q c z → Head now q c z ⊎ ((q ≡ p) × (c ≡ a) × ((y : ℕ) × S y × (z ≡ expand el y)))
  pub kept : (q c z : ℕ) → Head now q c z → Head after q c z
  pub into : (y : ℕ) → S y → Head after p a (expand el y)

-- all of them are noted, or the round does not fit so many entries
abbrev pub Noting : List ℕ → PushdownGame → List Entry → ℕ → ℕ → (ℕ → Type 0) → ℕ → ℕ → List Entry → List ℕ → ℕ → Type 0
Noting el g es b size S p a now log count =
    ((count ≡ size + 1) × (size < length (next_round g es b)))
    ⊎ ((count ≤ size) × ((after : List Entry) × Taking el g es b log count after × More el S p a now after))

-- what each head of a control state was given in the round
abbrev pub Adding : List ℕ → PushdownGame → ℕ → List Entry → List Entry → List ℕ → Type 0
Adding el g n es now added = (p a : ℕ) → p < g.control → a < g.letters → Grew el n added ((p * g.letters + a) * n) (Head now p a) (Head es p a)

-- the sets of a family are given to a head by a rule field, which is the lowest for those that are neither there nor noted
pub record Offered (el : List ℕ) (g : PushdownGame) (n : ℕ) (es now : List Entry) (p a rule : ℕ) (d : List ℕ) (at : ℕ) : Type 0 where
  pub small : (x : ℕ) → x / 64 < n → holds d at x ≡ true → x < 2 ^ length el
  pub gives : (x : ℕ) → x / 64 < n → holds d at x ≡ true → Gives g es p a (expand el x) rule
  pub lowest : (x : ℕ) → x / 64 < n → holds d at x ≡ true → (Head es p a (expand el x) → ⊥) → (Head now p a (expand el x) → ⊥) → (field : ℕ)
      → Gives g es p a (expand el x) field → rule ≤ field

-- afterwards all of them are there or noted, or the round does not fit
pub record Taken (el : List ℕ) (g : PushdownGame) (n : ℕ) (es : List Entry) (b p a : ℕ) (now : List Entry) (d : List ℕ) (at j : ℕ) (log added : List ℕ) (count : ℕ) : Type 0 where
  pub after : List Entry
  pub taking : Taking el g es b log count after
  pub adding : Adding el g n es after added
  pub kept : (q c z : ℕ) → Head now q c z → Head after q c z
  pub only : (q c z : ℕ) → Head after q c z → Head now q c z ⊎ ((q ≡ p) × (c ≡ a) × ((x : ℕ) × (x / 64 < j) × (z ≡ expand el x)))
  pub into : (x : ℕ) → x / 64 < j → x / 64 < n → holds d at x ≡ true → Head after p a (expand el x)

abbrev pub Given : List ℕ → PushdownGame → ℕ → List Entry → ℕ → ℕ → ℕ → ℕ → List Entry → List ℕ → ℕ → List ℕ → List ℕ → ℕ → Type 0
Given el g n es b size p a now d at log added count =
    ((count ≡ size + 1) × (size < length (next_round g es b))) ⊎ ((count ≤ size) × Taken el g n es b p a now d at n log added count)

-- a head that is not marked was given nothing in the round
pub record Spared (g : PushdownGame) (es now : List Entry) (gains : List ℕ) : Type 0 where
  pub none : NoGains g es now gains

abbrev pub Gave : List ℕ → PushdownGame → ℕ → List Entry → ℕ → ℕ → ℕ → ℕ → List Entry → List ℕ → ℕ → List ℕ → List ℕ → List ℕ → ℕ → Type 0
Gave el g n es b size p a now d at gains log added count =
    ((count ≡ size + 1) × (size < length (next_round g es b)))
    ⊎ ((count ≤ size) × ((t : Taken el g n es b p a now d at n log added count) × Spared g es t.after gains))
