-- The rules of a head one after another: as far as they are linked, and the list of their numbers.
use Rattle.std.specs.Prelude.{ℕ, suc, ◌+◌, ◌*◌, ◌<◌, ◌≤◌, ◌≡◌, true, List, [], ◌∷◌, get_or}
use Rattle.game.specs.Game.{of_head}
use Rattle.game.specs.Stored.{rule_at}
use Rattle.rounds.specs.Scans.{NextRule}

-- the first rule of each head of a control state, by the head's number, and the next of the same head
pub record Linked (rules : List ℕ) (count letters control : ℕ) (firsts nexts : List ℕ) : Type 0 where
  pub first : (p a : ℕ) → p < control → a < letters → NextRule rules count 0 p a (get_or firsts (p * letters + a) 0)
  pub next : (r p a : ℕ) → r < count → of_head p a (rule_at rules (r * 6) 0) ≡ true → NextRule rules count (suc r) p a (get_or nexts r 0)

-- rules from number m on are linked
pub record LinkedFrom (rules : List ℕ) (count letters control : ℕ) (firsts nexts : List ℕ) (m : ℕ) : Type 0 where
  pub first : (p a : ℕ) → p < control → a < letters → NextRule rules count m p a (get_or firsts (p * letters + a) 0)
  pub next : (r p a : ℕ) → m ≤ r → r < count → of_head p a (rule_at rules (r * 6) 0) ≡ true → NextRule rules count (suc r) p a (get_or nexts r 0)

-- a rule's next one comes after it
abbrev pub Climbs : List ℕ → ℕ → Type 0
Climbs nexts count = (r : ℕ) → r < count → r < get_or nexts r 0

-- the numbers that following the links from one gives
pub data Chain (count : ℕ) (nexts : List ℕ) : ℕ → List ℕ → Type 0 where
  ended : {r : ℕ} → count ≤ r → Chain count nexts r []
  linked : {r : ℕ} {rs : List ℕ} → r < count → Chain count nexts (get_or nexts r 0) rs → Chain count nexts r (r ∷ rs)
