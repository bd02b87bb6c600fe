-- Laws of what the code enumerates: entries taken one after another, the states left of a set, and the numbers of the memo.
use Rattle.std.specs.Prelude.{ℕ, zero, suc, ◌+◌, ◌%◌, ◌^◌, ◌<◌, ◌≤◌, ◌≡◌, refl, true, false, cond, length, get_or, drop}
use Rattle.std.proofs.Common.{arith, ap, ◌∙◌, ⊎_elim}
use mathlib.Core.List.{List, [], ◌∷◌, ◌++◌, map, flat_map}
use Rattle.game.specs.Sets.{has, union}
use Rattle.game.specs.Game.{PushdownGame, filter}
use Rattle.game.specs.StoredLaws.{no_rule}
use Rattle.game.specs.ListLaws.{test}
use Rattle.table.specs.Table.{Entry}
use Rattle.judge.specs.Worth.{entry_of_head}
use Rattle.rounds.specs.Rounds.{members, sets_of}
use Rattle.rounds.specs.Enumeration.{rest_runs, state_runs}
use Rattle.rounds.specs.Growing.{Growing, growing}
use Rattle.rounds.proofs.GrowingLaws.{growing-append}
use Rattle.rounds.specs.MemberLaws.{members-none, members-highest}
use Rattle.rounds.specs.Scans.{rules_between}
use Rattle.enumeration.specs.Jobs.{sub_runs, tag_of}

-- the sets of a head's transitions, taken from the entries one after another
pub sets-scan : {B : Type 0} (f : ℕ → List B) (q a : ℕ) (table : List Entry)
    → flat_map f (sets_of table q a) ≡ flat_map (λ (e : Entry). cond (entry_of_head q a e) (f e.set) []) table
unfolding sets_of filter flat_map
sets-scan f q a [] = refl
sets-scan f q a (e ∷ table) =
    ⊎_elim (λ (t : entry_of_head q a e ≡ true). rw t (ap (f e.set ++◌) (sets-scan f q a table)))
    (λ (t : entry_of_head q a e ≡ false). rw t (sets-scan f q a table))
    (test (entry_of_head q a e))

-- the entries from place i on: the one there, then those after it
pub from_place : {A B : Type 0} (f : A → List B) (d : A) (i : ℕ) (xs : List A) → i < length xs
    → flat_map f (drop i xs) ≡ f (get_or xs i d) ++ flat_map f (drop (suc i) xs)
unfolding flat_map
from_place f d i [] l = absurd (omega arith)
from_place f d zero (x ∷ xs) l = refl
from_place f d (suc i) (x ∷ xs) l = from_place f d i xs (omega arith)

pub from_end : {A B : Type 0} (f : A → List B) (i : ℕ) (xs : List A) → length xs ≤ i → flat_map f (drop i xs) ≡ []
unfolding flat_map
from_end f zero [] l = refl
from_end f (suc i) [] l = refl
from_end f zero (x ∷ xs) l = absurd (omega arith)
from_end f (suc i) (x ∷ xs) l = from_end f i xs (omega arith)

map_both : {A B : Type 0} (f : A → B) (xs ys : List A) → map f (xs ++ ys) ≡ map f xs ++ map f ys
map_both f [] ys = refl
map_both f (x ∷ xs) ys = ap (f x ∷◌) (map_both f xs ys)

-- a table grown by what the entries from place i on give: by what the one there gives, then by what those after it do
pub grown-from : {A : Type 0} (n : ℕ) (entry : ℕ → Entry) (f : A → List ℕ) (d : A) (i : ℕ) (xs : List A) (s : Growing) → i < length xs
    → growing n (map entry (flat_map f (drop i xs))) s
    ≡ growing n (map entry (flat_map f (drop (i + 1) xs))) (growing n (map entry (f (get_or xs i d))) s)
grown-from n entry f d i xs s l =
    let next : i + 1 ≡ suc i = omega arith in
    rw next
    (ap (λ (es : List ℕ). growing n (map entry es) s) (from_place f d i xs l)
    ∙ ap (λ (es : List Entry). growing n es s) (map_both entry (f (get_or xs i d)) (flat_map f (drop (suc i) xs)))
    ∙ growing-append n (map entry (f (get_or xs i d))) (map entry (flat_map f (drop (suc i) xs))) s)

-- where no state is left: the later rules
pub none_left : (g : PushdownGame) (old : List Entry) (p a end r u : ℕ)
    → sub_runs g old p a end r 0 u ≡ rest_runs g old (rules_between g p a (suc r) end) u
unfolding sub_runs state_runs
none_left g old p a end r u = rw (members-none g.states)

-- Otherwise: entries as transitions of the highest state, then of the others. What entry e gives.
abbrev pub pass_of : PushdownGame → List Entry → ℕ → ℕ → ℕ → ℕ → ℕ → ℕ → ℕ → Entry → List ℕ
pass_of g old p a end r q rest u e =
    cond (entry_of_head q (get_or g.rules r no_rule).below e) (sub_runs g old p a end r rest (union u e.set)) []

pub highest-first : (g : PushdownGame) (old : List Entry) (p a end r left u q : ℕ) → q < g.states → has left q ≡ true
    → ((k : ℕ) → q < k → k < g.states → has left k ≡ false)
    → sub_runs g old p a end r left u ≡ flat_map (pass_of g old p a end r q (left % 2 ^ q) u) old
unfolding sub_runs state_runs
highest-first g old p a end r left u q l h above =
    let c = (get_or g.rules r no_rule).below in
    let rs = rules_between g p a (suc r) end in
    let ss = members g.states (left % 2 ^ q) in
    rw (members-highest g.states left q l h above) (sets-scan (λ x. state_runs g old c rs ss (union u x)) q c old)

-- a number names one head and one rule
pub tag-of : (p a r p' a' r' : ℕ) → a < 64 → a' < 64 → r < 256 → r' < 256 → tag_of p a r ≡ tag_of p' a' r'
    → (p ≡ p') × (a ≡ a') × (r ≡ r')
unfolding tag_of
tag-of p a r p' a' r' l l' m m' e = (omega arith, omega arith, omega arith)
