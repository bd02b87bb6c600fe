-- Lists of the ends of rules: none where no rule is listed, and one more after it was kept.
use Prim.Native.Nat.{ℕ, zero, suc, ◌+◌, ◌*◌, ◌-◌, ◌<◌, ◌≤◌}
use native.Mathlib.Omega.{arith}
use mathlib.Core.Path.{◌≡◌, refl, sym, ap, subst, ◌∙◌}
use mathlib.Core.Logic.{⊎_elim}
use mathlib.Core.Bool.{true, false}
use mathlib.Core.List.{List}
use lib.ListN.{length, get_or, set, replicate, length-set}
use lib.Seq.{get_or-set_same, get_or-set_other}
use lib.Dec.{eqb}
use borrow.Author.Tests.{eqb-true, eqb-false}
use Rattle.std.specs.Prelude.{Option, Some, None, unwrap_or, IfSome}
use Rattle.game.specs.Game.{PushdownGame, of_head}
use Rattle.game.specs.Stored.{rule_at}
use Rattle.game.specs.StoredLaws.{no_rule}
use Rattle.game.specs.ListLaws.{◌∈◌, test}
use Rattle.table.specs.Table.{Entry}
use Rattle.rounds.specs.Rounds.{rule_ends}
use Rattle.rounds.specs.Filled.{Stored}
use Rattle.rounds.specs.InsertLaws.{no_entry}
use Rattle.rounds.proofs.InsertLaws.{get_d-in, in-get_d}
use Rattle.rounds.proofs.StoredRows.{entry-at}
use Rattle.enumeration.specs.ListedLaws.{list-in, in_list}
use Rattle.enumeration.specs.Lists.{start_of, stop_of, list_of, Listed, Appended, Kept, Zero, Bounded}

-- where no word says otherwise no rule is listed
pub listed-none : (g : PushdownGame) (old : List Entry) (lists spans : List ℕ) → Zero spans → Listed g old lists spans
listed-none g old lists spans none =
    record {
      inside = λ r z l some m. absurd (omega (arith, none (r * 2 + 1)));
      all = λ r z l some m. absurd (omega (arith, none (r * 2 + 1)));
    }

-- the set of an entry is its second word
set_at : (n count : ℕ) (words : List ℕ) (es : List Entry) → Stored n words count es → (i : ℕ) → i < count
    → get_or words (i * 3 + 1) 0 ≡ (get_or es i no_entry).set
set_at n count words es stored i l = ap (λ (e : Entry). e.set) (entry-at n count words es stored i l)

-- The list of rule r was put after the others.
module _ (g : PushdownGame) (old : List Entry) (lists spans sets : List ℕ) (count r room : ℕ) (lists' spans' : List ℕ) (x : ℕ)
    (listed : Listed g old lists spans) (before : (k : ℕ) → get_or spans (k * 2 + 1) 0 ≤ room) (fits : r * 2 + 1 < length spans)
    (m : ℕ) (es : List Entry) (stored : Stored m sets count es)
    (are : (e : Entry) → e ∈ es → e.set ∈ rule_ends g old (get_or g.rules r no_rule))
    (every : (z : ℕ) → z ∈ rule_ends g old (get_or g.rules r no_rule) → (e : Entry) × (e ∈ es) × (e.set ≡ z)) where
  module _ (within : x ≤ length lists) (a : Appended lists spans sets count r room lists' spans' x) where
    abbrev one : List ℕ
    one = set spans (r * 2) room

    start_is : start_of spans' r ≡ room
    start_is =
        rw a.marked
        (get_or-set_other one (r * 2 + 1) (r * 2) (room + count) 0 (λ e. omega arith)
        ∙ get_or-set_same spans (r * 2) room 0 (omega arith))

    stop_is : get_or spans' (r * 2 + 1) 0 ≡ room + count
    stop_is = rw a.marked (get_or-set_same one (r * 2 + 1) (room + count) 0 (rw length-set fits))

    other : (j : ℕ) → (j ≡ r * 2 → ⊥) → (j ≡ r * 2 + 1 → ⊥) → get_or spans' j 0 ≡ get_or spans j 0
    other j p q =
        rw a.marked
        (get_or-set_other one (r * 2 + 1) j (room + count) 0 q ∙ get_or-set_other spans (r * 2) j room 0 p)

    -- the set of entry j is at its place, and an end
    set_is : (j : ℕ) → j < count → get_or lists' (room + j) 0 ≡ (get_or es j no_entry).set
    set_is j l = a.copied.copies j l ∙ set_at m count sets es stored j l

    is-end : (j : ℕ) → j < count → (get_or lists' (room + j) 0 ∈ rule_ends g old (get_or g.rules r no_rule)) × (0 < get_or lists' (room + j) 0)
    is-end j l =
        let member = get_d-in no_entry es j (omega (arith, stored.counted)) in
        rw (set_is j l) (are (get_or es j no_entry) member, (stored.small (get_or es j no_entry) member).filled)

    own-inside : (z : ℕ) → start_of spans' r < stop_of spans' r (length lists') → z ∈ list_of lists' spans' r
        → (z ∈ rule_ends g old (get_or g.rules r no_rule)) × (0 < z)
    own-inside z some i =
        let k = list-in lists' spans' r some i in
        let low : room ≤ k.0 = omega (arith, k.1, start_is) in
        let high : k.0 < room + count = omega (arith, k.2, stop_is) in
        let same : room + (k.0 - room) ≡ k.0 = omega arith in
        rw (k.3 ∙ ap (λ (n : ℕ). get_or lists' n 0) (sym same)) (is-end (k.0 - room) (omega arith))

    own-all : (z : ℕ) → z ∈ rule_ends g old (get_or g.rules r no_rule) → z ∈ list_of lists' spans' r
    own-all z i =
        let e = every z i in
        let k = in-get_d no_entry es e.1 in
        let l : k.0 < count = omega (arith, k.1, stored.counted) in
        subst (λ (y : ℕ). y ∈ list_of lists' spans' r) (set_is k.0 l ∙ ap (λ (f : Entry). f.set) (sym k.2) ∙ e.2)
        (in_list lists' spans' r (room + k.0) (omega (arith, start_is)) (omega (arith, stop_is, within, a.ends, a.copied.long)))

    -- of any other rule nothing has changed
    module _ (k : ℕ) (differs : k ≡ r → ⊥) where
      same_start : start_of spans' k ≡ start_of spans k
      same_start = other (k * 2) (λ e. differs (omega arith)) (λ e. absurd (omega arith))

      same_stop : get_or spans' (k * 2 + 1) 0 ≡ get_or spans (k * 2 + 1) 0
      same_stop = other (k * 2 + 1) (λ e. absurd (omega arith)) (λ e. differs (omega arith))

      same_some : start_of spans' k < stop_of spans' k (length lists') → start_of spans k < stop_of spans k (length lists)
      same_some some = omega (arith, same_start, same_stop, a.copied.long)

      there : (z : ℕ) → start_of spans' k < stop_of spans' k (length lists') → z ∈ list_of lists' spans' k → z ∈ list_of lists spans k
      there z some i =
          let p = list-in lists' spans' k some i in
          let low : start_of spans k ≤ p.0 = omega (arith, p.1, same_start) in
          let high : p.0 < stop_of spans k (length lists) = omega (arith, p.2, same_stop, a.copied.long) in
          subst (λ (y : ℕ). y ∈ list_of lists spans k) (sym (p.3 ∙ a.copied.before p.0 (omega (arith, high, before k))))
          (in_list lists spans k p.0 low high)

      back : (z : ℕ) → start_of spans k < stop_of spans k (length lists) → z ∈ list_of lists spans k → z ∈ list_of lists' spans' k
      back z some i =
          let p = list-in lists spans k some i in
          let low : start_of spans' k ≤ p.0 = omega (arith, p.1, same_start) in
          let high : p.0 < stop_of spans' k (length lists') = omega (arith, p.2, same_stop, a.copied.long) in
          subst (λ (y : ℕ). y ∈ list_of lists' spans' k) (a.copied.before p.0 (omega (arith, p.2, before k)) ∙ sym p.3)
          (in_list lists' spans' k p.0 low high)

    appended-inside : (k z : ℕ) → k < length g.rules → start_of spans' k < stop_of spans' k (length lists') → z ∈ list_of lists' spans' k
        → (z ∈ rule_ends g old (get_or g.rules k no_rule)) × (0 < z)
    appended-inside k z l some i =
        ⊎_elim
        (λ (t : eqb k r ≡ true).
        let e = eqb-true k r t in
        rw e (own-inside z (rw e at some) (rw e at i)))
        (λ (t : eqb k r ≡ false).
        let n = eqb-false k r t in
        listed.inside k z l (same_some k n some) (there k n z some i))
        (test (eqb k r))

    appended-all : (k z : ℕ) → k < length g.rules → start_of spans' k < stop_of spans' k (length lists')
        → z ∈ rule_ends g old (get_or g.rules k no_rule) → z ∈ list_of lists' spans' k
    appended-all k z l some i =
        ⊎_elim
        (λ (t : eqb k r ≡ true).
        let e = eqb-true k r t in
        rw e (own-all z (rw e at i)))
        (λ (t : eqb k r ≡ false).
        let n = eqb-false k r t in
        back k n z (same_some k n some) (listed.all k z l (same_some k n some) i))
        (test (eqb k r))

  pub listed_more : Kept lists spans sets count r room lists' spans' x → Listed g old lists' spans'
  listed_more kept =
      ⊎_elim (λ same. rw (same.0, same.1) listed)
      (λ a. record { inside = appended-inside kept.within a; all = appended-all kept.within a })
      kept.either

-- and every list ends before the room does
pub bounded-more : (lists spans sets : List ℕ) (count r room : ℕ) (lists' spans' : List ℕ) (x : ℕ) → Bounded spans room
    → r * 2 + 1 < length spans → Kept lists spans sets count r room lists' spans' x → Bounded spans' x
bounded-more lists spans sets count r room lists' spans' x before fits kept k =
    ⊎_elim (λ same. rw (same.1, same.2) (before k))
    (λ a.
    let one = set spans (r * 2) room in
    ⊎_elim
    (λ (t : eqb k r ≡ true).
    let stop : get_or spans' (r * 2 + 1) 0 ≡ room + count =
    rw a.marked (get_or-set_same one (r * 2 + 1) (room + count) 0 (rw length-set fits))
    in
    rw (eqb-true k r t) (omega (arith, stop, a.ends)))
    (λ (t : eqb k r ≡ false).
    let n = eqb-false k r t in
    let same : get_or spans' (k * 2 + 1) 0 ≡ get_or spans (k * 2 + 1) 0 =
    rw a.marked
    (get_or-set_other one (r * 2 + 1) (k * 2 + 1) (room + count) 0 (λ e. n (omega arith))
    ∙ get_or-set_other spans (r * 2) (k * 2 + 1) room 0 (λ e. absurd (omega arith)))
    in
    omega (arith, same, before k, a.ends))
    (test (eqb k r)))
    kept.either

-- zeros have 0 at every place
pub zero-at : (n : ℕ) → Zero (replicate n 0)
zero-at zero j = refl
zero-at (suc n) zero = refl
zero-at (suc n) (suc j) = zero-at n j

pub zeroed : (words : List ℕ) (n : ℕ) → words ≡ replicate n 0 → Zero words
zeroed words n e = subst Zero (sym e) (zero-at n)

-- the next rule of a head, where there is one, is a rule of it before the end
pub next-some : (rules : List ℕ) (end p a : ℕ) (next : Option ℕ)
    → (unwrap_or next end < end → of_head p a (rule_at rules (unwrap_or next end * 6) 0) ≡ true) → IfSome next (λ r. r < end)
    → IfSome next (λ r. (r < end) × (of_head p a (rule_at rules (r * 6) 0) ≡ true))
next-some rules end p a None found within = tt
next-some rules end p a (Some r) found within = (within, found within)
