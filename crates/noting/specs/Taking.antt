-- A round as far as it is taken: entries are noted one after another, and at last they are those of the round.
use Rattle.std.specs.Prelude.{Option, None, Some, ℕ, suc, ◌+◌, ◌*◌, ◌^◌, ◌<◌, ◌≤◌, ◌≡◌, refl, List, [], ◌∷◌, length, get_or, set, eqb}
use Rattle.std.proofs.Common.{arith, sym, ap, subst, ◌∙◌, inr, ⊎_elim, get_or-set_same, get_or-set_other, length-set, eq-eqb, eqb-true}
use mathlib.Core.List.Memᴰ
use Rattle.game.specs.ListLaws.{◌∈◌, below_suc, both, conj}
use Rattle.game.specs.Game.{PushdownGame}
use Rattle.game.specs.GoodGame.{Good}
use Rattle.table.specs.Table.{Entry, entry_of, key_of}
use Rattle.table.specs.Pairwise.{Ascending, Pairwise}
use Rattle.judge.specs.Worth.{entry_of_head}
use Rattle.rounds.specs.Rounds.{add, next_round}
use Rattle.rounds.specs.AddLaws.{Absent}
use Rattle.rounds.proofs.AddLaws.{add-old, add-there, add-in, add-ascending, same_key, same-list}
use Rattle.rounds.specs.Candidates.{Gives}
use Rattle.rounds.specs.EndsLaws.{sets_of-in, in-sets_of}
use Rattle.rounds.specs.RoundLaws.{Born, AllRanged}
use Rattle.rounds.proofs.RoundLaws.{next-is, next-ascending, key-of}
use Rattle.rounds.proofs.Growing.{absent-longer}
use Rattle.unions.specs.Expand.{expand}
use Rattle.unions.specs.Pool.{Head}
use Rattle.unions.specs.Log.{Log, noted}

-- how many entries there are as a number: one more than there may be, where they do not fit
abbrev pub counted : ℕ → Option ℕ → ℕ
counted size None = size + 1
counted size (Some count) = count

-- the entries noted are those of `now`: all old ones, and such as the round has
pub record Taking (el : List ℕ) (g : PushdownGame) (es : List Entry) (b : ℕ) (log : List ℕ) (count : ℕ) (now : List Entry) : Type 0 where
  pub logged : Log el log count now
  pub ascending : Ascending now
  pub olds : (e : Entry) → e ∈ es → e ∈ now
  pub news : (e : Entry) → e ∈ now → e ∈ next_round g es b

-- of two ascending lists the one that has no others is no longer
pub sub-length : (xs ys : List Entry) → Ascending xs → Ascending ys → ((e : Entry) → e ∈ xs → e ∈ ys) → length xs ≤ length ys
unfolding Pairwise
sub-length [] ys ax ay sub = omega arith
sub-length (x ∷ xs) [] ax ay sub = absurd (Memᴰ.not-nil (sub x (Memᴰ.head refl)))
sub-length (x ∷ xs) (y ∷ ys) ax ay sub =
    ⊎_elim
    (λ (e : x ≡ y).
    let rest = sub-length xs ys ax.1 ay.1
    (λ z i.
    ⊎_elim (λ (f : z ≡ y). absurd (omega (arith, ax.0 z i, ap key_of f, ap key_of e))) (λ j. j) (Memᴰ.cases_cons (sub z (Memᴰ.tail i)))) in
    omega (arith, rest))
    (λ m.
    let rest = sub-length (x ∷ xs) ys ax ay.1
    (λ z i.
    ⊎_elim
    (λ (f : z ≡ y).
    ⊎_elim (λ (h : z ≡ x). absurd (omega (arith, ay.0 x m, ap key_of f, ap key_of h))) (λ k. absurd (omega (arith, ay.0 x m, ax.0 z k, ap key_of f))) (Memᴰ.cases_cons i))
    (λ j. j)
    (Memᴰ.cases_cons (sub z i))) in
    omega (arith, rest))
    (Memᴰ.cases_cons (sub x (Memᴰ.head refl)))

-- a set of a head, and its entry
pub head-entry : (es : List Entry) (q a z : ℕ) → Head es q a z → (e : Entry) × e ∈ es × (e.state ≡ q) × (e.letter ≡ a) × (e.set ≡ z)
unfolding entry_of_head
head-entry es q a z m =
    let r = sets_of-in es q a m in
    let t = both (eqb r.0.state q) (eqb r.0.letter a) r.2 in
    (r.0, r.1, eqb-true r.0.state q t.0, eqb-true r.0.letter a t.1, sym r.3)

pub entry-head : (es : List Entry) (e : Entry) → e ∈ es → Head es e.state e.letter e.set
unfolding entry_of_head
entry-head es e m = in-sets_of e.state e.letter m (conj (eq-eqb e.state e.state refl) (eq-eqb e.letter e.letter refl))

-- what was there is noted
pub heads-old : (el : List ℕ) (g : PushdownGame) (es : List Entry) (b : ℕ) (log : List ℕ) (count : ℕ) (now : List Entry) → Taking el g es b log count now → (q c z : ℕ) → Head es q c z
    → Head now q c z
heads-old el g es b log count now t q c z m =
    let h = head-entry es q c z m in
    subst (λ (s : ℕ). Head now s c z) h.2
    (subst (λ (l : ℕ). Head now h.0.state l z) h.3 (subst (Head now h.0.state h.0.letter) h.4 (entry-head now h.0 (t.olds h.0 h.1))))

-- one entry more
module _ (el : List ℕ) (g : PushdownGame) (good : Good g) (es : List Entry) (asc : Ascending es) (ranged : AllRanged g es) (b : ℕ) (log : List ℕ) (count : ℕ) (now : List Entry) (t : Taking el g es b log count now) where
  -- all that the runs give is noted
  pub whole : ((p a z field : ℕ) → p < g.control → a < g.letters → Gives g es p a z field → Head now p a z) → now ≡ next_round g es b
  whole all =
      same-list now (next_round g es b) t.ascending (next-ascending g good es asc ranged b) t.news
      (λ e m.
      ⊎_elim (λ i. t.olds e i)
      (λ n.
      let born = n.1 in
      let h = head-entry now e.state e.letter e.set (all e.state e.letter e.set e.rule born.state born.letter born.gives) in
      let same = same_key (next_round g es b) (next-ascending g good es asc ranged b) m (t.news h.0 h.1) (key-of (sym h.2) (sym h.3) (sym h.4)) in
      Memᴰ.cast same h.1)
      ((next-is g good es asc ranged b e).0 m))

  module _ (e : Entry) (born : Born g es e) (date : e.birthdate ≡ b) (absent : Absent (key_of e) now) where
    in-next : e ∈ next_round g es b
    in-next = (next-is g good es asc ranged b e).1 (inr (date, born))

    itself : e ∈ add e now
    itself =
        let x = add-there e now in
        ⊎_elim (λ i. absurd (absent x.0 i x.2)) (λ q. Memᴰ.cast (sym q.0) x.1) (add-in e now t.ascending x.1)

    sound : (x : Entry) → x ∈ add e now → x ∈ next_round g es b
    sound x m = ⊎_elim (λ i. t.news x i) (λ q. Memᴰ.cast q.0 in-next) (add-in e now t.ascending m)

    -- a table that has no room for it does not fit the round
    pub beyond : suc (length now) ≤ length (next_round g es b)
    beyond =
        let l = sub-length (add e now) (next_round g es b) (add-ascending e now t.ascending) (next-ascending g good es asc ranged b) sound in
        omega (arith, l, absent-longer e now absent)

    pub noted_more : (first x rule : ℕ) → count * 3 + 2 < length log → x < 2 ^ length el → e ≡ entry_of first (expand el x) rule
        → Taking el g es b (set (set (set log (count * 3) first) (count * 3 + 1) x) (count * 3 + 2) rule) (suc count) (add e now)
    noted_more first x rule room small same =
        record {
          logged =
              record {
                counted = ap suc t.logged.counted ∙ sym (absent-longer e now absent);
                small =
                    λ k l.
                    ⊎_elim (λ (m : k < count). subst (λ (w : ℕ). w < 2 ^ length el) (sym (before (k * 3 + 1) (omega arith))) (t.logged.small k m))
                    (λ (m : k ≡ count). subst (λ (w : ℕ). w < 2 ^ length el) (sym (ap (λ (i : ℕ). get_or log' (i * 3 + 1) 0) m ∙ second)) small)
                    (below_suc l);
                from =
                    λ k l.
                    ⊎_elim (λ (m : k < count). Memᴰ.cast (earlier k m) (add-old e now (t.logged.from k m)))
                    (λ (m : k ≡ count). Memᴰ.cast (ap (noted el log') m ∙ last) itself)
                    (below_suc l);
                into =
                    λ y i.
                    ⊎_elim (λ j. let r = t.logged.into y j in (r.0, omega (arith, r.1), r.2 ∙ sym (earlier r.0 r.1)))
                    (λ q. (count, omega arith, q.0 ∙ sym last))
                    (add-in e now t.ascending i);
              };
          ascending = add-ascending e now t.ascending;
          olds = λ y i. add-old e now (t.olds y i);
          news = sound;
        }
      where
        log₁ : List ℕ
        log₁ = set log (count * 3) first

        log₂ : List ℕ
        log₂ = set log₁ (count * 3 + 1) x

        log' : List ℕ
        log' = set log₂ (count * 3 + 2) rule

        before : (i : ℕ) → i < count * 3 → get_or log' i 0 ≡ get_or log i 0
        before i l =
            get_or-set_other log₂ (count * 3 + 2) i rule 0 (λ q. omega arith)
            ∙ get_or-set_other log₁ (count * 3 + 1) i x 0 (λ q. omega arith)
            ∙ get_or-set_other log (count * 3) i first 0 (λ q. omega arith)

        second : get_or log' (count * 3 + 1) 0 ≡ x
        second =
            get_or-set_other log₂ (count * 3 + 2) (count * 3 + 1) rule 0 (λ q. omega arith)
            ∙ get_or-set_same log₁ (count * 3 + 1) x 0 (omega (arith, room, length-set log (count * 3) first))

        zeroth : get_or log' (count * 3) 0 ≡ first
        zeroth =
            get_or-set_other log₂ (count * 3 + 2) (count * 3) rule 0 (λ q. omega arith)
            ∙ get_or-set_other log₁ (count * 3 + 1) (count * 3) x 0 (λ q. omega arith)
            ∙ get_or-set_same log (count * 3) first 0 (omega (arith, room))

        third : get_or log' (count * 3 + 2) 0 ≡ rule
        third = get_or-set_same log₂ (count * 3 + 2) rule 0 (omega (arith, room, length-set log (count * 3) first, length-set log₁ (count * 3 + 1) x))

        last : noted el log' count ≡ e
        last = rw (zeroth, second, third) (sym same)

        earlier : (k : ℕ) → k < count → noted el log' k ≡ noted el log k
        earlier k l = rw (before (k * 3) (omega arith), before (k * 3 + 1) (omega arith), before (k * 3 + 2) (omega arith))
