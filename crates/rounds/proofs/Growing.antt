-- "The round stops at the first entry beyond the table": a table that is grown entry by entry within n entries, with a flag that an
-- entry beyond it was met, after which nothing changes. It ends full exactly where the whole round does not fit.
use Rattle.std.specs.Prelude.{ℕ, suc, ◌<◌, ◌≤◌, ◌≡◌, refl, Bool, true, false, List, [], ◌∷◌, length, ltb, eqb}
use Rattle.std.proofs.Common.{arith, sym, ◌∙◌, ap, ⊎_elim, ltb-true, ltb-false, lt-ltb, le-ltb, eq-eqb}
use mathlib.Core.List.Memᴰ
use Rattle.game.specs.ListLaws.{◌∈◌, test, clash, in-any}
use Rattle.table.specs.Table.{Entry, key_of}
use Rattle.rounds.specs.Rounds.{add, adding, is_there}
use Rattle.table.specs.Pairwise.{Ascending, Pairwise}
use Rattle.rounds.specs.AddLaws.{Absent}
use Rattle.rounds.proofs.AddLaws.{is_there-in, add-cases, add-old, add-there, add-ascending}
use Rattle.rounds.specs.Growing.{Growing, grow, growing, partly, fully}

-- a key that is there is not added
key-same : (e : Entry) (table : List Entry) → Ascending table → {x : Entry} → x ∈ table → key_of x ≡ key_of e → add e table ≡ table
unfolding Pairwise
key-same e [] asc i k = absurd (Memᴰ.not-nil i)
key-same e (z ∷ table) asc {x} i k =
    add-cases (λ (l : List Entry). l ≡ z ∷ table) e z table
    (λ l.
    absurd (⊎_elim (λ (p : x ≡ z). omega (arith, ap key_of p)) (λ j. omega (arith, asc.0 x j)) (Memᴰ.cases_cons i)))
    (λ q. refl)
    (λ l.
    ⊎_elim (λ (p : x ≡ z). absurd (omega (arith, ap key_of p))) (λ j. ap (λ (t : List Entry). z ∷ t) (key-same e table asc.1 j k))
    (Memᴰ.cases_cons i))

pub there-same : (e : Entry) (table : List Entry) → Ascending table → is_there table e ≡ true → add e table ≡ table
there-same e table asc h = let x = is_there-in table e h in key-same e table asc x.1 x.2

-- a key that is not there makes the table longer by one
pub absent-longer : (e : Entry) (table : List Entry) → Absent (key_of e) table → length (add e table) ≡ suc (length table)
unfolding add
absent-longer e [] none = refl
absent-longer e (z ∷ table) none =
    let rest = absent-longer e table (λ y i k. none y (Memᴰ.tail i) k) in
    add-cases (λ (l : List Entry). length l ≡ suc (suc (length table))) e z table (λ l. refl)
    (λ q. absurd (none z (Memᴰ.head refl) (sym q)))
    (λ l. ap suc rest)

pub not_there : (e : Entry) (table : List Entry) → is_there table e ≡ false → Absent (key_of e) table
unfolding is_there
not_there e table h y i k = clash (in-any (λ (x : Entry). eqb (key_of x) (key_of e)) i (eq-eqb (key_of y) (key_of e) k)) h

-- a table never gets shorter
pub longer : (es table : List Entry) → Ascending table → length table ≤ length (adding es table)
unfolding adding
longer [] table asc = omega arith
longer (e ∷ es) table asc =
    let rest = longer es (add e table) (add-ascending e table asc) in
    ⊎_elim (λ (t : is_there table e ≡ true). omega (arith, rest, ap (λ (l : List Entry). length l) (there-same e table asc t)))
    (λ (t : is_there table e ≡ false). omega (arith, rest, absent-longer e table (not_there e table t)))
    (test (is_there table e))

-- the three steps from a table that is not full
pub grow-there : (n : ℕ) (table : List Entry) (e : Entry) → is_there table e ≡ true → grow n (partly table) e ≡ partly table
unfolding grow
grow-there n table e t = rw t

pub grow-adds : (n : ℕ) (table : List Entry) (e : Entry) → is_there table e ≡ false → length table < n → grow n (partly table) e ≡ partly (add e table)
unfolding grow
grow-adds n table e t l = rw (t, lt-ltb (length table) n l)

pub grow-stops : (n : ℕ) (table : List Entry) (e : Entry) → is_there table e ≡ false → n ≤ length table → grow n (partly table) e ≡ fully table
unfolding grow
grow-stops n table e t l = rw (t, le-ltb (length table) n l)

-- once full, nothing changes
pub full-stays : (n : ℕ) (es table : List Entry) → growing n es (fully table) ≡ fully table
unfolding growing grow
full-stays n [] table = refl
full-stays n (e ∷ es) table = full-stays n es table

pub as-full : (s : Growing) → s.full ≡ true → s ≡ fully s.entries
as-full s t i = record { entries = s.entries; full = t i }

pub full-any : (n : ℕ) (es : List Entry) (s : Growing) → s.full ≡ true → growing n es s ≡ s
full-any n es s t = ap (growing n es) (as-full s t) ∙ full-stays n es s.entries ∙ sym (as-full s t)

-- what growing a table of at most n entries by a list ends in
pub record Grown (n : ℕ) (es table : List Entry) : Type 0 where
  pub fits : length (adding es table) ≤ n → growing n es (partly table) ≡ partly (adding es table)
  pub stops : n < length (adding es table) → (kept : List Entry) × (growing n es (partly table) ≡ fully kept)

pub grown : (n : ℕ) (es table : List Entry) → Ascending table → length table ≤ n → Grown n es table
unfolding growing adding
grown n [] table asc l = record { fits = λ h. refl; stops = λ h. absurd (omega arith) }
grown n (e ∷ es) table asc l =
    let over = longer es (add e table) (add-ascending e table asc) in
    ⊎_elim
    (λ (t : is_there table e ≡ true).
    let r = grown n es table asc l in
    let step = grow-there n table e t in
    let same = there-same e table asc t in
    record { fits = rw (step, same) r.fits; stops = rw (step, same) r.stops })
    (λ (t : is_there table e ≡ false).
    let more = absent-longer e table (not_there e table t) in
    ⊎_elim
    (λ (u : ltb (length table) n ≡ true).
    let room = ltb-true (length table) n u in
    let r = grown n es (add e table) (add-ascending e table asc) (omega arith) in
    let step = grow-adds n table e t room in
    record { fits = rw step r.fits; stops = rw step r.stops })
    (λ (u : ltb (length table) n ≡ false).
    let none = ltb-false (length table) n u in
    let step = grow-stops n table e t none in
    record {
      fits = λ h. absurd (omega arith);
      stops = λ h. rw step (table, full-stays n es table);
    })
    (test (ltb (length table) n)))
    (test (is_there table e))

there : (e f : Entry) (table : List Entry) → is_there table e ≡ true → is_there (add f table) e ≡ true
unfolding is_there
there e f table h =
    let x = is_there-in table e h in
    in-any (λ (y : Entry). eqb (key_of y) (key_of e)) (add-old f table x.1) (eq-eqb (key_of x.0) (key_of e) x.2)

there-itself : (e : Entry) (table : List Entry) → is_there (add e table) e ≡ true
unfolding is_there
there-itself e table =
    let x = add-there e table in
    in-any (λ (y : Entry). eqb (key_of y) (key_of e)) x.1 (eq-eqb (key_of x.0) (key_of e) x.2)

pub grow-full : (n : ℕ) (table : List Entry) (e : Entry) → grow n (fully table) e ≡ fully table
unfolding grow
grow-full n table e = refl

-- the four ends of one step
pub data Step (n : ℕ) (e : Entry) : Growing → Growing → Type 0 where
  was-full : {table : List Entry} → Step n e (fully table) (fully table)
  was-there : {table : List Entry} → is_there table e ≡ true → Step n e (partly table) (partly table)
  was-added : {table : List Entry} → is_there table e ≡ false → length table < n → Step n e (partly table) (partly (add e table))
  was-over : {table : List Entry} → is_there table e ≡ false → n ≤ length table → Step n e (partly table) (fully table)

pub steps : (n : ℕ) (table : List Entry) (full : Bool) (e : Entry)
    → Step n e (record { entries = table; full = full }) (grow n (record { entries = table; full = full }) e)
steps n table true e = rw (grow-full n table e) was-full
steps n table false e =
    ⊎_elim (λ (t : is_there table e ≡ true). rw (grow-there n table e t) (was-there t))
    (λ (t : is_there table e ≡ false).
    ⊎_elim
    (λ (u : ltb (length table) n ≡ true).
    let l = ltb-true (length table) n u in
    rw (grow-adds n table e t l) (was-added t l))
    (λ (u : ltb (length table) n ≡ false).
    let l = ltb-false (length table) n u in
    rw (grow-stops n table e t l) (was-over t l))
    (test (ltb (length table) n)))
    (test (is_there table e))

-- Adding an entry twice is adding it once.
pub grow-twice : (n : ℕ) (s : Growing) (e : Entry) → grow n (grow n s e) e ≡ grow n s e
grow-twice n s e = of (steps n s.entries s.full e)
  where
    of : {a b : Growing} → Step n e a b → grow n b e ≡ b
    of (was-full {table = t}) = grow-full n t e
    of (was-there {table = t} h) = grow-there n t e h
    of (was-added {table = t} h l) = grow-there n (add e t) e (there-itself e t)
    of (was-over {table = t} h l) = grow-full n t e

partly-same : {x y : List Entry} → partly x ≡ partly y → x ≡ y
partly-same e = ap (λ (s : Growing). s.entries) e

-- an entry whose adding changes nothing is there, or the table is full
held-there : (n : ℕ) (table : List Entry) (e : Entry) → grow n (partly table) e ≡ partly table → is_there table e ≡ true
held-there n table e h =
    ⊎_elim (λ t. t)
    (λ (t : is_there table e ≡ false).
    ⊎_elim
    (λ (u : ltb (length table) n ≡ true).
    let same = partly-same (sym (grow-adds n table e t (ltb-true (length table) n u)) ∙ h) in
    absurd (omega (arith, absent-longer e table (not_there e table t), ap (λ (l : List Entry). length l) same)))
    (λ (u : ltb (length table) n ≡ false).
    clash refl (ap (λ (s : Growing). s.full) (sym (grow-stops n table e t (ltb-false (length table) n u)) ∙ h)))
    (test (ltb (length table) n)))
    (test (is_there table e))

-- What is held stays held: an entry whose adding changes nothing changes nothing after another was added.
pub held_stays : (n : ℕ) (s : Growing) (e f : Entry) → grow n s e ≡ s → grow n (grow n s f) e ≡ grow n s f
held_stays n s e f h = of (steps n s.entries s.full f) h
  where
    of : {a b : Growing} → Step n f a b → grow n a e ≡ a → grow n b e ≡ b
    of (was-full {table = t}) k = k
    of (was-there {table = t} i) k = k
    of (was-added {table = t} i l) k = grow-there n (add f t) e (there e f t (held-there n t e k))
    of (was-over {table = t} i l) k = grow-full n t e
