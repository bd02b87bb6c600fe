-- The rounds, characterised: what is in a round, with which birthdate and which rule.
use Prim.Native.Nat.{ℕ, zero, suc, ◌+◌, ◌-◌, ◌<◌, ◌≤◌}
use Rattle.std.proofs.Common.{le_refl, zero-add, add-zero, suc-add, arith, ◌∙◌, ap, ltb-true, ltb-false}
use Rattle.std.specs.Prelude.{◌≡◌, ◌⊎◌, ◌↔◌, true, false, ltb}
use Rattle.std.proofs.Math.Path.{refl, sym, subst}
use Rattle.std.proofs.Math.Logic.{inl, inr, ⊎_elim}
use mathlib.Core.List.Memᴰ
use mathlib.Core.List.{List, [], map}
use Rattle.game.specs.Game.{Transition, PushdownGame}
use Rattle.table.specs.Table.{Entry, key, key_of}
use Rattle.game.specs.ListLaws.{◌∈◌, test, map-in, in_map}
use Rattle.judge.proofs.Target.{Same, HoldsTarget}
use Rattle.rounds.specs.Rounds.{entry_at, target_entry, round_zero, candidates, next_round}
use Rattle.game.specs.GoodGame.{Good}
use Rattle.rounds.specs.EndsRange.{Proper}
use Rattle.table.specs.Pairwise.{Ascending, Pairwise, pairwise-all}
use Rattle.rounds.specs.AddLaws.{LowFirst}
use Rattle.rounds.proofs.AddLaws.{adding-old, adding-there, adding-ascending, adding-in}
use Rattle.rounds.specs.Candidates.{Gives}
use Rattle.rounds.proofs.Candidates.{gives_at, candidates-in, in-candidates, gives-proper, parts, low_first}
use Rattle.rounds.specs.RoundLaws.{round_table, Born, Ranged, AllRanged}

pub same-entry : (x y : Entry) → x.state ≡ y.state → x.letter ≡ y.letter → x.set ≡ y.set → x.birthdate ≡ y.birthdate → x.rule ≡ y.rule
    → x ≡ y
same-entry x y s l t b r = λ i. record { state = s i; letter = l i; set = t i; birthdate = b i; rule = r i }

-- where an entry of round i comes from
pub data Origin (g : PushdownGame) (i : ℕ) (e : Entry) : Type 0 where
  of-target : (t : Transition) → t ∈ g.targets → e ≡ target_entry t → Origin g i e
  of-round : (j : ℕ) → j < i → e.birthdate ≡ suc j → Born g (round_table g j) e → Origin g i e

pub key-of : {s a x s' a' x' : ℕ} → s ≡ s' → a ≡ a' → x ≡ x' → key s a x ≡ key s' a' x'
key-of p q r = rw (p, q, r)

module _ (g : PushdownGame) (good : Good g) where
  -- one round over an ascending table in range
  module _ (table : List Entry) (asc : Ascending table) (ranged : AllRanged g table) where
    proper : (e : Entry) → e ∈ table → Proper g.states e.set
    proper e m = (ranged e m).set

    pub next-in : (birthdate : ℕ) {e : Entry} → e ∈ next_round g table birthdate → e ∈ table ⊎ ((e.birthdate ≡ birthdate) × Born g table e)
    unfolding next_round
    next-in birthdate {e} m =
        ⊎_elim inl
        (λ a.
        let c = candidates-in g table birthdate a.listed in
        let d = c.4 in
        let lp : e.state < g.control = subst (λ (n : ℕ). n < g.control) (sym d.state) c.2 in
        let la : e.letter < g.letters = subst (λ (n : ℕ). n < g.letters) (sym d.letter) c.3 in
        inr (
          d.date,
          record {
            state = lp;
            letter = la;
            new = a.new;
            gives = gives_at d.state d.letter refl d.gives;
            lowest =
                λ field h.
                a.lowest (entry_at e.state e.letter birthdate field e.set) (in-candidates g table birthdate lp la h) refl;
          },
        ))
        (adding-in (candidates g table birthdate) table asc (low_first g good table proper birthdate) m)

    -- what a round adds is in range. Uses that every head has a rule (question 9), through `gives-proper`
    pub next-ranged : (birthdate : ℕ) → AllRanged g (next_round g table birthdate)
    next-ranged birthdate e m =
        ⊎_elim (λ i. ranged e i)
        (λ b.
        record {
          state = omega (arith, b.1.state, good.ranged.control);
          letter = b.1.letter;
          set = gives-proper g good table proper b.1.state b.1.letter b.1.gives;
        })
        (next-in birthdate m)

    pub next-ascending : (birthdate : ℕ) → Ascending (next_round g table birthdate)
    unfolding next_round
    next-ascending birthdate = adding-ascending (candidates g table birthdate) table asc

    -- what the runs give is there afterwards. Uses that every head has a rule (question 9), through `gives-proper`
    pub next-there : (birthdate : ℕ) {p a x field : ℕ} → p < g.control → a < g.letters → Gives g table p a x field
        → (e : Entry) × e ∈ next_round g table birthdate × (e.state ≡ p) × (e.letter ≡ a) × (e.set ≡ x)
    unfolding next_round
    next-there birthdate {p} {a} {x} {field} lp la h =
        let e = adding-there (candidates g table birthdate) table (in-candidates g table birthdate lp la h) in
        let r = next-ranged birthdate e.0 e.1 in
        let k = parts g good table proper {s = e.0.state} {s' = p} r.letter la r.set (gives-proper g good table proper lp la h) e.2 in
        (e.0, e.1, k.0, k.1, k.2)

    -- a round's entries, exactly: the old ones, and those born from it with this birthdate
    pub next-is : (birthdate : ℕ) (e : Entry) → (e ∈ next_round g table birthdate) ↔ (e ∈ table ⊎ ((e.birthdate ≡ birthdate) × Born g table e))
    unfolding next_round
    next-is birthdate e = (
      next-in birthdate,
      ⊎_elim (λ i. adding-old (candidates g table birthdate) table i)
          (λ b.
          let born = b.1 in
          let x = next-there birthdate born.state born.letter born.gives in
          let same : key_of x.0 ≡ key_of e = key-of x.2 x.3 x.4 in
          ⊎_elim (λ i. absurd (born.new x.0 i same))
          (λ c.
          let other = c.1 in
          let up : e.rule ≤ x.0.rule = born.lowest x.0.rule (gives_at (sym x.2) (sym x.3) (sym x.4) other.gives) in
          let down : x.0.rule ≤ e.rule = other.lowest e.rule (gives_at x.2 x.3 x.4 born.gives) in
          Memᴰ.cast
          (same-entry e x.0 (sym x.2) (sym x.3) (sym x.4) (b.0 ∙ sym c.0) (omega arith))
          x.1)
          (next-in birthdate x.1)),
    )

  pub targets-low : LowFirst (map target_entry g.targets)
  targets-low =
      pairwise-all (λ (x y : Entry). key_of y ≡ key_of x → x.rule ≤ y.rule) (map target_entry g.targets)
      (λ x y i j k.
      let r = map-in target_entry g.targets i in
      let s = map-in target_entry g.targets j in
      omega (arith, ap (λ (e : Entry). e.rule) r.2, ap (λ (e : Entry). e.rule) s.2))

  -- round 0 holds only the target's transitions
  zero_in : {e : Entry} → e ∈ round_table g 0 → (t : Transition) × t ∈ g.targets × (e ≡ target_entry t)
  unfolding round_table round_zero Pairwise
  zero_in m =
      ⊎_elim (λ i. absurd (Memᴰ.not-nil i)) (λ a. map-in target_entry g.targets a.listed)
      (adding-in (map target_entry g.targets) [] tt targets-low m)

  zero-ranged : AllRanged g (round_table g 0)
  zero-ranged e m =
      let t = zero_in m in
      let h = good.ranged.target t.0 t.1 in
      subst (Ranged g) (sym t.2) (record { state = h.state; letter = h.letter; set = record { filled = h.filled; small = h.small } })

  -- round 0 is the target's transitions, exactly
  pub zero_is : (e : Entry) → (e ∈ round_table g 0) ↔ ((t : Transition) × t ∈ g.targets × (e ≡ target_entry t))
  unfolding round_table round_zero
  zero_is e = (
    zero_in,
    λ t.
        let x = adding-there (map target_entry g.targets) [] (in_map target_entry t.1) in
        let u = zero_in x.1 in
        let h = good.ranged.target t.0 t.1 in
        let r = zero-ranged x.0 x.1 in
        let k = parts g good [] (λ y i. absurd (Memᴰ.not-nil i)) {s = x.0.state} {s' = t.0.state} r.letter h.letter r.set
        (record { filled = h.filled; small = h.small })
        x.2
        in
        let same : x.0 ≡ target_entry t.0 =
        same-entry x.0 (target_entry t.0) k.0 k.1 k.2 (ap (λ (y : Entry). y.birthdate) u.2) (ap (λ (y : Entry). y.rule) u.2)
        in
        Memᴰ.cast (t.2 ∙ sym same) x.1,
  )

  pub round-ranged : (i : ℕ) → Ascending (round_table g i) × AllRanged g (round_table g i)
  unfolding round_table round_zero Pairwise
  round-ranged zero = (adding-ascending (map target_entry g.targets) [] tt, zero-ranged)
  round-ranged (suc i) =
      let old = round-ranged i in
      (next-ascending (round_table g i) old.0 old.1 (suc i), next-ranged (round_table g i) old.0 old.1 (suc i))

  -- An entry is in round i + 1 exactly if it is in round i, or its birthdate is i + 1 and runs of round i give it anew.
  pub round_is : (i : ℕ) (e : Entry)
      → (e ∈ round_table g (suc i)) ↔ (e ∈ round_table g i ⊎ ((e.birthdate ≡ suc i) × Born g (round_table g i) e))
  unfolding round_table
  round_is i e = next-is (round_table g i) (round-ranged i).0 (round-ranged i).1 (suc i) e

  pub round-kept : (i j : ℕ) {e : Entry} → e ∈ round_table g i → e ∈ round_table g (j + i)
  round-kept i zero {e} m = subst (λ (n : ℕ). e ∈ round_table g n) (sym (zero-add i)) m
  round-kept i (suc j) {e} m =
      subst (λ (n : ℕ). e ∈ round_table g n) (sym (suc-add j i)) ((round_is (j + i) e).1 (inl (round-kept i j m)))

  -- Every entry of round i is the target's, of birthdate 0, or was born in the round of its birthdate.
  pub round-origin : (i : ℕ) {e : Entry} → e ∈ round_table g i → Origin g i e
  round-origin zero m = let t = zero_in m in of-target t.0 t.1 t.2
  round-origin (suc i) {e} m =
      ⊎_elim (λ k. later (round-origin i k)) (λ b. of-round i (le_refl (suc i)) b.0 b.1) ((round_is i e).0 m)
    where
      later : Origin g i e → Origin g (suc i) e
      later (of-target t j p) = of-target t j p
      later (of-round j l p b) = of-round j (omega arith) p b

  pub round-date : (i : ℕ) {e : Entry} → e ∈ round_table g i → e.birthdate ≤ i
  round-date i {e} m = date (round-origin i m)
    where
      date : Origin g i e → e.birthdate ≤ i
      date (of-target t j p) = omega (arith, ap (λ (y : Entry). y.birthdate) p)
      date (of-round j l p b) = omega arith

  pub round-target : (i : ℕ) → HoldsTarget g (round_table g i)
  round-target i =
      record {
        only = λ e m z. only (round-origin i m) z;
        all =
            λ t m.
            let e = target_entry t in (
              e,
              subst (λ (n : ℕ). e ∈ round_table g n) (add-zero i) (round-kept 0 i ((zero_is e).1 (t, m, refl))),
              refl,
              record { state = refl; letter = refl; set = refl },
            );
      }
    where
      only : {e : Entry} → Origin g i e → e.birthdate ≡ 0 → (t : Transition) × t ∈ g.targets × Same e t
      only (of-target t j p) z = (
        t,
        j,
        record { state = ap (λ (y : Entry). y.state) p; letter = ap (λ (y : Entry). y.letter) p; set = ap (λ (y : Entry). y.set) p },
      )
      only (of-round j l p b) z = absurd (omega arith)

  -- an entry is in the round of its birthdate
  pub round-born : (i : ℕ) {e : Entry} → e ∈ round_table g i → e ∈ round_table g e.birthdate
  round-born i {e} m = from (round-origin i m)
    where
      from : Origin g i e → e ∈ round_table g e.birthdate
      from (of-target t j p) =
          subst (λ (n : ℕ). e ∈ round_table g n) (sym (ap (λ (y : Entry). y.birthdate) p)) ((zero_is e).1 (t, j, p))
      from (of-round j l p b) = subst (λ (n : ℕ). e ∈ round_table g n) (sym p) ((round_is j e).1 (inr (p, b)))

  -- Birthdates are least: a round that has an entry's state, letter and set is no earlier than its birthdate.
  pub birthdate-least : (i j : ℕ) {e x : Entry} → e ∈ round_table g i → x ∈ round_table g j → key_of x ≡ key_of e → e.birthdate ≤ j
  birthdate-least i j {e} {x} m n k = from (round-origin i m)
    where
      from : Origin g i e → e.birthdate ≤ j
      from (of-target t h p) = omega (arith, ap (λ (y : Entry). y.birthdate) p)
      from (of-round h l p b) =
          ⊎_elim
          (λ (t : ltb h j ≡ true). omega (arith, ltb-true h j t))
          (λ (t : ltb h j ≡ false).
          let up : h - j + j ≡ h = omega (arith, ltb-false h j t) in
          absurd (b.new x (subst (λ (n : ℕ). x ∈ round_table g n) up (round-kept j (h - j) n)) k))
          (test (ltb h j))
