-- The levels of a walk through the states left of a set. At a level the highest state left is passed by each of its transitions in
-- turn; while the states below it are passed, the level waits. A table grows by what each level has still to give, the last one
-- first.
use Prim.Native.Nat.{ℕ, zero, suc, ◌+◌, ◌-◌, ◌%◌, ◌^◌, ◌<◌, ◌≤◌}
use native.Mathlib.Omega.{arith}
use mathlib.Core.Path.{◌≡◌, refl, sym, ap, subst, ◌∙◌}
use mathlib.Core.Logic.{⊎_elim}
use mathlib.Core.Bool.{true, false}
use mathlib.Core.List.Memᴰ
use mathlib.Core.List.{List, [], ◌∷◌, map, flat_map}
use lib.ListN.{length, get_or, drop}
use lib.Dec.{ltb}
use borrow.Author.Tests.{ltb-true, ltb-false}
use Rattle.game.specs.ListLaws.{test}
use Rattle.game.specs.Game.{PushdownGame}
use Rattle.table.specs.Table.{Entry}
use Rattle.rounds.specs.Rounds.{entry_at}
use Rattle.rounds.specs.Growing.{Growing, growing}
use Rattle.rounds.specs.GrowingLaws.{HeldBy}
use Rattle.rounds.proofs.GrowingLaws.{growing-append, held-passed, all_stay, grown-held}
use Rattle.rounds.specs.InsertLaws.{no_entry}
use Rattle.rounds.proofs.Growing.{full-any}
use Rattle.enumeration.specs.JobLaws.{pass_of, from_place, from_end}
use Rattle.enumeration.specs.declared.runs.Job.{Job}

-- What elements of a list give, taken from a place on.
module _ {A : Type 0} (n : ℕ) (f : A → List Entry) (d : A) where
  pub taken_at : (i : ℕ) (xs : List A) (s : Growing) → i < length xs
      → growing n (flat_map f (drop i xs)) s ≡ growing n (flat_map f (drop (suc i) xs)) (growing n (f (get_or xs i d)) s)
  taken_at i xs s l =
      ap (λ (es : List Entry). growing n es s) (from_place f d i xs l) ∙ growing-append n (f (get_or xs i d)) (flat_map f (drop (suc i) xs)) s

  -- those whose giving is held are passed over
  pub held-skip : (m i : ℕ) (xs : List A) (s : Growing) → ((k : ℕ) → i ≤ k → k < i + m → HeldBy n (f (get_or xs k d)) s)
      → growing n (flat_map f (drop i xs)) s ≡ growing n (flat_map f (drop (i + m) xs)) s
  held-skip zero i xs s held =
      let same : i + zero ≡ i = omega arith in
      rw same refl
  held-skip (suc m) i xs s held =
      let same : i + suc m ≡ suc i + m = omega arith in
      let later = held-skip m (suc i) xs s (λ k a b. held k (omega arith) (omega arith)) in
      rw same
      (⊎_elim
      (λ (t : ltb i (length xs) ≡ true).
      taken_at i xs s (ltb-true i (length xs) t)
      ∙ ap (λ (x : Growing). growing n (flat_map f (drop (suc i) xs)) x) (held-passed n (f (get_or xs i d)) s (held i (omega arith) (omega arith)))
      ∙ later)
      (λ (t : ltb i (length xs) ≡ false).
      let beyond = ltb-false i (length xs) t in
      ap (λ (es : List Entry). growing n es s) (from_end f i xs beyond ∙ sym (from_end f (suc i + m) xs (omega arith))))
      (test (ltb i (length xs))))

  -- what each of them gives is held, so all is
  pub held_all : (xs : List A) (s : Growing) → ((k : ℕ) → k < length xs → HeldBy n (f (get_or xs k d)) s) → HeldBy n (flat_map f xs) s
  unfolding flat_map
  held_all [] s held e m = absurd (Memᴰ.not-nil m)
  held_all (x ∷ xs) s held e m =
      ⊎_elim (λ here. held 0 (omega arith) e here) (λ there. held_all xs s (λ k l. held (suc k) (omega arith)) e there)
      (Memᴰ.append_cases (f x) m)

-- A level: the states left, the highest of them, the union in hand, the next entry to take, and the word below which an entry is
-- older, 0 if the way to the level has an entry of the last round.
pub record Level : Type 0 where
  pub left : ℕ
  pub highest : ℕ
  pub union : ℕ
  pub next : ℕ
  pub late : ℕ

-- a level at another entry
abbrev pub moved : Level → ℕ → Level
moved v i = record { left = v.left; highest = v.highest; union = v.union; next = i; late = v.late }

module _ (g : PushdownGame) (old : List Entry) (birthdate n : ℕ) (job : Job) (r : ℕ) where
  -- what an entry gives at a level
  unfoldable pub gives : ℕ → ℕ → ℕ → Entry → List Entry
  gives left highest union e =
      map (entry_at job.state job.letter birthdate job.field)
      (pass_of g old job.state job.letter job.end r highest (left % 2 ^ highest) union e)

  abbrev pub gives_at : Level → Entry → List Entry
  gives_at v = gives v.left v.highest v.union

  -- a table after a level is done, and after all levels are
  abbrev pub done : Level → Growing → Growing
  done v s = growing n (flat_map (gives_at v) (drop v.next old)) s

  unfoldable pub after : List Level → Growing → Growing
  after [] s = s
  after (v ∷ vs) s = after vs (done v s)

  -- a full table stays as it is
  pub after-full : (vs : List Level) (s : Growing) → s.full ≡ true → after vs s ≡ s
  unfolding after
  after-full [] s t = refl
  after-full (v ∷ vs) s t = ap (after vs) (full-any n (flat_map (gives_at v) (drop v.next old)) s t) ∙ after-full vs s t

  -- what the entries before the next one give is held at each level, once those above it are done
  abbrev pub Taken : Level → Growing → Type 0
  Taken v s = (k : ℕ) → k < v.next → HeldBy n (gives_at v (get_or old k no_entry)) s

  unfoldable pub Kept : List Level → Growing → Type 0
  Kept [] s = Unit {0}
  Kept (v ∷ vs) s = Taken v s × Kept vs (done v s)

  -- Levels in a state, and what they end in.
  pub record Standing (vs : List Level) (s end : Growing) : Type 0 where
    pub kept : Kept vs s
    pub ends : end ≡ after vs s

  module _ (v : Level) (vs : List Level) (s end : Growing) (h : Standing (v ∷ vs) s end) where
    -- entries that are held are passed over
    pub skipped : (j : ℕ) → v.next ≤ j → ((k : ℕ) → v.next ≤ k → k < j → HeldBy n (gives_at v (get_or old k no_entry)) s)
        → Standing (moved v j ∷ vs) s end
    unfolding Kept after
    skipped j l held =
        let same : done v s ≡ done (moved v j) s =
        (let sum : v.next + (j - v.next) ≡ j = omega arith in
        rw sum at (held-skip n (gives_at v) no_entry (j - v.next) v.next old s (λ k a b. held k a (omega arith))))
        in
        record {
          kept = (
            λ k m.
                ⊎_elim (λ (t : ltb k v.next ≡ true). h.kept.0 k (ltb-true k v.next t))
                (λ (t : ltb k v.next ≡ false). held k (ltb-false k v.next t) m)
                (test (ltb k v.next)),
            subst (Kept vs) same h.kept.1,
          );
          ends = h.ends ∙ ap (after vs) same;
        }

    -- the next entry is taken
    module _ (l : v.next < length old) where
      abbrev with-next : Growing
      with-next = growing n (gives_at v (get_or old v.next no_entry)) s

      same-done : done v s ≡ done (moved v (v.next + 1)) with-next
      same-done =
          let one : v.next + 1 ≡ suc v.next = omega arith in
          rw one (taken_at n (gives_at v) no_entry v.next old s l)

      taken_next : Taken (moved v (v.next + 1)) with-next
      unfolding Kept
      taken_next k m =
          ⊎_elim
          (λ (t : ltb k v.next ≡ true).
          all_stay n (gives_at v (get_or old v.next no_entry)) (gives_at v (get_or old k no_entry)) s (h.kept.0 k (ltb-true k v.next t)))
          (λ (t : ltb k v.next ≡ false).
          let same : v.next ≡ k = omega (arith, ltb-false k v.next t) in
          subst (λ (j : ℕ). HeldBy n (gives_at v (get_or old j no_entry)) with-next) same (grown-held n (gives_at v (get_or old v.next no_entry)) s))
          (test (ltb k v.next))

      pub turned : Standing (moved v (v.next + 1) ∷ vs) with-next end
      unfolding Kept after
      turned =
          record { kept = (taken_next, subst (Kept vs) same-done h.kept.1); ends = h.ends ∙ ap (after vs) same-done }

      -- and gives what another level does, which is opened
      pub opened : (w : Level) → Taken w s → done w s ≡ with-next → Standing (w ∷ moved v (v.next + 1) ∷ vs) s end
      unfolding Kept after
      opened w none e =
          let t = subst (λ (x : Growing). Standing (moved v (v.next + 1) ∷ vs) x end) (sym e) turned in
          record { kept = (none, t.kept); ends = t.ends }

    -- no entry from the next one on gives anything
    module _ (none : (k : ℕ) → v.next ≤ k → k < length old → gives_at v (get_or old k no_entry) ≡ []) where
      nothing-held : (k : ℕ) → v.next ≤ k → k < length old → HeldBy n (gives_at v (get_or old k no_entry)) s
      nothing-held k a b = rw (none k a b) (λ e m. absurd (Memᴰ.not-nil m))

      pub all_held : HeldBy n (flat_map (gives_at v) old) s
      unfolding Kept
      all_held =
          held_all n (gives_at v) no_entry old s
          (λ k l.
          ⊎_elim (λ (t : ltb k v.next ≡ true). h.kept.0 k (ltb-true k v.next t))
          (λ (t : ltb k v.next ≡ false). nothing-held k (ltb-false k v.next t) l)
          (test (ltb k v.next)))

      pub closed : Standing vs s end
      unfolding Kept after growing
      closed =
          let same : done v s ≡ s =
          ⊎_elim
          (λ (t : ltb v.next (length old) ≡ true).
          (let less = ltb-true v.next (length old) t in
          let sum : v.next + (length old - v.next) ≡ length old = omega arith in
          (rw sum at
          (held-skip n (gives_at v) no_entry (length old - v.next) v.next old s (λ k a b. nothing-held k a (omega arith))))
          ∙ ap (λ (es : List Entry). growing n es s) (from_end (gives_at v) (length old) old (omega arith))))
          (λ (t : ltb v.next (length old) ≡ false).
          ap (λ (es : List Entry). growing n es s) (from_end (gives_at v) v.next old (ltb-false v.next (length old) t)))
          (test (ltb v.next (length old)))
          in
          record { kept = subst (Kept vs) same h.kept.1; ends = h.ends ∙ ap (after vs) same }
