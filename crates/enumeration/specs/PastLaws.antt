-- Laws of the past of a round: what has no entry of the last round is given by the older entries alone.
use Rattle.std.specs.Prelude.{ℕ, zero, suc, ◌+◌, ◌*◌, ◌-◌, ◌/◌, ◌%◌, ◌^◌, ◌<◌, ◌≤◌, ◌≡◌, refl, ◌⊎◌, Bool, true, false, cond, get_or, take, drop, eqb}
use Rattle.std.proofs.Common.{arith, sym, ap, ◌∙◌}
use Rattle.std.proofs.Math.Path.{subst}
use Rattle.std.proofs.Math.Logic.{⊎_elim}
use mathlib.Core.List.Memᴰ
use mathlib.Core.List.{List, [], ◌∷◌, map, flat_map}
use Rattle.std.specs.Int.Bits.{bit_and}
use Rattle.std.proofs.Math.Dec.{ltb}
use borrow.Author.Tests.{eqb-true, eqb-false, lt-ltb}
use Rattle.game.specs.Sets.{has, single, union}
use Rattle.game.specs.SetLaws.{none_has}
use Rattle.game.specs.Game.{Rule, PushdownGame, of_head}
use Rattle.game.specs.StoredLaws.{no_rule}
use Rattle.game.specs.ListLaws.{◌∈◌, test, clash, both, filter-in, in-filter, map-in, in_map, flat_map-in, in-flat_map}
use Rattle.game.specs.DigitLaws.{has-and}
use Rattle.table.specs.Table.{Entry}
use Rattle.judge.specs.Worth.{entry_of_head}
use Rattle.rounds.specs.Rounds.{members, sets_of}
use Rattle.rounds.specs.EndsLaws.{members-in, sets_of-in, in-sets_of}
use Rattle.rounds.specs.Enumeration.{rest_runs, state_runs, writes-none, writes_one, writes-two}
use Rattle.rounds.specs.Growing.{Growing, grow, growing}
use Rattle.rounds.specs.GrowingLaws.{HeldBy}
use Rattle.rounds.proofs.GrowingLaws.{all_stay}
use Rattle.rounds.specs.Filled.{Stored}
use Rattle.rounds.specs.InsertLaws.{no_entry}
use Rattle.rounds.proofs.InsertLaws.{get_d-in}
use Rattle.rounds.specs.Scans.{rules_between}
use Rattle.rounds.proofs.StoredRows.{entry-at}
use Rattle.enumeration.specs.Jobs.{sub_runs}
use Rattle.enumeration.specs.JobLaws.{pass_of, highest-first}
use Rattle.enumeration.specs.NextLaws.{begin_of}
use Rattle.enumeration.specs.Past.{older, late_of, Past, Settled, Aging}
use Rattle.enumeration.specs.declared.runs.Job.{Job}

-- what is in a part of a list
pub part_in : {A : Type 0} (d : A) (m n : ℕ) (xs : List A) {x : A} → x ∈ take m (drop n xs)
    → (k : ℕ) × (n ≤ k) × (k < n + m) × (x ≡ get_or xs k d)
part_in d zero n xs i = absurd (Memᴰ.not-nil i)
part_in d (suc m) zero [] i = absurd (Memᴰ.not-nil i)
part_in d (suc m) (suc n) [] i = absurd (Memᴰ.not-nil i)
part_in d (suc m) zero (y ∷ xs) {x} i =
    ⊎_elim (λ (e : x ≡ y). (0, omega arith, omega arith, e))
    (λ j. let r = part_in d m zero xs j in (suc r.0, omega arith, omega (arith, r.2), r.3))
    (Memᴰ.cases_cons i)
part_in d (suc m) (suc n) (y ∷ xs) i =
    let r = part_in d (suc m) n xs i in
    (suc r.0, omega (arith, r.1), omega (arith, r.2), r.3)

-- what is held of a list of unions is held of a part of it
pub held-part : (n : ℕ) (f : ℕ → Entry) (xs ys : List ℕ) (s : Growing) → ((x : ℕ) → x ∈ ys → x ∈ xs) → HeldBy n (map f xs) s → HeldBy n (map f ys) s
held-part n f xs ys s inside held e m =
    let r = map-in f ys m in
    subst (λ (y : Entry). grow n s y ≡ s) (sym r.2) (held (f r.0) (in_map f (inside r.0 r.1)))

-- and the past stays, whatever a table grows by, and of another list too
pub past-stays : (birthdate n late : ℕ) (es fs : List Entry) (s : Growing) → Past birthdate n late es s → Past birthdate n late es (growing n fs s)
past-stays birthdate n late es fs s p some = ((p some).0, all_stay n fs es s (p some).1)

pub past_same : (birthdate n late : ℕ) {es fs : List Entry} (s : Growing) → es ≡ fs → Past birthdate n late es s → Past birthdate n late fs s
past_same birthdate n late s e p some = ((p some).0, subst (λ (l : List Entry). HeldBy n l s) e (p some).1)

pub past-part : (birthdate n late late' : ℕ) (f : ℕ → Entry) (xs ys : List ℕ) (s : Growing) → Past birthdate n late (map f xs) s
    → (0 < late' → (late' ≡ late) × ((x : ℕ) → x ∈ ys → x ∈ xs)) → Past birthdate n late' (map f ys) s
past-part birthdate n late late' f xs ys s p inside some =
    let i = inside some in
    let q = p (omega (arith, i.0)) in
    (i.0 ∙ q.0, held-part n f xs ys s i.1 q.1)

-- sets that have no state in common
pub apart : (a b : ℕ) → bit_and a b ≡ 0 → (q : ℕ) → has a q ≡ true → has b q ≡ false
apart a b none q there =
    ⊎_elim
    (λ (t : has b q ≡ true).
    clash (rw (there, t) at (sym (ap (λ (x : ℕ). has x q) none) ∙ has-and a b q)) (none_has q))
    (λ t. t)
    (test (has b q))

module _ (birthdate : ℕ) (old : List Entry) where
  pub in-older : {e : Entry} → e ∈ old → e.birthdate + 1 < birthdate → e ∈ older birthdate old
  unfolding older
  in-older {e} m l = in-filter (λ (x : Entry). ltb (x.birthdate + 1) birthdate) m (lt-ltb (e.birthdate + 1) birthdate l)

  -- an entry whose first word is below that of the last round's is older
  pub older-at : (n count : ℕ) (work : List ℕ) → Stored n work count old → (late : ℕ) → late ≡ late_of birthdate → (k : ℕ) → k < count
      → get_or work (k * 3) 0 < late → get_or old k no_entry ∈ older birthdate old
  older-at n count work stored late e k l less =
      in-older (get_d-in no_entry old k (omega (arith, stored.counted)))
      (rw (← entry-at n count work old stored k l) (dated (get_or work (k * 3) 0) less))
    where
      dated : (first : ℕ) → first < late → first / 65536 + 1 < birthdate
      dated first m = omega (arith, e)

  module _ (fresh : List ℕ) (marked : (e : Entry) → e ∈ old → (e ∈ older birthdate old) ⊎ (has (get_or fresh e.letter 0) e.state ≡ true)) where
    -- the entries of a head that is not noted are older
    aged : (q c : ℕ) → has (get_or fresh c 0) q ≡ false → (e : Entry) → e ∈ old → entry_of_head q c e ≡ true → e ∈ older birthdate old
    unfolding entry_of_head
    aged q c none e m h =
        let t = both (eqb e.state q) (eqb e.letter c) h in
        ⊎_elim (λ i. i)
        (λ there. clash (rw (eqb-true e.state q t.0, eqb-true e.letter c t.1) at there) none)
        (marked e m)

    sets-aged : (q c : ℕ) → has (get_or fresh c 0) q ≡ false → {x : ℕ} → x ∈ sets_of old q c → x ∈ sets_of (older birthdate old) q c
    sets-aged q c none {x} m =
        let r = sets_of-in old q c m in
        subst (λ (y : ℕ). y ∈ sets_of (older birthdate old) q c) (sym r.3) (in-sets_of q c (aged q c none r.0 r.1 r.2) r.2)

    module _ (g : PushdownGame) where
      -- so are runs over states that are not noted, and of rules that are settled
      abbrev Only : List Rule → Type 0
      Only rs = (u x : ℕ) → x ∈ rest_runs g old rs u → x ∈ rest_runs g (older birthdate old) rs u

      states-aged : (c : ℕ) (rs : List Rule) → Only rs → (ss : List ℕ) → ((q : ℕ) → q ∈ ss → has (get_or fresh c 0) q ≡ false)
          → (u x : ℕ) → x ∈ state_runs g old c rs ss u → x ∈ state_runs g (older birthdate old) c rs ss u
      unfolding state_runs
      states-aged c rs later [] none u x m = later u x m
      states-aged c rs later (s ∷ ss) none u x m =
          let f = flat_map-in (λ y. state_runs g old c rs ss (union u y)) (sets_of old s c) m in
          in-flat_map (λ y. state_runs g (older birthdate old) c rs ss (union u y)) (sets-aged s c (none s (Memᴰ.head refl)) f.1)
          (states-aged c rs later ss (λ q i. none q (Memᴰ.tail i)) (union u f.0) x f.2)

      rule-aged : (r : Rule) (rs : List Rule) → Settled fresh r → Only rs → Only (r ∷ rs)
      rule-aged r rs h later u x m =
          ⊎_elim
          (λ (t : eqb r.count 0 ≡ true).
          let z = eqb-true r.count 0 t in
          subst (λ (l : List ℕ). x ∈ l) (sym (writes-none g (older birthdate old) r rs 0 u z))
          (states-aged 0 rs later [] (λ q i. absurd (Memᴰ.not-nil i)) (union u (single r.to)) x
          (subst (λ (l : List ℕ). x ∈ l) (writes-none g old r rs 0 u z) m)))
          (λ (t : eqb r.count 0 ≡ false).
          ⊎_elim (λ (o : eqb r.count 1 ≡ true). one (eqb-false r.count 0 t) (eqb-true r.count 1 o))
          (λ (o : eqb r.count 1 ≡ false). two (eqb-false r.count 0 t) (eqb-false r.count 1 o))
          (test (eqb r.count 1)))
          (test (eqb r.count 0))
        where
          one : (r.count ≡ 0 → ⊥) → r.count ≡ 1 → x ∈ rest_runs g (older birthdate old) (r ∷ rs) u
          one n z =
              let f =
              flat_map-in (λ y. state_runs g old 0 rs [] (union u y)) (sets_of old r.to r.above)
              (subst (λ (l : List ℕ). x ∈ l) (writes_one g old r rs 0 u z) m)
              in
              subst (λ (l : List ℕ). x ∈ l) (sym (writes_one g (older birthdate old) r rs 0 u z))
              (in-flat_map (λ y. state_runs g (older birthdate old) 0 rs [] (union u y)) (sets-aged r.to r.above (h.above n) f.1)
              (states-aged 0 rs later [] (λ q i. absurd (Memᴰ.not-nil i)) (union u f.0) x f.2))

          two : (r.count ≡ 0 → ⊥) → (r.count ≡ 1 → ⊥) → x ∈ rest_runs g (older birthdate old) (r ∷ rs) u
          two n z =
              let f =
              flat_map-in (λ y. state_runs g old r.below rs (members g.states y) u) (sets_of old r.to r.above)
              (subst (λ (l : List ℕ). x ∈ l) (writes-two g old r rs u n z) m)
              in
              subst (λ (l : List ℕ). x ∈ l) (sym (writes-two g (older birthdate old) r rs u n z))
              (in-flat_map (λ y. state_runs g (older birthdate old) r.below rs (members g.states y) u) (sets-aged r.to r.above (h.above n) f.1)
              (states-aged r.below rs later (members g.states f.0) (λ q i. rw (h.below n z) (none_has q)) u x f.2))

      rules-aged : (rs : List Rule) → ((r : Rule) → r ∈ rs → Settled fresh r) → Only rs
      unfolding rest_runs
      rules-aged [] h u x m = m
      rules-aged (r ∷ rs) h u x m =
          rule-aged r rs (h r (Memᴰ.head refl)) (rules-aged rs (λ y i. h y (Memᴰ.tail i))) u x m

-- Of a job, from a rule on: where no later rule and no state left is noted, the older entries give all.
module _ (g : PushdownGame) (old : List Entry) (birthdate : ℕ) (job : Job) (fresh : List ℕ) (aging : Aging g old birthdate job fresh) where
  abbrev rule : ℕ → Rule
  rule r = get_or g.rules r no_rule

  between-settled : (from : ℕ) → job.last ≤ from → (x : Rule) → x ∈ rules_between g job.state job.letter from job.end → Settled fresh x
  unfolding rules_between
  between-settled from l x m =
      let f = filter-in (of_head job.state job.letter) (take (job.end - from) (drop from g.rules)) m in
      let k = part_in no_rule (job.end - from) from g.rules f.0 in
      subst (Settled fresh) (sym k.3)
      (aging.settled k.0 (omega (arith, k.1)) (omega (arith, k.1, k.2)) (sym (ap (of_head job.state job.letter) k.3) ∙ f.1))

  pub rest-aged : (from u : ℕ) → job.last ≤ from → (x : ℕ) → x ∈ rest_runs g old (rules_between g job.state job.letter from job.end) u
      → x ∈ rest_runs g (older birthdate old) (rules_between g job.state job.letter from job.end) u
  rest-aged from u l x m =
      rules-aged birthdate old fresh aging.marked g (rules_between g job.state job.letter from job.end) (between-settled from l) u x m

  pub sub-aged : (r left u : ℕ) → job.last ≤ r + 1 → ((q : ℕ) → has left q ≡ true → has (get_or fresh (rule r).below 0) q ≡ false)
      → (x : ℕ) → x ∈ sub_runs g old job.state job.letter job.end r left u
      → x ∈ sub_runs g (older birthdate old) job.state job.letter job.end r left u
  unfolding sub_runs
  sub-aged r left u l none x m =
      let later = rules_between g job.state job.letter (suc r) job.end in
      states-aged birthdate old fresh aging.marked g (rule r).below later
      (λ v y i. rest-aged (suc r) v (omega arith) y i)
      (members g.states left) (λ q i. none q (members-in g.states left i).1) u x m

-- what an entry of a table gives is among what the table gives: as the first transition of a rule, and as one of the highest state
pub begin-in : (g : PushdownGame) (table : List Entry) (p a end r u : ℕ) {e : Entry} → e ∈ table → (x : ℕ)
    → x ∈ begin_of g table p a end r u e → x ∈ flat_map (begin_of g table p a end r u) table
begin-in g table p a end r u m x i = in-flat_map (begin_of g table p a end r u) m i

pub pass-in : (g : PushdownGame) (table : List Entry) (p a end r left u q : ℕ) → q < g.states → has left q ≡ true
    → ((k : ℕ) → q < k → k < g.states → has left k ≡ false) → {e : Entry} → e ∈ table
    → entry_of_head q (get_or g.rules r no_rule).below e ≡ true → (x : ℕ)
    → x ∈ sub_runs g table p a end r (left % 2 ^ q) (union u e.set) → x ∈ sub_runs g table p a end r left u
pass-in g table p a end r left u q l h above {e} m t x i =
    subst (λ (xs : List ℕ). x ∈ xs) (sym (highest-first g table p a end r left u q l h above))
    (in-flat_map (pass_of g table p a end r q (left % 2 ^ q) u) m
    (subst (λ (xs : List ℕ). x ∈ xs)
    (sym (ap (λ (b : Bool). cond b (sub_runs g table p a end r (left % 2 ^ q) (union u e.set)) []) t)) i))
