-- The unions over a set and a letter, one state after another, and over two tables.
use Rattle.std.specs.Prelude.{ℕ, zero, suc, ◌^◌, ◌<◌, ◌≡◌, refl, true, false}
use Rattle.std.proofs.Common.{arith, sym, subst, ◌∙◌, ⊎_elim}
use Rattle.std.proofs.Math.Path.{ap}
use mathlib.Core.List.Memᴰ
use mathlib.Core.List.{List, [], ◌∷◌, ◌++◌, map}
use Rattle.game.specs.Sets.{has, single, union}
use Rattle.game.specs.Game.{PushdownGame}
use Rattle.game.specs.SetLaws.{has-below, none_has, single-has, has-single, single-below}
use Rattle.game.specs.UnionLaws.{union_assoc, union-none, none-union}
use Rattle.game.specs.ListLaws.{◌∈◌, test, below_suc, map-in, in_map, flat_map-in, in-flat_map}
use Rattle.table.specs.Table.{Entry}
use Rattle.rounds.specs.Rounds.{members, sets_of, unions, ends}
use Rattle.rounds.specs.MemberLaws.{members-none}
use Rattle.rounds.specs.EndsLaws.{members-in}

-- one transition on letter c for each state of a set, united
abbrev pub unions_of : PushdownGame → List Entry → ℕ → ℕ → List ℕ
unions_of g es c x = unions (map (ends g.states es (c ∷ [])) (members g.states x))

-- y is a set of states: z with a state below all of its states more
pub record Added (states z s y : ℕ) : Type 0 where
  pub small : y < 2 ^ states
  pub on : has y s ≡ true
  pub off : has z s ≡ false
  pub above : (k : ℕ) → s < k → has y k ≡ has z k
  pub low : (k : ℕ) → k < s → has y k ≡ false
  pub none : (k : ℕ) → k < s → has z k ≡ false

-- a union of a set that is A with one that is B
abbrev pub Join : (ℕ → Type 0) → (ℕ → Type 0) → ℕ → Type 0
Join A B w = (u v : ℕ) × A u × B v × (w ≡ union u v)

-- one more family at the end
snoc-in : (fs : List (List ℕ)) (f : List ℕ) (x : ℕ) → x ∈ unions (fs ++ (f ∷ [])) → (u v : ℕ) × u ∈ unions fs × v ∈ f × (x ≡ union u v)
unfolding unions
snoc-in [] f x m =
    let r = flat_map-in (λ set. map (union set) (0 ∷ [])) f m in
    let t = map-in (union r.0) (0 ∷ []) r.2 in
    (0, r.0, Memᴰ.head refl, r.1, t.2 ∙ ap (union r.0) (Memᴰ.eq_of_singleton t.1) ∙ union-none r.0 ∙ sym (none-union r.0))
snoc-in (h ∷ fs) f x m =
    let r = flat_map-in (λ set. map (union set) (unions (fs ++ (f ∷ [])))) h m in
    let t = map-in (union r.0) (unions (fs ++ (f ∷ []))) r.2 in
    let q = snoc-in fs f t.0 t.1 in (
      union r.0 q.0,
      q.1,
      in-flat_map (λ set. map (union set) (unions fs)) r.1 (in_map (union r.0) q.2),
      q.3,
      t.2 ∙ ap (union r.0) q.4 ∙ sym (union_assoc r.0 q.0 q.1),
    )

in-snoc : (fs : List (List ℕ)) (f : List ℕ) (u v : ℕ) → u ∈ unions fs → v ∈ f → union u v ∈ unions (fs ++ (f ∷ []))
unfolding unions
in-snoc [] f u v m i =
    let same : union u v ≡ union v 0 = ap (λ (w : ℕ). union w v) (Memᴰ.eq_of_singleton m) ∙ none-union v ∙ sym (union-none v) in
    subst (λ (w : ℕ). w ∈ unions (f ∷ [])) (sym same) (in-flat_map (λ set. map (union set) (0 ∷ [])) i (in_map (union v) (Memᴰ.head {xs = []} refl)))
in-snoc (h ∷ fs) f u v m i =
    let r = flat_map-in (λ set. map (union set) (unions fs)) h m in
    let t = map-in (union r.0) (unions fs) r.2 in
    let same : union u v ≡ union r.0 (union t.0 v) = ap (λ (w : ℕ). union w v) t.2 ∙ union_assoc r.0 t.0 v in
    subst (λ (w : ℕ). w ∈ unions (h ∷ (fs ++ (f ∷ [])))) (sym same)
    (in-flat_map (λ set. map (union set) (unions (fs ++ (f ∷ [])))) r.1 (in_map (union r.0) (in-snoc fs f t.0 v t.1 i)))

map_snoc : {A B : Type 0} (f : A → B) (xs : List A) (x : A) → map f (xs ++ (x ∷ [])) ≡ map f xs ++ (f x ∷ [])
map_snoc f [] x = refl
map_snoc f (y ∷ xs) x = ap (f y ∷◌) (map_snoc f xs x)

-- no member is below s
members-low : (n y : ℕ) → ((k : ℕ) → k < n → has y k ≡ false) → members n y ≡ []
unfolding members
members-low zero y none = refl
members-low (suc n) y none = rw (none n (omega arith)) (members-low n y (λ k l. none k (omega arith)))

-- the members of a set with a state below all of them
members-snoc : (n y z s : ℕ) → s < n → has y s ≡ true → has z s ≡ false → ((k : ℕ) → s < k → has y k ≡ has z k) → ((k : ℕ) → k < s → has y k ≡ false)
    → ((k : ℕ) → k < s → has z k ≡ false) → members n y ≡ members n z ++ (s ∷ [])
unfolding members
members-snoc zero y z s l on off same low low' = absurd (omega arith)
members-snoc (suc n) y z s l on off same low low' =
    ⊎_elim
    (λ (h : s < n).
    let rest = members-snoc n y z s h on off same low low' in
    ⊎_elim
    (λ (t : has z n ≡ true). rw (same n h ∙ t, t, rest))
    (λ (t : has z n ≡ false). rw (same n h ∙ t, t, rest))
    (test (has z n)))
    (λ (e : s ≡ n). rw (← e, on, off, members-low s y low, members-low s z low'))
    (below_suc l)

module _ (g : PushdownGame) (es : List Entry) (c : ℕ) where
  abbrev step : ℕ → List ℕ
  step = ends g.states es (c ∷ [])

  -- the unions over a set with a state more
  with-state : (z s y : ℕ) → Added g.states z s y → unions_of g es c y ≡ unions (map step (members g.states z) ++ (sets_of es s c ∷ []))
  unfolding ends
  with-state z s y a =
      ap (λ (xs : List ℕ). unions (map step xs))
      (members-snoc g.states y z s (has-below g.states y s a.small a.on) a.on a.off a.above a.low a.none)
      ∙ ap unions (map_snoc step (members g.states z) s)

  pub unions-parts : (z s y w : ℕ) → Added g.states z s y → w ∈ unions_of g es c y → Join (λ u. u ∈ unions_of g es c z) (λ v. v ∈ sets_of es s c) w
  unions-parts z s y w a m =
      snoc-in (map step (members g.states z)) (sets_of es s c) w (subst (λ (xs : List ℕ). w ∈ xs) (with-state z s y a) m)

  pub parts-unions : (z s y w : ℕ) → Added g.states z s y → Join (λ u. u ∈ unions_of g es c z) (λ v. v ∈ sets_of es s c) w → w ∈ unions_of g es c y
  parts-unions z s y w a j =
      subst (λ (xs : List ℕ). w ∈ xs) (sym (with-state z s y a))
      (subst (λ (v : ℕ). v ∈ unions (map step (members g.states z) ++ (sets_of es s c ∷ []))) (sym j.4)
      (in-snoc (map step (members g.states z)) (sets_of es s c) j.0 j.1 j.2 j.3))

  no-unions : unions_of g es c 0 ≡ 0 ∷ []
  unfolding unions
  no-unions = ap (λ (xs : List ℕ). unions (map step xs)) (members-none g.states)

  -- a state by itself
  alone : (s : ℕ) → s < g.states → Added g.states 0 s (single s)
  alone s l =
      record {
        small = single-below l;
        on = single-has s;
        off = none_has s;
        above = λ k m. off-single k (λ e. omega arith) ∙ sym (none_has k);
        low = λ k m. off-single k (λ e. omega arith);
        none = λ k m. none_has k;
      }
    where
      off-single : (k : ℕ) → (k ≡ s → ⊥) → has (single s) k ≡ false
      off-single k ne = ⊎_elim (λ (t : has (single s) k ≡ true). absurd (ne (has-single s k t))) (λ (t : has (single s) k ≡ false). t) (test (has (single s) k))

  pub single-in : (s w : ℕ) → s < g.states → w ∈ unions_of g es c (single s) → w ∈ sets_of es s c
  single-in s w l m =
      let j = unions-parts 0 s (single s) w (alone s l) m in
      let empty = Memᴰ.eq_of_singleton (subst (λ (xs : List ℕ). j.0 ∈ xs) no-unions j.2) in
      subst (λ (v : ℕ). v ∈ sets_of es s c) (sym (j.4 ∙ ap (λ (u : ℕ). union u j.1) empty ∙ none-union j.1)) j.3

  pub in-single : (s w : ℕ) → s < g.states → w ∈ sets_of es s c → w ∈ unions_of g es c (single s)
  in-single s w l m =
      parts-unions 0 s (single s) w (alone s l) (0, w, subst (λ (xs : List ℕ). 0 ∈ xs) (sym no-unions) (Memᴰ.head refl), m, sym (none-union w))

-- what each family has, all unions have; and what every set of each family is, every union is
pub unions-all : (P : ℕ → Type 0) → P 0 → ((u v : ℕ) → P u → P v → P (union u v)) → (f : ℕ → List ℕ) (xs : List ℕ)
    → ((s : ℕ) → s ∈ xs → (v : ℕ) → v ∈ f s → P v) → (w : ℕ) → w ∈ unions (map f xs) → P w
unfolding unions
unions-all P empty both f [] each w m = subst P (sym (Memᴰ.eq_of_singleton m)) empty
unions-all P empty both f (x ∷ xs) each w m =
    let r = flat_map-in (λ set. map (union set) (unions (map f xs))) (f x) m in
    let t = map-in (union r.0) (unions (map f xs)) r.2 in
    subst P (sym t.2)
    (both r.0 t.0 (each x (Memᴰ.head refl) r.0 r.1)
    (unions-all P empty both f xs (λ s i. each s (Memᴰ.tail i)) t.0 t.1))

pub unions-more : (f h : ℕ → List ℕ) (xs : List ℕ) → ((s : ℕ) → s ∈ xs → (v : ℕ) → v ∈ f s → v ∈ h s) → (w : ℕ) → w ∈ unions (map f xs)
    → w ∈ unions (map h xs)
unfolding unions
unions-more f h [] each w m = m
unions-more f h (x ∷ xs) each w m =
    let r = flat_map-in (λ set. map (union set) (unions (map f xs))) (f x) m in
    let t = map-in (union r.0) (unions (map f xs)) r.2 in
    subst (λ (v : ℕ). v ∈ unions (map h (x ∷ xs))) (sym t.2)
    (in-flat_map (λ set. map (union set) (unions (map h xs))) (each x (Memᴰ.head refl) r.0 r.1)
    (in_map (union r.0) (unions-more f h xs (λ s i. each s (Memᴰ.tail i)) t.0 t.1)))

-- over two tables: where each state of a set has on a letter no more transitions in the first, there are no more unions
pub tables_more : (g : PushdownGame) (first second : List Entry) (c x : ℕ)
    → ((s : ℕ) → s < g.states → has x s ≡ true → (v : ℕ) → v ∈ sets_of first s c → v ∈ sets_of second s c) → (w : ℕ) → w ∈ unions_of g first c x
    → w ∈ unions_of g second c x
unfolding ends
tables_more g first second c x each w m =
    unions-more (ends g.states first (c ∷ [])) (ends g.states second (c ∷ [])) (members g.states x)
    (λ s i v k. let r = members-in g.states x i in each s r.0 r.1 v k)
    w m
