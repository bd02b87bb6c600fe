-- What the ends of a rule's runs have more: over two letters from sets that are new, or have an element with a new transition.
use Rattle.std.specs.Prelude.{ℕ, zero, suc, ◌+◌, ◌*◌, ◌/◌, ◌^◌, ◌<◌, ◌≡◌, ◌⊎◌, true, false, List, map, ◌∷◌, [], length, eqb, ltb}
use Rattle.std.proofs.Common.{arith, sym, ap, subst, ◌∙◌, inl, inr, ⊎_elim, ltb-true, ltb-false}
use Rattle.std.proofs.Math.ListN.{get_or}
use Rattle.game.specs.Sets.{has, union}
use Rattle.game.specs.SetLaws.{union-has, right-union, left-union, has-below}
use Rattle.game.specs.ListLaws.{test, clash, below_suc, in_map, flat_map-in, in-flat_map}
use Rattle.game.specs.Game.{PushdownGame, word_of}
use Rattle.table.specs.Table.{Entry}
use Rattle.family.specs.Family.{holds, Copied}
use Rattle.rounds.specs.Rounds.{members, sets_of, ends}
use Rattle.rounds.specs.EndsLaws.{in_members, unions-sound}
use Rattle.unions.specs.Expand.{expand, AllWithin}
use Rattle.unions.specs.ExpandLaws.{alike, same_test, expand-none, expand-has, has-expand}
use Rattle.unions.specs.UnionSteps.{unions_of, tables_more}
use Rattle.unions.specs.Pool.{Grew, Head, Union, Layout, HeadsHold, HeadsGrew, Kept}
use Rattle.unions.specs.PoolLaws.{head-within}
use Rattle.unions.specs.Ending.{Sum, Picked, Runs, Ends}

-- a set is inside another, or has a member that the other has not
pub inside-or : (k y a : ℕ) → y < 2 ^ k → (union y a ≡ a) ⊎ ((i : ℕ) × (i < k) × (has y i ≡ true) × (has a i ≡ false))
inside-or k y a l =
    ⊎_elim
    (λ all.
    inl
    (alike (union y a) a
    (λ i.
    same_test (has (union y a) i) (has a i) (λ h. ⊎_elim (λ on. all i (has-below k y i l on) on) (λ on. on) (union-has y a i h))
    (λ h. right-union y a i h))))
    inr
    (search-below k)
  where
    search-below : (m : ℕ) → ((i : ℕ) → i < m → has y i ≡ true → has a i ≡ true) ⊎ ((i : ℕ) × (i < m) × (has y i ≡ true) × (has a i ≡ false))
    search-below zero = inl (λ i h on. absurd (omega arith))
    search-below (suc m) =
        ⊎_elim
        (λ all.
        ⊎_elim
        (λ (t : has y m ≡ true).
        ⊎_elim
        (λ (u : has a m ≡ true). inl (λ i h on. ⊎_elim (λ (j : i < m). all i j on) (λ (j : i ≡ m). ap (has a) j ∙ u) (below_suc h)))
        (λ (u : has a m ≡ false). inr (m, omega arith, t, u))
        (test (has a m)))
        (λ (t : has y m ≡ false). inl (λ i h on. ⊎_elim (λ (j : i < m). all i j on) (λ (j : i ≡ m). clash (ap (has y) (sym j) ∙ on) t) (below_suc h)))
        (test (has y m)))
        (λ found. inr (found.0, omega (arith, found.1), found.2, found.3))
        (search-below m)

pub inside-has : (y a i : ℕ) → union y a ≡ a → has y i ≡ true → has a i ≡ true
inside-has y a i e h = ap (λ (w : ℕ). has w i) (sym e) ∙ left-union y a i h

-- a copy of what grew
pub copied-grew : (el : List ℕ) (n : ℕ) (old more new : List ℕ) (at : ℕ) (P Q : ℕ → Type 0) → ((x : ℕ) → x < 2 ^ length el → x / 64 < n) → Grew el n new at P Q
    → Copied old 0 n new at more → Grew el n more 0 P Q
copied-grew el n old more new at P Q room grew c =
    record {
      from = λ x l h. grew.from x l (sym (c.here x l) ∙ h);
      into = λ x l p. ⊎_elim inl (λ k. inr (c.here x (room x l) ∙ k)) (grew.into x l p);
    }

-- runs over two letters
module _ (el : List ℕ) (g : PushdownGame) (n : ℕ) (lay : Layout el g n) (old es : List Entry) (within : AllWithin el es) (q b c still alive : ℕ) (lq : q < g.states) (lb : b < g.letters) where
  abbrev at : ℕ
  at = (q * g.letters + b) * n

  module _ (all new none more : List ℕ) (hold : HeadsHold el g n es all) (grew : HeadsGrew el g n old es new) (filled : Head es q b 0 → ⊥)
      (stays : (i z : ℕ) → i < length el → has still i ≡ true → Head es (get_or el i 0) c z → Head old (get_or el i 0) c z)
      (dead : (i z : ℕ) → i < length el → has alive i ≡ false → Head es (get_or el i 0) c z → ⊥)
      (empty : (x : ℕ) → holds none 0 x ≡ false) (sum : Sum el g n es c (Picked n still alive all new at) none more) where
    -- a state of a set without transitions: no unions
    no-unions : (y z i : ℕ) → i < length el → has y i ≡ true → has alive i ≡ false → Union g es c (expand el y) z → ⊥
    unfolding ends
    no-unions y z i li on off m =
        let s = get_or el i 0 in
        let ls = lay.elements.small i li in
        let there = in_members g.states (expand el y) ls (has-expand el g.states lay.elements y i li on) in
        let u = unions-sound (map (ends g.states es (c ∷ [])) (members g.states (expand el y))) m (ends g.states es (c ∷ []) s)
        (in_map (ends g.states es (c ∷ [])) there) in
        dead i u.0 li off u.1

    -- no element of a set has a new transition
    old-unions : (y z : ℕ) → union y still ≡ still → Union g es c (expand el y) z → Union g old c (expand el y) z
    old-unions y z inside m =
        tables_more g es old c (expand el y)
        (λ s l on v k.
        let e = expand-has el g.states lay.elements y s on in
        subst (λ (w : ℕ). Head old w c v) e.2
        (stays e.0 v e.1 (inside-has y still e.0 inside e.3) (subst (λ (w : ℕ). Head es w c v) (sym e.2) k)))
        z
        m

    in_head : (y : ℕ) → Picked n still alive all new at y → Head es q b (expand el y)
    in_head y p = ⊎_elim (λ k. ((grew q b lq lb).from y p.within k).1) (λ k. ((hold q b lq lb).from y p.within k.0).1) p.moves

    pub runs-grew : Grew el n more 0 (Runs g es q b c) (Runs g old q b c)
    runs-grew =
        record {
          from =
              λ x l h.
              ⊎_elim (λ k. clash k (empty x)) (λ s. (s.0, (expand el s.1.0, in_head s.1.0 s.1.1, s.1.2))) (sum.from x l h);
          into =
              λ x l r.
              let w = head-within el es within q b r.0 r.1 in
              let y = w.0 in
              let here : Head es q b (expand el y) = subst (Head es q b) w.2 r.1 in
              let ends = subst (λ (v : ℕ). Union g es c v (expand el x)) w.2 r.2 in
              ⊎_elim (λ lives. lively x y l w.1 here ends lives)
              (λ d. absurd (no-unions y (expand el x) d.0 d.1 d.2 d.3 ends))
              (inside-or (length el) y alive w.1);
        }
      where
        lively : (x y : ℕ) → x < 2 ^ length el → y < 2 ^ length el → Head es q b (expand el y) → Union g es c (expand el y) (expand el x) → union y alive ≡ alive
            → Runs g old q b c (expand el x) ⊎ (holds more 0 x ≡ true)
        lively x y l ly here ends lives =
            let some : 0 < y =
            ⊎_elim (λ (t : ltb 0 y ≡ true). ltb-true 0 y t)
            (λ (t : ltb 0 y ≡ false).
            let z = ltb-false 0 y t in
            let none : y ≡ 0 = omega (arith, z) in
            absurd (filled (subst (Head es q b) (ap (expand el) none ∙ expand-none el) here)))
            (test (ltb 0 y)) in
            ⊎_elim
            (λ (t : holds new at y ≡ true). inr (sum.into x y l (record { within = lay.room y ly; some = some; lives = lives; moves = inl t }) ends))
            (λ (t : holds new at y ≡ false).
            let was : Head old q b (expand el y) = ⊎_elim (λ k. k) (λ k. clash k t) ((grew q b lq lb).into y ly here) in
            ⊎_elim
            (λ inside. inl (expand el y, was, old-unions y (expand el x) inside ends))
            (λ d.
            inr
            (sum.into x y l
            (record {
              within = lay.room y ly;
              some = some;
              lives = lives;
              moves = inr ((hold q b lq lb).into y ly here, λ e. clash (inside-has y still d.0 e d.2) d.3);
            })
            ends))
            (inside-or (length el) y still ly))
            (test (holds new at y))

-- a table that keeps the transitions of an older one keeps its ends
pub ends-kept : (g : PushdownGame) (old es : List Entry) → Kept old es → (q w b c z : ℕ) → Ends g old q (word_of w b c) z → Ends g es q (word_of w b c) z
unfolding ends word_of
ends-kept g old es kept q w b c z m =
    ⊎_elim
    (λ (t : eqb w 0 ≡ true). rw t (rw t at m))
    (λ (t : eqb w 0 ≡ false).
    ⊎_elim
    (λ (u : eqb w 1 ≡ true). rw (t, u) (kept q b z (rw (t, u) at m)))
    (λ (u : eqb w 1 ≡ false).
    rw (t, u)
    (let f = flat_map-in (unions_of g old c) (sets_of old q b) (rw (t, u) at m) in
    in-flat_map (unions_of g es c) (kept q b f.0 f.1) (tables_more g old es c f.0 (λ s l h v k. kept s c v k) z f.2)))
    (test (eqb w 1)))
    (test (eqb w 0))
