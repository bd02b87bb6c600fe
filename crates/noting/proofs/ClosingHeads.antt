-- What each head has while heads are closed and emptied one after another.
use Prim.Native.Nat.{ℕ, ◌+◌, ◌*◌, ◌-◌, ◌/◌, ◌^◌, ◌<◌, ◌≤◌}
use native.Mathlib.Omega.{arith}
use mathlib.Core.Path.{◌≡◌, refl, sym, ap, subst, ◌∙◌}
use mathlib.Core.Logic.{◌⊎◌, inl, inr, ⊎_elim}
use mathlib.Core.Bool.{Bool, true, false}
use mathlib.Core.List.{List}
use lib.ListN.{length, get_or, set}
use lib.Seq.{get_or-set_same, get_or-set_other}
use lib.Bits.{bit_and}
use lib.Dec.{eqb, ltb}
use borrow.Author.Tests.{eqb-true, eqb-false, ltb-true, ltb-false}
use Rattle.game.specs.Sets.{has}
use Rattle.game.specs.SetLaws.{none_has, single-has}
use Rattle.game.specs.LowestLaws.{LowestOf, Cleared, cleared}
use Rattle.game.specs.ListLaws.{test, clash, either, left_or, right_or}
use Rattle.game.specs.Game.{PushdownGame}
use Rattle.table.specs.Table.{Entry}
use Rattle.family.specs.Family.{holds, Joined, Copied}
use Rattle.family.specs.Family as family
use Rattle.unions.specs.Expand.{expand}
use Rattle.unions.specs.Pool.{Head, Layout, Kept, HeadsHold, HeadsGrew}
use Rattle.unions.specs.PoolLaws.{apart}
use Rattle.noting.specs.Signs.{NoGains}
use Rattle.noting.specs.Offers.{Adding}
use Rattle.unions.specs.Finding.{Fresh}
use Rattle.noting.specs.Marks.{Dead}
use Rattle.noting.specs.Closing.{Ready, Includes, Still, Between, Stage, Halfway}
use Rattle.noting.specs.HeadNumbers.{same_head}

-- two families have the same sets
abbrev pub Alike : ℕ → ℕ → List ℕ → List ℕ → Type 0
Alike n at words words' = (x : ℕ) → x / 64 < n → holds words' at x ≡ holds words at x

-- one head, whose families are left alone
module _ (el : List ℕ) (n : ℕ) (room : (x : ℕ) → x < 2 ^ length el → x / 64 < n) (es after : List Entry) (q a at : ℕ) (all new all' new' : List ℕ) (same : Alike n at all all') where
  pub between-kept : Between el n es after q a at all new → ((x : ℕ) → holds new' at x ≡ true → holds new at x ≡ true) → Between el n es after q a at all' new'
  between-kept b fewer =
      record {
        from = λ x l h. b.from x l (sym (same x l) ∙ h);
        into = λ x l h. same x (room x l) ∙ b.into x l h;
        news = λ x l h. b.news x l (fewer x h);
      }

  module _ (is_open is-open' : Bool) (eo : is_open ≡ is-open') (mark fresh alive fresh' alive' : ℕ) (more : Includes fresh' fresh) (grown : Includes alive' alive) (added added' : List ℕ) (same'' : Alike n at added added') where
    pub stage-kept : Stage el n es after q a at is_open mark fresh alive all new added → Still es after q a ⊎ Alike n at new new'
        → Stage el n es after q a at is-open' mark fresh' alive' all' new' added'
    stage-kept s alike =
        record {
          given = λ x l h. s.given x l (sym (same'' x l) ∙ h);
          left = λ o x l h. ⊎_elim inl (λ k. inr (same'' x (room x l) ∙ k)) (s.left (eo ∙ o) x l h);
          full = λ o x l h. same x (room x l) ∙ s.full (eo ∙ o) x l h;
          more =
              λ o x l h.
              ⊎_elim (λ still. inl (still (expand el x) h)) (λ alk. ⊎_elim inl (λ k. inr (alk x (room x l) ∙ k)) (s.more (eo ∙ o) x l h)) alike;
          noted = λ o. ⊎_elim inl (λ i. inr (λ k h. more k (i.0 k h), λ k h. grown k (i.1 k h))) (s.noted (eo ∙ o));
        }

-- one head is closed
module _ (el : List ℕ) (n : ℕ) (room : (x : ℕ) → x < 2 ^ length el → x / 64 < n) (es after : List Entry) (q a at : ℕ) (all new added all' new' added' : List ℕ)
    (given : (x : ℕ) → x / 64 < n → holds added at x ≡ true → (x < 2 ^ length el) × Head after q a (expand el x))
    (joined : Joined all at n added at all') (copied : Copied new at n added at new') (emptied : family.Cleared added at n added') where
  pub between-closed : Between el n es after q a at all new → Between el n es after q a at all' new'
  between-closed b =
      record {
        from = λ x l h. ⊎_elim (λ k. b.from x l k) (λ k. given x l k) (either (holds all at x) (holds added at x) (sym (joined.here x l) ∙ h));
        into = λ x l h. joined.here x (room x l) ∙ left_or (holds added at x) (b.into x l h);
        news = λ x l h. given x l (sym (copied.here x l) ∙ h);
      }

  pub stage-closed : Between el n es after q a at all new
      → ((x : ℕ) → x < 2 ^ length el → Head after q a (expand el x) → Head es q a (expand el x) ⊎ (holds added at x ≡ true)) → (is_open : Bool) (mark fresh alive : ℕ)
      → is_open ≡ false → Includes fresh mark → Includes alive mark → Stage el n es after q a at is_open mark fresh alive all' new' added'
  stage-closed b left is_open mark fresh alive eo inf ina =
      record {
        given = λ x l h. clash h (emptied.here at x (omega arith) (omega (arith, l)));
        left = λ o. clash o eo;
        full =
            λ o x l h.
            joined.here x (room x l)
            ∙ ⊎_elim (λ k. left_or (holds added at x) (b.into x l k)) (λ k. right_or (holds all at x) k) (left x l h);
        more = λ o x l h. ⊎_elim inl (λ k. inr (copied.here x (room x l) ∙ k)) (left x l h);
        noted = λ o. inr (inf, ina);
      }

module _ (el : List ℕ) (g : PushdownGame) (n : ℕ) (lay : Layout el g n) (es after : List Entry) (numbers : List ℕ) where
  -- the bits of open heads given by another list
  pub halfway-as : (opens opens' all new added fresh alive : List ℕ) → ((p a : ℕ) → p < g.control → a < g.letters → has (get_or opens p 0) a ≡ has (get_or opens' p 0) a)
      → Halfway el g n es after numbers opens all new added fresh alive → Halfway el g n es after numbers opens' all new added fresh alive
  halfway-as opens opens' all new added fresh alive same h =
      record {
        between = h.between;
        stages =
            λ p a lp la.
            stage-kept el n lay.room es after p a ((p * g.letters + a) * n) all new all new (λ x l. refl) (has (get_or opens p 0) a) (has (get_or opens' p 0) a) (same p a lp la)
            (get_or numbers p 0) (get_or fresh a 0) (get_or alive a 0) (get_or fresh a 0) (get_or alive a 0) (λ k i. i) (λ k i. i) added added (λ x l. refl) (h.stages p a lp la)
            (inr (λ x l. refl));
      }

  -- what is new emptied at heads that have no more
  pub halfway-thinned : (opens all new new' added fresh alive : List ℕ) → ((place x : ℕ) → holds new' place x ≡ true → holds new place x ≡ true)
      → ((p a : ℕ) → p < g.control → a < g.letters → Still es after p a ⊎ Alike n ((p * g.letters + a) * n) new new')
      → Halfway el g n es after numbers opens all new added fresh alive → Halfway el g n es after numbers opens all new' added fresh alive
  halfway-thinned opens all new new' added fresh alive fewer alike h =
      record {
        between =
            λ q a lq la.
            between-kept el n lay.room es after q a ((q * g.letters + a) * n) all new all new' (λ x l. refl) (h.between q a lq la) (λ x i. fewer ((q * g.letters + a) * n) x i);
        stages =
            λ p a lp la.
            stage-kept el n lay.room es after p a ((p * g.letters + a) * n) all new all new' (λ x l. refl) (has (get_or opens p 0) a) (has (get_or opens p 0) a) refl
            (get_or numbers p 0) (get_or fresh a 0) (get_or alive a 0) (get_or fresh a 0) (get_or alive a 0) (λ k i. i) (λ k i. i) added added (λ x l. refl) (h.stages p a lp la)
            (alike p a lp la);
      }

  -- before the first head is closed
  pub halfway-starts : (old : List Entry) (all new added fresh alive gains : List ℕ) → Kept es after → HeadsHold el g n es all → HeadsGrew el g n old es new
      → g.control ≤ g.states → Adding el g n es after added → NoGains g es after gains → Halfway el g n es after numbers gains all new added fresh alive
  halfway-starts old all new added fresh alive gains kept hold grew lc adding quiet =
      record {
        between =
            λ q a lq la.
            record {
              from = λ x l h. let r = (hold q a lq la).from x l h in (r.0, kept q a (expand el x) r.1);
              into = λ x l h. (hold q a lq la).into x l h;
              news = λ x l h. let r = (grew q a lq la).from x l h in (r.0, kept q a (expand el x) r.1);
            };
        stages =
            λ p a lp la.
            record {
              given = λ x l h. (adding p a lp la).from x l h;
              left = λ o x l h. (adding p a lp la).into x l h;
              full = λ o x l h. (hold p a (omega (arith, lp, lc)) la).into x l (quiet p a (expand el x) lp la o h);
              more = λ o x l h. inl (quiet p a (expand el x) lp la o h);
              noted = λ o. inl (λ z h. quiet p a z lp la o h);
            };
      }

  -- one head more is closed, that of state p and the lowest letter a of a rest
  module _ (opens : List ℕ) (p rest a : ℕ) (lp : p < g.control) (lo : p < length opens) (la : a < g.letters) (some : 0 < rest) (low : LowestOf 64 rest a)
      (all new added fresh alive all' new' added' fresh' alive' : List ℕ) (at : ℕ) (ea : at ≡ (p * g.letters + a) * n) (lc : g.control ≤ g.states) where
    gone : Cleared rest a (bit_and rest (rest - 1))
    gone = cleared a rest some low.member low.below

    is-rest : (r : ℕ) → get_or (set opens p r) p 0 ≡ r
    is-rest r = get_or-set_same opens p r 0 lo

    -- the bit of another head
    other-bit : (q c : ℕ) → ((q ≡ p) × (c ≡ a) → ⊥) → has (get_or (set opens p rest) q 0) c ≡ has (get_or (set opens p (bit_and rest (rest - 1))) q 0) c
    other-bit q c ne =
        ⊎_elim
        (λ (t : eqb q p ≡ true).
        let e = eqb-true q p t in
        let d : c ≡ a → ⊥ = λ w. ne (e, w) in
        ap (λ (s : ℕ). has (get_or (set opens p rest) s 0) c) e
        ∙ ap (λ (w : ℕ). has w c) (is-rest rest)
        ∙ sym (gone.kept c d)
        ∙ ap (λ (w : ℕ). has w c) (sym (is-rest (bit_and rest (rest - 1))))
        ∙ ap (λ (s : ℕ). has (get_or (set opens p (bit_and rest (rest - 1))) s 0) c) (sym e))
        (λ (t : eqb q p ≡ false).
        let d = eqb-false q p t in
        ap (λ (w : ℕ). has w c) (get_or-set_other opens p q rest 0 d ∙ sym (get_or-set_other opens p q (bit_and rest (rest - 1)) 0 d)))
        (test (eqb q p))

    -- the place of another head
    other_place : (q c x : ℕ) → c < g.letters → ((q ≡ p) × (c ≡ a) → ⊥) → x / 64 < n
        → ((q * g.letters + c) * n + x / 64 < at) ⊎ (at + n ≤ (q * g.letters + c) * n + x / 64)
    other_place q c x lcc ne l =
        subst (λ (w : ℕ). ((q * g.letters + c) * n + x / 64 < w) ⊎ (w + n ≤ (q * g.letters + c) * n + x / 64)) (sym ea)
        (apart (q * g.letters + c) (p * g.letters + a) n x (λ e. ne (same_head q c p a g.letters lcc la e)) l)

    this-or : (q c : ℕ) → ((q ≡ p) × (c ≡ a)) ⊎ ((q ≡ p) × (c ≡ a) → ⊥)
    this-or q c =
        ⊎_elim
        (λ (t : eqb q p ≡ true).
        ⊎_elim (λ (u : eqb c a ≡ true). inl (eqb-true q p t, eqb-true c a u)) (λ (u : eqb c a ≡ false). inr (λ w. eqb-false c a u w.1)) (test (eqb c a)))
        (λ (t : eqb q p ≡ false). inr (λ w. eqb-false q p t w.0))
        (test (eqb q p))

    pub halfway-on : Joined all at n added at all' → Copied new at n added at new' → family.Cleared added at n added' → ((c : ℕ) → Includes (get_or fresh' c 0) (get_or fresh c 0))
        → ((c : ℕ) → Includes (get_or alive' c 0) (get_or alive c 0)) → Includes (get_or fresh' a 0) (get_or numbers p 0) → Includes (get_or alive' a 0) (get_or numbers p 0)
        → Halfway el g n es after numbers (set opens p rest) all new added fresh alive
        → Halfway el g n es after numbers (set opens p (bit_and rest (rest - 1))) all' new' added' fresh' alive'
    halfway-on joined copied emptied more grown inf ina h =
        let lq : p < g.states = omega (arith, lp, lc) in
        let was = h.stages p a lp la in
        let b = h.between p a lq la in
        let on : has (get_or (set opens p rest) p 0) a ≡ true = ap (λ (w : ℕ). has w a) (is-rest rest) ∙ low.member in
        let off : has (get_or (set opens p (bit_and rest (rest - 1))) p 0) a ≡ false = ap (λ (w : ℕ). has w a) (is-rest (bit_and rest (rest - 1))) ∙ gone.gone in
        let j : Joined all ((p * g.letters + a) * n) n added ((p * g.letters + a) * n) all' = subst (λ (w : ℕ). Joined all w n added w all') ea joined in
        let k : Copied new ((p * g.letters + a) * n) n added ((p * g.letters + a) * n) new' = subst (λ (w : ℕ). Copied new w n added w new') ea copied in
        let z : family.Cleared added ((p * g.letters + a) * n) n added' = subst (λ (w : ℕ). family.Cleared added w n added') ea emptied in
        record {
          between =
              λ q c lqs lcs.
              ⊎_elim
              (λ e.
              subst (λ (s : ℕ). Between el n es after s c ((s * g.letters + c) * n) all' new') (sym e.0)
              (subst (λ (s : ℕ). Between el n es after p s ((p * g.letters + s) * n) all' new') (sym e.1)
              (between-closed el n lay.room es after p a ((p * g.letters + a) * n) all new added all' new' added' was.given j k z b)))
              (λ ne.
              let same : Between el n es after q c ((q * g.letters + c) * n) all new = h.between q c lqs lcs in
              record {
                from = λ x l i. same.from x l (sym (joined.elsewhere ((q * g.letters + c) * n) x (other_place q c x lcs ne l)) ∙ i);
                into = λ x l i. joined.elsewhere ((q * g.letters + c) * n) x (other_place q c x lcs ne (lay.room x l)) ∙ same.into x l i;
                news = λ x l i. same.news x l (sym (copied.elsewhere ((q * g.letters + c) * n) x (other_place q c x lcs ne l)) ∙ i);
              })
              (this-or q c);
          stages =
              λ q c lqc lcs.
              ⊎_elim
              (λ e.
              subst
              (λ (s : ℕ). Stage el n es after s c ((s * g.letters + c) * n) (has (get_or (set opens p (bit_and rest (rest - 1))) s 0) c) (get_or numbers s 0) (get_or fresh' c 0) (get_or alive' c 0) all' new' added')
              (sym e.0)
              (subst
              (λ (s : ℕ). Stage el n es after p s ((p * g.letters + s) * n) (has (get_or (set opens p (bit_and rest (rest - 1))) p 0) s) (get_or numbers p 0) (get_or fresh' s 0) (get_or alive' s 0) all' new' added')
              (sym e.1)
              (stage-closed el n lay.room es after p a ((p * g.letters + a) * n) all new added all' new' added' was.given j k z b (was.left on)
              (has (get_or (set opens p (bit_and rest (rest - 1))) p 0) a) (get_or numbers p 0) (get_or fresh' a 0) (get_or alive' a 0) off inf ina)))
              (λ ne.
              stage-kept el n lay.room es after q c ((q * g.letters + c) * n) all new all' new'
              (λ x l. joined.elsewhere ((q * g.letters + c) * n) x (other_place q c x lcs ne l)) (has (get_or (set opens p rest) q 0) c)
              (has (get_or (set opens p (bit_and rest (rest - 1))) q 0) c) (other-bit q c ne) (get_or numbers q 0) (get_or fresh c 0) (get_or alive c 0) (get_or fresh' c 0) (get_or alive' c 0)
              (more c) (grown c) added added' (λ x l. emptied.elsewhere ((q * g.letters + c) * n) x (other_place q c x lcs ne l)) (h.stages q c lqc lcs)
              (inr (λ x l. copied.elsewhere ((q * g.letters + c) * n) x (other_place q c x lcs ne l))))
              (this-or q c);
        }

  -- no head is open, and those of further states have no more
  module _ (lc : g.control ≤ g.states) (further : (q a z : ℕ) → g.control ≤ q → Head after q a z → Head es q a z) (opens all new added fresh alive : List ℕ)
      (shut : (p : ℕ) → p < g.control → get_or opens p 0 ≡ 0) (h : Halfway el g n es after numbers opens all new added fresh alive) where
    off : (p a : ℕ) → p < g.control → has (get_or opens p 0) a ≡ false
    off p a lp = ap (λ (w : ℕ). has w a) (shut p lp) ∙ none_has a

    pub ready : Ready el g n es after all new added
    ready =
        record {
          hold =
              λ q a lq la.
              record {
                from = λ x l i. (h.between q a lq la).from x l i;
                into =
                    λ x l i.
                    ⊎_elim (λ (t : ltb q g.control ≡ true). let lp = ltb-true q g.control t in (h.stages q a lp la).full (off q a lp) x l i)
                    (λ (t : ltb q g.control ≡ false). (h.between q a lq la).into x l (further q a (expand el x) (ltb-false q g.control t) i))
                    (test (ltb q g.control));
              };
          grew =
              λ q a lq la.
              record {
                from = λ x l i. (h.between q a lq la).news x l i;
                into =
                    λ x l i.
                    ⊎_elim (λ (t : ltb q g.control ≡ true). let lp = ltb-true q g.control t in (h.stages q a lp la).more (off q a lp) x l i)
                    (λ (t : ltb q g.control ≡ false). inl (further q a (expand el x) (ltb-false q g.control t) i))
                    (test (ltb q g.control));
              };
          idle = λ p a lp la. record { from = λ x l i. (h.stages p a lp la).given x l i; into = λ x l i. inl i };
        }

    module _ (numbered : (k : ℕ) → k < length el → get_or numbers (get_or el k 0) 0 ≡ 2 ^ k) where
      own : (k set : ℕ) → k < length el → Includes set (get_or numbers (get_or el k 0) 0) → has set k ≡ true
      own k set lk inc = inc k (ap (λ (w : ℕ). has w k) (numbered k lk) ∙ single-has k)

      pub touched : Fresh el g es after fresh
      touched c k z lcs lk none i =
          ⊎_elim
          (λ (t : ltb (get_or el k 0) g.control ≡ true).
          let lp = ltb-true (get_or el k 0) g.control t in
          ⊎_elim (λ still. still z i) (λ inc. clash (own k (get_or fresh c 0) lk inc.0) none) ((h.stages (get_or el k 0) c lp lcs).noted (off (get_or el k 0) c lp)))
          (λ (t : ltb (get_or el k 0) g.control ≡ false). further (get_or el k 0) c z (ltb-false (get_or el k 0) g.control t) i)
          (test (ltb (get_or el k 0) g.control))

      pub dead : (alive₀ : List ℕ) → ((c : ℕ) → Includes (get_or alive c 0) (get_or alive₀ c 0)) → Dead el g es alive₀ → Dead el g after alive
      dead alive₀ grown was c k z lcs lk none i =
          let never : Head es (get_or el k 0) c z → ⊥ = was c k z lcs lk
          (⊎_elim (λ (o : has (get_or alive₀ c 0) k ≡ true). clash (grown c k o) none) (λ (o : has (get_or alive₀ c 0) k ≡ false). o) (test (has (get_or alive₀ c 0) k))) in
          ⊎_elim
          (λ (t : ltb (get_or el k 0) g.control ≡ true).
          let lp = ltb-true (get_or el k 0) g.control t in
          ⊎_elim (λ still. never (still z i)) (λ inc. clash (own k (get_or alive c 0) lk inc.1) none) ((h.stages (get_or el k 0) c lp lcs).noted (off (get_or el k 0) c lp)))
          (λ (t : ltb (get_or el k 0) g.control ≡ false). never (further (get_or el k 0) c z (ltb-false (get_or el k 0) g.control t) i))
          (test (ltb (get_or el k 0) g.control))
