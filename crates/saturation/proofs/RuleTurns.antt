-- One rule after another: what its ends have more is put into them where it is Abelard's, and offered to its head where it is Éloise's.
use Prim.Native.Nat.{ℕ, zero, suc, ◌+◌, ◌*◌, ◌/◌, ◌^◌, ◌<◌, ◌≤◌}
use native.Mathlib.Omega.{arith}
use mathlib.Core.Path.{◌≡◌, refl, sym, ap, subst, ◌∙◌}
use mathlib.Core.Logic.{◌⊎◌, inl, inr, ⊎_elim}
use mathlib.Core.Bool.{Bool, true, false}
use mathlib.Core.List.Memᴰ
use mathlib.Core.List.{List}
use lib.ListN.{length, get_or}
use lib.Dec.{ltb}
use borrow.Author.Tests.{ltb-true, ltb-false}
use Rattle.game.specs.Sets.{has}
use Rattle.game.specs.Game.{Rule, PushdownGame, filter, word_of}
use Rattle.game.specs.GoodGame.{Good, GoodRule}
use Rattle.game.specs.Stored.{rule_at}
use Rattle.game.specs.Win.{is_abelard}
use Rattle.game.specs.ListLaws.{◌∈◌, test, clash, either, left_or, right_or, below_suc}
use Rattle.table.specs.Table.{Entry, first_word}
use Rattle.family.specs.Family.{holds, Joined}
use Rattle.table.specs.Pairwise.{Ascending}
use Rattle.rounds.specs.RoundLaws.{AllRanged}
use Rattle.rounds.specs.Rounds.{ends, sets_of, rule_ends}
use Rattle.rounds.specs.Candidates.{Gives, eloises, abelards}
use Rattle.rounds.proofs.Candidates.{rule-in}
use Rattle.rounds.specs.ScanLaws.{rule-at}
use Rattle.unions.specs.Expand.{expand, Within}
use Rattle.unions.specs.Pool.{Is, Grew, Head, Pool, Layout, HeadsHold}
use Rattle.unions.specs.PoolLaws.{apart, next_row}
use Rattle.unions.specs.JoinLaws.{is-as, is-kept, grew-as}
use Rattle.unions.specs.Ending.{RuleEnds, RuleBefore}
use Rattle.noting.specs.Taking.{Taking, heads-old}
use Rattle.noting.specs.Offers.{Adding, Offered, Spared, Gave, Taken}
use Rattle.saturation.specs.Steps.{Calm, Stepped, EloisesTo}
use Rattle.saturation.specs.Ground.{Ground, Areas, RulesTo, RulesTaken}
use Rattle.saturation.specs.RuleLaws.{rule_of, rule-number, rule-there, rule-same, rule-of-head, ends-within}
use Rattle.unions.specs.EndingLaws.{ends-kept}

-- a head's family has its place in both areas
module _ {letters heads n rulecount size : ℕ} {rules states numbers all new keys rests hints fresh alive ends added log raising : List ℕ}
    (areas : Areas letters heads n rulecount size rules states numbers all new keys rests hints fresh alive ends added log raising) where
  pub head-in-all : (h m : ℕ) → h < heads → m ≡ length all → h * n + n ≤ m
  head-in-all h m l e = omega (arith, e, areas.fits.area, next_row h (heads + length keys) n (omega (arith, l)))

  pub head-in-added : (h : ℕ) → h < heads → h * n + n ≤ length added
  head-in-added h l = omega (arith, areas.giving, next_row h heads n l)

-- heads by the bytes of a rule
pub row_low : (letters : ℕ) {q w heads : ℕ} → q ≡ w → w * letters + letters ≤ heads → q * letters + letters ≤ heads
row_low letters e l = rw e l

pub head-low : (letters : ℕ) {p w a v heads : ℕ} → p ≡ w → a ≡ v → w * letters + v < heads → p * letters + a < heads
head-low letters e f l = rw (e, f) l

less-or : (a c : ℕ) → (a < c) ⊎ (c ≤ a)
less-or a c = ⊎_elim (λ (t : ltb a c ≡ true). inl (ltb-true a c t)) (λ (t : ltb a c ≡ false). inr (ltb-false a c t)) (test (ltb a c))

-- a transition of the older table: a round was taken from it
some-round : {el : List ℕ} {g : PushdownGame} {n : ℕ} {old es : List Entry} {i abelard letters rulecount : ℕ} {rules numbers new fresh alive raising : List ℕ}
    → Ground el g n old es i abelard letters rulecount rules numbers new fresh alive raising → (q a z : ℕ) → Head old q a z → 0 < i
unfolding sets_of filter
some-round {i = zero} gr q a z m = absurd (Memᴰ.not-nil (subst (λ (t : List Entry). Head t q a z) (gr.growth.first refl) m))
some-round {i = suc k} gr q a z m = omega arith

-- Rules whose runs have no new ends are passed over.
module _ {el : List ℕ} {g : PushdownGame} {n : ℕ} {old es : List Entry} {i abelard letters rulecount : ℕ} {rules numbers new fresh alive raising : List ℕ}
    (gr : Ground el g n old es i abelard letters rulecount rules numbers new fresh alive raising)
    {heads : ℕ} {states : List ℕ} {b : ℕ} {now : List Entry} {all keys rests ends stirred gains log added : List ℕ} {lines count : ℕ} where
  pub pass : (k k' : ℕ) → RulesTo el g n heads states old es i b now k all keys rests ends stirred gains log added lines count → k ≤ k'
      → ((r : Rule) → r ∈ g.rules → k ≤ r.number → r.number < k' → (z : ℕ) → RuleEnds g es r z → RuleBefore g old i r z)
      → RulesTo el g n heads states old es i b now k' all keys rests ends stirred gains log added lines count
  unfolding rule_ends
  pass k k' to up none =
      record {
        pool = to.pool;
        done =
            λ r m on l.
            ⊎_elim (λ (c : r.number < k). to.done r m on c)
            (λ (c : k ≤ r.number).
            is-as (to.left r m on c) (λ z h. ends-kept g old es gr.kept r.to r.count r.above r.below z h.1) (none r m c l))
            (less-or r.number k);
        calm = λ r m l on off. ⊎_elim (λ (c : r.number < k). to.calm r m c on off) (λ (c : k ≤ r.number). none r m c l) (less-or r.number k);
        left = λ r m on l. to.left r m on (omega (arith, up, l));
        stepped =
            record {
              after = s.after;
              taking = s.taking;
              adding = s.adding;
              kept = s.kept;
              gained = s.gained;
              given =
                  λ p a z lp la e.
                  let r = e.1.0 in
                  let x = rule-in g p a e.1.1 in
                  ⊎_elim (λ (c : r.number < k). s.given p a z lp la (e.0, (r, e.1.1, c, e.1.3)))
                  (λ (c : k ≤ r.number).
                  let o = none r x.0 c e.1.2 z e.1.3 in
                  heads-old el g es b log count s.after s.taking p a z
                  (gr.ripe p a z (suc r.number) lp la o.0 (eloises e.0 r e.1.1 o.1 refl)))
                  (less-or r.number k);
            };
      }
    where
      s : Stepped el g n es b now (EloisesTo g es k) gains log added count
      s = to.stepped

  -- no rule has a number beyond the last
  pub back : (k k' : ℕ) → RulesTo el g n heads states old es i b now k all keys rests ends stirred gains log added lines count → k' ≤ k → ((r : Rule) → r ∈ g.rules → r.number < k')
      → RulesTo el g n heads states old es i b now k' all keys rests ends stirred gains log added lines count
  back k k' to down low =
      record {
        pool = to.pool;
        done = λ r m on l. to.done r m on (omega (arith, down, l));
        calm = λ r m l. to.calm r m (omega (arith, down, l));
        left = λ r m on l. absurd (omega (arith, l, low r m));
        stepped =
            record {
              after = to.stepped.after;
              taking = to.stepped.taking;
              adding = to.stepped.adding;
              kept = to.stepped.kept;
              gained = to.stepped.gained;
              given = λ p a z lp la e. to.stepped.given p a z lp la (e.0, (e.1.0, e.1.1, omega (arith, e.1.2, down), e.1.3));
            };
      }

module _ {el : List ℕ} {g : PushdownGame} {n : ℕ} {old es : List Entry} {i abelard letters rulecount : ℕ} {rules numbers new fresh alive raising : List ℕ}
    (gr : Ground el g n old es i abelard letters rulecount rules numbers new fresh alive raising) (r : ℕ) (lr : r < rulecount) where
  -- the rule of number r
  abbrev rule : Rule
  rule = rule_of g r

  pub low : r < length g.rules
  low = subst (λ (k : ℕ). r < k) gr.owned.counted lr

  pub there : rule ∈ g.rules
  there = rule-there g r low

  pub numbered : rule.number ≡ r
  numbered = rule-number g gr.good.ranged r low

  pub sound : GoodRule g.control g.letters rule
  sound = gr.good.ranged.rule rule there

  pub bytes : rule ≡ rule_at rules (r * 6) rule.number
  bytes = sym (rule-at rules gr.owned.slack g.rules gr.owned.stands r low)

  pub from_is : get_or rules (r * 6) 0 ≡ rule.from
  from_is = sym (ap (λ (x : Rule). x.from) bytes)

  pub top-is : get_or rules (r * 6 + 1) 0 ≡ rule.top
  top-is = sym (ap (λ (x : Rule). x.top) bytes)

  pub to-of : get_or rules (r * 6 + 2) 0 ≡ rule.to
  to-of = sym (ap (λ (x : Rule). x.to) bytes)

  pub count_of : get_or rules (r * 6 + 3) 0 ≡ rule.count
  count_of = sym (ap (λ (x : Rule). x.count) bytes)

  pub above_of : get_or rules (r * 6 + 4) 0 ≡ rule.above
  above_of = sym (ap (λ (x : Rule). x.above) bytes)

  one : {x : Rule} → x ∈ g.rules → x.number ≡ r → x ≡ rule
  one {x} m e = (rule-same g gr.good.ranged m).1 ∙ ap (rule_of g) e

  -- owners
  pub his : has abelard rule.from ≡ is_abelard g rule.from
  his = ap (λ (set : ℕ). has set rule.from) gr.owned.owners

  pub owner-is : {t : Bool} → has abelard (get_or rules (r * 6) 0) ≡ t → has abelard rule.from ≡ t
  owner-is h = sym (ap (has abelard) from_is) ∙ h

  -- what one letter gives: the transitions of the head to which the rule leads
  pub direct : {q b : ℕ} → q ≡ get_or rules (r * 6 + 2) 0 → b ≡ get_or rules (r * 6 + 4) 0 → get_or rules (r * 6 + 3) 0 ≡ 1
      → Grew el n new ((q * letters + b) * n) (RuleEnds g es rule) (RuleBefore g old i rule)
  unfolding ends word_of
  direct eq eb one' =
      rw (sym count_of ∙ one', eq ∙ to-of, eb ∙ above_of, gr.owned.lettered)
      (grew-as
      (gr.growth.grew rule.to rule.above (omega (arith, sound.to, gr.good.ranged.control)) sound.above)
      (λ z m. m)
      (λ z m. m)
      (λ z m. (some-round gr rule.to rule.above z m, m)))

  module _ {heads : ℕ} {states : List ℕ} {b : ℕ} {now : List Entry} {all keys rests ends stirred gains log added : List ℕ} {lines count : ℕ}
      (to : RulesTo el g n heads states old es i b now r all keys rests ends stirred gains log added lines count)
      {all' keys' rests' : List ℕ} {lines' : ℕ} (pool' : Pool el g n heads states es all' keys' rests' lines') {d : List ℕ} {at : ℕ}
      (more : Grew el n d at (RuleEnds g es rule) (RuleBefore g old i rule)) where
    room : (x : ℕ) → x < 2 ^ length el → x / 64 < n
    room = to.pool.layout.room

    -- its ends are sets of elements
    within : (z : ℕ) → RuleEnds g es rule z → Within el z
    unfolding rule_ends
    within z m = ends-within el g es to.pool.layout.elements to.pool.within rule (gr.pops rule there) z m

    -- a rule of Abelard's: its ends get what they have more
    module _ {ends' : List ℕ} (stirred' : List ℕ) (on : has abelard rule.from ≡ true) (joined : Joined ends (r * n) n d at ends')
        (known : has (get_or stirred' rule.from 0) rule.top ≡ false → (x : ℕ) → x / 64 < n → holds d at x ≡ true → holds ends (r * n) x ≡ true)
        (marks : (q c : ℕ) → has (get_or stirred' q 0) c ≡ false → has (get_or stirred q 0) c ≡ false) where
      hers-not : is_abelard g rule.from ≡ true
      hers-not = sym his ∙ on

      before : Is el n ends (r * n) (RuleBefore g old i rule)
      before = subst (λ (k : ℕ). Is el n ends (k * n) (RuleBefore g old i rule)) numbered (to.left rule there hers-not (omega (arith, numbered)))

      other : (k x : ℕ) → (k ≡ r → ⊥) → x / 64 < n → holds ends' (k * n) x ≡ holds ends (k * n) x
      other k x ne l = joined.elsewhere (k * n) x (apart k r n x ne l)

      here : Is el n ends' (r * n) (RuleEnds g es rule)
      unfolding rule_ends
      here =
          record {
            from =
                λ x l h.
                ⊎_elim
                (λ k. let o = before.from x l k in (o.0, ends-kept g old es gr.kept rule.to rule.count rule.above rule.below (expand el x) o.1.1))
                (λ k. more.from x l k)
                (either (holds ends (r * n) x) (holds d at x) (sym (joined.here x l) ∙ h));
            into =
                λ x l m.
                joined.here x (room x l)
                ∙ ⊎_elim (λ k. left_or (holds d at x) (before.into x l k)) (λ k. right_or (holds ends (r * n) x) k) (more.into x l m);
          }

      here-calm : Calm g old es i stirred' rule
      here-calm o off z m =
          let w = within z m in
          ⊎_elim (λ k. subst (RuleBefore g old i rule) (sym w.2) k)
          (λ k. subst (RuleBefore g old i rule) (sym w.2) (before.from w.0 (room w.0 w.1) (known off w.0 (room w.0 w.1) k)).1)
          (more.into w.0 w.1 (subst (RuleEnds g es rule) w.2 m))

      abelards-rule : {size : ℕ} → count ≤ size
          → RulesTaken el g n heads states old es i b size now (suc r) all' keys' rests' ends' stirred' gains log added lines' count
      abelards-rule fits =
          inr (
            fits,
            record {
              pool = pool';
              done =
                  λ x m o l.
                  ⊎_elim (λ (k : x.number < r). is-kept room (to.done x m o k) (λ y ly. other x.number y (λ e. omega arith) ly))
                  (λ (e : x.number ≡ r).
                  subst (λ (k : ℕ). Is el n ends' (k * n) (RuleEnds g es x)) (sym e)
                  (subst (λ (y : Rule). Is el n ends' (r * n) (RuleEnds g es y)) (sym (one m e)) here))
                  (below_suc l);
              calm =
                  λ x m l.
                  ⊎_elim (λ (k : x.number < r). λ o off. to.calm x m k o (marks x.from x.top off))
                  (λ (e : x.number ≡ r). subst (Calm g old es i stirred') (sym (one m e)) here-calm)
                  (below_suc l);
              left = λ x m o l. is-kept room (to.left x m o (omega arith)) (λ y ly. other x.number y (λ e. omega arith) ly);
              stepped =
                  record {
                    after = s.after;
                    taking = s.taking;
                    adding = s.adding;
                    kept = s.kept;
                    gained = s.gained;
                    given =
                        λ p a z lp la e.
                        ⊎_elim (λ (l : e.1.0.number < r). s.given p a z lp la (e.0, (e.1.0, e.1.1, l, e.1.3)))
                        (λ (q : e.1.0.number ≡ r).
                        let x = rule-in g p a e.1.1 in
                        let f : rule.from ≡ p = sym (ap (λ (y : Rule). y.from) (one x.0 q)) ∙ x.1 in
                        clash (sym (ap (is_abelard g) f) ∙ hers-not) e.0)
                        (below_suc e.1.2);
                  };
            },
          )
        where
          s : Stepped el g n es b now (EloisesTo g es r) gains log added count
          s = to.stepped

    pub abelards-keeps : {ends' stirred' : List ℕ} {p a size : ℕ} → p ≡ get_or rules (r * 6) 0 → a ≡ get_or rules (r * 6 + 1) 0 → has abelard (get_or rules (r * 6) 0) ≡ true
        → Joined ends (r * n) n d at ends' → (has (get_or stirred' p 0) a ≡ false → (x : ℕ) → x / 64 < n → holds d at x ≡ true → holds ends (r * n) x ≡ true)
        → ((q c : ℕ) → has (get_or stirred' q 0) c ≡ false → has (get_or stirred q 0) c ≡ false) → count ≤ size
        → RulesTaken el g n heads states old es i b size now (suc r) all' keys' rests' ends' stirred' gains log added lines' count
    abelards-keeps {stirred' = stirred'} ep ea on joined known marks fits =
        abelards-rule stirred' (owner-is on) joined (λ h. known (rw (ep ∙ from_is, ea ∙ top-is) h)) marks fits

    -- Éloise's
    module _ (off : has abelard rule.from ≡ false) where
      hers : is_abelard g rule.from ≡ false
      hers = sym his ∙ off

      -- what the rule gives was given a round before, or is new
      before-or : (z : ℕ) → RuleEnds g es rule z → Head es rule.from rule.top z ⊎ ((x : ℕ) × (x / 64 < n) × (holds d at x ≡ true) × (z ≡ expand el x))
      unfolding rule_ends
      before-or z m =
          let w = within z m in
          ⊎_elim
          (λ (o : RuleBefore g old i rule (expand el w.0)).
          inl (subst (Head es rule.from rule.top) (sym w.2)
          (gr.ripe rule.from rule.top (expand el w.0) (suc rule.number) sound.from sound.top o.0 (eloises hers rule (rule-of-head g there) o.1 refl))))
          (λ h. inr (w.0, room w.0 w.1, h, w.2))
          (more.into w.0 w.1 (subst (RuleEnds g es rule) w.2 m))

      lower : (p a z field : ℕ) → p ≡ rule.from → a ≡ rule.top → Gives g es p a z field → field < suc r → Head to.stepped.after p a z
      lower p a z field ep ea (eloises t x m k e) l =
          let lp = subst (λ (q : ℕ). q < g.control) (sym ep) sound.from in
          let la = subst (λ (q : ℕ). q < g.letters) (sym ea) sound.top in
          to.stepped.given p a z lp la (t, (x, m, omega (arith, e, l), k))
      lower p a z field ep ea (abelards t k e) l = clash t (ap (is_abelard g) ep ∙ hers)

      eloises-offer : Offered el g n es to.stepped.after rule.from rule.top (r + 1) d at
      unfolding rule_ends
      eloises-offer =
          record {
            small = λ x l h. (more.from x l h).0;
            gives = λ x l h. eloises hers rule (rule-of-head g there) (more.from x l h).1 (omega (arith, numbered));
            lowest =
                λ x l h none fresh field gives.
                ⊎_elim (λ (k : field < suc r). absurd (fresh (lower rule.from rule.top (expand el x) field refl refl gives k))) (λ k. omega (arith, k)) (less-or field (suc r));
          }

      eloises-rule : {size count' : ℕ} {gains' log' added' : List ℕ} → Gave el g n es b size rule.from rule.top to.stepped.after d at gains' log' added' count'
          → RulesTaken el g n heads states old es i b size now (suc r) all' keys' rests' ends stirred gains' log' added' lines' count'
      unfolding rule_ends
      eloises-rule {count' = count'} {log' = log'} {added' = added'} given =
          ⊎_elim inl
          (λ k.
          let t = k.1.0 in
          inr (
            k.0,
            record {
              pool = pool';
              done = λ x m o l. to.done x m o (low-number x m o l);
              calm =
                  λ x m l.
                  ⊎_elim (λ (c : x.number < r). to.calm x m c)
                  (λ (e : x.number ≡ r). λ o. clash o (ap (λ (y : Rule). is_abelard g y.from) (one m e) ∙ hers))
                  (below_suc l);
              left = λ x m o l. to.left x m o (omega arith);
              stepped =
                  record {
                    after = t.after;
                    taking = t.taking;
                    adding = t.adding;
                    kept = λ q c z h. t.kept q c z (to.stepped.kept q c z h);
                    gained = k.1.1.none;
                    given =
                        λ p a z lp la e.
                        ⊎_elim (λ (l : e.1.0.number < r). t.kept p a z (to.stepped.given p a z lp la (e.0, (e.1.0, e.1.1, l, e.1.3))))
                        (λ (q : e.1.0.number ≡ r).
                        let x = rule-in g p a e.1.1 in
                        let same = one x.0 q in
                        let f : rule.from ≡ p = sym (ap (λ (y : Rule). y.from) same) ∙ x.1 in
                        let h : rule.top ≡ a = sym (ap (λ (y : Rule). y.top) same) ∙ x.2 in
                        subst (λ (s : ℕ). Head t.after s a z) f
                        (subst (λ (c : ℕ). Head t.after rule.from c z) h (new-there t z (subst (λ (y : Rule). z ∈ rule_ends g es y) same e.1.3))))
                        (below_suc e.1.2);
                  };
            },
          ))
          given
        where
          low-number : (x : Rule) → x ∈ g.rules → is_abelard g x.from ≡ true → x.number < suc r → x.number < r
          low-number x m o l =
              ⊎_elim (λ (c : x.number < r). c) (λ (e : x.number ≡ r). clash o (ap (λ (y : Rule). is_abelard g y.from) (one m e) ∙ hers)) (below_suc l)

          new-there : (t : Taken el g n es b rule.from rule.top to.stepped.after d at n log' added' count') → (z : ℕ) → z ∈ rule_ends g es rule
              → Head t.after rule.from rule.top z
          new-there t z m =
              ⊎_elim (λ h. heads-old el g es b log' count' t.after t.taking rule.from rule.top z h)
              (λ k. subst (Head t.after rule.from rule.top) (sym k.3) (t.into k.0 k.1 k.1 k.2))
              (before-or z m)

    pub eloises-gives : {p a head first size count' : ℕ} {gains' log' added' : List ℕ} → p ≡ get_or rules (r * 6) 0 → a ≡ get_or rules (r * 6 + 1) 0 → head ≡ p * letters + a
        → first ≡ first_word (get_or rules (r * 6) 0) (get_or rules (r * 6 + 1) 0) b → has abelard (get_or rules (r * 6) 0) ≡ false
        → ((el : List ℕ) (g : PushdownGame) (es now' : List Entry) (b : ℕ) → Layout el g n → Good g → Ascending es → AllRanged g es → Taking el g es b log count now'
        → first ≡ first_word p a b → p < g.control → a < g.letters → head ≡ p * g.letters + a → HeadsHold el g n es all' → Adding el g n es now' added
        → Offered el g n es now' p a (r + 1) d at → Spared g es now' gains → Gave el g n es b size p a now' d at gains' log' added' count')
        → RulesTaken el g n heads states old es i b size now (suc r) all' keys' rests' ends stirred gains' log' added' lines' count'
    eloises-gives {p} {a} {size = size} {count' = count'} {gains' = gains'} {log' = log'} {added' = added'} ep ea eh ef off gives =
        let fp : p ≡ rule.from = ep ∙ from_is in
        let fa : a ≡ rule.top = ea ∙ top-is in
        let s = to.stepped in
        let gave = gives el g es s.after b pool'.layout gr.good gr.ascending gr.growth.ranged s.taking (rw (ep, ea) ef)
        (subst (λ (k : ℕ). k < g.control) (sym fp) sound.from) (subst (λ (k : ℕ). k < g.letters) (sym fa) sound.top) (eh ∙ ap (λ (k : ℕ). p * k + a) gr.owned.lettered)
        pool'.hold s.adding (rw (fp, fa) (eloises-offer (owner-is off))) (record { none = s.gained }) in
        eloises-rule (owner-is off)
        (subst (λ (k : ℕ). Gave el g n es b size k rule.top s.after d at gains' log' added' count') fp
        (subst (λ (k : ℕ). Gave el g n es b size p k s.after d at gains' log' added' count') fa gave))
