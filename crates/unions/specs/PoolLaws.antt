-- Laws of the families that are kept: which family has the unions over a set, a line brought up to a table, and a line more.
use Rattle.std.specs.Prelude.{ℕ, suc, ◌+◌, ◌*◌, ◌/◌, ◌^◌, ◌<◌, ◌≤◌, ◌≡◌, ◌⊎◌, true, false, List, [], ◌∷◌, length, get_or, set, ltb}
use Rattle.std.proofs.Common.{arith, lt_of_lt_of_le, mul-le-mul_right, suc-mul, sym, ap, subst, ◌∙◌, inl, inr, ⊎_elim, pow_mono, pow_pos, get_or-set_same, get_or-set_other, ltb-true, ltb-false}
use Rattle.game.specs.Sets.{has, single, union}
use Rattle.game.specs.SetLaws.{union-below}
use Rattle.game.specs.Game.{PushdownGame}
use Rattle.game.specs.ListLaws.{test, clash, below_suc}
use Rattle.table.specs.Table.{Entry}
use Rattle.family.specs.Family.{holds, UnitesInto, TakenIn, Copied, Elsewhere}
use Rattle.rounds.specs.Rounds.{members, ends}
use Rattle.rounds.specs.EndsLaws.{sets_of-in}
use Rattle.unions.specs.Expand.{expand, Elements, Within, AllWithin}
use Rattle.unions.specs.ExpandLaws.{expand-none, expand-single, expand-union, expand-has, expand-added}
use Rattle.unions.specs.UnionSteps.{Added, single-in, in-single, unions-parts, parts-unions, unions-all, tables_more}
use Rattle.unions.specs.Pool.{Is, Grew, Head, Union, Layout, HeadsHold, HeadsGrew, Kept, key_for, Names, of-head, of-line, Line, LinesHold, LinesGrew, Pool, Fits}
use Rattle.unions.specs.JoinLaws.{is-as, grew-as, is-kept, grew-kept, join_is, delta-is}

-- a set of elements is below 1,024
pub element-set : (el : List ℕ) (states x : ℕ) → Elements el states → x < 2 ^ length el → x < 1024
element-set el states x ok l = lt_of_lt_of_le l (pow_mono {j = 10} ok.few)

-- keys tell set and letter
pub key-tells : (x c y d : ℕ) → x < 1024 → y < 1024 → key_for x c ≡ key_for y d → (x ≡ y) × (c ≡ d)
key-tells x c y d l m e = (omega arith, omega arith)

-- the transitions of a table whose sets are sets of elements, and their unions
pub head-within : (el : List ℕ) (es : List Entry) → AllWithin el es → (q a z : ℕ) → Head es q a z → Within el z
head-within el es all q a z m =
    let r = sets_of-in es q a m in
    let w = all r.0 r.1 in
    (w.0, w.1, r.3 ∙ w.2)

pub union-within : (el : List ℕ) (g : PushdownGame) (es : List Entry) → Elements el g.states → AllWithin el es → (c x z : ℕ) → Union g es c x z → Within el z
unfolding ends
union-within el g es ok all c x z m =
    unions-all (Within el) (0, pow_pos (length el), sym (expand-none el))
    (λ u v a b. (
      union a.0 b.0,
      union-below (length el) a.0 b.0 a.1 b.1,
      ap (λ (w : ℕ). union w v) a.2 ∙ ap (union (expand el a.0)) b.2 ∙ sym (expand-union el g.states ok a.0 b.0),
    ))
    (ends g.states es (c ∷ []))
    (members g.states x)
    (λ s i v k. head-within el es all s c v k)
    z
    m

-- a row of n words ends where the next begins, or before a later one
pub next_row : (a b n : ℕ) → a < b → a * n + n ≤ b * n
next_row a b n l = subst (λ (w : ℕ). w ≤ b * n) (suc-mul a n) (mul-le-mul_right n l)

pub apart : (f k n x : ℕ) → (f ≡ k → ⊥) → x / 64 < n → (f * n + x / 64 < k * n) ⊎ (k * n + n ≤ f * n + x / 64)
apart f k n x other l =
    ⊎_elim (λ (t : ltb f k ≡ true). inl (omega (arith, l, next_row f k n (ltb-true f k t))))
    (λ (t : ltb f k ≡ false). inr (omega (arith, next_row k f n (omega (arith, ltb-false f k t, other)))))
    (test (ltb f k))

-- The lines before k have the unions over a table, and what they have more; those from k on have the unions over the older one.
pub record Passing (el : List ℕ) (g : PushdownGame) (n heads : ℕ) (keys : List ℕ) (old es : List Entry) (all new : List ℕ) (k count : ℕ) : Type 0 where
  pub hold : HeadsHold el g n es all
  pub grew : HeadsGrew el g n old es new
  pub done : LinesHold el g heads n es all keys 0 k
  pub more : LinesGrew el g heads n old es new keys k
  pub left : LinesHold el g heads n old all keys k count

module _ (el : List ℕ) (g : PushdownGame) (n : ℕ) (lay : Layout el g n) where
  abbrev ok : Elements el g.states
  ok = lay.elements

  module _ (heads : ℕ) (keys : List ℕ) where
    -- a family that is named has the unions
    pub names-is : (es : List Entry) (all : List ℕ) (k f z c : ℕ) → HeadsHold el g n es all → LinesHold el g heads n es all keys 0 k → c < g.letters → z < 1024
        → Names el g.letters heads keys k f z c → Is el n all (f * n) (Union g es c (expand el z))
    names-is es all k f z c hs ls lc small (of-head i l e h) =
        let s = get_or el i 0 in
        let same : expand el z ≡ single s = ap (expand el) e ∙ expand-single el g.states ok i l in
        rw (h, same)
        (is-as (hs s c (ok.small i l) lc) (λ w m. in-single g es c s w (ok.small i l) m) (λ w m. single-in g es c s w (ok.small i l) m))
    names-is es all k f z c hs ls lc small (of-line i l e h) = rw e (ls i z c (omega arith) l h small)

    pub names-grew : (old es : List Entry) (new : List ℕ) (k f z c : ℕ) → HeadsGrew el g n old es new → LinesGrew el g heads n old es new keys k → c < g.letters → z < 1024
        → Names el g.letters heads keys k f z c → Grew el n new (f * n) (Union g es c (expand el z)) (Union g old c (expand el z))
    names-grew old es new k f z c hs ls lc small (of-head i l e h) =
        let s = get_or el i 0 in
        let same : expand el z ≡ single s = ap (expand el) e ∙ expand-single el g.states ok i l in
        rw (h, same)
        (grew-as (hs s c (ok.small i l) lc) (λ w m. in-single g es c s w (ok.small i l) m) (λ w m. single-in g es c s w (ok.small i l) m)
        (λ w m. in-single g old c s w (ok.small i l) m))
    names-grew old es new k f z c hs ls lc small (of-line i l e h) = rw e (ls i z c l h small)

    -- where a named family is
    pub names-place : (k f z c : ℕ) → c < g.letters → heads ≡ g.states * g.letters → Names el g.letters heads keys k f z c → f < heads + k
    names-place k f z c lc e (of-head i l s h) = omega (arith, h, e, lc, next_row (get_or el i 0) g.states g.letters (ok.small i l))
    names-place k f z c lc e (of-line i l s h) = omega arith

    -- a head's place is not a line's
    pub head-row : (q a k : ℕ) → q < g.states → a < g.letters → heads ≡ g.states * g.letters → q * g.letters + a ≡ heads + k → ⊥
    head-row q a k lq la e same = omega (arith, same, e, la, next_row q g.states g.letters lq)

    module _ (old es : List Entry) (all new all' new' : List ℕ) (k count : ℕ) (e : heads ≡ g.states * g.letters) (p : Passing el g n heads keys old es all new k count) (same : Elsewhere ((heads + k) * n) n all all') (aside : Elsewhere ((heads + k) * n) n new new') where
      -- what is at other places stays
      passing-on : ((z c : ℕ) → get_or keys k 0 ≡ key_for z c → z < 1024 → Is el n all' ((heads + k) * n) (Union g es c (expand el z))
          × Grew el n new' ((heads + k) * n) (Union g es c (expand el z)) (Union g old c (expand el z))) → Passing el g n heads keys old es all' new' (suc k) count
      passing-on here =
          record {
            hold = λ q a lq la. is-kept lay.room (p.hold q a lq la) (λ x l. same _ x (apart (q * g.letters + a) (heads + k) n x (head-row q a k lq la e) l));
            grew = λ q a lq la. grew-kept lay.room (p.grew q a lq la) (λ x l. aside _ x (apart (q * g.letters + a) (heads + k) n x (head-row q a k lq la e) l));
            done =
                λ i z c l m h small.
                ⊎_elim
                (λ (j : i < k). is-kept lay.room (p.done i z c l j h small) (λ x w. same _ x (apart (heads + i) (heads + k) n x (λ q. omega arith) w)))
                (λ (j : i ≡ k). rw j (here z c (subst (λ (w : ℕ). get_or keys w 0 ≡ key_for z c) j h) small).0)
                (below_suc m);
            more =
                λ i z c m h small.
                ⊎_elim
                (λ (j : i < k). grew-kept lay.room (p.more i z c j h small) (λ x w. aside _ x (apart (heads + i) (heads + k) n x (λ q. omega arith) w)))
                (λ (j : i ≡ k). rw j (here z c (subst (λ (w : ℕ). get_or keys w 0 ≡ key_for z c) j h) small).1)
                (below_suc m);
            left =
                λ i z c l m h small.
                is-kept lay.room (p.left i z c (omega arith) m h small) (λ x w. same _ x (apart (heads + i) (heads + k) n x (λ q. omega arith) w));
          }

      module _ (rests : List ℕ) (line : Line el g heads keys rests k) (lk : k < count) (kept : Kept old es) where
        abbrev head : ℕ
        head = get_or el line.element 0 * g.letters + line.letter

        more-unions : (z c w : ℕ) → Union g old c z w → Union g es c z w
        more-unions z c w m = tables_more g old es c z (λ s l h v i. kept s c v i) w m

        -- a line of which no element has a new transition
        pub line-skipped : ((i z : ℕ) → i < length el → has line.set i ≡ true → Head es (get_or el i 0) line.letter z → Head old (get_or el i 0) line.letter z)
            → ((x : ℕ) → x / 64 < n → holds all' ((heads + k) * n) x ≡ holds all ((heads + k) * n) x)
            → ((x : ℕ) → x / 64 < n → holds new' ((heads + k) * n) x ≡ false)
            → Passing el g n heads keys old es all' new' (suc k) count
        line-skipped still is none =
            passing-on
            (λ z c h small.
            let t = key-tells z c line.set line.letter small (element-set el g.states line.set ok line.small) (sym h ∙ line.keyed) in
            let less : (w : ℕ) → Union g es c (expand el z) w → Union g old c (expand el z) w =
            λ w m.
            tables_more g es old c (expand el z)
            (λ s l on v i.
            let q = expand-has el g.states ok z s on in
            subst (λ (r : ℕ). Head old r c v) q.2
            (subst (λ (r : ℕ). Head old (get_or el q.0 0) r v) (sym t.1)
            (still q.0 v q.1 (ap (λ (r : ℕ). has r q.0) (sym t.0) ∙ q.3)
            (subst (λ (r : ℕ). Head es (get_or el q.0 0) r v) t.1 (subst (λ (r : ℕ). Head es r c v) (sym q.2) i)))))
            w m
            in (
              is-as (is-kept lay.room (p.left k z c (omega arith) lk h small) is) (λ w m. more-unions (expand el z) c w m) less,
              record { from = λ x l f. clash f (none x l); into = λ x l m. inl (less (expand el x) m) },
            ))

        -- a line brought up to the table: a new part with anything
        pub line_taken : (none d₁ d₂ : List ℕ) → ((x : ℕ) → holds none 0 x ≡ false) → AllWithin el es
            → UnitesInto n all (get_or rests k 0 * n) new (head * n) none d₁ → UnitesInto n all (head * n) new (get_or rests k 0 * n) d₁ d₂
            → TakenIn n d₂ ((heads + k) * n) all all' new new' → Passing el g n heads keys old es all' new' (suc k) count
        line_taken none d₁ d₂ empty within u₁ u₂ t =
            passing-on
            (λ z c h small.
            let tells = key-tells z c line.set line.letter small (element-set el g.states line.set ok line.small) (sym h ∙ line.keyed) in
            rw (tells.0, tells.1)
            (let c = line.letter in
            let s = get_or el line.element 0 in
            let ls = ok.small line.element line.listed in
            let added = expand-added el g.states ok line.rest line.element line.set line.listed line.added in
            let rest = expand el line.rest in
            let rs = line.few in
            let d = delta-is el g.states ok n lay.room (Union g es c rest) (Head es s c) (union-within el g es ok within c rest) (head-within el es within s c)
            (Union g old c rest) (Head old s c) (Union g old c (expand el line.set))
            (λ w m. let j = unions-parts g old c rest s (expand el line.set) w added m in (j.0, j.1, more-unions rest c j.0 j.2, kept s c j.1 j.3, j.4))
            (λ w j. parts-unions g old c rest s (expand el line.set) w added j)
            all new none d₁ d₂ all' new' (get_or rests k 0 * n) (head * n) ((heads + k) * n)
            (names-is es all k (get_or rests k 0) line.rest c p.hold p.done line.below rs line.named)
            (names-grew old es new k (get_or rests k 0) line.rest c p.grew p.more line.below rs line.named)
            (p.hold s c ls line.below)
            (p.grew s c ls line.below)
            empty u₁ u₂
            (p.left k line.set c (omega arith) lk line.keyed (element-set el g.states line.set ok line.small))
            t in (
              is-as d.0 (λ w j. parts-unions g es c rest s (expand el line.set) w added j) (λ w m. unions-parts g es c rest s (expand el line.set) w added m),
              grew-as d.1 (λ w j. parts-unions g es c rest s (expand el line.set) w added j) (λ w m. unions-parts g es c rest s (expand el line.set) w added m) (λ w m. m),
            )))

-- a key written at a place leaves those before it
keys-before : (keys : List ℕ) (k v i : ℕ) → i < k → get_or (set keys k v) i 0 ≡ get_or keys i 0
keys-before keys k v i l = get_or-set_other keys k i v 0 (λ e. omega arith)

names-kept : (el : List ℕ) (letters heads : ℕ) (keys : List ℕ) (v k j f z c : ℕ) → k ≤ j → Names el letters heads keys k f z c → Names el letters heads (set keys j v) k f z c
names-kept el letters heads keys v k j f z c b (of-head i l e h) = of-head i l e h
names-kept el letters heads keys v k j f z c b (of-line i l e h) = of-line i l e (keys-before keys j v i (omega arith) ∙ h)

line_kept : (el : List ℕ) (g : PushdownGame) (heads : ℕ) (keys rests : List ℕ) (v w j k : ℕ) → k < j → Line el g heads keys rests k → Line el g heads (set keys j v) (set rests j w) k
line_kept el g heads keys rests v w j k l line =
    record {
      set = line.set;
      letter = line.letter;
      keyed = keys-before keys j v k l ∙ line.keyed;
      small = line.small;
      below = line.below;
      element = line.element;
      rest = line.rest;
      few = line.few;
      listed = line.listed;
      added = line.added;
      named =
          subst (λ (f : ℕ). Names el g.letters heads (set keys j v) k f line.rest line.letter) (sym (keys-before rests j w k l))
          (names-kept el g.letters heads keys v k j (get_or rests k 0) line.rest line.letter (omega arith) line.named);
    }

-- a line more: the unions over set y, which has one element below those of z
module _ (el : List ℕ) (g : PushdownGame) (n heads : ℕ) (states : List ℕ) (es : List Entry) (all keys rests : List ℕ) (count : ℕ) (pool : Pool el g n heads states es all keys rests count) where
  abbrev lay : Layout el g n
  lay = pool.layout

  -- fewer lines, none in the end
  pub pool-none : Pool el g n heads states es all keys rests 0
  pool-none =
      record {
        layout = lay;
        listed = pool.listed;
        rows = pool.rows;
        within = pool.within;
        hold = pool.hold;
        lines = λ k l. absurd (omega arith);
        done = λ i z c l m h s. absurd (omega arith);
      }

  module _ (f z i y c : ℕ) (lc : c < g.letters) (li : i < length el) (ly : y < 2 ^ length el) (lz : z < 1024) (added : Added (length el) z i y) (named : Names el g.letters heads keys count f z c) (rk : count < length keys) (rr : count < length rests) where
    pub pool-more : (none o all' : List ℕ) → ((x : ℕ) → holds none 0 x ≡ false)
        → UnitesInto n all (f * n) all ((get_or el i 0 * g.letters + c) * n) none o → Copied all ((heads + count) * n) n o 0 all'
        → Pool el g n heads states es all' (set keys count (key_for y c)) (set rests count f) (suc count)
    pool-more none o all' empty u copied =
        record {
          layout = lay;
          listed = pool.listed;
          rows = pool.rows;
          within = pool.within;
          hold =
              λ q a lq la.
              is-kept lay.room (pool.hold q a lq la)
              (λ x l. copied.elsewhere _ x (apart (q * g.letters + a) (heads + count) n x (head-row el g n lay heads keys q a count lq la pool.rows) l));
          lines =
              λ k l.
              ⊎_elim (λ (m : k < count). line_kept el g heads keys rests (key_for y c) f count k m (pool.lines k m))
              (λ (m : k ≡ count). rw m this)
              (below_suc l);
          done =
              λ k w d l m h small.
              ⊎_elim
              (λ (j : k < count).
              is-kept lay.room (pool.done k w d l j (sym (keys-before keys count (key_for y c) k j) ∙ h) small)
              (λ x v. copied.elsewhere _ x (apart (heads + k) (heads + count) n x (λ q. omega arith) v)))
              (λ (j : k ≡ count).
              let t = key-tells w d y c small (element-set el g.states y lay.elements ly) (sym h ∙ ap (λ (v : ℕ). get_or (set keys count (key_for y c)) v 0) j ∙ get_or-set_same keys count (key_for y c) 0 rk) in
              rw (j, t.0, t.1) here)
              (below_suc m);
        }
      where
        this : Line el g heads (set keys count (key_for y c)) (set rests count f) count
        this =
            record {
              set = y;
              letter = c;
              keyed = get_or-set_same keys count (key_for y c) 0 rk;
              small = ly;
              below = lc;
              element = i;
              rest = z;
              few = lz;
              listed = li;
              added = added;
              named =
                  subst (λ (v : ℕ). Names el g.letters heads (set keys count (key_for y c)) count v z c) (sym (get_or-set_same rests count f 0 rr))
                  (names-kept el g.letters heads keys (key_for y c) count count f z c (omega arith) named);
            }

        joined : Is el n o 0 (Union g es c (expand el y))
        joined =
            let s = get_or el i 0 in
            let ok = lay.elements in
            let plus = expand-added el g.states ok z i y li added in
            let rest = expand el z in
            is-as
            (join_is el g.states ok n lay.room (Union g es c rest) (Head es s c) (union-within el g es ok pool.within c rest) (head-within el es pool.within s c)
            all all none o (f * n) ((s * g.letters + c) * n)
            (names-is el g n lay heads keys es all count f z c pool.hold pool.done lc lz named)
            (pool.hold s c (ok.small i li) lc)
            empty u)
            (λ w j. parts-unions g es c rest s (expand el y) w plus j)
            (λ w m. unions-parts g es c rest s (expand el y) w plus m)

        here : Is el n all' ((heads + count) * n) (Union g es c (expand el y))
        here =
            record {
              from = λ x l h. joined.from x l (sym (copied.here x l) ∙ h);
              into = λ x l m. copied.here x (lay.room x l) ∙ joined.into x l m;
            }

-- areas of the same lengths
pub fits_on : {letters heads n : ℕ} {states all keys rests hints all' keys' rests' hints' : List ℕ} → Fits letters heads n states all keys rests hints → length all' ≡ length all
    → length keys' ≡ length keys → length rests' ≡ length rests → length hints' ≡ length hints → Fits letters heads n states all' keys' rests' hints'
fits_on {n = n} f a k r h =
    record {
      long = f.long;
      rows = f.rows;
      few = f.few;
      words = f.words;
      area = rw (a, k) f.area;
      some = omega (arith, k, f.some);
      most = omega (arith, k, f.most);
      same = r ∙ f.same ∙ sym k;
      hinted = omega (arith, h, f.hinted);
      hints = omega (arith, h, f.hints);
    }
