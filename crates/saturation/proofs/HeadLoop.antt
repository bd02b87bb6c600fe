-- The loops over Abelard's heads, state by state and, for a state, over the letters that are marked: those passed are taken, and every area
-- is as long as it was.
use Prim.Native.Nat.{ℕ, suc, ◌+◌, ◌*◌, ◌-◌, ◌<◌, ◌≤◌}
use native.Mathlib.Omega.{arith}
use mathlib.Core.Path.{◌≡◌, refl, sym, ap, subst, ◌∙◌}
use mathlib.Core.Logic.{inl, inr, ⊎_elim}
use mathlib.Core.Bool.{Bool, true, false, not}
use mathlib.Core.List.{List, map}
use lib.ListN.{length, get_or}
use lib.Bits.{bit_and}
use lib.Dec.{eqb, ltb}
use borrow.Author.Tests.{eqb-true, eqb-false, ltb-true, ltb-false}
use Rattle.game.specs.Sets.{has}
use Rattle.game.specs.SetLaws.{none_has}
use Rattle.game.specs.LowestLaws.{LowestOf, Cleared, cleared}
use Rattle.game.specs.ListLaws.{◌∈◌, test, clash, not-false}
use Rattle.game.specs.Game.{PushdownGame, rules_of}
use Rattle.game.specs.Win.{is_abelard}
use Rattle.table.specs.Table.{Entry}
use Rattle.rounds.specs.Rounds.{unions, rule_ends}
use Rattle.unions.specs.Pool.{Head}
use Rattle.noting.specs.Taking.{Taking, heads-old}
use Rattle.noting.specs.Offers.{Adding, Spared}
use Rattle.saturation.specs.Steps.{Stepped, Step, AbelardsTo}
use Rattle.saturation.specs.HeadSteps.{AbelardAt, AbelardsIn, Ready}
use Rattle.noting.specs.HeadNumbers.{same_row}
use Rattle.saturation.proofs.AbelardHeads.{still-there}

-- whose state p is, from the test of the code
module _ {el : List ℕ} {g : PushdownGame} {n : ℕ} {old es : List Entry} {i abelard control letters rulecount : ℕ} {rules ends stirred firsts nexts raising all : List ℕ}
    (k : Ready el g n old es i abelard control letters rulecount rules ends stirred firsts nexts raising all) (p : ℕ) where
  pub his : {t : Bool} → t ≡ has abelard p → not t ≡ false → is_abelard g p ≡ true
  his {t} e on = ap (λ (s : ℕ). has s p) (sym k.owned) ∙ sym e ∙ not-false t on

  -- the heads of a state of Éloise's stay as they are
  pub row_other : {t : Bool} → t ≡ has abelard p → not t ≡ true → {b size count m : ℕ} {now : List Entry} {log added gains : List ℕ} → count ≤ size → Taking el g es b log count now
      → Adding el g n es now added → Spared g es now gains → Step el g n es b size now (AbelardsIn g es p m) gains log added count
  row_other e off {now = now} fits taking adding spared =
      inr (
        fits,
        record {
          after = now;
          taking = taking;
          adding = adding;
          kept = λ q c z m. m;
          given = λ q c z lq lc h. clash off (ap not (e ∙ ap (λ (s : ℕ). has s p) k.owned ∙ ap (is_abelard g) (sym h.0) ∙ h.2));
          gained = spared.none;
        },
      )

-- The letters of state p below `place` are taken, and those that are marked from there on are in `rest`.
module _ (abelard p word letters rulecount n : ℕ) (ends firsts nexts raising all added₀ gains₀ log₀ : List ℕ) (count₀ size b : ℕ) where
  pub record Rowing (added gains log : List ℕ) (count rest : ℕ) : Type 0 where
    pub room : count ≤ size
    pub adds : length added ≡ length added₀
    pub gaining : length gains ≡ length gains₀
    pub logs : length log ≡ length log₀
    pub place : ℕ
    pub same : (s : ℕ) → place ≤ s → has rest s ≡ has word s
    pub none : (s : ℕ) → s < place → has rest s ≡ false
    pub steps : (el : List ℕ) (g : PushdownGame) (old es now : List Entry) (i : ℕ) (rules : List ℕ) (control : ℕ) (stirred : List ℕ)
        → Ready el g n old es i abelard control letters rulecount rules ends stirred firsts nexts raising all → p < control → word ≡ get_or stirred p 0 → is_abelard g p ≡ true
        → Taking el g es b log₀ count₀ now → Adding el g n es now added₀ → Spared g es now gains₀ → Stepped el g n es b now (AbelardsIn g es p place) gains log added count

  pub rowing-starts : count₀ ≤ size → Rowing added₀ gains₀ log₀ count₀ word
  rowing-starts fits =
      record {
        room = fits;
        adds = refl;
        gaining = refl;
        logs = refl;
        place = 0;
        same = λ s l. refl;
        none = λ s l. absurd (omega arith);
        steps =
            λ el g old es now i rules control stirred k lp ew on taking adding spared.
            record {
              after = now;
              taking = taking;
              adding = adding;
              kept = λ q c z h. h;
              given = λ q c z lq lc h. absurd (omega (arith, h.1));
              gained = spared.none;
            };
      }

  module _ {added gains log : List ℕ} {count rest : ℕ} (w : Rowing added gains log count rest) where
    -- the letters up to one that none of the bits left comes before: those passed over are not marked
    reached : (m : ℕ) → ((s : ℕ) → s < m → has rest s ≡ false) → (el : List ℕ) (g : PushdownGame) (old es now : List Entry) (i : ℕ) (rules : List ℕ) (control : ℕ) (stirred : List ℕ)
        → Ready el g n old es i abelard control letters rulecount rules ends stirred firsts nexts raising all → p < control → word ≡ get_or stirred p 0 → is_abelard g p ≡ true
        → Taking el g es b log₀ count₀ now → Adding el g n es now added₀ → Spared g es now gains₀ → Stepped el g n es b now (AbelardsIn g es p m) gains log added count
    reached m clear el g old es now i rules control stirred k lp ew on taking adding spared =
        let s = w.steps el g old es now i rules control stirred k lp ew on taking adding spared in
        record {
          after = s.after;
          taking = s.taking;
          adding = s.adding;
          kept = s.kept;
          given =
              λ q c z lq lc h.
              ⊎_elim (λ (t : ltb c w.place ≡ true). s.given q c z lq lc (h.0, ltb-true c w.place t, h.2, h.3))
              (λ (t : ltb c w.place ≡ false).
              let off : has (get_or stirred p 0) c ≡ false = ap (λ (v : ℕ). has v c) (sym ew) ∙ sym (w.same c (ltb-false c w.place t)) ∙ clear c h.1 in
              let there : z ∈ unions (map (rule_ends g es) (rules_of g p c)) = subst (λ (v : ℕ). z ∈ unions (map (rule_ends g es) (rules_of g v c))) h.0 h.3 in
              let was : Head es p c z =
              still-there el g n old es i abelard control letters rulecount rules ends stirred firsts nexts raising all k p c lp (omega (arith, lc, k.lettered)) (p * letters + c) refl on off z there in
              subst (λ (v : ℕ). Head s.after v c z) (sym h.0) (heads-old el g es b log count s.after s.taking p c z was))
              (test (ltb c w.place));
          gained = s.gained;
        }

    -- no bit is left
    pub rowing-ends : rest ≡ 0 → (el : List ℕ) (g : PushdownGame) (old es now : List Entry) (i : ℕ) (rules : List ℕ) (control : ℕ) (stirred : List ℕ)
        → Ready el g n old es i abelard control letters rulecount rules ends stirred firsts nexts raising all → p < control → word ≡ get_or stirred p 0 → is_abelard g p ≡ true
        → Taking el g es b log₀ count₀ now → Adding el g n es now added₀ → Spared g es now gains₀ → Step el g n es b size now (AbelardsIn g es p letters) gains log added count
    rowing-ends empty el g old es now i rules control stirred k lp ew on taking adding spared =
        inr (w.room, reached letters (λ t l. ap (λ (v : ℕ). has v t) empty ∙ none_has t) el g old es now i rules control stirred k lp ew on taking adding spared)

    module _ (s : ℕ) (some : 0 < rest) (lowest : LowestOf 64 rest s) where
      above : w.place ≤ s
      above = ⊎_elim (λ (t : ltb s w.place ≡ true). clash lowest.member (w.none s (ltb-true s w.place t))) (λ (t : ltb s w.place ≡ false). ltb-false s w.place t) (test (ltb s w.place))

      -- no bit is left for a letter
      pub rowing-past : letters ≤ s → (el : List ℕ) (g : PushdownGame) (old es now : List Entry) (i : ℕ) (rules : List ℕ) (control : ℕ) (stirred : List ℕ)
          → Ready el g n old es i abelard control letters rulecount rules ends stirred firsts nexts raising all → p < control → word ≡ get_or stirred p 0 → is_abelard g p ≡ true
          → Taking el g es b log₀ count₀ now → Adding el g n es now added₀ → Spared g es now gains₀ → Step el g n es b size now (AbelardsIn g es p letters) gains log added count
      rowing-past past el g old es now i rules control stirred k lp ew on taking adding spared =
          inr (w.room, reached letters (λ t l. lowest.below t (omega (arith, l, past))) el g old es now i rules control stirred k lp ew on taking adding spared)

      module _ (ls : s < letters) {added' gains' log' : List ℕ} {count' : ℕ}
          (turn : (el : List ℕ) (g : PushdownGame) (old es now : List Entry) (i : ℕ) (rules : List ℕ) (abelard control letters' : ℕ) (stirred : List ℕ)
          → Ready el g n old es i abelard control letters' rulecount rules ends stirred firsts nexts raising all → p < control → s < letters' → p * letters + s ≡ p * letters' + s → is_abelard g p ≡ true
          → Taking el g es b log count now → Adding el g n es now added → Spared g es now gains → Step el g n es b size now (AbelardAt g es p s) gains' log' added' count') where
        turned : (el : List ℕ) (g : PushdownGame) (old es now : List Entry) (i : ℕ) (rules : List ℕ) (control : ℕ) (stirred : List ℕ)
            → Ready el g n old es i abelard control letters rulecount rules ends stirred firsts nexts raising all → p < control → word ≡ get_or stirred p 0 → is_abelard g p ≡ true
            → Taking el g es b log₀ count₀ now → Adding el g n es now added₀ → Spared g es now gains₀ → Step el g n es b size now (AbelardsIn g es p (suc s)) gains' log' added' count'
        turned el g old es now i rules control stirred k lp ew on taking adding spared =
            let to = reached s lowest.below el g old es now i rules control stirred k lp ew on taking adding spared in
            ⊎_elim inl
            (λ h.
            let t = h.1 in
            inr (
              h.0,
              record {
                after = t.after;
                taking = t.taking;
                adding = t.adding;
                kept = λ q c z m. t.kept q c z (to.kept q c z m);
                given =
                    λ q c z lq lc m.
                    ⊎_elim (λ (u : ltb c s ≡ true). t.kept q c z (to.given q c z lq lc (m.0, ltb-true c s u, m.2, m.3)))
                    (λ (u : ltb c s ≡ false). let here : c ≡ s = (let v = ltb-false c s u in omega (arith, m.1, v)) in t.given q c z lq lc (m.0, here, m.2, m.3))
                    (test (ltb c s));
                gained = t.gained;
              },
            ))
            (turn el g old es to.after i rules abelard control letters stirred k lp ls refl on to.taking to.adding (record { none = to.gained }))

        pub rowing-on : count' ≤ size → length added' ≡ length added → length gains' ≡ length gains → length log' ≡ length log → Rowing added' gains' log' count' (bit_and rest (rest - 1))
        rowing-on fits la lg ll =
            record {
              room = fits;
              adds = la ∙ w.adds;
              gaining = lg ∙ w.gaining;
              logs = ll ∙ w.logs;
              place = suc s;
              same = λ t l. gone.kept t (λ e. omega (arith, l, e)) ∙ w.same t (omega (arith, l, above));
              none =
                  λ t l.
                  ⊎_elim (λ (e : eqb t s ≡ true). ap (has (bit_and rest (rest - 1))) (eqb-true t s e) ∙ gone.gone)
                  (λ (e : eqb t s ≡ false). gone.kept t (eqb-false t s e) ∙ lowest.below t (omega (arith, l, eqb-false t s e)))
                  (test (eqb t s));
              steps =
                  λ el g old es now i rules control stirred k lp ew on taking adding spared.
                  ⊎_elim (λ h. absurd (omega (arith, h.0, fits))) (λ h. h.1) (turned el g old es now i rules control stirred k lp ew on taking adding spared);
            }
          where
            gone : Cleared rest s (bit_and rest (rest - 1))
            gone = cleared s rest some lowest.member lowest.below

        -- the round does not fit
        pub rowing-full : size < count' → (el : List ℕ) (g : PushdownGame) (old es now : List Entry) (i : ℕ) (rules : List ℕ) (control : ℕ) (stirred : List ℕ)
            → Ready el g n old es i abelard control letters rulecount rules ends stirred firsts nexts raising all → p < control → word ≡ get_or stirred p 0 → is_abelard g p ≡ true
            → Taking el g es b log₀ count₀ now → Adding el g n es now added₀ → Spared g es now gains₀ → Step el g n es b size now (AbelardsIn g es p letters) gains' log' added' count'
        rowing-full over el g old es now i rules control stirred k lp ew on taking adding spared =
            ⊎_elim inl (λ h. absurd (omega (arith, over, h.0))) (turned el g old es now i rules control stirred k lp ew on taking adding spared)

-- The heads of the states below p are taken.
module _ (abelard control letters rulecount n : ℕ) (ends stirred firsts nexts raising all added₀ gains₀ log₀ : List ℕ) (count₀ size b : ℕ) where
  pub record Going (added gains log : List ℕ) (count p : ℕ) : Type 0 where
    pub below : p ≤ control
    pub room : count ≤ size
    pub adds : length added ≡ length added₀
    pub gaining : length gains ≡ length gains₀
    pub logs : length log ≡ length log₀
    pub steps : (el : List ℕ) (g : PushdownGame) (old es now : List Entry) (i : ℕ) (rules : List ℕ)
        → Ready el g n old es i abelard control letters rulecount rules ends stirred firsts nexts raising all
        → Taking el g es b log₀ count₀ now → Adding el g n es now added₀ → Spared g es now gains₀ → Stepped el g n es b now (AbelardsTo g es (p * letters)) gains log added count

  pub going-starts : count₀ ≤ size → Going added₀ gains₀ log₀ count₀ 0
  going-starts fits =
      record {
        below = omega arith;
        room = fits;
        adds = refl;
        gaining = refl;
        logs = refl;
        steps =
            λ el g old es now i rules k taking adding spared.
            record {
              after = now;
              taking = taking;
              adding = adding;
              kept = λ q c z h. h;
              given = λ q c z lq lc h. absurd (omega (arith, h.1));
              gained = spared.none;
            };
      }

  module _ {added gains log : List ℕ} {count p : ℕ} (w : Going added gains log count p) (lp : p < control) {added' gains' log' : List ℕ} {count' : ℕ}
      (turn : (el : List ℕ) (g : PushdownGame) (old es now : List Entry) (i : ℕ) (rules : List ℕ) (control : ℕ) (stirred' : List ℕ)
      → Ready el g n old es i abelard control letters rulecount rules ends stirred' firsts nexts raising all → p < control → get_or stirred p 0 ≡ get_or stirred' p 0
      → Taking el g es b log count now → Adding el g n es now added → Spared g es now gains → Step el g n es b size now (AbelardsIn g es p letters) gains' log' added' count') where
    this : (el : List ℕ) (g : PushdownGame) (old es now : List Entry) (i : ℕ) (rules : List ℕ) → Ready el g n old es i abelard control letters rulecount rules ends stirred firsts nexts raising all
        → (s : Stepped el g n es b now (AbelardsTo g es (p * letters)) gains log added count) → Step el g n es b size s.after (AbelardsIn g es p letters) gains' log' added' count'
    this el g old es now i rules k s = turn el g old es s.after i rules control stirred k lp refl s.taking s.adding (record { none = s.gained })

    pub going-full : size < count' → (el : List ℕ) (g : PushdownGame) (old es now : List Entry) (i : ℕ) (rules : List ℕ)
        → Ready el g n old es i abelard control letters rulecount rules ends stirred firsts nexts raising all
        → Taking el g es b log₀ count₀ now → Adding el g n es now added₀ → Spared g es now gains₀ → Step el g n es b size now (AbelardsTo g es (control * letters)) gains' log' added' count'
    going-full over el g old es now i rules k taking adding spared =
        ⊎_elim inl (λ h. absurd (omega (arith, over, h.0))) (this el g old es now i rules k (w.steps el g old es now i rules k taking adding spared))

    pub going_on : count' ≤ size → length added' ≡ length added → length gains' ≡ length gains → length log' ≡ length log → Going added' gains' log' count' (p + 1)
    going_on fits la lg ll =
        record {
          below = omega (arith, lp);
          room = fits;
          adds = la ∙ w.adds;
          gaining = lg ∙ w.gaining;
          logs = ll ∙ w.logs;
          steps =
              λ el g old es now i rules k taking adding spared.
              let s = w.steps el g old es now i rules k taking adding spared in
              ⊎_elim (λ h. absurd (omega (arith, fits, h.0)))
              (λ h.
              let t = h.1 in
              record {
                after = t.after;
                taking = t.taking;
                adding = t.adding;
                kept = λ q c z m. t.kept q c z (s.kept q c z m);
                given =
                    λ q c z lq lc m.
                    ⊎_elim (λ (u : ltb (q * g.letters + c) (p * letters) ≡ true). t.kept q c z (s.given q c z lq lc (m.0, ltb-true (q * g.letters + c) (p * letters) u, m.2)))
                    (λ (u : ltb (q * g.letters + c) (p * letters) ≡ false).
                    let from = ltb-false (q * g.letters + c) (p * letters) u in
                    let small : c < letters = omega (arith, lc, k.lettered) in
                    let here : q ≡ p =
                    same_row q c p letters small (subst (λ (l : ℕ). p * letters ≤ q * l + c) (sym k.lettered) from)
                    (row-end (q * letters + c) (subst (λ (l : ℕ). q * l + c < (p + 1) * letters) (sym k.lettered) m.1)) in
                    t.given q c z lq lc (here, small, m.0, m.2))
                    (test (ltb (q * g.letters + c) (p * letters)));
                gained = t.gained;
              })
              (this el g old es now i rules k s);
        }
      where
        row-end : (x : ℕ) → x < (p + 1) * letters → x < p * letters + letters
        row-end x l = omega (arith, l)

  pub going-ends : {added gains log : List ℕ} {count p : ℕ} → control ≤ p → Going added gains log count p → (el : List ℕ) (g : PushdownGame) (old es now : List Entry) (i : ℕ) (rules : List ℕ)
      → Ready el g n old es i abelard control letters rulecount rules ends stirred firsts nexts raising all
      → Taking el g es b log₀ count₀ now → Adding el g n es now added₀ → Spared g es now gains₀ → Step el g n es b size now (AbelardsTo g es (control * letters)) gains log added count
  going-ends {added} {gains} {log} {count} {p} l w el g old es now i rules k taking adding spared =
      let last : p ≡ control = omega (arith, l, w.below) in
      inr (w.room, subst (λ (h : ℕ). Stepped el g n es b now (AbelardsTo g es (h * letters)) gains log added count) last (w.steps el g old es now i rules k taking adding spared))
