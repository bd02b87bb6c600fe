-- The rounds of a game whose sets have few states begin: the areas are long enough, and after round 0 they rest.
use Prim.Native.Nat.{ℕ, zero, suc, ◌+◌, ◌*◌, ◌-◌, ◌/◌, ◌%◌, ◌^◌, ◌<◌, ◌≤◌}
use native.Mathlib.Omega.{arith}
use native.Mathlib.Nat.{mul-le-mul_right, mul-le-mul_left, mul-le-mul, add-mul, lt_of_lt_of_le}
use lib.Pow.{pow-add, pow_mono}
use Rattle.game.specs.Sets.{has}
use Rattle.game.specs.SetLaws.{none_has}
use mathlib.Core.Path.{◌≡◌, refl, sym, ap, subst, ◌∙◌}
use mathlib.Core.Logic.{inl, ⊎_elim}
use mathlib.Core.List.Memᴰ
use mathlib.Core.List.{List, []}
use lib.ListN.{length, get_or, replicate, length-append}
use Rattle.game.specs.Game.{Rule, PushdownGame}
use Rattle.game.specs.GoodGame.{GoodRule}
use Rattle.game.specs.Stored.{rule_at, rule_bytes, target_words}
use Rattle.game.specs.StoredLaws.{no_rule, length-rule_bytes, length-target_words}
use Rattle.game.specs.ListLaws.{clash, below_suc}
use Rattle.game.specs.declared.game.Sizes.{Sizes}
use Rattle.family.specs.Family.{holds}
use Rattle.family.specs.Masks.{Raising}
use Rattle.rounds.specs.Rounds.{round_zero}
use Rattle.rounds.specs.EndsLaws.{sets_of-in}
use Rattle.rounds.proofs.InsertLaws.{get_d-in}
use Rattle.rounds.specs.RoundLaws.{AllRanged, round_table}
use Rattle.rounds.proofs.RoundLaws.{round-ranged}
use Rattle.rounds.specs.ScanLaws.{rule-at}
use Rattle.table.specs.Pairwise.{Ascending}
use Rattle.unions.specs.Pool.{Head, Layout}
use Rattle.unions.specs.PoolLaws.{next_row}
use Rattle.unions.specs.Finding.{Fresh}
use Rattle.noting.specs.Marks.{Dead}
use Rattle.unions.specs.ElementsOf.{ElementsOf, HeldTargets}
use Rattle.unions.specs.Ending.{RuleFits}
use Rattle.noting.specs.RoundZero.{Started, Bare}
use Rattle.saturation.specs.Kept.{Room}
use Rattle.saturation.specs.Resting.{Resting}
use Rattle.solver.specs.Given.{Given}
use Rattle.solver.specs.Rooms.{Numbers, Rooms, Blank, Blanks, Few, Narrow}

-- what indices need of the sizes of a game that was read
pub record Bounded (sizes : Sizes) (rules targets : List ℕ) : Type 0 where
  pub rules-fit : sizes.rulecount * 6 ≤ length rules
  pub rules-few : sizes.rulecount ≤ 256
  pub letters-few : sizes.letters ≤ 64
  pub controls : sizes.control ≤ 24
  pub states-few : sizes.states ≤ 32
  pub lower : sizes.control ≤ sizes.states
  pub rows : sizes.control * sizes.letters ≤ 1536
  pub targets-few : sizes.targetcount ≤ 256
  pub targets-fit : sizes.targetcount * 3 ≤ length targets

-- the heads' families have room
pub room-in : {heads n rulecount all more keys rests hints ends added : ℕ} → Room heads n rulecount all more keys rests hints ends added → heads * n ≤ all
room-in {heads} {n} {keys = keys} ro = omega (arith, ro.area, mul-le-mul_right n (above heads keys))
  where
    above : (x y : ℕ) → x ≤ x + y
    above x y = omega arith

-- arrays for families of a words in all, of at most w words each, and for k lines
pub rooms-of : (w a k h : ℕ) {heads n words given ends : ℕ} → heads ≤ 2048 → n ≤ w → w ≤ 16 → heads * n ≤ a → words ≡ a + k * w → given ≡ a → ends ≡ 256 * w → 10 ≤ k → k ≤ 2048
    → 0 < h → h ≤ 65536 → a ≤ 10240 → Rooms heads n words k h given ends
rooms-of w a k h {heads} {n} few words most fit la ld le some many hinted hinting small =
    record {
      few = few;
      width = omega (arith, words, most);
      area = omega (arith, la, add-mul heads k n, fit, mul-le-mul_left k words);
      giving = omega (arith, ld, fit);
      ended = omega (arith, le, words);
      some = some;
      most = many;
      hinted = hinted;
      hinting = hinting;
      memory = (omega (arith, la, mul-le-mul many most, small), omega (arith, ld, small), omega (arith, le, most));
    }

-- zeros have no sets
pub blank-zero : (k : ℕ) → Blank (replicate {A = ℕ} k 0)
unfolding holds
blank-zero k place x = ap (λ (w : ℕ). has w (x % 64)) (zeros k (place + x / 64)) ∙ none_has (x % 64)
  where
    zeros : (n i : ℕ) → get_or (replicate {A = ℕ} n 0) i 0 ≡ 0
    zeros zero i = refl
    zeros (suc n) zero = refl
    zeros (suc n) (suc i) = zeros n i

pub blanks-zero : (a d e : ℕ) → Blanks (replicate {A = ℕ} a 0) (replicate {A = ℕ} a 0) (replicate {A = ℕ} d 0) (replicate {A = ℕ} e 0)
blanks-zero a d e = record { alls = blank-zero a; news = blank-zero a; adds = blank-zero d; runs = blank-zero e }

-- one word for at most six elements, twice as many for each one more
pub one_word : (elements : ℕ) → elements ≤ 6 → (x : ℕ) → x < 2 ^ elements → x / 64 < 1
one_word elements l x m = let top : x < 64 = lt_of_lt_of_le m (pow_mono {j = 6} l) in omega (arith, top)

pub more-words : (elements n : ℕ) → 6 < elements → elements ≤ 10 → n ≡ 2 ^ (elements - 6) → (n ≤ 16) × ((x : ℕ) → x < 2 ^ elements → x / 64 < n)
more-words elements n l m e =
    let sum : 6 + (elements - 6) ≡ elements = omega arith in
    let top : 2 ^ (elements - 6) ≤ 16 = pow_mono {j = 4} (omega arith) in (
      omega (arith, top, e),
      λ x s.
          let small : x < 2 ^ (6 + (elements - 6)) = subst (λ (w : ℕ). x < 2 ^ w) (sym sum) s in
          omega (arith, e, small, pow-add 2 6 (elements - 6)),
    )

-- the numbering as the rounds take it
pub numbers_of : {elements n heads letters states : ℕ} {listed numbers : List ℕ} → Narrow elements n listed states → length listed ≡ 16 → length numbers ≡ 32
    → ((q : ℕ) → q < 32 → get_or numbers q 0 < 1024) → heads ≡ states * letters → Numbers elements listed numbers letters heads
numbers_of {letters = letters} {states} {listed} na ll ln small eh =
    record {
      few = na.few;
      long = ll;
      wide = ln;
      small = small;
      rows = λ i l. omega (arith, eh, next_row (get_or listed i 0) states letters (na.below i l));
    }

pub few-of : {g : PushdownGame} {elements n states : ℕ} {listed numbers : List ℕ} → Narrow elements n listed states
    → (elements ≤ 10 → (el : List ℕ) × ElementsOf g el elements listed numbers) → Few g elements n listed numbers
few-of {n = n} na are =
    let e = are na.few in
    record { el = e.0; are = e.1; room = λ x l. na.room x (subst (λ (k : ℕ). x < 2 ^ k) (sym e.1.counted) l) }

pub small-area : (heads n : ℕ) → heads ≤ 2048 → n ≤ 16 → heads * n ≤ 32768
small-area heads n l m = mul-le-mul l m

pub small-heads : (states letters : ℕ) → states ≤ 32 → letters ≤ 64 → states * letters ≤ 2048
small-heads states letters l m = mul-le-mul l m

-- one number more of a list is below a limit
pub below_more : (list : List ℕ) (limit i : ℕ) → ((j : ℕ) → j < i → get_or list j 0 < limit) → get_or list i 0 < limit → (j : ℕ) → j < i + 1 → get_or list j 0 < limit
below_more list limit i all one j l =
    ⊎_elim (λ m. all j m) (λ (e : j ≡ i). subst (λ (k : ℕ). get_or list k 0 < limit) (sym e) one) (below_suc (subst (λ (k : ℕ). j < k) (omega arith) l))

-- nothing is marked in zeros
pub zeros-small : (k c : ℕ) → get_or (replicate {A = ℕ} k 0) c 0 < 1024
zeros-small zero c = omega arith
zeros-small (suc k) zero = omega arith
zeros-small (suc k) (suc c) = zeros-small k c

module _ {g : PushdownGame} {sizes : Sizes} {rules targets : List ℕ} (given : Given g sizes rules targets) where
  pub bounded : Bounded sizes rules targets
  bounded =
      let r = given.good.ranged in
      let a = ap length given.held.stands ∙ length-append (rule_bytes g.rules) given.held.slack in
      let b = ap length given.targeted ∙ length-append (target_words g.targets) given.slack in
      rw given.held.sized
      (record {
        rules-fit = omega (arith, a, length-rule_bytes g.rules);
        rules-few = r.rules;
        letters-few = r.letters;
        controls = r.controls;
        states-few = r.states;
        lower = omega (arith, r.control);
        rows = mul-le-mul r.controls r.letters;
        targets-few = r.targets;
        targets-fit = omega (arith, b, length-target_words g.targets);
      })

  counted : sizes.rulecount ≡ length g.rules
  counted = ap (λ (s : Sizes). s.rulecount) given.held.sized

  pub lettered : sizes.letters ≡ g.letters
  lettered = ap (λ (s : Sizes). s.letters) given.held.sized

  pub stated : sizes.states ≡ g.states
  stated = ap (λ (s : Sizes). s.states) given.held.sized

  pub controlled : sizes.control ≡ g.control
  controlled = ap (λ (s : Sizes). s.control) given.held.sized

  pub targeted : sizes.targetcount ≡ length g.targets
  targeted = ap (λ (s : Sizes). s.targetcount) given.held.sized

  pub held-targets : HeldTargets g sizes rules targets
  held-targets = record { held = given.held; slack = given.slack; targeted = given.targeted }

  -- the bytes of a rule lead nowhere else
  module _ (r : ℕ) (l : r < sizes.rulecount) where
    abbrev rule : Rule
    rule = get_or g.rules r no_rule

    low : r < length g.rules
    low = subst (λ (k : ℕ). r < k) counted l

    sound : GoodRule g.control g.letters rule
    sound = given.good.ranged.rule rule (get_d-in no_rule g.rules r low)

    bytes : rule ≡ rule_at rules (r * 6) rule.number
    bytes = sym (rule-at rules given.held.slack g.rules given.held.stands r low)

    pub rule_fits : (heads : ℕ) → heads ≡ sizes.states * sizes.letters → RuleFits rules sizes.letters heads r
    rule_fits heads eh =
        let to : get_or rules (r * 6 + 2) 0 < sizes.states = omega (arith, ap (λ (x : Rule). x.to) bytes, sound.to, given.good.ranged.control, stated) in
        record {
          there = omega (arith, l, bounded.rules-fit);
          row = omega (arith, eh, next_row (get_or rules (r * 6 + 2) 0) sizes.states sizes.letters to);
          above = omega (arith, ap (λ (x : Rule). x.above) bytes, sound.above, lettered);
          below = omega (arith, ap (λ (x : Rule). x.below) bytes, sound.below, lettered);
          state = omega (arith, to, bounded.states-few);
        }

    pub head-fits : (heads : ℕ) → heads ≡ sizes.states * sizes.letters → get_or rules (r * 6) 0 * sizes.letters + get_or rules (r * 6 + 1) 0 < heads
    head-fits heads eh =
        let from : get_or rules (r * 6) 0 < sizes.states = omega (arith, ap (λ (x : Rule). x.from) bytes, sound.from, given.good.ranged.control, stated) in
        omega (arith, eh, next_row (get_or rules (r * 6) 0) sizes.states sizes.letters from, ap (λ (x : Rule). x.top) bytes, sound.top, lettered)

    pub head_bytes : (get_or rules (r * 6) 0 < 32) × (get_or rules (r * 6 + 1) 0 < 64)
    head_bytes = (
      omega (arith, ap (λ (x : Rule). x.from) bytes, sound.from, given.good.ranged.control, stated, bounded.states-few),
      omega (arith, ap (λ (x : Rule). x.top) bytes, sound.top, lettered, bounded.letters-few),
    )

  pub room-of : {heads n words lines hints given ends : ℕ} → Rooms heads n words lines hints given ends → Room heads n sizes.rulecount words words lines lines hints ends given
  room-of {n = n} ro =
      record {
        area = ro.area;
        alike = refl;
        some = ro.some;
        most = ro.most;
        same = refl;
        hinted = ro.hinted;
        few = ro.hinting;
        ended = omega (arith, ro.ended, mul-le-mul_right n bounded.rules-few);
        giving = ro.giving;
      }

  no-head : (q a z : ℕ) → Head [] q a z → ⊥
  no-head q a z m = Memᴰ.not-nil (sets_of-in [] q a m).1

  zero-ranged : Ascending (round_zero g) × AllRanged g (round_zero g)
  unfolding round_table
  zero-ranged = round-ranged g given.good 0

  pub layout_of : {elements n : ℕ} {states numbers : List ℕ} (few : Few g elements n states numbers) → n ≤ 16 → Layout few.el g n
  layout_of few l = record { elements = few.are.elements; room = few.room; few = l }

  pub bare : (n : ℕ) (words : List ℕ) → Blank words → Bare g n words
  bare n words b q a x lq la l = b ((q * g.letters + a) * n) x

  pub heads-are : {heads : ℕ} → heads ≡ sizes.states * sizes.letters → heads ≡ g.states * g.letters
  heads-are e = e ∙ rw (stated, lettered)

  pub more_rows : {heads : ℕ} → heads ≡ sizes.states * sizes.letters → sizes.control * sizes.letters ≤ heads
  more_rows e = omega (arith, e, mul-le-mul_right sizes.letters bounded.lower)

  -- after round 0
  pub rest-zero : {elements heads n count : ℕ} {states numbers raising all new keys rests ends added log news : List ℕ} (fresh alive held : List ℕ) → heads ≡ sizes.states * sizes.letters → n ≤ 16
      → (few : Few g elements n states numbers) → Raising raising → Started few.el g n log all new news count → Blank ends → Blank added
      → Fresh few.el g [] (round_zero g) fresh → Dead few.el g (round_zero g) alive
      → Resting few.el g n heads [] (round_zero g) 0 sizes.abelard sizes.letters sizes.rulecount rules states numbers raising all new keys rests fresh alive ends added log news held 0 count
  rest-zero {n = n} fresh alive held eh ln few raises st be ba touched dead =
      record {
        ground =
            record {
              owned =
                  record {
                    lettered = lettered;
                    owners = ap (λ (s : Sizes). s.abelard) given.held.sized;
                    counted = counted;
                    slack = given.held.slack;
                    stands = given.held.stands;
                  };
              good = given.good;
              raises = raises;
              growth =
                  record {
                    grew = st.grew;
                    touched = touched;
                    dead = dead;
                    numbered = few.are.numbered;
                    ranged = zero-ranged.1;
                    first = λ e. refl;
                  };
              kept = λ q a z m. absurd (no-head q a z m);
              pops = few.are.pops;
              ripe = λ p a z field lp la some gives. absurd (omega (arith, some));
              ascending = zero-ranged.0;
            };
        layout = layout_of few ln;
        listed = few.are.listed;
        rows = heads-are eh;
        within = st.within;
        passing =
            record {
              hold = st.hold;
              grew = st.grew;
              done = λ k z c low l e f. absurd (omega (arith, l));
              more = λ k z c l e f. absurd (omega (arith, l));
              left = λ k z c low l e f. absurd (omega (arith, l));
            };
        lined = λ k l. absurd (omega (arith, l));
        ended = λ r m on. record { from = λ x l h. clash h (be (r.number * n) x); into = λ x l p. absurd (omega (arith, p.0)) };
        idle = λ p a lp la. record { from = λ x l h. clash h (ba ((p * g.letters + a) * n) x); into = λ x l h. inl h };
        logged = st.logged;
        tidings = st.marked;
        reading = λ r m some off z h. no-head r.to r.above z h;
      }
