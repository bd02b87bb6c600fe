-- The elements that have a transition on a letter, marked one after another, and letter by letter.
use Prim.Native.Nat.{ℕ, ◌+◌, ◌*◌, ◌/◌, ◌%◌, ◌^◌, ◌<◌, ◌≤◌}
use native.Mathlib.Omega.{arith}
use mathlib.Core.Path.{◌≡◌, refl, sym, ap, subst, ◌∙◌}
use mathlib.Core.Logic.{⊎_elim}
use mathlib.Core.Bool.{true, false}
use mathlib.Core.List.{List}
use lib.ListN.{length, get_or, set, length-set}
use lib.Seq.{get_or-set_same, get_or-set_other}
use lib.Dec.{eqb, ltb}
use borrow.Author.Tests.{eqb-true, eqb-false, ltb-true, ltb-false}
use Rattle.game.specs.Sets.{has, union}
use Rattle.game.specs.SetLaws.{left-union, right-union, single-has, single-below, union-below}
use Rattle.game.specs.ListLaws.{test, clash}
use Rattle.game.specs.Game.{PushdownGame}
use Rattle.table.specs.Table.{Entry}
use Rattle.family.specs.Family.{holds}
use Rattle.unions.specs.Expand.{AllWithin}
use Rattle.unions.specs.Pool.{Head, Layout, HeadsHold, HeadsGrew}
use Rattle.unions.specs.PoolLaws.{next_row, head-within}
use Rattle.unions.specs.Finding.{Fresh}
use Rattle.noting.specs.Marks.{Marked, Dead}
use Rattle.unions.specs.PlaceLaws.{place-small, one_shifted}

-- where a head's family is, the state as the code has it
module _ (r state letters c heads : ℕ) (e : r ≡ state) (l : state * letters + letters ≤ heads) (m : c < letters) where
  pub head-below : r * letters + c < heads
  head-below = rw e (omega arith)

  pub head_small : (n : ℕ) → heads ≤ 2048 → n ≤ 16 → (r * letters + c) * n ≤ 65536
  head_small n h k = place-small (r * letters + c) n (omega (arith, head-below, h)) k

  pub head-place : (n words : ℕ) → heads * n ≤ words → (r * letters + c) * n + n ≤ words
  head-place n words h = omega (arith, next_row (r * letters + c) heads n head-below, h)

-- the elements before k are marked, or have no set on letter c
pub record Marks (n letters : ℕ) (states words : List ℕ) (c count k set : ℕ) : Type 0 where
  pub below : k ≤ count
  pub small : set < 1024
  pub marked : Marked n letters states words c k set

pub marks-none : (n letters : ℕ) (states words : List ℕ) (c count : ℕ) → Marks n letters states words c count 0 0
marks-none n letters states words c count =
    record { below = omega arith; small = omega arith; marked = record { none = λ k l h x m. absurd (omega arith) } }

not-in-left : (a b k : ℕ) → has (union a b) k ≡ false → has a k ≡ false
not-in-left a b k h = ⊎_elim (λ (t : has a k ≡ true). clash (left-union a b k t) h) (λ (t : has a k ≡ false). t) (test (has a k))

module _ (n letters : ℕ) (states words : List ℕ) (c count k old : ℕ) (m : Marks n letters states words c count k old) (l : k < count) (few : count ≤ 10) (next : ℕ) where
  -- an element more, which is marked
  pub marks-more : next ≡ union old (1 * 2 ^ k % 18446744073709551616) → Marks n letters states words c count (k + 1) next
  marks-more e =
      let one = one_shifted k (omega arith) in
      let same : next ≡ union old (2 ^ k) = e ∙ ap (union old) one in
      record {
        below = omega arith;
        small = rw same (union-below 10 old (2 ^ k) m.small (single-below {n = 10} (omega arith)));
        marked =
            record {
              none =
                  λ i h off x w.
                  let off' : has (union old (2 ^ k)) i ≡ false = ap (λ (v : ℕ). has v i) (sym same) ∙ off in
                  ⊎_elim (λ (t : ltb i k ≡ true). m.marked.none i (ltb-true i k t) (not-in-left old (2 ^ k) i off') x w)
                  (λ (t : ltb i k ≡ false).
                  let here : i ≡ k = omega (arith, h, ltb-false i k t) in
                  clash (right-union old (2 ^ k) i (ap (has (2 ^ k)) here ∙ single-has k)) off')
                  (test (ltb i k));
            };
      }

  -- an element more that has no set
  pub marks-less : next ≡ old → (r : ℕ) → r ≡ get_or states k 0 → ((x : ℕ) → x / 64 < n → holds words ((r * letters + c) * n) x ≡ false)
      → Marks n letters states words c count (k + 1) next
  marks-less same r e none =
      record {
        below = omega arith;
        small = omega (arith, same, m.small);
        marked =
            record {
              none =
                  λ i h off x w.
                  ⊎_elim (λ (t : ltb i k ≡ true). m.marked.none i (ltb-true i k t) (ap (λ (v : ℕ). has v i) (sym same) ∙ off) x w)
                  (λ (t : ltb i k ≡ false).
                  let here : i ≡ k = omega (arith, h, ltb-false i k t) in
                  subst (λ (j : ℕ). holds words ((get_or states j 0 * letters + c) * n) x ≡ false) (sym here) (rw (← e) (none x w)))
                  (test (ltb i k));
            };
      }

pub marks-all : (n letters : ℕ) (states words : List ℕ) (c count k old : ℕ) → count ≤ k → Marks n letters states words c count k old → Marked n letters states words c count old
marks-all n letters states words c count k old h m = record { none = λ i w. m.marked.none i (omega (arith, m.below)) }

-- the letters before c are done
pub record Marking (count : ℕ) (states : List ℕ) (letters n : ℕ) (all new fresh₀ alive₀ fresh alive : List ℕ) (c : ℕ) : Type 0 where
  pub below : c ≤ letters
  pub news : length fresh ≡ length fresh₀
  pub lives : length alive ≡ length alive₀
  pub marked : (d : ℕ) → d < c → Marked n letters states new d count (get_or fresh d 0) × Marked n letters states all d count (get_or alive d 0)
  pub few : ((d : ℕ) → d < 64 → get_or alive₀ d 0 < 1024) → (d : ℕ) → d < 64 → get_or alive d 0 < 1024

pub marking-starts : (count : ℕ) (states : List ℕ) (letters n : ℕ) (all new fresh alive : List ℕ) → Marking count states letters n all new fresh alive fresh alive 0
marking-starts count states letters n all new fresh alive =
    record { below = omega arith; news = refl; lives = refl; marked = λ d l. absurd (omega arith); few = λ h. h }

pub marking-on : (count : ℕ) (states : List ℕ) (letters n : ℕ) (all new fresh₀ alive₀ fresh alive : List ℕ) (c : ℕ)
    → Marking count states letters n all new fresh₀ alive₀ fresh alive c → c < letters → c < length fresh → c < length alive → (x y : ℕ) → Marked n letters states new c count x
    → Marked n letters states all c count y → y < 1024 → Marking count states letters n all new fresh₀ alive₀ (set fresh c x) (set alive c y) (c + 1)
marking-on count states letters n all new fresh₀ alive₀ fresh alive c m l room room' x y mx my small =
    record {
      below = omega arith;
      news = length-set fresh c x ∙ m.news;
      lives = length-set alive c y ∙ m.lives;
      marked =
          λ d h.
          ⊎_elim
          (λ (t : eqb d c ≡ true).
          let e = eqb-true d c t in
          subst (λ (i : ℕ). Marked n letters states new i count (get_or (set fresh c x) i 0) × Marked n letters states all i count (get_or (set alive c y) i 0)) (sym e)
          (rw (get_or-set_same fresh c x 0 room) mx, rw (get_or-set_same alive c y 0 room') my))
          (λ (t : eqb d c ≡ false).
          let ne = eqb-false d c t in
          let was = m.marked d (omega (arith, h, ne)) in
          (rw (get_or-set_other fresh c d x 0 ne) was.0, rw (get_or-set_other alive c d y 0 ne) was.1))
          (test (eqb d c));
      few =
          λ olds d h.
          ⊎_elim
          (λ (t : eqb d c ≡ true).
          let e = eqb-true d c t in
          subst (λ (w : ℕ). w < 1024) (sym (ap (λ (i : ℕ). get_or (set alive c y) i 0) e ∙ get_or-set_same alive c y 0 room')) small)
          (λ (t : eqb d c ≡ false). subst (λ (w : ℕ). w < 1024) (sym (get_or-set_other alive c d y 0 (eqb-false d c t))) (m.few olds d h))
          (test (eqb d c));
    }

-- all letters
pub marking-ends : (count : ℕ) (states : List ℕ) (letters n : ℕ) (all new fresh₀ alive₀ fresh alive : List ℕ) (c : ℕ) → letters ≤ c
    → Marking count states letters n all new fresh₀ alive₀ fresh alive c → (el : List ℕ) (g : PushdownGame) (old es : List Entry) → Layout el g n → count ≡ length el
    → letters ≡ g.letters → ((i : ℕ) → i < length el → get_or states i 0 ≡ get_or el i 0) → AllWithin el es → HeadsHold el g n es all → HeadsGrew el g n old es new
    → Fresh el g old es fresh × Dead el g es alive
marking-ends count states letters n all new fresh₀ alive₀ fresh alive c l m el g old es lay ec eg listed within hold grew = (
  λ d k z ld lk off h.
      let w = head-within el es within (get_or el k 0) d z h in
      let none = (m.marked d (omega (arith, l, eg, ld))).0.none k (omega (arith, ec, lk)) off w.0 (lay.room w.0 w.1) in
      ⊎_elim (λ was. subst (λ (v : ℕ). Head old (get_or el k 0) d v) (sym w.2) was) (λ on. clash on (at d k lk w.0 new none))
      ((grew (get_or el k 0) d (lay.elements.small k lk) ld).into w.0 w.1 (subst (λ (v : ℕ). Head es (get_or el k 0) d v) w.2 h)),
  λ d k z ld lk off h.
      let w = head-within el es within (get_or el k 0) d z h in
      let none = (m.marked d (omega (arith, l, eg, ld))).1.none k (omega (arith, ec, lk)) off w.0 (lay.room w.0 w.1) in
      clash
      ((hold (get_or el k 0) d (lay.elements.small k lk) ld).into w.0 w.1 (subst (λ (v : ℕ). Head es (get_or el k 0) d v) w.2 h))
      (at d k lk w.0 all none),
)
  where
    -- the place by the element's state
    at : (d k : ℕ) → k < length el → (x : ℕ) (words : List ℕ) → holds words ((get_or states k 0 * letters + d) * n) x ≡ false
        → holds words ((get_or el k 0 * g.letters + d) * n) x ≡ false
    at d k lk x words h = rw (← listed k lk, ← eg) h
