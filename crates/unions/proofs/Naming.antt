-- The states of a set are listed and numbered one after another, the lowest first.
use Prim.Native.Nat.{ℕ, ◌+◌, ◌-◌, ◌%◌, ◌^◌, ◌*◌, ◌<◌, ◌≤◌}
use native.Mathlib.Omega.{arith}
use native.Mathlib.Nat.{one-mul, mod-eq_of_lt}
use mathlib.Core.Path.{◌≡◌, sym, ap, subst, ◌∙◌}
use mathlib.Core.Logic.{◌⊎◌, inl, inr, ⊎_elim}
use mathlib.Core.Bool.{true, false}
use mathlib.Core.List.{List}
use lib.ListN.{length, get_or, take, replicate, set as put, length-set, length-replicate, get_or-replicate}
use lib.Seq.{get_or-set_same, get_or-set_other, length-take-le, get_or-take}
use lib.Bits.{bit_and}
use lib.Dec.{eqb, ltb}
use lib.Pow.{pow-lt}
use borrow.Author.Tests.{eqb-true, eqb-false, ltb-true, ltb-false}
use Rattle.game.specs.Sets.{has}
use Rattle.game.specs.SetLaws.{none_has, has-below}
use Rattle.game.specs.LowestLaws.{LowestOf}
use Rattle.game.specs.ListLaws.{test, clash}
use Rattle.game.specs.Game.{PushdownGame}
use Rattle.unions.specs.Expand.{Elements}
use Rattle.unions.specs.ExpandLaws.{expand-onto}
use Rattle.unions.specs.Ending.{Listed}
use Rattle.unions.specs.ElementsOf.{ElementsOf, Reached, Named}
use Rattle.unions.proofs.Members.{gone, rest-kept}

-- what is left is ahead of what is listed; beyond ten states nothing is said of the lists but their lengths and small numbers
pub record Naming (set rest count : ℕ) (states numbers : List ℕ) : Type 0 where
  pub ahead : (k : ℕ) → has rest k ≡ true → count ≤ k
  pub left : (k : ℕ) → has rest k ≡ true → has set k ≡ true
  pub stated : length states ≡ 16
  pub sized : length numbers ≡ 32
  pub few : (q : ℕ) → q < 32 → get_or numbers q 0 < 1024
  pub named : count ≤ 10 → Named set rest count states numbers

-- i up to the last
upto : (i n : ℕ) → i < n + 1 → (i < n) ⊎ (i ≡ n)
upto i n l =
    ⊎_elim (λ (u : ltb i n ≡ true). inl (ltb-true i n u))
    (λ (u : ltb i n ≡ false). let m = ltb-false i n u in inr (omega (arith, l, m)))
    (test (ltb i n))

module _ (set rest s : ℕ) (some : 0 < rest) (low : LowestOf 32 rest s) (count : ℕ) (states numbers : List ℕ) where
  after : (k : ℕ) → has (bit_and rest (rest - 1)) k ≡ true → s < k
  after k h =
      ⊎_elim (λ (u : ltb s k ≡ true). ltb-true s k u)
      (λ (u : ltb s k ≡ false).
      ⊎_elim (λ (v : eqb k s ≡ true). clash (ap (has (bit_and rest (rest - 1))) (sym (eqb-true k s v)) ∙ h) (gone rest s some low).gone)
      (λ (v : eqb k s ≡ false).
      let no_less = ltb-false s k u in
      let other = eqb-false k s v in
      clash (rest-kept rest s some low k h) (low.below k (omega (arith, no_less, other))))
      (test (eqb k s)))
      (test (ltb s k))

  -- a state more on the lists
  named-on : (states' numbers' : List ℕ) → Named set rest count states numbers → has set s ≡ true → count + 1 ≤ length states'
      → ((i : ℕ) → i < count → get_or states' i 0 ≡ get_or states i 0) → get_or states' count 0 ≡ s
      → ((q : ℕ) → (q ≡ s → ⊥) → get_or numbers' q 0 ≡ get_or numbers q 0) → get_or numbers' s 0 ≡ 2 ^ count
      → Named set (bit_and rest (rest - 1)) (count + 1) states' numbers'
  named-on states' numbers' n on room old new kept number =
      record {
        room = room;
        rising =
            λ i j l m.
            ⊎_elim (λ p. omega (arith, old i (omega arith), old j p, n.rising i j l p))
            (λ (p : j ≡ count).
            let less : i < count = omega arith in
            omega (arith, old i less, ap (λ (k : ℕ). get_or states' k 0) p, new, n.before i s less low.member))
            (upto j count m);
        member =
            λ i l.
            ⊎_elim (λ p. ap (has set) (old i p) ∙ n.member i p)
            (λ (p : i ≡ count). ap (has set) (ap (λ (k : ℕ). get_or states' k 0) p ∙ new) ∙ on)
            (upto i count l);
        before =
            λ i k l h.
            ⊎_elim (λ p. omega (arith, old i p, n.before i k p (rest-kept rest s some low k h)))
            (λ (p : i ≡ count). omega (arith, ap (λ (k : ℕ). get_or states' k 0) p, new, after k h))
            (upto i count l);
        numbered =
            λ i l.
            ⊎_elim
            (λ p.
            let less = n.before i s p low.member in
            ap (λ (q : ℕ). get_or numbers' q 0) (old i p) ∙ kept (get_or states i 0) (λ e. omega (arith, less, e)) ∙ n.numbered i p)
            (λ (p : i ≡ count). ap (λ (q : ℕ). get_or numbers' q 0) (ap (λ (k : ℕ). get_or states' k 0) p ∙ new) ∙ number ∙ ap (λ (k : ℕ). 2 ^ k) (sym p))
            (upto i count l);
        others =
            λ q l.
            ⊎_elim (λ (u : eqb q s ≡ true). inl (count, omega arith, new ∙ sym (eqb-true q s u)))
            (λ (u : eqb q s ≡ false).
            ⊎_elim (λ r. inl (r.0, omega (arith, r.1), old r.0 r.1 ∙ r.2)) (λ r. inr (kept q (eqb-false q s u) ∙ r)) (n.others q l))
            (test (eqb q s));
        whole =
            λ k h.
            ⊎_elim (λ (u : eqb k s ≡ true). inr (count, omega arith, new ∙ sym (eqb-true k s u)))
            (λ (u : eqb k s ≡ false).
            ⊎_elim (λ r. inl ((gone rest s some low).kept k (eqb-false k s u) ∙ r)) (λ r. inr (r.0, omega (arith, r.1), old r.0 r.1 ∙ r.2)) (n.whole k h))
            (test (eqb k s));
      }

  module _ (w : Naming set rest count states numbers) where
    -- one of the first ten
    naming-on : (one : ℕ) → count < 10 → one ≡ 2 ^ count → Naming set (bit_and rest (rest - 1)) (count + 1) (put states count s) (put numbers s one)
    naming-on one l e =
        record {
          ahead = λ k h. omega (arith, after k h, w.ahead s low.member);
          left = λ k h. w.left k (rest-kept rest s some low k h);
          stated = length-set states count s ∙ w.stated;
          sized = length-set numbers s one ∙ w.sized;
          few =
              λ q m.
              ⊎_elim (λ (u : eqb q s ≡ true). subst (λ (z : ℕ). z < 1024) (sym (ap (λ (k : ℕ). get_or (put numbers s one) k 0) (eqb-true q s u) ∙ written ∙ e)) (pow-lt {j = 10} l))
              (λ (u : eqb q s ≡ false). subst (λ (z : ℕ). z < 1024) (sym (kept q (eqb-false q s u))) (w.few q m))
              (test (eqb q s));
          named =
              λ m.
              named-on (put states count s) (put numbers s one) (w.named (omega arith)) (w.left s low.member) (omega (arith, length-set states count s, w.stated))
              (λ i p. get_or-set_other states count i s 0 (λ x. omega arith))
              (get_or-set_same states count s 0 (omega (arith, w.stated)))
              kept
              (written ∙ e);
        }
      where
        written : get_or (put numbers s one) s 0 ≡ one
        written = get_or-set_same numbers s one 0 (omega (arith, w.sized, low.small))

        kept : (q : ℕ) → (q ≡ s → ⊥) → get_or (put numbers s one) q 0 ≡ get_or numbers q 0
        kept q apart = get_or-set_other numbers s q one 0 (λ x. apart x)

    -- one after them
    naming-past : 10 ≤ count → Naming set (bit_and rest (rest - 1)) (count + 1) states numbers
    naming-past l =
        record {
          ahead = λ k h. omega (arith, after k h, w.ahead s low.member);
          left = λ k h. w.left k (rest-kept rest s some low k h);
          stated = w.stated;
          sized = w.sized;
          few = w.few;
          named = λ m. absurd (omega arith);
        }

    -- as the lists are after the test
    pub naming-first : (states' numbers' : List ℕ) → count < 10 → states' ≡ put states count s → numbers' ≡ put numbers s (1 * 2 ^ count % 2 ^ 64)
        → Naming set (bit_and rest (rest - 1)) (count + 1) states' numbers'
    naming-first states' numbers' l es en = rw (es, en) (naming-on (1 * 2 ^ count % 2 ^ 64) l (rw one-mul (mod-eq_of_lt (pow-lt {j = 64} (omega arith)))))

    pub naming-later : (states' numbers' : List ℕ) → 10 ≤ count → states' ≡ states → numbers' ≡ numbers
        → Naming set (bit_and rest (rest - 1)) (count + 1) states' numbers'
    naming-later states' numbers' l es en = rw (es, en) (naming-past l)

pub naming-ends : (set rest count : ℕ) (states numbers : List ℕ) → rest ≡ 0 → Naming set rest count states numbers → count ≤ 10 → Named set 0 count states numbers
naming-ends set rest count states numbers e w l = subst (λ (k : ℕ). Named set k count states numbers) e (w.named l)

pub naming-starts : (set : ℕ) → Naming set set 0 (replicate 16 0) (replicate 32 0)
naming-starts set =
    record {
      ahead = λ k h. omega arith;
      left = λ k h. h;
      stated = length-replicate {A = ℕ} 16 0;
      sized = length-replicate {A = ℕ} 32 0;
      few = λ q l. omega (arith, zeros q l);
      named =
          λ m.
          record {
            room = omega arith;
            rising = λ i j l p. absurd (omega arith);
            member = λ i l. absurd (omega arith);
            before = λ i k l h. absurd (omega arith);
            numbered = λ i l. absurd (omega arith);
            others = λ q l. inr (zeros q l);
            whole = λ k h. inl h;
          };
    }
  where
    zeros : (q : ℕ) → q < 32 → get_or {A = ℕ} (replicate 32 0) q 0 ≡ 0
    zeros q l = get_or-replicate 32 q 0 0 l

-- the list of the elements' states
module _ (g : PushdownGame) (set count : ℕ) (states numbers : List ℕ) (most : g.states ≤ 32) (reached : Reached g set) (few : count ≤ 10) (n : Named set 0 count states numbers) where
  abbrev el : List ℕ
  el = take count states

  long : length el ≡ count
  long = length-take-le count states n.room

  at : (i : ℕ) → i < count → get_or el i 0 ≡ get_or states i 0
  at i l = get_or-take count states i 0 l

  on_list : (k : ℕ) → (i : ℕ) × (i < count) × (get_or states i 0 ≡ k) → Listed el k
  on_list k q = (q.0, omega (arith, q.1, long), at q.0 q.1 ∙ q.2)

  all_listed : (k : ℕ) → has set k ≡ true → Listed el k
  all_listed k h = ⊎_elim (λ r. clash r (none_has k)) (λ q. on_list k q) (n.whole k h)

  elements : Elements el g.states
  elements =
      record {
        rising = λ i j l m. omega (arith, at i (omega (arith, long)), at j (omega (arith, long)), n.rising i j l (omega (arith, long)));
        few = omega (arith, long);
        small =
            λ i l.
            let m : i < count = omega (arith, long) in
            subst (λ (k : ℕ). k < g.states) (sym (at i m)) (has-below g.states set (get_or states i 0) reached.small (n.member i m));
      }

  facts : ElementsOf g el count states numbers
  facts =
      record {
        counted = sym long;
        elements = elements;
        listed = λ i l. sym (at i (omega (arith, long)));
        numbered = λ i l. let m : i < count = omega (arith, long) in ap (λ (q : ℕ). get_or numbers q 0) (at i m) ∙ n.numbered i m;
        others = λ q l. ⊎_elim (λ r. inl (on_list q r)) (λ r. inr r) (n.others q (omega arith));
        targets = λ t m. expand-onto el g.states elements t.set (λ s h. all_listed s (reached.targets t m s h));
        pops = λ r m e. all_listed r.to (reached.pops r m e);
      }

  pub elements-named : (el : List ℕ) × ElementsOf g el count states numbers
  elements-named = (el, facts)
