-- A family is offered to a head word by word: what is neither there nor noted is noted, and put into what the head was given.
use Prim.Native.Nat.{ℕ, ◌+◌, ◌*◌, ◌/◌, ◌%◌, ◌^◌, ◌<◌, ◌≤◌}
use native.Mathlib.Omega.{arith}
use native.Mathlib.Nat.{mod-lt}
use mathlib.Core.Path.{◌≡◌, refl, sym, ap, subst, ◌∙◌}
use mathlib.Core.Logic.{◌⊎◌, inl, inr, ⊎_elim, ◌↔◌}
use mathlib.Core.Bool.{true, false, not, ◌||◌}
use mathlib.Core.List.{List}
use lib.ListN.{length, get_or, set}
use lib.Seq.{get_or-set_same, get_or-set_other, set-get_or}
use lib.Bits.{bit_and, bit_or, bit_xor, or_zero_r}
use lib.Dec.{eqb, ltb}
use borrow.Author.Tests.{eqb-true, eqb-false, ltb-true, ltb-false}
use Rattle.game.specs.Sets.{has}
use Rattle.game.specs.SetLaws.{none_has}
use Rattle.game.specs.ListLaws.{test, clash, not-true, both, conj, either, left_or, right_or}
use Rattle.game.specs.Game.{PushdownGame}
use Rattle.game.specs.GoodGame.{Good}
use Rattle.table.specs.Table.{Entry, first_word}
use Rattle.table.specs.Pairwise.{Ascending}
use Rattle.family.specs.Family.{holds}
use Rattle.game.specs.DigitLaws.{has-less, has-or}
use Rattle.rounds.specs.RoundLaws.{AllRanged}
use Rattle.unions.specs.Expand.{expand, Elements}
use Rattle.unions.specs.ExpandLaws.{expand-same}
use Rattle.unions.specs.Pool.{Head, Grew, Layout, HeadsHold}
use Rattle.unions.specs.PoolLaws.{next_row}
use Rattle.unions.specs.Ending.{OfWord}
use Rattle.noting.specs.Taking.{Taking, heads-old}
use Rattle.noting.specs.Offers.{Offer, More, Noting, Adding, Offered, Taken, Given}
use Rattle.unions.specs.PlaceLaws.{holds-word}

pub unseen-is : (word one other s : ℕ) → (has (bit_xor (bit_xor word (bit_and word one)) (bit_and (bit_xor word (bit_and word one)) other)) s ≡ true)
    ↔ ((has word s ≡ true) × (has one s ≡ false) × (has other s ≡ false))
unseen-is word one other s =
    let left = bit_xor word (bit_and word one) in (
      λ h.
          let p = both (has left s) (not (has other s)) (sym (has-less left other s) ∙ h) in
          let q = both (has word s) (not (has one s)) (sym (has-less word one s) ∙ p.0) in
          (q.0, not-true _ q.1, not-true _ p.1),
      λ h. has-less left other s ∙ conj (has-less word one s ∙ conj h.0 (ap not h.1)) (ap not h.2),
    )

-- one word of an area written
holds-set : (words : List ℕ) (i v at x : ℕ) → i < length words
    → ((at + x / 64 ≡ i) × (holds (set words i v) at x ≡ has v (x % 64))) ⊎ ((at + x / 64 ≡ i → ⊥) × (holds (set words i v) at x ≡ holds words at x))
unfolding holds
holds-set words i v at x l =
    ⊎_elim
    (λ (t : eqb (at + x / 64) i ≡ true).
    let e = eqb-true (at + x / 64) i t in
    inl (e, ap (λ (k : ℕ). has (get_or (set words i v) k 0) (x % 64)) e ∙ ap (λ (w : ℕ). has w (x % 64)) (get_or-set_same words i v 0 l)))
    (λ (t : eqb (at + x / 64) i ≡ false).
    let e = eqb-false (at + x / 64) i t in
    inr (e, ap (λ (w : ℕ). has w (x % 64)) (get_or-set_other words i (at + x / 64) v 0 e)))
    (test (eqb (at + x / 64) i))

-- rows of n words
row_same : (f h n j x : ℕ) → j < n → x / 64 < n → f * n + x / 64 ≡ h * n + j → (f ≡ h) × (x / 64 ≡ j)
row_same f h n j x lj lx e =
    ⊎_elim (λ (t : ltb f h ≡ true). absurd (omega (arith, e, lx, next_row f h n (ltb-true f h t))))
    (λ (t : ltb f h ≡ false).
    ⊎_elim (λ (u : ltb h f ≡ true). absurd (omega (arith, e, lj, next_row h f n (ltb-true h f u))))
    (λ (u : ltb h f ≡ false).
    let same : f ≡ h = (let a = ltb-false f h t in let b = ltb-false h f u in omega (arith, a, b)) in
    (same, omega (arith, e, ap (λ (k : ℕ). k * n) same)))
    (test (ltb h f)))
    (test (ltb f h))

-- one head by its number
head-same : (p a q c l : ℕ) → a < l → c < l → q * l + c ≡ p * l + a → (q ≡ p) × (c ≡ a)
head-same p a q c l la lc e =
    ⊎_elim (λ (t : ltb q p ≡ true). absurd (omega (arith, e, lc, next_row q p l (ltb-true q p t))))
    (λ (t : ltb q p ≡ false).
    ⊎_elim (λ (u : ltb p q ≡ true). absurd (omega (arith, e, la, next_row p q l (ltb-true p q u))))
    (λ (u : ltb p q ≡ false).
    let same : q ≡ p = (let x = ltb-false q p t in let y = ltb-false p q u in omega (arith, x, y)) in
    (same, omega (arith, e, ap (λ (k : ℕ). k * l) same)))
    (test (ltb p q)))
    (test (ltb q p))

pub record Giving (at head n size first rule : ℕ) (d all log₀ added₀ : List ℕ) (count₀ : ℕ) (log added : List ℕ) (count j : ℕ) : Type 0 where
  pub below : j ≤ n
  pub room : count ≤ size
  pub same : length log ≡ length log₀
  pub areas : length added ≡ length added₀
  pub gives : (el : List ℕ) (g : PushdownGame) (es now : List Entry) (b p a : ℕ) → Layout el g n → Good g → Ascending es → AllRanged g es → Taking el g es b log₀ count₀ now
      → first ≡ first_word p a b → p < g.control → a < g.letters → head ≡ p * g.letters + a → HeadsHold el g n es all → Adding el g n es now added₀
      → Offered el g n es now p a rule d at → Taken el g n es b p a now d at j log added count

module _ (at head n size first rule : ℕ) (d all log₀ added₀ : List ℕ) (count₀ : ℕ) where
  pub giving-starts : count₀ ≤ size → Giving at head n size first rule d all log₀ added₀ count₀ log₀ added₀ count₀ 0
  giving-starts l =
      record {
        below = omega arith;
        room = l;
        same = refl;
        areas = refl;
        gives =
            λ el g es now b p a lay good asc ranged t ef lp la eh hold adding offered.
            record {
              after = now;
              taking = t;
              adding = adding;
              kept = λ q c z h. h;
              only = λ q c z h. inl h;
              into = λ x lx ln h. absurd (omega arith);
            };
      }

  module _ (log added : List ℕ) (count j word : ℕ) (w : Giving at head n size first rule d all log₀ added₀ count₀ log added count j) (lj : j < n) (la' : head * n + n ≤ length added)
      (unseen : (s : ℕ) → (has word s ≡ true) ↔ ((has (get_or d (at + j) 0) s ≡ true) × (has (get_or all (head * n + j) 0) s ≡ false) × (has (get_or added (head * n + j) 0) s ≡ false))) where
    module _ (el : List ℕ) (g : PushdownGame) (es now : List Entry) (b p a : ℕ) (lay : Layout el g n) (lp : p < g.control) (la : a < g.letters) (eh : head ≡ p * g.letters + a) (ls : p < g.states) (hold : HeadsHold el g n es all) (offered : Offered el g n es now p a rule d at) (t : Taken el g n es b p a now d at j log added count) where
      -- a set of word j
      not_there : (s : ℕ) → s < 64 → j * 64 + s < 2 ^ length el → has (get_or all (head * n + j) 0) s ≡ false → Head es p a (expand el (j * 64 + s)) → ⊥
      not_there s l small none m =
          let h = subst (λ (f : ℕ). holds all (f * n) (j * 64 + s) ≡ true) (sym eh) ((hold p a ls la).into (j * 64 + s) small m) in
          clash (sym (holds-word all (head * n) j s l) ∙ h) none

      not_noted : (s : ℕ) → s < 64 → j * 64 + s < 2 ^ length el → (Head es p a (expand el (j * 64 + s)) → ⊥) → has (get_or added (head * n + j) 0) s ≡ false
          → Head t.after p a (expand el (j * 64 + s)) → ⊥
      not_noted s l small new none m =
          ⊎_elim (λ k. new k)
          (λ k. clash (sym (holds-word added (head * n) j s l) ∙ subst (λ (f : ℕ). holds added (f * n) (j * 64 + s) ≡ true) (sym eh) k) none)
          ((t.adding p a lp la).into (j * 64 + s) small m)

      pub word-offers : (s : ℕ) → s < 64 → has word s ≡ true → Offer el g es t.after p a rule (j * 64 + s)
      word-offers s l h =
          let u = (unseen s).0 h in
          let here = holds-word d at j s l ∙ u.0 in
          let inside : (j * 64 + s) / 64 < n = omega arith in
          let small = offered.small (j * 64 + s) inside here in
          let new = not_there s l small u.1 in
          let fresh = not_noted s l small new u.2 in
          record {
            small = small;
            gives = offered.gives (j * 64 + s) inside here;
            lowest = offered.lowest (j * 64 + s) inside here new (λ k. fresh (t.kept p a (expand el (j * 64 + s)) k));
            new = new;
            fresh = fresh;
          }

      module _ (log' added' : List ℕ) (count' : ℕ) (e : added' ≡ set added (head * n + j) (bit_or (get_or added (head * n + j) 0) word)) (after : List Entry) (taking : Taking el g es b log' count' after) (more : More el (OfWord word (j * 64)) p a t.after after) where
        place : (x : ℕ) → ((head * n + x / 64 ≡ head * n + j) × (holds added' (head * n) x ≡ (has (get_or added (head * n + j) 0) (x % 64) || has word (x % 64)))) ⊎ ((head * n + x / 64 ≡ head * n + j → ⊥) × (holds added' (head * n) x ≡ holds added (head * n) x))
        place x =
            rw e
            (⊎_elim (λ k. inl (k.0, k.1 ∙ has-or (get_or added (head * n + j) 0) word (x % 64))) inr
            (holds-set added (head * n + j) (bit_or (get_or added (head * n + j) 0) word) (head * n) x (omega (arith, la', lj))))

        word_of : (x : ℕ) → x / 64 ≡ j → holds added (head * n) x ≡ has (get_or added (head * n + j) 0) (x % 64)
        unfolding holds
        word_of x k = ap (λ (i : ℕ). has (get_or added (head * n + i) 0) (x % 64)) k

        own : Grew el n added' ((p * g.letters + a) * n) (Head after p a) (Head es p a)
        own =
            subst (λ (f : ℕ). Grew el n added' (f * n) (Head after p a) (Head es p a)) eh
            (record {
              from =
                  λ x lx h.
                  let was : holds added (head * n) x ≡ true → (x < 2 ^ length el) × Head after p a (expand el x) =
                  λ k.
                  let r = (t.adding p a lp la).from x lx (subst (λ (f : ℕ). holds added (f * n) x ≡ true) eh k) in
                  (r.0, more.kept p a (expand el x) r.1) in
                  ⊎_elim
                  (λ k.
                  let at_j : x / 64 ≡ j = omega (arith, k.0) in
                  ⊎_elim (λ o. was (word_of x at_j ∙ o))
                  (λ o.
                  let whole : x ≡ j * 64 + x % 64 = omega (arith, at_j) in
                  let sm : x % 64 < 64 = mod-lt x (omega arith) in
                  let off = word-offers (x % 64) sm o in (
                    subst (λ (v : ℕ). v < 2 ^ length el) (sym whole) off.small,
                    more.into x (x % 64, sm, o, whole),
                  ))
                  (either (has (get_or added (head * n + j) 0) (x % 64)) (has word (x % 64)) (sym k.1 ∙ h)))
                  (λ k. was (sym k.1 ∙ h))
                  (place x);
              into =
                  λ x lx m.
                  let stays : holds added (head * n) x ≡ true → holds added' (head * n) x ≡ true =
                  λ k. ⊎_elim (λ q. q.1 ∙ left_or (has word (x % 64)) (sym (word_of x (omega (arith, q.0))) ∙ k)) (λ q. q.1 ∙ k) (place x) in
                  ⊎_elim
                  (λ k. ⊎_elim inl (λ o. inr (stays (subst (λ (f : ℕ). holds added (f * n) x ≡ true) (sym eh) o))) ((t.adding p a lp la).into x lx k))
                  (λ k.
                  let y = k.2 in
                  let f = y.1 in
                  let off = word-offers f.0 f.1 f.2 in
                  let same : x ≡ j * 64 + f.0 = expand-same el g.states lay.elements x (j * 64 + f.0) lx off.small (y.2 ∙ ap (expand el) f.3) in
                  let at_j : x / 64 ≡ j = omega (arith, same, f.1) in
                  let digit : x % 64 ≡ f.0 = omega (arith, same, f.1) in
                  inr
                  (⊎_elim (λ q. q.1 ∙ right_or (has (get_or added (head * n + j) 0) (x % 64)) (ap (has word) digit ∙ f.2)) (λ q. absurd (q.0 (ap (λ (i : ℕ). head * n + i) at_j)))
                  (place x)))
                  (more.from p a (expand el x) m);
            })

        other : (q c : ℕ) → q < g.control → c < g.letters → (q * g.letters + c ≡ head → ⊥) → Grew el n added' ((q * g.letters + c) * n) (Head after q c) (Head es q c)
        other q c lq lc ne =
            let same : (x : ℕ) → x / 64 < n → holds added' ((q * g.letters + c) * n) x ≡ holds added ((q * g.letters + c) * n) x =
            λ x lx.
            rw e
            (⊎_elim (λ k. absurd (ne (row_same (q * g.letters + c) head n j x lj lx k.0).0)) (λ k. k.1)
            (holds-set added (head * n + j) (bit_or (get_or added (head * n + j) 0) word) ((q * g.letters + c) * n) x (omega (arith, la', lj)))) in
            let was = t.adding q c lq lc in
            record {
              from = λ x lx h. let r = was.from x lx (sym (same x lx) ∙ h) in (r.0, more.kept q c (expand el x) r.1);
              into =
                  λ x lx m.
                  ⊎_elim (λ k. ⊎_elim inl (λ o. inr (same x (lay.room x lx) ∙ o)) (was.into x lx k))
                  (λ k. absurd (ne (ap (λ (v : ℕ). v * g.letters + c) k.0 ∙ ap (λ (v : ℕ). p * g.letters + v) k.1 ∙ sym eh)))
                  (more.from q c (expand el x) m);
            }

        pub word-taken : Taken el g n es b p a now d at (j + 1) log' added' count'
        word-taken =
            record {
              after = after;
              taking = taking;
              adding =
                  λ q c lq lc.
                  ⊎_elim
                  (λ (k : eqb (q * g.letters + c) head ≡ true).
                  let s = head-same p a q c g.letters la lc (eqb-true (q * g.letters + c) head k ∙ eh) in
                  rw (s.0, s.1) own)
                  (λ (k : eqb (q * g.letters + c) head ≡ false). other q c lq lc (eqb-false (q * g.letters + c) head k))
                  (test (eqb (q * g.letters + c) head));
              kept = λ q c z h. more.kept q c z (t.kept q c z h);
              only =
                  λ q c z h.
                  ⊎_elim (λ k. ⊎_elim inl (λ o. inr (o.0, o.1, (o.2.0, omega (arith, o.2.1), o.2.2))) (t.only q c z k))
                  (λ k. let y = k.2 in let f = y.1 in inr (k.0, k.1, (y.0, omega (arith, f.3, f.1), y.2)))
                  (more.from q c z h);
              into =
                  λ x lx ln h.
                  ⊎_elim (λ (k : ltb (x / 64) j ≡ true). more.kept p a (expand el x) (t.into x (ltb-true (x / 64) j k) ln h))
                  (λ (k : ltb (x / 64) j ≡ false).
                  let at_j : x / 64 ≡ j = omega (arith, lx, ltb-false (x / 64) j k) in
                  let whole : x ≡ j * 64 + x % 64 = omega (arith, at_j) in
                  let sm : x % 64 < 64 = mod-lt x (omega arith) in
                  let here : has (get_or d (at + j) 0) (x % 64) ≡ true = sym (holds-word d at j (x % 64) sm) ∙ ap (holds d at) (sym whole) ∙ h in
                  last x at_j whole sm here h ln)
                  (test (ltb (x / 64) j));
            }
          where
            last : (x : ℕ) → x / 64 ≡ j → x ≡ j * 64 + x % 64 → x % 64 < 64 → has (get_or d (at + j) 0) (x % 64) ≡ true → holds d at x ≡ true → x / 64 < n → Head after p a (expand el x)
            last x at_j whole sm here h ln =
                ⊎_elim
                (λ (o : has (get_or all (head * n + j) 0) (x % 64) ≡ true).
                let there = (hold p a ls la).from x ln (subst (λ (f : ℕ). holds all (f * n) x ≡ true) eh (ap (holds all (head * n)) whole ∙ holds-word all (head * n) j (x % 64) sm ∙ o)) in
                heads-old el g es b log' count' after taking p a (expand el x) there.1)
                (λ (o : has (get_or all (head * n + j) 0) (x % 64) ≡ false).
                ⊎_elim
                (λ (v : has (get_or added (head * n + j) 0) (x % 64) ≡ true).
                let r = (t.adding p a lp la).from x ln (subst (λ (f : ℕ). holds added (f * n) x ≡ true) eh (word_of x at_j ∙ v)) in
                more.kept p a (expand el x) r.1)
                (λ (v : has (get_or added (head * n + j) 0) (x % 64) ≡ false). more.into x (x % 64, sm, (unseen (x % 64)).1 (here, o, v), whole))
                (test (has (get_or added (head * n + j) 0) (x % 64))))
                (test (has (get_or all (head * n + j) 0) (x % 64)))

  module _ (log added : List ℕ) (count j word : ℕ) (w : Giving at head n size first rule d all log₀ added₀ count₀ log added count j) (lj : j < n) (la' : head * n + n ≤ length added)
      (unseen : (s : ℕ) → (has word s ≡ true) ↔ ((has (get_or d (at + j) 0) s ≡ true) × (has (get_or all (head * n + j) 0) s ≡ false) × (has (get_or added (head * n + j) 0) s ≡ false)))
      (log' : List ℕ) (count' : ℕ)
      (notes : (el : List ℕ) (g : PushdownGame) (es now : List Entry) (b p a : ℕ) → Elements el g.states → Good g → Ascending es → AllRanged g es → Taking el g es b log count now
      → first ≡ first_word p a b → p < g.control → a < g.letters → ((s : ℕ) → s < 64 → has word s ≡ true → Offer el g es now p a rule (j * 64 + s))
      → Noting el g es b size (OfWord word (j * 64)) p a now log' count') where
    noting : (el : List ℕ) (g : PushdownGame) (es now : List Entry) (b p a : ℕ) → Layout el g n → (good : Good g) → Ascending es → AllRanged g es → first ≡ first_word p a b → (lp : p < g.control)
        → a < g.letters → head ≡ p * g.letters + a → HeadsHold el g n es all → Offered el g n es now p a rule d at → (t : Taken el g n es b p a now d at j log added count)
        → Noting el g es b size (OfWord word (j * 64)) p a t.after log' count'
    noting el g es now b p a lay good asc ranged ef lp la eh hold offered t =
        notes el g es t.after b p a lay.elements good asc ranged t.taking ef lp la
        (word-offers log added count j word w lj la' unseen el g es now b p a lay lp la eh (omega (arith, lp, good.ranged.control)) hold offered t)

    pub giving-full : size < count' → count' ≤ size + 1 → (el : List ℕ) (g : PushdownGame) (es now : List Entry) (b p a : ℕ) → Layout el g n → Good g → Ascending es → AllRanged g es
        → Taking el g es b log₀ count₀ now → first ≡ first_word p a b → p < g.control → a < g.letters → head ≡ p * g.letters + a → HeadsHold el g n es all → Adding el g n es now added₀
        → Offered el g n es now p a rule d at → (added' : List ℕ) → Given el g n es b size p a now d at log' added' count'
    giving-full over most el g es now b p a lay good asc ranged t ef lp la eh hold adding offered added' =
        let r = w.gives el g es now b p a lay good asc ranged t ef lp la eh hold adding offered in
        ⊎_elim inl (λ k. absurd (omega (arith, over, k.0))) (noting el g es now b p a lay good asc ranged ef lp la eh hold offered r)

    pub giving-on : (added' : List ℕ) → count' ≤ size → length log' ≡ length log → added' ≡ set added (head * n + j) (bit_or (get_or added (head * n + j) 0) word) → length added' ≡ length added
        → Giving at head n size first rule d all log₀ added₀ count₀ log' added' count' (j + 1)
    giving-on added' fits ll e lad =
        record {
          below = omega arith;
          room = fits;
          same = ll ∙ w.same;
          areas = lad ∙ w.areas;
          gives =
              λ el g es now b p a lay good asc ranged t ef lp la eh hold adding offered.
              let r = w.gives el g es now b p a lay good asc ranged t ef lp la eh hold adding offered in
              ⊎_elim (λ k. absurd (omega (arith, k.0, fits)))
              (λ k.
              word-taken log added count j word w lj la' unseen el g es now b p a lay lp la eh (omega (arith, lp, good.ranged.control)) hold offered r log' added' count' e k.1.0 k.1.1 k.1.2)
              (noting el g es now b p a lay good asc ranged ef lp la eh hold offered r);
        }

  -- a word that has nothing unseen
  pub giving-none : (log added : List ℕ) (count j word : ℕ) → Giving at head n size first rule d all log₀ added₀ count₀ log added count j → j < n → head * n + n ≤ length added
      → ((s : ℕ) → (has word s ≡ true) ↔ ((has (get_or d (at + j) 0) s ≡ true) × (has (get_or all (head * n + j) 0) s ≡ false) × (has (get_or added (head * n + j) 0) s ≡ false)))
      → word ≡ 0 → Giving at head n size first rule d all log₀ added₀ count₀ log added count (j + 1)
  giving-none log added count j word w lj la unseen e =
      giving-on log added count j word w lj la unseen log count
      (λ el g es now b p a ok good asc ranged t ef lp la' offers.
      inr (w.room, (now, t, record { from = λ q c z h. inl h; kept = λ q c z h. h; into = λ y m. clash m.2 (ap (λ (v : ℕ). has v m.0) e ∙ none_has m.0) })))
      added w.room refl (sym (ap (set added (head * n + j)) (ap (bit_or (get_or added (head * n + j) 0)) e ∙ or_zero_r (get_or added (head * n + j) 0)) ∙ set-get_or added (head * n + j) 0)) refl

  -- a word that has no set
  pub giving-skips : (log added : List ℕ) (count j : ℕ) → Giving at head n size first rule d all log₀ added₀ count₀ log added count j → j < n → head * n + n ≤ length added
      → get_or d (at + j) 0 ≡ 0 → Giving at head n size first rule d all log₀ added₀ count₀ log added count (j + 1)
  giving-skips log added count j w lj la e =
      giving-none log added count j 0 w lj la (λ s. (λ h. clash h (none_has s), λ h. clash h.0 (ap (λ (v : ℕ). has v s) e ∙ none_has s))) refl

  pub giving-ends : (log added : List ℕ) (count j : ℕ) → n ≤ j → Giving at head n size first rule d all log₀ added₀ count₀ log added count j
      → (el : List ℕ) (g : PushdownGame) (es now : List Entry) (b p a : ℕ) → Layout el g n → Good g → Ascending es → AllRanged g es → Taking el g es b log₀ count₀ now
      → first ≡ first_word p a b → p < g.control → a < g.letters → head ≡ p * g.letters + a → HeadsHold el g n es all → Adding el g n es now added₀
      → Offered el g n es now p a rule d at → Given el g n es b size p a now d at log added count
  giving-ends log added count j lj w el g es now b p a lay good asc ranged t ef lp la eh hold adding offered =
      let e : j ≡ n = omega (arith, w.below) in
      inr (w.room, subst (λ (k : ℕ). Taken el g n es b p a now d at k log added count) e (w.gives el g es now b p a lay good asc ranged t ef lp la eh hold adding offered))
