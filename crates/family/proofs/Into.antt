-- The unions of two families put into a third, word by word of the second family.
-- The unions of the sets of its word i with those of word j of the first belong to word i | j, since the word of a union is the union of the
-- words. So for each place p that contains i the words with i | j = p are joined, and united at once. These are the places that lack of p
-- what is within i; numbers within i are gone through downwards, and places that contain i upwards.
use Prim.Native.Nat.{ℕ, ◌+◌, ◌-◌, ◌*◌, ◌/◌, ◌%◌, ◌<◌, ◌≤◌}
use native.Mathlib.Omega.{arith}
use native.Mathlib.Nat.{mod-lt}
use mathlib.Core.Path.{◌≡◌, refl, sym, ap, subst, ◌∙◌}
use mathlib.Core.Logic.{◌⊎◌, inl, inr, ⊎_elim}
use mathlib.Core.Bool.{true, false}
use mathlib.Core.List.{List}
use lib.ListN.{length, get_or, set}
use lib.Bits.{bit_and, bit_or, or_comm, and_self, and_le_r}
use lib.Dec.{eqb, ltb}
use borrow.Author.Tests.{eqb-true, eqb-false, ltb-true, ltb-false}
use Rattle.game.specs.Sets.{has, union}
use Rattle.game.specs.SetLaws.{union-below, union-has, left-union, right-union, none_has}
use Rattle.game.specs.ListLaws.{test, clash}
use Rattle.family.specs.Family.{holds, Unites, UnionIn, Row, UnitesInto, Gathered}
use Rattle.family.proofs.Within.{Within, within-least, contained, left-least, right-least, next-within, again-within, part-within, brought-back, next-above, union-contains}
use Rattle.family.proofs.Places.{at-word, word-is, of_word, whole, union-parts, union-place, joined-kept, joined-from, joined-into}

-- The words that lack of p what is within i and not below s are joined.
pub record Gathering (i p : ℕ) (a : List ℕ) (at sum s : ℕ) : Type 0 where
  pub within : Within s i
  pub from : (z : ℕ) → has sum z ≡ true → (j : ℕ) × (j ≤ p) × (union i j ≡ p) × (has (get_or a (at + j) 0) z ≡ true)
  pub into : (t z : ℕ) → t < 16 → Within t i → s ≤ t → has (get_or a (at + (p - t)) 0) z ≡ true → has sum z ≡ true

module _ (i p : ℕ) (a : List ℕ) (at : ℕ) (lp : p < 16) (over : union i p ≡ p) where
  inside : i ≤ p
  inside = contained i p over

  pub gathering-starts : Gathering i p a at (get_or a (at + p - i) 0) i
  gathering-starts =
      let place : at + p - i ≡ at + (p - i) = omega (arith, inside) in
      record {
        within = and_self i;
        from =
            λ z h.
            (p - i, omega (arith, inside), brought-back i p i (omega (arith, inside, lp)) lp (omega (arith, inside, lp)) over (and_self i), ap (λ (k : ℕ). has (get_or a k 0) z) (sym place) ∙ h);
        into =
            λ t z lt w l h.
            let same : t ≡ i = omega (arith, within-least t i w, l) in
            let here : at + p - i ≡ at + (p - t) = omega (arith, inside, same) in
            ap (λ (k : ℕ). has (get_or a k 0) z) here ∙ h;
      }

  pub gathering-more : (sum s : ℕ) → Gathering i p a at sum s → 0 < s
      → Gathering i p a at (bit_or sum (get_or a (at + p - bit_and (s - 1) i) 0)) (bit_and (s - 1) i)
  gathering-more sum s g some =
      record {
        within = next;
        from =
            λ z h.
            ⊎_elim (g.from z)
            (λ k.
            (p - t, omega (arith, few), brought-back i p t (omega (arith, inside, lp)) lp (omega (arith, few, lp)) over next, ap (λ (m : ℕ). has (get_or a m 0) z) (sym place) ∙ k))
            (union-has sum (get_or a (at + p - t) 0) z h);
        into =
            λ u z lu w l h.
            ⊎_elim
            (λ (e : ltb u s ≡ true).
            let same : u ≡ t = omega (arith, next-within i s u (omega (arith, inside, lp)) small lu g.within w (ltb-true u s e), l) in
            let here : at + p - t ≡ at + (p - u) = omega (arith, few, same) in
            right-union sum (get_or a (at + p - t) 0) z (ap (λ (m : ℕ). has (get_or a m 0) z) here ∙ h))
            (λ (e : ltb u s ≡ false). left-union sum (get_or a (at + p - t) 0) z (g.into u z lu w (ltb-false u s e) h))
            (test (ltb u s));
      }
    where
      t : ℕ
      t = bit_and (s - 1) i

      small : s < 16
      small = omega (arith, within-least s i g.within, inside, lp)

      next : Within t i
      next = again-within i s (omega (arith, inside, lp)) small

      few : t ≤ p
      few = omega (arith, and_le_r (s - 1) i, inside)

      place : at + p - t ≡ at + (p - t)
      place = omega (arith, few)

  pub gathering-ends : (sum s : ℕ) → Gathering i p a at sum s → s ≡ 0 → Gathered i p a at sum
  gathering-ends sum s g end =
      record {
        from = g.from;
        into =
            λ j z e h.
            let least : j ≤ p = omega (arith, right-least i j, e) in
            let lj : j < 16 = omega (arith, least, lp) in
            let w : Within (p - j) i = subst (λ (k : ℕ). Within (k - j) i) e (part-within i j (omega (arith, inside, lp)) lj) in
            let back : p - (p - j) ≡ j = omega (arith, least) in
            g.into (p - j) z (omega (arith, lp)) w (omega (arith, end)) (ap (λ (k : ℕ). has (get_or a (at + k) 0) z) back ∙ h);
      }

-- The words before place p that contain i have what word i of the second family gives there.
pub record Placed (n i word : ℕ) (a : List ℕ) (at : ℕ) (old out : List ℕ) (p : ℕ) : Type 0 where
  pub from : (x : ℕ) → holds out 0 x ≡ true → (holds old 0 x ≡ true) ⊎ UnionIn n word i a at x
  pub kept : (x : ℕ) → holds old 0 x ≡ true → holds out 0 x ≡ true
  pub into : (j s z : ℕ) → j < n → union i j < p → s < 64 → z < 64 → has (get_or a (at + j) 0) s ≡ true → has word z ≡ true
      → holds out 0 (union i j * 64 + union s z) ≡ true

module _ (n i word : ℕ) (a : List ℕ) (at : ℕ) (old : List ℕ) (ln : n ≤ 16) (li : i < n) where
  pub placed-starts : Placed n i word a at old old i
  placed-starts =
      record {
        from = λ x h. inl h;
        kept = λ x h. h;
        into = λ j s z l m ls lz h k. absurd (omega (arith, left-least i j, m));
      }

  module _ (out : List ℕ) (p : ℕ) (w : Placed n i word a at old out p) (over : union i p ≡ p) (lp : p < n) (many : ℕ) (got : Gathered i p a at many) where
    -- a place before the next one that contains i is one before p, or p
    before : (j : ℕ) → j < n → union i j < union (p + 1) i → (union i j < p) ⊎ (union i j ≡ p)
    before j l m =
        ⊎_elim (λ (t : ltb (union i j) p ≡ true). inl (ltb-true (union i j) p t))
        (λ (t : ltb (union i j) p ≡ false).
        ⊎_elim (λ (u : eqb (union i j) p ≡ true). inr (eqb-true (union i j) p u))
        (λ (u : eqb (union i j) p ≡ false).
        let above : p < union i j = omega (arith, ltb-false (union i j) p t, eqb-false (union i j) p u) in
        absurd (omega (
          arith,
          m,
          next-above i p (union i j) (omega (arith, li, ln)) (omega (arith, lp, ln)) (union-place i j n (omega (arith, li, ln)) l ln) over
              (union-contains i j (omega (arith, li, ln)) (omega (arith, l, ln))) above,
        )))
        (test (eqb (union i j) p)))
        (test (ltb (union i j) p))

    pub placed-skips : many ≡ 0 → Placed n i word a at old out (union (p + 1) i)
    placed-skips none =
        record {
          from = w.from;
          kept = w.kept;
          into =
              λ j s z l m ls lz h k.
              ⊎_elim (λ b. w.into j s z l b ls lz h k) (λ e. clash (got.into j s e h) (ap (λ (v : ℕ). has v s) none ∙ none_has s)) (before j l m);
        }

    pub placed-more : (l : p < length out) (r : ℕ) → Unites many word r → Placed n i word a at old (set out p (bit_or (get_or out p 0) r)) (union (p + 1) i)
    placed-more lo r unites =
        record {
          from =
              λ x h.
              ⊎_elim (w.from x)
              (λ u.
              let f = unites.from (x % 64) (mod-lt x (omega arith)) u.1 in
              let s = f.0 in
              let z = f.1 in
              let g = got.from s f.4 in
              let j = g.0 in
              inr (
                z,
                j * 64 + s,
                f.3,
                omega (arith, g.1, lp, f.2),
                f.5,
                of_word a at j s f.2 ∙ g.3,
                whole x (union i j) (u.0 ∙ sym g.2)
                    ∙ ap (λ (t : ℕ). union i j * 64 + t) (f.6 ∙ or_comm s z)
                    ∙ sym (union-parts i j z s f.3 f.2),
              ))
              (joined-from out p lo r x h);
          kept = λ x h. joined-kept out p lo r x (w.kept x h);
          into =
              λ j s z l m ls lz h k.
              ⊎_elim (λ b. joined-kept out p lo r (union i j * 64 + union s z) (w.into j s z l b ls lz h k))
              (λ e.
              subst (λ (q : ℕ). holds (set out p (bit_or (get_or out p 0) r)) 0 (q * 64 + union s z) ≡ true) (sym e)
              (joined-into out p lo r (union s z) (union-below 6 s z ls lz) (unites.into s z ls lz (got.into j s e h) k)))
              (before j l m);
        }

  pub placed-ends : (out : List ℕ) (p : ℕ) → Placed n i word a at old out p → n ≤ p → Row n word i a at old out
  placed-ends out p w end =
      record {
        from = w.from;
        kept = w.kept;
        into =
            λ x lx f.
            let s = f.0 in
            let z = f.1 in
            let j = z / 64 in
            let t = z % 64 in
            let small : t < 64 = mod-lt z (omega arith) in
            let same : x ≡ union i j * 64 + union t s =
            f.6
            ∙ ap (union (i * 64 + s)) (whole z j refl)
            ∙ union-parts i j s t f.2 small
            ∙ ap (λ (k : ℕ). union i j * 64 + k) (or_comm s t)
            in
            let place : x / 64 ≡ union i j = ap (λ (k : ℕ). k / 64) same ∙ word-is (union i j) (union t s) (union-below 6 t s small f.2) in
            ap (holds out 0) same ∙ w.into j t s f.3 (omega (arith, place, lx, end)) small f.2 (sym (at-word a at z j refl) ∙ f.5) f.4;
      }

-- The words of the second family before place i have given their unions with the first.
pub record Adding (n : ℕ) (a : List ℕ) (at : ℕ) (b : List ℕ) (bt : ℕ) (old out : List ℕ) (i : ℕ) : Type 0 where
  pub from : (x : ℕ) → holds out 0 x ≡ true
      → (holds old 0 x ≡ true) ⊎ ((y z : ℕ) × (y / 64 < n) × (z / 64 < i) × (holds a at y ≡ true) × (holds b bt z ≡ true) × (x ≡ union y z))
  pub kept : (x : ℕ) → holds old 0 x ≡ true → holds out 0 x ≡ true
  pub into : (y z : ℕ) → y / 64 < n → z / 64 < i → union y z / 64 < n → holds a at y ≡ true → holds b bt z ≡ true → holds out 0 (union y z) ≡ true

module _ (n : ℕ) (a : List ℕ) (at : ℕ) (b : List ℕ) (bt : ℕ) (old : List ℕ) where
  pub adding-starts : Adding n a at b bt old old 0
  adding-starts = record { from = λ x h. inl h; kept = λ x h. h; into = λ y z l m o h k. absurd (omega arith) }

  module _ (out : List ℕ) (i : ℕ) (w : Adding n a at b bt old out i) where
    wider : (x : ℕ) → holds out 0 x ≡ true
        → (holds old 0 x ≡ true) ⊎ ((y z : ℕ) × (y / 64 < n) × (z / 64 < i + 1) × (holds a at y ≡ true) × (holds b bt z ≡ true) × (x ≡ union y z))
    wider x h = ⊎_elim inl (λ f. inr (f.0, f.1, f.2, omega (arith, f.3), f.4, f.5, f.6)) (w.from x h)

    pub adding-skips : get_or b (bt + i) 0 ≡ 0 → Adding n a at b bt old out (i + 1)
    adding-skips none =
        record {
          from = wider;
          kept = w.kept;
          into =
              λ y z l m o h k.
              ⊎_elim (λ (t : ltb (z / 64) i ≡ true). w.into y z l (ltb-true (z / 64) i t) o h k)
              (λ (t : ltb (z / 64) i ≡ false).
              let here : z / 64 ≡ i = omega (arith, ltb-false (z / 64) i t, m) in
              clash k (at-word b bt z i here ∙ ap (λ (v : ℕ). has v (z % 64)) none ∙ none_has (z % 64)))
              (test (ltb (z / 64) i));
        }

    pub adding-more : (after : List ℕ) → Row n (get_or b (bt + i) 0) i a at out after → Adding n a at b bt old after (i + 1)
    adding-more after row =
        record {
          from =
              λ x h.
              ⊎_elim (wider x)
              (λ f.
              inr (
                f.1,
                i * 64 + f.0,
                f.3,
                omega (arith, f.2),
                f.5,
                of_word b bt i f.0 f.2 ∙ f.4,
                f.6 ∙ or_comm (i * 64 + f.0) f.1,
              ))
              (row.from x h);
          kept = λ x h. row.kept x (w.kept x h);
          into =
              λ y z l m o h k.
              ⊎_elim (λ (t : ltb (z / 64) i ≡ true). row.kept (union y z) (w.into y z l (ltb-true (z / 64) i t) o h k))
              (λ (t : ltb (z / 64) i ≡ false).
              let here : z / 64 ≡ i = omega (arith, ltb-false (z / 64) i t, m) in
              row.into (union y z) o (
                z % 64,
                y,
                mod-lt z (omega arith),
                l,
                sym (at-word b bt z i here) ∙ k,
                h,
                or_comm y z ∙ ap (λ (t : ℕ). union t y) (whole z i here),
              ))
              (test (ltb (z / 64) i));
        }

    pub adding-ends : i ≤ n → n ≤ i → UnitesInto n a at b bt old out
    adding-ends l m =
        record {
          from = λ x h. ⊎_elim inl (λ f. inr (f.0, f.1, f.2, omega (arith, f.3), f.4, f.5, f.6)) (w.from x h);
          kept = w.kept;
          into = λ y z l q o h k. w.into y z l (omega arith) o h k;
        }

-- families of one word
module _ (a : List ℕ) (at : ℕ) (b : List ℕ) (bt : ℕ) (old : List ℕ) where
  only-word : (words : List ℕ) (place y : ℕ) → y < 64 → holds words place y ≡ has (get_or words place 0) y
  only-word words place y l =
      let word : place + 0 ≡ place = omega arith in
      let bit : y % 64 ≡ y = omega arith in
      at-word words place y 0 (omega arith) ∙ ap (λ (k : ℕ). has (get_or words k 0) (y % 64)) word ∙ ap (has (get_or words place 0)) bit

  pub one_word : (l : 0 < length old) (r : ℕ) → Unites (get_or a at 0) (get_or b bt 0) r → UnitesInto 1 a at b bt old (set old 0 (bit_or (get_or old 0 0) r))
  one_word l r unites =
      record {
        from =
            λ x h.
            ⊎_elim inl
            (λ u.
            let f = unites.from (x % 64) (mod-lt x (omega arith)) u.1 in
            let same : x ≡ x % 64 = omega (arith, u.0) in
            inr (
              f.0,
              f.1,
              omega (arith, f.2),
              omega (arith, f.3),
              only-word a at f.0 f.2 ∙ f.4,
              only-word b bt f.1 f.3 ∙ f.5,
              same ∙ f.6,
            ))
            (joined-from old 0 l r x h);
        kept = joined-kept old 0 l r;
        into =
            λ y z m k o h g.
            let first : y < 64 = omega arith in
            let second : z < 64 = omega arith in
            let sum = union-below 6 y z first second in
            let same : union y z ≡ 0 * 64 + union y z = omega arith in
            ap (holds (set old 0 (bit_or (get_or old 0 0) r)) 0) same
            ∙ joined-into old 0 l r (union y z) sum
            (unites.into y z first second (sym (only-word a at y first) ∙ h) (sym (only-word b bt z second) ∙ g));
      }
