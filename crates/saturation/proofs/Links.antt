-- Rules linked from the last one down, and the rules of a head as a list of numbers.
use Prim.Native.Nat.{ℕ, suc, ◌+◌, ◌*◌, ◌<◌, ◌≤◌}
use native.Mathlib.Omega.{arith}
use mathlib.Core.Path.{◌≡◌, refl, sym, ap, subst, ◌∙◌}
use mathlib.Core.Logic.{⊎_elim}
use mathlib.Core.Bool.{true, false, true≢false}
use mathlib.Core.List.{List}
use lib.ListN.{length, get_or, set}
use lib.Seq.{get_or-set_same, get_or-set_other}
use lib.Arith.{digits_lt}
use lib.Dec.{eqb}
use borrow.Author.Tests.{eqb-true, eqb-false, eq-eqb}
use Rattle.game.specs.Game.{of_head}
use Rattle.game.specs.Stored.{rule_at}
use Rattle.game.specs.ListLaws.{test, both, conj}
use Rattle.rounds.specs.Scans.{NextRule}
use Rattle.saturation.specs.RuleLinks.{Linked, LinkedFrom, Climbs}
use Rattle.noting.specs.HeadNumbers.{same_head}

module _ (rules : List ℕ) (count letters control : ℕ) where
  -- no rule is linked yet
  pub unlinked : (firsts nexts : List ℕ) → control * letters ≤ length firsts → ((i : ℕ) → i < length firsts → get_or firsts i 0 ≡ count)
      → LinkedFrom rules count letters control firsts nexts count
  unlinked firsts nexts l f =
      record {
        first =
            λ p a lp la.
            subst (NextRule rules count count p a) (sym (f (p * letters + a) (omega (arith, l, digits_lt lp la))))
            (record {
              after = omega arith;
              within = omega arith;
              skipped = λ k i j. absurd (omega arith);
              found = λ m. absurd (omega arith);
            });
        next = λ r p a i j h. absurd (omega arith);
      }

  pub all-linked : (firsts nexts : List ℕ) → LinkedFrom rules count letters control firsts nexts 0 → Linked rules count letters control firsts nexts
  all-linked firsts nexts l = record { first = l.first; next = λ r p a m h. l.next r p a (omega arith) m h }

  -- a rule that is not of the head is passed over
  passed_over : (r p a x : ℕ) → of_head p a (rule_at rules (r * 6) 0) ≡ false → NextRule rules count (suc r) p a x → NextRule rules count r p a x
  passed_over r p a x off n =
      record {
        after = omega (arith, n.after);
        within = n.within;
        skipped =
            λ k l m.
            ⊎_elim
            (λ (t : eqb k r ≡ true). ap (λ (j : ℕ). of_head p a (rule_at rules (j * 6) 0)) (eqb-true k r t) ∙ off)
            (λ (t : eqb k r ≡ false). n.skipped k (omega (arith, eqb-false k r t)) m)
            (test (eqb k r));
        found = n.found;
      }

  -- rule r is one of head (p, a) if these are its first two bytes
  pub own : (r p a : ℕ) → get_or rules (r * 6) 0 ≡ p → get_or rules (r * 6 + 1) 0 ≡ a → of_head p a (rule_at rules (r * 6) 0) ≡ true
  unfolding of_head
  own r p a e f = conj (eq-eqb (get_or rules (r * 6) 0) p e) (eq-eqb (get_or rules (r * 6 + 1) 0) a f)

  whose : (r p a : ℕ) → of_head p a (rule_at rules (r * 6) 0) ≡ true → (get_or rules (r * 6) 0 ≡ p) × (get_or rules (r * 6 + 1) 0 ≡ a)
  unfolding of_head
  whose r p a h =
      let b = both (eqb (get_or rules (r * 6) 0) p) (eqb (get_or rules (r * 6 + 1) 0) a) h in
      (eqb-true (get_or rules (r * 6) 0) p b.0, eqb-true (get_or rules (r * 6 + 1) 0) a b.1)

  pub climbs : (firsts nexts : List ℕ) → Linked rules count letters control firsts nexts → Climbs nexts count
  climbs firsts nexts l r h =
      (l.next r (get_or rules (r * 6) 0) (get_or rules (r * 6 + 1) 0) h (own r (get_or rules (r * 6) 0) (get_or rules (r * 6 + 1) 0) refl refl)).after

  module _ (firsts nexts : List ℕ) (r : ℕ) (l : r < count) (long : r < length nexts) (from : LinkedFrom rules count letters control firsts nexts (r + 1)) where
    abbrev p : ℕ
    p = get_or rules (r * 6) 0

    abbrev a : ℕ
    a = get_or rules (r * 6 + 1) 0

    at_once : (q b x : ℕ) → NextRule rules count (r + 1) q b x → NextRule rules count (suc r) q b x
    at_once q b x n = let e : r + 1 ≡ suc r = omega arith in subst (λ (m : ℕ). NextRule rules count m q b x) e n

    -- the next of every rule from r on, that of r being given
    nexts-on : (x : ℕ) → NextRule rules count (r + 1) p a x → (s q b : ℕ) → r ≤ s → s < count → of_head q b (rule_at rules (s * 6) 0) ≡ true
        → NextRule rules count (suc s) q b (get_or (set nexts r x) s 0)
    nexts-on x n s q b low high h =
        ⊎_elim
        (λ (t : eqb s r ≡ true).
        let e = eqb-true s r t in
        let w = whose r q b (subst (λ (j : ℕ). of_head q b (rule_at rules (j * 6) 0) ≡ true) e h) in
        subst (λ (j : ℕ). NextRule rules count (suc j) q b (get_or (set nexts r x) j 0)) (sym e)
        (subst (NextRule rules count (suc r) q b) (sym (get_or-set_same nexts r x 0 long))
        (at_once q b x (rw (sym w.0, sym w.1) n))))
        (λ (t : eqb s r ≡ false).
        let o = eqb-false s r t in
        subst (NextRule rules count (suc s) q b) (sym (get_or-set_other nexts r s x 0 o)) (from.next s q b (omega (arith, o)) high h))
        (test (eqb s r))

    -- a head that is not kept
    pub linked-beyond : (x : ℕ) → NextRule rules count (r + 1) p a x → (p < control → a < letters → ⊥) → LinkedFrom rules count letters control firsts (set nexts r x) r
    linked-beyond x n kept =
        record {
          first =
              λ q b lq lb.
              ⊎_elim
              (λ (t : of_head q b (rule_at rules (r * 6) 0) ≡ true).
              let w = whose r q b t in
              absurd (kept (omega (arith, w.0)) (omega (arith, w.1))))
              (λ (t : of_head q b (rule_at rules (r * 6) 0) ≡ false).
              passed_over r q b (get_or firsts (q * letters + b) 0) t (at_once q b (get_or firsts (q * letters + b) 0) (from.first q b lq lb)))
              (test (of_head q b (rule_at rules (r * 6) 0)));
          next = nexts-on x n;
        }

    linked_on : p < control → a < letters → p * letters + a < length firsts
        → LinkedFrom rules count letters control (set firsts (p * letters + a) r) (set nexts r (get_or firsts (p * letters + a) 0)) r
    linked_on lp la room =
        record {
          first =
              λ q b lq lb.
              ⊎_elim
              (λ (t : of_head q b (rule_at rules (r * 6) 0) ≡ true).
              let w = whose r q b t in
              let e : q * letters + b ≡ p * letters + a = rw (w.0, w.1) in
              subst (NextRule rules count r q b) (sym (ap (λ (j : ℕ). get_or (set firsts (p * letters + a) r) j 0) e ∙ get_or-set_same firsts (p * letters + a) r 0 room))
              (record {
                after = omega arith;
                within = omega arith;
                skipped = λ k i j. absurd (omega arith);
                found = λ m. t;
              }))
              (λ (t : of_head q b (rule_at rules (r * 6) 0) ≡ false).
              let apart : q * letters + b ≡ p * letters + a → ⊥ = λ e. differ q b lb lq t e in
              subst (NextRule rules count r q b) (sym (get_or-set_other firsts (p * letters + a) (q * letters + b) r 0 apart))
              (passed_over r q b (get_or firsts (q * letters + b) 0) t (at_once q b (get_or firsts (q * letters + b) 0) (from.first q b lq lb))))
              (test (of_head q b (rule_at rules (r * 6) 0)));
          next = nexts-on (get_or firsts (p * letters + a) 0) (from.first p a lp la);
        }
      where
        differ : (q b : ℕ) → b < letters → q < control → of_head q b (rule_at rules (r * 6) 0) ≡ false → q * letters + b ≡ p * letters + a → ⊥
        differ q b lb lq t e = let s = same_head q b p a letters lb la e in true≢false (sym (own r q b (sym s.0) (sym s.1)) ∙ t)

    -- state and letter as the code has them
    pub linked-at : (state letter : ℕ) → state ≡ p → letter ≡ a → state < control → letter < letters → state * letters + letter < length firsts
        → LinkedFrom rules count letters control (set firsts (state * letters + letter) r) (set nexts r (get_or firsts (state * letters + letter) 0)) r
    linked-at state letter es el ls ll room =
        let same : state * letters + letter ≡ p * letters + a = ap (λ (v : ℕ). v * letters + letter) es ∙ ap (λ (v : ℕ). p * letters + v) el in
        rw same (linked_on (omega (arith, es, ls)) (omega (arith, el, ll)) (omega (arith, same, room)))

-- where a loop from the last rule down stands
pub none_left : {rules : List ℕ} {count letters control : ℕ} {firsts nexts : List ℕ} (r : ℕ) → r ≤ 0 → LinkedFrom rules count letters control firsts nexts r → LinkedFrom rules count letters control firsts nexts 0
none_left {rules} {count} {letters} {control} {firsts} {nexts} r h l = let e : r ≡ 0 = omega arith in subst (LinkedFrom rules count letters control firsts nexts) e l
