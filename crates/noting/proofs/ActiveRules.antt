-- Rules put into the sets of those that read something, and found there again: every step sets the bits that it is for and clears none.
use Prim.Native.Nat.{ℕ, ◌+◌, ◌*◌, ◌-◌, ◌/◌, ◌%◌, ◌<◌, ◌≤◌}
use native.Mathlib.Omega.{arith}
use mathlib.Core.Path.{◌≡◌, refl, sym, ap, ap₂, subst, ◌∙◌}
use mathlib.Core.Logic.{inl, inr, ⊎_elim}
use mathlib.Core.Bool.{Bool, true, false, not, ◌&&◌, ◌||◌}
use mathlib.Core.List.{List}
use lib.ListN.{length, get_or, set, length-set}
use lib.Seq.{get_or-set_same, get_or-set_other}
use lib.Bits.{bit_and, bit_or}
use lib.Dec.{eqb}
use borrow.Author.Tests.{eqb-true, eqb-false, eq-eqb}
use Rattle.game.specs.Sets.{has}
use Rattle.game.specs.SetLaws.{none_has}
use Rattle.game.specs.LowestLaws.{LowestOf, Cleared, cleared}
use Rattle.game.specs.ListLaws.{test, clash, conj, left_or, right_or}
use Rattle.family.specs.Family.{holds, Put, Joined}
use Rattle.game.specs.DigitLaws.{has-and, has-or}
use Rattle.noting.specs.Signs.{Reads, Left}
use Rattle.noting.specs.Reading.{Readable, Grows, Marked, Stays, Met, Summed, Started, FirstTo, SecondTo}

-- what holds below a number and of it holds below the next
up_to : (P : ℕ → Type 0) (r k : ℕ) → k < r + 1 → (k < r → P k) → P r → P k
up_to P r k l before here =
    ⊎_elim (λ (t : eqb k r ≡ true). subst P (sym (eqb-true k r t)) here)
    (λ (t : eqb k r ≡ false).
    let no = eqb-false k r t in
    before (omega (arith, no, l)))
    (test (eqb k r))

-- a rule put into a set
put-kept : (old : List ℕ) (at x : ℕ) (words : List ℕ) → Put old at x words → Grows old words
put-kept old at x words p place y h = p place y ∙ left_or (eqb (place + y / 64) (at + x / 64) && eqb (y % 64) (x % 64)) h

put-there : (old : List ℕ) (at x : ℕ) (words : List ℕ) → Put old at x words → holds words at x ≡ true
put-there old at x words p = p at x ∙ right_or (holds old at x) (conj (eq-eqb (at + x / 64) (at + x / 64) refl) (eq-eqb (x % 64) (x % 64) refl))

module _ (rules : List ℕ) (r : ℕ) where
  abbrev written : ℕ
  written = get_or rules (r * 6 + 3) 0

  pub marked-alone : (old words : List ℕ) → written ≡ 0 → Put old 640 r words → Marked rules r old words
  marked-alone old words e p =
      record {
        kept = put-kept old 640 r words p;
        start = λ l. absurd (omega (arith, e, l));
        above = λ l. absurd (omega (arith, e, l));
        below = λ l. absurd (omega (arith, e, l));
        alone = λ e. put-there old 640 r words p;
      }

  module _ (old one two : List ℕ) (q b : ℕ) (eq : q ≡ get_or rules (r * 6 + 2) 0) (eb : b ≡ get_or rules (r * 6 + 4) 0) (some : written ≡ 0 → ⊥) (p : Put old (q * 4) r one)
      (p' : Put one (128 + b * 4) r two) where
    marked_by : (words : List ℕ) → Grows two words → (1 < written → holds words (384 + get_or rules (r * 6 + 5) 0 * 4) r ≡ true) → Marked rules r old words
    marked_by words more low =
        record {
          kept = λ place x h. more place x (put-kept one (128 + b * 4) r two p' place x (put-kept old (q * 4) r one p place x h));
          start = λ l. subst (λ (k : ℕ). holds words (k * 4) r ≡ true) eq (more (q * 4) r (put-kept one (128 + b * 4) r two p' (q * 4) r (put-there old (q * 4) r one p)));
          above = λ l. subst (λ (k : ℕ). holds words (128 + k * 4) r ≡ true) eb (more (128 + b * 4) r (put-there one (128 + b * 4) r two p'));
          below = low;
          alone = λ e. absurd (some e);
        }

    pub marked-one : written ≡ 1 → Marked rules r old two
    marked-one e = marked_by two (λ place x h. h) (λ l. absurd (omega (arith, e, l)))

    pub marked-two : (words : List ℕ) (c : ℕ) → c ≡ get_or rules (r * 6 + 5) 0 → Put two (384 + c * 4) r words → Marked rules r old words
    marked-two words c ec p'' =
        marked_by words (put-kept two (384 + c * 4) r words p'')
        (λ l. subst (λ (k : ℕ). holds words (384 + k * 4) r ≡ true) ec (put-there two (384 + c * 4) r words p''))

-- one rule after another
pub reads_none : (rules readers : List ℕ) → Reads rules 0 readers
reads_none rules readers =
    record {
      start = λ r l. absurd (omega arith);
      above = λ r l. absurd (omega arith);
      below = λ r l. absurd (omega arith);
      alone = λ r l. absurd (omega arith);
    }

pub reads_on : (rules : List ℕ) (r : ℕ) (old readers : List ℕ) → Reads rules r old → Marked rules r old readers → Reads rules (r + 1) readers
reads_on rules r old readers s m =
    record {
      start =
          λ k l.
          up_to (λ (k : ℕ). 0 < get_or rules (k * 6 + 3) 0 → holds readers (get_or rules (k * 6 + 2) 0 * 4) k ≡ true) r k l
          (λ b w. m.kept (get_or rules (k * 6 + 2) 0 * 4) k (s.start k b w))
          m.start;
      above =
          λ k l.
          up_to (λ (k : ℕ). 0 < get_or rules (k * 6 + 3) 0 → holds readers (128 + get_or rules (k * 6 + 4) 0 * 4) k ≡ true) r k l
          (λ b w. m.kept (128 + get_or rules (k * 6 + 4) 0 * 4) k (s.above k b w))
          m.above;
      below =
          λ k l.
          up_to (λ (k : ℕ). 1 < get_or rules (k * 6 + 3) 0 → holds readers (384 + get_or rules (k * 6 + 5) 0 * 4) k ≡ true) r k l
          (λ b w. m.kept (384 + get_or rules (k * 6 + 5) 0 * 4) k (s.below k b w))
          m.below;
      alone =
          λ k l.
          up_to (λ (k : ℕ). get_or rules (k * 6 + 3) 0 ≡ 0 → holds readers 640 k ≡ true) r k l
          (λ b w. m.kept 640 k (s.alone k b w))
          m.alone;
    }

pub reads_all : (rules readers : List ℕ) (count r : ℕ) → Reads rules r readers → count ≤ r → Reads rules count readers
reads_all rules readers count r s l =
    record {
      start = λ k m. s.start k (omega (arith, l, m));
      above = λ k m. s.above k (omega (arith, l, m));
      below = λ k m. s.below k (omega (arith, l, m));
      alone = λ k m. s.alone k (omega (arith, l, m));
    }

pub readable : (rules : List ℕ) (count r : ℕ) → count * 6 ≤ length rules
    → ((r : ℕ) → r < count → (get_or rules (r * 6 + 2) 0 < 32) × (get_or rules (r * 6 + 4) 0 < 64) × (get_or rules (r * 6 + 5) 0 < 64)) → r < count → Readable rules r
readable rules count r l small m =
    let s = small r m in
    record { there = omega (arith, l, m); state = s.0; above = s.1; below = s.2 }

-- The words before w of a set have what two others have both, and what they had.
pub record Meeting (old some readers : List ℕ) (at : ℕ) (words : List ℕ) (w : ℕ) : Type 0 where
  pub long : length words ≡ length old
  pub within : w ≤ 4
  pub done : (j : ℕ) → j < w → get_or words j 0 ≡ bit_or (get_or old j 0) (bit_and (get_or some j 0) (get_or readers (at + j) 0))
  pub left : (j : ℕ) → w ≤ j → get_or words j 0 ≡ get_or old j 0

module _ (old some readers : List ℕ) (at : ℕ) where
  pub meeting-starts : Meeting old some readers at old 0
  meeting-starts = record { long = refl; within = omega arith; done = λ j l. absurd (omega arith); left = λ j l. refl }

  pub meeting-on : (words : List ℕ) (w : ℕ) → Meeting old some readers at words w → length old ≡ 4 → w < 4
      → Meeting old some readers at (set words w (bit_or (get_or words w 0) (bit_and (get_or some w 0) (get_or readers (at + w) 0)))) (w + 1)
  meeting-on words w m four l =
      let v = bit_or (get_or words w 0) (bit_and (get_or some w 0) (get_or readers (at + w) 0)) in
      record {
        long = rw length-set m.long;
        within = omega (arith, l);
        done =
            λ j lj.
            up_to (λ (j : ℕ). get_or (set words w v) j 0 ≡ bit_or (get_or old j 0) (bit_and (get_or some j 0) (get_or readers (at + j) 0))) w j lj
            (λ b. get_or-set_other words w j v 0 (λ e. omega (arith, e, b)) ∙ m.done j b)
            (get_or-set_same words w v 0 (omega (arith, four, l, m.long))
            ∙ ap (λ (k : ℕ). bit_or k (bit_and (get_or some w 0) (get_or readers (at + w) 0))) (m.left w (omega arith)));
        left = λ j lj. get_or-set_other words w j v 0 (λ e. omega (arith, e, lj)) ∙ m.left j (omega (arith, lj));
      }

  pub meeting-ends : (words : List ℕ) (w : ℕ) → Meeting old some readers at words w → 4 ≤ w → Met old some readers at words
  unfolding holds
  meeting-ends words w m end r l =
      let front : 0 + r / 64 ≡ r / 64 = omega arith in
      ap (λ (k : ℕ). has (get_or words k 0) (r % 64)) front
      ∙ ap (λ (k : ℕ). has k (r % 64)) (m.done (r / 64) (omega (arith, l, end)))
      ∙ has-or (get_or old (r / 64) 0) (bit_and (get_or some (r / 64) 0) (get_or readers (at + r / 64) 0)) (r % 64)
      ∙ ap₂ ◌||◌ (ap (λ (k : ℕ). has (get_or old k 0) (r % 64)) (sym front))
      (has-and (get_or some (r / 64) 0) (get_or readers (at + r / 64) 0) (r % 64)
      ∙ ap (λ (k : ℕ). has (get_or some k 0) (r % 64) && has (get_or readers (at + r / 64) 0) (r % 64)) (sym front))

-- The letters of a word that are passed are summed.
pub record Summing (word : ℕ) (readers old : List ℕ) (rest : ℕ) (sum : List ℕ) : Type 0 where
  pub long : length sum ≡ length old
  pub done : (b r : ℕ) → b < 64 → r < 256 → has word b ≡ true → has rest b ≡ false → holds readers (128 + b * 4) r ≡ true → holds sum 0 r ≡ true

module _ (word : ℕ) (readers old : List ℕ) where
  pub summing-starts : Summing word readers old word old
  summing-starts = record { long = refl; done = λ b r lb lr on off h. clash on off }

  pub summing_on : (rest s : ℕ) (sum sum' : List ℕ) → Summing word readers old rest sum → 0 < rest → LowestOf 64 rest s → Joined sum 0 4 readers (128 + s * 4) sum'
      → length sum' ≡ length sum → Summing word readers old (bit_and rest (rest - 1)) sum'
  summing_on rest s sum sum' m some low j long =
      record {
        long = long ∙ m.long;
        done =
            λ b r lb lr on off h.
            j.here r (omega (arith, lr))
            ∙ ⊎_elim
            (λ (t : eqb b s ≡ true).
            right_or (holds sum 0 r) (subst (λ (k : ℕ). holds readers (128 + k * 4) r ≡ true) (eqb-true b s t) h))
            (λ (t : eqb b s ≡ false).
            left_or (holds readers (128 + s * 4) r) (m.done b r lb lr on (sym (gone.kept b (eqb-false b s t)) ∙ off) h))
            (test (eqb b s));
      }
    where
      gone : Cleared rest s (bit_and rest (rest - 1))
      gone = cleared s rest some low.member low.below

  pub summing-ends : (rest : ℕ) (sum : List ℕ) → Summing word readers old rest sum → rest ≡ 0 → Summed word readers sum
  summing-ends rest sum m e b r lb lr on h = m.done b r lb lr on (ap (λ (k : ℕ). has k b) e ∙ none_has b) h

-- the rules of one state
pub started_none : (word at : ℕ) (readers old : List ℕ) → word ≡ 0 → Started word at readers old old
started_none word at readers old e = record { kept = λ r l h. h; set = λ b r lb lr on q a. clash on (ap (λ (k : ℕ). has k b) e ∙ none_has b) }

pub started-some : (word at : ℕ) (readers sum old active : List ℕ) → Summed word readers sum → Met old sum readers at active → Started word at readers old active
started-some word at readers sum old active s m =
    record {
      kept = λ r l h. m r l ∙ left_or (holds sum 0 r && holds readers at r) h;
      set = λ b r lb lr on q a. m r lr ∙ right_or (holds old 0 r) (conj (s b r lb lr on a) q);
    }

-- one state after another
pub first-none : (news readers old : List ℕ) → FirstTo 0 news readers old old
first-none news readers old = record { kept = λ r l h. h; set = λ p b r l. absurd (omega arith) }

pub first_on : (q : ℕ) (news readers old active active' : List ℕ) → FirstTo q news readers old active → Started (get_or news q 0) (q * 4) readers active active'
    → FirstTo (q + 1) news readers old active'
first_on q news readers old active active' f s =
    record {
      kept = λ r l h. s.kept r l (f.kept r l h);
      set =
          λ p b r l lb lr.
          up_to (λ (p : ℕ). has (get_or news p 0) b ≡ true → holds readers (p * 4) r ≡ true → holds readers (128 + b * 4) r ≡ true → holds active' 0 r ≡ true) q p l
          (λ k on to a. s.kept r lr (f.set p b r k lb lr on to a))
          (λ on to a. s.set b r lb lr on to a);
    }

pub first-all : (states q : ℕ) (news readers old active : List ℕ) → FirstTo q news readers old active → states ≤ q → FirstTo states news readers old active
first-all states q news readers old active f l = record { kept = f.kept; set = λ p b r m. f.set p b r (omega (arith, l, m)) }

-- one letter after another
pub second_none : (fresh readers held old : List ℕ) → SecondTo 0 fresh readers held old old
second_none fresh readers held old = record { kept = λ r l h. h; set = λ b r l. absurd (omega arith) }

pub second-all : (letters c : ℕ) (fresh readers held old active : List ℕ) → SecondTo c fresh readers held old active → letters ≤ c → SecondTo letters fresh readers held old active
second-all letters c fresh readers held old active s l = record { kept = s.kept; set = λ b r m. s.set b r (omega (arith, l, m)) }

module _ (c : ℕ) (fresh readers held old active : List ℕ) (s : SecondTo c fresh readers held old active) where
  pub second-skip : get_or fresh c 0 ≡ 0 → SecondTo (c + 1) fresh readers held old active
  second-skip e =
      record {
        kept = s.kept;
        set =
            λ b r l lr.
            up_to (λ (b : ℕ). (get_or fresh b 0 ≡ 0 → ⊥) → holds held 0 r ≡ true → holds readers (384 + b * 4) r ≡ true → holds active 0 r ≡ true) c b l
            (λ k. s.set b r k lr)
            (λ some. absurd (some e));
      }

  pub second-on : (active' : List ℕ) → Met active held readers (384 + c * 4) active' → SecondTo (c + 1) fresh readers held old active'
  second-on active' m =
      record {
        kept = λ r l h. up r l (s.kept r l h);
        set =
            λ b r l lr.
            up_to (λ (b : ℕ). (get_or fresh b 0 ≡ 0 → ⊥) → holds held 0 r ≡ true → holds readers (384 + b * 4) r ≡ true → holds active' 0 r ≡ true) c b l
            (λ k some on low. up r lr (s.set b r k lr some on low))
            (λ some on low. m r lr ∙ right_or (holds active 0 r) (conj on low));
      }
    where
      up : (r : ℕ) → r < 256 → holds active 0 r ≡ true → holds active' 0 r ≡ true
      up r l h = m r l ∙ left_or (holds held 0 r && holds readers (384 + c * 4) r) h

-- why a rule is passed over
module _ (states letters : ℕ) (news fresh readers : List ℕ) (is-first : Bool) (held held' before one two : List ℕ) (first : FirstTo states news readers before one)
    (joined : Joined held 0 4 one 0 held') (second : SecondTo letters fresh readers held' one two) where
  left_by : (active : List ℕ) → Stays two active → (is-first ≡ true → (r : ℕ) → r < 256 → holds readers 640 r ≡ true → holds active 0 r ≡ true)
      → (rules : List ℕ) (count r : ℕ) → Reads rules count readers → r < count → r < 256 → get_or rules (r * 6 + 2) 0 < states → get_or rules (r * 6 + 4) 0 < 64 → get_or rules (r * 6 + 5) 0 < letters
      → Left rules r news fresh is-first held held' active
  left_by active more all rules count r reads lr few lq lb lc =
      record {
        alone =
            λ off e.
            ⊎_elim (λ (t : is-first ≡ true). clash (all t r few (reads.alone r lr e)) off) (λ (t : is-first ≡ false). t) (test is-first);
        first =
            λ off w.
            ⊎_elim (λ (t : has word b ≡ true). clash (more r few (second.kept r few (new w t))) off) (λ (t : has word b ≡ false). t) (test (has word b));
        second =
            λ off w.
            ⊎_elim
            (λ (t : holds held' 0 r ≡ true).
            ⊎_elim (λ (u : eqb (get_or fresh c 0) 0 ≡ true). inl (eqb-true (get_or fresh c 0) 0 u))
            (λ (u : eqb (get_or fresh c 0) 0 ≡ false).
            clash (more r few (second.set c r lc few (eqb-false (get_or fresh c 0) 0 u) t (reads.below r lr w))) off)
            (test (eqb (get_or fresh c 0) 0)))
            (λ (t : holds held' 0 r ≡ false). inr t)
            (test (holds held' 0 r));
        kept =
            λ off w. (
              ⊎_elim (λ (t : holds held 0 r ≡ true). clash (joined.here r four ∙ left_or (holds one 0 r) t) off) (λ (t : holds held 0 r ≡ false). t) (test (holds held 0 r)),
              ⊎_elim (λ (t : has word b ≡ true). clash (joined.here r four ∙ right_or (holds held 0 r) (new w t)) off) (λ (t : has word b ≡ false). t) (test (has word b)),
            );
      }
    where
      b : ℕ
      b = get_or rules (r * 6 + 4) 0

      c : ℕ
      c = get_or rules (r * 6 + 5) 0

      word : ℕ
      word = get_or news (get_or rules (r * 6 + 2) 0) 0

      four : r / 64 < 4
      four = omega (arith, few)

      new : 0 < get_or rules (r * 6 + 3) 0 → has word b ≡ true → holds one 0 r ≡ true
      new w t = first.set (get_or rules (r * 6 + 2) 0) b r lq lb few t (reads.start r lr w) (reads.above r lr w)

  pub left-later : not is-first ≡ true
      → (rules : List ℕ) (count r : ℕ) → Reads rules count readers → r < count → r < 256 → get_or rules (r * 6 + 2) 0 < states → get_or rules (r * 6 + 4) 0 < 64 → get_or rules (r * 6 + 5) 0 < letters
      → Left rules r news fresh is-first held held' two
  left-later e = left_by two (λ r l h. h) (λ t r l h. clash e (ap not t))

  pub left-first : (active : List ℕ) → Joined two 0 4 readers 640 active
      → (rules : List ℕ) (count r : ℕ) → Reads rules count readers → r < count → r < 256 → get_or rules (r * 6 + 2) 0 < states → get_or rules (r * 6 + 4) 0 < 64 → get_or rules (r * 6 + 5) 0 < letters
      → Left rules r news fresh is-first held held' active
  left-first active j =
      left_by active (λ r l h. j.here r (omega (arith, l)) ∙ left_or (holds readers 640 r) h) (λ t r l h. j.here r (omega (arith, l)) ∙ right_or (holds two 0 r) h)
