-- Areas of words: a set put in, and words that a loop writes one after another.
use Prim.Native.Nat.{ℕ, ◌+◌, ◌*◌, ◌-◌, ◌/◌, ◌%◌, ◌^◌, ◌<◌, ◌≤◌}
use native.Mathlib.Omega.{arith}
use native.Mathlib.Nat.{add-zero, mod-lt}
use mathlib.Core.Path.{◌≡◌, refl, sym, ap, ap₂, subst, ◌∙◌}
use mathlib.Core.Logic.{⊎_elim}
use mathlib.Core.Bool.{Bool, true, false, not, ◌&&◌, ◌||◌, or-false}
use mathlib.Core.List.{List}
use lib.ListN.{length, get_or, set, length-set}
use lib.Seq.{get_or-set_same, get_or-set_other}
use lib.Bits.{bit_and, bit_or, bit_xor}
use lib.Dec.{eqb}
use borrow.Author.Rules.{rules}
use borrow.Rule.Slice.PartMut.{put_mid}
use Rattle.std.proofs.lemmas.List.{places}
use borrow.Author.Tests.{eqb-true, eqb-false}
use Rattle.game.specs.Sets.{has}
use Rattle.game.specs.SetLaws.{none_has, single-has, has-single}
use Rattle.game.specs.ListLaws.{test, clash, conj, left_or, right_or}
use Rattle.family.specs.Family.{holds, Elsewhere, Put, Cleared, Copied, Joined, Without, TakenIn}
use Rattle.game.specs.DigitLaws.{has-or, has-less}
use Rattle.family.proofs.Digits.{digit_shift}
use Rattle.family.proofs.Places.{at_front}

pub holds-is : (words : List ℕ) (at x : ℕ) → eqb (get_or words (at + x / 64) 0 / 2 ^ (x % 64) % 2) 1 ≡ holds words at x
unfolding holds has
holds-is words at x = refl

-- the set of one state has no other
only : (q s : ℕ) → has (2 ^ q) s ≡ eqb s q
only q s =
    ⊎_elim
    (λ (t : eqb s q ≡ true). ap (has (2 ^ q)) (eqb-true s q t) ∙ single-has q ∙ sym t)
    (λ (t : eqb s q ≡ false).
    ⊎_elim (λ (u : has (2 ^ q) s ≡ true). absurd (eqb-false s q t (has-single q s u)))
    (λ (u : has (2 ^ q) s ≡ false). u ∙ sym t)
    (test (has (2 ^ q) s)))
    (test (eqb s q))

-- a set put in
pub put_in : (words : List ℕ) (at x : ℕ) → at + x / 64 < length words
    → Put words at x (set words (at + x / 64) (bit_or (get_or words (at + x / 64) 0) (1 * 2 ^ (x % 64) % 2 ^ 64)))
unfolding holds
put_in words at x l place y =
    let i = at + x / 64 in
    let j = place + y / 64 in
    let s = y % 64 in
    let more = 1 * 2 ^ (x % 64) % 2 ^ 64 in
    let w = bit_or (get_or words i 0) more in
    ⊎_elim
    (λ (t : eqb j i ≡ true).
    let same = eqb-true j i t in
    ap (λ (k : ℕ). has (get_or (set words i w) k 0) s) same
    ∙ ap (λ (z : ℕ). has z s) (get_or-set_same words i w 0 l)
    ∙ has-or (get_or words i 0) more s
    ∙ ap₂ ◌||◌ (ap (λ (k : ℕ). has (get_or words k 0) s) (sym same))
    (ap (λ (z : ℕ). has z s) (digit_shift (x % 64) (mod-lt x (omega arith)))
    ∙ only (x % 64) s
    ∙ sym (ap (◌&& eqb s (x % 64)) t)))
    (λ (t : eqb j i ≡ false).
    ap (λ (z : ℕ). has z s) (get_or-set_other words i j w 0 (eqb-false j i t))
    ∙ sym (ap (λ (b : Bool). has (get_or words j 0) s || (b && eqb s (x % 64))) t ∙ or-false (has (get_or words j 0) s)))
    (test (eqb j i))

-- The words from `to` on are written, those before place i already; the others are as they were.
pub record Walked (old : List ℕ) (to n : ℕ) (new : ℕ → ℕ) (words : List ℕ) (i : ℕ) : Type 0 where
  pub long : length words ≡ length old
  pub within : i ≤ n
  pub done : (j : ℕ) → j < i → get_or words (to + j) 0 ≡ new j
  pub under : (j : ℕ) → j < to → get_or words j 0 ≡ get_or old j 0
  pub over : (j : ℕ) → to + i ≤ j → get_or words j 0 ≡ get_or old j 0

pub walk-starts : (old : List ℕ) (to n : ℕ) (new : ℕ → ℕ) → Walked old to n new old 0
walk-starts old to n new =
    record {
      long = refl;
      within = omega arith;
      done = λ j l. absurd (omega arith);
      under = λ j l. refl;
      over = λ j l. refl;
    }

module _ (old : List ℕ) (to n : ℕ) (new : ℕ → ℕ) (words : List ℕ) (i : ℕ) (w : Walked old to n new words i) where
  -- the word at hand is as it was
  pub walk_here : get_or words (to + i) 0 ≡ get_or old (to + i) 0
  walk_here = w.over (to + i) (omega arith)

  pub walk-on : to + n ≤ length old → i < n → (v : ℕ) → v ≡ new i → Walked old to n new (set words (to + i) v) (i + 1)
  walk-on room l v is =
      record {
        long = rw length-set w.long;
        within = omega arith;
        done =
            λ j m.
            ⊎_elim
            (λ (t : eqb j i ≡ true).
            let same = eqb-true j i t in
            rw same (get_or-set_same words (to + i) v 0 (omega (arith, w.long)) ∙ is))
            (λ (t : eqb j i ≡ false).
            let no = eqb-false j i t in
            get_or-set_other words (to + i) (to + j) v 0 (λ e. omega (arith, no, e)) ∙ w.done j (omega (arith, no)))
            (test (eqb j i));
        under = λ j m. get_or-set_other words (to + i) j v 0 (λ e. omega arith) ∙ w.under j m;
        over = λ j m. get_or-set_other words (to + i) j v 0 (λ e. omega arith) ∙ w.over j (omega arith);
      }

  module _ (end : n ≤ i) where
    walked_here : (x : ℕ) → x / 64 < n → holds words to x ≡ has (new (x / 64)) (x % 64)
    unfolding holds
    walked_here x l = ap (λ (v : ℕ). has v (x % 64)) (w.done (x / 64) (omega arith))

    walked-else : Elsewhere to n old words
    unfolding holds
    walked-else place x away =
        ap (λ (v : ℕ). has v (x % 64))
        (⊎_elim (λ u. w.under (place + x / 64) u) (λ o. w.over (place + x / 64) (omega (arith, w.within, o))) away)

-- a part written whole
pub walk-part : (old : List ℕ) (to n k : ℕ) (new : ℕ → ℕ) (part : List ℕ) → to + n ≤ length old → k ≡ n → length part ≡ n
    → ((j : ℕ) → j < n → get_or part j 0 ≡ new j) → Walked old to n new (put_mid to k old part) n
walk-part old to n k new part room same long is =
    record {
      long = search (rules, places);
      within = omega arith;
      done = λ j l. search (rules, places, is j l);
      under = λ j l. search (rules, places);
      over = λ j l. search (rules, places);
    }

-- a family of one word is written at once
walk-one : (old : List ℕ) (to n : ℕ) (new : ℕ → ℕ) (v : ℕ) → n ≡ 1 → to + n ≤ length old → v ≡ new 0
    → Walked old to n new (set old to v) 1
walk-one old to n new v one room is =
    rw (add-zero to) at (walk-on old to n new old 0 (walk-starts old to n new) room (omega arith) v is)

-- the words of an emptied family, of one copied, of one joined with another, and of one without another's sets
abbrev pub none : ℕ → ℕ
none j = 0

abbrev pub copied : List ℕ → ℕ → ℕ → ℕ
copied others at j = get_or others (at + j) 0

abbrev pub joined : List ℕ → ℕ → List ℕ → ℕ → ℕ → ℕ
joined old to others at j = bit_or (get_or old (to + j) 0) (get_or others (at + j) 0)

abbrev pub without : List ℕ → ℕ → List ℕ → ℕ → ℕ → ℕ
without old to others at j = bit_xor (get_or old (to + j) 0) (bit_and (get_or old (to + j) 0) (get_or others (at + j) 0))

pub cleared-all : (old : List ℕ) (at n : ℕ) (words : List ℕ) (i : ℕ) → Walked old at n none words i → n ≤ i → Cleared old at n words
unfolding holds
cleared-all old at n words i w end =
    record {
      here =
          λ place x l m.
          let j = place + x / 64 - at in
          let same : place + x / 64 ≡ at + j = omega arith in
          ap (λ (k : ℕ). has (get_or words k 0) (x % 64)) same
          ∙ ap (λ (v : ℕ). has v (x % 64)) (w.done j (omega (arith, same)))
          ∙ none_has (x % 64);
      elsewhere = walked-else old at n none words i w end;
    }

module _ (old : List ℕ) (to n : ℕ) (others : List ℕ) (at : ℕ) (words : List ℕ) (i : ℕ) where
  pub copied_all : Walked old to n (copied others at) words i → n ≤ i → Copied old to n others at words
  unfolding holds
  copied_all w end =
      record {
        here = walked_here old to n (copied others at) words i w end;
        elsewhere = walked-else old to n (copied others at) words i w end;
      }

  pub joined-all : Walked old to n (joined old to others at) words i → n ≤ i → Joined old to n others at words
  unfolding holds
  joined-all w end =
      record {
        here =
            λ x l.
            walked_here old to n (joined old to others at) words i w end x l
            ∙ has-or (get_or old (to + x / 64) 0) (get_or others (at + x / 64) 0) (x % 64);
        elsewhere = walked-else old to n (joined old to others at) words i w end;
      }

  pub without_all : Walked old to n (without old to others at) words i → n ≤ i → Without old to n others at words
  unfolding holds
  without_all w end =
      record {
        here =
            λ x l.
            walked_here old to n (without old to others at) words i w end x l
            ∙ has-less (get_or old (to + x / 64) 0) (get_or others (at + x / 64) 0) (x % 64);
        elsewhere = walked-else old to n (without old to others at) words i w end;
      }

-- the words of a family without one at a place, and of that one with the first
abbrev pub fresh : List ℕ → List ℕ → ℕ → ℕ → ℕ
fresh d all to j = bit_xor (get_or d j 0) (bit_and (get_or d j 0) (get_or all (to + j) 0))

abbrev pub grown : List ℕ → List ℕ → ℕ → ℕ → ℕ
grown d all to j = bit_or (get_or all (to + j) 0) (fresh d all to j)

-- a family put into another, as the words that were not there joined to it
pub more-all : (n : ℕ) (d : List ℕ) (to : ℕ) (before all : List ℕ) (i : ℕ) → Walked before to n (grown d before to) all i → n ≤ i → Joined before to n d 0 all
unfolding holds
more-all n d to before all i w end =
    record {
      here =
          λ x l.
          walked_here before to n (grown d before to) all i w end x l
          ∙ has-or (get_or before (to + x / 64) 0) (fresh d before to (x / 64)) (x % 64)
          ∙ ap (has (get_or before (to + x / 64) 0) (x % 64) ||◌) (has-less (get_or d (x / 64) 0) (get_or before (to + x / 64) 0) (x % 64))
          ∙ gained (has (get_or before (to + x / 64) 0) (x % 64)) (has (get_or d (x / 64) 0) (x % 64))
          ∙ ap (holds before to x ||◌) (sym (at_front d x (x / 64) refl));
      elsewhere = walked-else before to n (grown d before to) all i w end;
    }
  where
    gained : (p q : Bool) → (p || (q && not p)) ≡ (p || q)
    gained true q = refl
    gained false true = refl
    gained false false = refl

pub taken-all : (n : ℕ) (d : List ℕ) (to : ℕ) (before all old new : List ℕ) (i : ℕ) → Walked before to n (grown d before to) all i
    → Walked old to n (fresh d before to) new i → n ≤ i → TakenIn n d to before all old new
unfolding holds
taken-all n d to before all old new i w v end =
    let j = more-all n d to before all i w end in
    record {
      here = j.here;
      fresh =
          λ x l.
          walked_here old to n (fresh d before to) new i v end x l
          ∙ has-less (get_or d (x / 64) 0) (get_or before (to + x / 64) 0) (x % 64)
          ∙ ap (◌&& not (holds before to x)) (sym (at_front d x (x / 64) refl));
      elsewhere = j.elsewhere;
      apart = walked-else old to n (fresh d before to) new i v end;
    }

-- The sets of the words before place i that were not there are digits of one word.
abbrev pub Missing : List ℕ → List ℕ → ℕ → ℕ → ℕ → Type 0
Missing d all to any i = (j s : ℕ) → j < i → has (fresh d all to j) s ≡ true → has any s ≡ true

pub missing-on : (d all words : List ℕ) (to any i : ℕ) → Missing d all to any i → get_or words (to + i) 0 ≡ get_or all (to + i) 0
    → Missing d all to (bit_or any (fresh d words to i)) (i + 1)
missing-on d all words to any i m same j s l h =
    has-or any (fresh d words to i) s
    ∙ ⊎_elim
    (λ (t : eqb j i ≡ true).
    right_or (has any s)
    (ap (λ (w : ℕ). has (bit_xor (get_or d i 0) (bit_and (get_or d i 0) w)) s) same ∙ ap (λ (k : ℕ). has (fresh d all to k) s) (sym (eqb-true j i t)) ∙ h))
    (λ (t : eqb j i ≡ false).
    let no = eqb-false j i t in
    left_or (has (fresh d words to i) s) (m j s (omega (arith, no, l)) h))
    (test (eqb j i))

pub is_zero : (n : ℕ) → not (eqb n 0) ≡ false → n ≡ 0
is_zero n e = ⊎_elim (λ (t : eqb n 0 ≡ true). eqb-true n 0 t) (λ (t : eqb n 0 ≡ false). clash (ap not t) e) (test (eqb n 0))

-- where that word is empty, every set was there
pub none-missing : (n : ℕ) (d all : List ℕ) (to any i : ℕ) → Missing d all to any i → n ≤ i → any ≡ 0 → (x : ℕ) → x / 64 < n → holds d 0 x ≡ true → holds all to x ≡ true
unfolding holds
none-missing n d all to any i m end e x l h =
    ⊎_elim
    (λ (t : has (get_or all (to + x / 64) 0) (x % 64) ≡ true). t)
    (λ (t : has (get_or all (to + x / 64) 0) (x % 64) ≡ false).
    clash
    (m (x / 64) (x % 64) (omega (arith, end, l))
    (has-less (get_or d (x / 64) 0) (get_or all (to + x / 64) 0) (x % 64) ∙ conj (sym (at_front d x (x / 64) refl) ∙ h) (ap not t)))
    (ap (λ (w : ℕ). has w (x % 64)) e ∙ none_has (x % 64)))
    (test (has (get_or all (to + x / 64) 0) (x % 64)))

-- two words and four, written one after another
walk-two : (old : List ℕ) (to n : ℕ) (new : ℕ → ℕ) → 2 ≤ n → to + n ≤ length old → (a b : ℕ) → a ≡ new 0 → b ≡ new 1
    → Walked old to n new (set (set old to a) (to + 1) b) 2
walk-two old to n new two room a b ea eb =
    let first : Walked old to n new (set old to a) 1 =
    subst (λ (k : ℕ). Walked old to n new (set old k a) 1) (add-zero to) (walk-on old to n new old 0 (walk-starts old to n new) room (omega arith) a ea) in
    walk-on old to n new (set old to a) 1 first room (omega arith) b eb

walk-four : (old : List ℕ) (to n : ℕ) (new : ℕ → ℕ) → n ≡ 4 → to + n ≤ length old → (a b c d : ℕ) → a ≡ new 0 → b ≡ new 1 → c ≡ new 2 → d ≡ new 3
    → Walked old to n new (set (set (set (set old to a) (to + 1) b) (to + 2) c) (to + 3) d) 4
walk-four old to n new four room a b c d ea eb ec ed =
    let second = walk-two old to n new (omega (arith, four)) room a b ea eb in
    let third = walk-on old to n new (set (set old to a) (to + 1) b) 2 second room (omega arith) c ec in
    walk-on old to n new (set (set (set old to a) (to + 1) b) (to + 2) c) 3 third room (omega arith) d ed

pub cleared-two : (old : List ℕ) (at n : ℕ) → n ≡ 2 → at + n ≤ length old → Cleared old at n (set (set old at 0) (at + 1) 0)
cleared-two old at n two room = cleared-all old at n _ 2 (walk-two old at n none (omega (arith, two)) room 0 0 refl refl) (omega arith)

pub cleared-four : (old : List ℕ) (at n : ℕ) → n ≡ 4 → at + n ≤ length old → Cleared old at n (set (set (set (set old at 0) (at + 1) 0) (at + 2) 0) (at + 3) 0)
cleared-four old at n four room = cleared-all old at n _ 4 (walk-four old at n none four room 0 0 0 0 refl refl refl refl) (omega arith)

pub copied-two : (old : List ℕ) (to n : ℕ) (others : List ℕ) (at : ℕ) → n ≡ 2 → to + n ≤ length old
    → Copied old to n others at (set (set old to (get_or others at 0)) (to + 1) (get_or others (at + 1) 0))
copied-two old to n others at two room =
    copied_all old to n others at _ 2 (walk-two old to n (copied others at) (omega (arith, two)) room _ _ (rw (add-zero at) refl) refl) (omega arith)

pub copied-four : (old : List ℕ) (to n : ℕ) (others : List ℕ) (at : ℕ) → n ≡ 4 → to + n ≤ length old
    → Copied old to n others at
    (set (set (set (set old to (get_or others at 0)) (to + 1) (get_or others (at + 1) 0)) (to + 2) (get_or others (at + 2) 0)) (to + 3) (get_or others (at + 3) 0))
copied-four old to n others at four room =
    copied_all old to n others at _ 4 (walk-four old to n (copied others at) four room _ _ _ _ (rw (add-zero at) refl) refl refl refl) (omega arith)

-- the same of families of one word, which are written at once
pub cleared-one : (old : List ℕ) (at n : ℕ) → n ≡ 1 → at + n ≤ length old → Cleared old at n (set old at 0)
cleared-one old at n one room = cleared-all old at n (set old at 0) 1 (walk-one old at n none 0 one room refl) (omega arith)

module _ (old : List ℕ) (to n : ℕ) (others : List ℕ) (at : ℕ) (one : n ≡ 1) (room : to + n ≤ length old) where
  pub copied-one : Copied old to n others at (set old to (get_or others at 0))
  copied-one =
      copied_all old to n others at _ 1
      (walk-one old to n (copied others at) _ one room (rw (add-zero at) refl))
      (omega arith)

  pub joined-one : Joined old to n others at (set old to (bit_or (get_or old to 0) (get_or others at 0)))
  joined-one =
      joined-all old to n others at _ 1
      (walk-one old to n (joined old to others at) _ one room (rw (add-zero to) (rw (add-zero at) refl)))
      (omega arith)

pub taken-one : (n : ℕ) (d : List ℕ) (to : ℕ) (all new : List ℕ) → n ≡ 1 → to + n ≤ length all → to + n ≤ length new
    → let v = bit_xor (get_or d 0 0) (bit_and (get_or d 0 0) (get_or all to 0)) in
    TakenIn n d to all (set all to (bit_or (get_or all to 0) v)) new (set new to v)
taken-one n d to all new one room more =
    taken-all n d to all _ new _ 1
    (walk-one all to n (grown d all to) _ one room (rw (add-zero to) refl))
    (walk-one new to n (fresh d all to) _ one more (rw (add-zero to) refl))
    (omega arith)

pub more-one : (n : ℕ) (d : List ℕ) (to : ℕ) (all : List ℕ) → n ≡ 1 → to + n ≤ length all
    → let v = bit_xor (get_or d 0 0) (bit_and (get_or d 0 0) (get_or all to 0)) in
    Joined all to n d 0 (set all to (bit_or (get_or all to 0) v))
more-one n d to all one room =
    more-all n d to all _ 1
    (walk-one all to n (grown d all to) _ one room (rw (add-zero to) refl))
    (omega arith)

pub none-missing-one : (n : ℕ) (d : List ℕ) (to : ℕ) (all : List ℕ) → n ≡ 1 → bit_xor (get_or d 0 0) (bit_and (get_or d 0 0) (get_or all to 0)) ≡ 0
    → (x : ℕ) → x / 64 < n → holds d 0 x ≡ true → holds all to x ≡ true
none-missing-one n d to all one e =
    none-missing n d all to (fresh d all to 0) 1
    (λ j s l h. let first : j ≡ 0 = omega arith in subst (λ (k : ℕ). has (fresh d all to k) s ≡ true) first h)
    (omega arith)
    (rw (add-zero to) e)

-- the words before place i have no set
pub empty-all : (words : List ℕ) (at n i : ℕ) → ((j : ℕ) → j < i → get_or words (at + j) 0 ≡ 0) → n ≤ i
    → (x : ℕ) → x / 64 < n → holds words at x ≡ false
unfolding holds
empty-all words at n i none_in end x l = ap (λ (v : ℕ). has v (x % 64)) (none_in (x / 64) (omega arith)) ∙ none_has (x % 64)

pub empty-one : (words : List ℕ) (at n : ℕ) → n ≡ 1 → get_or words at 0 ≡ 0 → (x : ℕ) → x / 64 < n → holds words at x ≡ false
empty-one words at n one none_in =
    empty-all words at n 1 (λ j l. let here : at + j ≡ at = omega arith in ap (λ (k : ℕ). get_or words k 0) here ∙ none_in) (omega arith)
