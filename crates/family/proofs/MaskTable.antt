-- The table of masks, word by word.
-- A set contains x if it has each state of x, and is inside x if it has no other: so the words of both kinds start with all sets, and
-- state by state lose those without a state of x, or those with one that x lacks.
use Prim.Native.Nat.{ℕ, zero, suc, ◌+◌, ◌*◌, ◌/◌, ◌%◌, ◌<◌}
use native.Mathlib.Omega.{arith}
use mathlib.Core.Path.{◌≡◌, refl, sym, ap, ◌∙◌}
use mathlib.Core.Bool.{Bool, true, false, not, ◌&&◌, ◌||◌, and-true, or-false}
use mathlib.Core.List.{List}
use lib.ListN.{length, get_or}
use lib.Arith.{digits_div, digits_mod}
use lib.Bits.{bit_and, bit_xor, or_comm}
use lib.Dec.{eqb}
use borrow.Author.Tests.{eqb-true}
use Rattle.game.specs.Sets.{has}
use Rattle.game.specs.SetLaws.{none_has}
use Rattle.game.specs.ListLaws.{all_below-at}
use Rattle.game.specs.Questions.{all_below}
use Rattle.family.specs.Masks.{Raising}
use Rattle.game.specs.DigitLaws.{has-and, has-less}
use Rattle.family.proofs.Digits.{zero-sets, one-sets, two-sets, three-sets, four-sets, five-sets}
use Rattle.family.proofs.Entries.{every, every-at}
use Rattle.family.proofs.Inside.{inside, inside-none, inside-more, inside_is}

-- the word of all sets
full-has : (s : ℕ) → s < 64 → has 18446744073709551615 s ≡ true
unfolding has all_below
full-has = all_below-at 64 (has 18446744073709551615) refl

-- the sets below 64 with a state below 6
abbrev pub mask : ℕ → ℕ
mask zero = 12297829382473034410
mask (suc zero) = 14757395258967641292
mask (suc (suc zero)) = 17361641481138401520
mask (suc (suc (suc zero))) = 18374966859414961920
mask (suc (suc (suc (suc zero)))) = 18446462603027742720
mask (suc (suc (suc (suc (suc e))))) = 18446744069414584320

mask-has : (e s : ℕ) → e < 6 → s < 64 → has (mask e) s ≡ has s e
mask-has zero s l = zero-sets s
mask-has (suc zero) s l = one-sets s
mask-has (suc (suc zero)) s l = two-sets s
mask-has (suc (suc (suc zero))) s l = three-sets s
mask-has (suc (suc (suc (suc zero)))) s l = four-sets s
mask-has (suc (suc (suc (suc (suc zero))))) s l = five-sets s
mask-has (suc (suc (suc (suc (suc (suc e)))))) s l = absurd (omega arith)

-- What a state adds to each kind of word, by whether x has it and by the sets that have it: the state's own word, the sets that contain
-- x as far as the states before are known, and the sets that x contains.
abbrev pub own : Bool → ℕ → ℕ
own true m = m
own false m = 0

own-has : (b c : Bool) (m s : ℕ) → has m s ≡ c → has (own b m) s ≡ (b && c)
own-has true c m s h = h
own-has false c m s h = none_has s

abbrev pub containing : Bool → ℕ → ℕ → ℕ
containing true v m = bit_and v m
containing false v m = v

containing-has : (b c : Bool) (v m s : ℕ) → has m s ≡ c → has (containing b v m) s ≡ (has v s && (not b || c))
containing-has true c v m s h = has-and v m s ∙ ap (has v s &&◌) h
containing-has false c v m s h = sym (and-true (has v s))

abbrev pub contained : Bool → ℕ → ℕ → ℕ
contained true v m = v
contained false v m = bit_xor v (bit_and v m)

contained-has : (b c : Bool) (v m s : ℕ) → has m s ≡ c → has (contained b v m) s ≡ (has v s && (not c || b))
contained-has true true v m s h = sym (and-true (has v s))
contained-has true false v m s h = sym (and-true (has v s))
contained-has false c v m s h =
    has-less v m s ∙ ap (λ (b : Bool). has v s && not b) h ∙ sym (ap (has v s &&◌) (or-false (not c)))

-- the sets that have the states of x below e, and those that have no state below e that x lacks
abbrev pub over : ℕ → ℕ → ℕ
over x zero = 18446744073709551615
over x (suc e) = containing (has x e) (over x e) (mask e)

over-has : (x e s : ℕ) → e < 7 → s < 64 → has (over x e) s ≡ inside e x s
over-has x zero s l m = full-has s m ∙ sym (inside-none x s)
over-has x (suc e) s l m =
    containing-has (has x e) (has s e) (over x e) (mask e) s (mask-has e s (omega arith) m)
    ∙ ap (◌&& (not (has x e) || has s e)) (over-has x e s (omega arith) m)
    ∙ sym (inside-more e x s)

abbrev pub under : ℕ → ℕ → ℕ
under x zero = 18446744073709551615
under x (suc e) = contained (has x e) (under x e) (mask e)

under-has : (x e s : ℕ) → e < 7 → s < 64 → has (under x e) s ≡ inside e s x
under-has x zero s l m = full-has s m ∙ sym (inside-none s x)
under-has x (suc e) s l m =
    contained-has (has x e) (has s e) (under x e) (mask e) s (mask-has e s (omega arith) m)
    ∙ ap (◌&& (not (has s e) || has x e)) (under-has x e s (omega arith) m)
    ∙ sym (inside-more e s x)

-- word k of set x
abbrev pub word : ℕ → ℕ → ℕ
word x zero = own (has x 0) (mask 0)
word x (suc zero) = own (has x 1) (mask 1)
word x (suc (suc zero)) = own (has x 2) (mask 2)
word x (suc (suc (suc zero))) = own (has x 3) (mask 3)
word x (suc (suc (suc (suc zero)))) = own (has x 4) (mask 4)
word x (suc (suc (suc (suc (suc zero))))) = own (has x 5) (mask 5)
word x (suc (suc (suc (suc (suc (suc zero)))))) = over x 6
word x (suc (suc (suc (suc (suc (suc (suc k))))))) = under x 6

word-own : (x k : ℕ) → k < 6 → word x k ≡ own (has x k) (mask k)
word-own x zero l = refl
word-own x (suc zero) l = refl
word-own x (suc (suc zero)) l = refl
word-own x (suc (suc (suc zero))) l = refl
word-own x (suc (suc (suc (suc zero)))) l = refl
word-own x (suc (suc (suc (suc (suc zero))))) l = refl
word-own x (suc (suc (suc (suc (suc (suc k)))))) l = absurd (omega arith)

-- entry i of the table is the word of its set
unfoldable pub right : ℕ → ℕ → Bool
right i v = eqb v (word (i / 8) (i % 8))

module _ (table : List ℕ) (long : length table ≡ 512) (all : every right 0 table ≡ true) where
  word_at : (x k : ℕ) → x < 64 → k < 8 → get_or table (x * 8 + k) 0 ≡ word x k
  unfolding right
  word_at x k l m =
      eqb-true (get_or table (x * 8 + k) 0) (word ((x * 8 + k) / 8) ((x * 8 + k) % 8))
      (every-at right table all (x * 8 + k) (omega (arith, long)))
      ∙ ap (λ (y : ℕ). word y ((x * 8 + k) % 8)) (digits_div x m)
      ∙ ap (word x) (digits_mod x m)

  -- a table whose entries pass the test has the words of every set
  pub raising : Raising table
  raising =
      record {
        masks =
            λ x l.
            record {
              step =
                  λ e s k m.
                  ap (λ (z : ℕ). has z s) (word_at x e l (omega arith) ∙ word-own x e k)
                  ∙ own-has (has x e) (has s e) (mask e) s (mask-has e s k m);
              over =
                  λ s m.
                  ap (λ (z : ℕ). has z s) (word_at x 6 l (omega arith))
                  ∙ over-has x 6 s (omega arith) m
                  ∙ inside_is 6 x s l m;
              under =
                  λ s m.
                  ap (λ (z : ℕ). has z s) (word_at x 7 l (omega arith))
                  ∙ under-has x 6 s (omega arith) m
                  ∙ inside_is 6 s x m l
                  ∙ ap (λ (z : ℕ). eqb z x) (or_comm x s);
            };
      }
