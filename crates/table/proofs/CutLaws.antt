-- Question 13 in parts: words that are cut between two entries are checked part by part, the second part with its first index and the
-- entry before it known.
use Prim.Native.Nat.{ℕ, zero, suc, ◌+◌, ◌*◌, ◌-◌, ◌/◌, ◌<◌, ◌≤◌}
use native.Mathlib.Omega.{arith}
use Rattle.std.proofs.Math.Nat.{add-zero}
use Rattle.std.specs.Prelude.{◌≡◌, refl, Bool, true, false, cond, ◌&&◌, length, drop, leb}
use Rattle.std.proofs.Common.{sym, ◌∙◌, take-append-drop, length-take-le, leb-true}
use Rattle.std.proofs.Math.Path.{ap}
use mathlib.Core.List.{List, [], ◌∷◌, ◌++◌}
use Rattle.std.proofs.Math.ListN.{get_or, take}
use Rattle.std.proofs.Math.Seq.{get_or-take}
use Rattle.game.specs.Limits.{max_entries}
use Rattle.game.specs.ListLaws.{both}
use Rattle.game.specs.Game.{PushdownGame}
use Rattle.game.specs.Outcome.{Outcome, done, refused, after, said}
use Rattle.std.specs.Prelude.{Result}
use Rattle.game.specs.declared.refusal.Refusal.{Refusal}
use Rattle.table.specs.Table.{entry_stride, length_in_form, follows, passes, form_from, table_form}
use Rattle.table.specs.Rows.{words_at}
use Rattle.table.specs.declared.entry.EntryWords.{EntryWords}

-- 13 from an index on, the words before it in hand, by a test of an entry's words at an index beside those before them. A layout of
-- three words an entry has a test of its own.
unfoldable pub form_by : (ℕ → ℕ → ℕ → ℕ → ℕ → ℕ → ℕ → Bool) → ℕ → ℕ → ℕ → ℕ → List ℕ → Outcome (Unit {0})
form_by test i a b c [] = done tt
form_by test i a b c (x ∷ []) = done tt
form_by test i a b c (x ∷ y ∷ []) = done tt
form_by test i a b c (x ∷ y ∷ z ∷ words) =
    let rest = form_by test (i + 1) x y z words in
    cond (test i a b c x y z) rest (refused 13 i)

-- question 13 is that of its own test
pub by-passes : (g : PushdownGame) (i a b c : ℕ) (words : List ℕ) → form_from g i a b c words ≡ form_by (passes g) i a b c words
unfolding form_from form_by
by-passes g i a b c [] = refl
by-passes g i a b c (x ∷ []) = refl
by-passes g i a b c (x ∷ y ∷ []) = refl
by-passes g i a b c (x ∷ y ∷ z ∷ words) =
    ap (λ (o : Outcome (Unit {0})). cond (passes g i a b c x y z) o (refused 13 i)) (by-passes g (i + 1) x y z words)

-- a length in form is that of at most so many entries
pub few-entries : (n : ℕ) → length_in_form n ≡ true → n / entry_stride ≤ max_entries
unfolding length_in_form
few-entries n h =
    let most = leb-true n (entry_stride * max_entries)
    (both (leb entry_stride n) (leb n (entry_stride * max_entries)) (both (leb entry_stride n && leb n (entry_stride * max_entries)) _ h).0).1
    in
    omega arith

-- a word of the last of k entries, or what was before them where k is 0
unfoldable last_word : ℕ → ℕ → ℕ → List ℕ → ℕ
last_word zero j before words = before
last_word (suc k) j before words = get_or words (k * 3 + j) 0

last_on : (k j x y z : ℕ) (words : List ℕ) → j < 3 → last_word (suc k) j 0 (x ∷ y ∷ z ∷ words) ≡ last_word k j (get_or (x ∷ y ∷ z ∷ []) j 0) words
unfolding last_word
last_on zero zero x y z words h = refl
last_on zero (suc zero) x y z words h = refl
last_on zero (suc (suc zero)) x y z words h = refl
last_on zero (suc (suc (suc j))) x y z words h = absurd (omega arith)
last_on (suc k) j x y z words h =
    let e : suc k * 3 + j ≡ suc (suc (suc (k * 3 + j))) = omega arith in
    rw e

through : (b : Bool) (x y r : Outcome (Unit {0})) (i : ℕ) → x ≡ after y (λ _. r) → cond b x (refused 13 i) ≡ after (cond b y (refused 13 i)) (λ _. r)
unfolding after
through true x y r i e = e
through false x y r i e = refl

module _ (test : ℕ → ℕ → ℕ → ℕ → ℕ → ℕ → ℕ → Bool) where
  -- k entries, and what follows them
  cut : (k i a b c : ℕ) (xs ys : List ℕ) → length xs ≡ k * 3
      → form_by test i a b c (xs ++ ys)
      ≡ after (form_by test i a b c xs) (λ _. form_by test (i + k) (last_word k 0 a xs) (last_word k 1 b xs) (last_word k 2 c xs) ys)
  unfolding form_by after last_word
  cut zero i a b c [] ys e = rw (add-zero i)
  cut (suc k) i a b c [] ys e = absurd (omega arith)
  cut k i a b c (x ∷ []) ys e = absurd (omega arith)
  cut k i a b c (x ∷ y ∷ []) ys e = absurd (omega arith)
  cut zero i a b c (x ∷ y ∷ z ∷ xs) ys e = absurd (omega arith)
  cut (suc k) i a b c (x ∷ y ∷ z ∷ xs) ys e =
      let n : i + suc k ≡ i + 1 + k = omega arith in
      let rest = cut k (i + 1) x y z xs ys (omega arith) in
      through (test i a b c x y z) _ _ _ i
      (rw (n, last_on k 0 x y z xs (omega arith), last_on k 1 x y z xs (omega arith), last_on k 2 x y z xs (omega arith)) rest)

  -- Words from an index on, cut after k entries: the answer of the whole is that of the first part, or, if it passes, of the second, of
  -- which only its first index and the entry before it are known.
  pub cut_by : (i a b c : ℕ) (words : List ℕ) (k : ℕ) → 0 < k → k * entry_stride ≤ length words
      → form_by test i a b c words
      ≡ after (form_by test i a b c (take (k * entry_stride) words))
      (λ _.
      form_by test (i + k) (words_at words (k - 1)).first (words_at words (k - 1)).set (words_at words (k - 1)).rule (drop (k * entry_stride) words))
  unfolding last_word
  cut_by i a b c words zero pos h = absurd (omega arith)
  cut_by i a b c words (suc k) pos h =
      let xs = take (suc k * 3) words in
      let r = cut (suc k) i a b c xs (drop (suc k * 3) words) (length-take-le (suc k * 3) words h) in
      let w : (j : ℕ) → j < 3 → get_or xs (k * 3 + j) 0 ≡ get_or words (k * 3 + j) 0 = λ j l. get_or-take (suc k * 3) words (k * 3 + j) 0 (omega arith) in
      let one : suc k - 1 ≡ k = omega arith in
      ap (form_by test i a b c) (sym (take-append-drop (suc k * 3) words))
      ∙ r
      ∙ rw (w 0 (omega arith), w 1 (omega arith), w 2 (omega arith), add-zero (k * 3), one)

-- at index 0 there is no entry before, whatever is handed in its place
pub none_before : (g : PushdownGame) (a b c d e f : ℕ) (words : List ℕ) → form_from g 0 a b c words ≡ form_from g 0 d e f words
unfolding form_from passes follows
none_before g a b c d e f [] = refl
none_before g a b c d e f (x ∷ []) = refl
none_before g a b c d e f (x ∷ y ∷ []) = refl
none_before g a b c d e f (x ∷ y ∷ z ∷ words) = refl

-- "where a table of right length is cut between two entries, checking the first part and, if it passes, the second, with only its first
-- index and the entry before it known, gives the answer of the whole"
pub cut_at : (g : PushdownGame) (words : List ℕ) (k : ℕ) → length_in_form (length words) ≡ true → 0 < k → k * entry_stride ≤ length words
    → table_form g words
    ≡ after (form_from g 0 0 0 0 (take (k * entry_stride) words))
    (λ _.
    form_from g k (words_at words (k - 1)).first (words_at words (k - 1)).set (words_at words (k - 1)).rule (drop (k * entry_stride) words))
unfolding table_form
cut_at g words k f pos h =
    let none : 0 + k ≡ k = omega arith in
    let stride = k * entry_stride in
    let before = words_at words (k - 1) in
    rw (f, by-passes g 0 0 0 0 words, by-passes g 0 0 0 0 (take stride words), by-passes g k before.first before.set before.rule (drop stride words))
    (rw none at (cut_by (passes g) 0 0 0 0 words k pos h))

-- The same of what `table_form` and `entries_form` promise: an answer of one call over the whole table is that of two calls over its parts.
-- The first is made from index 0, with any entry before.
pub two-calls : (g : PushdownGame) (words : List ℕ) (k : ℕ) → length_in_form (length words) ≡ true → 0 < k → k * entry_stride ≤ length words
    → (any-before : EntryWords) (whole first second : Result (Unit {0}) Refusal)
    → said whole ≡ table_form g words
    → said first ≡ form_from g 0 any-before.first any-before.set any-before.rule (take (k * entry_stride) words)
    → said second
    ≡ form_from g k (words_at words (k - 1)).first (words_at words (k - 1)).set (words_at words (k - 1)).rule (drop (k * entry_stride) words)
    → said whole ≡ after (said first) (λ _. said second)
two-calls g words k f pos h any-before whole first second e e₁ e₂ =
    rw (e, e₁ ∙ none_before g _ _ _ 0 0 0 (take (k * entry_stride) words), e₂) (cut_at g words k f pos h)
