-- Laws of outcomes: what a question that is passed says, and by which numbers an outcome can refuse.
use Rattle.std.specs.Prelude.{ℕ, ◌≡◌, refl, true, List, [], ◌∷◌, ◌++◌, eqb}
use Rattle.std.proofs.Common.{sym, subst, ⊎_elim, arith}
use Rattle.game.specs.Outcome.{Outcome, done, refused, after, number}
use Rattle.game.specs.declared.refusal.Question.{Question}
use Rattle.game.specs.declared.refusal.Question.TheVariants.{Length, Known, Order, Range, Bottom, New, Room, Last, Heads, Areas, Entries, Rounds, Table, Position, Head, Height, Operands}
use Rattle.game.specs.Questions.{any}
use Rattle.game.specs.Numbers.{is_one_of}
use Rattle.game.specs.ListLaws.{clash, either, left_or, right_or}

pub done-same : {A : Type 0} {x y : A} → done x ≡ done y → x ≡ y
done-same e = cc

-- no question has the number that stands for none
pub number_some : (q : Question) → number q ≡ 0 → ⊥
number_some Length e = omega (arith, e)
number_some Known e = omega (arith, e)
number_some Order e = omega (arith, e)
number_some Range e = omega (arith, e)
number_some Bottom e = omega (arith, e)
number_some New e = omega (arith, e)
number_some Room e = omega (arith, e)
number_some Last e = omega (arith, e)
number_some Heads e = omega (arith, e)
number_some Areas e = omega (arith, e)
number_some Entries e = omega (arith, e)
number_some Rounds e = omega (arith, e)
number_some Table e = omega (arith, e)
number_some Position e = omega (arith, e)
number_some Head e = omega (arith, e)
number_some Height e = omega (arith, e)
number_some Operands e = omega (arith, e)

pub after-done : {A B : Type 0} (o : Outcome A) (f : A → Outcome B) {y : B} → after o f ≡ done y → (x : A) × (o ≡ done x) × (f x ≡ done y)
unfolding after
after-done (done x) f h = (x, refl, h)
after-done (refused n k) f h = let z : ◌≡◌ {A = ℕ} 0 1 = cc in absurd (omega arith)

-- an outcome is done, or refused by a number of a list
abbrev pub RefusedBy : {A : Type 0} → List ℕ → Outcome A → Type 0
RefusedBy numbers o = (n k : ℕ) → o ≡ refused n k → is_one_of n numbers ≡ true

module _ {A : Type 0} (numbers : List ℕ) where
  pub by-none : (x : A) → RefusedBy numbers (done x)
  by-none x n k e = absurd (let z : ◌≡◌ {A = ℕ} 0 1 = cc in omega arith)

  pub by_number : (m p : ℕ) → is_one_of m numbers ≡ true → RefusedBy {A = A} numbers (refused m p)
  by_number m p h n k e = let same : m ≡ n = cc in subst (λ (i : ℕ). is_one_of i numbers ≡ true) same h

-- where a question and what comes after it refuse by numbers of a list, so do the two one after the other
pub by_after : {A B : Type 0} (numbers : List ℕ) (o : Outcome A) (f : A → Outcome B) → RefusedBy numbers o → ((x : A) → RefusedBy numbers (f x))
    → RefusedBy numbers (after o f)
unfolding after
by_after numbers (done x) f h next = next x
by_after numbers (refused m p) f h next = by_number numbers m p (h m p refl)

-- the numbers of a list are among those of a longer one
pub by_front : {A : Type 0} (xs ys : List ℕ) (o : Outcome A) → RefusedBy xs o → RefusedBy (xs ++ ys) o
unfolding any
by_front xs ys o h n k e = longer xs (h n k e)
  where
    longer : (zs : List ℕ) → is_one_of n zs ≡ true → is_one_of n (zs ++ ys) ≡ true
    longer [] t = clash refl (sym t)
    longer (z ∷ zs) t = ⊎_elim (λ p. left_or (any (eqb n) (zs ++ ys)) p) (λ q. right_or (eqb n z) (longer zs q)) (either (eqb n z) (any (eqb n) zs) t)

pub by-back : {A : Type 0} (xs ys : List ℕ) (o : Outcome A) → RefusedBy ys o → RefusedBy (xs ++ ys) o
unfolding any
by-back xs ys o h n k e = longer xs
  where
    longer : (zs : List ℕ) → is_one_of n (zs ++ ys) ≡ true
    longer [] = h n k e
    longer (z ∷ zs) = right_or (eqb n z) (longer zs)
