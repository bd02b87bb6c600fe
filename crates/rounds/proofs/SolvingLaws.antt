-- What solving answers: the first round that is settled, that does not fit (11), or none up to the last (12); and by which numbers it
-- refuses.
use Prim.Native.Nat.{ℕ, zero, suc, ◌+◌, ◌/◌, ◌<◌, ◌≤◌}
use Rattle.std.proofs.Common.{le_refl, sym, subst, leb-true, leb-false}
use native.Mathlib.Omega.{arith}
use Rattle.std.specs.Prelude.{◌≡◌, refl, true, false, ◌&&◌, List, length, eqb}
use Rattle.std.proofs.Math.Logic.{⊎_elim}
use Rattle.std.proofs.Math.Dec.{leb}
use Rattle.game.specs.Limits.{max_rounds}
use Rattle.game.specs.Game.{PushdownGame}
use Rattle.game.specs.Outcome.{Outcome, done, refused}
use Rattle.game.specs.Numbers.{file_numbers, round_numbers, solve_numbers}
use Rattle.game.specs.OutcomeLaws.{RefusedBy, by-none, by_number, by_after, by_front, by-back}
use Rattle.game.specs.Questions.{any, reading}
use Rattle.game.specs.RefusalLaws.{file-numbers}
use Rattle.table.specs.Table.{Entry, entry_stride, length_in_form}
use Rattle.game.specs.ListLaws.{test, of_either, below_suc}
use Rattle.rounds.specs.Rounds.{settled}
use Rattle.rounds.specs.Solving.{fitting, rounds_from, solved_table, solved_of, solving_game, solving_words}
use Rattle.rounds.specs.RoundLaws.{round_table}
use Rattle.rounds.specs.SolvingLaws.{Unsettled}

-- round j fits n entries
abbrev pub Fits : PushdownGame → ℕ → ℕ → Type 0
Fits g n j = length (round_table g j) ≤ n

-- The three ends of solving.
pub data Ends (g : PushdownGame) (n : ℕ) : Outcome (List Entry) → Type 0 where
  settles :
      (i : ℕ) → i ≤ max_rounds → ((j : ℕ) → j < suc i → Fits g n j) → Unsettled g i → settled g (round_table g i) ≡ true
      → Ends g n (done (round_table g i))
  overflows :
      (i : ℕ) → i ≤ max_rounds → ((j : ℕ) → j < i → Fits g n j) → Unsettled g i → n < length (round_table g i) → Ends g n (refused 11 i)
  goes_on : ((j : ℕ) → j < suc max_rounds → Fits g n j) → Unsettled g (suc max_rounds) → Ends g n (refused 12 (suc max_rounds))

-- one round more is known of
more : {P : ℕ → Type 0} {i : ℕ} → ((j : ℕ) → j < i → P j) → P i → (j : ℕ) → j < suc i → P j
more {P} {i} h p j l = ⊎_elim (λ k. h j k) (λ (e : j ≡ i). subst P (sym e) p) (below_suc l)

module _ (g : PushdownGame) (n : ℕ) where
  fitting-ends : (i : ℕ) → i ≤ max_rounds → ((j : ℕ) → j < i → Fits g n j) → Unsettled g i → (next : Outcome (List Entry))
      → (Fits g n i → Ends g n next) → Ends g n (fitting n i (round_table g i) next)
  unfolding fitting
  fitting-ends i most fits un next h =
      ⊎_elim (λ (t : leb (length (round_table g i)) n ≡ true). rw t (h (leb-true (length (round_table g i)) n t)))
      (λ (t : leb (length (round_table g i)) n ≡ false). rw t (overflows i most fits un (leb-false (length (round_table g i)) n t)))
      (test (leb (length (round_table g i)) n))

  rounds-end : (left i : ℕ) → i + left ≡ max_rounds → ((j : ℕ) → j < suc i → Fits g n j) → Unsettled g i
      → Ends g n (rounds_from g n left i (round_table g i))
  unfolding rounds_from round_table
  rounds-end zero i e fits un =
      let last : i ≡ max_rounds = omega arith in
      ⊎_elim (λ (t : settled g (round_table g i) ≡ true). rw t (settles i (omega arith) fits un t))
      (λ (t : settled g (round_table g i) ≡ false).
      rw t
      (subst (λ (k : ℕ). Ends g n (refused 12 (suc k))) (sym last)
      (goes_on (subst (λ (k : ℕ). (j : ℕ) → j < suc k → Fits g n j) last fits)
      (subst (λ (k : ℕ). Unsettled g (suc k)) last (more un t)))))
      (test (settled g (round_table g i)))
  rounds-end (suc left) i e fits un =
      ⊎_elim (λ (t : settled g (round_table g i) ≡ true). rw t (settles i (omega arith) fits un t))
      (λ (t : settled g (round_table g i) ≡ false).
      rw t
      (fitting-ends (suc i) (omega arith) fits (more un t) (rounds_from g n left (suc i) (round_table g (suc i)))
      (λ f. rounds-end left (suc i) (omega arith) (more fits f) (more un t))))
      (test (settled g (round_table g i)))

  pub solved-ends : Ends g n (solved_table g n)
  unfolding solved_table round_table
  solved-ends =
      fitting-ends 0 (omega arith) (λ j l. absurd (omega arith)) (λ j l. absurd (omega arith)) (rounds_from g n max_rounds 0 (round_table g 0))
      (λ f. rounds-end max_rounds 0 (omega arith) (more (λ j l. absurd (omega arith)) f) (λ j l. absurd (omega arith)))

-- a solved game's table is the first settled round, and fits
pub record SolvedAt (g : PushdownGame) (n : ℕ) (table : List Entry) : Type 0 where
  pub round : ℕ
  pub most : round ≤ max_rounds
  pub is : table ≡ round_table g round
  pub first : Unsettled g round
  pub settles : settled g table ≡ true
  pub fits : length table ≤ n

pub solved-at : (g : PushdownGame) (n : ℕ) (table : List Entry) → solved_table g n ≡ done table → SolvedAt g n table
solved-at g n table e = from (solved-ends g n) e
  where
    from : {o : Outcome (List Entry)} → Ends g n o → o ≡ done table → SolvedAt g n table
    from (settles i m f u t) e =
        let same : round_table g i ≡ table = cc in
        record {
          round = i;
          most = m;
          is = sym same;
          first = u;
          settles = rw (← same) t;
          fits = rw (← same) (f i (le_refl (suc i)));
        }
    from (overflows i m f u t) e = let z : ◌≡◌ {A = ℕ} 0 1 = cc in absurd (omega arith)
    from (goes_on f u) e = let z : ◌≡◌ {A = ℕ} 0 1 = cc in absurd (omega arith)

rounds-numbers : (g : PushdownGame) (n : ℕ) → RefusedBy round_numbers (solved_table g n)
unfolding any
rounds-numbers g n = from (solved-ends g n)
  where
    from : {o : Outcome (List Entry)} → Ends g n o → RefusedBy round_numbers o
    from (settles i m f u t) = by-none round_numbers (round_table g i)
    from (overflows i m f u t) = by_number round_numbers 11 i refl
    from (goes_on f u) = by_number round_numbers 12 (suc max_rounds) refl

-- Solving refuses by 1 to 9, 19, 10, 11 or 12.
pub solve-numbers : (file : List ℕ) (table work : ℕ) → RefusedBy solve_numbers (solving_words file table work)
unfolding solving_words solving_game any
solve-numbers file table work =
    by_after solve_numbers (reading file) _ (by_front file_numbers round_numbers (reading file) (file-numbers file))
    (λ g.
    let n = table / entry_stride in
    by-back file_numbers round_numbers _
    (of_either (RefusedBy round_numbers) (eqb table work && length_in_form table) (solving_game g n) (refused 10 0)
    (by_after round_numbers (solved_table g n) _ (rounds-numbers g n) (λ t. by-none round_numbers (solved_of n t)))
    (by_number round_numbers 10 0 refl)))
