-- The rounds in order: round i is in the table, no earlier one is settled, and solving goes on from it. Its ends are those of the
-- definition.
use Prim.Native.Nat.{ℕ, zero, suc, ◌+◌, ◌-◌, ◌<◌, ◌≤◌}
use native.Mathlib.Omega.{arith}
use mathlib.Core.Path.{◌≡◌, refl, sym, ap, subst, ◌∙◌}
use mathlib.Core.Logic.{◌⊎◌, ⊎_elim}
use mathlib.Core.Bool.{Bool, true, false, cond}
use mathlib.Core.List.{List, [], map}
use lib.ListN.{length, replicate}
use lib.Dec.{eqb}
use Rattle.std.specs.Prelude.{Option, Some, None}
use Rattle.std.specs.Option.{option_eq}
use borrow.Author.Tests.{le-leb, lt-leb, eqb-true, eq-eqb}
use Rattle.game.specs.Limits.{max_rounds}
use Rattle.game.specs.Game.{PushdownGame}
use Rattle.game.specs.GoodGame.{Good}
use Rattle.game.specs.ListLaws.{below_suc, clash}
use Rattle.game.specs.Outcome.{Outcome, done, refused, after, number}
use Rattle.table.specs.Table.{Entry}
use Rattle.table.specs.Pairwise.{Ascending, Pairwise}
use Rattle.rounds.specs.Rounds.{round_zero, target_entry, next_round, candidates, settled}
use Rattle.rounds.specs.Solving.{Solved, fitting, rounds_from, solved_table, solving_game}
use Rattle.rounds.specs.RoundLaws.{round_table}
use Rattle.rounds.proofs.RoundLaws.{round-ranged}
use Rattle.rounds.specs.SolvingLaws.{Unsettled}
use Rattle.rounds.proofs.Reported.{latest-is}
use Rattle.rounds.specs.Growing.{growing, partly}
use Rattle.rounds.proofs.GrownRound.{ended, same-settled, other-unsettled, over, within}
use Rattle.rounds.specs.Filled.{Stored, Filled, number_of}
use Rattle.solver.specs.Leaving.{leaving, called, solved_with, Answer}
use Rattle.std.specs.Prelude.{Err}
use Rattle.game.specs.declared.refusal.Refusal.{Refusal}
use Rattle.solver.specs.Given.{solving_rounds}

-- what is left, by lengths that are equal
pub leaving-at : (o : Outcome Solved) {a b c d : ℕ} → a ≡ c → b ≡ d → leaving o a b ≡ leaving o c d
leaving-at o p q = rw (p, q)

pub cleared_at : (s : Answer) (table : List ℕ) {work : List ℕ} {a b : ℕ} → work ≡ replicate a 0 → a ≡ b
    → called s table work ≡ called s table (replicate b 0)
cleared_at s table e p = rw (e, p)

pub refused-left : (refusal : Refusal) {table work : List ℕ} (a b : ℕ) → table ≡ replicate a 0 → work ≡ replicate b 0
    → called (Err refusal) table work ≡ leaving (refused (number refusal.question) refusal.place) a b
unfolding leaving
refused-left refusal a b e f = rw (e, f)

-- what the code answers of a round, by the number that stands for it: the number of entries as it was, or another
pub same-number : (n count : ℕ) (result : Option ℕ) → option_eq eqb result (Some count) ≡ true → number_of n result ≡ count
same-number n count None h = clash h refl
same-number n count (Some c) h = eqb-true c count h

pub other-number : (n count : ℕ) (result : Option ℕ) → count ≤ n → option_eq eqb result (Some count) ≡ false → number_of n result ≡ count → ⊥
other-number n count None l h = λ e. omega arith
other-number n count (Some c) l h = λ e. clash (eq-eqb c count e) h

pub record Taken (g : PushdownGame) (n i : ℕ) (words : List ℕ) (count : ℕ) : Type 0 where
  pub left : ℕ
  pub rounds : i + left ≡ max_rounds
  pub stored : Stored n words count (round_table g i)
  pub first : Unsettled g i
  pub same : rounds_from g n max_rounds 0 (round_zero g) ≡ rounds_from g n left i (round_table g i)

module _ (g : PushdownGame) (n : ℕ) where
  -- round 0, by the number of its entries
  module _ (words : List ℕ) (count : ℕ) (f : Filled n words count (growing n (map target_entry g.targets) (partly []))) where
    zero_ended : ((length (round_zero g) ≤ n) × Stored n words count (round_zero g)) ⊎ ((n < length (round_zero g)) × (count ≡ suc n))
    unfolding round_zero Pairwise
    zero_ended = ended n (map target_entry g.targets) [] tt (omega arith) words count f

    pub zero-full : n < count → (table work : ℕ) → leaving (solving_game g n) table work ≡ leaving (refused 11 0) table work
    unfolding solving_game solved_table fitting after
    zero-full l table work =
        let more = ⊎_elim (λ part. absurd (omega (arith, part.0, part.1.counted))) (λ full. full.0) zero_ended in
        rw (lt-leb (length (round_zero g)) n more)

    pub zero-stored : count ≤ n → Stored n words count (round_zero g)
    zero-stored l = ⊎_elim (λ part. part.1) (λ full. absurd (omega (arith, full.1))) zero_ended

    pub zero-fits : count ≤ n → (table work : ℕ) → leaving (solving_game g n) table work ≡ leaving (solving_rounds g n) table work
    unfolding solving_game solving_rounds solved_table fitting after
    zero-fits l table work = rw (le-leb (length (round_zero g)) n (zero-stored l).fits)

  pub taken-zero : (words : List ℕ) (count : ℕ) → Stored n words count (round_zero g) → Taken g n 0 words count
  unfolding round_table
  taken-zero words count st =
      record { left = max_rounds; rounds = omega arith; stored = st; first = λ j l. absurd (omega arith); same = refl }

  settles : (left i : ℕ) (table : List Entry) → settled g table ≡ true → rounds_from g n left i table ≡ done table
  unfolding rounds_from
  settles zero i table t = rw t
  settles (suc left) i table t = rw t

  lasts : (i : ℕ) (table : List Entry) → settled g table ≡ false → rounds_from g n 0 i table ≡ refused 12 (suc i)
  unfolding rounds_from
  lasts i table t = rw t

  goes : (left i : ℕ) (table : List Entry) → settled g table ≡ false
      → rounds_from g n (suc left) i table
      ≡ fitting n (suc i) (next_round g table (suc i)) (rounds_from g n left (suc i) (next_round g table (suc i)))
  unfolding rounds_from
  goes left i table t = rw t

  module _ (i : ℕ) (words : List ℕ) (count : ℕ) (t : Taken g n i words count) where
    pub most : i ≤ max_rounds
    most = omega (arith, t.rounds)

    -- a settled round is the answer
    ends-settled : settled g (round_table g i) ≡ true → rounds_from g n max_rounds 0 (round_zero g) ≡ done (round_table g i)
    ends-settled h = t.same ∙ settles t.left i (round_table g i) h

    -- after the last round 12
    ends_last : max_rounds ≤ i → settled g (round_table g i) ≡ false → rounds_from g n max_rounds 0 (round_zero g) ≡ refused 12 (suc i)
    ends_last l h =
        let none : t.left ≡ 0 = omega (arith, t.rounds) in
        t.same ∙ ap (λ (k : ℕ). rounds_from g n k i (round_table g i)) none ∙ lasts i (round_table g i) h

    further : i < max_rounds → settled g (round_table g i) ≡ false
        → rounds_from g n max_rounds 0 (round_zero g)
        ≡ fitting n (suc i) (next_round g (round_table g i) (suc i)) (rounds_from g n (t.left - 1) (suc i) (next_round g (round_table g i) (suc i)))
    further l h =
        let some : t.left ≡ suc (t.left - 1) = omega (arith, t.rounds) in
        t.same ∙ ap (λ (k : ℕ). rounds_from g n k i (round_table g i)) some ∙ goes (t.left - 1) i (round_table g i) h

    -- a round that does not fit gives 11
    ends-over : i < max_rounds → settled g (round_table g i) ≡ false → n < length (next_round g (round_table g i) (suc i))
        → rounds_from g n max_rounds 0 (round_zero g) ≡ refused 11 (suc i)
    unfolding fitting
    ends-over l h over =
        further l h
        ∙ ap (λ (b : Bool). cond b (rounds_from g n (t.left - 1) (suc i) (next_round g (round_table g i) (suc i))) (refused 11 (suc i)))
        (lt-leb (length (next_round g (round_table g i) (suc i))) n over)

    -- and one that fits is the next
    taken_next : i < max_rounds → settled g (round_table g i) ≡ false → (words' : List ℕ) (count' : ℕ)
        → (length (next_round g (round_table g i) (suc i)) ≤ n) × Stored n words' count' (next_round g (round_table g i) (suc i))
        → Taken g n (suc i) words' count'
    unfolding fitting round_table
    taken_next l h words' count' fits =
        record {
          left = t.left - 1;
          rounds = omega (arith, t.rounds);
          stored = fits.1;
          first =
              λ j k.
              ⊎_elim (λ m. t.first j m) (λ (e : j ≡ i). subst (λ (x : ℕ). settled g (round_table g x) ≡ false) (sym e) h) (below_suc k);
          same =
              further l h
              ∙ ap (λ (b : Bool). cond b (rounds_from g n (t.left - 1) (suc i) (next_round g (round_table g i) (suc i))) (refused 11 (suc i)))
              (le-leb (length (next_round g (round_table g i) (suc i))) n fits.0);
        }

    -- what is returned and left at each end
    left-solved : Good g → (table work : ℕ) → settled g (round_table g i) ≡ true → (words' : List ℕ) → Stored n words' count (round_table g i)
        → called (solved_with count i) words' (replicate work 0) ≡ leaving (solving_rounds g n) table work
    unfolding solving_rounds leaving after
    left-solved good table work h words' st =
        rw (ends-settled h, st.counted, st.stands, latest-is g good i t.first)

    left-last : (table work : ℕ) → max_rounds ≤ i → settled g (round_table g i) ≡ false
        → leaving (solving_rounds g n) table work ≡ leaving (refused 12 (suc i)) table work
    unfolding solving_rounds after
    left-last table work l h = rw (ends_last l h)

    left-full : (table work : ℕ) → i < max_rounds → settled g (round_table g i) ≡ false → n < length (next_round g (round_table g i) (suc i))
        → leaving (solving_rounds g n) table work ≡ leaving (refused 11 (suc i)) table work
    unfolding solving_rounds after
    left-full table work l h over = rw (ends-over l h over)

    -- a turn, by the number of entries after the next round
    module _ (good : Good g) (words' : List ℕ) (next : ℕ) (f : Filled n words' next (growing n (candidates g (round_table g i) (i + 1)) (partly (round_table g i)))) where
      step : i + 1 ≡ suc i
      step = omega arith

      filled : Filled n words' next (growing n (candidates g (round_table g i) (suc i)) (partly (round_table g i)))
      filled = rw step at f

      asc : Ascending (round_table g i)
      asc = (round-ranged g good i).0

      other : (next ≡ count → ⊥) → settled g (round_table g i) ≡ false
      other ne =
          other-unsettled g (round_table g i) n (suc i) asc t.stored.fits words' next filled (λ e. ne (e ∙ sym t.stored.counted))

      pub turn-settled : next ≡ count → (table work : ℕ)
          → called (solved_with count i) words' (replicate work 0) ≡ leaving (solving_rounds g n) table work
      turn-settled e table work =
          let same = same-settled g (round_table g i) n (suc i) asc t.stored.fits words' next filled (e ∙ t.stored.counted) in
          left-solved good table work same.0 words' (rw e at same.1)

      pub turn_last : (next ≡ count → ⊥) → max_rounds ≤ i → (table work : ℕ)
          → leaving (solving_rounds g n) table work ≡ leaving (refused 12 (i + 1)) table work
      turn_last ne l table work = rw step (left-last table work l (other ne))

      pub turn-full : (next ≡ count → ⊥) → i < max_rounds → n < next → (table work : ℕ)
          → leaving (solving_rounds g n) table work ≡ leaving (refused 11 (i + 1)) table work
      turn-full ne l m table work =
          rw step (left-full table work l (other ne) (over g (round_table g i) n (suc i) asc t.stored.fits words' next filled m))

      pub turn-next : (next ≡ count → ⊥) → i < max_rounds → next ≤ n → Taken g n (i + 1) words' next
      turn-next ne l m =
          rw step
          (taken_next l (other ne) words' next (within g (round_table g i) n (suc i) asc t.stored.fits words' next filled m))
