-- The rounds in order, whichever way they are taken: no round before i is settled, and solving goes on from round i. Its ends are those of
-- the definition.
use Prim.Native.Nat.{ℕ, zero, suc, ◌+◌, ◌-◌, ◌<◌, ◌≤◌}
use native.Mathlib.Omega.{arith}
use mathlib.Core.Path.{◌≡◌, refl, sym, ap, subst, ◌∙◌}
use mathlib.Core.Logic.{⊎_elim}
use mathlib.Core.Bool.{Bool, true, false, cond}
use mathlib.Core.List.{List}
use lib.ListN.{length, replicate}
use borrow.Author.Tests.{le-leb, lt-leb}
use Rattle.game.specs.Limits.{max_rounds}
use Rattle.game.specs.Game.{PushdownGame}
use Rattle.game.specs.GoodGame.{Good}
use Rattle.game.specs.ListLaws.{test, below_suc}
use Rattle.game.specs.Outcome.{done, refused, after}
use Rattle.table.specs.Table.{Entry, table_words}
use Rattle.table.specs.Pairwise.{Ascending}
use Rattle.rounds.specs.Rounds.{round_zero, next_round, settled}
use Rattle.rounds.specs.Solving.{fitting, rounds_from, solved_table, solving_game}
use Rattle.rounds.specs.RoundLaws.{round_table}
use Rattle.rounds.proofs.RoundLaws.{round-ranged}
use Rattle.rounds.specs.SolvingLaws.{Unsettled}
use Rattle.rounds.proofs.Reported.{latest-is}
use Rattle.rounds.proofs.GrownRound.{settled_same, unsettled-longer}
use Rattle.solver.specs.Leaving.{leaving, called, solved_with}
use Rattle.solver.specs.Given.{solving_rounds}

pub record Order (g : PushdownGame) (n i : ℕ) : Type 0 where
  pub left : ℕ
  pub rounds : i + left ≡ max_rounds
  pub first : Unsettled g i
  pub same : rounds_from g n max_rounds 0 (round_zero g) ≡ rounds_from g n left i (round_table g i)

module _ (g : PushdownGame) (n : ℕ) where
  pub order-zero : Order g n 0
  unfolding round_table
  order-zero = record { left = max_rounds; rounds = omega arith; first = λ j l. absurd (omega arith); same = refl }

  -- round 0 does not fit, or it does
  pub zero-over : n < length (round_zero g) → (table work : ℕ) → leaving (solving_game g n) table work ≡ leaving (refused 11 0) table work
  unfolding solving_game solved_table fitting after
  zero-over l table work = rw (lt-leb (length (round_zero g)) n l)

  pub zero-within : length (round_zero g) ≤ n → (table work : ℕ) → leaving (solving_game g n) table work ≡ leaving (solving_rounds g n) table work
  unfolding solving_game solving_rounds solved_table fitting after
  zero-within l table work = rw (le-leb (length (round_zero g)) n l)

  settles : (left i : ℕ) (table : List Entry) → settled g table ≡ true → rounds_from g n left i table ≡ done table
  unfolding rounds_from
  settles zero i table t = rw t
  settles (suc left) i table t = rw t

  lasts : (i : ℕ) (table : List Entry) → settled g table ≡ false → rounds_from g n 0 i table ≡ refused 12 (suc i)
  unfolding rounds_from
  lasts i table t = rw t

  goes : (left i : ℕ) (table : List Entry) → settled g table ≡ false
      → rounds_from g n (suc left) i table
      ≡ fitting n (suc i) (next_round g table (suc i)) (rounds_from g n left (suc i) (next_round g table (suc i)))
  unfolding rounds_from
  goes left i table t = rw t

  module _ (i : ℕ) (t : Order g n i) where
    pub most : i ≤ max_rounds
    most = omega (arith, t.rounds)

    -- a settled round is the answer
    ends-settled : settled g (round_table g i) ≡ true → rounds_from g n max_rounds 0 (round_zero g) ≡ done (round_table g i)
    ends-settled h = t.same ∙ settles t.left i (round_table g i) h

    -- after the last round 12
    ends_last : max_rounds ≤ i → settled g (round_table g i) ≡ false → rounds_from g n max_rounds 0 (round_zero g) ≡ refused 12 (suc i)
    ends_last l h =
        let none : t.left ≡ 0 = omega (arith, t.rounds) in
        t.same ∙ ap (λ (k : ℕ). rounds_from g n k i (round_table g i)) none ∙ lasts i (round_table g i) h

    further : i < max_rounds → settled g (round_table g i) ≡ false
        → rounds_from g n max_rounds 0 (round_zero g)
        ≡ fitting n (suc i) (next_round g (round_table g i) (suc i)) (rounds_from g n (t.left - 1) (suc i) (next_round g (round_table g i) (suc i)))
    further l h =
        let some : t.left ≡ suc (t.left - 1) = omega (arith, t.rounds) in
        t.same ∙ ap (λ (k : ℕ). rounds_from g n k i (round_table g i)) some ∙ goes (t.left - 1) i (round_table g i) h

    -- a round that does not fit gives 11
    ends-over : i < max_rounds → settled g (round_table g i) ≡ false → n < length (next_round g (round_table g i) (suc i))
        → rounds_from g n max_rounds 0 (round_zero g) ≡ refused 11 (suc i)
    unfolding fitting
    ends-over l h over =
        further l h
        ∙ ap (λ (b : Bool). cond b (rounds_from g n (t.left - 1) (suc i) (next_round g (round_table g i) (suc i))) (refused 11 (suc i)))
        (lt-leb (length (next_round g (round_table g i) (suc i))) n over)

    -- and one that fits is the next
    pub order-next : i < max_rounds → settled g (round_table g i) ≡ false → length (next_round g (round_table g i) (suc i)) ≤ n → Order g n (suc i)
    unfolding fitting round_table
    order-next l h fits =
        record {
          left = t.left - 1;
          rounds = omega (arith, t.rounds);
          first =
              λ j k.
              ⊎_elim (λ m. t.first j m) (λ (e : j ≡ i). subst (λ (x : ℕ). settled g (round_table g x) ≡ false) (sym e) h) (below_suc k);
          same =
              further l h
              ∙ ap (λ (b : Bool). cond b (rounds_from g n (t.left - 1) (suc i) (next_round g (round_table g i) (suc i))) (refused 11 (suc i)))
              (le-leb (length (next_round g (round_table g i) (suc i))) n fits);
        }

    -- what is returned and left at each end
    pub left-solved : Good g → (table work count : ℕ) → settled g (round_table g i) ≡ true → (words : List ℕ) → count ≡ length (round_table g i)
        → words ≡ table_words (round_table g i) (n - length (round_table g i))
        → called (solved_with count i) words (replicate work 0) ≡ leaving (solving_rounds g n) table work
    unfolding solving_rounds leaving after
    left-solved good table work count h words counted stands = rw (ends-settled h, counted, stands, latest-is g good i t.first)

    pub left-last : (table work : ℕ) → max_rounds ≤ i → settled g (round_table g i) ≡ false
        → leaving (solving_rounds g n) table work ≡ leaving (refused 12 (suc i)) table work
    unfolding solving_rounds after
    left-last table work l h = rw (ends_last l h)

    pub left-full : (table work : ℕ) → i < max_rounds → settled g (round_table g i) ≡ false → n < length (next_round g (round_table g i) (suc i))
        → leaving (solving_rounds g n) table work ≡ leaving (refused 11 (suc i)) table work
    unfolding solving_rounds after
    left-full table work l h over = rw (ends-over l h over)

  -- whether a round is settled shows in the length of the next
  module _ (good : Good g) (i : ℕ) where
    asc : Ascending (round_table g i)
    asc = (round-ranged g good i).0

    pub next-same : settled g (round_table g i) ≡ true → next_round g (round_table g i) (suc i) ≡ round_table g i
    next-same h = settled_same g (round_table g i) (suc i) asc h

    pub length-settled : length (next_round g (round_table g i) (suc i)) ≡ length (round_table g i) → settled g (round_table g i) ≡ true
    length-settled e =
        ⊎_elim (λ (t : settled g (round_table g i) ≡ true). t)
        (λ (t : settled g (round_table g i) ≡ false). absurd (omega (arith, e, unsettled-longer g (round_table g i) (suc i) asc t)))
        (test (settled g (round_table g i)))

    pub length-unsettled : (length (next_round g (round_table g i) (suc i)) ≡ length (round_table g i) → ⊥) → settled g (round_table g i) ≡ false
    length-unsettled ne =
        ⊎_elim (λ (t : settled g (round_table g i) ≡ true). absurd (ne (ap length (next-same t)))) (λ (t : settled g (round_table g i) ≡ false). t)
        (test (settled g (round_table g i)))
