-- The turns of a round's nest of loops: one run more, one job more, one turn more, and the whole round; with what is kept of the past
-- for each.
use Prim.Native.Nat.{ℕ, ◌+◌, ◌*◌, ◌/◌, ◌%◌, ◌<◌, ◌≤◌}
use native.Mathlib.Omega.{arith}
use mathlib.Core.Path.{◌≡◌, refl, sym, ap, subst, ◌∙◌}
use mathlib.Core.Logic.{◌⊎◌, inl, inr, ⊎_elim}
use mathlib.Core.Bool.{true}
use mathlib.Core.List.Memᴰ
use mathlib.Core.List.{List, ◌++◌, map}
use lib.ListN.{get_or}
use Rattle.game.specs.Sets.{has}
use Rattle.game.specs.Game.{PushdownGame}
use Rattle.game.specs.Held.{Held}
use Rattle.game.specs.GoodGame.{Good}
use Rattle.game.specs.ListLaws.{◌∈◌}
use Rattle.game.specs.declared.game.Sizes.{Sizes}
use Rattle.table.specs.Table.{Entry}
use Rattle.rounds.specs.Rounds.{entry_at, candidates}
use Rattle.rounds.specs.RoundLaws.{AllRanged}
use Rattle.rounds.specs.Enumeration.{rest_runs}
use Rattle.rounds.specs.Growing.{Growing, growing, partly}
use Rattle.rounds.specs.GrowingLaws.{HeldBy}
use Rattle.rounds.specs.Filled.{Stored, Filled, number_of}
use Rattle.std.specs.Prelude.{Option, Some}
use Rattle.rounds.specs.Scans.{rules_between}
use Rattle.rounds.proofs.StoredRows.{entry-at}
use Rattle.rounds.specs.InsertLaws.{no_entry}
use Rattle.rounds.proofs.InsertLaws.{in-get_d}
use Rattle.enumeration.specs.Jobs.{Stands, Entered, Finished, Whole}
use Rattle.enumeration.specs.Lists.{Listed}
use Rattle.enumeration.specs.AlikeLaws.{filled-alike}
use Rattle.enumeration.specs.Places.{Placing}
use Rattle.enumeration.specs.Past.{older, late_of, Past, Marked, Aging}
use Rattle.enumeration.specs.PastLaws.{older-at}
use Rattle.walk.specs.RoundJobs.{Blank, RunsEnd}
use Rattle.walk.specs.RoundJobLaws.{job_at}
use Rattle.enumeration.specs.declared.runs.Job.{Job}
use Rattle.walk.proofs.Rounding.{Entries, run_at, runs_from, job_entries, rules_from, turn_at, turns_from, Setting, Known, Rightly, Adds, Turning, goes_on, ends, passes}
use Rattle.walk.proofs.RoundTurns.{AtRule, blank-memoed, runs-split, runs-ended, runs-aged, rules-split, past_split, turns-split, turns-in-round, turns-all, job-stands, job-aging, job-whole, job-past}

module _ (sizes : Sizes) (rules places fresh work : List ℕ) (old birthdate late : ℕ) where
  module _ (born : birthdate < 65536) (p a r : ℕ) (job : Job) (runs : ℕ) (at : AtRule sizes rules fresh old birthdate p a r job runs) where
    -- the job's later rules are listed
    pub list-turn : {lists spans lists' spans' : List ℕ} → Rightly sizes rules places fresh work old birthdate late lists spans
        → ((g : PushdownGame) (es : List Entry) (b : ℕ) → Stands g es b job rules work → Placing g work job.count places → Aging g es b job fresh
        → Listed g es lists spans → Listed g es lists' spans')
        → Rightly sizes rules places fresh work old birthdate late lists' spans'
    list-turn right promise g es n h marked =
        promise g es birthdate
        (job-stands g es n sizes rules places work old h birthdate fresh p a r job runs at born)
        (rw (ap (λ (x : Job). x.count) at.made) h.placing)
        (job-aging g es n sizes rules places work old h birthdate fresh p a r job runs at marked)
        (right g es n h marked)

    -- what a run promises
    abbrev pub RunAdds : List ℕ → List ℕ → ℕ → List ℕ → ℕ → List ℕ → List ℕ → Option ℕ → List ℕ → Type 0
    RunAdds lists spans i words count memo words' count' memo' =
        (g : PushdownGame) (es : List Entry) (b n : ℕ) (s : Growing) → Entered g es b n job rules work words count memo s
        → Placing g work job.count places → Aging g es b job fresh → Listed g es lists spans → Whole g job r
        → Past b n late
        (map (entry_at job.state job.letter b job.field) (rest_runs g (older b es) (rules_between g job.state job.letter r job.end) 0)) s
        → Finished g es b n (run_at b job r i g es) s words' (number_of n count') memo'

    run-adds : (lists spans : List ℕ) → Rightly sizes rules places fresh work old birthdate late lists spans → (i : ℕ) {words : List ℕ} {count : ℕ} {memo words' : List ℕ} {count' : Option ℕ} {memo' : List ℕ}
        → RunAdds lists spans i words count memo words' count' memo'
        → Adds sizes rules places fresh work old birthdate late (run_at birthdate job r i) (job_entries birthdate p a r) words count memo words' count' memo'
    run-adds lists spans right i promise =
        record {
          adds =
              λ g es n s h f m k.
              promise g es birthdate n s
              (record { stands = job-stands g es n sizes rules places work old h birthdate fresh p a r job runs at born; filled = f; memoed = m })
              (rw (ap (λ (x : Job). x.count) at.made) h.placing)
              (job-aging g es n sizes rules places work old h birthdate fresh p a r job runs at k.marked)
              (right g es n h k.marked)
              (job-whole g es n sizes rules places work old h birthdate fresh p a r job runs at)
              (job-past g es n sizes rules places work old h birthdate fresh p a r job runs at late s k.past);
        }

    -- one run more
    pub run-turn : (lists spans : List ℕ) → Rightly sizes rules places fresh work old birthdate late lists spans → (i : ℕ) {words₀ : List ℕ} {count₀ : ℕ} {memo₀ words : List ℕ} {count : ℕ} {memo words' : List ℕ} {count' : Option ℕ} {memo' : List ℕ}
        → Turning sizes rules places fresh work old birthdate late (runs_from birthdate job r runs 0) (runs_from birthdate job r runs i) (job_entries birthdate p a r) (job_entries birthdate p a r) words₀ count₀ memo₀ words (Some count) memo
        → i < runs → RunAdds lists spans i words count memo words' count' memo'
        → Turning sizes rules places fresh work old birthdate late (runs_from birthdate job r runs 0) (runs_from birthdate job r runs (i + 1)) (job_entries birthdate p a r) (job_entries birthdate p a r) words₀ count₀ memo₀ words' count' memo'
    run-turn lists spans right i t l promise =
        goes_on sizes rules places fresh work old birthdate late t (run_at birthdate job r i) (runs_from birthdate job r runs (i + 1))
        (λ g es n h. runs-split birthdate job r runs i l g es)
        (job_entries birthdate p a r) (job_entries birthdate p a r) (λ g es n h e m. m) (λ g es n h e m. m)
        (run-adds lists spans right i promise)

    -- no run more, by where they end
    pub runs_done : (i : ℕ) {words₀ : List ℕ} {count₀ : ℕ} {memo₀ words : List ℕ} {count : ℕ} {memo : List ℕ}
        → Turning sizes rules places fresh work old birthdate late (runs_from birthdate job r runs 0) (runs_from birthdate job r runs i) (job_entries birthdate p a r) (job_entries birthdate p a r) words₀ count₀ memo₀ words (Some count) memo
        → (end : ℕ) → ((0 < late) × (job.last ≤ r) × (end ≡ 0)) ⊎ RunsEnd rules places r old end → end ≤ i
        → Adds sizes rules places fresh work old birthdate late (runs_from birthdate job r runs 0) (job_entries birthdate p a r) words₀ count₀ memo₀ words (Some count) memo
    runs_done i t end o l =
        ⊎_elim
        (λ (none : (0 < late) × (job.last ≤ r) × (end ≡ 0)).
        passes sizes rules places fresh work old birthdate late t none.0
        (λ g es n h marked e m.
        runs-aged g es n sizes rules places work old h birthdate fresh p a r job runs at
        (job-aging g es n sizes rules places work old h birthdate fresh p a r job runs at marked) none.1 i e m))
        (λ (s : RunsEnd rules places r old end).
        ends sizes rules places fresh work old birthdate late t
        (λ g es n h. runs-ended g es n sizes rules places work old h birthdate fresh p a r job runs at end s i l))
        o

    -- one job more
    pub job-turn : {whole kept : Entries} {words₀ : List ℕ} {count₀ : ℕ} {memo₀ words : List ℕ} {count : ℕ} {memo words' : List ℕ} {count' : Option ℕ} {memo' : List ℕ}
        → Turning sizes rules places fresh work old birthdate late whole (rules_from birthdate p a r) kept (rules_from birthdate p a r) words₀ count₀ memo₀ words (Some count) memo
        → Adds sizes rules places fresh work old birthdate late (runs_from birthdate job r runs 0) (job_entries birthdate p a r) words count memo words' count' memo'
        → Turning sizes rules places fresh work old birthdate late whole (rules_from birthdate p a job.end) kept (rules_from birthdate p a job.end) words₀ count₀ memo₀ words' count' memo'
    job-turn t d =
        goes_on sizes rules places fresh work old birthdate late t (runs_from birthdate job r runs 0) (rules_from birthdate p a job.end)
        (λ g es n h. rules-split g es n sizes rules places work old h birthdate fresh p a r job runs at)
        (job_entries birthdate p a r) (rules_from birthdate p a job.end)
        (λ g es n h e m.
        subst (λ (l : List Entry). e ∈ l) (sym (past_split g es n sizes rules places work old h birthdate fresh p a r job runs at (older birthdate es)))
        (Memᴰ.append_left (rules_from birthdate p a job.end g (older birthdate es)) m))
        (λ g es n h e m.
        subst (λ (l : List Entry). e ∈ l) (sym (past_split g es n sizes rules places work old h birthdate fresh p a r job runs at (older birthdate es)))
        (Memᴰ.append_right (job_at g (older birthdate es) birthdate p a r) m))
        d

  -- the turns from one on
  abbrev heads : ℕ
  heads = sizes.control * sizes.letters

  abbrev turns_of : ℕ → Entries
  turns_of turn = turns_from birthdate sizes.letters heads turn

  abbrev turn_of : ℕ → Entries
  turn_of turn = turn_at birthdate sizes.letters heads turn

  -- one turn more
  pub head-turn : (turn : ℕ) {words₀ : List ℕ} {count₀ : ℕ} {memo₀ words : List ℕ} {count : ℕ} {memo words' : List ℕ} {count' : Option ℕ} {memo' : List ℕ}
      → Turning sizes rules places fresh work old birthdate late (turns_of 0) (turns_of turn) (turns_of 0) (turns_of turn) words₀ count₀ memo₀ words (Some count) memo → turn < heads * 2
      → Adds sizes rules places fresh work old birthdate late (turn_of turn) (turn_of turn) words count memo words' count' memo'
      → Turning sizes rules places fresh work old birthdate late (turns_of 0) (turns_of (turn + 1)) (turns_of 0) (turns_of (turn + 1)) words₀ count₀ memo₀ words' count' memo'
  head-turn turn t l d =
      goes_on sizes rules places fresh work old birthdate late t (turn_of turn) (turns_of (turn + 1))
      (λ g es n h. split g es n h es)
      (turn_of turn) (turns_of (turn + 1))
      (λ g es n h e m.
      subst (λ (x : List Entry). e ∈ x) (sym (split g es n h (older birthdate es))) (Memᴰ.append_left (turns_of (turn + 1) g (older birthdate es)) m))
      (λ g es n h e m.
      subst (λ (x : List Entry). e ∈ x) (sym (split g es n h (older birthdate es)))
      (Memᴰ.append_right (turn_of turn g (older birthdate es)) m))
      d
    where
      split : (g : PushdownGame) (es : List Entry) (n : ℕ) → Setting g es n sizes rules places work old → (table : List Entry)
          → turns_of turn g table ≡ turn_of turn g table ++ turns_of (turn + 1) g table
      split g es n h table = turns-split g es n sizes rules places work old h birthdate sizes.letters heads turn refl refl table l

  -- the whole round
  pub round_filled : {words : List ℕ} {memo words' : List ℕ} {count' : Option ℕ} {memo' : List ℕ}
      → Adds sizes rules places fresh work old birthdate late (turns_of 0) (turns_of 0) words old memo words' count' memo'
      → (g : PushdownGame) (es : List Entry) (n : ℕ) → Held g sizes rules → Good g → AllRanged g es → Stored n work old es
      → Stored n words old es → (1 < birthdate → HeldBy n (candidates g (older birthdate es) birthdate) (partly es))
      → late ≡ late_of birthdate → Marked work fresh late old → Placing g work old places → Blank memo
      → Filled n words' (number_of n count') (growing n (candidates g es birthdate) (partly es))
  round_filled {words} {memo} d g es n held good ranged stored table past is marked placing blank =
      let h : Setting g es n sizes rules places work old = record { held = held; good = good; ranged = ranged; stored = stored; placing = placing } in
      let known : Known es birthdate n fresh late (turns_of 0 g (older birthdate es)) (partly es) =
      record {
        marked = noted g es n held good ranged stored is marked;
        past =
            λ some.
            (is, λ e m. past (omega (arith, is)) e (turns-in-round g es n sizes rules places work old h birthdate sizes.letters heads refl refl (older birthdate es) e m));
      }
      in
      let f = (d.adds g es n (partly es) h (inr (refl, table)) (blank-memoed g es birthdate n memo (partly es) blank) known).filled in
      filled-alike n (turns-all g es n sizes rules places work old h birthdate sizes.letters heads refl refl) (partly es) (inr (refl, table)) _ _ f
    where
      -- every entry is older, or noted
      noted : (g : PushdownGame) (es : List Entry) (n : ℕ) → Held g sizes rules → Good g → AllRanged g es → Stored n work old es
          → late ≡ late_of birthdate → Marked work fresh late old
          → (e : Entry) → e ∈ es → (e ∈ older birthdate es) ⊎ (has (get_or fresh e.letter 0) e.state ≡ true)
      noted g es n held good ranged stored is marked e m =
          let i = in-get_d no_entry es m in
          let l : i.0 < old = omega (arith, i.1, stored.counted) in
          let entry = entry-at n old work es stored i.0 l in
          let small = (ranged e m).state in
          let states = good.ranged.states in
          let state : get_or work (i.0 * 3) 0 % 256 ≡ e.state = ap (λ (x : Entry). x.state) (entry ∙ sym i.2) in
          let letter : get_or work (i.0 * 3) 0 / 256 % 256 ≡ e.letter = ap (λ (x : Entry). x.letter) (entry ∙ sym i.2) in
          ⊎_elim
          (λ less.
          inl (subst (λ (x : Entry). x ∈ older birthdate es) (sym i.2) (older-at birthdate es n old work stored late is i.0 l less)))
          (λ there. inr (rw (state, letter) at there))
          (marked i.0 l (omega (arith, state, small, states)))
