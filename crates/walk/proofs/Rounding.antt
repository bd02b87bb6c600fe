-- The turns of a round. Each of its loops adds a list of its own, part by part: the runs of a job, the jobs of a head, the turns of heads.
use Prim.Native.Nat.{ℕ, ◌*◌, ◌<◌}
use mathlib.Core.Path.{◌≡◌, refl, ap, ◌∙◌}
use mathlib.Core.Logic.{◌⊎◌}
use mathlib.Core.Bool.{true}
use mathlib.Core.List.{List, [], ◌++◌, map, flat_map}
use lib.ListN.{get_or, drop}
use Rattle.game.specs.Sets.{has}
use Rattle.game.specs.ListLaws.{◌∈◌}
use Rattle.game.specs.Game.{PushdownGame}
use Rattle.game.specs.GoodGame.{Good}
use Rattle.game.specs.Held.{Held}
use Rattle.game.specs.declared.game.Sizes.{Sizes}
use Rattle.table.specs.Table.{Entry}
use Rattle.rounds.specs.Rounds.{below, entry_at}
use Rattle.rounds.specs.RoundLaws.{AllRanged}
use Rattle.rounds.specs.Growing.{Growing, growing}
use Rattle.rounds.proofs.GrowingLaws.{growing-append, held-passed}
use Rattle.rounds.specs.Filled.{Stored, Filled, number_of}
use Rattle.std.specs.Prelude.{Option, Some, None}
use Rattle.rounds.proofs.Growing.{full-any}
use Rattle.rounds.proofs.StoredRows.{over-full}
use Rattle.enumeration.specs.Places.{Placing}
use Rattle.enumeration.specs.Past.{older, Past}
use Rattle.enumeration.specs.PastLaws.{past-stays}
use Rattle.enumeration.specs.Lists.{Listed}
use Rattle.enumeration.specs.Jobs.{Finished, Memoed}
use Rattle.walk.specs.RoundJobs.{run_runs}
use Rattle.walk.specs.TurnLaws.{turn_gives}
use Rattle.walk.specs.RoundJobLaws.{jobs_from, job_at}
use Rattle.enumeration.specs.declared.runs.Job.{Job}

-- The entries that a part of a round gives, of a game and an old round.
abbrev pub Entries : Type 0
Entries = PushdownGame → List Entry → List Entry

-- run i of a job's first rule
abbrev pub run_at : ℕ → Job → ℕ → ℕ → Entries
run_at birthdate job r i g es =
    map (entry_at job.state job.letter birthdate job.field) (run_runs g es job.state job.letter job.end r i)

-- its runs from place i on, a head's rules from place r on
unfoldable pub runs_from : ℕ → Job → ℕ → ℕ → ℕ → Entries
runs_from birthdate job r runs i g es = flat_map (λ j. run_at birthdate job r j g es) (drop i (below runs))

unfoldable pub rules_from : ℕ → ℕ → ℕ → ℕ → Entries
rules_from birthdate p a r g es = jobs_from g es birthdate p a r

-- the whole job of a rule
abbrev pub job_entries : ℕ → ℕ → ℕ → ℕ → Entries
job_entries birthdate p a r g es = job_at g es birthdate p a r

-- a turn, and the turns from one on
unfoldable pub turn_at : ℕ → ℕ → ℕ → ℕ → Entries
turn_at birthdate letters heads turn g es = turn_gives g es birthdate letters heads turn

unfoldable pub turns_from : ℕ → ℕ → ℕ → ℕ → Entries
turns_from birthdate letters heads turn g es = flat_map (turn_gives g es birthdate letters heads) (drop turn (below (heads * 2)))

-- What a round enters with.
pub record Setting (g : PushdownGame) (es : List Entry) (n : ℕ) (sizes : Sizes) (rules places work : List ℕ) (old : ℕ) : Type 0 where
  pub held : Held g sizes rules
  pub good : Good g
  pub ranged : AllRanged g es
  pub stored : Stored n work old es
  pub placing : Placing g work old places

-- What is known of the last round: its entries are noted, and what older ones give of a list is held, where there was a round before.
pub record Known (es : List Entry) (birthdate n : ℕ) (fresh : List ℕ) (late : ℕ) (kept : List Entry) (s : Growing) : Type 0 where
  pub marked : (e : Entry) → e ∈ es → (e ∈ older birthdate es) ⊎ (has (get_or fresh e.letter 0) e.state ≡ true)
  pub past : Past birthdate n late kept s

-- A table that was grown, and what of a list is still to come.
pub record Going (g : PushdownGame) (es : List Entry) (birthdate n : ℕ) (whole : List Entry) (s : Growing) (rest : List Entry) (words : List ℕ) (count : ℕ) (memo : List ℕ) : Type 0 where
  pub now : Growing
  pub same : growing n whole s ≡ growing n rest now
  pub filled : Filled n words count now
  pub memoed : Memoed g es birthdate n memo now

module _ (sizes : Sizes) (rules places fresh work : List ℕ) (old birthdate late : ℕ) where
  abbrev In : PushdownGame → List Entry → ℕ → Type 0
  In g es n = Setting g es n sizes rules places work old

  -- what is known where a list is kept of the past
  abbrev pub Knows : Entries → PushdownGame → List Entry → ℕ → Growing → Type 0
  Knows kept g es n s = Known es birthdate n fresh late (kept g (older birthdate es)) s

  -- what is listed is right, where the last round's entries are noted
  abbrev pub Rightly : List ℕ → List ℕ → Type 0
  Rightly lists spans =
      (g : PushdownGame) (es : List Entry) (n : ℕ) → In g es n
      → ((e : Entry) → e ∈ es → (e ∈ older birthdate es) ⊎ (has (get_or fresh e.letter 0) e.state ≡ true))
      → Listed g es lists spans

  -- From one table and memo to another a list is added, whatever game they stand for.
  pub record Adds (list kept : Entries) (words : List ℕ) (count : ℕ) (memo words' : List ℕ) (count' : Option ℕ) (memo' : List ℕ) : Type 0 where
    pub adds : (g : PushdownGame) (es : List Entry) (n : ℕ) (s : Growing) → In g es n
        → Filled n words count s → Memoed g es birthdate n memo s → Knows kept g es n s
        → Finished g es birthdate n (list g es) s words' (number_of n count') memo'

  -- And of a list `rest` is still to come, with what is kept of the past for it.
  pub record Turning (whole rest kept kept' : Entries) (words : List ℕ) (count : ℕ) (memo words' : List ℕ) (count' : Option ℕ) (memo' : List ℕ) : Type 0 where
    pub turns : (g : PushdownGame) (es : List Entry) (n : ℕ) (s : Growing) → In g es n
        → Filled n words count s → Memoed g es birthdate n memo s → Knows kept g es n s
        → (c : Going g es birthdate n (whole g es) s (rest g es) words' (number_of n count') memo') × Knows kept' g es n c.now

  -- of the past less is kept
  abbrev pub Within : Entries → Entries → Type 0
  Within small large = (g : PushdownGame) (es : List Entry) (n : ℕ) → In g es n → (e : Entry) → e ∈ small g (older birthdate es) → e ∈ large g (older birthdate es)

  knows-less : (small large : Entries) → Within small large → (g : PushdownGame) (es : List Entry) (n : ℕ) (s : Growing) → In g es n
      → Knows large g es n s → Knows small g es n s
  knows-less small large inside g es n s h k =
      record { marked = k.marked; past = λ some. ((k.past some).0, λ e m. (k.past some).1 e (inside g es n h e m)) }

  pub starts : (list kept : Entries) (words : List ℕ) (count : ℕ) (memo : List ℕ) → Turning list list kept kept words count memo words (Some count) memo
  starts list kept words count memo =
      record { turns = λ g es n s h f m k. (record { now = s; same = refl; filled = f; memoed = m }, k) }

  -- a part of what is to come is added
  pub goes_on : {whole rest kept kept' : Entries} {words : List ℕ} {count : ℕ} {memo words' : List ℕ} {count' : ℕ} {memo' : List ℕ}
      → Turning whole rest kept kept' words count memo words' (Some count') memo' → (part rest' : Entries)
      → ((g : PushdownGame) (es : List Entry) (n : ℕ) → In g es n → rest g es ≡ part g es ++ rest' g es)
      → (less kept'' : Entries) → Within less kept' → Within kept'' kept'
      → {words'' : List ℕ} {count'' : Option ℕ} {memo'' : List ℕ} → Adds part less words' count' memo' words'' count'' memo''
      → Turning whole rest' kept kept'' words count memo words'' count'' memo''
  goes_on {kept'} t part rest' split less kept'' inside inside'' d =
      record {
        turns =
            λ g es n s h f m k.
            let r = t.turns g es n s h f m k in
            let c = r.0 in
            let e = d.adds g es n c.now h c.filled c.memoed (knows-less less kept' inside g es n c.now h r.1) in
            let after = knows-less kept'' kept' inside'' g es n c.now h r.1 in (
              record {
                now = growing n (part g es) c.now;
                same =
                    c.same ∙ ap (λ (l : List Entry). growing n l c.now) (split g es n h)
                    ∙ growing-append n (part g es) (rest' g es) c.now;
                filled = e.filled;
                memoed = e.memoed;
              },
              record {
                marked = after.marked;
                past = past-stays birthdate n late (kept'' g (older birthdate es)) (part g es) c.now after.past;
              },
            );
      }

  module _ {whole rest kept kept' : Entries} {words : List ℕ} {count : ℕ} {memo words' : List ℕ} {count' : Option ℕ} {memo' : List ℕ} (t : Turning whole rest kept kept' words count memo words' count' memo') where
    -- what is to come in other words
    pub becomes : (rest' : Entries) → ((g : PushdownGame) (es : List Entry) (n : ℕ) → In g es n → rest g es ≡ rest' g es)
        → (kept'' : Entries) → Within kept'' kept'
        → Turning whole rest' kept kept'' words count memo words' count' memo'
    becomes rest' e kept'' inside =
        record {
          turns =
              λ g es n s h f m k.
              let r = t.turns g es n s h f m k in
              let c = r.0 in (
                record {
                  now = c.now;
                  same = c.same ∙ ap (λ (l : List Entry). growing n l c.now) (e g es n h);
                  filled = c.filled;
                  memoed = c.memoed;
                },
                knows-less kept'' kept' inside g es n c.now h r.1,
              );
        }

    -- what is to come changes nothing
    no_more : ((g : PushdownGame) (es : List Entry) (n : ℕ) (now : Growing) → In g es n → Filled n words' (number_of n count') now → Knows kept' g es n now
        → growing n (rest g es) now ≡ now)
        → Adds whole kept words count memo words' count' memo'
    no_more same =
        record {
          adds =
              λ g es n s h f m k.
              let r = t.turns g es n s h f m k in
              let c = r.0 in
              let e : growing n (whole g es) s ≡ c.now = c.same ∙ same g es n c.now h c.filled r.1 in
              record { filled = rw e c.filled; memoed = rw e c.memoed };
        }

    -- since there is nothing
    pub ends : ((g : PushdownGame) (es : List Entry) (n : ℕ) → In g es n → rest g es ≡ [])
        → Adds whole kept words count memo words' count' memo'
    unfolding growing
    ends none = no_more (λ g es n now h f k. ap (λ (l : List Entry). growing n l now) (none g es n h))

    -- since older entries gave it
    pub passes : 0 < late
        → ((g : PushdownGame) (es : List Entry) (n : ℕ) → In g es n
        → ((e : Entry) → e ∈ es → (e ∈ older birthdate es) ⊎ (has (get_or fresh e.letter 0) e.state ≡ true))
        → (e : Entry) → e ∈ rest g es → e ∈ kept' g (older birthdate es))
        → Adds whole kept words count memo words' count' memo'
    passes some inside =
        no_more
        (λ g es n now h f k. held-passed n (rest g es) now (λ e m. (k.past some).1 e (inside g es n h k.marked e m)))

    -- since the table is full
    pub stops : count' ≡ None → Adds whole kept words count memo words' count' memo'
    stops l = no_more (λ g es n now h f k. full-any n (rest g es) now (over-full n words' (number_of n count') now f (ap (number_of n) l)))
