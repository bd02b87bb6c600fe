-- A rule of Abelard's by itself: its runs are those that the rule would have as one of Éloise's, so that what enumerates a job finds
-- its ends, as the entries of an area of their own.
use Prim.Native.Nat.{ℕ, suc, ◌+◌, ◌*◌, ◌-◌, ◌<◌, ◌≤◌}
use native.Mathlib.Omega.{arith}
use mathlib.Core.Path.{◌≡◌, refl, sym, ap, ap₂, subst, ◌∙◌}
use mathlib.Core.Logic.{inr, ⊎_elim}
use mathlib.Core.Bool.{true}
use mathlib.Core.List.Memᴰ
use mathlib.Core.List.{List, [], ◌∷◌, map, flat_map}
use lib.ListN.{length, get_or, replicate, length-replicate}
use lib.Seq.{ext_get_or}
use lib.Pow.{pow_pos}
use Rattle.game.specs.Sets.{union}
use Rattle.game.specs.SetLaws.{none_has}
use Rattle.game.specs.UnionLaws.{none-union}
use Rattle.game.specs.Game.{Rule, PushdownGame, of_head}
use Rattle.game.specs.GoodGame.{Ranged}
use Rattle.game.specs.Stored.{rule_at}
use Rattle.game.specs.StoredLaws.{no_rule}
use Rattle.game.specs.ListLaws.{◌∈◌, map-in, in_map}
use Rattle.table.specs.Table.{Entry, table_words, entry_words, entry_stride}
use Rattle.table.specs.Pairwise.{Pairwise}
use Rattle.rounds.specs.Rounds.{entry_at, adding, rule_ends}
use Rattle.rounds.specs.AddLaws.{Added}
use Rattle.rounds.proofs.AddLaws.{adding-in, adding-there}
use Rattle.rounds.specs.Enumeration.{rest_runs}
use Rattle.rounds.specs.Growing.{growing, partly}
use Rattle.rounds.proofs.GrownRound.{ended}
use Rattle.rounds.specs.Filled.{Stored, Filled}
use Rattle.rounds.specs.Scans.{rules_between}
use Rattle.rounds.specs.ScanLaws.{rule-at, next-is, none-next}
use Rattle.enumeration.specs.AlikeLaws.{one_each, low_of}
use Rattle.enumeration.specs.Jobs.{Stands, Whole, Entered, end_of, field_of}
use Rattle.enumeration.specs.Lists.{Zero}
use Rattle.enumeration.specs.Past.{Aging}
use Rattle.enumeration.specs.Places.{Placing}
use Rattle.walk.specs.RoundJobs.{alone, hers, Blank}
use Rattle.enumeration.specs.declared.runs.Job.{Job}
use Rattle.walk.proofs.Listing.{zero-at}
use Rattle.walk.proofs.RoundTurns.{blank-memoed}

-- an area of zeros is an empty table
pub zero-stored : (m : ℕ) (words : List ℕ) → length words ≡ m * 3 → Zero words → Stored m words 0 []
unfolding table_words entry_words Pairwise
zero-stored m words e none =
    let whole : m ≡ m - 0 = omega arith in
    record {
      counted = refl;
      fits = omega arith;
      stands =
          ext_get_or 0 words (replicate (entry_stride * m) 0)
          (e ∙ omega (arith, length-replicate {A = ℕ} (entry_stride * m) 0))
          (λ i h. none i ∙ sym (zero-at (entry_stride * m) i))
          ∙ ap (table_words []) whole;
      ascending = tt;
      small = λ x m. absurd (Memᴰ.not-nil m);
    }

-- what such a table has after it was grown by ends: each of them in an entry, and nothing else
pub record Found (ends : List ℕ) (m : ℕ) (words : List ℕ) (count : ℕ) : Type 0 where
  pub entries : List Entry
  pub stored : Stored m words count entries
  pub are : (e : Entry) → e ∈ entries → e.set ∈ ends
  pub every : (z : ℕ) → z ∈ ends → (e : Entry) × (e ∈ entries) × (e.set ≡ z)

pub found : (p a birthdate field : ℕ) (ends : List ℕ) (m : ℕ) (words : List ℕ) (count : ℕ)
    → Filled m words count (growing m (map (entry_at p a birthdate field) ends) (partly [])) → count ≤ m → Found ends m words count
unfolding Pairwise
found p a birthdate field ends m words count f l =
    let make : ℕ → Entry = entry_at p a birthdate field in
    let cs = map make ends in
    let one = one_each p a birthdate field ends in
    let of : (e : Entry) → e ∈ adding cs [] → e ∈ cs =
    λ e i. ⊎_elim (λ j. absurd (Memᴰ.not-nil j)) (λ (x : Added cs [] e). x.listed) (adding-in cs [] tt (low_of cs one) i)
    in
    record {
      entries = adding cs [];
      stored = ⊎_elim (λ fits. fits.1) (λ over. absurd (omega (arith, over.1))) (ended m cs [] tt (omega arith) words count f);
      are =
          λ e i.
          let r = map-in make ends (of e i) in
          subst (λ (z : ℕ). z ∈ ends) (sym (ap (λ (x : Entry). x.set) r.2)) r.1;
      every =
          λ z i.
          let y = adding-there cs [] (in_map make i) in
          (y.0, y.1, ap (λ (x : Entry). x.set) (one y.0 (make z) (of y.0 y.1) (in_map make i) y.2));
    }

single-runs : (ends : List ℕ) → flat_map (λ x. union 0 x ∷ []) ends ≡ ends
unfolding flat_map
single-runs [] = refl
single-runs (x ∷ ends) = ap₂ ◌∷◌ (none-union x) (single-runs ends)

hers-ranged : (g : PushdownGame) → Ranged g → Ranged (hers g)
hers-ranged g h =
    record {
      some = h.some;
      control = h.control;
      controls = h.controls;
      states = h.states;
      bottom = h.bottom;
      letters = h.letters;
      abelard = pow_pos g.control;
      finals = h.finals;
      rule = h.rule;
      numbers = h.numbers;
      rules = h.rules;
      target = h.target;
      distinct = h.distinct;
      targets = h.targets;
    }

-- the job as the code has it
module _ (job job' : Job) (r : ℕ) (e : job' ≡ alone job r) where
  pub its-end : r < job'.end
  its-end = subst (λ (j : Job). r < j.end) (sym e) (omega arith)

module _ (g : PushdownGame) (old : List Entry) (birthdate : ℕ) (job : Job) (rules work : List ℕ) (h : Stands g old birthdate job rules work) (r : ℕ) (l : r < job.end) (hit : of_head job.state job.letter (rule_at rules (r * 6) 0) ≡ true) where
  abbrev rule : Rule
  rule = get_or g.rules r no_rule

  heads : of_head job.state job.letter rule ≡ true
  unfolding of_head
  heads =
      sym (ap (of_head job.state job.letter) (rule-at rules h.slack g.rules h.written r (omega (arith, h.last)))) ∙ hit

  stands : Stands (hers g) old birthdate (alone job r) rules work
  stands =
      record {
        slack = h.slack;
        room = h.room;
        written = h.written;
        ranged = hers-ranged g h.ranged;
        stored = h.stored;
        sets = h.sets;
        state = h.state;
        letter = h.letter;
        born = h.born;
        first = h.first;
        last = omega (arith, h.last);
        owner = inr (none_has job.state, refl);
      }

  alone-whole : Whole (hers g) (alone job r) r
  unfolding end_of field_of
  alone-whole =
      let next : r + 1 ≡ suc r = omega arith in
      record { ends = rw (none_has job.state) next; named = rw (none_has job.state) next; heads = heads }

  alone-aging : (fresh : List ℕ) → Aging g old birthdate job fresh → Aging (hers g) old birthdate (alone job r) fresh
  alone-aging fresh aging = record { marked = aging.marked; settled = λ k a b of. absurd (omega arith) }

  -- its rules are the one
  one-rule : rules_between (hers g) job.state job.letter r (r + 1) ≡ rule ∷ []
  one-rule =
      (next-is (hers g) job.state job.letter rules h.slack h.written (r + 1) r r (omega (arith, h.last))
      (record { after = omega arith; within = omega arith; skipped = λ k a b. absurd (omega arith); found = λ m. hit })
      (omega arith)
      ).0
      ∙ ap (rule ∷◌)
      (none-next (hers g) job.state job.letter rules h.slack h.written (r + 1) (suc r) (r + 1) (omega (arith, h.last))
      (record { after = omega arith; within = omega arith; skipped = λ k a b. absurd (omega arith); found = λ m. absurd (omega arith) })
      (omega arith))

  alone-runs : rest_runs (hers g) old (rules_between (hers g) job.state job.letter r (r + 1)) 0 ≡ rule_ends g old rule
  unfolding rest_runs rule_ends
  alone-runs = ap (λ (rs : List Rule). rest_runs (hers g) old rs 0) one-rule ∙ single-runs (rule_ends g old rule)

  -- over the job as the code has it
  module _ (job' : Job) (e : job' ≡ alone job r) where
    pub enters : (m : ℕ) (sets memo : List ℕ) → Stored m sets 0 [] → Blank memo → Entered (hers g) old birthdate m job' rules work sets 0 memo (partly [])
    enters m sets memo st blank =
        subst (λ (j : Job). Entered (hers g) old birthdate m j rules work sets 0 memo (partly [])) (sym e)
        (record { stands = stands; filled = inr (refl, st); memoed = blank-memoed (hers g) old birthdate m memo (partly []) blank })

    pub ages : (fresh : List ℕ) → Aging g old birthdate job fresh → Aging (hers g) old birthdate job' fresh
    ages fresh aging = subst (λ (j : Job). Aging (hers g) old birthdate j fresh) (sym e) (alone-aging fresh aging)

    pub placed : (places : List ℕ) → Placing g work job.count places → Placing (hers g) work job'.count places
    placed places placing = subst (λ (j : Job). Placing (hers g) work j.count places) (sym e) placing

    pub begins : Whole (hers g) job' r
    begins = subst (λ (j : Job). Whole (hers g) j r) (sym e) alone-whole

    pub finds : (m : ℕ) (words : List ℕ) (count : ℕ)
        → Filled m words count
        (growing m
        (map (entry_at job'.state job'.letter birthdate job'.field) (rest_runs (hers g) old (rules_between (hers g) job'.state job'.letter r job'.end) 0))
        (partly []))
        → Filled m words count (growing m (map (entry_at job.state job.letter birthdate (r + 1)) (rule_ends g old rule)) (partly []))
    finds m words count f =
        subst (λ (xs : List ℕ). Filled m words count (growing m (map (entry_at job.state job.letter birthdate (r + 1)) xs) (partly []))) alone-runs
        (subst
        (λ (j : Job).
        Filled m words count
        (growing m
        (map (entry_at j.state j.letter birthdate j.field) (rest_runs (hers g) old (rules_between (hers g) j.state j.letter r j.end) 0))
        (partly [])))
        e f)
