-- What the turns of a round hand on: the job of a rule and its runs, the rules of a head, the turns of heads.
use Prim.Native.Nat.{ℕ, zero, suc, ◌+◌, ◌*◌, ◌-◌, ◌/◌, ◌%◌, ◌<◌, ◌≤◌}
use native.Mathlib.Omega.{arith}
use native.Mathlib.Nat.{mod-lt, div-lt_iff_lt-mul}
use native.Mathlib.Numerals.{add-one}
use mathlib.Core.Path.{◌≡◌, refl, sym, ap, ap₂, subst, ◌∙◌}
use mathlib.Core.Logic.{◌⊎◌, inl, inr, ⊎_elim}
use mathlib.Core.Bool.{Bool, true, false, cond}
use mathlib.Core.List.Memᴰ
use mathlib.Core.List.{List, [], ◌∷◌, ◌++◌, map}
use lib.ListN.{length, get_or, drop, replicate}
use lib.Dec.{eqb, ltb, leb}
use borrow.Author.Tests.{ne_eqb, eqb-true, eqb-false, ltb-true, ltb-false}
use Rattle.game.specs.Sets.{has, union}
use Rattle.game.specs.Game.{Rule, PushdownGame, of_head}
use Rattle.game.specs.Held.{Held, Safe}
use Rattle.game.specs.GoodGame.{Good, GoodRule}
use Rattle.game.specs.Stored.{rule_at}
use Rattle.game.specs.StoredLaws.{no_rule}
use Rattle.game.specs.ListLaws.{◌∈◌, test, map-in, in_map, flat_map-in, in-flat_map}
use Rattle.game.specs.Win.{is_abelard}
use Rattle.game.specs.declared.game.Sizes.{Sizes}
use Rattle.table.specs.Table.{Entry}
use Rattle.judge.specs.Worth.{entry_of_head}
use Rattle.rounds.specs.Rounds.{below, entry_at, candidates}
use Rattle.rounds.specs.Enumeration.{rest_runs, map-flat_map}
use Rattle.rounds.specs.Growing.{Growing}
use Rattle.enumeration.specs.Jobs.{Able, Stands, Whole, Memoed, end_of, field_of, sub_runs, begin_runs, tag_of}
use Rattle.rounds.specs.Scans.{NextRule, rules_between}
use Rattle.enumeration.specs.Past.{older, Past, Settled, SettledFrom, Aging}
use Rattle.enumeration.specs.PastLaws.{past_same, rest-aged}
use Rattle.enumeration.specs.Places.{PlacedHead, PlacedTo, Placing}
use Rattle.rounds.specs.InsertLaws.{no_entry}
use Rattle.rounds.proofs.InsertLaws.{get_d-in}
use Rattle.walk.specs.RoundJobs.{job_of, runs_of, run_runs, Blank, RunsStart, RunsEnd, First}
use Rattle.enumeration.specs.AlikeLaws.{Alike}
use Rattle.walk.specs.TurnLaws.{agrees, turn_gives, turns-in, turns-alike}
use Rattle.walk.specs.RoundJobLaws.{jobs_from, job_at, jobs-are, next-same, none_after, job-first, runs-by-place, from-number, from_last, run-writes}
use Rattle.enumeration.specs.declared.runs.Job.{Job}
use Rattle.enumeration.specs.HeadPlaces.{before_head, after-head}
use Rattle.rounds.specs.ScanLaws.{rule-at, head_at}
use Rattle.walk.proofs.Rounding.{run_at, runs_from, rules_from, turn_at, turns_from, Setting}
use Rattle.walk.proofs.FirstRuns.{runs-written, runs-popped}
use Rattle.walk.proofs.Listing.{zero-at}

-- a blank memo names nothing
pub blank-memoed : (g : PushdownGame) (es : List Entry) (birthdate n : ℕ) (memo : List ℕ) (s : Growing) → Blank memo → Memoed g es birthdate n memo s
unfolding tag_of
blank-memoed g es birthdate n memo s blank k p a r lp la lr e = absurd (omega (arith, blank k))

-- zeros are blank
pub zeros-blank : (n : ℕ) → Blank (replicate n 0)
zeros-blank n k = zero-at n (k * 3)

-- the runs of a job from place i on
pub runs-split : (birthdate : ℕ) (job : Job) (r runs i : ℕ) → i < runs → (g : PushdownGame) (es : List Entry)
    → runs_from birthdate job r runs i g es ≡ run_at birthdate job r i g es ++ runs_from birthdate job r runs (i + 1) g es
unfolding runs_from
runs-split birthdate job r runs i l g es = rw (add-one i) (from-number (λ j. run_at birthdate job r j g es) i runs l)

pub runs_none : (birthdate : ℕ) (job : Job) (r runs i : ℕ) → runs ≤ i → (g : PushdownGame) (es : List Entry) → runs_from birthdate job r runs i g es ≡ []
unfolding runs_from
runs_none birthdate job r runs i l g es = from_last (λ j. run_at birthdate job r j g es) i runs l

-- what is in a list from a place on
drop-in : {A : Type 0} (i : ℕ) (xs : List A) {x : A} → x ∈ drop i xs → x ∈ xs
drop-in zero xs m = m
drop-in (suc i) [] m = m
drop-in (suc i) (y ∷ xs) m = Memᴰ.tail (drop-in i xs m)

-- runs that give nothing are passed over
runs_skip : (birthdate : ℕ) (job : Job) (r runs : ℕ) (g : PushdownGame) (es : List Entry) (m i : ℕ) → i + m ≤ runs
    → ((k : ℕ) → i ≤ k → k < i + m → run_at birthdate job r k g es ≡ [])
    → runs_from birthdate job r runs i g es ≡ runs_from birthdate job r runs (i + m) g es
runs_skip birthdate job r runs g es zero i l none =
    let same : i + zero ≡ i = omega arith in
    rw same refl
runs_skip birthdate job r runs g es (suc m) i l none =
    let same : i + suc m ≡ i + 1 + m = omega arith in
    rw same
    (runs-split birthdate job r runs i (omega arith) g es
    ∙ ap (◌++ runs_from birthdate job r runs (i + 1) g es) (none i (omega arith) (omega arith))
    ∙ runs_skip birthdate job r runs g es m (i + 1) (omega arith) (λ k a b. none k (omega arith) (omega arith)))

-- What the code has at a rule: it is one of the head (p, a), and its job and its runs are made.
pub record AtRule (sizes : Sizes) (rules fresh : List ℕ) (old birthdate p a r : ℕ) (job : Job) (runs : ℕ) : Type 0 where
  pub low : p < sizes.control
  pub high : a < sizes.letters
  pub within : r < sizes.rulecount
  pub hit : of_head p a (rule_at rules (r * 6) 0) ≡ true
  pub made : job ≡ job_of sizes p a birthdate r old job.last
  pub settled : SettledFrom rules fresh job.end p a job.last
  pub so-many : runs ≡ runs_of rules r old

pub at-rule : (sizes : Sizes) (rules fresh : List ℕ) (old birthdate head r : ℕ) (job : Job) (runs : ℕ) → 0 < sizes.letters
    → head < sizes.control * sizes.letters → r < sizes.rulecount
    → (r < sizes.rulecount → of_head (head / sizes.letters) (head % sizes.letters) (rule_at rules (r * 6) 0) ≡ true)
    → job ≡ job_of sizes (head / sizes.letters) (head % sizes.letters) birthdate r old job.last
    → SettledFrom rules fresh job.end (head / sizes.letters) (head % sizes.letters) job.last → runs ≡ runs_of rules r old
    → AtRule sizes rules fresh old birthdate (head / sizes.letters) (head % sizes.letters) r job runs
at-rule sizes rules fresh old birthdate head r job runs some l within hit made settled so-many =
    let place = head_at sizes.control sizes.letters head some l in
    record { low = place.0; high = place.1; within = within; hit = hit within; made = made; settled = settled; so-many = so-many }

-- what its runs need of indexes
pub at-able : (sizes : Sizes) (rules work : List ℕ) (old birthdate p a r : ℕ) (job : Job) → Safe sizes rules → old * 3 ≤ length work
    → r < sizes.rulecount → job ≡ job_of sizes p a birthdate r old job.last
    → Able job (length rules) (length work) × (r < job.end) × (job.end ≤ sizes.rulecount) × (job.count ≡ old)
at-able sizes rules work old birthdate p a r job safe fits l made =
    let count : job.count ≡ old = ap (λ (x : Job). x.count) made in
    let end : job.end ≡ cond (has sizes.abelard p) sizes.rulecount (r + 1) = ap (λ (x : Job). x.end) made in
    let bounds : (r < job.end) × (job.end ≤ sizes.rulecount) =
    rw end
    (⊎_elim (λ (t : has sizes.abelard p ≡ true). rw t (l, omega arith))
    (λ (t : has sizes.abelard p ≡ false). rw t (omega arith, omega arith))
    (test (has sizes.abelard p)))
    in (
      record {
        ends = omega (arith, safe.fit);
        few = omega (arith, safe.few);
        entries = omega arith;
      },
      bounds.0,
      bounds.1,
      count,
    )

module _ (g : PushdownGame) (es : List Entry) (n : ℕ) (sizes : Sizes) (rules places work : List ℕ) (old : ℕ) (h : Setting g es n sizes rules places work old) (birthdate : ℕ) where
  control-is : sizes.control ≡ g.control
  control-is = ap (λ (x : Sizes). x.control) h.held.sized

  letters-are : sizes.letters ≡ g.letters
  letters-are = ap (λ (x : Sizes). x.letters) h.held.sized

  rules-are : sizes.rulecount ≡ length g.rules
  rules-are = ap (λ (x : Sizes). x.rulecount) h.held.sized

  -- the job of a rule
  module _ (fresh : List ℕ) (p a r : ℕ) (job : Job) (runs : ℕ) (at : AtRule sizes rules fresh old birthdate p a r job runs) where
    end_is : job.end ≡ end_of g p r
    unfolding end_of
    end_is = ap (λ (x : Job). x.end) at.made ∙ rw (h.held.sized, add-one r)

    field_is : job.field ≡ field_of g p r
    unfolding field_of
    field_is = ap (λ (x : Job). x.field) at.made ∙ rw (h.held.sized, add-one r)

    state-is : job.state ≡ p
    state-is = ap (λ (x : Job). x.state) at.made

    letter-is : job.letter ≡ a
    letter-is = ap (λ (x : Job). x.letter) at.made

    pub job-whole : Whole g job r
    unfolding of_head
    job-whole =
        record {
          ends = rw state-is end_is;
          named = rw state-is field_is;
          heads =
              rw (state-is, letter-is)
              (sym (ap (of_head p a) (rule-at rules h.held.slack g.rules h.held.stands r (omega (arith, rules-are, at.within)))) ∙ at.hit);
        }

    end-within : end_of g p r ≤ length g.rules
    unfolding end_of
    end-within =
        ⊎_elim (λ (t : is_abelard g p ≡ true). rw t (omega arith)) (λ (t : is_abelard g p ≡ false). rw t (omega (arith, rules-are, at.within)))
        (test (is_abelard g p))

    after-rule : r < end_of g p r
    unfolding end_of
    after-rule =
        ⊎_elim (λ (t : is_abelard g p ≡ true). rw t (omega (arith, rules-are, at.within))) (λ (t : is_abelard g p ≡ false). rw t (omega arith))
        (test (is_abelard g p))

    pub job-stands : birthdate < 65536 → Stands g es birthdate job rules work
    unfolding end_of field_of
    job-stands born =
        record {
          slack = h.held.slack;
          room = n;
          written = h.held.stands;
          ranged = h.good.ranged;
          stored = rw (ap (λ (x : Job). x.count) at.made) h.stored;
          sets = λ e m. (h.ranged e m).set.small;
          state = omega (arith, state-is, control-is, at.low);
          letter = omega (arith, letter-is, letters-are, at.high);
          born = born;
          first = rw (state-is, letter-is) (ap (λ (x : Job). x.first) at.made);
          last = rw end_is end-within;
          owner =
              rw (state-is, end_is, field_is)
              (⊎_elim (λ (t : is_abelard g p ≡ true). inl (t, rw t, rw t)) (λ (t : is_abelard g p ≡ false). inr (t, rw t)) (test (is_abelard g p)));
        }

    -- what is noted of the last round holds of its rules
    pub job-aging : ((e : Entry) → e ∈ es → (e ∈ older birthdate es) ⊎ (has (get_or fresh e.letter 0) e.state ≡ true)) → Aging g es birthdate job fresh
    unfolding of_head
    job-aging marked =
        record {
          marked = marked;
          settled =
              λ k l m of.
              let same = rule-at rules h.held.slack g.rules h.held.stands k (omega (arith, end_is, end-within)) in
              let bytes = at.settled k l m (ap (of_head p a) same ∙ (rw (state-is, letter-is) at of)) in
              subst (Settled fresh) same (record { above = bytes.above; below = bytes.below });
        }

    -- what it gives is what its runs do
    job-runs : job_at g es birthdate p a r ≡ runs_from birthdate job r runs 0 g es
    unfolding job_at runs_from
    job-runs =
        rw (state-is, letter-is, end_is, field_is, at.so-many, h.stored.counted)
        (ap (map (entry_at p a birthdate (field_of g p r)))
        (runs-by-place g es birthdate p a rules h.held.slack h.held.stands (end_of g p r) r end-within after-rule at.hit)
        ∙ map-flat_map (entry_at p a birthdate (field_of g p r)) (run_runs g es p a (end_of g p r) r) (below (runs_of rules r (length es))))

    -- what the job gives over a table, in its own terms
    job-gives : (table : List Entry)
        → job_at g table birthdate p a r
        ≡ map (entry_at job.state job.letter birthdate job.field) (rest_runs g table (rules_between g job.state job.letter r job.end) 0)
    unfolding job_at
    job-gives table = rw (state-is, letter-is, end_is, field_is)

    -- where none of its rules can have an entry of the last round, its runs are given by older entries
    pub runs-aged : Aging g es birthdate job fresh → job.last ≤ r → (i : ℕ) (e : Entry) → e ∈ runs_from birthdate job r runs i g es
        → e ∈ job_at g (older birthdate es) birthdate p a r
    unfolding runs_from
    runs-aged aging l i e m =
        let entry = entry_at job.state job.letter birthdate job.field in
        let of : List Entry → List ℕ = λ table. rest_runs g table (rules_between g job.state job.letter r job.end) 0 in
        let f = flat_map-in (λ j. run_at birthdate job r j g es) (drop i (below runs)) m in
        let whole = in-flat_map (λ j. run_at birthdate job r j g es) (drop-in i (below runs) f.1) f.2 in
        let x = map-in entry (of es) (subst (λ (l : List Entry). e ∈ l) (sym job-runs ∙ job-gives es) whole) in
        subst (λ (l : List Entry). e ∈ l) (sym (job-gives (older birthdate es)))
        (subst (λ (y : Entry). y ∈ map entry (of (older birthdate es))) (sym x.2)
        (in_map entry (rest-aged g es birthdate job fresh aging r 0 l x.0 x.1)))

    -- what older entries give of it, as its runs are asked for it
    pub job-past : (late : ℕ) (s : Growing) → Past birthdate n late (job_at g (older birthdate es) birthdate p a r) s
        → Past birthdate n late
        (map (entry_at job.state job.letter birthdate job.field)
        (rest_runs g (older birthdate es) (rules_between g job.state job.letter r job.end) 0)) s
    job-past late s past = past_same birthdate n late s (job-gives (older birthdate es)) past

    -- and of the rules from it on they give what the job does, then what the rules after the job do
    pub past_split : (table : List Entry)
        → rules_from birthdate p a r g table ≡ job_at g table birthdate p a r ++ rules_from birthdate p a job.end g table
    unfolding rules_from
    past_split table =
        job-first g table birthdate p a rules h.held.slack h.held.stands h.good.ranged.numbers r (omega (arith, rules-are, at.within)) at.hit
        ∙ ap (λ (k : ℕ). job_at g table birthdate p a r ++ jobs_from g table birthdate p a k) (sym end_is)

    rule-bytes : rule_at rules (r * 6) (get_or g.rules r no_rule).number ≡ get_or g.rules r no_rule
    rule-bytes = rule-at rules h.held.slack g.rules h.held.stands r (omega (arith, rules-are, at.within))

    good-rule : GoodRule g.control g.letters (get_or g.rules r no_rule)
    good-rule = h.good.ranged.rule _ (get_d-in no_rule g.rules r (omega (arith, rules-are, at.within)))

    goes_above : PlacedHead work old places (get_or rules (r * 6 + 2) 0) (get_or rules (r * 6 + 4) 0)
    goes_above =
        rw (ap (λ (x : Rule). x.to) rule-bytes, ap (λ (x : Rule). x.above) rule-bytes)
        (h.placing _ _ (omega (arith, good-rule.to, h.good.ranged.control)) good-rule.above)

    -- a run that begins with an entry of another head gives nothing
    run_none : (get_or rules (r * 6 + 3) 0 ≡ 0 → ⊥) → (k : ℕ)
        → entry_of_head (get_or rules (r * 6 + 2) 0) (get_or rules (r * 6 + 4) 0) (get_or es k no_entry) ≡ false → run_at birthdate job r k g es ≡ []
    unfolding begin_runs
    run_none some k other =
        ap (map (entry_at job.state job.letter birthdate job.field))
        (run-writes g es job.state job.letter job.end r k
        (ne_eqb (get_or g.rules r no_rule).count 0 (λ e. some (ap (λ (x : Rule). x.count) rule-bytes ∙ e)))
        ∙ ap
        (λ (b : Bool).
        cond b
        (cond (eqb (get_or g.rules r no_rule).count 1) (sub_runs g es job.state job.letter job.end r 0 (union 0 (get_or es k no_entry).set))
        (sub_runs g es job.state job.letter job.end r (get_or es k no_entry).set 0))
        [])
        (rw (ap (λ (x : Rule). x.to) rule-bytes, ap (λ (x : Rule). x.above) rule-bytes) at other))

    -- so its runs begin where the entries of the head that it goes to do, and end there
    pub runs-begin : (start : ℕ) → RunsStart rules places r old start → runs_from birthdate job r runs 0 g es ≡ runs_from birthdate job r runs start g es
    runs-begin start s =
        ⊎_elim
        (λ (t : eqb (get_or rules (r * 6 + 3) 0) 0 ≡ true). rw (s.first (eqb-true (get_or rules (r * 6 + 3) 0) 0 t)) refl)
        (λ (t : eqb (get_or rules (r * 6 + 3) 0) 0 ≡ false).
        let some = eqb-false (get_or rules (r * 6 + 3) 0) 0 t in
        let sum : 0 + start ≡ start = omega arith in
        rw sum at
        (runs_skip birthdate job r runs g es start 0 (omega (arith, at.so-many, runs-written rules r old some, s.within))
        (λ k a b.
        run_none some k (before_head n work old es h.stored (get_or rules (r * 6 + 2) 0) (get_or rules (r * 6 + 4) 0) start (s.placed some work goes_above) k (omega arith)))))
        (test (eqb (get_or rules (r * 6 + 3) 0) 0))

    pub runs-ended : (end : ℕ) → RunsEnd rules places r old end → (i : ℕ) → end ≤ i → runs_from birthdate job r runs i g es ≡ []
    runs-ended end s i l =
        ⊎_elim (λ (t : ltb i runs ≡ true). later (ltb-true i runs t))
        (λ (t : ltb i runs ≡ false). runs_none birthdate job r runs i (ltb-false i runs t) g es)
        (test (ltb i runs))
      where
        later : i < runs → runs_from birthdate job r runs i g es ≡ []
        later m =
            ⊎_elim
            (λ (t : eqb (get_or rules (r * 6 + 3) 0) 0 ≡ true).
            let z = eqb-true (get_or rules (r * 6 + 3) 0) 0 t in
            absurd (omega (arith, at.so-many, runs-popped rules r old z, s.one z)))
            (λ (t : eqb (get_or rules (r * 6 + 3) 0) 0 ≡ false).
            let some = eqb-false (get_or rules (r * 6 + 3) 0) 0 t in
            let many = runs-written rules r old some in
            let sum : i + (runs - i) ≡ runs = omega arith in
            runs_skip birthdate job r runs g es (runs - i) i (omega arith)
            (λ k a b.
            run_none some k
            (after-head n work old es h.stored (get_or rules (r * 6 + 2) 0) (get_or rules (r * 6 + 4) 0) end (s.placed some work goes_above) k (omega arith)
            (omega (arith, at.so-many, many, h.stored.counted))))
            ∙ runs_none birthdate job r runs (i + (runs - i)) (omega arith) g es)
            (test (eqb (get_or rules (r * 6 + 3) 0) 0))

    -- a head's rules from a rule on: its job's runs, then the rules after the job
    pub rules-split : rules_from birthdate p a r g es ≡ runs_from birthdate job r runs 0 g es ++ rules_from birthdate p a job.end g es
    unfolding rules_from
    rules-split =
        job-first g es birthdate p a rules h.held.slack h.held.stands h.good.ranged.numbers r (omega (arith, rules-are, at.within)) at.hit
        ∙ ap₂ ◌++◌ job-runs (ap (jobs_from g es birthdate p a) (sym end_is))

  -- nothing lies between a place and the next rule
  pub rules-next : (table : List Entry) (p a from r : ℕ) → NextRule rules sizes.rulecount from p a r
      → rules_from birthdate p a from g table ≡ rules_from birthdate p a r g table
  unfolding rules_from
  rules-next table p a from r next = next-same g table birthdate p a rules h.held.slack h.held.stands from r (rw rules-are at next)

  pub past_next : (p a from r : ℕ) → NextRule rules sizes.rulecount from p a r → (e : Entry)
      → e ∈ rules_from birthdate p a r g (older birthdate es) → e ∈ rules_from birthdate p a from g (older birthdate es)
  past_next p a from r next e m = subst (λ (l : List Entry). e ∈ l) (sym (rules-next (older birthdate es) p a from r next)) m

  pub rules-none : (table : List Entry) (p a r : ℕ) → sizes.rulecount ≤ r → rules_from birthdate p a r g table ≡ []
  unfolding rules_from
  rules-none table p a r l = none_after g table birthdate p a rules h.held.slack h.held.stands r (omega (arith, rules-are))

  module _ (letters heads turn : ℕ) (so-wide : letters ≡ sizes.letters) (so-many : heads ≡ sizes.control * sizes.letters) where
    -- the turns from one on
    pub turns-split : (table : List Entry) → turn < heads * 2
        → turns_from birthdate letters heads turn g table ≡ turn_at birthdate letters heads turn g table ++ turns_from birthdate letters heads (turn + 1) g table
    unfolding turns_from turn_at
    turns-split table l = rw (add-one turn) (from-number (turn_gives g table birthdate letters heads) turn (heads * 2) l)

    pub turns-none : heads * 2 ≤ turn → turns_from birthdate letters heads turn g es ≡ []
    unfolding turns_from
    turns-none l = from_last (turn_gives g es birthdate letters heads) turn (heads * 2) l

    -- a turn gives what its head's rules do, from the first one on, if it is the head's own
    pub turn-first : (table : List Entry) → turn < heads * 2 → (r : ℕ)
        → First rules sizes.rulecount (agrees (has sizes.abelard (turn % heads / letters)) (leb heads turn)) (turn % heads / letters) (turn % heads % letters) r
        → turn_at birthdate letters heads turn g table ≡ rules_from birthdate (turn % heads / letters) (turn % heads % letters) r g table
    unfolding turn_at turn_gives rules_from
    turn-first table l r first =
        let p = turn % heads / letters in
        let a = turn % heads % letters in
        let some : 0 < letters = omega (arith, so-wide, letters-are, h.good.ranged.bottom) in
        let inside : turn % heads < heads = mod-lt turn (omega arith) in
        let low : p < g.control = (div-lt_iff_lt-mul some).1 (rw (so-wide, ← control-is, ← so-many) inside) in
        let high : a < g.letters = omega (arith, mod-lt (turn % heads) some, so-wide, letters-are) in
        let owner : sizes.abelard ≡ g.abelard = ap (λ (x : Sizes). x.abelard) h.held.sized in
        ⊎_elim
        (λ (t : agrees (has g.abelard p) (leb heads turn) ≡ true).
        rw t
        (jobs-are g table birthdate p a h.good low high
        ∙ next-same g table birthdate p a rules h.held.slack h.held.stands 0 r (rw rules-are at (first.next (rw owner t)))))
        (λ (t : agrees (has g.abelard p) (leb heads turn) ≡ false).
        rw t (sym (none_after g table birthdate p a rules h.held.slack h.held.stands r (omega (arith, rules-are, first.none (rw owner t))))))
        (test (agrees (has g.abelard p) (leb heads turn)))

  -- all turns give the candidates of the round, in another order
  module _ (letters heads : ℕ) (so-wide : letters ≡ sizes.letters) (so-many : heads ≡ sizes.control * sizes.letters) where
    pub turns-in-round : (table : List Entry) (e : Entry) → e ∈ turns_from birthdate letters heads 0 g table → e ∈ candidates g table birthdate
    unfolding turns_from
    turns-in-round table e m = turns-in g h.good table birthdate e (rw (so-many, so-wide, control-is, letters-are) at m)

    pub turns-all : Alike (turns_from birthdate letters heads 0 g es) (candidates g es birthdate)
    unfolding turns_from
    turns-all = rw (so-many, so-wide, control-is, letters-are) (turns-alike g h.good es birthdate (λ e m. (h.ranged e m).set))

-- `take_wide`: the places of every head of the automaton are looked up
module _ (g : PushdownGame) (sizes : Sizes) (rules : List ℕ) (held : Held g sizes rules) (good : Good g) where
  pub letters-few : sizes.letters ≤ 64
  letters-few = omega (arith, ap (λ (x : Sizes). x.letters) held.sized, good.ranged.letters)

  pub heads-placed : (work : List ℕ) (old : ℕ) (places : List ℕ) → PlacedTo work old places sizes.letters (sizes.states * 64) → Placing g work old places
  heads-placed work old places to q a lq la =
      let states = ap (λ (x : Sizes). x.states) held.sized in
      let letters = ap (λ (x : Sizes). x.letters) held.sized in
      to q a (omega (arith, letters)) (omega (arith, states, letters-few))
