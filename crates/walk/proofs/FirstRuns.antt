-- The runs of a rule by their places, as its bytes say: how many there are, and what the run at a place gives.
use Prim.Native.Nat.{ℕ, ◌+◌, ◌*◌, ◌<◌, ◌≤◌}
use native.Mathlib.Omega.{arith}
use mathlib.Core.Path.{◌≡◌, sym, ap, ◌∙◌}
use mathlib.Core.Logic.{◌⊎◌, ⊎_elim}
use mathlib.Core.Bool.{true, false}
use mathlib.Core.List.{List, map, flat_map}
use lib.ListN.{get_or}
use lib.Pow.{pow_pos}
use lib.Dec.{eqb}
use borrow.Author.Tests.{eq-eqb, ne_eqb, eqb-true, eqb-false}
use Rattle.game.specs.Sets.{single, union}
use Rattle.game.specs.Game.{PushdownGame, of_head}
use Rattle.game.specs.StoredLaws.{no_rule}
use Rattle.game.specs.ListLaws.{test}
use Rattle.table.specs.Table.{Entry}
use Rattle.rounds.specs.Rounds.{entry_at}
use Rattle.game.specs.UnionLaws.{none-union}
use Rattle.rounds.specs.Enumeration.{rest_runs}
use Rattle.rounds.specs.Growing.{Growing}
use Rattle.enumeration.specs.Jobs.{Entered, Whole, sub_runs, begin_runs}
use Rattle.rounds.specs.Scans.{NextRule, rules_between}
use Rattle.enumeration.specs.Past.{older, Past}
use Rattle.walk.specs.RoundJobs.{runs_of, run_runs, RunsEnd}
use Rattle.walk.specs.RoundJobLaws.{run-pops, run-writes}
use Rattle.enumeration.specs.declared.runs.Job.{Job}
use Rattle.enumeration.specs.NextLaws.{begin_of}
use Rattle.enumeration.specs.RuleLaws.{to_is, count-is, to-small}
use Rattle.enumeration.specs.RestLaws.{past-pops, past-writes}
use Rattle.rounds.specs.ScanLaws.{rule-at}

-- `run_at`: how many runs a rule has that writes letters
pub runs-written : (rules : List ℕ) (r old : ℕ) → (get_or rules (r * 6 + 3) 0 ≡ 0 → ⊥) → runs_of rules r old ≡ old
unfolding runs_of
runs-written rules r old n = rw (ne_eqb (get_or rules (r * 6 + 3) 0) 0 n)

pub runs-popped : (rules : List ℕ) (r old : ℕ) → get_or rules (r * 6 + 3) 0 ≡ 0 → runs_of rules r old ≡ 1
unfolding runs_of
runs-popped rules r old e = rw (eq-eqb (get_or rules (r * 6 + 3) 0) 0 e)

-- runs that end where the code ends them are among them
ends-within : (rules places : List ℕ) (r old end : ℕ) → RunsEnd rules places r old end → end ≤ runs_of rules r old
ends-within rules places r old end s =
    ⊎_elim
    (λ (t : eqb (get_or rules (r * 6 + 3) 0) 0 ≡ true).
    let z = eqb-true (get_or rules (r * 6 + 3) 0) 0 t in
    omega (arith, runs-popped rules r old z, s.one z))
    (λ (t : eqb (get_or rules (r * 6 + 3) 0) 0 ≡ false).
    let some = eqb-false (get_or rules (r * 6 + 3) 0) 0 t in
    omega (arith, runs-written rules r old some, s.within some))
    (test (eqb (get_or rules (r * 6 + 3) 0) 0))

pub runs-within : (rules places : List ℕ) (r old last late end : ℕ) → ((0 < late) × (last ≤ r) × (end ≡ 0)) ⊎ RunsEnd rules places r old end → end ≤ runs_of rules r old
runs-within rules places r old last late end o = ⊎_elim (λ none. omega (arith, none.2)) (ends-within rules places r old end) o

-- and the runs at a place, as the rule's bytes say
module _ (g : PushdownGame) (old : List Entry) (birthdate n : ℕ) (job : Job) (rules work words : List ℕ) (count : ℕ) (memo : List ℕ) (s : Growing) (h : Entered g old birthdate n job rules work words count memo s) (r : ℕ) (l : r < job.end) where
  goes_to : get_or rules (r * 6 + 2) 0 ≡ (get_or g.rules r no_rule).to
  goes_to = to_is g old birthdate n job rules work words count memo s h r l

  writes-so-many : get_or rules (r * 6 + 3) 0 ≡ (get_or g.rules r no_rule).count
  writes-so-many = count-is g old birthdate n job rules work words count memo s h r l

  -- what a table gives from rule r on
  abbrev given-from : List Entry → List Entry
  given-from table =
      map (entry_at job.state job.letter birthdate job.field) (rest_runs g table (rules_between g job.state job.letter r job.end) 0)

  -- from rule r on it is the next one
  pub itself : Whole g job r → NextRule rules job.end r job.state job.letter r
  unfolding of_head
  itself w =
      record {
        after = omega arith;
        within = omega arith;
        skipped = λ k a b. absurd (omega arith);
        found =
            λ m.
            ap (of_head job.state job.letter) (rule-at rules h.stands.slack g.rules h.stands.written r (omega (arith, h.stands.last)))
            ∙ w.heads;
      }

  module _ (passed : ℕ) (e : get_or rules (r * 6 + 2) 0 < 32 → passed ≡ union 0 (single (get_or rules (r * 6 + 2) 0))) where
    passed_is : passed ≡ single (get_or g.rules r no_rule).to
    passed_is =
        e (omega (arith, goes_to, to-small g old birthdate n job rules work words count memo s h r l))
        ∙ none-union (single (get_or rules (r * 6 + 2) 0))
        ∙ ap single goes_to

    pub passed-some : 0 < passed
    passed-some = omega (arith, passed_is, pow_pos (get_or g.rules r no_rule).to)

    pub popped : get_or rules (r * 6 + 3) 0 ≡ 0 → (i : ℕ)
        → sub_runs g old job.state job.letter job.end r 0 passed ≡ run_runs g old job.state job.letter job.end r i
    popped z i =
        ap (sub_runs g old job.state job.letter job.end r 0) passed_is
        ∙ sym (run-pops g old job.state job.letter job.end r i (eq-eqb (get_or g.rules r no_rule).count 0 (sym writes-so-many ∙ z)))

    -- what older entries give is handed on
    pub popped-past : Whole g job r → get_or rules (r * 6 + 3) 0 ≡ 0 → (late : ℕ) → Past birthdate n late (given-from (older birthdate old)) s
        → Past birthdate n late
        (map (entry_at job.state job.letter birthdate job.field) (sub_runs g (older birthdate old) job.state job.letter job.end r 0 passed)) s
    popped-past w z late past =
        past-pops g old birthdate n job rules work words count memo s h r 0 r (itself w) l late past (sym writes-so-many ∙ z) passed
        (e (omega (arith, goes_to, to-small g old birthdate n job rules work words count memo s h r l)) ∙ ap (λ (q : ℕ). union 0 (single q)) goes_to)

  pub written-past : Whole g job r → (get_or rules (r * 6 + 3) 0 ≡ 0 → ⊥) → (late : ℕ) → Past birthdate n late (given-from (older birthdate old)) s
      → Past birthdate n late
      (map (entry_at job.state job.letter birthdate job.field)
      (flat_map (begin_of g (older birthdate old) job.state job.letter job.end r 0) (older birthdate old))) s
  written-past w z late past =
      past-writes g old birthdate n job rules work words count memo s h r 0 r (itself w) l late past (λ e. z (writes-so-many ∙ e))

  pub written : (get_or rules (r * 6 + 3) 0 ≡ 0 → ⊥) → (i : ℕ)
      → begin_runs g old job.state job.letter job.end r i 0 ≡ run_runs g old job.state job.letter job.end r i
  written z i =
      sym
      (run-writes g old job.state job.letter job.end r i
      (ne_eqb (get_or g.rules r no_rule).count 0 (λ e. z (writes-so-many ∙ e))))
