-- The rules that are left of a job, of which the next one writes nothing or letters: what the runs of all of them leave, from what is
-- left of the next one's, and what is handed on of the past.
use Rattle.std.specs.Prelude.{ℕ, suc, ◌<◌, ◌≡◌, true, get_or}
use Rattle.std.proofs.Common.{sym, ap, subst, ◌∙◌}
use mathlib.Core.List.{List, ◌∷◌, map, flat_map}
use Rattle.game.specs.Sets.{single, union}
use Rattle.game.specs.Game.{Rule, PushdownGame, of_head}
use Rattle.game.specs.StoredLaws.{no_rule}
use Rattle.table.specs.Table.{Entry}
use Rattle.rounds.specs.Rounds.{entry_at}
use Rattle.rounds.specs.Enumeration.{rest_runs}
use Rattle.rounds.specs.Growing.{Growing}
use Rattle.rounds.specs.InsertLaws.{no_entry}
use Rattle.rounds.specs.Scans.{NextRule, rules_between}
use Rattle.rounds.specs.ScanLaws.{next-is}
use Rattle.enumeration.specs.Jobs.{Entered, Finished, sub_runs, begin_runs}
use Rattle.enumeration.specs.NextLaws.{begin_of, begin-at, pops, writes}
use Rattle.enumeration.specs.Past.{older, Past}
use Rattle.enumeration.specs.PastLaws.{past_same}
use Rattle.enumeration.specs.declared.runs.Job.{Job}

module _ (g : PushdownGame) (old : List Entry) (birthdate n : ℕ) (job : Job) (rules work words : List ℕ) (count : ℕ) (memo : List ℕ) (s : Growing) (h : Entered g old birthdate n job rules work words count memo s) where
  -- what is left of an enumeration of runs
  abbrev Leaves : List ℕ → List ℕ → ℕ → List ℕ → Type 0
  Leaves runs words' count' memo' =
      Finished g old birthdate n (map (entry_at job.state job.letter birthdate job.field) runs) s words' count' memo'

  pub same-list : {xs ys : List ℕ} {words' : List ℕ} {count' : ℕ} {memo' : List ℕ} → xs ≡ ys → Leaves ys words' count' memo' → Leaves xs words' count' memo'
  same-list {words' = w} {count' = k} {memo' = m} e f = subst (λ (l : List ℕ). Leaves l w k m) (sym e) f

  -- from a place on: the next rule, then those after it
  module _ (from u r : ℕ) (next : NextRule rules job.end from job.state job.letter r) where
    abbrev all : List ℕ
    all = rest_runs g old (rules_between g job.state job.letter from job.end) u

    module _ (l : r < job.end) where
      pub split : (rules_between g job.state job.letter from job.end ≡ get_or g.rules r no_rule ∷ rules_between g job.state job.letter (suc r) job.end) × (of_head job.state job.letter (get_or g.rules r no_rule) ≡ true)
      split = next-is g job.state job.letter rules h.stands.slack h.stands.written job.end from r h.stands.last next l

      pub pops-first : (get_or g.rules r no_rule).count ≡ 0 → (passed : ℕ) → passed ≡ union u (single (get_or g.rules r no_rule).to)
          → {words' : List ℕ} {count' : ℕ} {memo' : List ℕ}
          → Leaves (sub_runs g old job.state job.letter job.end r 0 passed) words' count' memo' → Leaves all words' count' memo'
      pops-first z passed e f =
          same-list
          (ap (λ (rs : List Rule). rest_runs g old rs u) split.0
          ∙ pops g old job.state job.letter job.end r u z
          ∙ ap (λ (x : ℕ). sub_runs g old job.state job.letter job.end r 0 x) (sym e))
          f

      pub writes-first : ((get_or g.rules r no_rule).count ≡ 0 → ⊥) → {words' : List ℕ} {count' : ℕ} {memo' : List ℕ}
          → Leaves (flat_map (begin_of g old job.state job.letter job.end r u) old) words' count' memo' → Leaves all words' count' memo'
      writes-first z f =
          same-list
          (ap (λ (rs : List Rule). rest_runs g old rs u) split.0 ∙ writes g old job.state job.letter job.end r u z)
          f

  -- what entry i gives, as the entries that are taken one after another have it
  pub begun : (r i u : ℕ) {words' : List ℕ} {count' : ℕ} {memo' : List ℕ}
      → Leaves (begin_runs g old job.state job.letter job.end r i u) words' count' memo'
      → Leaves (begin_of g old job.state job.letter job.end r u (get_or old i no_entry)) words' count' memo'
  begun r i u f = same-list (sym (begin-at g old job.state job.letter job.end r i u)) f

  -- what older entries give
  abbrev prior : List Entry
  prior = older birthdate old

  abbrev entries : List ℕ → List Entry
  entries = map (entry_at job.state job.letter birthdate job.field)

  module _ (from u r : ℕ) (next : NextRule rules job.end from job.state job.letter r) (l : r < job.end) (late : ℕ)
      (past : Past birthdate n late (entries (rest_runs g prior (rules_between g job.state job.letter from job.end) u)) s) where
    first-rule : entries (rest_runs g prior (rules_between g job.state job.letter from job.end) u)
        ≡ entries (rest_runs g prior (get_or g.rules r no_rule ∷ rules_between g job.state job.letter (suc r) job.end) u)
    first-rule =
        ap (λ (rs : List Rule). entries (rest_runs g prior rs u))
        (next-is g job.state job.letter rules h.stands.slack h.stands.written job.end from r h.stands.last next l).0

    pub past-pops : (get_or g.rules r no_rule).count ≡ 0 → (passed : ℕ) → passed ≡ union u (single (get_or g.rules r no_rule).to)
        → Past birthdate n late (entries (sub_runs g prior job.state job.letter job.end r 0 passed)) s
    past-pops z passed e =
        past_same birthdate n late s
        (first-rule
        ∙ ap entries (pops g prior job.state job.letter job.end r u z)
        ∙ ap (λ (x : ℕ). entries (sub_runs g prior job.state job.letter job.end r 0 x)) (sym e))
        past

    pub past-writes : ((get_or g.rules r no_rule).count ≡ 0 → ⊥)
        → Past birthdate n late (entries (flat_map (begin_of g prior job.state job.letter job.end r u) prior)) s
    past-writes z =
        past_same birthdate n late s (first-rule ∙ ap entries (writes g prior job.state job.letter job.end r u z)) past
