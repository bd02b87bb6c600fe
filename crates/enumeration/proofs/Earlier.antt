-- What the turns of an enumeration hand on of the past: where no entry of the last round was passed, what older entries alone give
-- from here on is held; and what is passed over for it.
use Prim.Native.Nat.{ℕ, suc, ◌+◌, ◌<◌, ◌≤◌}
use native.Mathlib.Omega.{arith}
use mathlib.Core.Path.{◌≡◌, sym, ap, subst, ◌∙◌}
use mathlib.Core.Bool.{Bool, true, false, cond}
use mathlib.Core.List.{List, [], map, flat_map}
use lib.ListN.{get_or}
use lib.Bits.{bit_and}
use lib.Dec.{eqb}
use borrow.Author.Tests.{eq-eqb, ne_eqb}
use Rattle.game.specs.Sets.{has, union}
use Rattle.game.specs.SetLaws.{none_has}
use Rattle.game.specs.ListLaws.{◌∈◌, clash}
use Rattle.game.specs.Game.{PushdownGame}
use Rattle.game.specs.StoredLaws.{no_rule}
use Rattle.table.specs.Table.{Entry}
use Rattle.table.specs.Rows.{words_at}
use Rattle.table.specs.declared.entry.EntryWords.{EntryWords}
use Rattle.judge.specs.Worth.{entry_of_head}
use Rattle.rounds.specs.Rounds.{entry_at}
use Rattle.rounds.specs.Enumeration.{rest_runs}
use Rattle.rounds.specs.Growing.{Growing}
use Rattle.rounds.proofs.GrowingLaws.{held-passed}
use Rattle.rounds.specs.InsertLaws.{no_entry}
use Rattle.rounds.specs.Scans.{rules_between}
use Rattle.enumeration.specs.Jobs.{Entered, Finished, sub_runs}
use Rattle.enumeration.specs.JobLaws.{none_left}
use Rattle.enumeration.specs.NextLaws.{begin_of}
use Rattle.enumeration.specs.Past.{older, Past, Aging}
use Rattle.enumeration.specs.PastLaws.{held-part, past_same, past-part, apart, older-at, sub-aged, begin-in}
use Rattle.enumeration.specs.declared.runs.Job.{Job}
use Rattle.enumeration.proofs.Enumerating.{unchanged}

module _ (g : PushdownGame) (old : List Entry) (birthdate n : ℕ) (job : Job) (rules work words : List ℕ) (count : ℕ) (memo : List ℕ) (s : Growing) (h : Entered g old birthdate n job rules work words count memo s) where
  abbrev prior : List Entry
  prior = older birthdate old

  abbrev entries : List ℕ → List Entry
  entries = map (entry_at job.state job.letter birthdate job.field)

  -- a part of a table's runs from rule r on
  abbrev sub : List Entry → ℕ → ℕ → ℕ → List ℕ
  sub table r left u = sub_runs g table job.state job.letter job.end r left u

  -- a part without an entry of the last round is passed over
  module _ (fresh : List ℕ) (aging : Aging g old birthdate job fresh) (r left u late : ℕ) (past : Past birthdate n late (entries (sub prior r left u)) s)
      (some : 0 < late) (settled : job.last ≤ r + 1) where
    older-part : ((q : ℕ) → has left q ≡ true → has (get_or fresh (get_or g.rules r no_rule).below 0) q ≡ false)
        → Finished g old birthdate n (entries (sub old r left u)) s words count memo
    older-part none =
        unchanged g old birthdate n job rules work words count memo s h (entries (sub old r left u))
        (held-passed n (entries (sub old r left u)) s
        (held-part n (entry_at job.state job.letter birthdate job.field) (sub prior r left u) (sub old r left u) s
        (sub-aged g old birthdate job fresh aging r left u settled none)
        (past some).1))

    pub none-older : left ≡ 0 → Finished g old birthdate n (entries (sub old r left u)) s words count memo
    none-older e = older-part (λ q t. clash t (ap (λ (x : ℕ). has x q) e ∙ none_has q))

    pub set-older : (new : ℕ) → new ≡ get_or fresh (get_or g.rules r no_rule).below 0 → bit_and left new ≡ 0
        → Finished g old birthdate n (entries (sub old r left u)) s words count memo
    set-older new e none =
        older-part (apart left (get_or fresh (get_or g.rules r no_rule).below 0) (subst (λ (x : ℕ). bit_and left x ≡ 0) e none))

  -- `rules_after`: no state is left
  pub past-rest : (r u late : ℕ) → Past birthdate n late (entries (sub prior r 0 u)) s
      → Past birthdate n late (entries (rest_runs g prior (rules_between g job.state job.letter (r + 1) job.end) u)) s
  past-rest r u late past =
      let next : suc r ≡ r + 1 = omega arith in
      past_same birthdate n late s
      (ap entries
      (none_left g prior job.state job.letter job.end r u
      ∙ ap (λ (k : ℕ). rest_runs g prior (rules_between g job.state job.letter k job.end) u) next))
      past

  -- `runs_with`: entry i is the first transition of rule r
  module _ (r i u late : ℕ) (past : Past birthdate n late (entries (flat_map (begin_of g prior job.state job.letter job.end r u) prior)) s)
      (l : i < job.count) (w : EntryWords) (e : w ≡ words_at work i) (still : ℕ) (same : 0 < still → (still ≡ late) × (w.first < late))
      (set_is : w.set ≡ (get_or old i no_entry).set)
      (head : entry_of_head (get_or g.rules r no_rule).to (get_or g.rules r no_rule).above (get_or old i no_entry) ≡ true) where
    abbrev first_of : Bool → Bool → List ℕ
    first_of of one = cond of (cond one (sub prior r 0 (union u (get_or old i no_entry).set)) (sub prior r (get_or old i no_entry).set u)) []

    -- what it gives over older entries is among what they give, if it is one of them
    first-in : (xs : List ℕ) → first_of true (eqb (get_or g.rules r no_rule).count 1) ≡ xs → Past birthdate n still (entries xs) s
    first-in xs is =
        past-part birthdate n late still (entry_at job.state job.letter birthdate job.field)
        (flat_map (begin_of g prior job.state job.letter job.end r u) prior) xs s past
        (λ some.
        let known = same some in
        let m =
        older-at birthdate old h.stands.room job.count work h.stands.stored late (past (omega (arith, known.0))).0 i l
        (subst (λ (x : EntryWords). x.first < late) e known.1)
        in (
          known.0,
          λ x j.
              begin-in g prior job.state job.letter job.end r u m x
              (subst (λ (ys : List ℕ). x ∈ ys)
              (sym (ap (λ (b : Bool). first_of b (eqb (get_or g.rules r no_rule).count 1)) head ∙ is)) j),
        ))

    pub past_one : (get_or g.rules r no_rule).count ≡ 1 → Past birthdate n still (entries (sub prior r 0 (union u w.set))) s
    past_one z =
        first-in (sub prior r 0 (union u w.set))
        (ap (first_of true) (eq-eqb (get_or g.rules r no_rule).count 1 z) ∙ ap (λ (x : ℕ). sub prior r 0 (union u x)) (sym set_is))

    pub past_two : ((get_or g.rules r no_rule).count ≡ 1 → ⊥) → Past birthdate n still (entries (sub prior r w.set u)) s
    past_two z =
        first-in (sub prior r w.set u)
        (ap (first_of true) (ne_eqb (get_or g.rules r no_rule).count 1 z) ∙ ap (λ (x : ℕ). sub prior r x u) (sym set_is))
