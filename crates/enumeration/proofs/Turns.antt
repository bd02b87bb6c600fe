-- What each function of the enumeration leaves, from what the functions that it calls leave.
use Prim.Native.Nat.{ℕ, suc, ◌+◌, ◌*◌, ◌%◌, ◌^◌, ◌<◌, ◌≤◌}
use native.Mathlib.Omega.{arith}
use mathlib.Core.Path.{◌≡◌, refl, sym, ap, subst, ◌∙◌}
use mathlib.Core.Logic.{◌⊎◌, ⊎_elim}
use mathlib.Core.Bool.{Bool, true, false, cond, ◌&&◌}
use mathlib.Core.List.{List, [], map, flat_map}
use lib.ListN.{length, get_or}
use lib.Dec.{eqb, ltb}
use lib.Pow.{pow-lt, pow_pos}
use borrow.Author.Tests.{eq-eqb, ltb-false, ltb-true, ne_eqb}
use Rattle.game.specs.Sets.{has, single, union}
use Rattle.game.specs.SetLaws.{has_above}
use Rattle.game.specs.ListLaws.{◌∈◌, test, clash, flat_map-in, in-flat_map}
use Rattle.game.specs.Game.{Rule, PushdownGame}
use Rattle.game.specs.StoredLaws.{no_rule}
use Rattle.table.specs.Table.{Entry, entry_of, key}
use Rattle.table.specs.Rows.{Placed, words_at}
use Rattle.table.specs.declared.entry.EntryWords.{EntryWords}
use Rattle.judge.specs.Worth.{entry_of_head}
use Rattle.rounds.specs.Rounds.{entry_at, members, rule_ends}
use Rattle.rounds.specs.EndsLaws.{in_members}
use Rattle.rounds.specs.Enumeration.{rest_runs}
use Rattle.rounds.specs.Growing.{Growing, grow, growing}
use Rattle.rounds.specs.Filled.{Filled, Small}
use Rattle.rounds.specs.InsertLaws.{no_entry}
use Rattle.rounds.proofs.InsertLaws.{get_d-in}
use Rattle.enumeration.specs.Memo.{line_at}
use Rattle.enumeration.specs.Places.{PlacedHead, Placing, Blocked}
use Rattle.enumeration.specs.Jobs.{Late, Whole, Entered, Finished, sub_runs, begin_runs, tag_of}
use Rattle.rounds.specs.Scans.{NextRule, Highest, rules_between}
use Rattle.enumeration.specs.AlikeLaws.{alike-sets, filled-alike, held-alike}
use Rattle.enumeration.specs.Lists.{Listed, start_of, stop_of, list_of, listed_runs}
use Rattle.enumeration.specs.JobLaws.{none_left}
use Rattle.rounds.specs.ScanLaws.{none-next}
use Rattle.enumeration.specs.RuleLaws.{within, to_is, below-is, to-small, good-rule}
use Rattle.enumeration.specs.RestLaws.{same-list, split}
use Rattle.enumeration.specs.declared.runs.Job.{Job}
use Rattle.enumeration.proofs.Parts.{shifted_one, smaller, union-some, whole}
use Rattle.enumeration.proofs.Blocking.{no-runs}
use Rattle.enumeration.proofs.Enumerating.{unchanged, named, noted, entry-small, added}
use Rattle.rounds.proofs.StoredRows.{entry-at}

-- a set without its highest state, as the code takes the rest
pub rest-is : (left q : ℕ) → Highest left q → left % (1 * 2 ^ q % 4294967296) ≡ left % 2 ^ q
rest-is left q high = rw (shifted_one q high.small)

pub rest_below : (left q rest m : ℕ) → left < 2 ^ m → rest ≡ left % 2 ^ q → 0 < left → Highest left q → rest < 2 ^ m
rest_below left q rest m small e some high = omega (arith, smaller left q some high)

no-right : (b : Bool) {c : Bool} → c ≡ false → (b && c) ≡ false
no-right true e = e
no-right false e = refl

-- a state of a set of states below m is below m
pub state-of : (set q m : ℕ) → set < 2 ^ m → has set q ≡ true → q < m
state-of set q m small there =
    ⊎_elim (λ (t : ltb q m ≡ true). ltb-true q m t)
    (λ (t : ltb q m ≡ false). clash there (has_above m set q small (ltb-false q m t)))
    (test (ltb q m))

module _ (g : PushdownGame) (old : List Entry) (birthdate n : ℕ) (job : Job) (rules work words : List ℕ) (count : ℕ) (memo : List ℕ) (s : Growing) (h : Entered g old birthdate n job rules work words count memo s) where
  -- the entry that entry i's words are, and what is known of its set
  abbrev entry : ℕ → Entry
  entry i = get_or old i no_entry

  entry-is : (i : ℕ) → i < job.count → entry_of (words_at work i).first (words_at work i).set (words_at work i).rule ≡ entry i
  entry-is i l = entry-at h.stands.room job.count work old h.stands.stored i l

  entry_in : (i : ℕ) → i < job.count → entry i ∈ old
  entry_in i l = get_d-in no_entry old i (omega (arith, h.stands.stored.counted))

  set_is : (i : ℕ) → i < job.count → (words_at work i).set ≡ (entry i).set
  set_is i l = ap (λ (e : Entry). e.set) (entry-is i l)

  set-some : (i : ℕ) → i < job.count → 0 < (entry i).set
  set-some i l = (h.stands.stored.small (entry i) (entry_in i l)).filled

  set-small : (i : ℕ) → i < job.count → (entry i).set < 2 ^ g.states
  set-small i l = h.stands.sets (entry i) (entry_in i l)

  passed-some : (i u : ℕ) → i < job.count → 0 < union u (entry i).set
  passed-some i u l = union-some g.states u (entry i).set (set-small i l) (set-some i l)

  pub word-adds : (i u : ℕ) → i < job.count → 0 < union u (get_or work (i * 3 + 1) 0)
  word-adds i u l = rw (set_is i l) (passed-some i u l)

  module _ (i : ℕ) (l : i < job.count) (w : EntryWords) (e : w ≡ words_at work i) where
    pub words_are : entry_of w.first w.set w.rule ≡ entry i
    words_are = rw e (entry-is i l)

    pub set-of : w.set ≡ (entry i).set
    set-of = ap (λ (x : EntryWords). x.set) e ∙ set_is i l

    pub set_below : w.set < 2 ^ g.states
    set_below = rw set-of (set-small i l)

    pub set-adds : (u : ℕ) → 0 < w.set + u
    set-adds u = rw set-of (omega (arith, set-some i l))

    pub union-adds : (u : ℕ) → 0 < union u w.set
    union-adds u = rw set-of (passed-some i u l)

    -- whether entry i is one of a head, by its state and its letter
    pub other-state : (q c : ℕ) → ((entry_of w.first w.set w.rule).state ≡ q → ⊥) → entry_of_head q c (entry i) ≡ false
    unfolding entry_of_head
    other-state q c ne = rw (← words_are, ne_eqb (entry_of w.first w.set w.rule).state q ne)

    pub other-letter : (q c : ℕ) → ((entry_of w.first w.set w.rule).letter ≡ c → ⊥) → entry_of_head q c (entry i) ≡ false
    unfolding entry_of_head
    other-letter q c ne =
        rw (← words_are)
        (no-right (eqb (entry_of w.first w.set w.rule).state q) (ne_eqb (entry_of w.first w.set w.rule).letter c ne))

    pub same_head : (q c : ℕ) → (entry_of w.first w.set w.rule).state ≡ q → (entry_of w.first w.set w.rule).letter ≡ c
        → entry_of_head q c (entry i) ≡ true
    unfolding entry_of_head
    same_head q c es el =
        rw (← words_are, eq-eqb (entry_of w.first w.set w.rule).state q es, eq-eqb (entry_of w.first w.set w.rule).letter c el)

  -- rule r, as its bytes say
  module _ (r : ℕ) (l : r < job.end) where
    abbrev rule : Rule
    rule = get_or g.rules r no_rule

    -- where the entries of the heads stand that its runs pass
    module _ (places : List ℕ) (placing : Placing g work job.count places) where
      below-placed : (q : ℕ) → q < g.states → PlacedHead work job.count places q rule.below
      below-placed q m = placing q rule.below m (good-rule g old birthdate n job rules work words count memo s h r l).below

      -- as the code asks for them, for a state of a set
      module _ (left q : ℕ) (small : left < 2 ^ g.states) (some : 0 < left) (high : Highest left q) where
        placed_below : PlacedHead work job.count places q rule.below
        placed_below = below-placed q (state-of left q g.states small (high.member some))

        pub starts-below : (x : ℕ) → (PlacedHead work job.count places q (get_or rules (r * 6 + 5) 0) → Placed work job.count (key q (get_or rules (r * 6 + 5) 0) 0) x)
            → Placed work job.count (key q rule.below 0) x
        starts-below x f = rw (below-is g old birthdate n job rules work words count memo s h r l) at f placed_below

        pub ends-below : (x : ℕ) → (PlacedHead work job.count places q (get_or rules (r * 6 + 5) 0) → Placed work job.count (key q (get_or rules (r * 6 + 5) 0) 4294967296) x)
            → Placed work job.count (key q rule.below 4294967296) x
        ends-below x f = rw (below-is g old birthdate n job rules work words count memo s h r l) at f placed_below

      pub below-small : rule.below < 256
      below-small = omega (arith, (good-rule g old birthdate n job rules work words count memo s h r l).below, h.stands.ranged.letters)

  -- what a function leaves
  abbrev Leaves : List ℕ → List ℕ → ℕ → List ℕ → Type 0
  Leaves runs words' count' memo' =
      Finished g old birthdate n (map (entry_at job.state job.letter birthdate job.field) runs) s words' count' memo'

  nothing : {xs : List ℕ} → xs ≡ [] → Leaves xs words count memo
  unfolding growing
  nothing e = same-list g old birthdate n job rules work words count memo s h e (unchanged g old birthdate n job rules work words count memo s h [] refl)

  -- `rules_after`: the memo has it, or it is finished and noted
  pub hit : (r left u tag : ℕ) → Whole g job r → r < job.end → tag ≡ tag_of job.state job.letter r
      → (k : ℕ) × (line_at memo k ≡ record { tag = tag; left = left; union = u })
      → Leaves (sub_runs g old job.state job.letter job.end r left u) words count memo
  hit r left u tag whole l e line =
      named g old birthdate n job rules work words count memo s h r left u line.0 whole (within g old birthdate n job rules work words count memo s h r l) (rw e at line.1)

  pub notes : (r left u tag : ℕ) → Whole g job r → r < job.end → tag ≡ tag_of job.state job.letter r
      → (words' : List ℕ) (count' : ℕ) (memo' memo'' : List ℕ)
      → Leaves (sub_runs g old job.state job.letter job.end r left u) words' count' memo'
      → ((k : ℕ) → (line_at memo'' k ≡ record { tag = tag; left = left; union = u }) ⊎ (line_at memo'' k ≡ line_at memo' k))
      → Leaves (sub_runs g old job.state job.letter job.end r left u) words' count' memo''
  notes r left u tag whole l e words' count' memo' memo'' f lines =
      noted g old birthdate n job rules work words count memo s h r left u whole (within g old birthdate n job rules work words count memo s h r l) words' count' memo' memo'' f
      (λ k. rw e at (lines k))

  -- `runs_with`: entry i is no transition on the rule's upper letter, or it is, and the rule writes one letter or two
  module _ (r i u : ℕ) where
    abbrev first_of : Bool → Bool → List ℕ
    first_of of one =
        cond of
        (cond one (sub_runs g old job.state job.letter job.end r 0 (union u (entry i).set))
        (sub_runs g old job.state job.letter job.end r (entry i).set u))
        []

    abbrev rule-of : Rule
    rule-of = get_or g.rules r no_rule

    pub begins-none : entry_of_head rule-of.to rule-of.above (entry i) ≡ false
        → Leaves (begin_runs g old job.state job.letter job.end r i u) words count memo
    unfolding begin_runs
    begins-none t = nothing (ap (λ (b : Bool). first_of b (eqb rule-of.count 1)) t)

    pub begins-one : (set : ℕ) → set ≡ (entry i).set → entry_of_head rule-of.to rule-of.above (entry i) ≡ true → rule-of.count ≡ 1
        → {words' : List ℕ} {count' : ℕ} {memo' : List ℕ}
        → Leaves (sub_runs g old job.state job.letter job.end r 0 (union u set)) words' count' memo'
        → Leaves (begin_runs g old job.state job.letter job.end r i u) words' count' memo'
    unfolding begin_runs
    begins-one set e t one f =
        same-list g old birthdate n job rules work words count memo s h
        (ap (λ (b : Bool). first_of b (eqb rule-of.count 1)) t
        ∙ ap (first_of true) (eq-eqb rule-of.count 1 one)
        ∙ ap (λ (x : ℕ). sub_runs g old job.state job.letter job.end r 0 (union u x)) (sym e))
        f

    pub begins-two : (set : ℕ) → set ≡ (entry i).set → entry_of_head rule-of.to rule-of.above (entry i) ≡ true → (rule-of.count ≡ 1 → ⊥)
        → {words' : List ℕ} {count' : ℕ} {memo' : List ℕ}
        → Leaves (sub_runs g old job.state job.letter job.end r set u) words' count' memo'
        → Leaves (begin_runs g old job.state job.letter job.end r i u) words' count' memo'
    unfolding begin_runs
    begins-two set e t two f =
        same-list g old birthdate n job rules work words count memo s h
        (ap (λ (b : Bool). first_of b (eqb rule-of.count 1)) t
        ∙ ap (first_of true) (ne_eqb rule-of.count 1 two)
        ∙ ap (λ (x : ℕ). sub_runs g old job.state job.letter job.end r x u) (sym e))
        f

  -- `runs_with`: a state of the entry's set has no entry on the rule's lower letter
  pub blocked : (r : ℕ) (l : r < job.end) (places : List ℕ) → Placing g work job.count places → (set u : ℕ) → set < 2 ^ g.states
      → Blocked set job.count places (get_or rules (r * 6 + 5) 0)
      → Leaves (sub_runs g old job.state job.letter job.end r set u) words count memo
  unfolding sub_runs
  blocked r l places placing set u small none =
      let q = none.state in
      let inside = state-of set q g.states small none.member in
      let there = placing q (rule r l).below inside (h.stands.ranged.rule (rule r l) (get_d-in no_rule g.rules r (within g old birthdate n job rules work words count memo s h r l))).below in
      nothing
      (no-runs h.stands.room work job.count old h.stands.stored q (rule r l).below none.first none.last (starts (none.starts work) there) (ends (none.ends work) there) none.none g
      (rules_between g job.state job.letter (suc r) job.end) (members g.states set) (in_members g.states set inside none.member) u)
    where
      -- by the letter as the rule has it
      starts : {q x : ℕ} → (PlacedHead work job.count places q (get_or rules (r * 6 + 5) 0) → Placed work job.count (key q (get_or rules (r * 6 + 5) 0) 0) x)
          → PlacedHead work job.count places q (rule r l).below → Placed work job.count (key q (rule r l).below 0) x
      starts f m = rw (below-is g old birthdate n job rules work words count memo s h r l) at f m

      ends : {q x : ℕ} → (PlacedHead work job.count places q (get_or rules (r * 6 + 5) 0) → Placed work job.count (key q (get_or rules (r * 6 + 5) 0) 4294967296) x)
          → PlacedHead work job.count places q (rule r l).below → Placed work job.count (key q (rule r l).below 4294967296) x
      ends f m = rw (below-is g old birthdate n job rules work words count memo s h r l) at f m

  -- `rules_from`: no rule is left, or the next one writes nothing, or it writes letters
  module _ (from u r : ℕ) (next : NextRule rules job.end from job.state job.letter r) where
    abbrev all : List ℕ
    all = rest_runs g old (rules_between g job.state job.letter from job.end) u

    pub no-rule : job.end ≤ r → 0 < u → u < 2 ^ 32 → (words' : List ℕ) (count' : ℕ)
        → (Small (entry_of job.first u job.field) → Filled n words' count' (grow n s (entry_of job.first u job.field)))
        → Leaves all words' count' memo
    no-rule l some small words' count' f =
        same-list g old birthdate n job rules work words count memo s h
        (ap (λ (rs : List Rule). rest_runs g old rs u)
        (none-next g job.state job.letter rules h.stands.slack h.stands.written job.end from r h.stands.last next l))
        (added g old birthdate n job rules work u some small h.stands s words count memo h words' count'
        (f (entry-small g old birthdate n job rules work u some small h.stands)))

    module _ (l : r < job.end) where
      pub job_of : Late g job from → Whole g job r
      job_of late = whole g job old birthdate rules work h.stands from r late next.after l (split g old birthdate n job rules work words count memo s h from u r next l).1

      -- the state that the rule goes to is joined
      module _ (passed : ℕ) (j : get_or rules (r * 6 + 2) 0 < 32 → passed ≡ union u (single (get_or rules (r * 6 + 2) 0))) where
        pub joins : passed ≡ union u (single (rule r l).to)
        joins = rw (to_is g old birthdate n job rules work words count memo s h r l) at j (to-small g old birthdate n job rules work words count memo s h r l)

        pub joins-some : 0 < passed
        joins-some = rw joins (union-some 32 u (single (rule r l).to) (pow-lt (to-small g old birthdate n job rules work words count memo s h r l)) (pow_pos (rule r l).to))

      -- or its ends are listed
      pub listed-first : (lists spans : List ℕ) → Listed g old lists spans → start_of spans r < stop_of spans r (length lists)
          → {words' : List ℕ} {count' : ℕ} {memo' : List ℕ}
          → Leaves (listed_runs g old job.state job.letter job.end lists spans r u) words' count' memo' → Leaves all words' count' memo'
      unfolding listed_runs rest_runs
      listed-first lists spans listed some {words'} {count'} {memo'} f =
          let later = rules_between g job.state job.letter (suc r) job.end in
          let by : ℕ → List ℕ = λ z. rest_runs g old later (union u z) in
          let of : ℕ → List ℕ = λ z. sub_runs g old job.state job.letter job.end r 0 (union u z) in
          let same = alike-sets job.state job.letter birthdate job.field (flat_map of (list_of lists spans r)) (flat_map by (rule_ends g old (rule r l)))
          (λ x m.
          let z = flat_map-in of (list_of lists spans r) m in
          in-flat_map by (listed.inside r z.0 (within g old birthdate n job rules work words count memo s h r l) some z.1).0
          (subst (λ (xs : List ℕ). x ∈ xs) (none_left g old job.state job.letter job.end r (union u z.0)) z.2))
          (λ x m.
          let z = flat_map-in by (rule_ends g old (rule r l)) m in
          in-flat_map of (listed.all r z.0 (within g old birthdate n job rules work words count memo s h r l) some z.1)
          (subst (λ (xs : List ℕ). x ∈ xs) (sym (none_left g old job.state job.letter job.end r (union u z.0))) z.2))
          in
          same-list g old birthdate n job rules work words count memo s h (ap (λ (rs : List Rule). rest_runs g old rs u) (split g old birthdate n job rules work words count memo s h from u r next l).0)
          (record {
            filled = filled-alike n same s h.filled words' count' f.filled;
            memoed = λ k p a q lp la lq e. held-alike n same s h.filled _ (f.memoed k p a q lp la lq e);
          })

  -- `rules_after`: no state is left
  pub none-of-it : (r u : ℕ) {words' : List ℕ} {count' : ℕ} {memo' : List ℕ}
      → Leaves (rest_runs g old (rules_between g job.state job.letter (r + 1) job.end) u) words' count' memo'
      → Leaves (sub_runs g old job.state job.letter job.end r 0 u) words' count' memo'
  none-of-it r u f =
      let next : suc r ≡ r + 1 = omega arith in
      same-list g old birthdate n job rules work words count memo s h
      (none_left g old job.state job.letter job.end r u
      ∙ ap (λ (k : ℕ). rest_runs g old (rules_between g job.state job.letter k job.end) u) next)
      f
