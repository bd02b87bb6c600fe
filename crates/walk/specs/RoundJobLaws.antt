-- Laws of the jobs of a round: heads taken as one number, the jobs of a head one after another, and the runs of a job by their
-- places.
use Rattle.std.specs.Prelude.{ℕ, zero, suc, ◌+◌, ◌*◌, ◌-◌, ◌<◌, ◌≤◌, ◌≡◌, refl, true, false, cond, drop}
use native.Mathlib.Omega.{arith}
use Rattle.std.proofs.Math.Path.{sym, ap}
use Rattle.std.proofs.Common.{ap₂, ◌∙◌, length-append}
use Rattle.std.proofs.Math.Logic.{⊎_elim}
use mathlib.Core.List.Memᴰ
use mathlib.Core.List.{List, [], ◌∷◌, ◌++◌, map, flat_map, append-nil}
use Rattle.std.proofs.Math.ListN.{length, get_or, take, get_or-append}
use Rattle.std.proofs.Math.Seq.{take_all}
use Rattle.std.proofs.lemmas.List.{get_or_at}
use Rattle.std.proofs.Math.Dec.{eqb, ltb}
use borrow.Author.Tests.{eqb-true, eqb-false, ltb-true, ltb-false}
use Rattle.game.specs.Sets.{single, union}
use Rattle.game.specs.Game.{Rule, PushdownGame, filter, of_head, rules_of}
use Rattle.game.specs.GoodGame.{Numbered, Good}
use Rattle.game.specs.Stored.{rule_bytes, rule_at}
use Rattle.game.specs.StoredLaws.{no_rule, rule-stored}
use Rattle.game.specs.ListLaws.{◌∈◌, test, below_suc}
use Rattle.game.specs.Win.{is_abelard}
use Rattle.table.specs.Table.{Entry}
use Rattle.rounds.specs.Rounds.{below, unions, rule_ends, entry_at, eloise_candidates, abelard_candidates, head_candidates}
use Rattle.game.specs.UnionLaws.{none-union}
use Rattle.rounds.specs.Enumeration.{rest_runs, flat_map-same, rest-is}
use Rattle.rounds.specs.InsertLaws.{no_entry}
use Rattle.rounds.specs.Scans.{rules_between, NextRule}
use Rattle.enumeration.specs.Jobs.{end_of, field_of, sub_runs, begin_runs}
use Rattle.enumeration.specs.JobLaws.{from_place, from_end}
use Rattle.rounds.specs.ScanLaws.{next-is, none-next}
use Rattle.enumeration.specs.NextLaws.{begin_of, pops, writes}
use Rattle.walk.specs.RoundJobs.{runs_of, run_runs}

length-below : (n : ℕ) → length (below n) ≡ n
unfolding below
length-below zero = refl
length-below (suc n) = omega (arith, length-append (below n) (n ∷ []), length-below n)

get_d-below : (n i : ℕ) → i < n → get_or (below n) i 0 ≡ i
unfolding below
get_d-below zero i l = absurd (omega arith)
get_d-below (suc n) i l =
    ⊎_elim
    (λ (k : i < n). get_or-append (below n) (n ∷ []) 0 i (omega (arith, length-below n)) ∙ get_d-below n i k)
    (λ (k : i ≡ n). rw k (get_or_at (below n) n [] 0 n (length-below n)))
    (below_suc l)

module _ {B : Type 0} where
  -- what the numbers from i on give: what i gives, then what those after it do
  pub from-number : (f : ℕ → List B) (i n : ℕ) → i < n → flat_map f (drop i (below n)) ≡ f i ++ flat_map f (drop (suc i) (below n))
  from-number f i n l =
      from_place f 0 i (below n) (omega (arith, length-below n))
      ∙ ap (λ (k : ℕ). f k ++ flat_map f (drop (suc i) (below n))) (get_d-below n i l)

  pub from_last : (f : ℕ → List B) (i n : ℕ) → n ≤ i → flat_map f (drop i (below n)) ≡ []
  from_last f i n l = from_end f i (below n) (omega (arith, length-below n))

  -- a list taken by the places of its elements
  module _ {A : Type 0} (f : A → List B) (d : A) (xs : List A) where
    places-from : (k i : ℕ) → length xs ≡ k + i → flat_map f (drop i xs) ≡ flat_map (λ j. f (get_or xs j d)) (drop i (below (length xs)))
    places-from zero i e = from_end f i xs (omega arith) ∙ sym (from_last (λ j. f (get_or xs j d)) i (length xs) (omega arith))
    places-from (suc k) i e =
        from_place f d i xs (omega arith)
        ∙ ap (f (get_or xs i d) ++◌) (places-from k (suc i) (omega arith))
        ∙ sym (from-number (λ j. f (get_or xs j d)) i (length xs) (omega arith))

    by-places : flat_map f xs ≡ flat_map (λ j. f (get_or xs j d)) (below (length xs))
    by-places = places-from (length xs) 0 (omega arith)

-- one run for each rule of a list, if there is a rule
unfoldable pub all_runs : PushdownGame → List Entry → ℕ → ℕ → ℕ → List Rule → List Entry
all_runs g old birthdate p a [] = []
all_runs g old birthdate p a (r ∷ rs) = map (entry_at p a birthdate 0) (rest_runs g old (r ∷ rs) 0)

-- what rules of a head give: Éloise's each by itself, Abelard's together
unfoldable pub jobs_in : PushdownGame → List Entry → ℕ → ℕ → ℕ → List Rule → List Entry
jobs_in g old birthdate p a rs =
    cond (is_abelard g p) (all_runs g old birthdate p a rs)
    (flat_map (λ (r : Rule). map (entry_at p a birthdate (suc r.number)) (rule_ends g old r)) rs)

-- what the rules of a head from a place on give
unfoldable pub jobs_from : PushdownGame → List Entry → ℕ → ℕ → ℕ → ℕ → List Entry
jobs_from g old birthdate p a from = jobs_in g old birthdate p a (rules_between g p a from (length g.rules))

-- and what the job of rule r gives
unfoldable pub job_at : PushdownGame → List Entry → ℕ → ℕ → ℕ → ℕ → List Entry
job_at g old birthdate p a r =
    map (entry_at p a birthdate (field_of g p r)) (rest_runs g old (rules_between g p a r (end_of g p r)) 0)

map-none-union : (xs : List ℕ) → map (union 0) xs ≡ xs
map-none-union [] = refl
map-none-union (x ∷ xs) = ap₂ ◌∷◌ (none-union x) (map-none-union xs)

flat_map-single : {A : Type 0} (xs : List A) → flat_map (λ (x : A). x ∷ []) xs ≡ xs
unfolding flat_map
flat_map-single [] = refl
flat_map-single (x ∷ xs) = ap (x ∷◌) (flat_map-single xs)

number_at : (m k : ℕ) (rs : List Rule) → Numbered m rs → k < length rs → (get_or rs k no_rule).number ≡ m + k
unfolding Numbered
number_at m k [] h l = absurd (omega arith)
number_at m zero (r ∷ rs) h l = omega (arith, h.0)
number_at m (suc k) (r ∷ rs) h l = omega (arith, number_at (suc m) k rs h.1 (omega arith))

-- the runs at a place, of a rule that writes nothing and of one that writes letters
module _ (g : PushdownGame) (old : List Entry) (p a end r i : ℕ) where
  pub run-pops : eqb (get_or g.rules r no_rule).count 0 ≡ true
      → run_runs g old p a end r i ≡ sub_runs g old p a end r 0 (single (get_or g.rules r no_rule).to)
  unfolding run_runs
  run-pops t = rw t

  pub run-writes : eqb (get_or g.rules r no_rule).count 0 ≡ false → run_runs g old p a end r i ≡ begin_runs g old p a end r i 0
  unfolding run_runs
  run-writes t = rw t

module _ (g : PushdownGame) (old : List Entry) (birthdate p a : ℕ) where
  all_are : (rs : List Rule) {r : Rule} → r ∈ rs
      → all_runs g old birthdate p a rs ≡ map (entry_at p a birthdate 0) (unions (map (rule_ends g old) rs))
  unfolding all_runs
  all_are [] m = absurd (Memᴰ.not-nil m)
  all_are (r ∷ rs) m =
      ap (map (entry_at p a birthdate 0))
      (rest-is g old (r ∷ rs) 0 ∙ map-none-union (unions (map (rule_ends g old) (r ∷ rs))))

  -- What a head gives is what its rules from the first on do. Uses that every head has a rule (question 9).
  pub jobs-are : Good g → p < g.control → a < g.letters → head_candidates g old birthdate p a ≡ jobs_from g old birthdate p a 0
  unfolding head_candidates eloise_candidates abelard_candidates jobs_from jobs_in rules_between rules_of
  jobs-are good lp la =
      let all : take (length g.rules - 0) g.rules ≡ g.rules = take_all (length g.rules - 0) g.rules (omega arith) in
      rw all
      (⊎_elim (λ (t : is_abelard g p ≡ true). rw t (sym (all_are (rules_of g p a) (good.head p a lp la).1)))
      (λ (t : is_abelard g p ≡ false). rw t)
      (test (is_abelard g p)))

  -- the runs of a rule by itself
  one-rule : (r : Rule) → rest_runs g old (r ∷ []) 0 ≡ rule_ends g old r
  unfolding rest_runs
  one-rule r =
      flat_map-same (λ x. ap (◌∷ []) (none-union x)) (rule_ends g old r) ∙ flat_map-single (rule_ends g old r)

  module _ (rules slack : List ℕ) (written : rules ≡ rule_bytes g.rules ++ slack) where
    here : (end r : ℕ) → r ≤ end → (r < end → of_head p a (rule_at rules (r * 6) 0) ≡ true) → NextRule rules end r p a r
    here end r l hit =
        record { after = omega arith; within = l; skipped = λ k m n. absurd (omega arith); found = hit }

    -- from a rule of the head on: the rule, then those after it
    first-between : (end r : ℕ) → end ≤ length g.rules → r < end → of_head p a (rule_at rules (r * 6) 0) ≡ true
        → rules_between g p a r end ≡ get_or g.rules r no_rule ∷ rules_between g p a (suc r) end
    first-between end r fits l hit = (next-is g p a rules slack written end r r fits (here end r (omega arith) (λ k. hit)) l).0

    none_between : (end : ℕ) → end ≤ length g.rules → rules_between g p a end end ≡ []
    none_between end fits =
        none-next g p a rules slack written end end end fits (here end end (omega arith) (λ k. absurd (omega arith))) (omega arith)

    -- nothing lies between a place and the next rule
    pub next-same : (from r : ℕ) → NextRule rules (length g.rules) from p a r
        → jobs_from g old birthdate p a from ≡ jobs_from g old birthdate p a r
    unfolding jobs_from
    next-same from r next =
        let end = length g.rules in
        let itself = here end r next.within next.found in
        ap (jobs_in g old birthdate p a)
        (⊎_elim
        (λ (t : ltb r end ≡ true).
        let l = ltb-true r end t in
        (next-is g p a rules slack written end from r (omega arith) next l).0
        ∙ sym (next-is g p a rules slack written end r r (omega arith) itself l).0)
        (λ (t : ltb r end ≡ false).
        let l = ltb-false r end t in
        none-next g p a rules slack written end from r (omega arith) next l
        ∙ sym (none-next g p a rules slack written end r r (omega arith) itself l))
        (test (ltb r end)))

    pub none_after : (r : ℕ) → length g.rules ≤ r → jobs_from g old birthdate p a r ≡ []
    unfolding jobs_from jobs_in all_runs rules_between filter flat_map
    none_after r l =
        let e : length g.rules - r ≡ 0 = omega arith in
        rw e (⊎_elim (λ (t : is_abelard g p ≡ true). rw t) (λ (t : is_abelard g p ≡ false). rw t) (test (is_abelard g p)))

    -- at a rule: its job, then the jobs after it
    pub job-first : Numbered 0 g.rules → (r : ℕ) → r < length g.rules → of_head p a (rule_at rules (r * 6) 0) ≡ true
        → jobs_from g old birthdate p a r ≡ job_at g old birthdate p a r ++ jobs_from g old birthdate p a (end_of g p r)
    unfolding jobs_from jobs_in job_at end_of field_of all_runs flat_map
    job-first numbers r l hit =
        let end = length g.rules in
        let rule = get_or g.rules r no_rule in
        let split : rules_between g p a r end ≡ rule ∷ rules_between g p a (suc r) end = first-between end r (omega arith) l hit in
        ⊎_elim
        (λ (t : is_abelard g p ≡ true).
        let none : rules_between g p a end end ≡ [] = none_between end (omega arith) in
        rw (t, split, none) (sym (append-nil (map (entry_at p a birthdate 0) (rest_runs g old (rule ∷ rules_between g p a (suc r) end) 0)))))
        (λ (t : is_abelard g p ≡ false).
        let alone : rules_between g p a r (suc r) ≡ rule ∷ [] =
        first-between (suc r) r (omega arith) (omega arith) hit ∙ ap (rule ∷◌) (none_between (suc r) (omega arith))
        in
        let number : rule.number ≡ r = omega (arith, number_at 0 r g.rules numbers l) in
        rw (t, split, alone, one-rule rule, number))
        (test (is_abelard g p))

    -- the runs of a job by their places
    pub runs-by-place : (end r : ℕ) → end ≤ length g.rules → r < end → of_head p a (rule_at rules (r * 6) 0) ≡ true
        → rest_runs g old (rules_between g p a r end) 0 ≡ flat_map (run_runs g old p a end r) (below (runs_of rules r (length old)))
    unfolding runs_of begin_runs below flat_map
    runs-by-place end r fits l hit =
        let rule = get_or g.rules r no_rule in
        let split : rules_between g p a r end ≡ rule ∷ rules_between g p a (suc r) end = first-between end r fits l hit in
        let byte : get_or rules (r * 6 + 3) 0 ≡ rule.count =
        rw written (ap (λ (x : Rule). x.count) (rule-stored r g.rules slack no_rule (omega arith)))
        in
        rw (split, byte)
        (⊎_elim
        (λ (t : eqb rule.count 0 ≡ true).
        rw t
        (pops g old p a end r 0 (eqb-true rule.count 0 t)
        ∙ ap (sub_runs g old p a end r 0) (none-union (single rule.to))
        ∙ sym (run-pops g old p a end r 0 t)
        ∙ sym (append-nil (run_runs g old p a end r 0))))
        (λ (t : eqb rule.count 0 ≡ false).
        rw t
        (writes g old p a end r 0 (eqb-false rule.count 0 t)
        ∙ by-places (begin_of g old p a end r 0) no_entry old
        ∙ flat_map-same (λ i. sym (run-writes g old p a end r i t)) (below (length old))))
        (test (eqb rule.count 0)))
