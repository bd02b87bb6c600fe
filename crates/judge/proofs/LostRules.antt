-- Abelard's side: the code's tests of a rule's successor by the set of lost states, and the pass over the rules of a head.
use Prim.Native.Nat.{ℕ, zero, suc, ◌+◌, ◌*◌, ◌^◌, ◌<◌, ◌≤◌}
use mathlib.Core.Path.{◌≡◌, refl, sym, ap, ap₂, subst, ◌∙◌}
use mathlib.Core.Logic.{⊎_elim}
use mathlib.Core.Bool.{Bool, true, false, cond, not, ◌&&◌}
use mathlib.Core.List.Memᴰ
use mathlib.Core.List.{List, [], ◌∷◌}
use mathlib.Core.Option.{Option}
use Rattle.std.specs.Prelude.{Option as Optional, None, Some, is_none as is_nothing}
use native.Mathlib.Omega.{arith}
use lib.ListN.{length, get_or, drop}
use lib.Seq.{drop-cons, drop-length}
use lib.Dec.{eqb}
use borrow.Author.Tests.{ne_eqb}
use Rattle.game.specs.Limits.{max_states, rule_stride}
use Rattle.game.specs.Game.{Rule, PushdownGame, filter, of_head, rules_of}
use Rattle.game.specs.GoodGame.{Numbered}
use Rattle.game.specs.Stored.{rule_at}
use Rattle.game.specs.StoredLaws.{no_rule, rule-stored}
use Rattle.game.specs.Held.{Held as Stands}
use Rattle.game.specs.Sets.{has, single, union}
use Rattle.game.specs.SetLaws.{none_has, union-has, left-union, right-union, single-has, has-single, union-below, single-below}
use Rattle.game.specs.Win.{is_abelard}
use Rattle.game.specs.ListLaws.{◌∈◌, test, clash, below_suc}
use Rattle.game.specs.declared.game.Sizes.{Sizes}
use Rattle.table.specs.Table.{entries_of}
use Rattle.judge.specs.Worth.{Automaton, no_worth, coded, is_none, worth_in, step}
use Rattle.judge.specs.Verdict.{successor_worth, losing_field, lost_field}
use Rattle.judge.specs.Machine.{number_of, Own, automaton_of, Numbers, LostStates, head_lost}
use Rattle.judge.proofs.CodedLaws.{Held, held_none, held-some}
use Rattle.judge.proofs.MachineLaws.{low_held, machine-at, length-machine}
use Rattle.judge.proofs.Codes.{number-at, length-numbers}
use Rattle.judge.proofs.LostLaws.{writes-none, writes_one, writes-two}
use Rattle.judge.proofs.LostField.{field-eloise}
use Rattle.judge.specs.LostStateLaws.{head-lost, step-lost}

-- The states below q that pass a test are in the set, and no others.
pub record Marked (passes : ℕ → Bool) (states q set : ℕ) : Type 0 where
  pub within : q ≤ states
  pub small : set < 2 ^ max_states
  pub told : (k : ℕ) → k < q → has set k ≡ passes k
  pub rest : (k : ℕ) → q ≤ k → has set k ≡ false

module _ (passes : ℕ → Bool) (states : ℕ) where
  pub marked_start : Marked passes states 0 0
  marked_start = record { within = omega arith; small = omega arith; told = λ k l. absurd (omega arith); rest = λ k l. none_has k }

  module _ (q set : ℕ) (few : states ≤ max_states) (m : Marked passes states q set) (l : q < states) where
    -- a state that is not added
    kept : (k : ℕ) → (k ≡ q → ⊥) → has (union set (single q)) k ≡ has set k
    kept k n =
        ⊎_elim (λ (t : has set k ≡ true). left-union set (single q) k t ∙ sym t)
        (λ (t : has set k ≡ false).
        ⊎_elim
        (λ (u : has (union set (single q)) k ≡ true).
        ⊎_elim (λ (v : has set k ≡ true). clash v t) (λ v. absurd (n (has-single q k v))) (union-has set (single q) k u))
        (λ (u : has (union set (single q)) k ≡ false). u ∙ sym t)
        (test (has (union set (single q)) k)))
        (test (has set k))

    with-found : (found : Bool) → found ≡ passes q → Marked passes states (q + 1) (cond found (union set (single q)) set)
    with-found true e =
        record {
          within = omega arith;
          small = union-below max_states set (single q) m.small (single-below {n = max_states} (omega arith));
          told =
              λ k i.
              ⊎_elim (λ (j : k < q). kept k (λ z. omega arith) ∙ m.told k j)
              (λ (j : k ≡ q). rw j (right-union set (single q) q (single-has q) ∙ e))
              (below_suc (omega arith));
          rest = λ k i. kept k (λ z. omega arith) ∙ m.rest k (omega arith);
        }
    with-found false e =
        record {
          within = omega arith;
          small = m.small;
          told =
              λ k i.
              ⊎_elim (m.told k) (λ (j : k ≡ q). rw j (m.rest q (omega arith) ∙ e)) (below_suc (omega arith));
          rest = λ k i. m.rest k (omega arith);
        }

    pub marked_next : (found : Bool) → found ≡ passes q → {next : ℕ} → next ≡ cond found (union set (single q)) set
        → Marked passes states (q + 1) next
    marked_next found e same = subst (Marked passes states (q + 1)) (sym same) (with-found found e)

-- the machine's test for none
none-coded : {x : Option ℕ} → Held x → eqb (coded x) no_worth ≡ is_none x
unfolding coded is_none
none-coded held_none = refl
none-coded (held-some {n} l) = ne_eqb n no_worth (λ e. omega arith)

-- what a test for nothing says
pub denied : (b r : Bool) → b ≡ not r → r ≡ not b
denied b true p = sym (ap not p)
denied b false p = sym (ap not p)

-- and the code's
nothing : (x : Optional ℕ) → Own x → is_nothing x ≡ eqb (number_of x) no_worth
nothing None o = refl
nothing (Some n) o = let l = o n refl in sym (ne_eqb n no_worth (λ e. omega (arith, l, e)))

-- all states of a rest are asked
pub none-marked : {states q set : ℕ} {below : List (Optional ℕ)} → states ≤ max_states → Marked (λ k. is_nothing (get_or below k None)) states q set → states ≤ q
    → (n : Numbers states below) → LostStates states set n.worths
none-marked {states} {q} {set} {below} few m h n =
    let ws = n.worths in
    record {
      small = m.small;
      inside =
          λ k i.
          m.told k (omega (arith, m.within))
          ∙ nothing (get_or below k None) (n.own k)
          ∙ ap (λ (x : ℕ). eqb x no_worth)
          (sym (number-at below k (omega (arith, n.long, sym (length-numbers below) ∙ ap length n.is ∙ length-machine ws (omega (arith, n.long))))))
          ∙ ap (λ (xs : List ℕ). eqb (get_or xs k 0) no_worth) n.is
          ∙ ap (λ (x : ℕ). eqb x no_worth) (machine-at ws k (omega (arith, n.long)) (omega arith))
          ∙ none-coded (low_held (worth_in ws k) (n.low k));
      outside = λ k i. m.rest k (omega (arith, m.within));
    }

module _ (sizes : Sizes) (words : List ℕ) where
  abbrev A : Automaton
  A = automaton_of sizes (entries_of words)

  module _ {lost : ℕ} {ws : List (Option ℕ)} (l : LostStates sizes.states lost ws) where
    -- all states of a letter above it are asked
    pub step-marked : (a q set : ℕ) → Marked (λ k. head_lost k a lost (entries_of words)) sizes.states q set → sizes.states ≤ q
        → LostStates sizes.states set (step A a ws)
    step-marked a q set m h =
        step-lost l A refl a set m.small (λ k i. m.told k (omega (arith, m.within))) (λ k i. m.rest k (omega (arith, m.within)))

    -- the code's answer for a rule's successor, by how many letters the rule writes
    module _ (r : Rule) (to : r.to < sizes.states) where
      pub none_written : r.count ≡ 0 → has lost r.to ≡ is_none (successor_worth A ws r)
      none_written e = l.inside r.to to ∙ ap is_none (sym (writes-none A ws r e))

      pub one_written : r.count ≡ 1 → head_lost r.to r.above lost (entries_of words) ≡ is_none (successor_worth A ws r)
      one_written e = head-lost l A refl r.to r.above ∙ ap is_none (sym (writes_one A ws r e to))

      pub two-written : (r.count ≡ 0 → ⊥) → (r.count ≡ 1 → ⊥) → {lower : ℕ} → LostStates sizes.states lower (step A r.below ws)
          → head_lost r.to r.above lower (entries_of words) ≡ is_none (successor_worth A ws r)
      two-written n m k = head-lost k A refl r.to r.above ∙ ap is_none (sym (writes-two A ws r n m to))

-- The pass over the rules: the field of the whole head is that of the rules of the head that are left.
pub record Scanning (sizes : Sizes) (rules words : List ℕ) (p a lost r : ℕ) : Type 0 where
  pub within : r ≤ sizes.rulecount
  pub same :
      (g : PushdownGame) → Stands g sizes rules → (ws : List (Option ℕ)) → LostStates sizes.states lost ws
      → losing_field (automaton_of sizes (entries_of words)) ws (rules_of g p a)
      ≡ losing_field (automaton_of sizes (entries_of words)) ws (filter (of_head p a) (drop r g.rules))

-- the number of the rule at a place is the place
numbered-at : (n i : ℕ) (rs : List Rule) → Numbered n rs → i < length rs → (get_or rs i no_rule).number ≡ n + i
unfolding Numbered
numbered-at n i [] h l = absurd (omega arith)
numbered-at n zero (x ∷ rs) h l = omega (arith, h.0)
numbered-at n (suc i) (x ∷ rs) h l = omega (arith, numbered-at (suc n) i rs h.1 (omega arith))

-- what is asked of the rule at a place, as the code reads it
module _ (g : PushdownGame) (sizes : Sizes) (rules : List ℕ) (h : Stands g sizes rules) (r : ℕ) (l : r < sizes.rulecount) where
  count : sizes.rulecount ≡ length g.rules
  count = ap (λ (s : Sizes). s.rulecount) h.sized

  abbrev here : Rule
  here = get_or g.rules r no_rule

  rule-here : rule_at rules (r * rule_stride) here.number ≡ here
  rule-here = rw h.stands (rule-stored r g.rules h.slack no_rule (omega (arith, count)))

  here-number : here.number ≡ r
  here-number = omega (arith, numbered-at 0 r g.rules h.ranged.numbers (omega (arith, count)))

  here-next : drop r g.rules ≡ here ∷ drop (suc r) g.rules
  here-next = drop-cons g.rules r no_rule (omega (arith, count))

-- every rule of a game leads to a state
at_in : (rs : List Rule) (i : ℕ) → i < length rs → get_or rs i no_rule ∈ rs
at_in [] i l = absurd (omega arith)
at_in (x ∷ rs) zero l = Memᴰ.head refl
at_in (x ∷ rs) (suc i) l = Memᴰ.tail (at_in rs i (omega arith))

leads : (g : PushdownGame) (sizes : Sizes) (rules : List ℕ) → Stands g sizes rules → (i : ℕ) → i < sizes.rulecount
    → get_or rules (i * rule_stride + 2) 0 < sizes.states
leads g sizes rules h i l =
    let many = ap (λ (s : Sizes). s.rulecount) h.sized in
    let good = h.ranged.rule (get_or g.rules i no_rule) (at_in g.rules i (omega arith)) in
    omega (
      arith,
      ap (λ (x : Rule). x.to) (rule-here g sizes rules h i l),
      good.to,
      h.ranged.control,
      ap (λ (s : Sizes). s.states) h.sized,
    )

losing-cons : (A : Automaton) (ws : List (Option ℕ)) (p a : ℕ) (r : Rule) (rs : List Rule)
    → losing_field A ws (filter (of_head p a) (r ∷ rs))
    ≡ cond (of_head p a r && is_none (successor_worth A ws r)) (suc r.number) (losing_field A ws (filter (of_head p a) rs))
unfolding losing_field filter
losing-cons A ws p a r rs = ⊎_elim (λ (t : of_head p a r ≡ true). rw t) (λ (t : of_head p a r ≡ false). rw t) (test (of_head p a r))

-- neither test looks at the rule's number
number-blind : (A : Automaton) (ws : List (Option ℕ)) (p a : ℕ) (bytes : List ℕ) (at n : ℕ)
    → (of_head p a (rule_at bytes at 0) && is_none (successor_worth A ws (rule_at bytes at 0)))
    ≡ (of_head p a (rule_at bytes at n) && is_none (successor_worth A ws (rule_at bytes at n)))
unfolding of_head successor_worth
number-blind A ws p a bytes at n = refl

pub scan-start : {sizes : Sizes} {rules words : List ℕ} {p a lost : ℕ} → Scanning sizes rules words p a lost 0
unfolding rules_of
scan-start = record { within = omega arith; same = λ g h ws l. refl }

module _ {sizes : Sizes} {rules words : List ℕ} {p a lost r : ℕ} (s : Scanning sizes rules words p a lost r) where
  -- none is left
  pub scan-end : sizes.rulecount ≤ r → (g : PushdownGame) → Stands g sizes rules → (ws : List (Option ℕ)) → LostStates sizes.states lost ws
      → 0 ≡ losing_field (automaton_of sizes (entries_of words)) ws (rules_of g p a)
  unfolding filter losing_field
  scan-end n g h ws l =
      let many = ap (λ (x : Sizes). x.rulecount) h.sized in
      let last : r ≡ length g.rules = omega (arith, s.within) in
      let gone : drop r g.rules ≡ [] = ap (λ (m : ℕ). drop m g.rules) last ∙ drop-length g.rules in
      sym (s.same g h ws l ∙ rw gone)

  -- what the code says of the rule at the place
  module _ (k : r < sizes.rulecount) (found : Bool)
      (told : (ws : List (Option ℕ)) → LostStates sizes.states lost ws → get_or rules (r * rule_stride + 2) 0 < sizes.states
      → found ≡ (of_head p a (rule_at rules (r * rule_stride) 0)
      && is_none (successor_worth (automaton_of sizes (entries_of words)) ws (rule_at rules (r * rule_stride) 0)))) where
    one_less : (g : PushdownGame) → Stands g sizes rules → (ws : List (Option ℕ)) → LostStates sizes.states lost ws
        → losing_field (automaton_of sizes (entries_of words)) ws (rules_of g p a)
        ≡ cond found (suc r)
        (losing_field (automaton_of sizes (entries_of words)) ws (filter (of_head p a) (drop (suc r) g.rules)))
    one_less g h ws l =
        let A = automaton_of sizes (entries_of words) in
        let x = get_or g.rules r no_rule in
        let asked : found ≡ (of_head p a x && is_none (successor_worth A ws x)) =
        told ws l (leads g sizes rules h r k)
        ∙ number-blind A ws p a rules (r * rule_stride) x.number
        ∙ ap (λ (y : Rule). of_head p a y && is_none (successor_worth A ws y)) (rule-here g sizes rules h r k)
        in
        s.same g h ws l
        ∙ ap (λ (ys : List Rule). losing_field A ws (filter (of_head p a) ys)) (here-next g sizes rules h r k)
        ∙ losing-cons A ws p a x (drop (suc r) g.rules)
        ∙ ap₂ (λ (b : Bool) (m : ℕ). cond b (suc m) (losing_field A ws (filter (of_head p a) (drop (suc r) g.rules))))
        (sym asked)
        (here-number g sizes rules h r k)

    pub scan-hit : found ≡ true → (g : PushdownGame) → Stands g sizes rules → (ws : List (Option ℕ)) → LostStates sizes.states lost ws
        → suc r ≡ losing_field (automaton_of sizes (entries_of words)) ws (rules_of g p a)
    scan-hit t g h ws l = sym (one_less g h ws l ∙ rw t)

    pub scan-next : found ≡ false → Scanning sizes rules words p a lost (r + 1)
    scan-next t =
        let up : suc r ≡ r + 1 = omega arith in
        record {
          within = omega arith;
          same =
              λ g h ws l.
              subst
              (λ (n : ℕ).
              losing_field (automaton_of sizes (entries_of words)) ws (rules_of g p a)
              ≡ losing_field (automaton_of sizes (entries_of words)) ws (filter (of_head p a) (drop n g.rules)))
              up
              (one_less g h ws l ∙ rw t);
        }

-- the field by the owner
module _ {g : PushdownGame} {sizes : Sizes} {rules : List ℕ} (h : Stands g sizes rules) (p : ℕ) {found : Bool} (owner : found ≡ has sizes.abelard p) where
  owned : is_abelard g p ≡ found
  owned = sym (owner ∙ ap (λ (s : Sizes). has s.abelard p) h.sized)

  pub of-eloise : found ≡ false → (B : Automaton) (a : ℕ) (ws : List (Option ℕ)) → 0 ≡ lost_field g B p a ws
  of-eloise t B a ws = sym (field-eloise g B p a ws (owned ∙ t))

  pub of-abelard : found ≡ true → (B : Automaton) (a : ℕ) (ws : List (Option ℕ)) {x : ℕ}
      → x ≡ losing_field B ws (rules_of g p a) → x ≡ lost_field g B p a ws
  unfolding lost_field
  of-abelard t B a ws e = e ∙ rw (owned ∙ t)
