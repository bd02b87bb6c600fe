-- The verdict by the number that the code has for the bound.
use Prim.Native.Nat.{ℕ, ◌-◌, ◌^◌, ◌<◌, ◌≤◌}
use mathlib.Core.Path.{◌≡◌, sym, ap, subst, ◌∙◌}
use mathlib.Core.Bool.{Bool, true, false, ◌&&◌}
use mathlib.Core.List.{List, ◌∷◌}
use mathlib.Core.Option.{Option, none, some}
use Rattle.std.specs.Prelude.{Option as Optional}
use native.Mathlib.Omega.{arith}
use lib.ListN.{length, get_or, drop, take, length-drop}
use borrow.Author.Tests.{eq-eqb, ne_eqb}
use Rattle.game.specs.Limits.{max_states, max_stack}
use Rattle.game.specs.Sets.{has}
use Rattle.game.specs.ListLaws.{◌∈◌}
use Rattle.game.specs.Game.{PushdownGame}
use Rattle.game.specs.Stored.{sizes_of}
use Rattle.game.specs.Held.{Held as Stands}
use Rattle.game.specs.Win.{is_abelard}
use Rattle.game.specs.declared.game.Sizes.{Sizes}
use Rattle.table.specs.Table.{Entry, entries_of}
use Rattle.judge.specs.Worth.{Automaton, no_worth, coded, step, step_worth, worths, entry_of_head, entry_worth, worth_is, least_over, head_rule, field_number, advice_at}
use Rattle.judge.specs.Tabulate.{tabulate-at}
use Rattle.judge.proofs.Range.{length-worths}
use Rattle.judge.specs.Verdict.{lost, target, eloise, abelard, or_zero, to_move, lost_field, verdict_of, verdict_over, verdict}
use Rattle.judge.specs.Machine.{numbers as codes, AllOwn, Tamed, machine, automaton_of, Low, Lows, Numbers, Asked, least_number, head_number, rule_number}
use Rattle.judge.specs.Judged.{Fielded}
use Rattle.judge.proofs.CodedLaws.{Held, coded-up-to, coded_none, coded-some}
use Rattle.judge.proofs.MachineLaws.{low_held, step-coded, rules-coded}
use Rattle.judge.proofs.Within.{least_over-is, tested-is}
use Rattle.judge.proofs.Steps.{field-small}
use Rattle.judge.proofs.Recursion.{below_top, top-letter, lows, tame-worths}

-- the bound of a control state on a stack, by a game's sizes
abbrev pub bound_of : Sizes → List Entry → ℕ → List ℕ → Option ℕ
bound_of sizes es p w =
    step_worth (automaton_of sizes es) (worths (automaton_of sizes es) (drop 1 w)) p (get_or w 0 0)

-- the number that the code has for the bound of a position
pub record Found (sizes : Sizes) (es : List Entry) (p : ℕ) (w : List ℕ) (number : ℕ) : Type 0 where
  pub filled : 0 < length w
  pub code : number ≡ coded (bound_of sizes es p w)
  pub low : Low (bound_of sizes es p w)

-- what the code has for what lies below the top
module _ {sizes : Sizes} {rules words : List ℕ} {p : ℕ} {w : List ℕ} (asked : Asked sizes rules words p w) (below : List (Optional ℕ))
    (b : codes below ≡ machine (worths (automaton_of sizes (entries_of words)) (take (length w - 1) (drop 1 w)))) where
  abbrev A : Automaton
  A = automaton_of sizes (entries_of words)

  small : sizes.states ≤ max_states
  small = asked.lent.safe.states

  short-rest : length (drop 1 w) ≤ max_stack
  short-rest = rw length-drop (omega (arith, asked.short))

  pub stands : codes below ≡ machine (worths A (drop 1 w))
  stands = b ∙ ap (λ (x : List ℕ). machine (worths A x)) (below_top w)

  pub low-rest : Lows (worths A (drop 1 w))
  low-rest = lows sizes small words asked.lent.young (drop 1 w) short-rest

  abbrev pub numbers : AllOwn below → Numbers sizes.states below
  numbers own = record { worths = worths A (drop 1 w); is = stands; own = own; long = length-worths A (drop 1 w); low = low-rest }

  pub tamed : AllOwn below → Tamed below
  tamed own = tame-worths sizes small words asked.lent.young (drop 1 w) short-rest below own stands

  bound-low : Low (bound_of sizes (entries_of words) p w)
  unfolding worths step
  bound-low =
      let f : ℕ → Option ℕ = λ q. step_worth A (worths A (drop 1 w)) q (get_or w 0 0) in
      let whole : length (get_or w 0 0 ∷ drop 1 w) ≤ max_stack = omega (arith, length-drop 1 w, asked.short, asked.some-letters) in
      let l = lows sizes small words asked.lent.young (get_or w 0 0 ∷ drop 1 w) whole p in
      subst Low (tabulate-at f sizes.states p none asked.there) l

  -- what the code finds for the head is the code of the bound
  pub found : {number : ℕ} → number ≡ least_number (head_number p (get_or w 0 0) sizes.states (codes below)) (entries_of words)
      → Found sizes (entries_of words) p w number
  found f =
      record {
        filled = asked.some-letters;
        code =
            f
            ∙ rw stands
            (step-coded sizes small (entries_of words) (worths A (drop 1 w)) (length-worths A (drop 1 w)) low-rest asked.lent.young p
            (get_or w 0 0));
        low = bound-low;
      }

  -- and what it finds for the least rule field is the code of the least one
  pub rule-least : ((k : ℕ) → get_or words k 0 < 2 ^ 32) → {number : ℕ} → number < no_worth → {field : ℕ}
      → field ≡ least_number (rule_number p (get_or w 0 0) sizes.states (codes below) number) (entries_of words)
      → field ≡ coded (least_over (head_rule A (worths A (drop 1 w)) p (get_or w 0 0) number) (entries_of words))
  rule-least fields {number} l f =
      f
      ∙ rw stands
      (rules-coded sizes small (entries_of words) (worths A (drop 1 w)) (length-worths A (drop 1 w)) low-rest (field-small words fields) p
      (get_or w 0 0)
      number
      l)

-- a least rule field is that of an entry
fielded : (A : Automaton) (rest : List (Option ℕ)) (p a b : ℕ) (es : List Entry) → ((x : Entry) → x ∈ es → x.rule < 2 ^ 32) → Fielded (least_over (head_rule A rest p a b) es)
unfolding head_rule
fielded A rest p a b es small n y =
    let f = least_over-is (head_rule A rest p a b) es y in
    let t = tested-is (entry_of_head p a f.0 && worth_is b (entry_worth A rest f.0)) (some f.0.rule) f.2 in
    let same : f.0.rule ≡ n = cc t.1 in
    omega (arith, small f.0 f.1, same)

-- the verdict by that number, of a game that the code holds
module _ {g : PushdownGame} {sizes : Sizes} {rules : List ℕ} (h : Stands g sizes rules) {es : List Entry} {p : ℕ} {w : List ℕ} {number : ℕ}
    (found-there : Found sizes es p w number) where
  abbrev G : Automaton
  G = automaton_of (sizes_of g) es

  abbrev below-it : List (Option ℕ)
  below-it = worths G (drop 1 w)

  bound : Option ℕ
  bound = bound_of (sizes_of g) es p w

  is_code : number ≡ coded bound
  unfolding bound
  is_code = found-there.code ∙ ap (λ (s : Sizes). coded (bound_of s es p w)) h.sized

  held : Held bound
  unfolding bound
  held = low_held _ (subst (λ (s : Sizes). Low (bound_of s es p w)) h.sized found-there.low)

  by-bound : (x : Option ℕ) → bound ≡ x
      → verdict g es p w ≡ verdict_of (is_abelard g p) (lost_field g G p (get_or w 0 0) below-it) (advice_at G below-it p (get_or w 0 0) x) x
  unfolding bound verdict verdict_over
  by-bound x y = ap (verdict g es p) (top-letter w (λ z. omega (arith, found-there.filled))) ∙ rw y

  -- none: the field is that of a lost position
  pub is_lost : number ≡ no_worth → {field : ℕ}
      → field ≡ lost_field g (automaton_of sizes es) p (get_or w 0 0) (worths (automaton_of sizes es) (drop 1 w))
      → lost field ≡ verdict g es p w
  unfolding verdict_of
  is_lost n f =
      let same = f ∙ ap (λ (s : Sizes). lost_field g (automaton_of s es) p (get_or w 0 0) (worths (automaton_of s es) (drop 1 w))) h.sized in
      ap lost same ∙ sym (by-bound none (coded_none held (sym is_code ∙ n)))

  module _ (n : number ≡ no_worth → ⊥) where
    pub strict : number < no_worth
    strict = let u = coded-up-to held in omega (arith, is_code)

    some-bound : bound ≡ some number
    some-bound = coded-some held (omega (arith, is_code, strict)) ∙ ap some (sym is_code)

    pub is-target : number ≡ 0 → target ≡ verdict g es p w
    unfolding verdict_of
    is-target z = sym (by-bound (some number) some-bound ∙ rw (eq-eqb number 0 z))

    module _ (z : number ≡ 0 → ⊥) {owner : Bool} (o : owner ≡ has sizes.abelard p) where
      owned : is_abelard g p ≡ owner
      owned = sym (o ∙ ap (λ (s : Sizes). has s.abelard p) h.sized)

      pub is-abelard : owner ≡ true → abelard number ≡ verdict g es p w
      unfolding verdict_of to_move
      is-abelard t = sym (by-bound (some number) some-bound ∙ rw (ne_eqb number 0 z, owned ∙ t))

      pub is-eloise : owner ≡ false → {field : ℕ}
          → field ≡ coded (least_over (head_rule (automaton_of sizes es) (worths (automaton_of sizes es) (drop 1 w)) p (get_or w 0 0) number) es)
          → {rule : ℕ} → ((x : Option ℕ) → field ≡ coded x → Fielded x → rule ≡ or_zero (field_number x))
          → ((x : Entry) → x ∈ es → x.rule < 2 ^ 32) → eloise rule number ≡ verdict g es p w
      unfolding verdict_of to_move advice_at
      is-eloise t f {rule} r fields =
          let least : Option ℕ = least_over (head_rule G below-it p (get_or w 0 0) number) es in
          let q = f ∙ ap (λ (s : Sizes). coded (least_over (head_rule (automaton_of s es) (worths (automaton_of s es) (drop 1 w)) p (get_or w 0 0) number) es)) h.sized in
          let told : rule ≡ or_zero (field_number least) = r least q (fielded G below-it p (get_or w 0 0) number es fields) in
          ap (λ (k : ℕ). eloise k number) told
          ∙ sym (by-bound (some number) some-bound ∙ rw (ne_eqb number 0 z, owned ∙ t))
