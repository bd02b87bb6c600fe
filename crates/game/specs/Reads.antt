-- The theorem that a game that was read is good, by the walk: each command that passes 3 to 7 keeps what holds so far.
use Rattle.std.specs.Prelude.{ℕ, suc, ◌+◌, ◌/◌, ◌^◌, ◌<◌, ◌≤◌, ◌≡◌, refl, ◌⊎◌, Bool, true, false, cond, length, get_or, ltb, leb}
use Rattle.std.proofs.Common.{sym, ap, ◌∙◌, inl, ⊎_elim, arith, add-zero, mod-lt, length-append, pow_pos, ltb-true, leb-true, eqb-true, eq-eqb}
use Rattle.std.proofs.Math.Logic.{inr}
use mathlib.Core.List.Memᴰ
use mathlib.Core.List.{List, [], ◌∷◌, ◌++◌, Memᴰ}
use Rattle.std.proofs.Math.ListN.{get_or-append}
use Rattle.std.proofs.Math.Seq.{get_or-append_seam}
use Rattle.std.proofs.lemmas.Nat.{or_lt}
use Rattle.std.proofs.Math.Pow.{pow-lt, split}
use Rattle.std.proofs.lemmas.Bool.{eqb-false, not-true}
use Rattle.game.specs.Limits.{max_states, max_rules, max_targets}
use Rattle.game.specs.Sets.{within}
use Rattle.game.specs.Game.{Rule, Transition, PushdownGame, empty_game, word_of, of_head, rules_of}
use Rattle.game.specs.Outcome.{Outcome, done, refused}
use Rattle.game.specs.Questions.{any, in_order, sizes_in_range, between, rule_in_range, target_in_range, in_range, bottom_kept, keeps_bottom, same_target, is_new, has_room, ask, Room, add, every_letter, every_head, reading}
use Rattle.game.specs.ListLaws.{both, any-in, in-filter, none-at, all_below-at, below_suc}
use Rattle.game.specs.Stated.{stated, stated_target}
use Rattle.game.specs.StoredLaws.{no_transition}
use Rattle.game.specs.WalkLaws.{Answers, of-reading}
use Rattle.game.specs.GoodGame.{GoodRule, GoodTarget, Numbered, Distinct, Ranged, SoFar, Good}
use Rattle.game.specs.declared.command.Command.{Command}
use Rattle.game.specs.declared.command.Command.TheVariants.{Sizes, Abelard, Final, Rule as RuleIs, Target, End}

-- a chain of tests that gives 0 passed its first test
passed : (b : Bool) (x n : ℕ) → cond b x (suc n) ≡ 0 → (b ≡ true) × (x ≡ 0)
passed true x n h = (refl, h)
passed false x n h = absurd (omega arith)

-- the five questions that a command passed
pub record Passed (g : PushdownGame) (command : Command) : Type 0 where
  pub order : in_order g.states command ≡ true
  pub range : in_range g.control g.states g.letters command ≡ true
  pub bottom : keeps_bottom command ≡ true
  pub new : is_new g command ≡ true
  pub room : has_room (length g.rules) (length g.targets) command ≡ true

pub asked : (g : PushdownGame) (command : Command) → ask g command ≡ 0 → Passed g command
unfolding ask
asked g command h =
    let a = passed (in_order g.states command) _ 2 h in
    let b = passed (in_range g.control g.states g.letters command) _ 3 a.1 in
    let c = passed (keeps_bottom command) _ 4 b.1 in
    let d = passed (is_new g command) _ 5 c.1 in
    let e = passed (has_room (length g.rules) (length g.targets) command) _ 6 d.1 in
    record { order = a.0; range = b.0; bottom = c.0; new = d.0; room = e.0 }

impossible : false ≡ true → ⊥
impossible h = let z : ◌≡◌ {A = ℕ} 0 1 = cc in omega arith

-- only 01 passes 3 before anything is read
first : (command : Command) → in_order 0 command ≡ true → (p s l : ℕ) × (command ≡ Sizes p s l)
unfolding in_order
first (Sizes p s l) h = (p, s, l, refl)
first (Abelard p) h = absurd (impossible h)
first (Final q) h = absurd (impossible h)
first (RuleIs r) h = absurd (impossible h)
first (Target t) h = absurd (impossible h)
first End h = absurd (impossible h)

-- the game after an accepted 01
pub opened : (p s l : ℕ) → sizes_in_range p s l ≡ true → Ranged (add empty_game (Sizes p s l))
unfolding sizes_in_range add Numbered
opened p s l h =
    let f = both _ _ h in
    let e = both _ _ f.0 in
    let d = both _ _ e.0 in
    let c = both _ _ d.0 in
    let b = both _ _ c.0 in
    record {
      some = leb-true _ _ b.0;
      control = ltb-true _ _ c.1;
      controls = leb-true _ _ b.1;
      states = leb-true _ _ d.1;
      bottom = leb-true _ _ e.1;
      letters = leb-true _ _ f.1;
      abelard = pow_pos p;
      finals = pow_pos s;
      rule = λ r m. absurd (Memᴰ.not-nil m);
      numbers = tt;
      rules = omega arith;
      target = λ t m. absurd (Memᴰ.not-nil m);
      distinct = λ i j h k e. omega arith;
      targets = omega arith;
    }

ruled : (control letters p a q k b c n : ℕ) → rule_in_range control letters p a q k b c ≡ true → bottom_kept a (word_of k b c) ≡ true → GoodRule control letters (record { number = n; from = p; top = a; to = q; count = k; above = b; below = c })
unfolding rule_in_range
ruled control letters p a q k b c n h kept =
    let f = both _ _ h in
    let e = both _ _ f.0 in
    let d = both _ _ e.0 in
    let m = both _ _ d.0 in
    let t = both _ _ m.0 in
    let s = both _ _ t.0 in
    record {
      from = ltb-true _ _ s.0;
      top = ltb-true _ _ s.1;
      to = ltb-true _ _ t.1;
      count = leb-true _ _ m.1;
      above = ltb-true _ _ d.1;
      below = ltb-true _ _ e.1;
      bottom = kept;
    }

-- a number that is none of the bits from k up is below 2 ^ k
no-high : (x k : ℕ) → x / 2 ^ k ≡ 0 → x < 2 ^ k
no-high x k h = let s = split x k in let m = mod-lt x (pow_pos k) in rw (← s, h) (omega arith)

targeted : (control states letters q a s : ℕ) → target_in_range control states letters q a s ≡ true → GoodTarget control states letters (record { state = q; letter = a; set = s })
unfolding target_in_range within
targeted control states letters q a s h =
    let f = both _ _ h in
    let e = both _ _ f.0 in
    let d = both _ _ e.0 in
    let w = both _ _ f.1 in
    record {
      state = ltb-true _ _ d.0;
      letter = ltb-true _ _ d.1;
      filled = let n = eqb-false s 0 (not-true _ e.1) in omega arith;
      small = no-high s states (eqb-true _ _ w.1);
      further = eqb-true _ _ w.0;
    }

numbered_more : (n : ℕ) (rs : List Rule) (r : Rule) → Numbered n rs → r.number ≡ n + length rs → Numbered n (rs ++ (r ∷ []))
unfolding Numbered
numbered_more n [] r h e = (e ∙ add-zero n, tt)
numbered_more n (x ∷ rs) r h e = (h.0, numbered_more (suc n) rs r h.1 (omega arith))

-- an element of a list with one more
one_more : {A : Type 0} {x y : A} (xs : List A) → Memᴰ x (xs ++ (y ∷ [])) → Memᴰ x xs ⊎ (x ≡ y)
one_more xs m = ⊎_elim inl (λ n. inr (Memᴰ.eq_of_singleton n)) (Memᴰ.append_cases xs m)

same_target-self : (q a s : ℕ) (t : Transition) → t ≡ record { state = q; letter = a; set = s } → same_target q a s t ≡ true
unfolding same_target
same_target-self q a s t e = rw (e, eq-eqb q q refl, eq-eqb a a refl, eq-eqb s s refl)

distinct_more : (ts : List Transition) (q a s : ℕ) → Distinct ts → any (same_target q a s) ts ≡ false → Distinct (ts ++ (record { state = q; letter = a; set = s } ∷ []))
distinct_more ts q a s d none i j h l e =
    let t : Transition = record { state = q; letter = a; set = s } in
    let n = length-append ts (t ∷ []) in
    let here : i < length ts = omega arith in
    let old = get_or-append ts (t ∷ []) no_transition i here in
    ⊎_elim
    (λ (k : j < length ts). d i j h k (sym old ∙ e ∙ get_or-append ts (t ∷ []) no_transition j k))
    (λ (k : j ≡ length ts).
    impossible
    (sym (none-at (same_target q a s) no_transition ts none i here)
    ∙ same_target-self q a s _ (sym old ∙ e ∙ ap (λ (x : ℕ). get_or (ts ++ (t ∷ [])) x no_transition) k ∙ get_or-append_seam ts t [] no_transition)))
    (below_suc (omega arith))

-- questions 3 to 7 passed keep the game in range
grow : (g : PushdownGame) → Ranged g → (command : Command) → Passed g command → Ranged (add g command)
unfolding add in_order in_range between keeps_bottom is_new has_room
grow g k (Sizes p s l) h = absurd (let e = eqb-true g.states 0 h.order in let c = k.control in omega arith)
grow g k (Abelard p) h =
    record {
      some = k.some;
      control = k.control;
      controls = k.controls;
      states = k.states;
      bottom = k.bottom;
      letters = k.letters;
      abelard = or_lt g.control g.abelard (2 ^ p) k.abelard (pow-lt (ltb-true p g.control h.range));
      finals = k.finals;
      rule = k.rule;
      numbers = k.numbers;
      rules = k.rules;
      target = k.target;
      distinct = k.distinct;
      targets = k.targets;
    }
grow g k (Final q) h =
    record {
      some = k.some;
      control = k.control;
      controls = k.controls;
      states = k.states;
      bottom = k.bottom;
      letters = k.letters;
      abelard = k.abelard;
      finals = or_lt g.states g.finals (2 ^ q) k.finals (pow-lt (ltb-true q g.states (both (leb g.control q) (ltb q g.states) h.range).1));
      rule = k.rule;
      numbers = k.numbers;
      rules = k.rules;
      target = k.target;
      distinct = k.distinct;
      targets = k.targets;
    }
grow g k (RuleIs r) h =
    let new : GoodRule g.control g.letters (stated (length g.rules) r) = ruled g.control g.letters r.from r.top r.to r.count r.above r.below (length g.rules) h.range h.bottom in
    record {
      some = k.some;
      control = k.control;
      controls = k.controls;
      states = k.states;
      bottom = k.bottom;
      letters = k.letters;
      abelard = k.abelard;
      finals = k.finals;
      rule = λ x m. ⊎_elim (k.rule x) (λ (e : x ≡ stated (length g.rules) r). rw e new) (one_more g.rules m);
      numbers = numbered_more 0 g.rules (stated (length g.rules) r) k.numbers (omega arith);
      rules = omega (arith, length-append g.rules (stated (length g.rules) r ∷ []), ltb-true (length g.rules) max_rules h.room);
      target = k.target;
      distinct = k.distinct;
      targets = k.targets;
    }
grow g k (Target t) h =
    let new : GoodTarget g.control g.states g.letters (stated_target t) = targeted g.control g.states g.letters t.state t.letter t.set h.range in
    record {
      some = k.some;
      control = k.control;
      controls = k.controls;
      states = k.states;
      bottom = k.bottom;
      letters = k.letters;
      abelard = k.abelard;
      finals = k.finals;
      rule = k.rule;
      numbers = k.numbers;
      rules = k.rules;
      target = λ x m. ⊎_elim (k.target x) (λ (e : x ≡ stated_target t). rw e new) (one_more g.targets m);
      distinct = distinct_more g.targets t.state t.letter t.set k.distinct (not-true _ h.new);
      targets = omega (arith, length-append g.targets (stated_target t ∷ []), ltb-true (length g.targets) max_targets h.room);
    }
grow g k End h = k

-- a command that passes 3 to 7 keeps what holds so far
pub so_far : (g : PushdownGame) → SoFar g → (command : Command) → ask g command ≡ 0 → SoFar (add g command)
so_far g k command h =
    let q = asked g command h in
    ⊎_elim
    (λ (e : g ≡ empty_game).
    let f = first command (rw e at q.order) in
    inr
    (rw (e, f.3)
    (opened f.0 f.1 f.2 (unfold in_range in (rw f.3 at q.range)))))
    (λ (r : Ranged g). inr (grow g r command q))
    k

-- the limits that hold so far
pub limits : (g : PushdownGame) → SoFar g → (g.control ≤ max_states) × (g.states ≤ max_states) × (length g.rules ≤ max_rules) × (length g.targets ≤ max_targets)
limits g k =
    ⊎_elim
    (λ (e : g ≡ empty_game). rw e (omega arith))
    (λ (r : Ranged g). (omega (arith, r.controls), r.states, r.rules, r.targets))
    k

roomy : (g : PushdownGame) → SoFar g → (command : Command) → Passed g command → Room (length g.rules) (length g.targets) command
unfolding in_range between has_room
roomy g k (Sizes p s l) h = tt
roomy g k (Abelard p) h = omega (arith, limits g k, ltb-true p g.control h.range)
roomy g k (Final q) h = omega (arith, limits g k, ltb-true q g.states (both (leb g.control q) (ltb q g.states) h.range).1)
roomy g k (RuleIs r) h = ltb-true _ _ h.room
roomy g k (Target t) h = ltb-true _ _ h.room
roomy g k End h = tt

-- what the code needs of a command that passed
pub room : (g : PushdownGame) → SoFar g → (command : Command) → ask g command ≡ 0 → Room (length g.rules) (length g.targets) command
room g k command h = roomy g k command (asked g command h)

-- 9 passed: every head has a rule
heads : (g : PushdownGame) → every_head g.control g.letters g.rules ≡ true → (p a : ℕ) → p < g.control → a < g.letters → (r : Rule) × Memᴰ r (rules_of g p a)
unfolding every_head every_letter rules_of
heads g h p a i j =
    let f = any-in (of_head p a) g.rules (all_below-at g.letters _ (all_below-at g.control _ h p i) a j) in
    (f.0, in-filter (of_head p a) f.1 f.2)

refused≢done : {A : Type 0} {n p : ℕ} {x : A} → refused n p ≡ done x → ⊥
refused≢done e = let z : ◌≡◌ {A = ℕ} 0 1 = cc in omega arith

-- FF passes 3 only after 01
started : (g : PushdownGame) → SoFar g → ask g End ≡ 0 → Ranged g
started g k h =
    ⊎_elim
    (λ (e : g ≡ empty_game). absurd (unfold in_order in (impossible (rw e at (asked g End h).order))))
    (λ (r : Ranged g). r)
    k

-- the game that an outcome hands out is good
abbrev GoodIn : Outcome PushdownGame → Type 0
GoodIn o = (x : PushdownGame) → o ≡ done x → Good x

good-answers : (file : List ℕ) → Answers file (λ at g. SoFar g) GoodIn
good-answers file =
    record {
      by_byte = λ at g k inside found x e. absurd (refused≢done e);
      by_end = λ at g k inside found x e. absurd (refused≢done e);
      by-command = λ at next g command k found h x e. absurd (refused≢done e);
      goes_on = λ at next g command k found passed h. so_far g k command passed;
      by-rest = λ at g k end h x e. absurd (refused≢done e);
      by-head = λ at g k end last h x e. absurd (refused≢done e);
      reads = λ at g k end last passed h x e.
          let same : g ≡ x = cc in
          rw (← same) (record { ranged = started g k passed; head = heads g h });
      runs-out = λ at g k beyond x e. absurd (refused≢done e);
    }

-- A game that was read is good.
pub good : (file : List ℕ) (g : PushdownGame) → reading file ≡ done g → Good g
good file g e =
    of-reading file (λ at g. SoFar g) GoodIn (good-answers file) (λ x e. absurd (refused≢done e)) (λ some few. inl refl) g e
