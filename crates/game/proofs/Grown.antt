-- What storing one rule, or one target transition, more makes of the flat lists, and of a game's parts.
use Prim.Native.Nat.{ℕ, suc, ◌+◌, ◌*◌, ◌-◌, ◌<◌}
use mathlib.Core.Path.{◌≡◌, refl, sym, ap, ◌∙◌}
use mathlib.Core.List.{List, [], ◌∷◌, ◌++◌, append_assoc}
use native.Mathlib.Omega.{arith}
use native.Mathlib.Nat.{suc-add}
use lib.ListN.{length, set, length-append}
use Rattle.game.specs.Game.{Rule, Transition, PushdownGame}
use Rattle.game.specs.Limits.{max_rules, max_targets}
use Rattle.game.specs.Stored.{rule_bytes, target_words, padded}
use Rattle.game.specs.Parts.{Parts, rule_area, target_area}
use Rattle.game.specs.StoredLaws.{length-rule_bytes, length-target_words}
use Rattle.game.specs.Questions.{add}
use Rattle.game.specs.declared.game.Sizes.{Sizes}
use Rattle.game.specs.Stated.{stated, stated_target}
use Rattle.game.specs.declared.rule.RuleBytes.{RuleBytes}
use Rattle.game.specs.declared.rule.TargetWords.{TargetWords}
use Rattle.game.specs.declared.command.Command.TheVariants.{Rule as RuleIs, Target}

six-sets : (xs ys : List ℕ) (p a q k b c : ℕ) → set (set (set (set (set (set (xs ++ (0 ∷ 0 ∷ 0 ∷ 0 ∷ 0 ∷ 0 ∷ ys)) (length xs) p) (length xs + 1) a) (length xs + 2) q) (length xs + 3) k) (length xs + 4) b) (length xs + 5) c ≡ xs ++ (p ∷ a ∷ q ∷ k ∷ b ∷ c ∷ ys)
six-sets [] ys p a q k b c = refl
six-sets (x ∷ xs) ys p a q k b c =
    rw (
      suc-add (length xs) 1,
      suc-add (length xs) 2,
      suc-add (length xs) 3,
      suc-add (length xs) 4,
      suc-add (length xs) 5,
    )
    (ap (x ∷◌) (six-sets xs ys p a q k b c))

three-sets : (xs ys : List ℕ) (p a q : ℕ) → set (set (set (xs ++ (0 ∷ 0 ∷ 0 ∷ ys)) (length xs) p) (length xs + 1) a) (length xs + 2) q ≡ xs ++ (p ∷ a ∷ q ∷ ys)
three-sets [] ys p a q = refl
three-sets (x ∷ xs) ys p a q = rw (suc-add (length xs) 1, suc-add (length xs) 2) (ap (x ∷◌) (three-sets xs ys p a q))

rule_bytes-append : (rs ts : List Rule) → rule_bytes (rs ++ ts) ≡ rule_bytes rs ++ rule_bytes ts
unfolding rule_bytes
rule_bytes-append [] ts = refl
rule_bytes-append (r ∷ rs) ts = rw (rule_bytes-append rs ts)

target_words-append : (rs ts : List Transition) → target_words (rs ++ ts) ≡ target_words rs ++ target_words ts
unfolding target_words
target_words-append [] ts = refl
target_words-append (r ∷ rs) ts = rw (target_words-append rs ts)

rules-grown : (rs : List Rule) (r : Rule) → length rs < 256 → set (set (set (set (set (set (padded 1536 (rule_bytes rs)) (length rs * 6) r.from) (length rs * 6 + 1) r.top) (length rs * 6 + 2) r.to) (length rs * 6 + 3) r.count) (length rs * 6 + 4) r.above) (length rs * 6 + 5) r.below ≡ padded 1536 (rule_bytes (rs ++ (r ∷ [])))
unfolding padded rule_bytes
rules-grown rs r h =
    let l = length-rule_bytes rs in
    let room : 1536 - length (rule_bytes rs) ≡ suc (suc (suc (suc (suc (suc (1536 - (length rs * 6 + 6))))))) = omega arith in
    let left : 1536 - length (rule_bytes rs ++ rule_bytes (r ∷ [])) ≡ 1536 - (length rs * 6 + 6) = omega (arith, length-append (rule_bytes rs) (rule_bytes (r ∷ []))) in
    rw (rule_bytes-append rs (r ∷ []), left, room, ← l)
    (six-sets (rule_bytes rs) _ r.from r.top r.to r.count r.above r.below
    ∙ sym (append_assoc (rule_bytes rs) (r.from ∷ r.top ∷ r.to ∷ r.count ∷ r.above ∷ r.below ∷ []) _))

targets-grown : (ts : List Transition) (t : Transition) → length ts < 256 → set (set (set (padded 768 (target_words ts)) (length ts * 3) t.state) (length ts * 3 + 1) t.letter) (length ts * 3 + 2) t.set ≡ padded 768 (target_words (ts ++ (t ∷ [])))
unfolding padded target_words
targets-grown ts t h =
    let l = length-target_words ts in
    let room : 768 - length (target_words ts) ≡ suc (suc (suc (768 - (length ts * 3 + 3)))) = omega arith in
    let left : 768 - length (target_words ts ++ target_words (t ∷ [])) ≡ 768 - (length ts * 3 + 3) = omega (arith, length-append (target_words ts) (target_words (t ∷ []))) in
    rw (target_words-append ts (t ∷ []), left, room, ← l)
    (three-sets (target_words ts) _ t.state t.letter t.set
    ∙ sym (append_assoc (target_words ts) (t.state ∷ t.letter ∷ t.set ∷ []) _))

-- a rule stored after those of a list
pub stores-rule : (rs : List Rule) (n : ℕ) (area : List ℕ) (r : RuleBytes) → n < max_rules → n ≡ length rs → area ≡ rule_area rs → set (set (set (set (set (set area (n * 6) r.from) (n * 6 + 1) r.top) (n * 6 + 2) r.to) (n * 6 + 3) r.count) (n * 6 + 4) r.above) (n * 6 + 5) r.below ≡ rule_area (rs ++ (stated n r ∷ []))
stores-rule rs n area r h e s = rw (s, e) (rules-grown rs (stated (length rs) r) (rw e at h))

-- a target transition stored after those of a list
pub stores-target : (ts : List Transition) (n : ℕ) (area : List ℕ) (t : TargetWords) → n < max_targets → n ≡ length ts → area ≡ target_area ts → set (set (set area (n * 3) t.state) (n * 3 + 1) t.letter) (n * 3 + 2) t.set ≡ target_area (ts ++ (stated_target t ∷ []))
stores-target ts n area t h e f = rw (f, e) (targets-grown ts (stated_target t) (rw e at h))

module _ (g : PushdownGame) (sizes : Sizes) (rules targets : List ℕ) (parts : Parts g sizes rules targets) where
  pub counted-rules : sizes.rulecount ≡ length g.rules
  counted-rules = ap (λ (x : Sizes). x.rulecount) parts.sized

  pub counted-targets : sizes.targetcount ≡ length g.targets
  counted-targets = ap (λ (x : Sizes). x.targetcount) parts.sized

  -- the parts with one rule more
  pub with-rule : (r : RuleBytes) (n : ℕ) (area : List ℕ) → n ≡ sizes.rulecount + 1 → area ≡ rule_area (g.rules ++ (stated sizes.rulecount r ∷ [])) → Parts (add g (RuleIs r)) (record {
    control = sizes.control;
    states = sizes.states;
    letters = sizes.letters;
    abelard = sizes.abelard;
    finals = sizes.finals;
    rulecount = n;
    targetcount = sizes.targetcount;
  }) area targets
  unfolding add
  with-rule r n area e s =
      let more = sym (length-append g.rules (stated (length g.rules) r ∷ [])) in
      record {
        sized = rw (e, parts.sized, ← more) refl;
        ruled = s ∙ ap (λ (i : ℕ). rule_area (g.rules ++ (stated i r ∷ []))) counted-rules;
        targeted = parts.targeted;
      }

  -- the parts with one target transition more
  pub with-target : (t : TargetWords) (n : ℕ) (area : List ℕ) → n ≡ sizes.targetcount + 1 → area ≡ target_area (g.targets ++ (stated_target t ∷ [])) → Parts (add g (Target t)) (record {
    control = sizes.control;
    states = sizes.states;
    letters = sizes.letters;
    abelard = sizes.abelard;
    finals = sizes.finals;
    rulecount = sizes.rulecount;
    targetcount = n;
  }) rules area
  unfolding add
  with-target t n area e f =
      let more = sym (length-append g.targets (stated_target t ∷ [])) in
      record { sized = rw (e, parts.sized, ← more) refl; ruled = parts.ruled; targeted = f }
