-- The filter of question 6: a bit set, a statement whose bit is not set, and the filter after one command more.
use Prim.Native.Nat.{ℕ, ◌*◌, ◌/◌, ◌%◌, ◌^◌, ◌<◌}
use native.Mathlib.Nat.{mod-lt}
use native.Mathlib.Omega.{arith}
use mathlib.Core.Path.{◌≡◌, refl, sym, ap, ◌∙◌}
use mathlib.Core.Logic.{inl, inr, ⊎_elim}
use mathlib.Core.Bool.{Bool, true, false, not, ◌&&◌}
use mathlib.Core.List.Memᴰ
use mathlib.Core.List.{List, [], ◌∷◌, Memᴰ}
use lib.ListN.{length, get_or, set, replicate, length-set}
use lib.Seq.{get_or-set_same, get_or-set_other}
use lib.Dec.{eqb}
use borrow.Author.Tests.{eqb-true, eqb-false}
use Rattle.game.specs.Limits.{slot_words}
use Rattle.game.specs.Sets.{has, single, union}
use Rattle.game.specs.SetLaws.{left-union, right-union, union-has, single-has, has-single}
use Rattle.game.specs.ListLaws.{test, clash, both, any-in}
use Rattle.game.specs.Game.{Rule, Transition, PushdownGame, empty_game}
use Rattle.game.specs.Questions.{any, same_rule, same_target, add}
use Rattle.game.specs.Marks.{slot_of, rule_word, rule_slot, target_slot, marked, Marks, Filtered}
use Rattle.game.specs.Stated.{stated, stated_target}
use Rattle.game.specs.declared.rule.RuleBytes.{RuleBytes}
use Rattle.game.specs.declared.rule.TargetWords.{TargetWords}
use Rattle.game.specs.declared.command.Command.TheVariants.{Rule as RuleIs, Target}
use Rattle.game.proofs.Tests.{shifted_one}

-- a number is its word and its place there
whole-number : (s t : ℕ) → s / 64 ≡ t / 64 → s % 64 ≡ t % 64 → s ≡ t
whole-number s t d m = omega (arith, d, m)

pub sets-bit : (marks : List ℕ) (slot : ℕ) → slot / 64 < length marks
    → Marks marks slot (set marks (slot / 64) (union (get_or marks (slot / 64) 0) (1 * 2 ^ (slot % 64) % 2 ^ 64)))
unfolding marked
sets-bit marks slot l =
    let i = slot / 64 in
    let word = get_or marks i 0 in
    let bit = 1 * 2 ^ (slot % 64) % 2 ^ 64 in
    let more = union word bit in
    let shifted = shifted_one (slot % 64) (mod-lt slot (omega arith)) in
    record {
      long = length-set marks i more;
      new =
          ap (λ (z : ℕ). has z (slot % 64)) (get_or-set_same marks i more 0 l)
          ∙ right-union word bit (slot % 64)
          (ap (λ (z : ℕ). has z (slot % 64)) shifted ∙ single-has (slot % 64));
      old = λ s h.
          ⊎_elim
          (λ (t : eqb (s / 64) i ≡ true).
          let same = eqb-true (s / 64) i t in
          ap (λ (k : ℕ). has (get_or (set marks i more) k 0) (s % 64)) same
          ∙ ap (λ (z : ℕ). has z (s % 64)) (get_or-set_same marks i more 0 l)
          ∙ left-union word bit (s % 64) (ap (λ (k : ℕ). has (get_or marks k 0) (s % 64)) (sym same) ∙ h))
          (λ (t : eqb (s / 64) i ≡ false).
          ap (λ (z : ℕ). has z (s % 64)) (get_or-set_other marks i (s / 64) more 0 (eqb-false (s / 64) i t)) ∙ h)
          (test (eqb (s / 64) i));
      only = λ s h.
          ⊎_elim
          (λ (t : eqb (s / 64) i ≡ true).
          let same = eqb-true (s / 64) i t in
          ⊎_elim (λ (o : has word (s % 64) ≡ true). inl (ap (λ (k : ℕ). has (get_or marks k 0) (s % 64)) same ∙ o))
          (λ (o : has bit (s % 64) ≡ true).
          let one : has (single (slot % 64)) (s % 64) ≡ true = ap (λ (z : ℕ). has z (s % 64)) (sym shifted) ∙ o in
          inr (whole-number s slot same (has-single (slot % 64) (s % 64) one)))
          (union-has word bit (s % 64)
          (sym
          (ap (λ (k : ℕ). has (get_or (set marks i more) k 0) (s % 64)) same
          ∙ ap (λ (z : ℕ). has z (s % 64)) (get_or-set_same marks i more 0 l))
          ∙ h)))
          (λ (t : eqb (s / 64) i ≡ false).
          inl (sym (ap (λ (z : ℕ). has z (s % 64)) (get_or-set_other marks i (s / 64) more 0 (eqb-false (s / 64) i t))) ∙ h))
          (test (eqb (s / 64) i));
    }

-- equal statements have one slot
rule-slots : (p a q k b c : ℕ) (r : Rule) → same_rule p a q k b c r ≡ true → rule_slot r ≡ slot_of p a (rule_word q k b c)
unfolding same_rule
rule-slots p a q k b c r h =
    let e1 = eqb r.from p in
    let e2 = eqb r.top a in
    let e3 = eqb r.to q in
    let e4 = eqb r.count k in
    let e5 = eqb r.above b in
    let e6 = eqb r.below c in
    let s6 = both (e1 && e2 && e3 && e4 && e5) e6 h in
    let s5 = both (e1 && e2 && e3 && e4) e5 s6.0 in
    let s4 = both (e1 && e2 && e3) e4 s5.0 in
    let s3 = both (e1 && e2) e3 s4.0 in
    let s2 = both e1 e2 s3.0 in
    rw (
      eqb-true r.from p s2.0,
      eqb-true r.top a s2.1,
      eqb-true r.to q s3.1,
      eqb-true r.count k s4.1,
      eqb-true r.above b s5.1,
      eqb-true r.below c s6.1,
    )

target-slots : (q a s : ℕ) (t : Transition) → same_target q a s t ≡ true → target_slot t ≡ slot_of q a s
unfolding same_target
target-slots q a s t h =
    let e1 = eqb t.state q in
    let e2 = eqb t.letter a in
    let s3 = both (e1 && e2) (eqb t.set s) h in
    let s2 = both e1 e2 s3.0 in
    rw (eqb-true t.state q s2.0, eqb-true t.letter a s2.1, eqb-true t.set s s3.1)

module _ (g : PushdownGame) (marks : List ℕ) (f : Filtered g marks) where
  -- a statement whose bit is not set is new
  pub new-rule : (p a q k b c slot : ℕ) (bit : Bool) → slot ≡ slot_of p a (rule_word q k b c) → bit ≡ marked marks slot → bit ≡ false → true ≡ not (any (same_rule p a q k b c) g.rules)
  new-rule p a q k b c slot bit s e off =
      ⊎_elim
      (λ (t : any (same_rule p a q k b c) g.rules ≡ true).
      let r = any-in (same_rule p a q k b c) g.rules t in
      clash (f.rule r.0 r.1) (ap (marked marks) (rule-slots p a q k b c r.0 r.2 ∙ sym s) ∙ sym e ∙ off))
      (λ (t : any (same_rule p a q k b c) g.rules ≡ false). sym (ap not t))
      (test (any (same_rule p a q k b c) g.rules))

  pub new-target : (q a s slot : ℕ) (bit : Bool) → slot ≡ slot_of q a s → bit ≡ marked marks slot → bit ≡ false → true ≡ not (any (same_target q a s) g.targets)
  new-target q a s slot bit l e off =
      ⊎_elim
      (λ (t : any (same_target q a s) g.targets ≡ true).
      let r = any-in (same_target q a s) g.targets t in
      clash (f.target r.0 r.1) (ap (marked marks) (target-slots q a s r.0 r.2 ∙ sym l) ∙ sym e ∙ off))
      (λ (t : any (same_target q a s) g.targets ≡ false). sym (ap not t))
      (test (any (same_target q a s) g.targets))

  -- the filter with one statement more
  pub with-rule-marked : (r : RuleBytes) (slot : ℕ) (after : List ℕ) → slot ≡ rule_slot (stated 0 r) → Marks marks slot after → Filtered (add g (RuleIs r)) after
  unfolding add
  with-rule-marked by slot after s m =
      let new = stated (length g.rules) by in
      record {
        long = m.long ∙ f.long;
        rule = λ r h.
            ⊎_elim (λ (o : Memᴰ r g.rules). m.old (rule_slot r) (f.rule r o))
            (λ (o : Memᴰ r (new ∷ [])).
            ⊎_elim (λ (e : r ≡ new).
            ap (λ (x : Rule). marked after (rule_slot x)) e ∙ ap (marked after) (sym s) ∙ m.new)
            (λ (z : Memᴰ r []). absurd (Memᴰ.not-nil z)) (Memᴰ.cases_cons o))
            (Memᴰ.append_cases g.rules h);
        target = λ t h. m.old (target_slot t) (f.target t h);
      }

  pub with-target-marked : (t : TargetWords) (slot : ℕ) (after : List ℕ) → slot ≡ slot_of t.state t.letter t.set → Marks marks slot after → Filtered (add g (Target t)) after
  unfolding add
  with-target-marked by slot after l m =
      let new = stated_target by in
      record {
        long = m.long ∙ f.long;
        rule = λ r h. m.old (rule_slot r) (f.rule r h);
        target = λ t h.
            ⊎_elim (λ (o : Memᴰ t g.targets). m.old (target_slot t) (f.target t o))
            (λ (o : Memᴰ t (new ∷ [])).
            ⊎_elim (λ (e : t ≡ new). ap (λ (x : Transition). marked after (target_slot x)) e ∙ ap (marked after) (sym l) ∙ m.new)
            (λ (z : Memᴰ t []). absurd (Memᴰ.not-nil z)) (Memᴰ.cases_cons o))
            (Memᴰ.append_cases g.targets h);
      }

-- nothing is stored before the first command
pub none-marked : Filtered empty_game (replicate slot_words 0)
none-marked =
    record { long = refl; rule = λ r h. absurd (Memᴰ.not-nil h); target = λ t h. absurd (Memᴰ.not-nil h) }
