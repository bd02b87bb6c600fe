-- Laws of the next rule of a head: the runs of the rule with those of the later ones.
use Prim.Native.Nat.{ℕ, suc}
use Rattle.std.specs.Prelude.{◌≡◌, refl, true, false}
use Rattle.std.proofs.Common.{sym, ◌∙◌, eqb-true}
use Rattle.std.proofs.Math.Path.{ap}
use Rattle.std.proofs.Math.Logic.{⊎_elim}
use Rattle.std.proofs.Math.Bool.{Bool, cond}
use mathlib.Core.List.{List, [], ◌∷◌, flat_map}
use Rattle.std.proofs.Math.ListN.{get_or}
use Rattle.std.proofs.Math.Dec.{eqb}
use Rattle.std.proofs.lemmas.Bool.{eqb-false}
use Rattle.game.specs.Sets.{single, union}
use Rattle.game.specs.Game.{PushdownGame}
use Rattle.game.specs.StoredLaws.{no_rule}
use Rattle.game.specs.ListLaws.{test}
use Rattle.table.specs.Table.{Entry}
use Rattle.judge.specs.Worth.{entry_of_head}
use Rattle.rounds.specs.Rounds.{members}
use Rattle.rounds.specs.Enumeration.{rest_runs, state_runs, writes-none, writes_one, writes-two}
use Rattle.rounds.specs.InsertLaws.{no_entry}
use Rattle.rounds.specs.MemberLaws.{members-none}
use Rattle.rounds.specs.Scans.{rules_between}
use Rattle.enumeration.specs.Jobs.{sub_runs, begin_runs}
use Rattle.enumeration.specs.JobLaws.{sets-scan}

-- The runs of rule r with those of the later rules: what entry e gives as the first transition.
abbrev pub begin_of : PushdownGame → List Entry → ℕ → ℕ → ℕ → ℕ → ℕ → Entry → List ℕ
begin_of g old p a end r u e =
    cond (entry_of_head (get_or g.rules r no_rule).to (get_or g.rules r no_rule).above e)
    (cond (eqb (get_or g.rules r no_rule).count 1) (sub_runs g old p a end r 0 (union u e.set)) (sub_runs g old p a end r e.set u))
    []

pub begin-at : (g : PushdownGame) (old : List Entry) (p a end r i u : ℕ)
    → begin_runs g old p a end r i u ≡ begin_of g old p a end r u (get_or old i no_entry)
unfolding begin_runs
begin-at g old p a end r i u = refl

-- an entry that is no transition of the head gives nothing
pub begins-nothing : (g : PushdownGame) (old : List Entry) (p a end r u : ℕ) (q b : ℕ) → q ≡ (get_or g.rules r no_rule).to → b ≡ (get_or g.rules r no_rule).above
    → (e : Entry) → entry_of_head q b e ≡ false → begin_of g old p a end r u e ≡ []
begins-nothing g old p a end r u q b to above e t =
    ap
    (λ (of : Bool).
    cond of
    (cond (eqb (get_or g.rules r no_rule).count 1) (sub_runs g old p a end r 0 (union u e.set)) (sub_runs g old p a end r e.set u))
    [])
    (rw (to, above) at t)

module _ (g : PushdownGame) (old : List Entry) (p a end r u : ℕ) where
  -- a rule that writes nothing
  pub pops : (get_or g.rules r no_rule).count ≡ 0
      → rest_runs g old (get_or g.rules r no_rule ∷ rules_between g p a (suc r) end) u
      ≡ sub_runs g old p a end r 0 (union u (single (get_or g.rules r no_rule).to))
  unfolding sub_runs
  pops e =
      let rule = get_or g.rules r no_rule in
      rw (members-none g.states) (writes-none g old rule (rules_between g p a (suc r) end) rule.below u e)

  -- one that writes letters
  pub writes : ((get_or g.rules r no_rule).count ≡ 0 → ⊥)
      → rest_runs g old (get_or g.rules r no_rule ∷ rules_between g p a (suc r) end) u ≡ flat_map (begin_of g old p a end r u) old
  unfolding sub_runs
  writes n =
      let rule = get_or g.rules r no_rule in
      let later = rules_between g p a (suc r) end in
      let given : List ℕ → Entry → List ℕ =
      λ ss e. cond (entry_of_head rule.to rule.above e) (state_runs g old rule.below later ss (union u e.set)) []
      in
      let chosen : Bool → Entry → List ℕ =
      λ one e.
      cond (entry_of_head rule.to rule.above e)
      (cond one (sub_runs g old p a end r 0 (union u e.set)) (sub_runs g old p a end r e.set u))
      []
      in
      ⊎_elim
      (λ (t : eqb rule.count 1 ≡ true).
      writes_one g old rule later rule.below u (eqb-true rule.count 1 t)
      ∙ sets-scan (λ x. state_runs g old rule.below later [] (union u x)) rule.to rule.above old
      ∙ ap (λ (ss : List ℕ). flat_map (given ss) old) (sym (members-none g.states))
      ∙ ap (λ (one : Bool). flat_map (chosen one) old) (sym t))
      (λ (t : eqb rule.count 1 ≡ false).
      writes-two g old rule later u n (eqb-false rule.count 1 t)
      ∙ sets-scan (λ x. state_runs g old rule.below later (members g.states x) u) rule.to rule.above old
      ∙ ap (λ (one : Bool). flat_map (chosen one) old) (sym t))
      (test (eqb rule.count 1))
