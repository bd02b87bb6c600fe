-- The unions of two families, and what they have more where both grew.
use Rattle.std.specs.Prelude.{ℕ, ◌/◌, ◌^◌, ◌<◌, ◌≡◌, ◌⊎◌, true, false, not, List, length}
use Rattle.std.proofs.Common.{sym, ap, subst, ◌∙◌, inl, inr, ⊎_elim}
use Rattle.std.proofs.lemmas.Nat.{or_comm}
use Rattle.game.specs.Sets.{union}
use Rattle.game.specs.SetLaws.{union-below}
use Rattle.game.specs.ListLaws.{test, clash, both, either, conj, left_or, right_or}
use Rattle.family.specs.Family.{holds, UnitesInto, TakenIn}
use Rattle.unions.specs.Expand.{expand, Elements, Within}
use Rattle.unions.specs.ExpandLaws.{expand-union, expand-same}
use Rattle.unions.specs.UnionSteps.{Join}
use Rattle.unions.specs.Pool.{Is, Grew}

-- the sets of a family described in another way
pub is-as : {el : List ℕ} {n : ℕ} {words : List ℕ} {at : ℕ} {P Q : ℕ → Type 0} → Is el n words at P → ((z : ℕ) → P z → Q z) → ((z : ℕ) → Q z → P z)
    → Is el n words at Q
is-as {el} i there back =
    record {
      from = λ x l h. let r = i.from x l h in (r.0, there (expand el x) r.1);
      into = λ x l q. i.into x l (back (expand el x) q);
    }

pub grew-as : {el : List ℕ} {n : ℕ} {words : List ℕ} {at : ℕ} {P Q P' Q' : ℕ → Type 0} → Grew el n words at P Q → ((z : ℕ) → P z → P' z)
    → ((z : ℕ) → P' z → P z) → ((z : ℕ) → Q z → Q' z) → Grew el n words at P' Q'
grew-as {el} i there back old =
    record {
      from = λ x l h. let r = i.from x l h in (r.0, there (expand el x) r.1);
      into = λ x l q. ⊎_elim (λ k. inl (old (expand el x) k)) inr (i.into x l (back (expand el x) q));
    }

-- a family at a place that was left alone
pub is-kept : {el : List ℕ} {n : ℕ} {words words' : List ℕ} {at : ℕ} {P : ℕ → Type 0} → ((x : ℕ) → x < 2 ^ length el → x / 64 < n) → Is el n words at P
    → ((x : ℕ) → x / 64 < n → holds words' at x ≡ holds words at x) → Is el n words' at P
is-kept room i same =
    record {
      from = λ x l h. i.from x l (sym (same x l) ∙ h);
      into = λ x l p. same x (room x l) ∙ i.into x l p;
    }

pub grew-kept : {el : List ℕ} {n : ℕ} {words words' : List ℕ} {at : ℕ} {P Q : ℕ → Type 0} → ((x : ℕ) → x < 2 ^ length el → x / 64 < n) → Grew el n words at P Q
    → ((x : ℕ) → x / 64 < n → holds words' at x ≡ holds words at x) → Grew el n words' at P Q
grew-kept room i same =
    record {
      from = λ x l h. i.from x l (sym (same x l) ∙ h);
      into = λ x l p. ⊎_elim inl (λ k. inr (same x (room x l) ∙ k)) (i.into x l p);
    }

module _ (el : List ℕ) (states : ℕ) (ok : Elements el states) (n : ℕ) (room : (x : ℕ) → x < 2 ^ length el → x / 64 < n) where
  abbrev E : ℕ
  E = 2 ^ length el

  -- a union that is a set of elements is the union of sets of elements
  module _ (A B : ℕ → Type 0) (wa : (u : ℕ) → A u → Within el u) (wb : (v : ℕ) → B v → Within el v) where
    pub join-parts : (x : ℕ) → x < E → Join A B (expand el x)
        → (y z : ℕ) × (y < E) × (z < E) × A (expand el y) × B (expand el z) × (x ≡ union y z)
    join-parts x l j =
        let u = wa j.0 j.2 in
        let v = wb j.1 j.3 in
        let e : expand el x ≡ expand el (union u.0 v.0) =
        j.4 ∙ ap (λ (w : ℕ). union w j.1) u.2 ∙ ap (union (expand el u.0)) v.2 ∙ sym (expand-union el states ok u.0 v.0) in
        (u.0, v.0, u.1, v.1, subst A u.2 j.2, subst B v.2 j.3, expand-same el states ok x (union u.0 v.0) l (union-below (length el) u.0 v.0 u.1 v.1) e)

    pub parts_join : (x y z : ℕ) → (y < E) × A (expand el y) → (z < E) × B (expand el z) → x ≡ union y z → (x < E) × Join A B (expand el x)
    parts_join x y z a b e = (
      subst (λ (w : ℕ). w < E) (sym e) (union-below (length el) y z a.0 b.0),
      (expand el y, expand el z, a.1, b.1, ap (expand el) e ∙ expand-union el states ok y z),
    )

    -- the unions of all sets of two families
    pub join_is : (a b old out : List ℕ) (at bt : ℕ) → Is el n a at A → Is el n b bt B → ((x : ℕ) → holds old 0 x ≡ false) → UnitesInto n a at b bt old out
        → Is el n out 0 (Join A B)
    join_is a b old out at bt ia ib none u =
        record {
          from =
              λ x l h.
              ⊎_elim (λ k. clash k (none x))
              (λ q. parts_join x q.0 q.1 (ia.from q.0 q.2 q.4) (ib.from q.1 q.3 q.5) q.6)
              (u.from x h);
          into =
              λ x l j.
              let q = join-parts x l j in
              subst (λ (w : ℕ). holds out 0 w ≡ true) (sym q.6)
              (u.into q.0 q.1 (room q.0 q.2) (room q.1 q.3) (subst (λ (w : ℕ). w / 64 < n) q.6 (room x l)) (ia.into q.0 q.2 q.4) (ib.into q.1 q.3 q.5));
        }

    -- what they have more: a union of something new with anything
    module _ (A₀ B₀ C₀ : ℕ → Type 0) (less : (w : ℕ) → C₀ w → Join A B w) (olds : (w : ℕ) → Join A₀ B₀ w → C₀ w) where
      module _ (all new none d₁ d₂ all' new' : List ℕ) (at bt to : ℕ) (ia : Is el n all at A) (ga : Grew el n new at A A₀) (ib : Is el n all bt B) (gb : Grew el n new bt B B₀) (empty : (x : ℕ) → holds none 0 x ≡ false) (u₁ : UnitesInto n all at new bt none d₁) (u₂ : UnitesInto n all bt new at d₁ d₂) where
        delta-from : (x : ℕ) → holds d₂ 0 x ≡ true → (x < E) × Join A B (expand el x)
        delta-from x h =
            ⊎_elim
            (λ k.
            ⊎_elim (λ m. clash m (empty x))
            (λ q. parts_join x q.0 q.1 (ia.from q.0 q.2 q.4) (gb.from q.1 q.3 q.5) q.6)
            (u₁.from x k))
            (λ q. parts_join x q.1 q.0 (ga.from q.1 q.3 q.5) (ib.from q.0 q.2 q.4) (q.6 ∙ or_comm q.0 q.1))
            (u₂.from x h)

        delta-into : (x : ℕ) → x < E → Join A B (expand el x) → C₀ (expand el x) ⊎ (holds d₂ 0 x ≡ true)
        delta-into x l j =
            let q = join-parts x l j in
            let y = q.0 in
            let z = q.1 in
            let e = q.6 in
            ⊎_elim
            (λ b.
            ⊎_elim
            (λ a. inl (olds (expand el x) (expand el y, expand el z, a, b, ap (expand el) e ∙ expand-union el states ok y z)))
            (λ k.
            inr (subst (λ (w : ℕ). holds d₂ 0 w ≡ true) (sym (e ∙ or_comm y z)) (u₂.into z y (room z q.3) (room y q.2) (subst (λ (w : ℕ). w / 64 < n) (e ∙ or_comm y z) (room x l)) (ib.into z q.3 q.5) k)))
            (ga.into y q.2 q.4))
            (λ k.
            inr (subst (λ (w : ℕ). holds d₂ 0 w ≡ true) (sym e) (u₂.kept (union y z) (u₁.into y z (room y q.2) (room z q.3) (subst (λ (w : ℕ). w / 64 < n) e (room x l)) (ia.into y q.2 q.4) k))))
            (gb.into z q.3 q.5)

        pub delta-is : Is el n all to C₀ → TakenIn n d₂ to all all' new new' → Is el n all' to (Join A B) × Grew el n new' to (Join A B) C₀
        delta-is ic t = (
          record {
            from =
                λ x l h.
                ⊎_elim (λ k. let r = ic.from x l k in (r.0, less (expand el x) r.1)) (λ k. delta-from x k)
                (either (holds all to x) (holds d₂ 0 x) (sym (t.here x l) ∙ h));
            into =
                λ x l j.
                t.here x (room x l)
                ∙ ⊎_elim (λ k. left_or (holds d₂ 0 x) (ic.into x l k)) (λ k. right_or (holds all to x) k) (delta-into x l j);
          },
          record {
            from = λ x l h. delta-from x (both (holds d₂ 0 x) (not (holds all to x)) (sym (t.fresh x l) ∙ h)).0;
            into =
                λ x l j.
                ⊎_elim inl
                (λ k.
                ⊎_elim (λ m. inl (ic.from x (room x l) m).1) (λ m. inr (t.fresh x (room x l) ∙ conj k (ap not m)))
                (test (holds all to x)))
                (delta-into x l j);
          },
        )
