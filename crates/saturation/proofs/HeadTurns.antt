-- The rules of a head taken one after another: the unions of one set of each.
use Prim.Native.Nat.{ℕ, ◌*◌, ◌/◌, ◌^◌, ◌<◌, ◌≤◌}
use native.Mathlib.Omega.{arith}
use mathlib.Core.Path.{◌≡◌, refl, sym, ap, subst, ◌∙◌}
use mathlib.Core.Logic.{⊎_elim}
use mathlib.Core.Bool.{true, false}
use mathlib.Core.List.Memᴰ
use mathlib.Core.List.{List, [], ◌∷◌, map}
use lib.ListN.{length, get_or}
use Rattle.game.specs.Sets.{union}
use Rattle.game.specs.SetLaws.{union-below}
use Rattle.game.specs.UnionLaws.{union_assoc, union-none}
use Rattle.game.specs.ListLaws.{◌∈◌, clash, map-in, in_map, flat_map-in, in-flat_map}
use Rattle.family.specs.Family.{holds, UnitesInto, Copied}
use Rattle.family.specs.Masks.{Raising}
use Rattle.rounds.specs.Rounds.{unions}
use Rattle.unions.specs.Expand.{expand, Elements}
use Rattle.unions.specs.ExpandLaws.{expand-union}
use Rattle.saturation.specs.RuleLinks.{Chain, ended, linked}
use Rattle.saturation.specs.HeadSteps.{EndsOf, AllOf}

-- the first of a chain, and the chain after it
unlink : {count r : ℕ} {nexts rest : List ℕ} → Chain count nexts r rest → r < count → (rs : List ℕ) × (rest ≡ r ∷ rs) × Chain count nexts (get_or nexts r 0) rs
unlink (ended h) l = absurd (omega arith)
unlink (linked {rs = rs} h c) l = (rs, refl, c)

pub no_more : {count r : ℕ} {nexts rest : List ℕ} → Chain count nexts r rest → count ≤ r → rest ≡ []
no_more (ended h) l = refl
no_more (linked h c) l = absurd (omega arith)

pub chain-below : {count : ℕ} {nexts : List ℕ} {r : ℕ} {rest : List ℕ} → Chain count nexts r rest → (s : ℕ) → s ∈ rest → s < count
chain-below (ended h) s m = absurd (Memᴰ.not-nil m)
chain-below {count} (linked {r = r} h c) s m = ⊎_elim (λ (e : s ≡ r). subst (λ (i : ℕ). i < count) (sym e) h) (λ i. chain-below c s i) (Memᴰ.cases_cons m)

-- unions of one set for each rule taken are in hand, and one of each of the rest is to be united with them
module _ (el : List ℕ) (states : ℕ) (ok : Elements el states) (n : ℕ) (room : (x : ℕ) → x < 2 ^ length el → x / 64 < n) (ends : List ℕ) (f : ℕ → List ℕ) (count : ℕ) (nexts chain : List ℕ) (families : EndsOf el n ends f chain) where
  pub record Uniting (r : ℕ) (words : List ℕ) : Type 0 where
    pub rest : List ℕ
    pub follows : Chain count nexts r rest
    pub part : (s : ℕ) → s ∈ rest → s ∈ chain
    pub from : (x : ℕ) → x / 64 < n → holds words 0 x ≡ true
        → (x < 2 ^ length el) × ((z : ℕ) → z ∈ unions (map f rest) → union (expand el x) z ∈ unions (map f chain))
    pub into : (z : ℕ) → z ∈ unions (map f chain)
        → (x w : ℕ) × (x < 2 ^ length el) × (holds words 0 x ≡ true) × w ∈ unions (map f rest) × (z ≡ union (expand el x) w)

  -- a union over a list of rules, from the first one's family and the others'
  first_of : (r : ℕ) (rs : List ℕ) (z : ℕ) → z ∈ unions (map f (r ∷ rs)) → (v w : ℕ) × v ∈ f r × w ∈ unions (map f rs) × (z ≡ union v w)
  unfolding unions
  first_of r rs z m =
      let q = flat_map-in (λ set. map (union set) (unions (map f rs))) (f r) m in
      let t = map-in (union q.0) (unions (map f rs)) q.2 in
      (q.0, t.0, q.1, t.1, t.2)

  of-first : (r : ℕ) (rs : List ℕ) (v w : ℕ) → v ∈ f r → w ∈ unions (map f rs) → union v w ∈ unions (map f (r ∷ rs))
  unfolding unions
  of-first r rs v w i j = in-flat_map (λ set. map (union set) (unions (map f rs))) i (in_map (union v) j)

  pub uniting-first : (first : ℕ) (old words : List ℕ) → first < count → Chain count nexts first chain → Copied old 0 n ends (first * n) words → Uniting (get_or nexts first 0) words
  uniting-first first old words l c copied =
      let u = unlink c l in
      let here : first ∈ chain = subst (λ (xs : List ℕ). first ∈ xs) (sym u.1) (Memᴰ.head refl) in
      record {
        rest = u.0;
        follows = u.2;
        part = λ s m. subst (λ (xs : List ℕ). s ∈ xs) (sym u.1) (Memᴰ.tail m);
        from =
            λ x lx h.
            let i = (families.is first here).from x lx (sym (copied.here x lx) ∙ h) in
            (i.0, λ z m. subst (λ (xs : List ℕ). union (expand el x) z ∈ unions (map f xs)) (sym u.1) (of-first first u.0 (expand el x) z i.1 m));
        into =
            λ z m.
            let q = first_of first u.0 z (subst (λ (xs : List ℕ). z ∈ unions (map f xs)) u.1 m) in
            let x = families.within first q.0 here q.2 in
            let h = (families.is first here).into x.0 x.1 (subst (λ (v : ℕ). v ∈ f first) x.2 q.2) in
            (x.0, q.1, x.1, copied.here x.0 (room x.0 x.1) ∙ h, q.3, q.4 ∙ ap (λ (v : ℕ). union v q.1) x.2);
      }

  pub uniting-on : (r : ℕ) (words none sum words' : List ℕ) → Uniting r words → r < count → ((x : ℕ) → holds none 0 x ≡ false)
      → UnitesInto n words 0 ends (r * n) none sum → Copied words 0 n sum 0 words' → Uniting (get_or nexts r 0) words'
  uniting-on r words none sum words' k l empty u copied =
      let n-x = unlink k.follows l in
      let rs = n-x.0 in
      let same : k.rest ≡ r ∷ rs = n-x.1 in
      let here : r ∈ chain = k.part r (subst (λ (xs : List ℕ). r ∈ xs) (sym same) (Memᴰ.head refl)) in
      record {
        rest = rs;
        follows = n-x.2;
        part = λ s m. k.part s (subst (λ (xs : List ℕ). s ∈ xs) (sym same) (Memᴰ.tail m));
        from =
            λ x lx h.
            ⊎_elim (λ o. clash o (empty x))
            (λ q.
            let a = k.from q.0 q.2 q.4 in
            let b = (families.is r here).from q.1 q.3 q.5 in
            let sum_is : expand el x ≡ union (expand el q.0) (expand el q.1) = ap (expand el) q.6 ∙ expand-union el states ok q.0 q.1 in (
              subst (λ (w : ℕ). w < 2 ^ length el) (sym q.6) (union-below (length el) q.0 q.1 a.0 b.0),
              λ z m.
                  subst (λ (w : ℕ). w ∈ unions (map f chain))
                  (sym (ap (λ (w : ℕ). union w z) sum_is ∙ union_assoc (expand el q.0) (expand el q.1) z))
                  (a.1 (union (expand el q.1) z)
                  (subst (λ (xs : List ℕ). union (expand el q.1) z ∈ unions (map f xs)) (sym same) (of-first r rs (expand el q.1) z b.1 m))),
            ))
            (u.from x (sym (copied.here x lx) ∙ h));
        into =
            λ z m.
            let q = k.into z m in
            let t = first_of r rs q.1 (subst (λ (xs : List ℕ). q.1 ∈ unions (map f xs)) same q.4) in
            let y = families.within r t.0 here t.2 in
            let h = (families.is r here).into y.0 y.1 (subst (λ (v : ℕ). v ∈ f r) y.2 t.2) in
            let small = union-below (length el) q.0 y.0 q.2 y.1 in
            let at = u.into q.0 y.0 (room q.0 q.2) (room y.0 y.1) (room (union q.0 y.0) small) q.3 h in (
              union q.0 y.0,
              t.1,
              small,
              copied.here (union q.0 y.0) (room (union q.0 y.0) small) ∙ at,
              t.3,
              q.5 ∙ ap (union (expand el q.0)) (t.4 ∙ ap (λ (v : ℕ). union v t.1) y.2)
                  ∙ sym (union_assoc (expand el q.0) (expand el y.0) t.1)
                  ∙ ap (λ (v : ℕ). union v t.1) (sym (expand-union el states ok q.0 y.0)),
            );
      }

  pub uniting-ends : (r : ℕ) (words : List ℕ) → Uniting r words → count ≤ r → AllOf el n f chain words
  unfolding unions
  uniting-ends r words k l =
      let none = no_more k.follows l in
      record {
        from =
            λ x lx h.
            let a = k.from x lx h in
            (a.0, subst (λ (w : ℕ). w ∈ unions (map f chain)) (union-none (expand el x)) (a.1 0 (subst (λ (xs : List ℕ). 0 ∈ unions (map f xs)) (sym none) (Memᴰ.head refl))));
        into =
            λ z m.
            let q = k.into z m in
            let zero : q.1 ≡ 0 = Memᴰ.eq_of_singleton (subst (λ (xs : List ℕ). q.1 ∈ unions (map f xs)) none q.4) in
            (q.0, q.2, q.3, q.5 ∙ ap (union (expand el q.0)) zero ∙ union-none (expand el q.0));
      }

-- the loop of it
pub record Unites (n : ℕ) (ends : List ℕ) (count : ℕ) (nexts raising : List ℕ) (first : ℕ) (sets₀ sets : List ℕ) (r : ℕ) : Type 0 where
  pub long : length sets ≡ length sets₀
  pub goes : Raising raising → (el : List ℕ) (states : ℕ) (f : ℕ → List ℕ) (chain : List ℕ) (ok : Elements el states) (room : (x : ℕ) → x < 2 ^ length el → x / 64 < n)
      → Chain count nexts first chain → (families : EndsOf el n ends f chain) → Uniting el states ok n room ends f count nexts chain families r sets
