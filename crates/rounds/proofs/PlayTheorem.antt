-- Play under advice over a sound table: what holds of the whole list of numbers.
use Rattle.std.specs.Prelude.{ℕ, ◌+◌, ◌<◌, ◌≤◌, ◌≡◌, ◌⊎◌}
use Rattle.std.proofs.Math.Nat.{le_refl}
use Rattle.std.proofs.Common.{arith, sym, ◌∙◌}
use Rattle.std.proofs.Math.Path.{refl, subst}
use Rattle.std.proofs.Math.Logic.{inl, inr, ⊎_elim}
use Rattle.std.proofs.Math.Bool.{cond}
use mathlib.Core.List.{List, [], ◌∷◌}
use Rattle.std.proofs.Math.Option.{some}
use Rattle.game.specs.Game.{PushdownGame}
use Rattle.game.specs.Win.{Position, Won}
use Rattle.table.specs.Table.{Entry}
use Rattle.game.specs.ListLaws.{clash}
use Rattle.judge.specs.Worth.{automaton, bound}
use Rattle.judge.proofs.Within.{exact, worth-within}
use Rattle.judge.proofs.Target.{bound-zero}
use Rattle.judge.specs.PositionLaws.{Formed}
use Rattle.judge.specs.Play.{Effect, rest, refuse, move, effect, Play, after_effect, one_number, play, refuses, heeded}
use Rattle.game.specs.GoodGame.{Good}
use Rattle.rounds.proofs.Sound.{Sound}
use Rattle.rounds.proofs.Falling.{within-won}
use Rattle.rounds.proofs.PlayLaws.{Met, rests, refused, moves, met}
use Rattle.rounds.specs.PlayTheorem.{Falls, Fair, EachFair}

-- what one number leaves of a state with bound b
record After (g : PushdownGame) (table : List Entry) (s : Play) (b n : ℕ) : Type 0 where
  bound' : ℕ
  formed : Formed g (one_number g table s n).position.state (one_number g table s n).position.stack
  is : bound g table (one_number g table s n).position.state (one_number g table s n).position.stack ≡ some bound'
  falls : bound' + (one_number g table s n).moves ≤ b + s.moves
  counts : (cond (refuses (effect g table s.position n)) 0 1 + bound' ≤ b) ⊎ (bound' ≡ 0)
  fair : Fair g table s.position n

-- what a list of numbers leaves of a state with bound b
pub record Played (g : PushdownGame) (table : List Entry) (s : Play) (b : ℕ) (ns : List ℕ) : Type 0 where
  pub each : EachFair g table s ns
  pub formed : Formed g (play g table s ns).position.state (play g table s ns).position.stack
  pub left : ℕ
  pub is : bound g table (play g table s ns).position.state (play g table s ns).position.stack ≡ some left
  pub falls : left + (play g table s ns).moves ≤ b + s.moves
  pub reached : (left ≡ 0) ⊎ (left + heeded g table s ns ≤ b)

effects-differ : {to : Position} → rest ≡ move to → ⊥
effects-differ e = let z : ◌≡◌ {A = ℕ} 0 1 = cc in omega arith

pub refusal-differs : {to : Position} → refuse ≡ move to → ⊥
refusal-differs e = let z : ◌≡◌ {A = ℕ} 0 1 = cc in omega arith

some_same : {m n : ℕ} → some m ≡ some n → m ≡ n
some_same e = cc

pub move_same : {a b : Position} → move a ≡ move b → a ≡ b
move_same e = cc

module _ (g : PushdownGame) (good : Good g) (table : List Entry) (sound : Sound g table) where
  -- a position with a bound is won
  pub bound-won : (p : ℕ) (stack : List ℕ) (b : ℕ) → p < g.control → bound g table p stack ≡ some b
      → Won g (record { state = p; stack = stack })
  unfolding Won
  bound-won p stack b l e =
      (b, within-won g good table sound b p stack (worth-within (automaton g table) stack p b (omega (arith, good.ranged.control)) (exact e)))

  one : (s : Play) (b n : ℕ) → Formed g s.position.state s.position.stack
      → bound g table s.position.state s.position.stack ≡ some b → After g table s b n
  unfolding one_number after_effect refuses
  one s b n f e = go (effect g table s.position n) refl (met g good table sound s.position.state s.position.stack b n f e)
    where
      go : (x : Effect) → effect g table s.position n ≡ x → Met g table s.position b x → After g table s b n
      go rest h (rests t) =
          record {
            bound' = b;
            formed = rw h f;
            is = rw h e;
            falls = rw h (le_refl (b + s.moves));
            counts =
                let zero-bound = (bound-zero g table sound.holds s.position (omega (arith, f.state, good.ranged.control))).1 t in
                inr (some_same (sym e ∙ zero-bound));
            fair = record { falls = λ to k. absurd (effects-differ (sym h ∙ k)); heard = λ o. rw h };
          }
      go refuse h (refused t o) =
          record {
            bound' = b;
            formed = rw h f;
            is = rw h e;
            falls = rw h (le_refl (b + s.moves));
            counts = inl (rw h (omega arith));
            fair = record { falls = λ to k. absurd (refusal-differs (sym h ∙ k)); heard = λ o'. clash o o' };
          }
      go (move to) h (moves t f' m l e') =
          record {
            bound' = m;
            formed = rw h f';
            is = rw h e';
            falls = rw h (omega arith);
            counts = inl (rw h (omega arith));
            fair =
                record {
                  falls =
                      λ to' k.
                      subst (Falls g table s.position) (move_same (sym h ∙ k))
                      (record {
                        won = bound-won to.state to.stack m f'.state e';
                        before = b;
                        had = e;
                        after = m;
                        has = e';
                        less = l;
                      });
                  heard = λ o. rw h;
                };
          }

  -- The whole list.
  pub played : (ns : List ℕ) (s : Play) (b : ℕ) → Formed g s.position.state s.position.stack
      → bound g table s.position.state s.position.stack ≡ some b → Played g table s b ns
  unfolding play heeded EachFair
  played [] s b f e =
      record { each = tt; formed = f; left = b; is = e; falls = le_refl (b + s.moves); reached = inr (omega arith) }
  played (n ∷ ns) s b f e =
      let o = one s b n f e in
      let p = played ns (one_number g table s n) o.bound' o.formed o.is in
      record {
        each = (o.fair, p.each);
        formed = p.formed;
        left = p.left;
        is = p.is;
        falls = omega (arith, o.falls, p.falls);
        reached =
            ⊎_elim inl
            (λ (l : p.left + heeded g table (one_number g table s n) ns ≤ o.bound').
            ⊎_elim (λ (c : cond (refuses (effect g table s.position n)) 0 1 + o.bound' ≤ b). inr (omega arith))
            (λ (z : o.bound' ≡ 0). inl (omega arith))
            o.counts)
            p.reached;
      }
