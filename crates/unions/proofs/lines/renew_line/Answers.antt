use Prim.Native.Nat.{◌+◌}
use native.Mathlib.Omega.{arith}
use native.Mathlib.Nat.{le_refl, mod-lt}
use mathlib.Core.Path.{refl}
use lib.ListN.{get_or}
use Rattle.unions.proofs.Renewing.{and-some, letter-fails, rest-fails, renewed-none, renewed, old-area, new-area, head-inside}
use Rattle.unions.specs.PlaceLaws.{place-small}
use Rattle.unions.proofs.lines.renew_line.Goals as goal

pub overflow_mul-to : goal.overflow_mul-to
overflow_mul-to c = (let few = c.requires.0.few in let most = c.requires.0.most in omega (arith, place-small (c.args.frame.now.heads + c.args.k) _ (omega (arith, few, most, c.requires.1)) c.requires.0.words))

pub returns-then-frame-c : goal.returns-then-frame-c
returns-then-frame-c c =
    record {
      by_index = (λ el g old es count ra lt lk r p. absurd (letter-fails _ _ _ _ _ _ _ _ _ _ _ _ _ lk lt r _ refl c.if-frame-c.true));
    }

pub returns-then-frame-k : goal.returns-then-frame-k
returns-then-frame-k c =
    record {
      by_index = (λ el g old es count ra lt lk r p. absurd (rest-fails _ _ _ _ _ _ _ _ _ _ _ _ _ lk lt r _ refl _ refl c.if-frame-k.true));
    }

pub clear_at-requires : goal.clear_at-requires
clear_at-requires c = new-area _ _ _ _ _ _ _ _ _ c.requires.0 (c.args.frame.now.heads + c.args.k) (c.args.k + 1) (omega arith) (omega (arith, c.requires.1))

pub returns-then-x-fresh-eq0 : goal.returns-then-x-fresh-eq0
returns-then-x-fresh-eq0 c =
    record {
      by_index = (λ el g old es count ra lt lk r p. renewed-none _ _ _ _ _ _ _ _ _ _ _ _ _ lk lt r _ refl _ _ p _ c.if-x-fresh-eq0.true c.clear_at.ensures.cleared);
    }

pub lowest-requires : goal.lowest-requires
lowest-requires c = (and-some _ _ c.if-x-fresh-eq0.false, mod-lt _ (omega arith))

pub overflow_mul-rest : goal.overflow_mul-rest
overflow_mul-rest c = (let few = c.requires.0.few in let most = c.requires.0.most in omega (arith, place-small (get_or c.args.rests.now c.args.k 0) _ (omega (arith, few, most, c.requires.1, c.if-frame-k.false)) c.requires.0.words))

pub overflow_mul-head : goal.overflow_mul-head
overflow_mul-head c = (let few = c.requires.0.few in omega (arith, place-small c.head_of-head.result _ (omega (arith, few, head-inside _ _ _ _ _ _ _ _ _ c.requires.0 _ _ _ c.lowest.ensures.small (omega (arith, c.if-frame-c.false)) c.head_of-head.ensures)) c.requires.0.words))

pub unite_into-requires : goal.unite_into-requires
unite_into-requires c = (le_refl 16, old-area _ _ _ _ _ _ _ _ _ c.requires.0 _ c.args.k (omega (arith, c.if-frame-k.false)) (omega (arith, c.requires.1)), new-area _ _ _ _ _ _ _ _ _ c.requires.0 _ 0 (omega (arith, head-inside _ _ _ _ _ _ _ _ _ c.requires.0 _ _ _ c.lowest.ensures.small (omega (arith, c.if-frame-c.false)) c.head_of-head.ensures)) (omega arith), c.args.frame.now.masks, c.requires.0.words)

pub overflow_mul-head-2 : goal.overflow_mul-head-2
overflow_mul-head-2 c = (let few = c.requires.0.few in omega (arith, place-small c.head_of-head.result _ (omega (arith, few, head-inside _ _ _ _ _ _ _ _ _ c.requires.0 _ _ _ c.lowest.ensures.small (omega (arith, c.if-frame-c.false)) c.head_of-head.ensures)) c.requires.0.words))

pub overflow_mul-rest-2 : goal.overflow_mul-rest-2
overflow_mul-rest-2 c = (let few = c.requires.0.few in let most = c.requires.0.most in omega (arith, place-small (get_or c.args.rests.now c.args.k 0) _ (omega (arith, few, most, c.requires.1, c.if-frame-k.false)) c.requires.0.words))

pub unite_into-requires-2 : goal.unite_into-requires-2
unite_into-requires-2 c = (omega (arith, c.unite_into.auto.out), old-area _ _ _ _ _ _ _ _ _ c.requires.0 _ 0 (omega (arith, head-inside _ _ _ _ _ _ _ _ _ c.requires.0 _ _ _ c.lowest.ensures.small (omega (arith, c.if-frame-c.false)) c.head_of-head.ensures)) (omega arith), new-area _ _ _ _ _ _ _ _ _ c.requires.0 _ c.args.k (omega (arith, c.if-frame-k.false)) (omega (arith, c.requires.1)), c.args.frame.now.masks, c.requires.0.words)

pub take_in-requires : goal.take_in-requires
take_in-requires c = (old-area _ _ _ _ _ _ _ _ _ c.requires.0 (c.args.frame.now.heads + c.args.k) (c.args.k + 1) (omega arith) (omega (arith, c.requires.1)), new-area _ _ _ _ _ _ _ _ _ c.requires.0 (c.args.frame.now.heads + c.args.k) (c.args.k + 1) (omega arith) (omega (arith, c.requires.1)), omega (arith, c.unite_into.auto.out, c.unite_into-2.auto.out, c.requires.0.words))

pub returns : goal.returns
returns c =
    record {
      by_index = (λ el g old es count ra lt lk r p. renewed _ _ _ _ _ _ _ _ _ _ _ _ _ lk lt r _ refl _ _ p _ _ _ _ _ _ _ c.lowest.ensures c.head_of-head.ensures refl (c.unite_into.ensures.unites_into ra) (c.unite_into-2.ensures.unites_into ra) c.take_in.ensures.taken_in);
    }
