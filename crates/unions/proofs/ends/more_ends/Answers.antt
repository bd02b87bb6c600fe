use Prim.Native.Nat.{◌+◌, ◌*◌}
use native.Mathlib.Omega.{arith}
use mathlib.Core.Path.{refl}
use Rattle.unions.proofs.Making.{within-area}
use Rattle.unions.proofs.Writes.{ends-none, ends-one, ends-two, sets-row, still-small}
use Rattle.unions.specs.PlaceLaws.{place-small}
use Rattle.unions.proofs.ends.more_ends.Goals as goal

pub put_at-requires : goal.put_at-requires
put_at-requires c = (let small = c.requires.7.small _ c.requires.8 in omega (arith, small, c.requires.3))

pub returns-then-written-eq0 : goal.returns-then-written-eq0
returns-then-written-eq0 c =
    record {
      by_index = (λ el g old es i ra lt lq few growth listed none pool. (pool, ends-none _ _ _ _ _ _ _ _ _ _ _ _ _ _ _ _ pool growth _ _ _ lq _ _ _ _ c.if-written-eq0.true (listed c.if-written-eq0.true) refl none c.put_at.ensures.put));
      upper_bound = c.requires.2;
    }

pub overflow_mul-head-then-written-eq1 : goal.overflow_mul-head-then-written-eq1
overflow_mul-head-then-written-eq1 c = (let few = c.requires.0.few in omega (arith, place-small (c.args.q * c.args.frame.now.letters + c.args.b) _ (omega (arith, few, c.requires.4, c.requires.6)) c.requires.0.words))

pub copy_at-requires : goal.copy_at-requires
copy_at-requires c = (omega (arith, c.requires.3, c.requires.0.words), omega (arith, within-area _ _ _ _ _ _ _ _ c.requires.0 (c.args.q * c.args.frame.now.letters + c.args.b) 0 (omega (arith, c.requires.4, c.requires.6)) (omega arith), c.requires.5))

pub returns-then-written-eq1 : goal.returns-then-written-eq1
returns-then-written-eq1 c =
    record {
      by_index = (λ el g old es i ra lt lq few growth listed none pool. (pool, ends-one _ _ _ _ _ _ _ _ _ _ _ _ _ _ _ _ pool growth _ _ _ lq _ _ _ _ _ c.if-written-eq1.true lt (omega (arith, lt, c.requires.6)) refl c.copy_at.ensures.copied));
      upper_bound = c.requires.2;
    }

pub add_runs-requires : goal.add_runs-requires
add_runs-requires c = (c.requires.0, c.requires.1, c.requires.2, omega (arith, c.requires.3, c.requires.0.words), omega (arith, c.requires.4, c.requires.6), c.requires.5, still-small _, c.requires.7.few _ (omega (arith, c.requires.1, c.args.frame.now.few)))

pub returns : goal.returns
returns c =
    record {
      by_index = (λ el g old es i ra lt lq few growth listed none pool. (let r = c.add_runs.ensures.by_index el g es ra lt (sets-row _ _ _ _ _ _ _ _ _ _ _ _ _ _ _ _ pool growth _ _ c.args.c lq _ _ lt (omega (arith, lt, c.requires.6)) refl) pool in (r.0, ends-two _ _ _ _ _ _ _ _ _ _ _ _ _ _ _ _ pool growth _ _ _ lq _ _ _ _ _ c.if-written-eq0.false c.if-written-eq1.false few lt (omega (arith, lt, c.requires.6)) (omega (arith, lt, c.requires.1)) refl none r.1)));
      upper_bound = c.add_runs.ensures.upper_bound;
    }
