use native.Mathlib.Omega.{arith}
use native.Mathlib.Nat.{le_refl}
use mathlib.Core.Path.{refl}
use Prim.Native.Nat.{◌+◌}
use Rattle.unions.specs.Pool.{of-line}
use Rattle.unions.specs.PlaceLaws.{place-small}
use Rattle.unions.proofs.Making.{within-area, head-within, made}
use Rattle.unions.proofs.lines.line_for.Goals as goal

pub overflow_add-result : goal.overflow_add-result
overflow_add-result c = omega (arith, c.requires.0.few, c.requires.0.most, c.requires.4, (c.is_line.ensures c.if-is_line.true).0)

pub returns-then-is_line : goal.returns-then-is_line
returns-then-is_line c =
    record {
      finding = λ el g es z ra lt lc ls ly lz added pool named. (pool, of-line _ (c.is_line.ensures c.if-is_line.true).0 refl (c.is_line.ensures c.if-is_line.true).1);
      family_bound = (omega (arith, (c.is_line.ensures c.if-is_line.true).0), omega arith);
    }

pub overflow_mul-family : goal.overflow_mul-family
overflow_mul-family c = (let few = c.requires.0.few in let most = c.requires.0.most in omega (arith, place-small c.args.before.family _ (omega (arith, few, most, c.requires, c.args.frame.now.few)) c.requires.0.words))

pub overflow_mul-head_of : goal.overflow_mul-head_of
overflow_mul-head_of c = (let few = c.requires.0.few in omega (arith, place-small c.head_of.result _ (omega (arith, few, head-within _ _ _ _ _ _ _ _ c.requires.0 _ _ _ c.requires.2 c.requires.3 c.head_of.ensures)) c.requires.0.words))

pub unite_pair-requires : goal.unite_pair-requires
unite_pair-requires c = (le_refl 16, within-area _ _ _ _ _ _ _ _ c.requires.0 _ _ c.requires.5 (omega (arith, c.requires.4)), within-area _ _ _ _ _ _ _ _ c.requires.0 _ 0 (omega (arith, head-within _ _ _ _ _ _ _ _ c.requires.0 _ _ _ c.requires.2 c.requires.3 c.head_of.ensures)) (omega arith), c.args.frame.now.masks, c.requires.0.words, (let few = c.requires.0.few in let most = c.requires.0.most in omega (arith, place-small c.args.before.family _ (omega (arith, few, most, c.requires, c.args.frame.now.few)) c.requires.0.words)), (let few = c.requires.0.few in omega (arith, place-small c.head_of.result _ (omega (arith, few, head-within _ _ _ _ _ _ _ _ c.requires.0 _ _ _ c.requires.2 c.requires.3 c.head_of.ensures)) c.requires.0.words)))

pub overflow_mul-frame : goal.overflow_mul-frame
overflow_mul-frame c = (let few = c.requires.0.few in let most = c.requires.0.most in omega (arith, place-small (c.args.frame.now.heads + c.args.before.count) _ (omega (arith, few, most, c.requires.4)) c.requires.0.words))

pub copy_at-requires : goal.copy_at-requires
copy_at-requires c = (within-area _ _ _ _ _ _ _ _ c.requires.0 (c.args.frame.now.heads + c.args.before.count) (c.args.before.count + 1) (omega arith) (omega (arith, c.requires.4)), omega (arith, c.unite_pair.auto.unions, c.requires.0.words))

pub offset_bounds-keys-count : goal.offset_bounds-keys-count
offset_bounds-keys-count c = (let most = c.requires.0.most in omega (arith, most, c.requires.4))

pub overflow_cast-rests : goal.overflow_cast-rests
overflow_cast-rests c = (let few = c.requires.0.few in let most = c.requires.0.most in omega (arith, few, most, c.requires, c.args.frame.now.few))

pub offset_bounds-rests-count : goal.offset_bounds-rests-count
offset_bounds-rests-count c = (let most = c.requires.0.most in omega (arith, most, c.requires.4))

pub bounds-rests-count : goal.bounds-rests-count
bounds-rests-count c = (omega (arith, c.requires.0.same, c.requires.4))

pub place_of-place-requires : goal.place_of-place-requires
place_of-place-requires c = (c.requires.0.hinted, c.requires.0.words, c.requires.1, omega (arith, c.requires, c.args.frame.now.few))

pub overflow_cast-hints : goal.overflow_cast-hints
overflow_cast-hints c = (let most = c.requires.0.most in omega (arith, most, c.requires.4))

pub offset_bounds-hints-place : goal.offset_bounds-hints-place
offset_bounds-hints-place c = (let h = c.requires.0.hints in omega (arith, h, c.place_of-place.ensures))

pub overflow_add-result-2 : goal.overflow_add-result-2
overflow_add-result-2 c = (let few = c.requires.0.few in let most = c.requires.0.most in omega (arith, few, most, c.requires.4))

pub overflow_add-result-3 : goal.overflow_add-result-3
overflow_add-result-3 c = (let most = c.requires.0.most in omega (arith, most, c.requires.4))

pub returns : goal.returns
returns c =
    record {
      finding = made _ _ _ _ _ _ _ _ _ _ _ _ _ c.key_of.result c.head_of.result _ _ c.requires.4 c.requires.0.same c.key_of.ensures c.head_of.ensures c.unite_pair.ensures.unites_into c.copy_at.ensures.copied;
      family_bound = (omega arith, le_refl _);
    }
