use native.Mathlib.Omega.{arith}
use mathlib.Core.Path.{refl, ◌∙◌}
use Rattle.unions.specs.PoolLaws.{next_row}
use Rattle.unions.specs.PlaceLaws.{place-small, no-sets}
use Rattle.saturation.proofs.HeadTurns.{uniting-first, uniting-on, uniting-ends}
use Rattle.saturation.proofs.heads.unite_rules.Goals as goal

pub overflow_mul-first : goal.overflow_mul-first
overflow_mul-first c = omega (arith, place-small c.args.first c.args.rules.now.frame.n (omega (arith, c.requires.1, c.args.rules.now.some)) c.args.rules.now.frame.words)

pub copy_at-requires : goal.copy_at-requires
copy_at-requires c = (omega (arith, c.args.rules.now.frame.words, c.requires.2), omega (arith, next_row c.args.first c.args.rules.now.sizes.rulecount c.args.rules.now.frame.n c.requires.1, c.requires.0))

pub offset_bounds-nexts-first : goal.offset_bounds-nexts-first
offset_bounds-nexts-first c = omega (arith, c.requires.1, c.args.rules.now.some)

pub bounds-nexts-first : goal.bounds-nexts-first
bounds-nexts-first c = omega (arith, c.requires.1, c.args.rules.now.some, c.args.rules.now.chained)

pub loop-r-init : goal.loop-r-init
loop-r-init c = record { long = refl; goes = λ ra el states f chain ok room follows families. uniting-first el states ok _ room _ f _ _ chain families _ _ _ c.requires.1 follows c.copy_at.ensures.copied }

pub overflow_mul-r : goal.overflow_mul-r
overflow_mul-r c = omega (arith, place-small c.loop-r.r c.args.rules.now.frame.n (omega (arith, c.loop-r-test.true, c.args.rules.now.some)) c.args.rules.now.frame.words)

pub unite_into-requires : goal.unite_into-requires
unite_into-requires c = (omega arith, omega (arith, c.loop-r.invariant.long, c.copy_at.auto.words, c.args.rules.now.frame.words, c.requires.2), omega (arith, next_row c.loop-r.r c.args.rules.now.sizes.rulecount c.args.rules.now.frame.n c.loop-r-test.true, c.requires.0), c.args.rules.now.frame.masks, c.args.rules.now.frame.words)

pub copy_at-requires-in-loop-r : goal.copy_at-requires-in-loop-r
copy_at-requires-in-loop-r c = (omega (arith, c.loop-r.invariant.long, c.copy_at.auto.words, c.args.rules.now.frame.words, c.requires.2), omega (arith, c.unite_into.auto.out, c.args.rules.now.frame.words))

pub offset_bounds-nexts-r : goal.offset_bounds-nexts-r
offset_bounds-nexts-r c = omega (arith, c.loop-r-test.true, c.args.rules.now.some)

pub bounds-nexts-r : goal.bounds-nexts-r
bounds-nexts-r c = omega (arith, c.loop-r-test.true, c.args.rules.now.some, c.args.rules.now.chained)

pub loop-r-smaller : goal.loop-r-smaller
loop-r-smaller c = omega (arith, c.loop-r-test.true, c.args.rules.now.climbs c.loop-r.r c.loop-r-test.true)

pub loop-r-preserved : goal.loop-r-preserved
loop-r-preserved c = record { long = c.copy_at-in-loop-r.auto.words ∙ c.loop-r.invariant.long; goes = λ ra el states f chain ok room follows families. uniting-on el states ok _ room _ f _ _ chain families _ _ _ _ _ (c.loop-r.invariant.goes ra el states f chain ok room follows families) c.loop-r-test.true (no-sets 16 0) (c.unite_into.ensures.unites_into ra) c.copy_at-in-loop-r.ensures.copied }

pub shape_of-sets : goal.shape_of-sets
shape_of-sets c = c.loop-r.invariant.long ∙ c.copy_at.auto.words

pub returns : goal.returns
returns c =
    record {
      all_of = (λ ra el states f chain ok room follows families. uniting-ends el states ok _ room _ f _ _ chain families _ _ (c.loop-r.invariant.goes ra el states f chain ok room follows families) c.loop-r-test.false);
    }
