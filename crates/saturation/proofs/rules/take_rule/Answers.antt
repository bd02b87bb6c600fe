use Prim.Native.Nat.{◌+◌, ◌*◌}
use native.Mathlib.Omega.{arith}
use native.Mathlib.Nat.{le_refl}
use mathlib.Core.Path.{refl, sym, ◌∙◌}
use lib.ListN.{length}
use Rattle.unions.specs.PoolLaws.{next_row}
use Rattle.saturation.specs.RuleLaws.{rule_of}
use Rattle.unions.specs.PlaceLaws.{place-small, no-sets}
use Rattle.saturation.proofs.RuleTurns.{row_low, head-low, head-in-all, head-in-added, direct, there, sound, bytes, abelards-keeps, eloises-gives}
use Rattle.saturation.specs.Kept.{areas-held}
use Rattle.saturation.proofs.rules.take_rule.Goals as goal

pub bounds-bytes-at : goal.bounds-bytes-at
bounds-bytes-at c = omega (arith, (c.args.rules.now.ruled c.args.r c.requires.6).there)

pub bounds-bytes-at-2 : goal.bounds-bytes-at-2
bounds-bytes-at-2 c = omega (arith, (c.args.rules.now.ruled c.args.r c.requires.6).there)

pub bounds-bytes-at-3 : goal.bounds-bytes-at-3
bounds-bytes-at-3 c = omega (arith, (c.args.rules.now.ruled c.args.r c.requires.6).there)

pub bounds-bytes-at-4 : goal.bounds-bytes-at-4
bounds-bytes-at-4 c = omega (arith, (c.args.rules.now.ruled c.args.r c.requires.6).there)

pub bounds-bytes-at-5 : goal.bounds-bytes-at-5
bounds-bytes-at-5 c = omega (arith, (c.args.rules.now.ruled c.args.r c.requires.6).there)

pub bounds-bytes-at-6 : goal.bounds-bytes-at-6
bounds-bytes-at-6 c = omega (arith, (c.args.rules.now.ruled c.args.r c.requires.6).there)

pub bounds-bytes-at-7 : goal.bounds-bytes-at-7
bounds-bytes-at-7 c = omega (arith, (c.args.rules.now.ruled c.args.r c.requires.6).there)

pub overflow_mul-head-then-is_direct : goal.overflow_mul-head-then-is_direct
overflow_mul-head-then-is_direct c = omega (arith, place-small (c.from.result * c.args.rules.now.frame.letters + c.from-then-is_direct.result) c.args.rules.now.frame.n (omega (arith, row_low c.args.rules.now.frame.letters c.from.ensures (c.args.rules.now.ruled c.args.r c.requires.6).row, c.from-then-is_direct.ensures, (c.args.rules.now.ruled c.args.r c.requires.6).above, c.args.rules.now.frame.most)) c.args.rules.now.frame.words)

pub give-requires : goal.give-requires
give-requires c = let a = areas-held c.args.rules.now c.args.marks.now c.requires.0 c.args.size c.args.log.now c.requires.1 c.requires.2 in (c.requires.1, c.requires.3, c.requires.2, c.args.rules.now.frame.words, head-in-all a (c.from.result * c.args.rules.now.frame.letters + c.from-then-is_direct.result) (length c.args.more.now) (omega (arith, row_low c.args.rules.now.frame.letters c.from.ensures (c.args.rules.now.ruled c.args.r c.requires.6).row, c.from-then-is_direct.ensures, (c.args.rules.now.ruled c.args.r c.requires.6).above)) a.alike, place-small (c.from.result * c.args.rules.now.frame.letters + c.from-then-is_direct.result) c.args.rules.now.frame.n (omega (arith, row_low c.args.rules.now.frame.letters c.from.ensures (c.args.rules.now.ruled c.args.r c.requires.6).row, c.from-then-is_direct.ensures, (c.args.rules.now.ruled c.args.r c.requires.6).above, c.args.rules.now.frame.most)) c.args.rules.now.frame.words, omega (arith, head-low c.args.rules.now.frame.letters c.from-p.ensures c.from-a.ensures (c.args.rules.now.headed c.args.r c.requires.6), c.args.rules.now.frame.most), head-in-all a (c.from-p.result * c.args.rules.now.frame.letters + c.from-a.result) (length c.args.all.now) (head-low c.args.rules.now.frame.letters c.from-p.ensures c.from-a.ensures (c.args.rules.now.headed c.args.r c.requires.6)) refl, head-in-added a (c.from-p.result * c.args.rules.now.frame.letters + c.from-a.result) (head-low c.args.rules.now.frame.letters c.from-p.ensures c.from-a.ensures (c.args.rules.now.headed c.args.r c.requires.6)), omega (arith, c.from-p.ensures, (c.args.rules.now.owned c.args.r c.requires.6).0, c.args.kept.now.gaining), omega (arith, c.from-a.ensures, (c.args.rules.now.owned c.args.r c.requires.6).1))

pub more_of_rule-lines-requires : goal.more_of_rule-lines-requires
more_of_rule-lines-requires c = let a = areas-held c.args.rules.now c.args.marks.now c.requires.0 c.args.size c.args.log.now c.requires.1 c.requires.2 in (a.fits, c.requires.4, a.alike, a.masked, c.args.rules.now.ruled c.args.r c.requires.6, omega (arith, c.requires.6, c.args.rules.now.some), le_refl 16)

pub keep_more-requires : goal.keep_more-requires
keep_more-requires c = let a = areas-held c.args.rules.now c.args.marks.now c.requires.0 c.args.size c.args.log.now c.requires.1 c.requires.2 in (omega (arith, next_row c.args.r c.args.rules.now.sizes.rulecount c.args.rules.now.frame.n c.requires.6, a.ended), omega (arith, c.args.rules.now.frame.words, c.more_of_rule-lines.auto.more), omega (arith, c.from-p.ensures, (c.args.rules.now.owned c.args.r c.requires.6).0, c.args.kept.now.stirring), omega (arith, c.from-a.ensures, (c.args.rules.now.owned c.args.r c.requires.6).1))

pub give-requires-2 : goal.give-requires-2
give-requires-2 c = let a = areas-held c.args.rules.now c.args.marks.now c.requires.0 c.args.size c.args.log.now c.requires.1 c.requires.2 in (c.requires.1, c.requires.3, c.requires.2, c.args.rules.now.frame.words, omega (arith, c.args.rules.now.frame.words, c.more_of_rule-lines.auto.more), omega arith, omega (arith, head-low c.args.rules.now.frame.letters c.from-p.ensures c.from-a.ensures (c.args.rules.now.headed c.args.r c.requires.6), c.args.rules.now.frame.most), head-in-all a (c.from-p.result * c.args.rules.now.frame.letters + c.from-a.result) _ (head-low c.args.rules.now.frame.letters c.from-p.ensures c.from-a.ensures (c.args.rules.now.headed c.args.r c.requires.6)) c.more_of_rule-lines.auto.all, head-in-added a (c.from-p.result * c.args.rules.now.frame.letters + c.from-a.result) (head-low c.args.rules.now.frame.letters c.from-p.ensures c.from-a.ensures (c.args.rules.now.headed c.args.r c.requires.6)), omega (arith, c.from-p.ensures, (c.args.rules.now.owned c.args.r c.requires.6).0, c.args.kept.now.gaining), omega (arith, c.from-a.ensures, (c.args.rules.now.owned c.args.r c.requires.6).1))

pub returns-then-is_direct-clause-by_index : goal.returns-then-is_direct-clause-by_index
returns-then-is_direct-clause-by_index c = (λ el g old es i now gr to. eloises-gives gr c.args.r c.requires.6 to to.pool (direct gr c.args.r c.requires.6 c.from.ensures c.from-then-is_direct.ensures (c.is_direct.ensures c.if-is_direct.true).1) c.from-p.ensures c.from-a.ensures refl c.first_of-first.ensures (c.is_direct.ensures c.if-is_direct.true).0 c.give.ensures.by_index)

pub returns-then-has_state-clause-by_index : goal.returns-then-has_state-clause-by_index
returns-then-has_state-clause-by_index c = (λ el g old es i now gr to. (let m = c.more_of_rule-lines.ensures.by_index el g old es i (rule_of g c.args.r) gr.raises gr.owned.lettered (bytes gr c.args.r c.requires.6) (sound gr c.args.r c.requires.6) (omega (arith, gr.good.ranged.control)) gr.growth (gr.pops (rule_of g c.args.r) (there gr c.args.r c.requires.6)) (no-sets 16 0) to.pool in abelards-keeps gr c.args.r c.requires.6 to m.0 m.1 c.from-p.ensures c.from-a.ensures (sym c.has_state.ensures ∙ c.if-has_state.true) c.keep_more.ensures.joined c.keep_more.ensures.x_value c.keep_more.ensures.by_index c.requires.3))

pub returns-clause-by_index : goal.returns-clause-by_index
returns-clause-by_index c = (λ el g old es i now gr to. (let m = c.more_of_rule-lines.ensures.by_index el g old es i (rule_of g c.args.r) gr.raises gr.owned.lettered (bytes gr c.args.r c.requires.6) (sound gr c.args.r c.requires.6) (omega (arith, gr.good.ranged.control)) gr.growth (gr.pops (rule_of g c.args.r) (there gr c.args.r c.requires.6)) (no-sets 16 0) to.pool in eloises-gives gr c.args.r c.requires.6 to m.0 m.1 c.from-p.ensures c.from-a.ensures refl c.first_of-first.ensures (sym c.has_state.ensures ∙ c.if-has_state.false) c.give-2.ensures.by_index))
