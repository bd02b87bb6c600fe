use native.Mathlib.Omega.{arith}
use mathlib.Core.List.{[]}
use mathlib.Core.Path.{refl}
use Rattle.rounds.specs.Growing.{partly}
use Rattle.enumeration.specs.NextLaws.{begins-nothing}
use Rattle.enumeration.specs.RestLaws.{writes-first, begun}
use Rattle.enumeration.specs.RuleLaws.{to_is, count-is, above-is, above-placed}
use Rattle.enumeration.specs.TakingLaws.{scan-next, none-fits, scan-from, scan-to}
use Rattle.walk.specs.RoundJobs.{hers}
use Rattle.walk.proofs.Alone.{its-end, placed, enters, ages, begins, finds}
use Rattle.walk.proofs.FirstRuns.{itself}
use Rattle.walk.proofs.Listing.{listed-none, zero-at}
use Rattle.walk.proofs.ends.find_ends.Goals as goal

pub loop-i-init : goal.loop-i-init
loop-i-init c = let l = its-end c.args.task.now.job _ c.args.r c.alone_of.ensures in (omega arith, λ g old b n s h pl ag whole. scan-from g old b n _ _ _ _ _ _ (begins-nothing g old _ _ _ _ 0 _ _ (to_is g old b n _ _ _ _ _ _ s h _ l) (above-is g old b n _ _ _ _ _ _ s h _ l)) _ _ _ s h _ (c.start_at-i.ensures.by_index _ (above-placed g old b n _ _ _ _ _ _ s h _ l _ pl)))

pub returns-in_err-count-clause-filled : goal.returns-in_err-count-clause-filled
returns-in_err-count-clause-filled c =
    rw c.from_residual.ensures
    (λ g old b m stands pl ag hit two stored blank. let e = c.alone_of.ensures in let l = its-end c.args.task.now.job _ c.args.r e in let h = enters g old b _ _ _ stands _ c.requires hit _ e m _ _ stored blank in let w = begins g old b _ _ _ stands _ c.requires hit _ e in let placing = placed g old b _ _ _ stands _ c.requires hit _ e _ pl in let aging = ages g old b _ _ _ stands _ c.requires hit _ e _ ag in let k = c.loop-i.invariant.1 (hers g) old b m (partly []) h placing aging w in finds g old b _ _ _ stands _ c.requires hit _ e m _ _ (writes-first (hers g) old b m _ _ _ _ _ _ (partly []) h _ 0 _ (itself (hers g) old b m _ _ _ _ _ _ (partly []) h _ l w) l (λ z. absurd (omega (arith, two, count-is (hers g) old b m _ _ _ _ _ _ (partly []) h _ l, z))) (none-fits (hers g) old b m _ _ _ _ _ (partly []) _ _ _ _ (scan-next (hers g) old b m _ _ _ _ (partly []) _ _ _ _ k (omega (arith, c.loop-i-test.true, c.end_at-end.ensures.upper_bound)) _ _ _ (begun (hers g) old b m _ _ _ _ _ _ k.now k.entered _ _ _ (c.in_err-count.ensures.finished (hers g) old b m k.now k.entered placing aging (listed-none (hers g) old _ _ (zero-at 1)) w (λ none. absurd (omega (arith, none)))))) refl)).filled)

pub loop-i-preserved : goal.loop-i-preserved
loop-i-preserved c = (omega (arith, c.in_ok-count.ensures.within (omega (arith, c.loop-i.invariant.0))), λ g old b n s h pl ag whole. let k = c.loop-i.invariant.1 g old b n s h pl ag whole in scan-next g old b n _ _ _ _ s _ _ _ _ k (omega (arith, c.loop-i-test.true, c.end_at-end.ensures.upper_bound)) _ _ _ (begun g old b n _ _ _ _ _ _ k.now k.entered _ _ _ (c.in_ok-count.ensures.finished g old b n k.now k.entered pl ag (listed-none g old _ _ (zero-at 1)) whole (λ none. absurd (omega (arith, none))))))

pub returns-clause-filled : goal.returns-clause-filled
returns-clause-filled c =
    λ g old b m stands pl ag hit two stored blank. let e = c.alone_of.ensures in let l = its-end c.args.task.now.job _ c.args.r e in let h = enters g old b _ _ _ stands _ c.requires hit _ e m _ _ stored blank in let w = begins g old b _ _ _ stands _ c.requires hit _ e in let placing = placed g old b _ _ _ stands _ c.requires hit _ e _ pl in let aging = ages g old b _ _ _ stands _ c.requires hit _ e _ ag in finds g old b _ _ _ stands _ c.requires hit _ e m _ _ (writes-first (hers g) old b m _ _ _ _ _ _ (partly []) h _ 0 _ (itself (hers g) old b m _ _ _ _ _ _ (partly []) h _ l w) l (λ z. absurd (omega (arith, two, count-is (hers g) old b m _ _ _ _ _ _ (partly []) h _ l, z))) (scan-to (hers g) old b m _ _ _ _ _ _ (begins-nothing (hers g) old _ _ _ _ 0 _ _ (to_is (hers g) old b m _ _ _ _ _ _ (partly []) h _ l) (above-is (hers g) old b m _ _ _ _ _ _ (partly []) h _ l)) (partly []) _ _ _ _ (c.loop-i.invariant.1 (hers g) old b m (partly []) h placing aging w) _ (c.end_at-end.ensures.by_index _ (above-placed (hers g) old b m _ _ _ _ _ _ (partly []) h _ l _ placing)) c.loop-i-test.false)).filled
