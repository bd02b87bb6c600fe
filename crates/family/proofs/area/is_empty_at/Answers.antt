use Rattle.std.proofs.Common.{rules, arith, sym, ◌∙◌, ◌≡◌, ◌+◌, ◌<◌}
use borrow.Author.Tests.{eqb-true, tests}
use Rattle.std.proofs.lemmas.Bool.{MatchBool-at_true}
use Rattle.std.proofs.lemmas.List.{places}
use Rattle.std.proofs.lemmas.Iterator.{cases_from_all, YieldsList-from_slice}
use Rattle.std.proofs.lemmas.List.Edits.{get_or-between}
use Rattle.std.specs.List.{between}
use Rattle.family.proofs.Areas.{empty-one, empty-all}
use Rattle.family.proofs.area.is_empty_at.Goals as goal

pub returns-then-n-eq1 : goal.returns-then-n-eq1
returns-then-n-eq1 c = λ e. empty-one _ _ _ c.if-n-eq1.true (eqb-true _ _ e)

pub returns : goal.returns
returns c =
    λ e.
    let part = between c.args.at (c.args.at + c.args.n) c.args.words.now in
    let all =
    MatchBool-at_true _ _ e
    (cases_from_all _ _ _ (λ w. w ≡ 0) (λ w. 0 < w) c.all.ensures.ran (YieldsList-from_slice part c.iter.ensures.rest) (λ x q k. search (rules, tests)) (λ x q k. search (rules, tests))) in
    empty-all _ _ _ c.args.n (λ j l. sym (get_or-between c.args.words.now c.args.at (c.args.at + c.args.n) j 0 (omega arith)) ∙ all j 0 (omega arith) (search (rules, places))) (omega arith)
