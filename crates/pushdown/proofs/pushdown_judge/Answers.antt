use mathlib.Core.Path.{sym, ap, ◌∙◌}
use Rattle.std.specs.Prelude.{Result}
use Rattle.game.specs.declared.refusal.Refusal.{Refusal}
use Rattle.judge.specs.Judged.{judged}
use Rattle.judge.specs.declared.verdict.Verdict.{Verdict}
use Rattle.pushdown.specs.Interface.{judge_told}
use Rattle.pushdown.proofs.Telling.{told, judge-wrong, judge-told}
use Rattle.pushdown.proofs.pushdown_judge.Goals as goal

pub returns-then-out-ne-JUDGE_WORDS : goal.returns-then-out-ne-JUDGE_WORDS
returns-then-out-ne-JUDGE_WORDS c = judge-wrong _ _ _ _ c.if-out-ne-JUDGE_WORDS.true

pub returns-in-Ok : goal.returns-in-Ok
returns-in-Ok c =
    ap (told 0) c.copy_from_slice.ensures.after
    ∙ c.words_of.ensures
    ∙ sym (ap (λ (v : Result Verdict Refusal). judge_told (judged v)) c.in-Ok.is)
    ∙ judge-told _ _ _ _ c.if-out-ne-JUDGE_WORDS.false c.judge.result c.judge.ensures

pub returns-in-Err : goal.returns-in-Err
unfolding judge_told
returns-in-Err c =
    rw (c.refuse.ensures.told, c.refuse.ensures.written, c.if-out-ne-JUDGE_WORDS.false)
    (sym (ap (λ (v : Result Verdict Refusal). judge_told (judged v)) c.in-Err.is)
    ∙ judge-told _ _ _ _ c.if-out-ne-JUDGE_WORDS.false c.judge.result c.judge.ensures)
