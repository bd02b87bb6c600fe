use Rattle.pushdown.specs.Interface.{judge_told}
use Rattle.pushdown.proofs.words_of.Goals as goal

pub returns-in-Lost : goal.returns-in-Lost
unfolding judge_told
returns-in-Lost c = rw (c.in-Lost.is, c.field_of.ensures)

pub returns-in-Target : goal.returns-in-Target
unfolding judge_told
returns-in-Target c = rw c.in-Target.is

pub returns-in-Eloise : goal.returns-in-Eloise
unfolding judge_told
returns-in-Eloise c = rw c.in-Eloise.is

pub returns-in-Abelard : goal.returns-in-Abelard
unfolding judge_told
returns-in-Abelard c = rw c.in-Abelard.is
