-- What a call of the judge can give: a bound of at most 256 × (2^R − 1), R the round limit, or a refusal by a question before the verdict.
-- No number stands for a bound that is too large; 15 is not used.
use Rattle.std.specs.Prelude.{ℕ, ◌-◌, ◌*◌, ◌^◌}
use Rattle.std.specs.Prelude.{Result, Ok, Err}
use Rattle.game.specs.declared.refusal.Refusal.{Refusal}
use Rattle.game.specs.Limits.{max_rounds, max_stack}
use Rattle.judge.specs.Verdict.{Verdict, lost, target, eloise, abelard}
use Rattle.judge.specs.declared.verdict.Verdict.{Verdict as Answered}
use Rattle.judge.specs.declared.verdict.Verdict.TheVariants.{Lost, Target, Eloise, Abelard}

-- "A judged stack has at most 256 letters and each transition is worth at most 2^40 − 1"
abbrev pub most_bound : ℕ
most_bound = max_stack * (2 ^ max_rounds - 1)

-- the bound that a verdict has; 0 where it has none
unfoldable pub bound_in : Verdict → ℕ
bound_in (lost rule) = 0
bound_in target = 0
bound_in (eloise rule b) = b
bound_in (abelard b) = b

-- the bound that an answer of `judge` has; 0 where it has none
unfoldable pub returned_bound : Result Answered Refusal → ℕ
returned_bound (Ok (Lost rule)) = 0
returned_bound (Ok Target) = 0
returned_bound (Ok (Eloise rule b)) = b
returned_bound (Ok (Abelard b)) = b
returned_bound (Err refusal) = 0
