use Rattle.std.proofs.lemmas.Result.{err_from_is_err_and}
use mathlib.Core.Path.{refl}
use Rattle.table_cases.proofs.TwoCalls.{few-before, few-after, first-refuses, second-answers}
use Rattle.table_cases.proofs.parts.form_of_parts.Goals as goal

pub entries_form-requires : goal.entries_form-requires
entries_form-requires c =
    (c.requires.0, few-before _ _ c.requires.1 c.requires.2 c.requires.3)

pub returns-in_err-entries_form : goal.returns-in_err-entries_form
returns-in_err-entries_form c =
    λ g h.
    let p = err_from_is_err_and c.from_residual.result c.from_residual.ensures.1 in
    first-refuses _ _ c.requires.1 c.requires.2 c.requires.3 g _ c.none.ensures c.entries_form.result
    (c.entries_form.ensures g h)
    _
    c.in_err-entries_form.was
    c.from_residual.result
    (rw (p.1, p.2) refl)

pub entries_form-requires-2 : goal.entries_form-requires-2
entries_form-requires-2 c =
    (c.requires.0, few-after c.args.words.now _ c.requires.1 c.requires.2 c.requires.3)

pub returns : goal.returns
returns c =
    λ g h.
    second-answers _ _ c.requires.1 c.requires.2 c.requires.3 g _ c.none.ensures c.entries_form.result
    (c.entries_form.ensures g h)
    _
    c.in_ok-entries_form.was
    _
    c.at.ensures
    c.entries_form-2.result
    (c.entries_form-2.ensures g h)
