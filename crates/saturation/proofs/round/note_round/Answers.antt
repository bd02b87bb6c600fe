use native.Mathlib.Omega.{arith}
use mathlib.Core.Logic.{inl, inr, ⊎_elim}
use Rattle.saturation.proofs.RuleLoop.{heads-in-room, rows_in}
use Rattle.saturation.proofs.RoundTurns.{not_first, renewing, found, ground-on, rules-start, heads-ready}
use Rattle.saturation.proofs.round.note_round.Goals as goal

pub returns-in_err-offered-clause-by_index : goal.returns-in_err-offered-clause-by_index
returns-in_err-offered-clause-by_index c =
    λ el g old es i ec se eb reads linked re. rw c.from_residual.ensures (let u = found re se c.args.rules.now.frame.few c.args.rules.now.some (not_first _ i eb) reads c.find_active.ensures.by_index in let p = c.renew_lines.ensures.by_index el g old es re.ground.raises re.ground.owned.lettered (renewing re) re.passing in ⊎_elim inl (λ k. absurd (omega (arith, k.0, k.0))) ((rw c.in_err-offered.was at c.take_rules.ensures.by_index) el g old es i es (ground-on re p) u.0 (rules-start re p _ _ _)))

pub take_heads-requires : goal.take_heads-requires
take_heads-requires c =
    let r = c.args.rules.now in
    let k = c.take_rules.new.kept in (
      omega (arith, c.requires.1, c.take_rules.auto.log),
      (rw c.in_ok-offered.was at c.take_rules.ensures.upper_bound),
      c.requires.2,
      rows_in _ _ _ _ r.rows (omega (arith, heads-in-room c.requires.0, c.renew_lines.auto.all, c.take_rules.auto.all)),
      rows_in _ _ _ _ r.rows (omega (arith, c.requires.0.giving, c.take_rules.auto.added)),
      omega (arith, c.requires.0.ended, c.take_rules.auto.ends),
      k.stirring,
      c.requires.5,
      k.gaining,
    )

pub returns-clause-by_index : goal.returns-clause-by_index
returns-clause-by_index c =
    λ el g old es i ec se eb reads linked re. let u = found re se c.args.rules.now.frame.few c.args.rules.now.some (not_first _ i eb) reads c.find_active.ensures.by_index in let p = c.renew_lines.ensures.by_index el g old es re.ground.raises re.ground.owned.lettered (renewing re) re.passing in ⊎_elim (λ k. absurd (omega (arith, k.0, (rw c.in_ok-offered.was at c.take_rules.ensures.upper_bound)))) (λ k. ⊎_elim inl (λ s. inr (s.0, record { half-gains = _; half-log = _; half-added = _; half_count = _; to = k.1; stepped = s.1 }, u.1, p.grew)) (c.take_heads.ensures.by_index el g old es k.1.stepped.after i _ (heads-ready re k.1 ec linked) k.1.stepped.taking k.1.stepped.adding k.1.stepped.gained)) ((rw c.in_ok-offered.was at c.take_rules.ensures.by_index) el g old es i es (ground-on re p) u.0 (rules-start re p _ _ _))
