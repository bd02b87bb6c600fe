use mathlib.Core.List.{[]}
use native.Mathlib.Omega.{arith}
use mathlib.Core.Path.{refl, sym, ◌∙◌}
use mathlib.Core.Logic.{⊎_elim}
use Rattle.rounds.specs.Rounds.{round_zero}
use Rattle.solver.proofs.RoundsTaken.{leaving-at}
use Rattle.solver.proofs.RoundOrder.{zero-over, zero-within}
use Rattle.solver.proofs.RestTurns.{room-is}
use Rattle.solver.proofs.Beginnings.{bounded, held-targets, lettered, controlled, stated, targeted, layout_of, bare, heads-are, rest-zero, room-in}
use Rattle.solver.proofs.saturating.rounds_of.Goals as goal

pub returns-in_default : goal.returns-in_default
returns-in_default g c = (λ g m given reads linked zeros few raising none blanks. ⊎_elim (λ k. (rw c.at.ensures at c.give_up.ensures.work_after) ∙ leaving-at _ refl c.note_targets.auto.log ∙ sym (zero-over g m (omega (arith, k.1, room-is m _ zeros)) _ _)) (λ k. absurd (omega (arith, k.0))) ((rw c.in_default.is at c.note_targets.ensures.starts) g few.el _ _ _ _ (held-targets given) given.good few.are (layout_of given few c.args.rules.now.frame.words) (sym c.args.rules.now.lettered ∙ lettered given) (heads-are given c.requires.3) (targeted given) (bare given _ _ blanks.alls) (bare given _ _ blanks.news)))

pub note_targets-requires : goal.note_targets-requires
note_targets-requires g c =
    let b = bounded c.requires.0.1 in
    let f = c.args.rules.now.frame in
    let k = c.args.arrays.now in (
      omega (arith, c.requires.1),
      omega (arith, c.requires.2),
      b.targets-few,
      b.targets-fit,
      c.args.rules.now.wide,
      c.args.rules.now.small,
      f.most,
      f.words,
      omega (arith, k.area, room-in c.requires.5),
      k.newer ∙ sym k.area,
      f.few,
      c.args.marks.now.tidings,
    )

pub returns : goal.returns
returns g c = (λ g m given reads linked zeros few raising none blanks. ⊎_elim (λ k. absurd (omega (arith, k.0, rw c.in-Some.is at c.note_targets.ensures.upper_bound))) (λ k. let st = k.1 in let marks = c.set_masks.ensures.by_index few.el g [] (round_zero g) (layout_of given few c.args.rules.now.frame.words) few.are.counted (sym c.args.rules.now.lettered ∙ lettered given) few.are.listed st.within st.hold st.grew in c.rounds_on.ensures few.el g m (controlled given) (stated given) reads linked zeros (rw (none, ← c.args.rules.now.lettered) (rest-zero given _ _ _ c.requires.3 c.args.rules.now.frame.words few raising st blanks.runs blanks.adds marks.0 marks.1)) ∙ leaving-at _ refl c.note_targets.auto.log ∙ sym (zero-within g m (omega (arith, k.0, st.logged.counted, room-is m _ zeros)) _ _)) ((rw c.in-Some.is at c.note_targets.ensures.starts) g few.el _ _ _ _ (held-targets given) given.good few.are (layout_of given few c.args.rules.now.frame.words) (sym c.args.rules.now.lettered ∙ lettered given) (heads-are given c.requires.3) (targeted given) (bare given _ _ blanks.alls) (bare given _ _ blanks.news)))
