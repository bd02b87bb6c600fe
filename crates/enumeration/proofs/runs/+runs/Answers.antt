use Prim.Native.Nat.{◌+◌}
use native.Mathlib.Omega.{arith}
use mathlib.Core.Path.{refl, sym, ap, ◌∙◌}
use lib.ListN.{get_or}
use Rattle.enumeration.specs.NextLaws.{begins-nothing}
use Rattle.enumeration.specs.RestLaws.{pops-first, writes-first, begun, past-pops, past-writes}
use Rattle.enumeration.specs.RuleLaws.{to_is, count-is, above-is, below-is, within, above-placed}
use Rattle.enumeration.specs.TakingLaws.{scan-next, none-fits, scan-from, scan-to}
use Rattle.enumeration.proofs.ListTurns.{adds, list-next, list-ends, list_over}
use Rattle.enumeration.proofs.Parts.{later}
use Rattle.enumeration.proofs.Earlier.{none-older, set-older, past-rest, past_one, past_two}
use Rattle.enumeration.proofs.Depth.{bounded-start, deep, bounded_at, bounded-before, bounded-after, falls-here, falls-before, falls-after}
use Rattle.enumeration.proofs.Walking.{walk-starts, walk-none, walk_ends, walk-back, past-last, walk-takes, walk-opens}
use Rattle.enumeration.proofs.Turns.{hit, notes, begins-none, begins-one, begins-two, blocked, no-rule, job_of, listed-first, other-state, other-letter, same_head, none-of-it, rest-is, set-of, set_below, set-adds, union-adds, joins, joins-some, starts-below, ends-below, below-small, word-adds, rest_below}
use Rattle.rounds.proofs.StoredRows.{long_of}
use Prim.Native.Nat.{ℕ}
use Rattle.enumeration.proofs.runs.+runs.Goals as goal

pub pass_states-loop-found-init : goal.pass_states-loop-found-init
pass_states-loop-found-init t c = (λ h. h, bounded-start _ _ _ c.requires.1 (omega arith) c.start_at-i.ensures.upper_bound, λ g old b n s h pl ag li whole small past. walk-starts g old b n _ _ _ _ _ _ _ s h _ _ _ _ c.highest.ensures c.requires.1 small (starts-below g old b n _ _ _ _ _ _ s h _ c.requires.0 _ pl _ _ small c.requires.1 c.highest.ensures _ (c.start_at-i.ensures.by_index _)) _ past _ _ _ _)

pub pass_states-returns-then-depth-eq0-clause-finished : goal.pass_states-returns-then-depth-eq0-clause-finished
pass_states-returns-then-depth-eq0-clause-finished t c =
    λ g old b n s h pl ag li whole small past. let w = c.loop-found.invariant.2 g old b n s h pl ag li whole small past in walk_ends g old b n _ _ _ _ s _ _ _ _ _ _ _ _ _ _ _ _ _ _ w whole (within g old b n _ _ _ _ _ _ s h _ c.requires.0) _ c.highest-q.ensures _ c.tag_of-tag.ensures _ (rest-is _ _ c.highest-q.ensures) c.args.task.now.fresh.now ag c.fresh_on-new.result (c.fresh_on-new.ensures ∙ ap (λ (a : ℕ). get_or c.args.task.now.fresh.now a 0) (below-is g old b n _ _ _ _ _ _ s h _ c.requires.0)) c.older_below-passing.result c.older_below-passing.ensures _ _ c.in_default.ensures.skipped (omega (arith, c.in_default.ensures.skipped.within, c.loop-found.invariant.1.within, c.end_at-end.ensures.upper_bound)) (ends-below g old b n _ _ _ _ _ _ s h _ c.requires.0 _ pl _ _ w.fit.small w.fit.some c.highest-q.ensures _ (c.end_at-end.ensures.by_index _)) (omega arith) c.if-depth-eq0.true

pub pass_states-loop-found-smaller-in_default : goal.pass_states-loop-found-smaller-in_default
pass_states-loop-found-smaller-in_default t c = falls-before _ _ _ _ (omega (arith, c.if-depth-eq0.false)) c.loop-found.invariant.1.within

pub pass_states-loop-found-preserved-in_default : goal.pass_states-loop-found-preserved-in_default
pass_states-loop-found-preserved-in_default t c = (c.loop-found.invariant.0, bounded-before _ _ _ _ _ _ _ _ c.loop-found.invariant.1 _ (omega (arith, c.if-depth-eq0.false)), λ g old b n s h pl ag li whole small past. let w = c.loop-found.invariant.2 g old b n s h pl ag li whole small past in walk-back g old b n _ _ _ _ s _ _ _ _ _ _ _ _ _ _ _ _ _ _ w whole (within g old b n _ _ _ _ _ _ s h _ c.requires.0) _ c.highest-q.ensures _ c.tag_of-tag.ensures _ (rest-is _ _ c.highest-q.ensures) c.args.task.now.fresh.now ag c.fresh_on-new.result (c.fresh_on-new.ensures ∙ ap (λ (a : ℕ). get_or c.args.task.now.fresh.now a 0) (below-is g old b n _ _ _ _ _ _ s h _ c.requires.0)) c.older_below-passing.result c.older_below-passing.ensures _ _ c.in_default.ensures.skipped (omega (arith, c.in_default.ensures.skipped.within, c.loop-found.invariant.1.within, c.end_at-end.ensures.upper_bound)) (ends-below g old b n _ _ _ _ _ _ s h _ c.requires.0 _ pl _ _ w.fit.small w.fit.some c.highest-q.ensures _ (c.end_at-end.ensures.by_index _)) (omega arith) _ c.finish.ensures (omega (arith, c.if-depth-eq0.false)))

-- `None`: an entry was beyond the table, and nothing of what is left changes it.
-- Of a number beyond the table `walk-over` says it; the edit `full_table_counts_as_over` has an answer by that in the place of these lines.
pub pass_states-returns-in_err-filled-clause-finished : goal.pass_states-returns-in_err-filled-clause-finished
pass_states-returns-in_err-filled-clause-finished t c =
    rw c.from_residual.ensures
    (λ g old b n s h pl ag li whole small past. let w = c.loop-found.invariant.2 g old b n s h pl ag li whole small past in walk-none g old b n _ _ _ _ s _ _ _ _ _ _ _ _ _ _ _ _ _ _ (walk-takes g old b n _ _ _ _ s _ _ _ _ _ _ _ _ _ _ _ _ _ _ w whole (within g old b n _ _ _ _ _ _ s h _ c.requires.0) _ c.highest-q.ensures _ c.tag_of-tag.ensures _ (rest-is _ _ c.highest-q.ensures) c.args.task.now.fresh.now ag c.fresh_on-new.result (c.fresh_on-new.ensures ∙ ap (λ (a : ℕ). get_or c.args.task.now.fresh.now a 0) (below-is g old b n _ _ _ _ _ _ s h _ c.requires.0)) c.older_below-passing.result c.older_below-passing.ensures _ _ c.in-Some.ensures.skipped (omega (arith, c.in-Some.ensures.skipped.within, c.loop-found.invariant.1.within, c.end_at-end.ensures.upper_bound)) (ends-below g old b n _ _ _ _ _ _ s h _ c.requires.0 _ pl _ _ w.fit.small w.fit.some c.highest-q.ensures _ (c.end_at-end.ensures.by_index _)) c.in-Some.ensures.within (below-small g old b n _ _ _ _ _ _ s h _ c.requires.0 _ pl) _ refl c.if-rest-eq0.true _ _ _ (c.in_err-filled.ensures.finished g old b n w.now w.entered pl ag li whole (word-adds g old b n _ _ _ _ _ _ w.now w.entered c.in-Some.found c.loop-found.union (omega (arith, c.in-Some.ensures.within, c.end_at-end.ensures.upper_bound))) (past-last g old b n _ _ _ _ s _ _ _ _ _ _ _ _ _ _ _ _ _ _ w whole (within g old b n _ _ _ _ _ _ s h _ c.requires.0) _ c.highest-q.ensures _ c.tag_of-tag.ensures _ (rest-is _ _ c.highest-q.ensures) c.args.task.now.fresh.now ag c.fresh_on-new.result (c.fresh_on-new.ensures ∙ ap (λ (a : ℕ). get_or c.args.task.now.fresh.now a 0) (below-is g old b n _ _ _ _ _ _ s h _ c.requires.0)) c.older_below-passing.result c.older_below-passing.ensures _ _ c.in-Some.ensures.skipped (omega (arith, c.in-Some.ensures.skipped.within, c.loop-found.invariant.1.within, c.end_at-end.ensures.upper_bound)) (ends-below g old b n _ _ _ _ _ _ s h _ c.requires.0 _ pl _ _ w.fit.small w.fit.some c.highest-q.ensures _ (c.end_at-end.ensures.by_index _)) c.in-Some.ensures.within (below-small g old b n _ _ _ _ _ _ s h _ c.requires.0 _ pl) _ refl c.if-rest-eq0.true c.still_late-still.result c.still_late-still.ensures))) refl)

pub pass_states-loop-found-smaller-then-rest-eq0 : goal.pass_states-loop-found-smaller-then-rest-eq0
pass_states-loop-found-smaller-then-rest-eq0 t c = falls-here _ _ _ _ _ c.in-Some.ensures.skipped.after (omega (arith, c.in-Some.ensures.within, c.end_at-end.ensures.upper_bound))

pub pass_states-loop-found-preserved-then-rest-eq0 : goal.pass_states-loop-found-preserved-then-rest-eq0
pass_states-loop-found-preserved-then-rest-eq0 t c = (λ h. omega (arith, c.in_ok-filled.ensures.within (c.loop-found.invariant.0 (omega arith)), h), bounded_at _ _ _ _ _ _ _ _ c.loop-found.invariant.1 _ (omega (arith, c.in-Some.ensures.within, c.end_at-end.ensures.upper_bound)), λ g old b n s h pl ag li whole small past. let w = c.loop-found.invariant.2 g old b n s h pl ag li whole small past in walk-takes g old b n _ _ _ _ s _ _ _ _ _ _ _ _ _ _ _ _ _ _ w whole (within g old b n _ _ _ _ _ _ s h _ c.requires.0) _ c.highest-q.ensures _ c.tag_of-tag.ensures _ (rest-is _ _ c.highest-q.ensures) c.args.task.now.fresh.now ag c.fresh_on-new.result (c.fresh_on-new.ensures ∙ ap (λ (a : ℕ). get_or c.args.task.now.fresh.now a 0) (below-is g old b n _ _ _ _ _ _ s h _ c.requires.0)) c.older_below-passing.result c.older_below-passing.ensures _ _ c.in-Some.ensures.skipped (omega (arith, c.in-Some.ensures.skipped.within, c.loop-found.invariant.1.within, c.end_at-end.ensures.upper_bound)) (ends-below g old b n _ _ _ _ _ _ s h _ c.requires.0 _ pl _ _ w.fit.small w.fit.some c.highest-q.ensures _ (c.end_at-end.ensures.by_index _)) c.in-Some.ensures.within (below-small g old b n _ _ _ _ _ _ s h _ c.requires.0 _ pl) _ refl c.if-rest-eq0.true _ _ _ (c.in_ok-filled.ensures.finished g old b n w.now w.entered pl ag li whole (word-adds g old b n _ _ _ _ _ _ w.now w.entered c.in-Some.found c.loop-found.union (omega (arith, c.in-Some.ensures.within, c.end_at-end.ensures.upper_bound))) (past-last g old b n _ _ _ _ s _ _ _ _ _ _ _ _ _ _ _ _ _ _ w whole (within g old b n _ _ _ _ _ _ s h _ c.requires.0) _ c.highest-q.ensures _ c.tag_of-tag.ensures _ (rest-is _ _ c.highest-q.ensures) c.args.task.now.fresh.now ag c.fresh_on-new.result (c.fresh_on-new.ensures ∙ ap (λ (a : ℕ). get_or c.args.task.now.fresh.now a 0) (below-is g old b n _ _ _ _ _ _ s h _ c.requires.0)) c.older_below-passing.result c.older_below-passing.ensures _ _ c.in-Some.ensures.skipped (omega (arith, c.in-Some.ensures.skipped.within, c.loop-found.invariant.1.within, c.end_at-end.ensures.upper_bound)) (ends-below g old b n _ _ _ _ _ _ s h _ c.requires.0 _ pl _ _ w.fit.small w.fit.some c.highest-q.ensures _ (c.end_at-end.ensures.by_index _)) c.in-Some.ensures.within (below-small g old b n _ _ _ _ _ _ s h _ c.requires.0 _ pl) _ refl c.if-rest-eq0.true c.still_late-still.result c.still_late-still.ensures)))

pub pass_states-loop-found-smaller : goal.pass_states-loop-found-smaller
pass_states-loop-found-smaller t c = falls-after _ _ _ _ _ _ (deep _ _ _ _ _ _ _ _ c.loop-found.invariant.1) c.loop-found.invariant.1.nexts-long c.in-Some.ensures.skipped.after (omega (arith, c.in-Some.ensures.within, c.end_at-end.ensures.upper_bound))

pub pass_states-loop-found-preserved : goal.pass_states-loop-found-preserved
pass_states-loop-found-preserved t c = (c.loop-found.invariant.0, bounded-after _ _ _ _ _ _ _ _ c.loop-found.invariant.1 _ c.highest-q.ensures _ _ _ _ _ (rest-is _ _ c.highest-q.ensures) c.if-rest-eq0.false (omega (arith, c.in-Some.ensures.within, c.end_at-end.ensures.upper_bound)) c.start_at-i-in-loop-found.ensures.upper_bound, λ g old b n s h pl ag li whole small past. let w = c.loop-found.invariant.2 g old b n s h pl ag li whole small past in walk-opens g old b n _ _ _ _ s _ _ _ _ _ _ _ _ _ _ _ _ _ _ w whole (within g old b n _ _ _ _ _ _ s h _ c.requires.0) _ c.highest-q.ensures _ c.tag_of-tag.ensures _ (rest-is _ _ c.highest-q.ensures) c.args.task.now.fresh.now ag c.fresh_on-new.result (c.fresh_on-new.ensures ∙ ap (λ (a : ℕ). get_or c.args.task.now.fresh.now a 0) (below-is g old b n _ _ _ _ _ _ s h _ c.requires.0)) c.older_below-passing.result c.older_below-passing.ensures _ _ c.in-Some.ensures.skipped (omega (arith, c.in-Some.ensures.skipped.within, c.loop-found.invariant.1.within, c.end_at-end.ensures.upper_bound)) (ends-below g old b n _ _ _ _ _ _ s h _ c.requires.0 _ pl _ _ w.fit.small w.fit.some c.highest-q.ensures _ (c.end_at-end.ensures.by_index _)) c.in-Some.ensures.within (below-small g old b n _ _ _ _ _ _ s h _ c.requires.0 _ pl) _ refl c.if-rest-eq0.false (deep _ _ _ _ _ _ _ _ c.loop-found.invariant.1) c.loop-found.invariant.1.lefts-long c.loop-found.invariant.1.unions-long c.loop-found.invariant.1.nexts-long c.loop-found.invariant.1.limits-long _ _ c.highest-in-loop-found.ensures (starts-below g old b n _ _ _ _ _ _ s h _ c.requires.0 _ pl _ _ (rest_below _ _ _ _ w.fit.small (rest-is _ _ c.highest-q.ensures) w.fit.some c.highest-q.ensures) (omega (arith, c.if-rest-eq0.false)) c.highest-in-loop-found.ensures _ (c.start_at-i-in-loop-found.ensures.by_index _)) c.still_late-still.result c.still_late-still.ensures)

pub rules_after-returns-then-older_below-gt0-clause-finished : goal.rules_after-returns-then-older_below-gt0-clause-finished
rules_after-returns-then-older_below-gt0-clause-finished t c =
    λ g old b n s h pl ag li whole some past. let known = c.older_below.ensures c.if-older_below-gt0.true in none-older g old b n _ _ _ _ _ _ s h c.args.task.now.fresh.now ag _ 0 _ _ past (omega (arith, known.0, c.if-older_below-gt0.true)) known.1 refl

pub rules_after-returns-then-is_finished-clause-finished : goal.rules_after-returns-then-is_finished-clause-finished
rules_after-returns-then-is_finished-clause-finished t c =
    λ g old b n s h pl ag li whole some past. hit g old b n _ _ _ _ _ _ s h _ _ _ _ whole c.requires c.tag_of-tag.ensures (c.is_finished.ensures c.if-is_finished.true)

pub rules_after-returns-clause-finished : goal.rules_after-returns-clause-finished
rules_after-returns-clause-finished t c =
    λ g old b n s h pl ag li whole some past. notes g old b n _ _ _ _ _ _ s h _ _ _ _ whole c.requires c.tag_of-tag.ensures _ _ _ _ (none-of-it g old b n _ _ _ _ _ _ s h _ _ (c.rules_from-filled.ensures.finished g old b n s h pl ag li (later g _ _ whole) some (past-rest g old b n _ _ _ _ _ _ s h _ _ _ past))) c.finish.ensures

pub rules_by-returns-in_err-filled-clause-finished : goal.rules_by-returns-in_err-filled-clause-finished
rules_by-returns-in_err-filled-clause-finished t c =
    rw c.from_residual.ensures
    (λ g old b n s h pl ag li whole listed. let k = c.loop-i.invariant.2 g old b n s h pl ag li whole in list_over c.args.lists.now.sets.now c.args.lists.now.spans.now c.args.r g old b n _ _ _ c.args.union s (c.loop-i.i + 1) _ _ _ (list-next c.args.lists.now.sets.now c.args.lists.now.spans.now c.args.r g old b n _ _ _ c.args.union s c.loop-i.i _ _ _ k c.loop-i.invariant.1 (omega (arith, c.loop-i-test.true, c.list_end-end.ensures)) _ _ _ (c.in_err-filled.ensures.finished g old b n k.now k.entered pl ag li whole (adds c.args.lists.now.sets.now c.args.lists.now.spans.now c.args.r g old li (omega (arith, h.stands.last, c.requires)) c.loop-i.i c.loop-i.invariant.1 (omega (arith, c.loop-i-test.true, c.list_end-end.ensures)) c.args.union) (λ none. absurd (omega (arith, none))))) refl)

pub rules_by-loop-i-preserved : goal.rules_by-loop-i-preserved
rules_by-loop-i-preserved t c = (λ h. omega (arith, c.in_ok-filled.ensures.within (c.loop-i.invariant.0 (omega arith)), h), omega (arith, c.loop-i.invariant.1), λ g old b n s h pl ag li whole. let k = c.loop-i.invariant.2 g old b n s h pl ag li whole in list-next c.args.lists.now.sets.now c.args.lists.now.spans.now c.args.r g old b n _ _ _ c.args.union s c.loop-i.i _ _ _ k c.loop-i.invariant.1 (omega (arith, c.loop-i-test.true, c.list_end-end.ensures)) _ _ _ (c.in_ok-filled.ensures.finished g old b n k.now k.entered pl ag li whole (adds c.args.lists.now.sets.now c.args.lists.now.spans.now c.args.r g old li (omega (arith, h.stands.last, c.requires)) c.loop-i.i c.loop-i.invariant.1 (omega (arith, c.loop-i-test.true, c.list_end-end.ensures)) c.args.union) (λ none. absurd (omega (arith, none)))))

pub rules_by-returns-clause-finished : goal.rules_by-returns-clause-finished
rules_by-returns-clause-finished t c =
    λ g old b n s h pl ag li whole listed. list-ends c.args.lists.now.sets.now c.args.lists.now.spans.now c.args.r g old b n _ _ _ c.args.union s c.loop-i.i _ _ _ (c.loop-i.invariant.2 g old b n s h pl ag li whole) (omega (arith, c.loop-i-test.false, c.list_end-end.ensures))

pub rules_from-returns-in_default-clause-finished : goal.rules_from-returns-in_default-clause-finished
rules_from-returns-in_default-clause-finished t c =
    λ g old b n s h pl ag li late some past. no-rule g old b n _ _ _ _ _ _ s h _ _ _ c.in_default.ensures.next (omega arith) some (omega arith) _ _ (λ small. c.insert.ensures.by_index n s (long_of n _ _ s h.filled) h.filled small)

pub rules_from-returns-then-task-at-eq0-clause-finished : goal.rules_from-returns-then-task-at-eq0-clause-finished
rules_from-returns-then-task-at-eq0-clause-finished t c =
    λ g old b n s h pl ag li late some past. let next = c.in-Some.ensures.next in let l = c.in-Some.ensures.within in pops-first g old b n _ _ _ _ _ _ s h _ _ _ next l (sym (count-is g old b n _ _ _ _ _ _ s h _ l) ∙ c.if-task-at-eq0.true) _ (joins g old b n _ _ _ _ _ _ s h _ c.args.union _ next l _ c.joined-passed.ensures) (c.rules_after.ensures.finished g old b n s h pl ag li (job_of g old b n _ _ _ _ _ _ s h _ c.args.union _ next l late) (joins-some g old b n _ _ _ _ _ _ s h _ c.args.union _ next l _ c.joined-passed.ensures) (past-pops g old b n _ _ _ _ _ _ s h _ c.args.union _ next l _ past (sym (count-is g old b n _ _ _ _ _ _ s h _ l) ∙ c.if-task-at-eq0.true) _ (joins g old b n _ _ _ _ _ _ s h _ c.args.union _ next l _ c.joined-passed.ensures)))

pub rules_from-returns-then-is_listed-clause-finished : goal.rules_from-returns-then-is_listed-clause-finished
rules_from-returns-then-is_listed-clause-finished t c =
    λ g old b n s h pl ag li late some past. let listed = c.is_listed.ensures c.if-is_listed.true in listed-first g old b n _ _ _ _ _ _ s h _ c.args.union _ c.in-Some.ensures.next c.in-Some.ensures.within _ _ li listed (c.rules_by.ensures.finished g old b n s h pl ag li (job_of g old b n _ _ _ _ _ _ s h _ c.args.union _ c.in-Some.ensures.next c.in-Some.ensures.within late) listed)

pub rules_from-loop-i-init : goal.rules_from-loop-i-init
rules_from-loop-i-init t c = (λ h. h, λ g old b n s h pl ag li late past. scan-from g old b n _ _ _ _ _ _ (begins-nothing g old _ _ _ _ c.args.union _ _ (to_is g old b n _ _ _ _ _ _ s h _ c.in-Some.ensures.within) (above-is g old b n _ _ _ _ _ _ s h _ c.in-Some.ensures.within)) _ _ _ s h _ (c.start_at-i.ensures.by_index _ (above-placed g old b n _ _ _ _ _ _ s h _ c.in-Some.ensures.within _ pl)))

pub rules_from-returns-in_err-filled-clause-finished : goal.rules_from-returns-in_err-filled-clause-finished
rules_from-returns-in_err-filled-clause-finished t c =
    rw c.from_residual.ensures
    (λ g old b n s h pl ag li late some past. let l = c.in-Some.ensures.within in writes-first g old b n _ _ _ _ _ _ s h _ _ _ c.in-Some.ensures.next l (λ z. c.if-task-at-eq0.false (count-is g old b n _ _ _ _ _ _ s h _ l ∙ z)) (let k = c.loop-i.invariant.1 g old b n s h pl ag li late past in none-fits g old b n _ _ _ _ _ s _ _ _ _ (scan-next g old b n _ _ _ _ s _ _ _ _ k (omega (arith, c.loop-i-test.true, c.end_at-end.ensures.upper_bound)) _ _ _ (begun g old b n _ _ _ _ _ _ k.now k.entered _ _ _ (c.in_err-filled.ensures.finished g old b n k.now k.entered pl ag li (job_of g old b n _ _ _ _ _ _ s h _ c.args.union _ c.in-Some.ensures.next c.in-Some.ensures.within late) (λ some. let p = past-writes g old b n _ _ _ _ _ _ s h _ c.args.union _ c.in-Some.ensures.next c.in-Some.ensures.within _ past (λ z. c.if-task-at-eq0.false (count-is g old b n _ _ _ _ _ _ s h _ c.in-Some.ensures.within ∙ z)) some in (p.0, k.kept _ p.1))))) refl))

pub rules_from-loop-i-preserved : goal.rules_from-loop-i-preserved
rules_from-loop-i-preserved t c = (λ h. omega (arith, c.in_ok-filled.ensures.within (c.loop-i.invariant.0 (omega arith)), h), λ g old b n s h pl ag li late past. let k = c.loop-i.invariant.1 g old b n s h pl ag li late past in scan-next g old b n _ _ _ _ s _ _ _ _ k (omega (arith, c.loop-i-test.true, c.end_at-end.ensures.upper_bound)) _ _ _ (begun g old b n _ _ _ _ _ _ k.now k.entered _ _ _ (c.in_ok-filled.ensures.finished g old b n k.now k.entered pl ag li (job_of g old b n _ _ _ _ _ _ s h _ c.args.union _ c.in-Some.ensures.next c.in-Some.ensures.within late) (λ some. let p = past-writes g old b n _ _ _ _ _ _ s h _ c.args.union _ c.in-Some.ensures.next c.in-Some.ensures.within _ past (λ z. c.if-task-at-eq0.false (count-is g old b n _ _ _ _ _ _ s h _ c.in-Some.ensures.within ∙ z)) some in (p.0, k.kept _ p.1)))))

pub rules_from-returns-clause-finished : goal.rules_from-returns-clause-finished
rules_from-returns-clause-finished t c =
    λ g old b n s h pl ag li late some past. let l = c.in-Some.ensures.within in writes-first g old b n _ _ _ _ _ _ s h _ _ _ c.in-Some.ensures.next l (λ z. c.if-task-at-eq0.false (count-is g old b n _ _ _ _ _ _ s h _ l ∙ z)) (scan-to g old b n _ _ _ _ _ _ (begins-nothing g old _ _ _ _ c.args.union _ _ (to_is g old b n _ _ _ _ _ _ s h _ c.in-Some.ensures.within) (above-is g old b n _ _ _ _ _ _ s h _ c.in-Some.ensures.within)) s _ _ _ _ (c.loop-i.invariant.1 g old b n s h pl ag li late past) _ (c.end_at-end.ensures.by_index _ (above-placed g old b n _ _ _ _ _ _ s h _ l _ pl)) c.loop-i-test.false)

pub runs_with-returns-then-state-task-clause-finished : goal.runs_with-returns-then-state-task-clause-finished
runs_with-returns-then-state-task-clause-finished t c =
    λ g old b n s h pl ag li whole past. begins-none g old b n _ _ _ _ _ _ s h _ _ _ (other-state g old b n _ _ _ _ _ _ s h _ c.requires.1 _ c.at-entry.ensures _ _ (λ e. c.if-state-task.true (c.state.ensures ∙ e ∙ sym (to_is g old b n _ _ _ _ _ _ s h _ c.requires.0))))

pub runs_with-returns-then-letter-task-clause-finished : goal.runs_with-returns-then-letter-task-clause-finished
runs_with-returns-then-letter-task-clause-finished t c =
    λ g old b n s h pl ag li whole past. begins-none g old b n _ _ _ _ _ _ s h _ _ _ (other-letter g old b n _ _ _ _ _ _ s h _ c.requires.1 _ c.at-entry.ensures _ _ (λ e. c.if-letter-task.true (c.letter.ensures ∙ e ∙ sym (above-is g old b n _ _ _ _ _ _ s h _ c.requires.0))))

pub runs_with-returns-then-task-at-eq1-clause-finished : goal.runs_with-returns-then-task-at-eq1-clause-finished
runs_with-returns-then-task-at-eq1-clause-finished t c =
    λ g old b n s h pl ag li whole past. begins-one g old b n _ _ _ _ _ _ s h _ _ _ _ (set-of g old b n _ _ _ _ _ _ s h _ c.requires.1 _ c.at-entry.ensures) (same_head g old b n _ _ _ _ _ _ s h _ c.requires.1 _ c.at-entry.ensures _ _ (sym c.state.ensures ∙ c.if-state-task.false ∙ to_is g old b n _ _ _ _ _ _ s h _ c.requires.0) (sym c.letter.ensures ∙ c.if-letter-task.false ∙ above-is g old b n _ _ _ _ _ _ s h _ c.requires.0)) (sym (count-is g old b n _ _ _ _ _ _ s h _ c.requires.0) ∙ c.if-task-at-eq1.true) (c.rules_after.ensures.finished g old b n s h pl ag li whole (union-adds g old b n _ _ _ _ _ _ s h _ c.requires.1 _ c.at-entry.ensures c.args.union) (past_one g old b n _ _ _ _ _ _ s h _ _ c.args.union _ past c.requires.1 _ c.at-entry.ensures c.still_late-still.result c.still_late-still.ensures (set-of g old b n _ _ _ _ _ _ s h _ c.requires.1 _ c.at-entry.ensures) (same_head g old b n _ _ _ _ _ _ s h _ c.requires.1 _ c.at-entry.ensures _ _ (sym c.state.ensures ∙ c.if-state-task.false ∙ to_is g old b n _ _ _ _ _ _ s h _ c.requires.0) (sym c.letter.ensures ∙ c.if-letter-task.false ∙ above-is g old b n _ _ _ _ _ _ s h _ c.requires.0)) (sym (count-is g old b n _ _ _ _ _ _ s h _ c.requires.0) ∙ c.if-task-at-eq1.true)))

pub runs_with-returns-then-is_blocked-clause-finished : goal.runs_with-returns-then-is_blocked-clause-finished
runs_with-returns-then-is_blocked-clause-finished t c =
    λ g old b n s h pl ag li whole past. begins-two g old b n _ _ _ _ _ _ s h _ _ _ _ (set-of g old b n _ _ _ _ _ _ s h _ c.requires.1 _ c.at-entry.ensures) (same_head g old b n _ _ _ _ _ _ s h _ c.requires.1 _ c.at-entry.ensures _ _ (sym c.state.ensures ∙ c.if-state-task.false ∙ to_is g old b n _ _ _ _ _ _ s h _ c.requires.0) (sym c.letter.ensures ∙ c.if-letter-task.false ∙ above-is g old b n _ _ _ _ _ _ s h _ c.requires.0)) (λ e. c.if-task-at-eq1.false (count-is g old b n _ _ _ _ _ _ s h _ c.requires.0 ∙ e)) (blocked g old b n _ _ _ _ _ _ s h _ c.requires.0 _ pl _ _ (set_below g old b n _ _ _ _ _ _ s h _ c.requires.1 _ c.at-entry.ensures) (c.is_blocked.ensures.blocked c.if-is_blocked.true (omega (arith, set-adds g old b n _ _ _ _ _ _ s h _ c.requires.1 _ c.at-entry.ensures 0))))

pub runs_with-returns-then-older_below-gt0-clause-finished : goal.runs_with-returns-then-older_below-gt0-clause-finished
runs_with-returns-then-older_below-gt0-clause-finished t c =
    λ g old b n s h pl ag li whole past. let known = c.older_below.ensures c.if-older_below-gt0.true in begins-two g old b n _ _ _ _ _ _ s h _ _ _ _ (set-of g old b n _ _ _ _ _ _ s h _ c.requires.1 _ c.at-entry.ensures) (same_head g old b n _ _ _ _ _ _ s h _ c.requires.1 _ c.at-entry.ensures _ _ (sym c.state.ensures ∙ c.if-state-task.false ∙ to_is g old b n _ _ _ _ _ _ s h _ c.requires.0) (sym c.letter.ensures ∙ c.if-letter-task.false ∙ above-is g old b n _ _ _ _ _ _ s h _ c.requires.0)) (λ e. c.if-task-at-eq1.false (count-is g old b n _ _ _ _ _ _ s h _ c.requires.0 ∙ e)) (set-older g old b n _ _ _ _ _ _ s h c.args.task.now.fresh.now ag _ _ _ _ (past_two g old b n _ _ _ _ _ _ s h _ _ c.args.union _ past c.requires.1 _ c.at-entry.ensures c.still_late-still.result c.still_late-still.ensures (set-of g old b n _ _ _ _ _ _ s h _ c.requires.1 _ c.at-entry.ensures) (same_head g old b n _ _ _ _ _ _ s h _ c.requires.1 _ c.at-entry.ensures _ _ (sym c.state.ensures ∙ c.if-state-task.false ∙ to_is g old b n _ _ _ _ _ _ s h _ c.requires.0) (sym c.letter.ensures ∙ c.if-letter-task.false ∙ above-is g old b n _ _ _ _ _ _ s h _ c.requires.0)) (λ e. c.if-task-at-eq1.false (count-is g old b n _ _ _ _ _ _ s h _ c.requires.0 ∙ e))) (omega (arith, known.0, c.if-older_below-gt0.true)) known.1 c.fresh_on.result (c.fresh_on.ensures ∙ ap (λ (a : ℕ). get_or c.args.task.now.fresh.now a 0) (below-is g old b n _ _ _ _ _ _ s h _ c.requires.0)) known.2)

pub runs_with-returns-clause-finished : goal.runs_with-returns-clause-finished
runs_with-returns-clause-finished t c =
    λ g old b n s h pl ag li whole past. begins-two g old b n _ _ _ _ _ _ s h _ _ _ _ (set-of g old b n _ _ _ _ _ _ s h _ c.requires.1 _ c.at-entry.ensures) (same_head g old b n _ _ _ _ _ _ s h _ c.requires.1 _ c.at-entry.ensures _ _ (sym c.state.ensures ∙ c.if-state-task.false ∙ to_is g old b n _ _ _ _ _ _ s h _ c.requires.0) (sym c.letter.ensures ∙ c.if-letter-task.false ∙ above-is g old b n _ _ _ _ _ _ s h _ c.requires.0)) (λ e. c.if-task-at-eq1.false (count-is g old b n _ _ _ _ _ _ s h _ c.requires.0 ∙ e)) (c.pass_states.ensures.finished g old b n s h pl ag li whole (set_below g old b n _ _ _ _ _ _ s h _ c.requires.1 _ c.at-entry.ensures) (past_two g old b n _ _ _ _ _ _ s h _ _ c.args.union _ past c.requires.1 _ c.at-entry.ensures c.still_late-still.result c.still_late-still.ensures (set-of g old b n _ _ _ _ _ _ s h _ c.requires.1 _ c.at-entry.ensures) (same_head g old b n _ _ _ _ _ _ s h _ c.requires.1 _ c.at-entry.ensures _ _ (sym c.state.ensures ∙ c.if-state-task.false ∙ to_is g old b n _ _ _ _ _ _ s h _ c.requires.0) (sym c.letter.ensures ∙ c.if-letter-task.false ∙ above-is g old b n _ _ _ _ _ _ s h _ c.requires.0)) (λ e. c.if-task-at-eq1.false (count-is g old b n _ _ _ _ _ _ s h _ c.requires.0 ∙ e))))
