use native.Mathlib.Omega.{arith}
use mathlib.Core.Path.{◌∙◌}
use Rattle.unions.specs.PoolLaws.{next_row}
use Rattle.unions.specs.PlaceLaws.{place-small}
use Rattle.noting.proofs.Starting.{target, starting-first, starting-begun, starting-ends, starting-beyond, head-found, set_found}
use Rattle.noting.proofs.targets.note_targets.Goals as goal

pub returns-then-size-targetcount : goal.returns-then-size-targetcount
returns-then-size-targetcount c =
    record {
      starts = (λ g el count states sizes rules held good elements lay eg eh ec bare bare'. starting-beyond _ _ _ _ _ _ _ _ c.args.log.now c.args.news.now _ _ _ _ _ c.if-size-targetcount.true g el (target g el count states sizes rules _ _ _ _ _ _ _ _ held good elements lay eg eh ec bare bare'));
      upper_bound = tt;
    }

pub loop-t-init : goal.loop-t-init
loop-t-init c = starting-first _ _ _ _ _ _ _ _ _ _

pub overflow_mul-at : goal.overflow_mul-at
overflow_mul-at c = omega (arith, c.loop-t-test.true, c.requires.2)

pub offset_bounds-targets-at : goal.offset_bounds-targets-at
offset_bounds-targets-at c = omega (arith, c.loop-t-test.true, c.requires.2)

pub bounds-targets-at : goal.bounds-targets-at
bounds-targets-at c = omega (arith, c.loop-t-test.true, c.requires.3)

pub overflow_add-at : goal.overflow_add-at
overflow_add-at c = omega (arith, c.loop-t-test.true, c.requires.2)

pub offset_bounds-targets-at-in-loop-t : goal.offset_bounds-targets-at-in-loop-t
offset_bounds-targets-at-in-loop-t c = omega (arith, c.loop-t-test.true, c.requires.2)

pub bounds-targets-at-in-loop-t : goal.bounds-targets-at-in-loop-t
bounds-targets-at-in-loop-t c = omega (arith, c.loop-t-test.true, c.requires.3)

pub head_at-head-requires : goal.head_at-head-requires
head_at-head-requires c = c.requires.10

pub shape_of-all-then-heads-head : goal.shape_of-all-then-heads-head
shape_of-all-then-heads-head c = c.loop-t.invariant.areas

pub shape_of-new-then-heads-head : goal.shape_of-new-then-heads-head
shape_of-new-then-heads-head c = c.loop-t.invariant.newer

pub shape_of-log-then-heads-head : goal.shape_of-log-then-heads-head
shape_of-log-then-heads-head c = c.loop-t.invariant.same

pub shape_of-news-then-heads-head : goal.shape_of-news-then-heads-head
shape_of-news-then-heads-head c = c.loop-t.invariant.tidings

pub returns-then-heads-head : goal.returns-then-heads-head
returns-then-heads-head c =
    record {
      starts = (λ g el count states sizes rules held good elements lay eg eh ec bare bare'. absurd (head-found _ _ _ _ _ _ _ _ c.args.log.now c.args.news.now _ c.loop-t-test.true g el (target g el count states sizes rules _ _ _ _ _ _ _ _ held good elements lay eg eh ec bare bare') _ c.head_at-head.ensures.value c.if-heads-head.true));
      upper_bound = tt;
    }

pub overflow_add-at-in-loop-t : goal.overflow_add-at-in-loop-t
overflow_add-at-in-loop-t c = omega (arith, c.loop-t-test.true, c.requires.2)

pub offset_bounds-targets-at-in-loop-t-2 : goal.offset_bounds-targets-at-in-loop-t-2
offset_bounds-targets-at-in-loop-t-2 c = omega (arith, c.loop-t-test.true, c.requires.2)

pub bounds-targets-at-in-loop-t-2 : goal.bounds-targets-at-in-loop-t-2
bounds-targets-at-in-loop-t-2 c = omega (arith, c.loop-t-test.true, c.requires.3)

pub element_set-x-requires : goal.element_set-x-requires
element_set-x-requires c = (c.requires.4, c.requires.5)

pub shape_of-all-then-n-x : goal.shape_of-all-then-n-x
shape_of-all-then-n-x c = c.loop-t.invariant.areas

pub shape_of-new-then-n-x : goal.shape_of-new-then-n-x
shape_of-new-then-n-x c = c.loop-t.invariant.newer

pub shape_of-log-then-n-x : goal.shape_of-log-then-n-x
shape_of-log-then-n-x c = c.loop-t.invariant.same

pub shape_of-news-then-n-x : goal.shape_of-news-then-n-x
shape_of-news-then-n-x c = c.loop-t.invariant.tidings

pub returns-then-n-x : goal.returns-then-n-x
returns-then-n-x c =
    record {
      starts = (λ g el count states sizes rules held good elements lay eg eh ec bare bare'. absurd (set_found _ _ _ _ _ _ _ _ c.args.log.now c.args.news.now _ c.loop-t-test.true g el (target g el count states sizes rules _ _ _ _ _ _ _ _ held good elements lay eg eh ec bare bare') _ c.element_set-x.ensures.upper_bound_2 c.if-n-x.true));
      upper_bound = tt;
    }

pub overflow_mul-head : goal.overflow_mul-head
overflow_mul-head c = omega (arith, place-small c.head_at-head.result c.args.n (omega (arith, c.if-heads-head.false, c.requires.6)) c.requires.7)

pub put_at-requires : goal.put_at-requires
put_at-requires c = omega (arith, next_row c.head_at-head.result c.args.heads c.args.n c.if-heads-head.false, c.if-n-x.false, c.requires.8, c.loop-t.invariant.areas)

pub overflow_mul-head-in-loop-t : goal.overflow_mul-head-in-loop-t
overflow_mul-head-in-loop-t c = omega (arith, place-small c.head_at-head.result c.args.n (omega (arith, c.if-heads-head.false, c.requires.6)) c.requires.7)

pub put_at-requires-in-loop-t : goal.put_at-requires-in-loop-t
put_at-requires-in-loop-t c = omega (arith, next_row c.head_at-head.result c.args.heads c.args.n c.if-heads-head.false, c.if-n-x.false, c.requires.8, c.requires.9, c.loop-t.invariant.newer)

pub offset_bounds-targets-at-in-loop-t-3 : goal.offset_bounds-targets-at-in-loop-t-3
offset_bounds-targets-at-in-loop-t-3 c = omega (arith, c.loop-t-test.true, c.requires.2)

pub bounds-targets-at-in-loop-t-3 : goal.bounds-targets-at-in-loop-t-3
bounds-targets-at-in-loop-t-3 c = omega (arith, c.loop-t-test.true, c.requires.3)

pub overflow_cast-targets : goal.overflow_cast-targets
overflow_cast-targets c = omega (arith, c.head_at-head.ensures.state_bound c.if-heads-head.false)

pub overflow_add-at-in-loop-t-2 : goal.overflow_add-at-in-loop-t-2
overflow_add-at-in-loop-t-2 c = omega (arith, c.loop-t-test.true, c.requires.2)

pub offset_bounds-targets-at-in-loop-t-4 : goal.offset_bounds-targets-at-in-loop-t-4
offset_bounds-targets-at-in-loop-t-4 c = omega (arith, c.loop-t-test.true, c.requires.2)

pub bounds-targets-at-in-loop-t-4 : goal.bounds-targets-at-in-loop-t-4
bounds-targets-at-in-loop-t-4 c = omega (arith, c.loop-t-test.true, c.requires.3)

pub overflow_cast-targets-in-loop-t : goal.overflow_cast-targets-in-loop-t
overflow_cast-targets-in-loop-t c = omega (arith, c.head_at-head.ensures.state_bound c.if-heads-head.false)

pub mark-requires : goal.mark-requires
mark-requires c = (omega (arith, c.head_at-head.ensures.state_bound c.if-heads-head.false, c.requires.11, c.loop-t.invariant.tidings), (c.head_at-head.ensures.state_bound c.if-heads-head.false).1)

pub overflow_mul-t : goal.overflow_mul-t
overflow_mul-t c = omega (arith, c.loop-t-test.true, c.requires.2)

pub offset_bounds-targets-at-in-loop-t-5 : goal.offset_bounds-targets-at-in-loop-t-5
offset_bounds-targets-at-in-loop-t-5 c = omega (arith, c.loop-t-test.true, c.requires.2)

pub bounds-targets-at-in-loop-t-5 : goal.bounds-targets-at-in-loop-t-5
bounds-targets-at-in-loop-t-5 c = omega (arith, c.loop-t-test.true, c.requires.3)

pub overflow_add-at-in-loop-t-3 : goal.overflow_add-at-in-loop-t-3
overflow_add-at-in-loop-t-3 c = omega (arith, c.loop-t-test.true, c.requires.2)

pub offset_bounds-targets-at-in-loop-t-6 : goal.offset_bounds-targets-at-in-loop-t-6
offset_bounds-targets-at-in-loop-t-6 c = omega (arith, c.loop-t-test.true, c.requires.2)

pub bounds-targets-at-in-loop-t-6 : goal.bounds-targets-at-in-loop-t-6
bounds-targets-at-in-loop-t-6 c = omega (arith, c.loop-t-test.true, c.requires.3)

pub overflow_mul-targets : goal.overflow_mul-targets
overflow_mul-targets c = omega (arith, c.head_at-head.ensures.state_bound c.if-heads-head.false)

pub overflow_add-targets : goal.overflow_add-targets
overflow_add-targets c = omega (arith, c.head_at-head.ensures.state_bound c.if-heads-head.false)

pub overflow_cast-x : goal.overflow_cast-x
overflow_cast-x c = omega (arith, c.element_set-x.ensures.upper_bound)

pub put_entry-requires : goal.put_entry-requires
put_entry-requires c = omega (arith, c.loop-t-test.true, c.if-size-targetcount.false, c.requires.0, c.loop-t.invariant.same)

pub loop-t-preserved : goal.loop-t-preserved
loop-t-preserved c = record { below = omega (arith, c.loop-t-test.true); areas = c.put_at.auto.words ∙ c.loop-t.invariant.areas; newer = c.put_at-in-loop-t.auto.words ∙ c.loop-t.invariant.newer; same = c.put_entry.auto.table ∙ c.loop-t.invariant.same; tidings = c.mark.auto.words ∙ c.loop-t.invariant.tidings; begun = λ g el k. starting-begun _ _ _ _ _ _ _ _ c.args.log.now c.args.news.now _ c.loop-t-test.true g el k _ c.element_set-x.ensures.upper_bound_2 _ c.head_at-head.ensures.value _ _ _ _ _ _ _ _ (omega (arith, c.loop-t-test.true, c.if-size-targetcount.false, c.requires.0, c.loop-t.invariant.same)) c.put_at.ensures.put c.put_at-in-loop-t.ensures.put c.put_entry.ensures.table_after c.mark.ensures.by_index (c.loop-t.invariant.begun g el k) }

pub shape_of-all : goal.shape_of-all
shape_of-all c = c.loop-t.invariant.areas

pub shape_of-new : goal.shape_of-new
shape_of-new c = c.loop-t.invariant.newer

pub shape_of-log : goal.shape_of-log
shape_of-log c = c.loop-t.invariant.same

pub shape_of-news : goal.shape_of-news
shape_of-news c = c.loop-t.invariant.tidings

pub returns : goal.returns
returns c =
    record {
      starts = (λ g el count states sizes rules held good elements lay eg eh ec bare bare'. starting-ends _ _ _ _ _ _ _ _ _ _ _ _ _ _ _ c.loop-t-test.false c.loop-t.invariant _ c.if-size-targetcount.false g el (target g el count states sizes rules _ _ _ _ _ _ _ _ held good elements lay eg eh ec bare bare'));
      upper_bound = omega (arith, c.if-size-targetcount.false);
    }
