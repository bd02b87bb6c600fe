use Rattle.std.proofs.Common.{arith, ℕ}
use mathlib.Core.Path.{refl}
use lib.ListN.{length-replicate}
use Rattle.solver.proofs.Beginnings.{bounded, rule_fits, head-fits, head_bytes, more_rows, zeros-small, room-of, blanks-zero}
use Rattle.solver.proofs.saturating.rounds_in.Goals as goal

pub whole_as_slice-link : goal.whole_as_slice-link
whole_as_slice-link g c = omega (arith, c.requires.7)

pub link-requires : goal.link-requires
link-requires g c =
    let b = bounded c.requires.0.1 in
    (b.rules-fit, b.rules-few, b.letters-few, b.controls, omega (arith, c.requires.6, length-replicate {A = ℕ} g.row.FIRSTS 0), omega arith)

pub mark_rules-requires : goal.mark_rules-requires
mark_rules-requires g c =
    let b = bounded c.requires.0.1 in
    (b.rules-few, b.rules-fit, refl, λ r l. (let f = rule_fits c.requires.0.1 r l _ c.requires.3 in (f.state, omega (arith, f.above, b.letters-few), omega (arith, f.below, b.letters-few))))

pub shared_whole_as_slice-rules : goal.shared_whole_as_slice-rules
shared_whole_as_slice-rules g c = omega (arith, c.requires.7)

pub invariant_of-rules : goal.invariant_of-rules
invariant_of-rules g c =
    let b = bounded c.requires.0.1 in
    record {
      wide = c.requires.4.wide;
      small = c.requires.4.small;
      lettered = refl;
      ruled = λ r l. rule_fits c.requires.0.1 r l _ c.requires.3;
      headed = λ r l. head-fits c.requires.0.1 r l _ c.requires.3;
      owned = λ r l. head_bytes c.requires.0.1 r l;
      some = b.rules-few;
      controls = b.controls;
      lower = b.lower;
      states_few = b.states-few;
      rows = more_rows c.requires.0.1 c.requires.3;
      all_rows = omega (arith, c.requires.3);
      first = omega (arith, c.requires.6, c.link.auto.firsts, length-replicate {A = ℕ} g.row.FIRSTS 0);
      chained = omega (arith, c.link.auto.nexts);
      climbs = c.link.ensures.climbs;
      reading = c.mark_rules.auto.readers;
    }

pub invariant_of-arrays : goal.invariant_of-arrays
invariant_of-arrays g c =
    record {
      area = length-replicate {A = ℕ} g.row.WORDS 0;
      newer = length-replicate {A = ℕ} g.row.WORDS 0;
      keyed = length-replicate {A = ℕ} g.row.LINES 0;
      resting = length-replicate {A = ℕ} g.row.LINES 0;
      hinting = length-replicate {A = ℕ} g.row.HINTS 0;
      ending = length-replicate {A = ℕ} g.row.ENDS 0;
      adds = length-replicate {A = ℕ} g.row.GIVEN 0;
    }

pub invariant_of-marks : goal.invariant_of-marks
invariant_of-marks g c = record { freshes = refl; alives = refl; tidings = refl; holding = refl; few = λ k l. zeros-small 64 k }

pub rounds_of-requires : goal.rounds_of-requires
rounds_of-requires g c =
    let r = c.requires.5 in (
      omega (arith, r.memory, r.most, r.hinting),
      (c.requires.0, c.requires.1, c.requires.2, c.requires.3, c.requires.4.few, room-of c.requires.0.1 r, omega arith),
    )

pub returns : goal.returns
returns g c = λ h m given zeros few. c.rounds_of.ensures h m given c.mark_rules.ensures.reads c.link.ensures.linked zeros few c.raising_table.ensures refl (blanks-zero g.row.WORDS g.row.GIVEN g.row.ENDS)
