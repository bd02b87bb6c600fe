use mathlib.Core.Bool.{not}
use mathlib.Core.Path.{ap}
use Rattle.noting.proofs.ActiveRules.{left-later, left-first}
use Rattle.noting.proofs.readers.find_active.Goals as goal

pub returns-then-not-is_first : goal.returns-then-not-is_first
returns-then-not-is_first c =
    record {
      by_index = left-later _ _ _ _ _ _ _ _ _ _ _ c.find_first.ensures.first_to c.join_at.ensures.joined c.find_second.ensures.second_to (ap not c.if-not-is_first.true);
    }

pub returns : goal.returns
returns c =
    record {
      by_index = left-first _ _ _ _ _ _ _ _ _ _ _ c.find_first.ensures.first_to c.join_at.ensures.joined c.find_second.ensures.second_to _ c.join_at-2.ensures.joined;
    }
