-- What is found are the ends of the rule's runs, each in an entry of an area that has no other; their sets are kept as its list. Both
-- areas are cleared, so that the next rule finds them empty. Assumes what the contract requires.
use borrow.Author.Rules.{rules}
use Prim.Native.Nat.{◌*◌}
use native.Mathlib.Omega.{arith}
use mathlib.Core.Path.{◌≡◌}
use lib.ListN.{length}
use Rattle.walk.proofs.Alone.{zero-stored, found}
use Rattle.walk.proofs.Listing.{listed_more, bounded-more, zeroed}
use Rattle.walk.proofs.ends.list_rule.Goals as goal

pub returns : goal.returns
returns c =
    let sets : length c.args.sets.now ≡ 3072 = search rules in
    let lists : length c.args.lists.now ≡ 4096 = search rules in
    let spans : length c.args.spans.now ≡ 512 = search rules in
    record {
      listed =
          λ g old b stands pl ag hit zs zm bd li.
          let f = found _ _ b _ _ 1024 _ _ (c.in-Some.ensures.filled g old b 1024 stands pl ag hit c.if-task-r-ne2.false (zero-stored 1024 _ sets zs) (λ k. zm (k * 3))) c.in-Some.ensures.within in
          listed_more g old _ _ _ _ _ _ _ _ _ li bd (omega (arith, c.args.task.now.able.few, c.requires.0)) 1024 f.entries f.stored f.are f.every c.keep_list-after.ensures;
      upper_bound =
          (omega (arith, c.keep_list-after.ensures.within), λ bd. bounded-more _ _ _ _ _ _ _ _ _ bd (omega (arith, c.args.task.now.able.few, c.requires.0)) c.keep_list-after.ensures, λ z. zeroed _ _ (c.fill-2.ensures.after (λ y e. e)), λ z. zeroed _ _ (c.fill.ensures.after (λ y e. e)));
    }
