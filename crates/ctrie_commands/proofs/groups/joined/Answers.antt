use Rattle.std.proofs.Common.{◌≡◌, Ok, rules}
use Rattle.ctrie_commands.proofs.Gathering.{moved_on}
use Rattle.ctrie_commands.proofs.Grouping.{joined_more}
use Rattle.ctrie_commands.proofs.groups.joined.Goals as goal

pub loop-result-preserved : goal.loop-result-preserved
loop-result-preserved c =
    let is : c.in-Some.result ≡ Ok c.in_ok-group.group = search rules in
    record {
      so_far = joined_more _ _ c.in_ok-group.group _ _ c.loop-result.invariant.so_far is c.in_ok-append.ensures.items;
      left = moved_on _ _ _ _ _ c.loop-result.invariant.left c.in-Some.ensures.steps.0;
    }
