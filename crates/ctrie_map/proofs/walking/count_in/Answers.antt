use Rattle.std.proofs.Common.{◌≤◌, Ok, sym, ap, subst, ◌∙◌}
use Rattle.std.specs.FinMap as map
use Rattle.ctrie_map.specs.Beneath.proof_core.proofs.FewPairs.{few_in_content}
use Rattle.ctrie_map.specs.Vocabulary.{most_slots}
use Rattle.ctrie_map.proofs.Lookups.{closed}
use Rattle.ctrie_map.proofs.Walks.{counted}
use Rattle.ctrie_map.proofs.walking.count_in.Goals as goal

pub returns-in-Ok-clause-exact : goal.returns-in-Ok-clause-exact
returns-in-Ok-clause-exact c = ap Ok c.in-Ok.ensures.exact ∙ sym (counted c.args.core.now.state c.limits.ensures.of_run c.args.handle c.in-Ok.ensures.open)

pub returns-in-Ok-clause-few : goal.returns-in-Ok-clause-few
returns-in-Ok-clause-few c =
    subst (λ n. n ≤ most_slots) (sym c.in-Ok.ensures.exact) (few_in_content c.args.core.now.state c.limits.ensures.of_run c.args.handle c.in-Ok.ensures.open)

pub returns-in-Err-clause-exact : goal.returns-in-Err-clause-exact
returns-in-Err-clause-exact c = sym (closed c.args.core.now.state c.limits.ensures.of_run c.args.handle (λ m. map.len m) c.in-Err.ensures.refused.0)
