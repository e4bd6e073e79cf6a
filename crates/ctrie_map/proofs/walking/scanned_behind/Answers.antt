use Rattle.std.proofs.Common.{Ok, sym, ap, ◌∙◌}
use Rattle.std.specs.FinMap as map
use Rattle.std.proofs.lemmas.Result.{err_from_is_err_and}
use Rattle.ctrie_map.specs.Vocabulary.{content_at}
use Rattle.ctrie_map.specs.Beneath.proof_core.specs.Scanning.{scanned}
use Rattle.ctrie_map.specs.Beneath.map_worlds.specs.Worlds.{world_of}
use Rattle.ctrie_map.proofs.Lookups.{entries_read, mapped_by, refuses, refuses_alike}
use Rattle.ctrie_map.proofs.Walks.{few_scanned}
use Rattle.ctrie_map.proofs.walking.scanned_behind.Goals as goal

pub returns-clause-entries : goal.returns-clause-entries
returns-clause-entries c =
    let state = c.args.core.now.state in
    mapped_by (scanned state.limits.hash c.args.after c.args.room) (map.get (world_of state) c.args.handle) (λ m. map.entries m) (content_at state c.args.handle)
    (entries_read state c.limits.ensures.of_run c.args.handle c.in_ok-scan.ensures.open)
    ∙ ap Ok (sym (c.into_vec.ensures ∙ c.in_ok-scan.ensures.exact))

pub returns-in_err-scan-clause-refused : goal.returns-in_err-scan-clause-refused
returns-in_err-scan-clause-refused c =
    let state = c.args.core.now.state in
    let p = err_from_is_err_and c.from_residual.result c.from_residual.ensures.1 in
    rw p.1 (refuses_alike state c.args.handle (λ m. map.entries m) (λ m. scanned state.limits.hash c.args.after c.args.room (map.entries m)) p.0
    (refuses state c.limits.ensures.of_run c.args.handle c.in_err-scan.field-0.0 p.0 p.2 c.in_err-scan.ensures.refused))

pub returns-clause-few : goal.returns-clause-few
returns-clause-few c =
    let state = c.args.core.now.state in
    few_scanned state.limits.hash c.args.after c.args.room (content_at state c.args.handle) c.into_vec.result.items (c.into_vec.ensures ∙ c.in_ok-scan.ensures.exact)
