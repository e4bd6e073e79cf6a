use Rattle.std.proofs.lemmas.Result.{err_from_is_err_and}
use Rattle.ctrie_map.specs.declared.batches.Batch.TheVariants.{Puts}
use Rattle.ctrie_map.proofs.Batched.{refused_by_name}
use Rattle.ctrie_map.proofs.filling.put_all.Goals as goal

pub returns-in_err-name-clause-refused : goal.returns-in_err-name-clause-refused
returns-in_err-name-clause-refused c =
    let p = err_from_is_err_and c.from_residual.result c.from_residual.ensures.1 in
    rw (p.1, p.2) (refused_by_name Puts c.args.core.now.state c.args.names.now c.requires.whole c.args.handle c.args.pairs.now c.in_err-name.field-0.0 c.in_err-name.ensures.refused)
