use Rattle.std.proofs.Common.{◌≡◌, ◌≢◌, IfOk, None, subst, sym, ◌∙◌}
use Rattle.std.proofs.lemmas.Result.{err_from_is_err_and}
use Rattle.ctrie_map.specs.Vocabulary.{NoSlots}
use Rattle.ctrie_map.specs.Cores.{Carries, Leads, core_denial}
use Rattle.ctrie_map.proofs.Setting.{allowed, changes_so, refuses_so}
use Rattle.ctrie_map.proofs.batches.change_key.Goals as goal

pub perform-told-requires-clause-allowed : goal.perform-told-requires-clause-allowed
perform-told-requires-clause-allowed c =
    subst (λ k. core_denial c.args.core.now.state k ≡ None) (sym c.key_call.ensures.call)
    (allowed c.args.core.now.state c.args.handle c.args.pair c.requires.writable.0 c.requires.writable.1 c.args.batch)

pub returns-in_err-found-clause-refused : goal.returns-in_err-found-clause-refused
returns-in_err-found-clause-refused c =
    let p = err_from_is_err_and c.from_residual.result c.from_residual.ensures.1 in
    let said = subst (λ k. Carries c.perform-told.result c.args.core.now.state k c.perform-told.new.core.state
    × IfOk c.perform-told.result (λ answer. answer ≢ NoSlots → Leads c.args.core.now.state k c.perform-told.new.core.state))
    c.key_call.ensures.call (c.perform-told.ensures.carries, c.perform-told.ensures.leads) in
    rw (p.1, p.2) (refuses_so c.args.core.now.state c.args.handle c.args.pair c.requires.writable.0 c.requires.writable.1 c.requires.life c.perform-told.new.core.state c.args.batch
    c.perform-told.result said c.in_err-found.field-0.0 (sym c.found.ensures ∙ c.in_err-found.was))

pub returns-clause-changes : goal.returns-clause-changes
returns-clause-changes c =
    let said = subst (λ k. Carries c.perform-told.result c.args.core.now.state k c.perform-told.new.core.state
    × IfOk c.perform-told.result (λ answer. answer ≢ NoSlots → Leads c.args.core.now.state k c.perform-told.new.core.state))
    c.key_call.ensures.call (c.perform-told.ensures.carries, c.perform-told.ensures.leads) in
    changes_so c.args.core.now.state c.args.handle c.args.pair c.requires.writable.0 c.requires.writable.1 c.requires.life c.perform-told.new.core.state c.args.batch
    c.perform-told.result said c.in_ok-found.field-0 (sym c.found.ensures ∙ c.in_ok-found.was)
