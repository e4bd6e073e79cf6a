use Rattle.std.proofs.Common.{◌≡◌, ◌≢◌, rules}
use Rattle.std.proofs.lemmas.Result.{err_from_is_err_and}
use Rattle.ctrie_map.proofs.Updated.{update_done, update_refused, update_same}
use Rattle.ctrie_map.proofs.map.Map.update.Goals as goal

pub returns-in_err-set_or_remove-clause-refused : goal.returns-in_err-set_or_remove-clause-refused
returns-in_err-set_or_remove-clause-refused g c =
    let p = err_from_is_err_and c.from_residual-in_err-set_or_remove.result c.from_residual-in_err-set_or_remove.ensures.1 in
    let other : c.in_ok-before.before ≢ c.f-after.result = search rules in
    let there = c.in_ok-before.ensures.there in
    rw (p.1, p.2) (update_refused c.args.self.now c.args.handle c.args.key there.0 there.1 (goal.F-post g c.args.f) c.in_ok-before.before c.f-after.result there.2
    c.f-after.ensures other c.set_or_remove.new.self c.in_err-set_or_remove.field-0.0 c.in_err-set_or_remove.ensures.refused)

pub returns-in_ok-set_or_remove-clause-done : goal.returns-in_ok-set_or_remove-clause-done
returns-in_ok-set_or_remove-clause-done g c =
    let there = c.in_ok-before.ensures.there in
    update_done c.args.self.now c.args.handle c.args.key there.0 there.1 (goal.F-post g c.args.f) c.in_ok-before.before c.f-after.result there.2 c.f-after.ensures c.set_or_remove.new.self
    c.in_ok-set_or_remove.ensures.done

pub returns-else-ne-clause-done : goal.returns-else-ne-clause-done
returns-else-ne-clause-done g c =
    let same : c.in_ok-before.before ≡ c.f-after.result = search rules in
    let there = c.in_ok-before.ensures.there in
    update_same c.args.self.now c.args.handle c.args.key there.0 there.1 (goal.F-post g c.args.f) c.in_ok-before.before c.f-after.result there.2 c.f-after.ensures same
