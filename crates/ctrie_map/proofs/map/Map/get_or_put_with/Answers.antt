use Rattle.std.proofs.Common.{◌≡◌, None, rules}
use Rattle.std.proofs.lemmas.Result.{err_from_is_err_and}
use Rattle.ctrie_map.proofs.Updated.{found_there, made_done, made_refused}
use Rattle.ctrie_map.proofs.map.Map.get_or_put_with.Goals as goal

pub returns-in-Some-clause-done : goal.returns-in-Some-clause-done
returns-in-Some-clause-done g c =
    let there = c.in_ok-value.ensures.there in
    found_there c.args.self.now c.args.handle c.args.key there.0 there.1 (goal.F-post g c.args.f) c.in_ok-value.field-0 there.2 c.in-Some.value c.in-Some.is

pub returns-in_err-put-clause-refused : goal.returns-in_err-put-clause-refused
returns-in_err-put-clause-refused g c =
    let p = err_from_is_err_and c.from_residual-in_err-put.result c.from_residual-in_err-put.ensures.1 in
    let there = c.in_ok-value.ensures.there in
    let none : c.in_ok-value.field-0 ≡ None = search rules in
    rw (p.1, p.2) (made_refused c.args.self.now c.args.handle c.args.key there.0 there.1 (goal.F-post g c.args.f) c.in_ok-value.field-0 there.2 c.f-value.result none c.f-value.ensures c.put.new.self
    c.in_err-put.field-0.0 c.in_err-put.ensures.refused)

pub returns-clause-done : goal.returns-clause-done
returns-clause-done g c =
    let there = c.in_ok-value.ensures.there in
    let none : c.in_ok-value.field-0 ≡ None = search rules in
    made_done c.args.self.now c.args.handle c.args.key there.0 there.1 (goal.F-post g c.args.f) c.in_ok-value.field-0 there.2 c.f-value.result none c.f-value.ensures c.put.new.self
    c.in_ok-put.field-0 c.in_ok-put.ensures.done
