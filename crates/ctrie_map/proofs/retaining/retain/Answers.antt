use Rattle.std.proofs.Common.{◌≡◌, ◌+◌, length, nat_eq, IfErr, IfOk, ap, arith, eqb-true, subst, sym, ◌∙◌}
use Rattle.std.proofs.lemmas.List.{nil_from_length}
use Rattle.std.proofs.lemmas.Result.{err_from_is_err_and}
use Rattle.ctrie_map.specs.declared.batches.Batch.TheVariants.{Removes}
use Rattle.ctrie_map.specs.Batches.{ChangesAll, RefusesBatch, work_of_changes}
use Rattle.ctrie_map.specs.Cores.{TakesUpTo}
use Rattle.ctrie_map.specs.Costs.{work_of_a_close}
use Rattle.ctrie_map.specs.Maps.{map_with}
use Rattle.ctrie_map.proofs.Retained.{all_wanted, both_if, done_then, may_be_asked, no_list, not_named, refused_then, refuses, retains, some_unwanted}
use Rattle.ctrie_map.proofs.retaining.retain.Goals as goal

pub returns-in_err-name-clause-refused : goal.returns-in_err-name-clause-refused
returns-in_err-name-clause-refused g c =
    let p = err_from_is_err_and c.from_residual.result c.from_residual.ensures.1 in
    rw (p.1, p.2) (not_named (goal.F-step g) c.args.f c.args.core.now.state c.args.names.now c.requires.whole c.args.handle c.in_err-name.field-0.0 c.in_err-name.ensures.refused)

pub returns-in_err-pairs-clause-refused : goal.returns-in_err-pairs-clause-refused
returns-in_err-pairs-clause-refused g c =
    let p = err_from_is_err_and c.from_residual-in_err-pairs.result c.from_residual-in_err-pairs.ensures.1 in
    rw (p.1, p.2) (no_list (goal.F-step g) c.args.f c.args.core.now.state c.args.names.now c.requires.whole c.args.handle c.in_ok-name.name c.in_ok-name.ensures.named c.in_err-pairs.field-0.0
    c.in_err-pairs.ensures.refused)

pub leave_unwanted-requires : goal.leave_unwanted-requires
leave_unwanted-requires g c =
    may_be_asked _ c.args.f c.args.core.now.state c.args.names.now c.requires.whole c.args.handle c.in_ok-name.name c.in_ok-name.ensures.named _ c.requires.callable
    c.in_ok-pairs.pairs.items c.in_ok-pairs.ensures.entries

pub returns-then-is_empty-clause-retains : goal.returns-then-is_empty-clause-retains
returns-then-is_empty-clause-retains g c =
    let size : length c.leave_unwanted.new.pairs.items ≡ c.leave_unwanted.new.pairs.len = omega (arith, c.leave_unwanted.new.pairs.ok.0) in
    all_wanted _ c.args.f c.args.core.now.state c.args.names.now c.requires.whole c.args.handle c.in_ok-name.name c.in_ok-name.ensures.named c.in_ok-pairs.pairs.items
    c.leave_unwanted.ensures.0 c.leave_unwanted.new.pairs.items c.in_ok-pairs.ensures.entries c.leave_unwanted.ensures.1
    (nil_from_length c.leave_unwanted.new.pairs.items (eqb-true (length c.leave_unwanted.new.pairs.items) 0 (ap (λ n. nat_eq n 0) size ∙ sym c.is_empty.ensures ∙ c.if-is_empty.true)))

pub returns-clause-retains : goal.returns-clause-retains
returns-clause-retains g c =
    let size : length c.leave_unwanted.new.pairs.items ≡ c.leave_unwanted.new.pairs.len = omega (arith, c.leave_unwanted.new.pairs.ok.0) in
    done_then (retains _ c.args.f c.args.core.now.state c.args.names.now c.requires.whole c.args.handle c.in_ok-name.name c.in_ok-name.ensures.named c.in_ok-pairs.pairs.items
    c.leave_unwanted.ensures.0 c.leave_unwanted.new.pairs.items c.in_ok-pairs.ensures.entries c.leave_unwanted.ensures.1
    (some_unwanted c.leave_unwanted.new.pairs.items (ap (λ n. nat_eq n 0) size ∙ sym c.is_empty.ensures ∙ c.if-is_empty.false))
    (map_with c.remove_all.new.core.state c.remove_all.new.names)
    (subst (λ xs. TakesUpTo (work_of_changes (length xs) + work_of_a_close) c.args.core.now.state c.remove_all.new.core.state) c.as_slice.ensures.value c.remove_all.ensures.work))
    c.remove_all.result
    (subst (λ xs. IfOk c.remove_all.result (λ _. ChangesAll Removes (map_with c.args.core.now.state c.args.names.now) c.args.handle xs (map_with c.remove_all.new.core.state c.remove_all.new.names)))
    c.as_slice.ensures.value c.remove_all.ensures.done)

pub returns-clause-refused : goal.returns-clause-refused
returns-clause-refused g c =
    let size : length c.leave_unwanted.new.pairs.items ≡ c.leave_unwanted.new.pairs.len = omega (arith, c.leave_unwanted.new.pairs.ok.0) in
    refused_then (λ why p. refuses _ c.args.f c.args.core.now.state c.args.names.now c.requires.whole c.args.handle c.in_ok-name.name c.in_ok-name.ensures.named c.in_ok-pairs.pairs.items
    c.leave_unwanted.ensures.0 c.leave_unwanted.new.pairs.items c.in_ok-pairs.ensures.entries c.leave_unwanted.ensures.1
    (some_unwanted c.leave_unwanted.new.pairs.items (ap (λ n. nat_eq n 0) size ∙ sym c.is_empty.ensures ∙ c.if-is_empty.false))
    (map_with c.remove_all.new.core.state c.remove_all.new.names)
    (subst (λ xs. TakesUpTo (work_of_changes (length xs) + work_of_a_close) c.args.core.now.state c.remove_all.new.core.state) c.as_slice.ensures.value c.remove_all.ensures.work) why p.0 p.1)
    c.remove_all.result
    (both_if _ _ c.remove_all.result
    (subst (λ xs. IfErr c.remove_all.result (RefusesBatch Removes (map_with c.args.core.now.state c.args.names.now) c.args.handle xs (map_with c.remove_all.new.core.state c.remove_all.new.names)))
    c.as_slice.ensures.value c.remove_all.ensures.refused) c.remove_all.ensures.others)
