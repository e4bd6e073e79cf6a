use Rattle.std.proofs.Common.{refl, sym, inl, inr, ◌∙◌}
use Rattle.std.proofs.lemmas.Result.{err_from_is_err_and}
use Rattle.ctrie_map.specs.Performing.{of_refusal}
use Rattle.ctrie_map.proofs.Firsts.{in_range, is_new, out_of_range, refuses, whole}
use Rattle.ctrie_map.proofs.map.Map.new.Goals as goal

pub returns-then-is_no_size-clause-refused : goal.returns-then-is_no_size-clause-refused
returns-then-is_no_size-clause-refused c = inl (out_of_range c.args.slots (sym c.is_no_size.ensures ∙ c.if-is_no_size.true), refl)

pub returns-in_err-core-clause-refused : goal.returns-in_err-core-clause-refused
returns-in_err-core-clause-refused c =
    let p = err_from_is_err_and c.from_residual.result c.from_residual.ensures.1 in
    rw (p.1, p.2) (refuses c.args.slots c.args.hash (in_range c.args.slots (sym c.is_no_size.ensures ∙ c.if-is_no_size.false)) c.in_err-core.field-0.0
    (of_refusal c.in_err-core.field-0.0) refl c.in_err-core.ensures.refused)

pub returns-in_err-names-clause-refused : goal.returns-in_err-names-clause-refused
returns-in_err-names-clause-refused c =
    let p = err_from_is_err_and c.from_residual-in_err-names.result c.from_residual-in_err-names.ensures.1 in
    rw (p.1, p.2) (inr (in_range c.args.slots (sym c.is_no_size.ensures ∙ c.if-is_no_size.false), refl))

pub invariant_of-result : goal.invariant_of-result
invariant_of-result c =
    whole c.args.slots c.args.hash c.in_ok-core.core.state c.in_ok-core.ensures.made c.in_ok-core.ensures.in_range c.handles_use_slots.ensures c.limits.ensures.of_run
    c.in_ok-names.names c.in_ok-names.ensures

pub returns-clause-made : goal.returns-clause-made
returns-clause-made c =
    is_new c.args.slots c.args.hash c.in_ok-core.core.state c.in_ok-core.ensures.made c.in_ok-core.ensures.in_range
    (in_range c.args.slots (sym c.is_no_size.ensures ∙ c.if-is_no_size.false)) c.in_ok-names.names c.in_ok-names.ensures

pub returns-clause-in_range : goal.returns-clause-in_range
returns-clause-in_range c = in_range c.args.slots (sym c.is_no_size.ensures ∙ c.if-is_no_size.false)
