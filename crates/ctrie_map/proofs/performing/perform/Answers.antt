use Rattle.std.proofs.Common.{refl, sym, ◌∙◌}
use Rattle.ctrie_map.proofs.Carrying.{calm_after, can, does, left, performs, slots_left, works}
use Rattle.ctrie_map.proofs.Leaving.{full_lacks, not_begun}
use Rattle.ctrie_map.proofs.performing.perform.Goals as goal

pub carry_out-reply-requires : goal.carry_out-reply-requires
carry_out-reply-requires c =
    can c.args.core.now.state c.args.call c.requires.calm c.limits.ensures.of_run c.requires.change c.requires.allowed
    (sym c.is_worn_out.ensures ∙ c.if-is_worn_out.false) c.key_fits.ensures

pub sweep-requires-clause-rest : goal.sweep-requires-clause-rest
sweep-requires-clause-rest c =
    (does c.args.core.now.state c.args.call c.requires.calm c.limits.ensures.of_run c.requires.change c.requires.allowed
    (sym c.is_worn_out.ensures ∙ c.if-is_worn_out.false) c.key_fits.ensures c.calls_do.ensures c.carry_out-reply.result c.carry_out-reply.new.core.state c.carry_out-reply.ensures).rest

pub sweep-requires-clause-left : goal.sweep-requires-clause-left
sweep-requires-clause-left c =
    left c.args.core.now.state c.args.call c.requires.calm c.limits.ensures.of_run c.requires.change c.requires.allowed
    (sym c.is_worn_out.ensures ∙ c.if-is_worn_out.false) c.key_fits.ensures c.calls_do.ensures c.carry_out-reply.result c.carry_out-reply.new.core.state c.carry_out-reply.ensures

pub returns-then-is_full_for-clause-carries : goal.returns-then-is_full_for-clause-carries
returns-then-is_full_for-clause-carries c = (
  sym c.is_worn_out.ensures ∙ c.if-is_worn_out.false,
  (full_lacks c.args.core.now.state c.args.call (sym c.is_full_for.ensures ∙ c.if-is_full_for.true), (refl, refl)),
)

pub returns-clause-full : goal.returns-clause-full
returns-clause-full c = λ life adds none. absurd (not_begun c.args.core.now.state c.args.call (sym c.is_full_for.ensures ∙ c.if-is_full_for.false) adds none)

pub returns-clause-calm : goal.returns-clause-calm
returns-clause-calm c =
    calm_after c.args.core.now.state c.args.call c.requires.calm c.limits.ensures.of_run c.requires.change c.requires.allowed
    (sym c.is_worn_out.ensures ∙ c.if-is_worn_out.false) c.key_fits.ensures c.calls_do.ensures c.carry_out-reply.result c.carry_out-reply.new.core.state c.carry_out-reply.ensures
    c.sweeps_leave.ensures c.sweep.new.core.state c.sweep.ensures.swept
    (record {
      uses = c.handles_use_slots.ensures;
      fills = c.one_handle_uses_all.ensures;
      grows = c.calls_grow_little.ensures;
      copies = c.copies_are_no_larger.ensures;
      keeps = c.sweeps_keep_nodes.ensures;
    }) (sym c.is_full_for.ensures ∙ c.if-is_full_for.false) c.sweep.ensures.clean

pub returns-clause-carries : goal.returns-clause-carries
returns-clause-carries c =
    performs c.args.core.now.state c.args.call c.requires.calm c.limits.ensures.of_run c.requires.change c.requires.allowed
    (sym c.is_worn_out.ensures ∙ c.if-is_worn_out.false) c.key_fits.ensures c.calls_do.ensures c.carry_out-reply.result c.carry_out-reply.new.core.state c.carry_out-reply.ensures
    c.sweeps_leave.ensures c.sweep.new.core.state c.sweep.ensures.swept
    (record {
      uses = c.handles_use_slots.ensures;
      fills = c.one_handle_uses_all.ensures;
      grows = c.calls_grow_little.ensures;
      copies = c.copies_are_no_larger.ensures;
      keeps = c.sweeps_keep_nodes.ensures;
    }) (sym c.is_full_for.ensures ∙ c.if-is_full_for.false) c.refused_if_out.ensures c.enough_slots_for_calls.ensures

pub returns-clause-leads : goal.returns-clause-leads
returns-clause-leads c = λ some. (
  c.carry_out-reply.ensures.0,
  c.sweep.ensures.swept.0,
  c.carry_out-reply.result,
  c.carry_out-reply.new.core.state,
  c.carry_out-reply.ensures.1,
  c.sweep.ensures.swept.1,
  c.sweep.ensures.clean,
)

pub returns-clause-work : goal.returns-clause-work
returns-clause-work c =
    works c.args.core.now.state c.args.call c.requires.calm c.limits.ensures.of_run c.requires.change c.requires.allowed
    (sym c.is_worn_out.ensures ∙ c.if-is_worn_out.false) c.key_fits.ensures c.calls_do.ensures c.carry_out-reply.result c.carry_out-reply.new.core.state c.carry_out-reply.ensures
    c.sweeps_leave.ensures c.sweep.new.core.state c.sweep.ensures.swept

pub returns-clause-slots : goal.returns-clause-slots
returns-clause-slots c =
    slots_left c.args.core.now.state c.args.call c.requires.calm c.limits.ensures.of_run c.requires.change c.requires.allowed
    (sym c.is_worn_out.ensures ∙ c.if-is_worn_out.false) c.key_fits.ensures c.calls_do.ensures c.carry_out-reply.result c.carry_out-reply.new.core.state c.carry_out-reply.ensures
    c.sweeps_leave.ensures c.sweep.new.core.state c.sweep.ensures.swept
