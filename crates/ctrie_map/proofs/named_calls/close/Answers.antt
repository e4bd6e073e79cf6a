use Rattle.std.proofs.Common.{Ok, refl, sym, subst, ◌∙◌}
use Rattle.std.proofs.lemmas.Result.{err_from_is_err_and}
use Rattle.ctrie_map.specs.Vocabulary.{Close}
use Rattle.ctrie_map.specs.Cores.{Carries}
use Rattle.ctrie_map.proofs.ByName.{close_refused, closed, core_closes, not_open}
use Rattle.ctrie_map.proofs.named_calls.close.Goals as goal

pub returns-in_default-clause-performs : goal.returns-in_default-clause-performs
returns-in_default-clause-performs c =
    not_open c.args.core.now.state c.args.names.now c.requires.whole c.args.handle (Close c.args.handle) refl (sym c.find.ensures ∙ c.in_default.is)

pub perform-requires-clause-allowed : goal.perform-requires-clause-allowed
perform-requires-clause-allowed c =
    core_closes c.args.core.now.state c.args.names.now c.requires.whole c.args.handle c.in-Some.name (sym c.find.ensures ∙ c.in-Some.is)

pub returns-in_err-reply-clause-performs : goal.returns-in_err-reply-clause-performs
returns-in_err-reply-clause-performs c =
    let p = err_from_is_err_and c.from_residual.result c.from_residual.ensures.1 in
    rw (p.1, p.2) ((close_refused c.args.core.now.state c.args.names.now c.requires.whole c.args.handle c.in-Some.name (sym c.find.ensures ∙ c.in-Some.is) c.in_err-reply.field-0.0
    c.perform.new.core.state c.in_err-reply.ensures.carries).performs)

pub returns-in-Closed-clause-whole : goal.returns-in-Closed-clause-whole
returns-in-Closed-clause-whole c = record {
  calm = c.perform.ensures.calm;
  named = rw c.take_back.ensures ((closed c.args.core.now.state c.args.names.now c.requires.whole c.args.handle c.in-Some.name (sym c.find.ensures ∙ c.in-Some.is)
      c.perform.new.core.state
      (subst (λ a. Carries (Ok a) c.args.core.now.state (Close c.in-Some.name.core) c.perform.new.core.state) c.in-Closed.is c.in_ok-reply.ensures.carries)).named);
}

pub returns-in-Closed-clause-performs : goal.returns-in-Closed-clause-performs
returns-in-Closed-clause-performs c =
    rw c.take_back.ensures ((closed c.args.core.now.state c.args.names.now c.requires.whole c.args.handle c.in-Some.name (sym c.find.ensures ∙ c.in-Some.is)
    c.perform.new.core.state
    (subst (λ a. Carries (Ok a) c.args.core.now.state (Close c.in-Some.name.core) c.perform.new.core.state) c.in-Closed.is c.in_ok-reply.ensures.carries)).performs)
