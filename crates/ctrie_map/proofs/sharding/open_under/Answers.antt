use Rattle.std.proofs.Common.{◌≡◌, Ok, refl, sym, subst, ◌∙◌, ap}
use Rattle.std.proofs.lemmas.Result.{err_from_is_err_and}
use Rattle.ctrie_map.specs.Vocabulary.{Snapshot}
use Rattle.ctrie_map.specs.Beneath.map_worlds.specs.Worlds.{world_of}
use Rattle.ctrie_map.specs.Cores.{Carries}
use Rattle.ctrie_map.specs.Performing.{copy_call}
use Rattle.ctrie_map.proofs.ByName.{copy_refused, core_copies, not_open, on_copy, opened, unopened}
use Rattle.ctrie_map.proofs.Unnamed.{refused_under, unnamed}
use Rattle.ctrie_map.proofs.sharding.open_under.Goals as goal

pub returns-in_default-clause-performs : goal.returns-in_default-clause-performs
returns-in_default-clause-performs c = (
  not_open c.args.core.now.state c.args.names.now c.requires.whole c.args.handle (copy_call c.args.access c.args.handle) (on_copy c.args.handle c.args.access)
      (sym c.find.ensures ∙ c.in_default.is),
  λ e. cc e,
)

pub perform-requires-clause-allowed : goal.perform-requires-clause-allowed
perform-requires-clause-allowed c =
    core_copies c.args.core.now.state c.args.names.now c.requires.whole c.args.handle c.in-Some.name (sym c.find.ensures ∙ c.in-Some.is) c.args.access
    c.args.number c.requires.low (unnamed (world_of c.args.core.now.state) c.args.names.now c.requires.whole.named c.args.number c.requires.free)

pub returns-in_err-reply-clause-performs : goal.returns-in_err-reply-clause-performs
returns-in_err-reply-clause-performs c =
    let p = err_from_is_err_and c.from_residual.result c.from_residual.ensures.1 in
    rw (p.1, p.2) (
      (copy_refused c.args.core.now.state c.args.names.now c.requires.whole c.args.handle c.in-Some.name (sym c.find.ensures ∙ c.in-Some.is) c.args.access
          c.args.number c.requires.low (unnamed (world_of c.args.core.now.state) c.args.names.now c.requires.whole.named c.args.number c.requires.free)
          (λ copy. copy ≡ c.args.number) c.in_err-reply.field-0.0 c.perform.new.core.state c.in_err-reply.ensures.carries).performs,
      refused_under c.in_err-reply.field-0.0 c.in_err-reply.ensures.carries.0,
    )

pub give-requires-clause-free : goal.give-requires-clause-free
give-requires-clause-free c = unnamed (world_of c.args.core.now.state) c.args.names.now c.requires.whole.named c.args.number c.requires.free

pub returns-in-Opened-clause-whole : goal.returns-in-Opened-clause-whole
returns-in-Opened-clause-whole c = record {
  calm = c.perform.ensures.calm;
  named = rw c.give.ensures ((opened c.args.core.now.state c.args.names.now c.requires.whole c.args.handle c.in-Some.name (sym c.find.ensures ∙ c.in-Some.is) c.args.access
      c.args.number c.requires.low (unnamed (world_of c.args.core.now.state) c.args.names.now c.requires.whole.named c.args.number c.requires.free)
      (λ copy. copy ≡ c.args.number)
      refl c.in-Opened.core
      c.perform.new.core.state (subst (λ a. Carries (Ok a) c.args.core.now.state (Snapshot c.in-Some.name.core) c.perform.new.core.state) c.in-Opened.is
      c.in_ok-reply.ensures.carries)).named);
}

pub returns-in-Opened-clause-performs : goal.returns-in-Opened-clause-performs
returns-in-Opened-clause-performs c =
    rw c.give.ensures (
      (opened c.args.core.now.state c.args.names.now c.requires.whole c.args.handle c.in-Some.name (sym c.find.ensures ∙ c.in-Some.is) c.args.access
          c.args.number c.requires.low (unnamed (world_of c.args.core.now.state) c.args.names.now c.requires.whole.named c.args.number c.requires.free)
          (λ copy. copy ≡ c.args.number)
          refl c.in-Opened.core
          c.perform.new.core.state (subst (λ a. Carries (Ok a) c.args.core.now.state (Snapshot c.in-Some.name.core) c.perform.new.core.state) c.in-Opened.is
          c.in_ok-reply.ensures.carries)).performs,
      λ e. cc e,
    )

pub returns-in_default-2 : goal.returns-in_default-2
returns-in_default-2 c =
    let u = unopened c.args.core.now.state c.args.names.now c.requires.whole c.args.handle c.in-Some.name (sym c.find.ensures ∙ c.in-Some.is) c.args.access
    c.args.number c.requires.low (unnamed (world_of c.args.core.now.state) c.args.names.now c.requires.whole.named c.args.number c.requires.free)
    (λ copy. copy ≡ c.args.number) c.in_ok-reply.reply c.perform.new.core.state c.in_default-2.not-Opened c.in_ok-reply.ensures.carries in record {
      whole = record { calm = c.perform.ensures.calm; named = u.named };
      performs = (u.performs, (λ e. cc e));
      full = λ full. sym c.in_ok-reply.was ∙ c.perform.ensures.full full.1 refl full.3;
      work = c.perform.ensures.work;
    }

pub returns-in_default-clause-full : goal.returns-in_default-clause-full
returns-in_default-clause-full c = λ full. cc (sym full.0 ∙ (returns-in_default-clause-performs c).0.0)

pub returns-in_err-reply-clause-full : goal.returns-in_err-reply-clause-full
returns-in_err-reply-clause-full c = λ full. cc (sym c.in_err-reply.was ∙ c.perform.ensures.full full.1 refl full.3)

pub returns-in-Opened-clause-full : goal.returns-in-Opened-clause-full
returns-in-Opened-clause-full c = λ full. cc (sym (ap Ok c.in-Opened.is) ∙ sym c.in_ok-reply.was ∙ c.perform.ensures.full full.1 refl full.3)
