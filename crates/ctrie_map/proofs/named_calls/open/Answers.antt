use Rattle.std.proofs.Common.{Ok, sym, subst, ◌∙◌, ap, refl}
use Rattle.std.proofs.lemmas.Result.{err_from_is_err_and}
use Rattle.ctrie_map.specs.Vocabulary.{Snapshot}
use Rattle.ctrie_map.specs.Cores.{Carries}
use Rattle.ctrie_map.specs.Beneath.map_worlds.specs.Worlds.{world_of}
use Rattle.ctrie_map.specs.Maps.{handles_of, map_with}
use Rattle.ctrie_map.specs.Names.{IsNext}
use Rattle.ctrie_map.specs.Performing.{copy_call}
use Rattle.ctrie_map.proofs.ByName.{copy_refused, core_copies, full, not_open, on_copy, opened, unopened}
use Rattle.ctrie_map.proofs.Unnamed.{is_next}
use Rattle.ctrie_map.proofs.named_calls.«open».Goals as goal

pub returns-in_default-clause-performs : goal.returns-in_default-clause-performs
returns-in_default-clause-performs c =
    not_open c.args.core.now.state c.args.names.now c.requires.whole c.args.handle (copy_call c.args.access c.args.handle) (on_copy c.args.handle c.args.access)
    (sym c.find.ensures ∙ c.in_default.is)

pub returns-in_default-next_free-clause-performs : goal.returns-in_default-next_free-clause-performs
returns-in_default-next_free-clause-performs c =
    full c.args.core.now.state c.args.names.now c.requires.whole c.args.handle c.in-Some.name (sym c.find.ensures ∙ c.in-Some.is) c.args.access c.in_default-next_free.ensures.none

pub perform-requires-clause-allowed : goal.perform-requires-clause-allowed
perform-requires-clause-allowed c =
    core_copies c.args.core.now.state c.args.names.now c.requires.whole c.args.handle c.in-Some.name (sym c.find.ensures ∙ c.in-Some.is) c.args.access
    c.in-Some-next_free.number c.in-Some-next_free.ensures.next.within c.in-Some-next_free.ensures.next.free

pub returns-in_err-reply-clause-performs : goal.returns-in_err-reply-clause-performs
returns-in_err-reply-clause-performs c =
    let p = err_from_is_err_and c.from_residual.result c.from_residual.ensures.1 in
    rw (p.1, p.2) ((copy_refused c.args.core.now.state c.args.names.now c.requires.whole c.args.handle c.in-Some.name (sym c.find.ensures ∙ c.in-Some.is) c.args.access
    c.in-Some-next_free.number c.in-Some-next_free.ensures.next.within c.in-Some-next_free.ensures.next.free
    (IsNext c.args.names.now.last (handles_of (map_with c.args.core.now.state c.args.names.now))) c.in_err-reply.field-0.0 c.perform.new.core.state c.in_err-reply.ensures.carries).performs)

pub returns-in-Opened-clause-whole : goal.returns-in-Opened-clause-whole
returns-in-Opened-clause-whole c = record {
  calm = c.perform.ensures.calm;
  named = rw c.give.ensures ((opened c.args.core.now.state c.args.names.now c.requires.whole c.args.handle c.in-Some.name (sym c.find.ensures ∙ c.in-Some.is) c.args.access
      c.in-Some-next_free.number c.in-Some-next_free.ensures.next.within c.in-Some-next_free.ensures.next.free
      (IsNext c.args.names.now.last (handles_of (map_with c.args.core.now.state c.args.names.now)))
      (is_next (world_of c.args.core.now.state) c.args.names.now c.requires.whole.named c.in-Some-next_free.number c.in-Some-next_free.ensures.next)
      c.in-Opened.core c.perform.new.core.state
      (subst (λ a. Carries (Ok a) c.args.core.now.state (Snapshot c.in-Some.name.core) c.perform.new.core.state) c.in-Opened.is c.in_ok-reply.ensures.carries)).named);
}

pub returns-in-Opened-clause-performs : goal.returns-in-Opened-clause-performs
returns-in-Opened-clause-performs c =
    rw c.give.ensures ((opened c.args.core.now.state c.args.names.now c.requires.whole c.args.handle c.in-Some.name (sym c.find.ensures ∙ c.in-Some.is) c.args.access
    c.in-Some-next_free.number c.in-Some-next_free.ensures.next.within c.in-Some-next_free.ensures.next.free
    (IsNext c.args.names.now.last (handles_of (map_with c.args.core.now.state c.args.names.now)))
    (is_next (world_of c.args.core.now.state) c.args.names.now c.requires.whole.named c.in-Some-next_free.number c.in-Some-next_free.ensures.next)
    c.in-Opened.core c.perform.new.core.state
    (subst (λ a. Carries (Ok a) c.args.core.now.state (Snapshot c.in-Some.name.core) c.perform.new.core.state) c.in-Opened.is c.in_ok-reply.ensures.carries)).performs)

pub returns-in_default-2 : goal.returns-in_default-2
returns-in_default-2 c =
    let u = unopened c.args.core.now.state c.args.names.now c.requires.whole c.args.handle c.in-Some.name (sym c.find.ensures ∙ c.in-Some.is) c.args.access
    c.in-Some-next_free.number c.in-Some-next_free.ensures.next.within c.in-Some-next_free.ensures.next.free
    (IsNext c.args.names.now.last (handles_of (map_with c.args.core.now.state c.args.names.now))) c.in_ok-reply.reply c.perform.new.core.state
    c.in_default-2.not-Opened c.in_ok-reply.ensures.carries in record {
      whole = record { calm = c.perform.ensures.calm; named = u.named };
      performs = u.performs;
      full = λ full. sym c.in_ok-reply.was ∙ c.perform.ensures.full full.1 refl full.3;
      work = c.perform.ensures.work;
    }

pub returns-in_default-clause-full : goal.returns-in_default-clause-full
returns-in_default-clause-full c = λ full. cc (sym full.0 ∙ (returns-in_default-clause-performs c).0)

pub returns-in_default-next_free-clause-full : goal.returns-in_default-next_free-clause-full
returns-in_default-next_free-clause-full c = λ full. cc (sym full.0 ∙ (returns-in_default-next_free-clause-performs c).0)

pub returns-in_err-reply-clause-full : goal.returns-in_err-reply-clause-full
returns-in_err-reply-clause-full c = λ full. cc (sym c.in_err-reply.was ∙ c.perform.ensures.full full.1 refl full.3)

pub returns-in-Opened-clause-full : goal.returns-in-Opened-clause-full
returns-in-Opened-clause-full c = λ full. cc (sym (ap Ok c.in-Opened.is) ∙ sym c.in_ok-reply.was ∙ c.perform.ensures.full full.1 refl full.3)
