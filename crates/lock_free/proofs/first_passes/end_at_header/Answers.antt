use Rattle.std.proofs.Common.{subst, sym}
use Rattle.lock_free.specs.declared.reading.Passed.TheVariants as passed
use Rattle.lock_free.specs.declared.reading.ReadFrom.TheVariants as resume
use Rattle.lock_free.specs.LinkReads.{given_by, HasReadOut}
use Rattle.lock_free.proofs.LinkWays.{goes_from, out_after, out_told, some_from}
use Rattle.lock_free.proofs.OnePass.{at_header, failed_passes, gives, is_failed, is_pending, on_after, pending_passes}
use Rattle.lock_free.proofs.first_passes.end_at_header.Goals as goal

pub read_header-header-requires-clause-reading : goal.read_header-header-requires-clause-reading
read_header-header-requires-clause-reading c = at_header c.args.actor.now.me.0 c.args.indirection c.args.link c.requires.passing

pub returns-in-None-clause-ended : goal.returns-in-None-clause-ended
returns-in-None-clause-ended c = (
  given_by c.args.link c.read_header-header.result,
  gives c.args.actor.now.me.0 c.args.indirection c.args.link c.requires.passing
      c.args.words.now.table_id.words c.read_header-header.new.actor.me.0 c.requires.sound c.read_header-header.ensures.sound c.read_header-header.result c.read_header-header.ensures.read
      c.in-None.is,
)

pub end_put_back-requires-clause-failed : goal.end_put_back-requires-clause-failed
end_put_back-requires-clause-failed c = is_failed c.args.actor.now.me.0 c.args.indirection c.args.link c.requires.passing
    c.args.words.now.table_id.words c.read_header-header.new.actor.me.0 c.requires.sound c.read_header-header.ensures.sound c.read_header-header.result c.read_header-header.ensures.read
    c.in-Failed.former c.in-Failed.is

pub end_put_back-requires-clause-next : goal.end_put_back-requires-clause-next
end_put_back-requires-clause-next c q w then p =
    goes_from c.args.words.now.table_id.words c.args.way c.args.indirection c.args.actor.now.me.0 (resume.Header c.args.link) c.requires.sound c.requires.way c.requires.passing w then q
    (failed_passes c.args.actor.now.me.0 c.args.indirection c.args.link c.requires.passing
    c.args.words.now.table_id.words c.read_header-header.new.actor.me.0 c.requires.sound c.read_header-header.ensures.sound c.read_header-header.result c.read_header-header.ensures.read
    c.in-Failed.former c.in-Failed.is w q p)

pub returns-in-Failed-clause-ended : goal.returns-in-Failed-clause-ended
returns-in-Failed-clause-ended c =
    let h = c.end_put_back.ensures.ended in
    subst (λ told. HasReadOut c.args.actor.now.me.0 told c.end_put_back.new.actor.me.0) (sym c.told_apart.ensures)
    (out_told c.args.words.now.table_id.words c.args.way c.args.indirection c.args.actor.now.me.0 (resume.Header c.args.link) c.requires.sound c.requires.way c.requires.passing h.1 h.2 h.0
    (failed_passes c.args.actor.now.me.0 c.args.indirection c.args.link c.requires.passing
    c.args.words.now.table_id.words c.read_header-header.new.actor.me.0 c.requires.sound c.read_header-header.ensures.sound c.read_header-header.result c.read_header-header.ensures.read
    c.in-Failed.former c.in-Failed.is h.1 h.0 h.3)
    c.end_put_back.result c.end_put_back.new.actor.me.0 h.4)

pub settle_in_place-requires-clause-way : goal.settle_in_place-requires-clause-way
settle_in_place-requires-clause-way c = on_after c.args.actor.now.me.0 c.args.indirection c.args.link c.requires.passing
    c.args.words.now.table_id.words c.read_header-header.new.actor.me.0 c.requires.sound c.read_header-header.ensures.sound c.read_header-header.result c.read_header-header.ensures.read
    c.args.way c.requires.way c.in-Pending.field-0 c.in-Pending.is

pub settle_in_place-requires-clause-pending : goal.settle_in_place-requires-clause-pending
settle_in_place-requires-clause-pending c = is_pending c.args.actor.now.me.0 c.args.indirection c.args.link c.requires.passing
    c.args.words.now.table_id.words c.read_header-header.new.actor.me.0 c.requires.sound c.read_header-header.ensures.sound c.read_header-header.result c.read_header-header.ensures.read
    c.args.way c.requires.way c.in-Pending.field-0 c.in-Pending.is

pub returns-in-Gives-clause-ended : goal.returns-in-Gives-clause-ended
returns-in-Gives-clause-ended c = (
  c.in-Gives.field-0,
  pending_passes c.args.actor.now.me.0 c.args.indirection c.args.link c.requires.passing
      c.args.words.now.table_id.words c.read_header-header.new.actor.me.0 c.requires.sound c.read_header-header.ensures.sound c.read_header-header.result c.read_header-header.ensures.read
      c.args.way c.requires.way c.in-Pending.field-0 c.in-Pending.is c.settle_in_place.new.actor.me.0 (passed.Gives c.in-Gives.field-0) (c.in-Gives.ensures {u = tt}).passed,
)

pub end_on-requires-clause-way : goal.end_on-requires-clause-way
end_on-requires-clause-way c =
    (goes_from c.args.words.now.table_id.words c.args.way c.args.indirection c.args.actor.now.me.0 (resume.Header c.args.link) c.requires.sound c.requires.way c.requires.passing
    c.settle_in_place.new.actor.me.0 c.settle_in_place.ensures.sound (passed.Again c.in-Again.next)
    (pending_passes c.args.actor.now.me.0 c.args.indirection c.args.link c.requires.passing
    c.args.words.now.table_id.words c.read_header-header.new.actor.me.0 c.requires.sound c.read_header-header.ensures.sound c.read_header-header.result c.read_header-header.ensures.read
    c.args.way c.requires.way c.in-Pending.field-0 c.in-Pending.is c.settle_in_place.new.actor.me.0 (passed.Again c.in-Again.next) (c.in-Again.ensures {u = tt}).passed)).0

pub end_on-requires-clause-passing : goal.end_on-requires-clause-passing
end_on-requires-clause-passing c =
    (goes_from c.args.words.now.table_id.words c.args.way c.args.indirection c.args.actor.now.me.0 (resume.Header c.args.link) c.requires.sound c.requires.way c.requires.passing
    c.settle_in_place.new.actor.me.0 c.settle_in_place.ensures.sound (passed.Again c.in-Again.next)
    (pending_passes c.args.actor.now.me.0 c.args.indirection c.args.link c.requires.passing
    c.args.words.now.table_id.words c.read_header-header.new.actor.me.0 c.requires.sound c.read_header-header.ensures.sound c.read_header-header.result c.read_header-header.ensures.read
    c.args.way c.requires.way c.in-Pending.field-0 c.in-Pending.is c.settle_in_place.new.actor.me.0 (passed.Again c.in-Again.next) (c.in-Again.ensures {u = tt}).passed)).1

pub returns-in-Again-clause-ended : goal.returns-in-Again-clause-ended
returns-in-Again-clause-ended c =
    subst (λ told. HasReadOut c.args.actor.now.me.0 told c.end_on.new.actor.me.0) (sym c.told_apart-in-Again.ensures)
    (out_after c.args.words.now.table_id.words c.args.way c.args.indirection c.args.actor.now.me.0 c.settle_in_place.new.actor.me.0 c.in-Again.next
    (some_from c.args.words.now.table_id.words c.args.way c.args.indirection c.args.actor.now.me.0 (resume.Header c.args.link) c.requires.sound c.requires.way c.requires.passing
    c.settle_in_place.new.actor.me.0 c.settle_in_place.ensures.sound c.in-Again.next
    (pending_passes c.args.actor.now.me.0 c.args.indirection c.args.link c.requires.passing
    c.args.words.now.table_id.words c.read_header-header.new.actor.me.0 c.requires.sound c.read_header-header.ensures.sound c.read_header-header.result c.read_header-header.ensures.read
    c.args.way c.requires.way c.in-Pending.field-0 c.in-Pending.is c.settle_in_place.new.actor.me.0 (passed.Again c.in-Again.next) (c.in-Again.ensures {u = tt}).passed))
    c.end_on.new.actor.me.0 c.end_on.result c.end_on.ensures.ended)
