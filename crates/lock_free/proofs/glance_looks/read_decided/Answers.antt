use Rattle.std.proofs.Common.{Some}
use Rattle.machine_model.specs.declared.actions.Action.TheVariants as act
use Rattle.lock_free.specs.GlanceGets.{IsAtRead, LooksAt}
use Rattle.lock_free.specs.LinkReads.{HasReadTo}
use Rattle.lock_free.specs.Loading.{HasReadHeader, HasReadLink}
use Rattle.lock_free.proofs.OneGlance.Together.{glance_then, on_as, on_on, while_on}
use Rattle.lock_free.proofs.OneGlance.Turns.{header_there, link_there, read_to_main}
use Rattle.lock_free.proofs.glance_looks.read_decided.Goals as goal

pub read_link-link-requires-clause-reading : goal.read_link-link-requires-clause-reading
read_link-link-requires-clause-reading c g is known = link_there _ c.args.indirection (c.requires.at g is known)

pub read_header-requires-clause-glances : goal.read_header-requires-clause-glances
read_header-requires-clause-glances c =
    glance_then c.args.words.now.table_id.words c.args.actor.now.me.0 c.requires.glances (λ x y. HasReadLink x c.read_link-link.result y) c.read_link-link.new.actor.me.0 c.read_link-link.ensures.read

pub read_header-requires-clause-reading : goal.read_header-requires-clause-reading
read_header-requires-clause-reading c =
    let n = c.args.words.now.table_id.words in
    let link = c.read_link-link.result in
    while_on n c.args.actor.now.me.0 c.read_link-link.new.actor.me.0 c.requires.glances (λ x y. HasReadLink x link y) c.read_link-link.ensures.read (IsAtRead c.args.indirection)
    (λ y. LooksAt y act.ReadPrev link.main.slot) c.requires.at (λ x y s p t read. header_there x c.args.indirection p n s y t link read)

pub returns-then-not-is_inside-clause-read : goal.returns-then-not-is_inside-clause-read
returns-then-not-is_inside-clause-read c =
    let n = c.args.words.now.table_id.words in
    on_as n c.args.actor.now.me.0 c.read_link-link.new.actor.me.0 c.requires.glances (λ x y. HasReadLink x c.read_link-link.result y) c.read_link-link.ensures.read (λ x. Unit {0})
    (λ x y. Unit {0}) (λ g is known. tt) (λ x y s p t read. tt)

pub returns-in-None-clause-read : goal.returns-in-None-clause-read
returns-in-None-clause-read c =
    let n = c.args.words.now.table_id.words in
    let link = c.read_link-link.result in
    let header = c.read_header.result in
    on_on n c.args.actor.now.me.0 c.read_link-link.new.actor.me.0 c.requires.glances (λ x y. HasReadLink x link y) c.read_link-link.ensures.read c.read_header.new.actor.me.0
    (λ x y. HasReadHeader x header y) c.read_header.ensures.read (IsAtRead c.args.indirection) (λ x z. HasReadTo x (Some link) z) c.requires.at
    (λ x y z s p t read e h. read_to_main x c.args.indirection p n s y t link read z e header h c.in-None.is)
