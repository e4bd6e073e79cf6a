use Rattle.std.proofs.Common.{Option, IfSome, subst, sym, ◌∙◌}
use Rattle.trie_words.specs.declared.entries.Entry.{Entry}
use Rattle.trie_words.specs.declared.links.Link.{Link}
use Rattle.lock_free.specs.declared.reaching.Level.TheVariants as level
use Rattle.lock_free.specs.declared.reaching.Place.TheVariants as place
use Rattle.lock_free.specs.Descending.{IsAtEntry, IsTask}
use Rattle.lock_free.specs.Entries.{HasSeenEntry}
use Rattle.lock_free.specs.GlanceGets.{GlancesOn}
use Rattle.lock_free.specs.GoingDown.{HasMetLink, IsAtBelow}
use Rattle.lock_free.specs.LinkReads.{given_by, IsThere}
use Rattle.lock_free.specs.Reaching.{HasGone}
use Rattle.lock_free.proofs.BranchEntries.{goes_below, link_ready, one_ready}
use Rattle.lock_free.proofs.OneGlance.Together.{glance_then, on_as, on_on, while_on}
use Rattle.lock_free.proofs.PlacesReached.{one_reached}
use Rattle.lock_free.proofs.glance_ways.go_to_entry.Goals as goal

pub returns-then-entry-clause-gone : goal.returns-then-entry-clause-gone
returns-then-entry-clause-gone c =
    let n = c.args.words.now.table_id.words in
    let entry = c.in-Some.entry in
    let task = c.args.task.now in
    let path = c.args.path.now in
    let link = c.args.link in
    let position = c.args.position in
    let u = c.args.actor.now.me.0 in
    let v = c.see_entry.new.actor.me.0 in
    let on = subst (λ (r : Option Entry). GlancesOn n (λ x y. IfSome r (λ e. HasSeenEntry x link.main.slot position e y)) u v) c.in-Some.is c.see_entry.ensures.seen in
    on_as n u v c.requires.glances (λ x y. HasSeenEntry x link.main.slot position entry y) on (λ x. IsTask x task × IsThere x path link (IsAtEntry x position))
    (λ x y. HasGone x task path (level.Here (record { link = link; place = place.Single position entry.slot })) y) c.requires.at
    (λ x y s p t seen.
    one_reached x task path link p.1.0 y seen.0 position entry.slot (one_ready n x s task p.0 path (given_by link p.1.0) position p.1.1 y entry seen t c.if-entry.true))

pub meet_link-requires-clause-glances : goal.meet_link-requires-clause-glances
meet_link-requires-clause-glances c =
    glance_then c.args.words.now.table_id.words c.args.actor.now.me.0 c.requires.glances (λ x y. IfSome c.see_entry.result (λ e. HasSeenEntry x c.args.link.main.slot c.args.position e y))
    c.see_entry.new.actor.me.0 c.see_entry.ensures.seen

pub meet_link-requires-clause-at : goal.meet_link-requires-clause-at
meet_link-requires-clause-at c =
    let n = c.args.words.now.table_id.words in
    let entry = c.in-Some.entry in
    let task = c.args.task.now in
    let path = c.args.path.now in
    let link = c.args.link in
    let position = c.args.position in
    let u = c.args.actor.now.me.0 in
    let v = c.see_entry.new.actor.me.0 in
    let on = subst (λ (r : Option Entry). GlancesOn n (λ x y. IfSome r (λ e. HasSeenEntry x link.main.slot position e y)) u v) c.in-Some.is c.see_entry.ensures.seen in
    while_on n u v c.requires.glances (λ x y. HasSeenEntry x link.main.slot position entry y) on (λ x. IsTask x task × IsThere x path link (IsAtEntry x position))
    (λ y. IsAtBelow y entry.slot) c.requires.at (λ x y s p t seen. link_ready n x s task p.0 path (given_by link p.1.0) position p.1.1 y entry seen t c.if-entry.false)

pub returns-clause-gone : goal.returns-clause-gone
returns-clause-gone c =
    let n = c.args.words.now.table_id.words in
    let entry = c.in-Some.entry in
    let below = c.in-Some-meet_link.below in
    let task = c.args.task.now in
    let path = c.args.path.now in
    let link = c.args.link in
    let position = c.args.position in
    let u = c.args.actor.now.me.0 in
    let v = c.see_entry.new.actor.me.0 in
    let w = c.meet_link.new.actor.me.0 in
    let on = subst (λ (r : Option Entry). GlancesOn n (λ x y. IfSome r (λ e. HasSeenEntry x link.main.slot position e y)) u v) c.in-Some.is c.see_entry.ensures.seen in
    let next = subst (λ (r : Option Link). GlancesOn n (λ x y. IfSome r (λ k. HasMetLink x k y)) v w) c.in-Some-meet_link.is c.meet_link.ensures.met in
    on_on n u v c.requires.glances (λ x y. HasSeenEntry x link.main.slot position entry y) on w (λ x y. HasMetLink x below y) next
    (λ x. IsTask x task × IsThere x path link (IsAtEntry x position)) (λ x z. HasGone x task path (level.Below entry.slot) z) c.requires.at
    (λ x y z s p t seen e met.
    goes_below n x s task p.0 path (given_by link p.1.0) position p.1.1 y entry seen t z below met e (sym c.passes.ensures ∙ c.if-not-passes.false))
