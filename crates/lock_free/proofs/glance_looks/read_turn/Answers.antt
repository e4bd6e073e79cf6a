use Rattle.std.proofs.Common.{Option, Some, IfSome, subst}
use Rattle.trie_words.specs.declared.links.Link.{Link}
use Rattle.lock_free.specs.declared.finding.Turn.{Turn}
use Rattle.lock_free.specs.GlanceGets.{GlancesOn}
use Rattle.lock_free.specs.GoingDown.{HasTurned, IsAtLink, IsAtMain}
use Rattle.lock_free.specs.LinkReads.{given_by, HasReadOn, HasReadTo}
use Rattle.lock_free.proofs.OneGlance.Together.{glance_then, on_on, while_on}
use Rattle.lock_free.proofs.ReadTurns.{read_turned, turns_there}
use Rattle.lock_free.proofs.glance_looks.read_turn.Goals as goal

pub turn_there-requires-clause-glances : goal.turn_there-requires-clause-glances
turn_there-requires-clause-glances c =
    glance_then c.args.words.now.table_id.words c.args.actor.now.me.0 c.requires.glances (λ x y. IfSome c.read_decided.result (λ link. HasReadTo x (Some link) y)) c.read_decided.new.actor.me.0
    c.read_decided.ensures.read

pub turn_there-requires-clause-at : goal.turn_there-requires-clause-at
turn_there-requires-clause-at c =
    let n = c.args.words.now.table_id.words in
    let link = c.in-Some.link in
    let on = subst (λ (r : Option Link). GlancesOn n (λ x y. IfSome r (λ k. HasReadTo x (Some k) y)) c.args.actor.now.me.0 c.read_decided.new.actor.me.0) c.in-Some.is c.read_decided.ensures.read in
    while_on n c.args.actor.now.me.0 c.read_decided.new.actor.me.0 c.requires.glances (λ x y. HasReadTo x (Some link) y) on (λ x. IsAtLink x c.args.indirection c.args.flag)
    (λ y. IsAtMain y link.main.slot c.args.flag) c.requires.at (λ x y s p t read. turns_there x y c.args.indirection c.args.flag p (given_by link read.0) read.1)

pub returns-clause-turned : goal.returns-clause-turned
returns-clause-turned c =
    let n = c.args.words.now.table_id.words in
    let link = c.in-Some.link in
    let way = c.in-Some-turn_there.turn in
    let on = subst (λ (r : Option Link). GlancesOn n (λ x y. IfSome r (λ k. HasReadTo x (Some k) y)) c.args.actor.now.me.0 c.read_decided.new.actor.me.0) c.in-Some.is c.read_decided.ensures.read in
    let next = subst (λ (r : Option Turn). GlancesOn n (λ x y. IfSome r (λ k. HasTurned x k y)) c.read_decided.new.actor.me.0 c.turn_there.new.actor.me.0) c.in-Some-turn_there.is
    c.turn_there.ensures.turned in
    on_on n c.args.actor.now.me.0 c.read_decided.new.actor.me.0 c.requires.glances (λ x y. HasReadTo x (Some link) y) on c.turn_there.new.actor.me.0 (λ x y. HasTurned x way y) next
    (λ x. IsAtLink x c.args.indirection c.args.flag) (λ x z. HasReadOn x (link, way) z) c.requires.at
    (λ x y z s p t read e turned. (read.0, read_turned x y c.args.indirection c.args.flag p (given_by link read.0) read.1 z way turned))
