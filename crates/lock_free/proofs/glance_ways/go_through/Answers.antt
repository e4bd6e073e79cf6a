use Rattle.std.proofs.Common.{None, Option, Some, IfSome, subst}
use Rattle.trie_words.specs.declared.links.Link.{Link}
use Rattle.lock_free.specs.declared.finding.Turn.{Turn}
use Rattle.lock_free.specs.declared.reaching.Level.{Level}
use Rattle.lock_free.specs.declared.reaching.Level.TheVariants as level
use Rattle.lock_free.specs.declared.reaching.Place.TheVariants as place
use Rattle.lock_free.specs.Descending.{IsAtEntry, IsOnPath, IsTask}
use Rattle.lock_free.specs.GlanceGets.{GlancesOn}
use Rattle.lock_free.specs.LinkReads.{given_by, HasReadOn, IsThere}
use Rattle.lock_free.specs.Reaching.{HasGone}
use Rattle.lock_free.specs.Shadows.{inner}
use Rattle.lock_free.proofs.OneGlance.Together.{glance_then, on_as, on_on, while_on}
use Rattle.lock_free.proofs.LevelPassed.{entry_ready, link_ready, task_mid}
use Rattle.lock_free.proofs.PlacesReached.{absent_reached, gone_from}
use Rattle.lock_free.proofs.glance_ways.go_through.Goals as goal

pub read_turn-requires-clause-at : goal.read_turn-requires-clause-at
read_turn-requires-clause-at c g is known =
    let p = c.requires.at g is known in link_ready (inner c.args.actor.now.me.0 g) c.args.task.now p.0 c.args.path.now p.1 c.flag_of-flag.result c.flag_of-flag.ensures.flag

pub go_to_entry-requires-clause-glances : goal.go_to_entry-requires-clause-glances
go_to_entry-requires-clause-glances c =
    glance_then c.args.words.now.table_id.words c.args.actor.now.me.0 c.requires.glances (λ x y. IfSome c.read_turn.result (λ read. HasReadOn x read y)) c.read_turn.new.actor.me.0
    c.read_turn.ensures.turned

pub go_to_entry-requires-clause-at : goal.go_to_entry-requires-clause-at
go_to_entry-requires-clause-at c =
    let n = c.args.words.now.table_id.words in
    let task = c.args.task.now in
    let path = c.args.path.now in
    let link = c.in-Some.link in
    let way = c.in-Some.turn in
    let u = c.args.actor.now.me.0 in
    let v = c.read_turn.new.actor.me.0 in
    let on = subst (λ (r : Option (Link × Turn)). GlancesOn n (λ x y. IfSome r (λ k. HasReadOn x k y)) u v) c.in-Some.is c.read_turn.ensures.turned in
    while_on n u v c.requires.glances (λ x y. HasReadOn x (link, way) y) on (λ x. IsTask x task × IsOnPath x path)
    (λ y. IsTask y task × IsThere y path link (IsAtEntry y c.in-Entry.position)) c.requires.at
    (λ x y s p t read. (
      task_mid x task p.0 path p.1 (given_by link read.0) way y read.1,
      (read.0, entry_ready x task p.0 path p.1 (given_by link read.0) way y read.1 c.in-Entry.position c.in-Entry.is (c.in-Some.ensures {u = tt}).within),
    ))

pub returns-in-Entry-clause-gone : goal.returns-in-Entry-clause-gone
returns-in-Entry-clause-gone c = by c.go_to_entry.result c.go_to_entry.ensures.gone
  where
    by : (r : Option Level) → GlancesOn c.args.words.now.table_id.words (λ x y. IfSome r (λ l. HasGone x c.args.task.now c.args.path.now l y)) c.read_turn.new.actor.me.0 c.go_to_entry.new.actor.me.0 →
        GlancesOn c.args.words.now.table_id.words (λ x y. IfSome r (λ l. HasGone x c.args.task.now c.args.path.now l y)) c.args.actor.now.me.0 c.go_to_entry.new.actor.me.0
    by r next =
        let n = c.args.words.now.table_id.words in
        let task = c.args.task.now in
        let path = c.args.path.now in
        let link = c.in-Some.link in
        let way = c.in-Some.turn in
        let u = c.args.actor.now.me.0 in
        let v = c.read_turn.new.actor.me.0 in
        let w = c.go_to_entry.new.actor.me.0 in
        let on = subst (λ (r : Option (Link × Turn)). GlancesOn n (λ x y. IfSome r (λ k. HasReadOn x k y)) u v) c.in-Some.is c.read_turn.ensures.turned in
        on_on n u v c.requires.glances (λ x y. HasReadOn x (link, way) y) on w (λ x y. IfSome r (λ l. HasGone x task path l y)) next (λ x. IsTask x task × IsOnPath x path)
        (λ x z. IfSome r (λ l. HasGone x task path l z)) c.requires.at
        (λ x y z s p t read e gone. since x y z p read r gone)
      where
        since : (x y z : _) → IsTask x c.args.task.now × IsOnPath x c.args.path.now → HasReadOn x (c.in-Some.link, c.in-Some.turn) y → (r : Option Level) →
            IfSome r (λ l. HasGone y c.args.task.now c.args.path.now l z) → IfSome r (λ l. HasGone x c.args.task.now c.args.path.now l z)
        since x y z p read None gone = tt
        since x y z p read (Some l) gone = gone_from x c.args.task.now p.0 c.args.path.now p.1 c.in-Some.link read.0 c.in-Some.turn y read.1 l z gone

pub returns-in-Absent-clause-gone : goal.returns-in-Absent-clause-gone
returns-in-Absent-clause-gone c =
    let n = c.args.words.now.table_id.words in
    let task = c.args.task.now in
    let path = c.args.path.now in
    let link = c.in-Some.link in
    let way = c.in-Some.turn in
    let u = c.args.actor.now.me.0 in
    let v = c.read_turn.new.actor.me.0 in
    let on = subst (λ (r : Option (Link × Turn)). GlancesOn n (λ x y. IfSome r (λ k. HasReadOn x k y)) u v) c.in-Some.is c.read_turn.ensures.turned in
    on_as n u v c.requires.glances (λ x y. HasReadOn x (link, way) y) on (λ x. IsTask x task × IsOnPath x path)
    (λ x y. HasGone x task path (level.Here (record { link = link; place = place.Absent })) y) c.requires.at
    (λ x y s p t read. absent_reached x task p.0 path p.1 link read.0 way y read.1 c.in-Absent.is)
