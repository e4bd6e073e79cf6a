use Rattle.std.proofs.Common.{◌<◌, ◌++◌, ◌∷◌, [], Option, IfSome, length, refl, sym, ap, subst, ◌∙◌, arith}
use Rattle.history.specs.declared.calls.Call.TheVariants.{Get}
use Rattle.history.specs.declared.replies.Reply.TheVariants as reply
use Rattle.machine_model.specs.Lines.{new_try}
use Rattle.machine_model.specs.declared.lines.Line.TheVariants as line
use Rattle.lock_free.specs.declared.reaching.Reached.{Reached}
use Rattle.lock_free.specs.declared.rooting.Rooted.{Rooted}
use Rattle.lock_free.specs.Descending.{IsOnPath, IsTask}
use Rattle.lock_free.specs.GetRuns.{IsLookup}
use Rattle.lock_free.specs.GlanceGets.{GlancesOn, WhileItCounts}
use Rattle.lock_free.specs.Holding.{IsOn}
use Rattle.lock_free.specs.LinkReads.{IsThere}
use Rattle.lock_free.specs.Reaching.{HasReached, IsAtPlace}
use Rattle.lock_free.specs.Rooting.{HasRooted}
use Rattle.lock_free.specs.Seeking.{IsCalled}
use Rattle.lock_free.specs.Shadows.{inner}
use Rattle.lock_free.proofs.OneGlance.Together.{glance_then, on_on}
use Rattle.lock_free.proofs.OneGlance.Gets.{down_ready, value_ready}
use Rattle.lock_free.proofs.ParkedOn.{way_called}
use Rattle.lock_free.proofs.glance_gets.look.Goals as goal

pub seek_root-requires-clause-at : goal.seek_root-requires-clause-at
seek_root-requires-clause-at c g is known =
    let call = Get c.args.handle c.args.key in
    let at = subst (λ a. IfSome a (λ access. WhileItCounts (λ v. IsOn v new_try × IsCalled v call access) c.args.actor.now.me.0)) c.in-Some.is c.requires.at in
    let p = at g is known in
    (way_called (inner c.args.actor.now.me.0 g) call c.in-Some.access p.1 c.args.handle refl, p.0)

pub seek_root-requires-clause-among : goal.seek_root-requires-clause-among
seek_root-requires-clause-among c = c.words-among.ensures ∙ c.requires.sizes

pub go_down-requires-clause-among : goal.go_down-requires-clause-among
go_down-requires-clause-among c = c.words-among.ensures ∙ c.requires.sizes

pub value_there-requires-clause-among : goal.value_there-requires-clause-among
value_there-requires-clause-among c = c.words-among.ensures ∙ c.requires.sizes

pub go_down-requires-clause-glances : goal.go_down-requires-clause-glances
go_down-requires-clause-glances c =
    glance_then c.args.words.now.table_id.words c.args.actor.now.me.0 c.requires.glances (λ x y. IfSome c.seek_root.result (λ r. HasRooted x r y)) c.seek_root.new.actor.me.0 c.seek_root.ensures.rooted

pub go_down-requires-clause-some : goal.go_down-requires-clause-some
go_down-requires-clause-some c = subst (λ xs. 0 < length xs) (sym (c.push.ensures.items ∙ ap (λ xs. xs ++ c.in-Some-seek_root.rooted.slot ∷ []) c.new-path.ensures)) (omega (arith))

pub go_down-requires-clause-at : goal.go_down-requires-clause-at
go_down-requires-clause-at c =
    let n = c.args.words.now.table_id.words in
    let call = Get c.args.handle c.args.key in
    let u = c.args.actor.now.me.0 in
    let v = c.seek_root.new.actor.me.0 in
    let given = c.in-Some-seek_root.rooted in
    let task = c.new-task.result in
    let t = c.new-task.ensures in
    let at = subst (λ a. IfSome a (λ access. WhileItCounts (λ x. IsOn x new_try × IsCalled x call access) u)) c.in-Some.is c.requires.at in
    let on = subst (λ (r : Option Rooted). GlancesOn n (λ x y. IfSome r (λ k. HasRooted x k y)) u v) c.in-Some-seek_root.is c.seek_root.ensures.rooted in
    subst (λ xs. WhileItCounts (λ y. IsTask y task × IsOnPath y xs) v) (sym (c.push.ensures.items ∙ ap (λ xs. xs ++ given.slot ∷ []) c.new-path.ensures))
    (down_ready n u v c.requires.glances c.args.sizes.now c.args.handle c.args.key c.in-Some.access c.requires.hash at given on task
    (record { call = t.given.0; access_is = t.given.1; start = t.given.2; key_is = t.key; hash = t.hash }))

pub value_there-requires-clause-glances : goal.value_there-requires-clause-glances
value_there-requires-clause-glances c =
    let n = c.args.words.now.table_id.words in
    let u = c.args.actor.now.me.0 in
    let v = c.seek_root.new.actor.me.0 in
    let there = glance_then n u c.requires.glances (λ x y. IfSome c.seek_root.result (λ r. HasRooted x r y)) v c.seek_root.ensures.rooted in
    glance_then n v there (λ x y. IfSome c.go_down.result (λ r. HasReached x c.new-task.result c.go_down.new.path.items r y)) c.go_down.new.actor.me.0 c.go_down.ensures.reached

pub value_there-requires-clause-at : goal.value_there-requires-clause-at
value_there-requires-clause-at c =
    let n = c.args.words.now.table_id.words in
    let call = Get c.args.handle c.args.key in
    let u = c.args.actor.now.me.0 in
    let v = c.seek_root.new.actor.me.0 in
    let w = c.go_down.new.actor.me.0 in
    let given = c.in-Some-seek_root.rooted in
    let reached = c.in-Some-go_down.reached in
    let task = c.new-task.result in
    let t = c.new-task.ensures in
    let slots = c.go_down.new.path.items in
    let at = subst (λ a. IfSome a (λ access. WhileItCounts (λ x. IsOn x new_try × IsCalled x call access) u)) c.in-Some.is c.requires.at in
    let on = subst (λ (r : Option Rooted). GlancesOn n (λ x y. IfSome r (λ k. HasRooted x k y)) u v) c.in-Some-seek_root.is c.seek_root.ensures.rooted in
    let down = subst (λ (r : Option Reached). GlancesOn n (λ x y. IfSome r (λ k. HasReached x task slots k y)) v w) c.in-Some-go_down.is c.go_down.ensures.reached in
    subst (λ xs. WhileItCounts (λ y. IsLookup y task × IsThere y xs reached.link (IsAtPlace y task reached.place)) w) (sym c.as_slice.ensures.value)
    (value_ready n u v c.requires.glances c.args.sizes.now c.args.handle c.args.key c.in-Some.access c.requires.hash at given on task
    (record { call = t.given.0; access_is = t.given.1; start = t.given.2; key_is = t.key; hash = t.hash }) w slots reached down)

pub returns-clause-found : goal.returns-clause-found
returns-clause-found c =
    let n = c.args.words.now.table_id.words in
    let u = c.args.actor.now.me.0 in
    let v = c.seek_root.new.actor.me.0 in
    let w = c.go_down.new.actor.me.0 in
    let on = on_on n u v c.requires.glances (λ x y. IfSome c.seek_root.result (λ r. HasRooted x r y)) c.seek_root.ensures.rooted w
    (λ x y. IfSome c.go_down.result (λ r. HasReached x c.new-task.result c.go_down.new.path.items r y)) c.go_down.ensures.reached (λ x. Unit {0}) (λ x y. Unit {0}) (λ g is known. tt)
    (λ x y z s p t a e b. tt) in
    on_on n u w c.requires.glances (λ x y. Unit {0}) on c.value_there.new.actor.me.0 (λ x y. IfSome c.value_there.result (λ value. IsOn y (line.End (reply.Found value)))) c.value_there.ensures.found
    (λ x. Unit {0}) (λ x z. IfSome c.value_there.result (λ value. IsOn z (line.End (reply.Found value)))) (λ g is known. tt) (λ x y z s p t a e found. found)
