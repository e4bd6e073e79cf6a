use Rattle.std.proofs.Common.{◌≡◌, ℕ, inr, Option, IfNone, IfSome, refl, sym, subst}
use Rattle.history.specs.declared.calls.Call.TheVariants.{Get}
use Rattle.history.specs.declared.replies.Reply.TheVariants as reply
use Rattle.machine_model.specs.declared.lines.Line.TheVariants as line
use Rattle.lock_free.specs.declared.glance_roots.Glancing.{Glancing}
use Rattle.lock_free.specs.GlanceGets.{GlancesOn, HasGlancedFor, WhileItCounts}
use Rattle.lock_free.specs.Glancing.{HasEndedGlance}
use Rattle.lock_free.specs.Holding.{IsOn}
use Rattle.lock_free.proofs.CallsBegun.{still_now}
use Rattle.lock_free.proofs.OneGlance.Ends.{counted_so, ends_so, fallen_so, glancing_so, on_value, sizes_so}
use Rattle.lock_free.proofs.Waiting.{waited_none}
use Rattle.lock_free.proofs.glance_gets.glance.Goals as goal

pub look-requires-clause-glances : goal.look-requires-clause-glances
look-requires-clause-glances c = let begun = (c.in-Some.ensures {u = tt}).begun in (c.args.actor.now.me.0, c.args.handle, c.args.key, begun.its)

pub look-requires-clause-hash : goal.look-requires-clause-hash
look-requires-clause-hash c =
    let v = c.args.actor.now.me.0 in
    let begun = (c.in-Some.ensures {u = tt}).begun in
    subst (λ s. WhileItCounts (λ x. x.sizes ≡ s) c.begin_get.new.actor.me.0) (sym c.requires.sizes)
    (sizes_so c.args.words.now.table_id.words v c.requires.sound c.requires.rests c.args.handle c.args.key c.begin_get.new.actor.me.0 begun.its)

pub look-requires-clause-at : goal.look-requires-clause-at
look-requires-clause-at c = (c.in-Some.ensures {u = tt}).begun.begun

pub stop-requires-clause-glances : goal.stop-requires-clause-glances
stop-requires-clause-glances c =
    let n = c.args.words.now.table_id.words in
    let v = c.args.actor.now.me.0 in
    let mid = c.begin_get.new.actor.me.0 in
    let w = c.look.new.actor.me.0 in
    let begun = (c.in-Some.ensures {u = tt}).begun in
    let its = c.look.ensures.found.goes_on v c.args.handle c.args.key begun.its in
    glancing_so n v c.requires.sound c.requires.rests c.args.handle c.args.key w its

pub end-requires-clause-glances : goal.end-requires-clause-glances
end-requires-clause-glances c =
    let n = c.args.words.now.table_id.words in
    let v = c.args.actor.now.me.0 in
    let mid = c.begin_get.new.actor.me.0 in
    let w = c.look.new.actor.me.0 in
    let begun = (c.in-Some.ensures {u = tt}).begun in
    let its = c.look.ensures.found.goes_on v c.args.handle c.args.key begun.its in
    glancing_so n v c.requires.sound c.requires.rests c.args.handle c.args.key w its

pub end-requires-clause-ends : goal.end-requires-clause-ends
end-requires-clause-ends c =
    let n = c.args.words.now.table_id.words in
    let v = c.args.actor.now.me.0 in
    let mid = c.begin_get.new.actor.me.0 in
    let w = c.look.new.actor.me.0 in
    let begun = (c.in-Some.ensures {u = tt}).begun in
    let value = c.in-Some-look.value in
    let on = subst (λ (r : Option (Option ℕ)). GlancesOn n (λ x y. IfSome r (λ k. IsOn y (line.End (reply.Found k)))) mid w) c.in-Some-look.is c.look.ensures.found in
    ends_so n mid w begun.its.glance begun.its.is c.in-Some.glancing.count begun.count value on

pub returns-in_default-clause-told : goal.returns-in_default-clause-told
returns-in_default-clause-told c =
    let n = c.args.words.now.table_id.words in
    let v = c.args.actor.now.me.0 in
    let call = Get c.args.handle c.args.key in
    let same = subst (λ (r : Option Glancing). IfNone r (c.begin_get.new.actor.me.0 ≡ v)) c.in_default.is c.begin_get.ensures.same in
    subst (HasGlancedFor n v call) (sym same) (inr (still_now n v call c.requires.sound c.requires.rests, waited_none v.actor v.account))

pub returns-in_default-look-clause-told : goal.returns-in_default-look-clause-told
returns-in_default-look-clause-told c =
    let n = c.args.words.now.table_id.words in
    let v = c.args.actor.now.me.0 in
    let mid = c.begin_get.new.actor.me.0 in
    let w = c.look.new.actor.me.0 in
    let begun = (c.in-Some.ensures {u = tt}).begun in
    let its = c.look.ensures.found.goes_on v c.args.handle c.args.key begun.its in
    (fallen_so n v c.requires.sound c.requires.rests c.args.handle c.args.key w its c.stop.new.actor.me.0 c.stop.ensures.sound c.stop.ensures.stopped).0

pub returns-in_default-look-clause-left : goal.returns-in_default-look-clause-left
returns-in_default-look-clause-left c =
    let n = c.args.words.now.table_id.words in
    let v = c.args.actor.now.me.0 in
    let mid = c.begin_get.new.actor.me.0 in
    let w = c.look.new.actor.me.0 in
    let begun = (c.in-Some.ensures {u = tt}).begun in
    let its = c.look.ensures.found.goes_on v c.args.handle c.args.key begun.its in
    (fallen_so n v c.requires.sound c.requires.rests c.args.handle c.args.key w its c.stop.new.actor.me.0 c.stop.ensures.sound c.stop.ensures.stopped).1

pub returns-in_default-look-clause-stock : goal.returns-in_default-look-clause-stock
returns-in_default-look-clause-stock c =
    let n = c.args.words.now.table_id.words in
    let v = c.args.actor.now.me.0 in
    let mid = c.begin_get.new.actor.me.0 in
    let w = c.look.new.actor.me.0 in
    let begun = (c.in-Some.ensures {u = tt}).begun in
    let its = c.look.ensures.found.goes_on v c.args.handle c.args.key begun.its in
    (fallen_so n v c.requires.sound c.requires.rests c.args.handle c.args.key w its c.stop.new.actor.me.0 c.stop.ensures.sound c.stop.ensures.stopped).2

pub returns-then-end-clause-told : goal.returns-then-end-clause-told
returns-then-end-clause-told c =
    let n = c.args.words.now.table_id.words in
    let v = c.args.actor.now.me.0 in
    let mid = c.begin_get.new.actor.me.0 in
    let w = c.look.new.actor.me.0 in
    let begun = (c.in-Some.ensures {u = tt}).begun in
    let its = c.look.ensures.found.goes_on v c.args.handle c.args.key begun.its in
    let value = c.in-Some-look.value in
    let on = subst (λ (r : Option (Option ℕ)). GlancesOn n (λ x y. IfSome r (λ k. IsOn y (line.End (reply.Found k)))) mid w) c.in-Some-look.is c.look.ensures.found in
    (counted_so n v c.requires.sound c.requires.rests c.args.handle c.args.key w its c.end.new.actor.me.0 c.end.ensures.sound value
    (on_value n mid w begun.its.glance begun.its.is c.in-Some.glancing.count begun.count value on)
    (subst (λ b. HasEndedGlance w its.glance b c.end.new.actor.me.0) c.if-end.true (c.end.ensures.ended its.glance its.is))).0

pub returns-then-end-clause-left : goal.returns-then-end-clause-left
returns-then-end-clause-left c =
    let n = c.args.words.now.table_id.words in
    let v = c.args.actor.now.me.0 in
    let mid = c.begin_get.new.actor.me.0 in
    let w = c.look.new.actor.me.0 in
    let begun = (c.in-Some.ensures {u = tt}).begun in
    let its = c.look.ensures.found.goes_on v c.args.handle c.args.key begun.its in
    let value = c.in-Some-look.value in
    let on = subst (λ (r : Option (Option ℕ)). GlancesOn n (λ x y. IfSome r (λ k. IsOn y (line.End (reply.Found k)))) mid w) c.in-Some-look.is c.look.ensures.found in
    (counted_so n v c.requires.sound c.requires.rests c.args.handle c.args.key w its c.end.new.actor.me.0 c.end.ensures.sound value
    (on_value n mid w begun.its.glance begun.its.is c.in-Some.glancing.count begun.count value on)
    (subst (λ b. HasEndedGlance w its.glance b c.end.new.actor.me.0) c.if-end.true (c.end.ensures.ended its.glance its.is))).1

pub returns-then-end-clause-stock : goal.returns-then-end-clause-stock
returns-then-end-clause-stock c =
    let n = c.args.words.now.table_id.words in
    let v = c.args.actor.now.me.0 in
    let mid = c.begin_get.new.actor.me.0 in
    let w = c.look.new.actor.me.0 in
    let begun = (c.in-Some.ensures {u = tt}).begun in
    let its = c.look.ensures.found.goes_on v c.args.handle c.args.key begun.its in
    let value = c.in-Some-look.value in
    let on = subst (λ (r : Option (Option ℕ)). GlancesOn n (λ x y. IfSome r (λ k. IsOn y (line.End (reply.Found k)))) mid w) c.in-Some-look.is c.look.ensures.found in
    (counted_so n v c.requires.sound c.requires.rests c.args.handle c.args.key w its c.end.new.actor.me.0 c.end.ensures.sound value
    (on_value n mid w begun.its.glance begun.its.is c.in-Some.glancing.count begun.count value on)
    (subst (λ b. HasEndedGlance w its.glance b c.end.new.actor.me.0) c.if-end.true (c.end.ensures.ended its.glance its.is))).2

pub returns-else-end-clause-told : goal.returns-else-end-clause-told
returns-else-end-clause-told c =
    let n = c.args.words.now.table_id.words in
    let v = c.args.actor.now.me.0 in
    let mid = c.begin_get.new.actor.me.0 in
    let w = c.look.new.actor.me.0 in
    let begun = (c.in-Some.ensures {u = tt}).begun in
    let its = c.look.ensures.found.goes_on v c.args.handle c.args.key begun.its in
    (fallen_so n v c.requires.sound c.requires.rests c.args.handle c.args.key w its c.end.new.actor.me.0 c.end.ensures.sound
    (λ g is. (subst (λ b. HasEndedGlance w g b c.end.new.actor.me.0) c.if-end.false (c.end.ensures.ended g is)).1 refl)).0

pub returns-else-end-clause-left : goal.returns-else-end-clause-left
returns-else-end-clause-left c =
    let n = c.args.words.now.table_id.words in
    let v = c.args.actor.now.me.0 in
    let mid = c.begin_get.new.actor.me.0 in
    let w = c.look.new.actor.me.0 in
    let begun = (c.in-Some.ensures {u = tt}).begun in
    let its = c.look.ensures.found.goes_on v c.args.handle c.args.key begun.its in
    (fallen_so n v c.requires.sound c.requires.rests c.args.handle c.args.key w its c.end.new.actor.me.0 c.end.ensures.sound
    (λ g is. (subst (λ b. HasEndedGlance w g b c.end.new.actor.me.0) c.if-end.false (c.end.ensures.ended g is)).1 refl)).1

pub returns-else-end-clause-stock : goal.returns-else-end-clause-stock
returns-else-end-clause-stock c =
    let n = c.args.words.now.table_id.words in
    let v = c.args.actor.now.me.0 in
    let mid = c.begin_get.new.actor.me.0 in
    let w = c.look.new.actor.me.0 in
    let begun = (c.in-Some.ensures {u = tt}).begun in
    let its = c.look.ensures.found.goes_on v c.args.handle c.args.key begun.its in
    (fallen_so n v c.requires.sound c.requires.rests c.args.handle c.args.key w its c.end.new.actor.me.0 c.end.ensures.sound
    (λ g is. (subst (λ b. HasEndedGlance w g b c.end.new.actor.me.0) c.if-end.false (c.end.ensures.ended g is)).1 refl)).2
