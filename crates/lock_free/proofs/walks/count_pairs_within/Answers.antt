use Rattle.std.proofs.Common.{◌++◌, ◌+◌, ◌∷◌, [], Ok, refl, sym, ap, subst, length-append, ◌∙◌}
use Rattle.lock_free.specs.declared.walking.WalkError.{WalkError}
use Rattle.lock_free.specs.Walks.{NextBy}
use Rattle.lock_free.proofs.OneWalk.Begins.{pairs_left, walking_now, way_walked}
use Rattle.lock_free.proofs.OneWalk.Nexts.{then_all, then_left, then_walked}
use Rattle.lock_free.proofs.walks.count_pairs_within.Goals as goal

pub loop-count-init : goal.loop-count-init
loop-count-init c = let begun = c.in-Ok.ensures {u = tt} in (begun.table, begun.sound, ([], refl, begun.begun))

pub next_within-requires-clause-table : goal.next_within-requires-clause-table
next_within-requires-clause-table c = c.loop-count.invariant.0 ∙ c.requires.table

pub next_within-requires-clause-sound : goal.next_within-requires-clause-sound
next_within-requires-clause-sound c = c.loop-count.invariant.1

pub next_within-requires-clause-way : goal.next_within-requires-clause-way
next_within-requires-clause-way c =
    let (t, s, (pairs, size, walked)) = c.loop-count.invariant in
    way_walked c.args.actor.now.me.0 c.requires.at c.loop-count.actor.me.0 pairs c.loop-count.walker walked c.args.way c.requires.way

pub next_within-requires-clause-at : goal.next_within-requires-clause-at
next_within-requires-clause-at c =
    let (t, s, (pairs, size, walked)) = c.loop-count.invariant in
    (pairs, walking_now c.args.actor.now.me.0 c.requires.at c.loop-count.actor.me.0 pairs c.loop-count.walker walked)

pub returns-in-Err-next_within-clause-table : goal.returns-in-Err-next_within-clause-table
returns-in-Err-next_within-clause-table c = c.next_within.ensures.table ∙ c.loop-count.invariant.0

pub returns-in-Err-next_within-clause-left : goal.returns-in-Err-next_within-clause-left
returns-in-Err-next_within-clause-left c =
    let (t, s, (pairs, size, walked)) = c.loop-count.invariant in
    let u = c.args.actor.now.me.0 in
    let v = c.loop-count.actor.me.0 in
    let w = c.next_within.new.actor.me.0 in
    then_left u v w pairs c.loop-count.walker walked ((c.in-Err-next_within.ensures {u = tt}).next pairs (walking_now u c.requires.at v pairs c.loop-count.walker walked))

pub returns-in-None-clause-table : goal.returns-in-None-clause-table
returns-in-None-clause-table c = c.next_within.ensures.table ∙ c.loop-count.invariant.0

pub returns-in-None-clause-counted : goal.returns-in-None-clause-counted
returns-in-None-clause-counted c =
    let (t, s, (pairs, size, walked)) = c.loop-count.invariant in
    let u = c.args.actor.now.me.0 in
    let v = c.loop-count.actor.me.0 in
    let w = c.next_within.new.actor.me.0 in
    let at = walking_now u c.requires.at v pairs c.loop-count.walker walked in (
      pairs,
      then_all u v w pairs c.loop-count.walker walked (subst (λ x. NextBy {E = WalkError} v pairs (Ok x) w c.next_within.new.self) c.in-None.is ((c.in-Ok-next_within.ensures {u = tt}).next pairs at)),
      size,
    )

pub loop-count-preserved : goal.loop-count-preserved
loop-count-preserved c =
    let (t, s, (pairs, size, walked)) = c.loop-count.invariant in
    let u = c.args.actor.now.me.0 in
    let v = c.loop-count.actor.me.0 in
    let w = c.next_within.new.actor.me.0 in
    let at = walking_now u c.requires.at v pairs c.loop-count.walker walked in
    let q = subst (λ x. NextBy {E = WalkError} v pairs (Ok x) w c.next_within.new.self) c.in-Some.is ((c.in-Ok-next_within.ensures {u = tt}).next pairs at) in (
      c.next_within.ensures.table ∙ t,
      c.next_within.ensures.sound,
      (
        pairs ++ c.in-Some.field-0 ∷ [],
        ap (λ k. k + 1) size ∙ sym (length-append pairs (c.in-Some.field-0 ∷ [])),
        then_walked u v w pairs c.loop-count.walker walked (pairs ++ c.in-Some.field-0 ∷ []) c.next_within.new.self q,
      ),
    )

pub returns-clause-table : goal.returns-clause-table
returns-clause-table c = c.loop-count.invariant.0

pub returns-clause-sound : goal.returns-clause-sound
returns-clause-sound c = c.loop-count.invariant.1

pub returns-clause-left : goal.returns-clause-left
returns-clause-left c =
    let (t, s, (pairs, size, walked)) = c.loop-count.invariant in pairs_left c.args.actor.now.me.0 c.requires.at c.loop-count.actor.me.0 pairs c.loop-count.walker walked
