use Rattle.std.proofs.Common.{◌++◌, ◌∷◌, [], Ok, sym, subst, ◌∙◌}
use Rattle.lock_free.specs.declared.walking.WalkError.{WalkError}
use Rattle.lock_free.specs.Walks.{HasWalked, NextBy}
use Rattle.lock_free.proofs.OneWalk.Begins.{pairs_left, walking_now, way_walked}
use Rattle.lock_free.proofs.OneWalk.Nexts.{then_all, then_left, then_walked}
use Rattle.lock_free.proofs.walks.all_pairs_within.Goals as goal

pub loop-init : goal.loop-init
loop-init c =
    let begun = c.in-Ok.ensures {u = tt} in (
      begun.table,
      begun.sound,
      subst (λ ps. HasWalked c.args.actor.now.me.0 ps c.begin_within.new.actor.me.0 c.in-Ok.walker) (sym c.new-pairs.ensures.items) begun.begun,
    )

pub next_within-requires-clause-table : goal.next_within-requires-clause-table
next_within-requires-clause-table c = c.loop.invariant.0 ∙ c.requires.table

pub next_within-requires-clause-sound : goal.next_within-requires-clause-sound
next_within-requires-clause-sound c = c.loop.invariant.1

pub next_within-requires-clause-way : goal.next_within-requires-clause-way
next_within-requires-clause-way c =
    way_walked c.args.actor.now.me.0 c.requires.at c.loop.actor.me.0 c.loop.pairs.items c.loop.walker c.loop.invariant.2 c.args.way c.requires.way

pub next_within-requires-clause-at : goal.next_within-requires-clause-at
next_within-requires-clause-at c =
    (c.loop.pairs.items, walking_now c.args.actor.now.me.0 c.requires.at c.loop.actor.me.0 c.loop.pairs.items c.loop.walker c.loop.invariant.2)

pub returns-in-Err-next_within-clause-table : goal.returns-in-Err-next_within-clause-table
returns-in-Err-next_within-clause-table c = c.next_within.ensures.table ∙ c.loop.invariant.0

pub returns-in-Err-next_within-clause-left : goal.returns-in-Err-next_within-clause-left
returns-in-Err-next_within-clause-left c =
    let u = c.args.actor.now.me.0 in
    let v = c.loop.actor.me.0 in
    let w = c.next_within.new.actor.me.0 in
    then_left u v w c.loop.pairs.items c.loop.walker c.loop.invariant.2
    ((c.in-Err-next_within.ensures {u = tt}).next c.loop.pairs.items (walking_now u c.requires.at v c.loop.pairs.items c.loop.walker c.loop.invariant.2))

pub loop-preserved : goal.loop-preserved
loop-preserved c =
    let u = c.args.actor.now.me.0 in
    let v = c.loop.actor.me.0 in
    let w = c.next_within.new.actor.me.0 in
    let pairs = c.loop.pairs.items in
    let at = walking_now u c.requires.at v pairs c.loop.walker c.loop.invariant.2 in
    let q = subst (λ x. NextBy {E = WalkError} v pairs (Ok x) w c.next_within.new.self) c.in-Some.is ((c.in-Ok-next_within.ensures {u = tt}).next pairs at) in (
      c.next_within.ensures.table ∙ c.loop.invariant.0,
      c.next_within.ensures.sound,
      subst (λ ps. HasWalked u ps w c.next_within.new.self) (sym (c.in-Ok-push.ensures {u = tt}).items)
          (then_walked u v w pairs c.loop.walker c.loop.invariant.2 (pairs ++ c.in-Some.pair ∷ []) c.next_within.new.self q),
    )

pub returns-in-Err-push-clause-table : goal.returns-in-Err-push-clause-table
returns-in-Err-push-clause-table c = c.next_within.ensures.table ∙ c.loop.invariant.0

pub returns-in-Err-push-clause-left : goal.returns-in-Err-push-clause-left
returns-in-Err-push-clause-left c =
    let u = c.args.actor.now.me.0 in
    let v = c.loop.actor.me.0 in
    let w = c.next_within.new.actor.me.0 in
    let pairs = c.loop.pairs.items in
    let at = walking_now u c.requires.at v pairs c.loop.walker c.loop.invariant.2 in
    let q = subst (λ x. NextBy {E = WalkError} v pairs (Ok x) w c.next_within.new.self) c.in-Some.is ((c.in-Ok-next_within.ensures {u = tt}).next pairs at) in
    pairs_left u c.requires.at w (pairs ++ c.in-Some.pair ∷ []) c.next_within.new.self
    (then_walked u v w pairs c.loop.walker c.loop.invariant.2 (pairs ++ c.in-Some.pair ∷ []) c.next_within.new.self q)

pub returns-in-None-clause-table : goal.returns-in-None-clause-table
returns-in-None-clause-table c = c.next_within.ensures.table ∙ c.loop.invariant.0

pub returns-in-None-clause-walked : goal.returns-in-None-clause-walked
returns-in-None-clause-walked c =
    let u = c.args.actor.now.me.0 in
    let v = c.loop.actor.me.0 in
    let w = c.next_within.new.actor.me.0 in
    let pairs = c.loop.pairs.items in
    let at = walking_now u c.requires.at v pairs c.loop.walker c.loop.invariant.2 in
    then_all u v w pairs c.loop.walker c.loop.invariant.2
    (subst (λ x. NextBy {E = WalkError} v pairs (Ok x) w c.next_within.new.self) c.in-None.is ((c.in-Ok-next_within.ensures {u = tt}).next pairs at))

pub returns-clause-table : goal.returns-clause-table
returns-clause-table c = c.loop.invariant.0

pub returns-clause-sound : goal.returns-clause-sound
returns-clause-sound c = c.loop.invariant.1

pub returns-clause-left : goal.returns-clause-left
returns-clause-left c = pairs_left c.args.actor.now.me.0 c.requires.at c.loop.actor.me.0 c.loop.pairs.items c.loop.walker c.loop.invariant.2
