use Rattle.std.proofs.Common.{◌<◌, length, sym, subst}
use Rattle.lock_free.specs.KeyRuns.{IsFoundAs}
use Rattle.lock_free.specs.Seeking.{HasSought}
use Rattle.lock_free.proofs.CallsRunOn.{sought_runs_on}
use Rattle.lock_free.proofs.LookedAt.{come_gotten, swap_gotten}
use Rattle.lock_free.proofs.Seekings.{two}
use Rattle.lock_free.proofs.finds.found_on_within.Goals as goal

pub returns-in-Answers-clause-gotten : goal.returns-in-Answers-clause-gotten
returns-in-Answers-clause-gotten c = (c.requires.small, subst (IsFoundAs c.args.actor.now.me.0 c.args.path.now.items) c.in-Answers.is c.requires.at)

pub returns-in-Changes-clause-gotten : goal.returns-in-Changes-clause-gotten
returns-in-Changes-clause-gotten c = (c.requires.small, (c.requires.task, subst (IsFoundAs c.args.actor.now.me.0 c.args.path.now.items) c.in-Changes.is c.requires.at))

pub clean_parent_within-requires-clause-some : goal.clean_parent_within-requires-clause-some
clean_parent_within-requires-clause-some c =
    subst (λ xs. 1 < length xs) (sym c.as_slice.ensures.value) (two c.args.actor.now.me.0 c.args.path.now.items (subst (IsFoundAs c.args.actor.now.me.0 c.args.path.now.items) c.in-Cleans.is
    c.requires.at))

pub returns-in-Ok-clause-runs : goal.returns-in-Ok-clause-runs
returns-in-Ok-clause-runs c = sought_runs_on c.args.actor.now.me.0 c.clean_parent_within.new.actor.me.0 c.as_slice.result.now c.in-Ok.sought (c.in-Ok.ensures {u = tt}).sought

pub returns-in-Ok-clause-gotten : goal.returns-in-Ok-clause-gotten
returns-in-Ok-clause-gotten c =
    let v = c.args.actor.now.me.0 in
    let w = c.clean_parent_within.new.actor.me.0 in
    let at = subst (IsFoundAs c.args.actor.now.me.0 c.args.path.now.items) c.in-Cleans.is c.requires.at in
    come_gotten v c.args.task.now c.requires.task c.requires.small at.1.0 at.1.1 c.args.path.now.items w c.in-Ok.sought
    (subst (λ xs. HasSought v xs c.in-Ok.sought w) c.as_slice.ensures.value (c.in-Ok.ensures {u = tt}).sought)

pub returns-in-Err-clause-gotten : goal.returns-in-Err-clause-gotten
returns-in-Err-clause-gotten c =
    swap_gotten c.args.actor.now.me.0 c.args.path.now.items c.in-Err.swapping c.clean_parent_within.new.actor.me.0 (c.in-Err.ensures {u = tt}).left

pub returns-in-Ok-renew_and_seek_within-clause-runs : goal.returns-in-Ok-renew_and_seek_within-clause-runs
returns-in-Ok-renew_and_seek_within-clause-runs c =
    sought_runs_on c.args.actor.now.me.0 c.renew_and_seek_within.new.actor.me.0 c.renew_and_seek_within.new.path.items c.in-Ok-renew_and_seek_within.sought
    (c.in-Ok-renew_and_seek_within.ensures {u = tt}).sought

pub returns-in-Ok-renew_and_seek_within-clause-gotten : goal.returns-in-Ok-renew_and_seek_within-clause-gotten
returns-in-Ok-renew_and_seek_within-clause-gotten c =
    let v = c.args.actor.now.me.0 in
    let at = subst (IsFoundAs c.args.actor.now.me.0 c.args.path.now.items) c.in-Renews.is c.requires.at in
    come_gotten v c.args.task.now c.requires.task c.requires.small at.1.3.0 at.1.3.1 c.renew_and_seek_within.new.path.items c.renew_and_seek_within.new.actor.me.0
    c.in-Ok-renew_and_seek_within.sought (c.in-Ok-renew_and_seek_within.ensures {u = tt}).sought

pub returns-in-Err-renew_and_seek_within-clause-gotten : goal.returns-in-Err-renew_and_seek_within-clause-gotten
returns-in-Err-renew_and_seek_within-clause-gotten c =
    swap_gotten c.args.actor.now.me.0 c.renew_and_seek_within.new.path.items c.in-Err-renew_and_seek_within.swapping c.renew_and_seek_within.new.actor.me.0
    (c.in-Err-renew_and_seek_within.ensures {u = tt}).left
