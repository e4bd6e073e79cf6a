use Rattle.std.proofs.Common.{◌≡◌, ◌-◌, get_or, length, Some, sym, ap, ap₂, subst, ◌∙◌}
use Rattle.trie_words.specs.declared.entries.Entry.{Entry}
use Rattle.nodes.specs.Levels.{flag_of}
use Rattle.lock_free.specs.declared.changing.Edit.TheVariants as edit
use Rattle.lock_free.specs.Updating.{HasChanged, IsAtChange}
use Rattle.lock_free.proofs.KeyEntombs.{climbed_from, task_then, to_climb, tomb_fails, tomb_full, tomb_misses, tomb_parked, tomb_ready}
use Rattle.lock_free.proofs.OfTasks.{on_way}
use Rattle.lock_free.proofs.attempts.entomb.Goals as goal

pub change_main_within-requires-clause-way : goal.change_main_within-requires-clause-way
change_main_within-requires-clause-way c = on_way c.args.actor.now.me.0 c.args.task.now c.requires.task c.way.result c.way.ensures.0 c.way.ensures.1

pub change_main_within-requires-clause-at : goal.change_main_within-requires-clause-at
change_main_within-requires-clause-at c =
    let v = c.args.actor.now.me.0 in
    let slots = c.args.path.now.items in
    let name = c.single_in-single.result in
    let e = edit.Entomb (record { slot = name.slot; own = name.own }) in
    let flag = c.flag_of-flag.result in
    let long = c.len-last.ensures.value in
    let place : get_or slots (length slots - 1) 0 ≡ get_or c.deref.result.now (c.len-last.result - 1) 0 = ap₂ (λ xs k. get_or xs (k - 1) 0) (sym c.deref.ensures.0) (sym long) in
    subst (λ slot. IsAtChange v slot c.args.given flag e) place
    (tomb_ready c.args.words.now.table_id.words v c.requires.sound c.args.task.now c.requires.task slots c.requires.some c.args.given c.args.single c.args.former c.requires.at flag
    (c.flag_of-flag.ensures.flag ∙ ap (λ k. flag_of c.args.task.now.hash (k - 1)) long) e (c.requires.at.knows.0.1 ∙ sym (ap (λ (x : Entry). x.slot) c.single_in-single.ensures)))

pub returns-in_default-clause-attempted : goal.returns-in_default-clause-attempted
returns-in_default-clause-attempted c =
    let v = c.args.actor.now.me.0 in
    let w = c.change_main_within.new.actor.me.0 in
    tomb_full c.args.words.now.table_id.words v c.requires.sound c.args.task.now c.requires.task c.args.path.now.items c.requires.some c.args.given c.args.single c.args.former c.requires.at
    w (subst (λ r. HasChanged v r w) c.in_default.is (c.in-Ok.ensures {u = tt}).changed)

pub climb_out-requires-clause-task : goal.climb_out-requires-clause-task
climb_out-requires-clause-task c =
    let v = c.args.actor.now.me.0 in
    let w = c.change_main_within.new.actor.me.0 in
    task_then c.args.words.now.table_id.words v c.requires.sound c.args.task.now c.requires.task c.args.path.now.items c.requires.some c.args.given c.args.single c.args.former c.requires.at w
    c.in-Commits.field-0 (subst (λ r. HasChanged v r w) (c.in-Some.is ∙ ap Some c.in-Commits.is) (c.in-Ok.ensures {u = tt}).changed)

pub climb_out-requires-clause-at : goal.climb_out-requires-clause-at
climb_out-requires-clause-at c =
    let v = c.args.actor.now.me.0 in
    let w = c.change_main_within.new.actor.me.0 in
    to_climb c.args.words.now.table_id.words v c.requires.sound c.args.task.now c.requires.task c.args.path.now.items c.requires.some c.args.given c.args.single c.args.former c.requires.at w
    c.in-Commits.field-0 (subst (λ r. HasChanged v r w) (c.in-Some.is ∙ ap Some c.in-Commits.is) (c.in-Ok.ensures {u = tt}).changed) c.single_in-single.result c.single_in-single.ensures
    (ap (λ (x : Entry). x.is_single) c.single_in-single.ensures)

pub returns-in-Commits-clause-attempted : goal.returns-in-Commits-clause-attempted
returns-in-Commits-clause-attempted c =
    let v = c.args.actor.now.me.0 in
    let w = c.change_main_within.new.actor.me.0 in
    climbed_from c.args.words.now.table_id.words v c.requires.sound c.args.task.now c.requires.task c.args.path.now.items c.requires.some c.args.given c.args.single c.args.former c.requires.at w
    c.in-Commits.field-0 (subst (λ r. HasChanged v r w) (c.in-Some.is ∙ ap Some c.in-Commits.is) (c.in-Ok.ensures {u = tt}).changed) c.climb_out.new.actor.me.0 c.climb_out.result
    c.climb_out.ensures.climbed

pub returns-in-Fails-clause-attempted : goal.returns-in-Fails-clause-attempted
returns-in-Fails-clause-attempted c =
    let v = c.args.actor.now.me.0 in
    let w = c.change_main_within.new.actor.me.0 in
    tomb_fails c.args.words.now.table_id.words v c.requires.sound c.args.task.now c.requires.task c.args.path.now.items c.requires.some c.args.given c.args.single c.args.former c.requires.at w
    c.in-Fails.field-0 (subst (λ r. HasChanged v r w) (c.in-Some.is ∙ ap Some c.in-Fails.is) (c.in-Ok.ensures {u = tt}).changed)

pub returns-in-Misses-clause-attempted : goal.returns-in-Misses-clause-attempted
returns-in-Misses-clause-attempted c =
    let v = c.args.actor.now.me.0 in
    let w = c.change_main_within.new.actor.me.0 in
    tomb_misses c.args.words.now.table_id.words v c.requires.sound c.args.task.now c.requires.task c.args.path.now.items c.requires.some c.args.given c.args.single c.args.former c.requires.at w
    (subst (λ r. HasChanged v r w) (c.in-Some.is ∙ ap Some c.in-Misses.is) (c.in-Ok.ensures {u = tt}).changed)

pub returns-in-Err-clause-attempted : goal.returns-in-Err-clause-attempted
returns-in-Err-clause-attempted c =
    tomb_parked c.args.words.now.table_id.words c.args.actor.now.me.0 c.requires.sound c.args.task.now c.requires.task c.args.path.now.items c.requires.some c.args.given c.args.single c.args.former
    c.requires.at c.change_main_within.new.actor.me.0 c.in-Err.left (c.in-Err.ensures {u = tt}).left
