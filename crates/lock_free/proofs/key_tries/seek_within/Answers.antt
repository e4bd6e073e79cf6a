use Rattle.std.proofs.Common.{IfOk, ◌<◌, length, refl, sym, subst, ◌∙◌}
use Rattle.lock_free.specs.declared.descending.Found.TheVariants as found
use Rattle.lock_free.specs.Descending.{HasFound, IsHere}
use Rattle.lock_free.specs.Seeking.{HasRenewedLast, HasSought, IsToClean, IsToRenew}
use Rattle.lock_free.specs.declared.renewing.Renewed.TheVariants as renewed
use Rattle.lock_free.proofs.Seekings.{as_renewed, found_leaves, seeking_full, spent_full, spent_stock, begins, path_ready, task_there, stock_there}
use Rattle.lock_free.proofs.Seekings.{answers, changes, parent_ready, two, cleaned, last_ready, last_some, reads_again, begins_anew, has_no_slot}
use Rattle.lock_free.specs.Leaving.{IsRepair, LeavesSwap, OrSpent}
use Rattle.lock_free.proofs.Leavings.{if_err, if_ok}
use Rattle.lock_free.proofs.key_tries.seek_within.Goals as goal

pub loop-init : goal.loop-init
loop-init c = (refl, c.requires.sound, c.requires.stock, begins c.args.actor.now.me.0 c.args.task.now c.args.path.now.items c.requires.task c.requires.at)

pub descend_within-requires-clause-table : goal.descend_within-requires-clause-table
descend_within-requires-clause-table c = c.loop.invariant.0 ∙ c.requires.table

pub descend_within-requires-clause-sound : goal.descend_within-requires-clause-sound
descend_within-requires-clause-sound c = c.loop.invariant.1

pub descend_within-requires-clause-task : goal.descend_within-requires-clause-task
descend_within-requires-clause-task c = c.loop.invariant.3.its

pub descend_within-requires-clause-at : goal.descend_within-requires-clause-at
descend_within-requires-clause-at c =
    let i = c.loop.invariant in
    path_ready c.args.actor.now.me.0 c.args.path.now.items c.requires.at c.args.task.now c.loop.path.items c.loop.actor.me.0 i.3

pub returns-in-Answers-clause-table : goal.returns-in-Answers-clause-table
returns-in-Answers-clause-table c = c.descend_within.ensures.table ∙ c.loop.invariant.0

pub returns-in-Answers-clause-stock : goal.returns-in-Answers-clause-stock
returns-in-Answers-clause-stock c =
    let i = c.loop.invariant in
    stock_there c.args.actor.now.me.0 c.args.path.now.items c.requires.at c.args.task.now c.loop.path.items c.loop.actor.me.0 i.3 c.descend_within.new.path.items (found.Answers c.in-Answers.reply)
    c.descend_within.new.actor.me.0 (subst (λ f. HasFound c.loop.actor.me.0 c.descend_within.new.path.items f c.descend_within.new.actor.me.0) c.in-Answers.is (c.in-Some.ensures {u = tt}).found)
    c.args.words.now.table_id.words i.1 c.loop.stock i.2

pub returns-in-Answers-clause-sought : goal.returns-in-Answers-clause-sought
returns-in-Answers-clause-sought c =
    let i = c.loop.invariant in
    answers c.args.actor.now.me.0 c.args.path.now.items c.requires.at c.args.task.now c.loop.path.items c.loop.actor.me.0 i.3 c.descend_within.new.path.items c.in-Answers.reply
    c.descend_within.new.actor.me.0
    (subst (λ f. HasFound c.loop.actor.me.0 c.descend_within.new.path.items f c.descend_within.new.actor.me.0) c.in-Answers.is (c.in-Some.ensures {u = tt}).found)

pub returns-in-Changes-clause-table : goal.returns-in-Changes-clause-table
returns-in-Changes-clause-table c = c.descend_within.ensures.table ∙ c.loop.invariant.0

pub returns-in-Changes-clause-stock : goal.returns-in-Changes-clause-stock
returns-in-Changes-clause-stock c =
    let i = c.loop.invariant in
    stock_there c.args.actor.now.me.0 c.args.path.now.items c.requires.at c.args.task.now c.loop.path.items c.loop.actor.me.0 i.3 c.descend_within.new.path.items
    (found.Changes c.in-Changes.update c.in-Changes.given) c.descend_within.new.actor.me.0 (subst (λ f. HasFound c.loop.actor.me.0 c.descend_within.new.path.items f c.descend_within.new.actor.me.0)
    c.in-Changes.is (c.in-Some.ensures {u = tt}).found) c.args.words.now.table_id.words i.1 c.loop.stock i.2

pub returns-in-Changes-clause-sought : goal.returns-in-Changes-clause-sought
returns-in-Changes-clause-sought c =
    let i = c.loop.invariant in
    changes c.args.actor.now.me.0 c.args.path.now.items c.requires.at c.args.task.now c.loop.path.items c.loop.actor.me.0 i.3 c.descend_within.new.path.items c.in-Changes.update c.in-Changes.given
    c.descend_within.new.actor.me.0 (subst (λ f. HasFound c.loop.actor.me.0 c.descend_within.new.path.items f c.descend_within.new.actor.me.0) c.in-Changes.is (c.in-Some.ensures {u = tt}).found)

pub clean_parent_within-requires-clause-table : goal.clean_parent_within-requires-clause-table
clean_parent_within-requires-clause-table c = c.descend_within.ensures.table ∙ c.loop.invariant.0 ∙ c.requires.table

pub clean_parent_within-requires-clause-stock : goal.clean_parent_within-requires-clause-stock
clean_parent_within-requires-clause-stock c =
    let i = c.loop.invariant in
    stock_there c.args.actor.now.me.0 c.args.path.now.items c.requires.at c.args.task.now c.loop.path.items c.loop.actor.me.0 i.3 c.descend_within.new.path.items (found.Cleans)
    c.descend_within.new.actor.me.0
    (subst (λ f. HasFound c.loop.actor.me.0 c.descend_within.new.path.items f c.descend_within.new.actor.me.0) c.in-Cleans.is (c.in-Some.ensures {u = tt}).found) c.args.words.now.table_id.words i.1
    c.loop.stock i.2

pub clean_parent_within-requires-clause-task : goal.clean_parent_within-requires-clause-task
clean_parent_within-requires-clause-task c =
    let i = c.loop.invariant in
    task_there c.args.actor.now.me.0 c.args.path.now.items c.requires.at c.args.task.now c.loop.path.items c.loop.actor.me.0 i.3 c.descend_within.new.path.items found.Cleans
    c.descend_within.new.actor.me.0
    (subst (λ f. HasFound c.loop.actor.me.0 c.descend_within.new.path.items f c.descend_within.new.actor.me.0) c.in-Cleans.is (c.in-Some.ensures {u = tt}).found)

pub clean_parent_within-requires-clause-some : goal.clean_parent_within-requires-clause-some
clean_parent_within-requires-clause-some c =
    let i = c.loop.invariant in
    subst (λ xs. 1 < length xs) (sym c.as_slice.ensures.value)
    (two c.descend_within.new.actor.me.0 c.descend_within.new.path.items
    (parent_ready c.args.actor.now.me.0 c.args.path.now.items c.requires.at c.args.task.now c.loop.path.items c.loop.actor.me.0 i.3 c.descend_within.new.path.items c.descend_within.new.actor.me.0
    (subst (λ f. HasFound c.loop.actor.me.0 c.descend_within.new.path.items f c.descend_within.new.actor.me.0) c.in-Cleans.is (c.in-Some.ensures {u = tt}).found)))

pub clean_parent_within-requires-clause-at : goal.clean_parent_within-requires-clause-at
clean_parent_within-requires-clause-at c =
    let i = c.loop.invariant in
    subst (λ xs. IsToClean c.descend_within.new.actor.me.0 xs) (sym c.as_slice.ensures.value)
    (parent_ready c.args.actor.now.me.0 c.args.path.now.items c.requires.at c.args.task.now c.loop.path.items c.loop.actor.me.0 i.3 c.descend_within.new.path.items c.descend_within.new.actor.me.0
    (subst (λ f. HasFound c.loop.actor.me.0 c.descend_within.new.path.items f c.descend_within.new.actor.me.0) c.in-Cleans.is (c.in-Some.ensures {u = tt}).found))

pub returns-in-Cleans-clause-table : goal.returns-in-Cleans-clause-table
returns-in-Cleans-clause-table c = c.clean_parent_within.ensures.table ∙ c.descend_within.ensures.table ∙ c.loop.invariant.0

pub returns-in-Cleans-clause-sought : goal.returns-in-Cleans-clause-sought
returns-in-Cleans-clause-sought c =
    let i = c.loop.invariant in
    let w = c.descend_within.new.actor.me.0 in
    let z = c.clean_parent_within.new.actor.me.0 in
    let slots = c.descend_within.new.path.items in
    if_ok (λ r. HasSought w slots r z) (λ r. HasSought c.args.actor.now.me.0 slots r z)
    (λ r h. cleaned c.args.actor.now.me.0 c.args.path.now.items c.requires.at c.args.task.now c.loop.path.items c.loop.actor.me.0 i.3 c.descend_within.new.path.items w (subst (λ f. HasFound
    c.loop.actor.me.0 c.descend_within.new.path.items f c.descend_within.new.actor.me.0) c.in-Cleans.is (c.in-Some.ensures {u = tt}).found) r z h) c.clean_parent_within.result
    (subst (λ xs. IfOk c.clean_parent_within.result (λ r. HasSought w xs r z)) c.as_slice.ensures.value c.clean_parent_within.ensures.sought)

pub returns-in-Cleans-clause-left : goal.returns-in-Cleans-clause-left
returns-in-Cleans-clause-left c =
    let i = c.loop.invariant in
    let w = c.descend_within.new.actor.me.0 in
    let z = c.clean_parent_within.new.actor.me.0 in
    if_err (λ s. LeavesSwap IsRepair w s z) (λ s. LeavesSwap IsRepair c.args.actor.now.me.0 s z)
    (λ s h. found_leaves c.args.actor.now.me.0 c.args.path.now.items c.requires.at c.args.task.now c.loop.path.items c.loop.actor.me.0 i.3 c.descend_within.new.path.items found.Cleans w (subst (λ
    f. HasFound c.loop.actor.me.0 c.descend_within.new.path.items f c.descend_within.new.actor.me.0) c.in-Cleans.is (c.in-Some.ensures {u = tt}).found) s z h) c.clean_parent_within.result
    c.clean_parent_within.ensures.left

pub renew_last_within-requires-clause-table : goal.renew_last_within-requires-clause-table
renew_last_within-requires-clause-table c = c.descend_within.ensures.table ∙ c.loop.invariant.0 ∙ c.requires.table

pub renew_last_within-requires-clause-stock : goal.renew_last_within-requires-clause-stock
renew_last_within-requires-clause-stock c =
    let i = c.loop.invariant in
    stock_there c.args.actor.now.me.0 c.args.path.now.items c.requires.at c.args.task.now c.loop.path.items c.loop.actor.me.0 i.3 c.descend_within.new.path.items (found.Renews c.in-Renews.given)
    c.descend_within.new.actor.me.0 (subst (λ f. HasFound c.loop.actor.me.0 c.descend_within.new.path.items f c.descend_within.new.actor.me.0) c.in-Renews.is (c.in-Some.ensures {u = tt}).found)
    c.args.words.now.table_id.words i.1 c.loop.stock i.2

pub renew_last_within-requires-clause-task : goal.renew_last_within-requires-clause-task
renew_last_within-requires-clause-task c =
    let i = c.loop.invariant in
    task_there c.args.actor.now.me.0 c.args.path.now.items c.requires.at c.args.task.now c.loop.path.items c.loop.actor.me.0 i.3 c.descend_within.new.path.items (found.Renews c.in-Renews.given)
    c.descend_within.new.actor.me.0 (subst (λ f. HasFound c.loop.actor.me.0 c.descend_within.new.path.items f c.descend_within.new.actor.me.0) c.in-Renews.is (c.in-Some.ensures {u = tt}).found)

pub renew_last_within-requires-clause-some : goal.renew_last_within-requires-clause-some
renew_last_within-requires-clause-some c =
    let i = c.loop.invariant in
    subst (λ xs. 0 < length xs) (sym c.as_slice-in-Renews.ensures.value)
    (last_some c.args.actor.now.me.0 c.args.path.now.items c.requires.at c.args.task.now c.loop.path.items c.loop.actor.me.0 i.3 c.descend_within.new.path.items c.in-Renews.given
    c.descend_within.new.actor.me.0 (subst (λ f. HasFound c.loop.actor.me.0 c.descend_within.new.path.items f c.descend_within.new.actor.me.0) c.in-Renews.is (c.in-Some.ensures {u = tt}).found)
    c.args.words.now.table_id.words c.descend_within.ensures.sound)

pub renew_last_within-requires-clause-at : goal.renew_last_within-requires-clause-at
renew_last_within-requires-clause-at c =
    let i = c.loop.invariant in
    subst (λ xs. IsHere c.descend_within.new.actor.me.0 xs c.in-Renews.given (IsToRenew c.descend_within.new.actor.me.0)) (sym c.as_slice-in-Renews.ensures.value)
    (last_ready c.args.actor.now.me.0 c.args.path.now.items c.requires.at c.args.task.now c.loop.path.items c.loop.actor.me.0 i.3 c.descend_within.new.path.items c.in-Renews.given
    c.descend_within.new.actor.me.0 (subst (λ f. HasFound c.loop.actor.me.0 c.descend_within.new.path.items f c.descend_within.new.actor.me.0) c.in-Renews.is (c.in-Some.ensures {u = tt}).found))

pub loop-preserved : goal.loop-preserved
loop-preserved c =
    let i = c.loop.invariant in (
      c.renew_last_within.ensures.table ∙ c.descend_within.ensures.table ∙ i.0,
      c.renew_last_within.ensures.sound,
      c.renew_last_within.ensures.stock,
      reads_again c.args.actor.now.me.0 c.args.path.now.items c.requires.at c.args.task.now c.loop.path.items c.loop.actor.me.0 i.3 c.descend_within.new.path.items c.in-Renews.given
          c.descend_within.new.actor.me.0 (subst (λ f. HasFound c.loop.actor.me.0 c.descend_within.new.path.items f c.descend_within.new.actor.me.0) c.in-Renews.is (c.in-Some.ensures {u =
          tt}).found) c.args.words.now.table_id.words c.descend_within.ensures.sound c.renew_last_within.new.actor.me.0
          (subst (λ xs. HasRenewedLast c.descend_within.new.actor.me.0 xs renewed.Reads c.renew_last_within.new.actor.me.0) c.as_slice-in-Renews.ensures.value (as_renewed
          c.descend_within.new.actor.me.0 _ c.in-Ok.renewed renewed.Reads c.renew_last_within.new.actor.me.0 c.in-Reads.is (c.in-Ok.ensures {u = tt}).renewed)),
    )

pub returns-in-Again-clause-table : goal.returns-in-Again-clause-table
returns-in-Again-clause-table c = c.renew_last_within.ensures.table ∙ c.descend_within.ensures.table ∙ c.loop.invariant.0

pub returns-in-Again-clause-sought : goal.returns-in-Again-clause-sought
returns-in-Again-clause-sought c =
    let i = c.loop.invariant in
    begins_anew c.args.actor.now.me.0 c.args.path.now.items c.requires.at c.args.task.now c.loop.path.items c.loop.actor.me.0 i.3 c.descend_within.new.path.items c.in-Renews.given
    c.descend_within.new.actor.me.0 (subst (λ f. HasFound c.loop.actor.me.0 c.descend_within.new.path.items f c.descend_within.new.actor.me.0) c.in-Renews.is (c.in-Some.ensures {u = tt}).found)
    c.renew_last_within.new.actor.me.0
    (subst (λ xs. HasRenewedLast c.descend_within.new.actor.me.0 xs renewed.Again c.renew_last_within.new.actor.me.0) c.as_slice-in-Renews.ensures.value (as_renewed c.descend_within.new.actor.me.0
    _ c.in-Ok.renewed renewed.Again c.renew_last_within.new.actor.me.0 c.in-Again.is (c.in-Ok.ensures {u = tt}).renewed))

pub returns-in-Full-clause-table : goal.returns-in-Full-clause-table
returns-in-Full-clause-table c = c.renew_last_within.ensures.table ∙ c.descend_within.ensures.table ∙ c.loop.invariant.0

pub returns-in-Full-clause-sought : goal.returns-in-Full-clause-sought
returns-in-Full-clause-sought c =
    let i = c.loop.invariant in
    has_no_slot c.args.actor.now.me.0 c.args.path.now.items c.requires.at c.args.task.now c.loop.path.items c.loop.actor.me.0 i.3 c.descend_within.new.path.items c.in-Renews.given
    c.descend_within.new.actor.me.0 (subst (λ f. HasFound c.loop.actor.me.0 c.descend_within.new.path.items f c.descend_within.new.actor.me.0) c.in-Renews.is (c.in-Some.ensures {u = tt}).found)
    c.renew_last_within.new.actor.me.0
    (subst (λ xs. HasRenewedLast c.descend_within.new.actor.me.0 xs renewed.Full c.renew_last_within.new.actor.me.0) c.as_slice-in-Renews.ensures.value (as_renewed c.descend_within.new.actor.me.0 _
    c.in-Ok.renewed renewed.Full c.renew_last_within.new.actor.me.0 c.in-Full.is (c.in-Ok.ensures {u = tt}).renewed))

pub returns-in-Err-clause-table : goal.returns-in-Err-clause-table
returns-in-Err-clause-table c = c.renew_last_within.ensures.table ∙ c.descend_within.ensures.table ∙ c.loop.invariant.0

pub returns-in-Err-clause-left : goal.returns-in-Err-clause-left
returns-in-Err-clause-left c =
    let i = c.loop.invariant in
    found_leaves c.args.actor.now.me.0 c.args.path.now.items c.requires.at c.args.task.now c.loop.path.items c.loop.actor.me.0 i.3 c.descend_within.new.path.items (found.Renews c.in-Renews.given)
    c.descend_within.new.actor.me.0 (subst (λ f. HasFound c.loop.actor.me.0 c.descend_within.new.path.items f c.descend_within.new.actor.me.0) c.in-Renews.is (c.in-Some.ensures {u = tt}).found)
    c.in-Err.swapping c.renew_last_within.new.actor.me.0 (c.in-Err.ensures {u = tt}).left

pub returns-in_default-clause-table : goal.returns-in_default-clause-table
returns-in_default-clause-table c = c.descend_within.ensures.table ∙ c.loop.invariant.0

pub returns-in_default-clause-stock : goal.returns-in_default-clause-stock
returns-in_default-clause-stock c =
    let i = c.loop.invariant in
    spent_stock c.args.actor.now.me.0 c.args.path.now.items c.requires.at c.args.task.now c.loop.path.items c.loop.actor.me.0 i.3 c.descend_within.new.actor.me.0
    (subst (λ r. OrSpent (λ f. HasFound c.loop.actor.me.0 c.descend_within.new.path.items f c.descend_within.new.actor.me.0) r c.loop.actor.me.0 c.descend_within.new.actor.me.0) c.in_default.is
    c.descend_within.ensures.found) c.args.words.now.table_id.words i.1 c.loop.stock i.2

pub returns-in_default-clause-sought : goal.returns-in_default-clause-sought
returns-in_default-clause-sought c =
    let i = c.loop.invariant in
    spent_full c.args.actor.now.me.0 c.args.path.now.items c.requires.at c.args.task.now c.loop.path.items c.loop.actor.me.0 i.3 c.descend_within.new.actor.me.0
    (subst (λ r. OrSpent (λ f. HasFound c.loop.actor.me.0 c.descend_within.new.path.items f c.descend_within.new.actor.me.0) r c.loop.actor.me.0 c.descend_within.new.actor.me.0) c.in_default.is
    c.descend_within.ensures.found) c.descend_within.new.path.items

pub returns-clause-table : goal.returns-clause-table
returns-clause-table c = c.loop.invariant.0

pub returns-clause-sound : goal.returns-clause-sound
returns-clause-sound c = c.loop.invariant.1

pub returns-clause-stock : goal.returns-clause-stock
returns-clause-stock c = c.loop.invariant.2

pub returns-clause-sought : goal.returns-clause-sought
returns-clause-sought c =
    seeking_full c.args.actor.now.me.0 c.args.path.now.items c.requires.at c.args.task.now c.loop.path.items c.loop.actor.me.0 c.loop.invariant.3
