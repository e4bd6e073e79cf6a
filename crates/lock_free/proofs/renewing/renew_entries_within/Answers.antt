use Rattle.std.proofs.Common.{◌≡◌, false, get_or, refl, ◌∙◌, sym, ap, subst, arith, length, ◌<◌}
use Rattle.arrayvec.specs.ArrayVec.{ArrayVec}
use Rattle.trie_words.specs.declared.entries.Entry.{Entry}
use Rattle.lock_free.specs.Repairing.{IsAtRenewed, HasRenewed}
use Rattle.lock_free.proofs.RenewAll.{goes_first, entry_ready, goes_on, gives_up, all_renewed, kept_with}
use Rattle.lock_free.proofs.renewing.renew_entries_within.Goals.{then-next, else-next}
use Rattle.lock_free.proofs.renewing.renew_entries_within.Goals as goal

pub loop-n-init : goal.loop-n-init
loop-n-init c = (
  refl,
  c.requires.stock,
  goes_first c.args.words.now.table_id.words c.args.way c.args.start c.args.actor.now.me.0 c.requires.sound c.requires.way c.requires.start c.args.entries.now.items c.requires.at
      c.new-renewed.result.items c.new-kept.result.items c.new-renewed.ensures c.new-kept.ensures,
)

pub renew_entry_within-requires-clause-at : goal.renew_entry_within-requires-clause-at
renew_entry_within-requires-clause-at c =
    let few : c.loop-n.n < length c.args.entries.now.items = (let t = c.loop-n-test.true in let l = c.len-n-end.ensures.value in omega (arith, t, l)) in
    subst (λ xs. IsAtRenewed c.loop-n.actor.me.0 (get_or xs c.loop-n.n (record { slot = 0; own = _; is_single = _ }))) (sym c.deref.ensures.0)
    (entry_ready c.args.words.now.table_id.words c.args.way c.args.start c.args.actor.now.me.0 c.requires.sound c.requires.way c.requires.start c.args.entries.now.items c.requires.at
    c.loop-n.actor.me.0 c.loop-n.n c.loop-n.renewed.items c.loop-n.kept.items c.loop-n.invariant.2 few _)

pub returns-in-None-clause-renewed : goal.returns-in-None-clause-renewed
returns-in-None-clause-renewed c =
    let few : c.loop-n.n < length c.args.entries.now.items = (let t = c.loop-n-test.true in let l = c.len-n-end.ensures.value in omega (arith, t, l)) in
    gives_up c.args.words.now.table_id.words c.args.way c.args.start c.args.actor.now.me.0 c.requires.sound c.requires.way c.requires.start c.args.entries.now.items c.requires.at
    c.loop-n.actor.me.0 c.loop-n.n c.loop-n.renewed.items c.loop-n.kept.items c.loop-n.invariant.2 few (record { slot = 0; own = false; is_single = false }) c.renew_entry_within.new.actor.me.0
    c.renew_entry_within.ensures.sound
    (subst (λ r. HasRenewed c.loop-n.actor.me.0 r c.renew_entry_within.new.actor.me.0) c.in-None.is c.renew_entry_within.ensures.renewed)

pub loop-n-preserved : goal.loop-n-preserved
loop-n-preserved c =
    let few : c.loop-n.n < length c.args.entries.now.items = (let t = c.loop-n-test.true in let l = c.len-n-end.ensures.value in omega (arith, t, l)) in
    let kept_is : c.if-next.kept.items ≡ kept_with c.in-Some.next.is_kept c.loop-n.kept.items c.in-Some.next.entry = elim c.if-next.branch [
      | then-next b ↦
          ap (λ (x : ArrayVec Entry). x.items) b.kept-is ∙ b.push-then-next.ensures.items ∙ ap (λ k. kept_with k c.loop-n.kept.items c.in-Some.next.entry) (sym b.if-next.true)
      | else-next b ↦ ap (λ (x : ArrayVec Entry). x.items) b.kept-is ∙ ap (λ k. kept_with k c.loop-n.kept.items c.in-Some.next.entry) (sym b.if-next.false)
    ] in (
      c.renew_entry_within.ensures.table ∙ c.loop-n.invariant.0,
      c.renew_entry_within.ensures.stock,
      goes_on c.args.words.now.table_id.words c.args.way c.args.start c.args.actor.now.me.0 c.requires.sound c.requires.way c.requires.start c.args.entries.now.items c.requires.at
          c.loop-n.actor.me.0 c.loop-n.n c.loop-n.renewed.items c.loop-n.kept.items c.loop-n.invariant.2 few (record { slot = 0; own = false; is_single = false })
          c.renew_entry_within.new.actor.me.0 c.renew_entry_within.ensures.sound c.in-Some.next
          (subst (λ r. HasRenewed c.loop-n.actor.me.0 r c.renew_entry_within.new.actor.me.0) c.in-Some.is c.renew_entry_within.ensures.renewed) c.push.new.self.items c.if-next.kept.items
          c.push.ensures.items kept_is,
    )

pub returns-clause-renewed : goal.returns-clause-renewed
returns-clause-renewed c =
    let last : c.loop-n.n ≡ length c.args.entries.now.items = (let t = c.loop-n-test.false in let a = c.loop-n.auto.n-end in let l = c.len-n-end.ensures.value in omega (arith, t, a, l)) in
    all_renewed c.args.words.now.table_id.words c.args.way c.args.start c.args.actor.now.me.0 c.requires.sound c.requires.way c.requires.start c.args.entries.now.items c.requires.at
    c.loop-n.actor.me.0 c.loop-n.n c.loop-n.renewed.items c.loop-n.kept.items c.loop-n.invariant.2 last (record { entries = c.loop-n.renewed; kept = c.loop-n.kept }) refl refl
