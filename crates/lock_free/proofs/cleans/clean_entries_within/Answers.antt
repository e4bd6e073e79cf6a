use Rattle.std.proofs.Common.{◌≡◌, false, get_or, ◌∙◌, sym, subst, arith, refl, length, ◌<◌}
use Rattle.trie_words.specs.declared.entries.Entry.{Entry}
use Rattle.lock_free.specs.Repairing.{IsAtCleaned}
use Rattle.lock_free.proofs.CleanAll.{main_ready, goes_first, entry_ready, goes_on, all_cleaned, spent_all}
use Rattle.lock_free.proofs.cleans.clean_entries_within.Goals as goal

pub look_at_main-requires-clause-looking : goal.look_at_main-requires-clause-looking
look_at_main-requires-clause-looking c =
    main_ready c.args.words.now.table_id.words c.args.way c.args.actor.now.me.0 c.requires.sound c.requires.way c.args.main c.args.entries.now.items c.requires.at

pub loop-n-init : goal.loop-n-init
loop-n-init c = (
  c.look_at_main.ensures.table,
  goes_first c.args.words.now.table_id.words c.args.way c.args.actor.now.me.0 c.requires.sound c.requires.way c.args.main c.args.entries.now.items c.requires.at c.look_at_main.new.actor.me.0
      c.look_at_main.ensures.sound c.look_at_main.result c.look_at_main.ensures.read c.new-cleaned.result c.new-cleaned.ensures.entries
      c.new-cleaned.ensures.singles,
)

pub clean_entry_within-requires-clause-at : goal.clean_entry_within-requires-clause-at
clean_entry_within-requires-clause-at c =
    let few : c.loop-n.n < length c.args.entries.now.items = (let t = c.loop-n-test.true in let l = c.len-n-end.ensures.value in omega (arith, t, l)) in
    subst (λ xs. IsAtCleaned c.loop-n.actor.me.0 (get_or xs c.loop-n.n (record { slot = 0; own = _; is_single = _ }))) (sym c.deref.ensures.0)
    (entry_ready c.args.words.now.table_id.words c.args.way c.args.actor.now.me.0 c.requires.sound c.requires.way c.args.main c.args.entries.now.items c.requires.at c.loop-n.actor.me.0 c.loop-n.n
    c.loop-n.cleaned.entries.items c.loop-n.cleaned.singles.items c.loop-n.invariant.1 few _)

pub loop-n-preserved : goal.loop-n-preserved
loop-n-preserved c =
    let few : c.loop-n.n < length c.args.entries.now.items = (let t = c.loop-n-test.true in let l = c.len-n-end.ensures.value in omega (arith, t, l)) in
    let next = c.in-Some.next in
    let d : Entry = record { slot = 0; own = false; is_single = false } in (
      c.clean_entry_within.ensures.table ∙ c.loop-n.invariant.0,
      goes_on c.args.words.now.table_id.words c.args.way c.args.actor.now.me.0 c.requires.sound c.requires.way c.args.main c.args.entries.now.items c.requires.at c.loop-n.actor.me.0 c.loop-n.n
          c.loop-n.cleaned.entries.items c.loop-n.cleaned.singles.items c.loop-n.invariant.1 few d c.clean_entry_within.new.actor.me.0 c.clean_entry_within.ensures.sound next
          (c.in-Some.ensures {u = tt}).cleaned c.push.new.self c.push.ensures.entries c.push.ensures.singles,
    )

pub returns-clause-cleaned : goal.returns-clause-cleaned
returns-clause-cleaned c =
    let last : c.loop-n.n ≡ length c.args.entries.now.items = (let t = c.loop-n-test.false in let a = c.loop-n.auto.n-end in let l = c.len-n-end.ensures.value in omega (arith, t, a, l)) in
    all_cleaned c.args.words.now.table_id.words c.args.way c.args.actor.now.me.0 c.requires.sound c.requires.way c.args.main c.args.entries.now.items c.requires.at c.loop-n.actor.me.0 c.loop-n.n
    c.loop-n.cleaned.entries.items c.loop-n.cleaned.singles.items c.loop-n.invariant.1 last c.loop-n.cleaned refl refl

pub returns-in-None-clause-cleaned : goal.returns-in-None-clause-cleaned
returns-in-None-clause-cleaned c =
    let few : c.loop-n.n < length c.args.entries.now.items = (let t = c.loop-n-test.true in let l = c.len-n-end.ensures.value in omega (arith, t, l)) in
    spent_all c.args.words.now.table_id.words c.args.way c.args.actor.now.me.0 c.requires.sound c.requires.way c.args.main c.args.entries.now.items c.requires.at c.loop-n.actor.me.0 c.loop-n.n
    c.loop-n.cleaned.entries.items c.loop-n.cleaned.singles.items c.loop-n.invariant.1 few (record { slot = 0; own = false; is_single = false }) c.clean_entry_within.new.actor.me.0
    (c.in-None.ensures {u = tt}).cleaned
