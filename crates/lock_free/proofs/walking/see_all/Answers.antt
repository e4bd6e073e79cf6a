use Rattle.std.proofs.Common.{◌++◌, ◌∷◌, [], sym, ap, subst, ◌∙◌}
use Rattle.lock_free.specs.SeenEntries.{AreEntriesTo}
use Rattle.machine_model.specs.Beneath.slot_arena.specs.Heaps.{node_at, entries_of}
use Rattle.lock_free.specs.Loading.{now}
use Rattle.lock_free.proofs.Laters.{later_self}
use Rattle.lock_free.proofs.OneWalk.Mains.{branch_has, branch_seen, list_has, list_seen, tomb_seen}
use Rattle.lock_free.proofs.walking.see_all.Goals as goal

pub see_entries-requires-clause-held : goal.see_entries-requires-clause-held
see_entries-requires-clause-held c =
    branch_has c.args.words.now.table_id.words c.args.actor.now.me.0 c.requires.sound c.args.given c.requires.at c.in-Branch.bitmap c.in-Branch.is

pub see_entries-requires-in-List-clause-held : goal.see_entries-requires-in-List-clause-held
see_entries-requires-in-List-clause-held c =
    list_has c.args.words.now.table_id.words c.args.actor.now.me.0 c.requires.sound c.args.given c.requires.at c.in-List.count c.in-List.is

pub returns-in-Branch-clause-seen : goal.returns-in-Branch-clause-seen
returns-in-Branch-clause-seen c =
    let g = c.see_entries.ensures.seen in
    let w = c.see_entries.new.actor.me.0 in (
      g.0,
      λ at. branch_seen c.args.words.now.table_id.words c.args.actor.now.me.0 c.requires.sound c.args.given at c.in-Branch.bitmap c.in-Branch.is w c.see_entries.result.items g,
    )

pub returns-in-List-clause-seen : goal.returns-in-List-clause-seen
returns-in-List-clause-seen c =
    let g = c.see_entries-in-List.ensures.seen in (
      g.0,
      λ at. list_seen c.args.words.now.table_id.words c.args.actor.now.me.0 c.requires.sound c.args.given at c.in-List.count c.in-List.is c.see_entries-in-List.new.actor.me.0
          c.see_entries-in-List.result.items g,
    )

pub returns-in-Tomb-clause-seen : goal.returns-in-Tomb-clause-seen
returns-in-Tomb-clause-seen c =
    let v = c.args.actor.now.me.0 in (
      record { later = later_self v; comes = λ o r. r },
      λ at. subst (λ xs. AreEntriesTo v xs (entries_of (node_at (now v).heap at.main))) (sym (c.push.ensures.items ∙ ap (λ xs. xs ++ c.in-Tomb.single ∷ []) c.new-entries.ensures))
          (tomb_seen c.args.words.now.table_id.words v c.requires.sound c.args.given at c.in-Tomb.single c.in-Tomb.is),
    )
