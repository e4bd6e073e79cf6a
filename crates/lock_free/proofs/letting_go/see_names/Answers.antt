use Rattle.std.proofs.Common.{[], ◌++◌, ◌∷◌, sym, ap, subst, ◌∙◌}
use Rattle.lock_free.specs.Halves.{entries_of_halves}
use Rattle.lock_free.specs.SeenNames.{HasSeenNames}
use Rattle.lock_free.proofs.SeenMains.{branch_ready, branch_seen, its_slot, list_ready, list_seen, tomb_fits, tomb_seen}
use Rattle.lock_free.proofs.letting_go.see_names.Goals as goal

pub see_main-requires-clause-held : goal.see_main-requires-clause-held
see_main-requires-clause-held c = its_slot c.args.words.now.table_id.words c.args.actor.now.me.0 c.requires.sound c.args.main c.requires.held

pub see_halves-requires-clause-held : goal.see_halves-requires-clause-held
see_halves-requires-clause-held c =
    branch_ready c.args.words.now.table_id.words c.args.actor.now.me.0 c.requires.sound c.args.main c.requires.held c.see_main.result c.see_main.new.actor.me.0 c.see_main.ensures.sound
    c.see_main.ensures.seen c.in-Branch.bitmap c.in-Branch.is

pub see_halves-requires-in-List-clause-held : goal.see_halves-requires-in-List-clause-held
see_halves-requires-in-List-clause-held c =
    list_ready c.args.words.now.table_id.words c.args.actor.now.me.0 c.requires.sound c.args.main c.requires.held c.see_main.result c.see_main.new.actor.me.0 c.see_main.ensures.sound
    c.see_main.ensures.seen c.in-List.count c.in-List.is

pub to_half-requires : goal.to_half-requires
to_half-requires c =
    tomb_fits c.args.words.now.table_id.words c.args.actor.now.me.0 c.requires.sound c.args.main c.requires.held c.see_main.result c.see_main.new.actor.me.0 c.see_main.ensures.sound
    c.see_main.ensures.seen c.in-Tomb.single c.in-Tomb.is

pub returns-in-Branch-clause-seen : goal.returns-in-Branch-clause-seen
returns-in-Branch-clause-seen c =
    branch_seen c.args.words.now.table_id.words c.args.actor.now.me.0 c.requires.sound c.args.main c.requires.held c.see_main.result c.see_main.new.actor.me.0 c.see_main.ensures.sound
    c.see_main.ensures.seen c.in-Branch.bitmap c.in-Branch.is (entries_of_halves c.see_halves.new.halves.items) c.see_halves.new.actor.me.0 c.see_halves.ensures.seen

pub returns-in-List-clause-seen : goal.returns-in-List-clause-seen
returns-in-List-clause-seen c =
    list_seen c.args.words.now.table_id.words c.args.actor.now.me.0 c.requires.sound c.args.main c.requires.held c.see_main.result c.see_main.new.actor.me.0 c.see_main.ensures.sound
    c.see_main.ensures.seen c.in-List.count c.in-List.is (entries_of_halves c.see_halves-in-List.new.halves.items) c.see_halves-in-List.new.actor.me.0 c.see_halves-in-List.ensures.seen

pub returns-in-Tomb-clause-seen : goal.returns-in-Tomb-clause-seen
returns-in-Tomb-clause-seen c =
    subst (λ hs. HasSeenNames c.args.actor.now.me.0 c.args.main (entries_of_halves hs) c.see_main.new.actor.me.0)
    (sym (c.push.ensures.items ∙ ap (λ xs. xs ++ c.to_half.result ∷ []) c.requires.none ∙ ap (λ h. h ∷ []) c.to_half.ensures))
    (tomb_seen c.args.words.now.table_id.words c.args.actor.now.me.0 c.requires.sound c.args.main c.requires.held c.see_main.result c.see_main.new.actor.me.0 c.see_main.ensures.sound
    c.see_main.ensures.seen c.in-Tomb.single c.in-Tomb.is)
