use Rattle.std.proofs.Common.{◌<◌, ◌∙◌, ap, sym, subst}
use Rattle.slot_arena.specs.Refs.{slot_of}
use Rattle.chronicle.specs.Committed.{Committed, AreLatest, IsNewestCommitted, commit_step}
use Rattle.chronicle.proofs.CommitSteps.{latest_noted}
use Rattle.chronicle.proofs.commits.Commits.note.Goals as goal

pub invariant_of-self : goal.invariant_of-self
invariant_of-self c =
    let within = subst (λ (v : Committed). slot_of c.args.main < v.slots) (sym c.self.view_is) c.requires.room in
    let newest = subst (λ (v : Committed). IsNewestCommitted v.commits c.args.main) (sym c.self.view_is) c.requires.newest in
    subst (AreLatest c.set_once.new.latest.items) (sym c.with_last-self-inside.ensures)
    (latest_noted c.self.inside.latest.items c.set_once.new.latest.items c.self.inside.listed.items c.args.main c.args.step c.committed_at-committed.result c.self.invariant newest
    c.requires.begun within
    (c.committed_at-committed.ensures ∙ ap (λ (v : Committed). commit_step v.commits c.args.main) (sym c.self.view_is)) c.set_once.ensures)
