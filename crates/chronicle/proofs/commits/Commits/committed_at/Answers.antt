use Rattle.std.proofs.Common.{◌∙◌, List, ap, subst, sym}
use Rattle.slot_arena.specs.Refs.{slot_of}
use Rattle.machine_model.specs.declared.records.Commit.{Commit}
use Rattle.chronicle.specs.Committed.{Committed, IsNewestCommitted, commit_step, kept_of, step_for}
use Rattle.chronicle.proofs.commits.Commits.committed_at.Goals as goal

pub returns : goal.returns
returns c =
    let main = c.args.main in
    let newest = subst (λ (v : Committed). IsNewestCommitted v.commits main) (sym c.self.view_is) c.requires in
    c.step_of.ensures
    ∙ ap (λ (k : Commit). step_for k main)
    (c.kept_of.ensures ∙ ap (λ n. kept_of c.as_slice.result.now n) c.slot.ensures ∙ ap (λ (l : List Commit). kept_of l (slot_of main)) c.as_slice.ensures.value)
    ∙ c.self.invariant.says main newest
    ∙ ap (λ (v : Committed). commit_step v.commits main) c.self.view_is
