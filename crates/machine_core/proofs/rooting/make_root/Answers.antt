use Rattle.std.proofs.Common.{◌+◌, ap, sym, subst}
use Rattle.machine_core.specs.Vocabulary.{Indirection, IsDraft}
use Rattle.machine_core.specs.Beneath.proof_straight.specs.Drafts.{with_made}
use Rattle.machine_core.proofs.Rooted.{draft_rebased}
use Rattle.machine_core.proofs.rooting.make_root.Goals as goal

pub returns-clause-courses : goal.returns-clause-courses
returns-clause-courses c course is =
    let base = record course.base { generations = course.base.generations + 1 } in
    record {
      draft = subst (λ n. IsDraft base (with_made base course.draft (Indirection n c.args.main)) c.make-root.new.heap) (sym is.generations)
          (c.make-root.ensures.drafts base course.draft (draft_rebased course.base (course.base.generations + 1) course.draft c.args.parts.now.heap is.draft));
      roots = is.roots;
      generations = ap (λ n. n + 1) is.generations;
    }
