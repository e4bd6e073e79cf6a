use Rattle.std.specs.Prelude.{◌≡◌, Some}
use Rattle.std.proofs.Common.{sym, ap, subst}
use Rattle.running.specs.declared.programs.ProgramAt.{ProgramAt}
use Rattle.running.specs.declared.programs.ProgramAt.TheVariants.{Runs, Walked}
use Rattle.running.specs.Vocabulary.{answer_of}
use Rattle.running.specs.Places.{asking_line}
use Rattle.running.proofs.Answering.{ends}
use Rattle.running.proofs.programs.Programs.take_reply.Goals as goal

pub returns-in-Walked-clause-reply : goal.returns-in-Walked-clause-reply
returns-in-Walked-clause-reply c =
    let p = c.args.self.now in
    let answer = c.take_reply.result in
    sym (subst (λ (s : ProgramAt). answer_of (asking_line p c.args.program s p.asking) ≡ Some answer) (sym c.in-Walked.is)
    (ends p c.args.program (Walked c.in-Walked.call) p.asking (Some answer) (λ told. ap Some (sym (c.take_reply.ensures 0)))))

pub returns-in-Runs-clause-reply : goal.returns-in-Runs-clause-reply
returns-in-Runs-clause-reply c =
    let p = c.args.self.now in
    let answer = c.reply_at_end.result in
    sym (subst (λ (s : ProgramAt). answer_of (asking_line p c.args.program s p.asking) ≡ answer) (sym c.in-Runs.is) (ends p c.args.program Runs p.asking answer c.reply_at_end.ensures))
