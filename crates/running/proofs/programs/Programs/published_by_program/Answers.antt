use Rattle.std.proofs.Common.{sym}
use Rattle.running.specs.declared.job.Program.TheVariants.{Key}
use Rattle.running.specs.Places.{operation_for}
use Rattle.running.proofs.programs.Programs.published_by_program.Goals as goal

pub returns-in-Key : goal.returns-in-Key
returns-in-Key c =
    rw c.in-Key.is (λ table operation told. sym (c.published.ensures told (operation_for c.args.job.now (Key c.in-Key.field-0) table c.args.self.now operation)))
