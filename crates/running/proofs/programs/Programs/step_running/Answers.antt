use Rattle.running.proofs.programs.Programs.step_running.Goals as goal

pub returns-in-Told : goal.returns-in-Told
returns-in-Told c = rw c.in-Told.is (rw c.in-Told.is at c.step_program-in-Told.ensures)

pub returns-in-Met : goal.returns-in-Met
returns-in-Met c = rw (c.of_kind.ensures, c.in-Met.is) (rw c.in-Met.is at c.ask_on-kind.ensures)

pub returns-in-Unasked : goal.returns-in-Unasked
returns-in-Unasked c = rw c.in-Unasked.is (rw c.in-Unasked.is at c.step_program.ensures)
