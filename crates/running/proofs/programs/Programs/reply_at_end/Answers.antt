use Rattle.running.proofs.Answering.{copy_goes_on, walk_goes_on}
use Rattle.running.proofs.programs.Programs.reply_at_end.Goals as goal

pub returns-in-Copy : goal.returns-in-Copy
returns-in-Copy c = let p = c.args.self.now in rw c.in-Copy.is (λ told. copy_goes_on p.copy.root p.key.work.swap.read told p.copy.at)

pub returns-in-Walk : goal.returns-in-Walk
returns-in-Walk c =
    let p = c.args.self.now in
    rw c.in-Walk.is (λ told. walk_goes_on p.key.work.swap.read told p.walk.todo.items p.walk.pairs.items p.walk.at)
