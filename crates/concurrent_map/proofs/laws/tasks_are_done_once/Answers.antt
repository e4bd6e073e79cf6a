use Rattle.concurrent_map.proofs.Tasks.{tasks_are_done_once}
use Rattle.concurrent_map.proofs.laws.tasks_are_done_once.Goals as goal

pub returns : goal.returns
returns c = tasks_are_done_once
