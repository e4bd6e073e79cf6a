use Rattle.history_scene.proofs.Each.{each_operation}
use Rattle.history_scene.proofs.scenes.has_each_operation.Goals as goal

pub returns : goal.returns
returns c = each_operation
