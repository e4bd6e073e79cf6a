use Rattle.machine_model.proofs.LooksAfter.{steps_read_one_word}
use Rattle.machine_model.proofs.laws.steps_read_one_word.Goals as goal

pub returns : goal.returns
returns c = steps_read_one_word
