use Rattle.machine_model.proofs.OneWord.{steps_change_one_word}
use Rattle.machine_model.proofs.laws.steps_change_one_word.Goals as goal

pub returns : goal.returns
returns c = steps_change_one_word
