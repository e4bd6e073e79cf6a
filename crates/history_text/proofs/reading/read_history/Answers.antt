use Rattle.history_text.specs.Reading.{history_of}
use Rattle.history_text.proofs.Found.{is_found}
use Rattle.history_text.proofs.Only.{only_so}
use Rattle.history_text.proofs.reading.read_history.Goals as goal

pub returns-clause-found : goal.returns-clause-found
unfolding history_of
returns-clause-found c = is_found c.args.text.now c.read_text.result c.read_text.ensures

pub returns-clause-only : goal.returns-clause-only
unfolding history_of
returns-clause-only c = only_so c.args.text.now c.read_text.result c.read_text.ensures
