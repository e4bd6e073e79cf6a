use Rattle.script_text.specs.Threads.Reading.{thread_dialect, thread_script_of}
use Rattle.script_text.specs.Views.{read}
use Rattle.script_text.proofs.Few.{is_short}
use Rattle.script_text.proofs.Threads.Found.{is_found}
use Rattle.script_text.proofs.Threads.Again.{only_so}
use Rattle.script_text.proofs.thread_scripts.read_thread_script.Goals as goal

pub returns-clause-found : goal.returns-clause-found
unfolding thread_script_of
returns-clause-found c = is_found c.args.text.now c.read_text.result c.read_text.ensures

pub returns-clause-only : goal.returns-clause-only
unfolding thread_script_of
returns-clause-only c = only_so c.args.text.now c.read_text.result c.read_text.ensures

pub returns-clause-short : goal.returns-clause-short
unfolding thread_script_of
returns-clause-short c = is_short thread_dialect read c.args.text.now c.read_text.result c.read_text.ensures
