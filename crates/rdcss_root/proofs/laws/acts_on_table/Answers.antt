use Rattle.rdcss_root.proofs.Acting.{acts_on_table}
use Rattle.rdcss_root.proofs.laws.acts_on_table.Goals as goal

pub returns : goal.returns
returns c = acts_on_table
