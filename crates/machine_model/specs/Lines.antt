-- Lines to which several programs lead.
use Rattle.machine_model.specs.declared.roots.RootLine.TheVariants as root
use Rattle.machine_model.specs.declared.lines.Line.{Line}
use Rattle.machine_model.specs.declared.lines.Line.TheVariants as line

-- the first line of KEY and COPY: a try begins, with the root
abbrev pub new_try : Line
new_try = line.Root root.Read

-- a node is of another kind than the program takes it for; the laws say that no machine comes here
abbrev pub impossible : Line
impossible = line.Impossible
