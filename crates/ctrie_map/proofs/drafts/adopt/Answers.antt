use Rattle.ctrie_map.proofs.Adopting.{adopt_named, adopt_shows, old_there}
use Rattle.ctrie_map.proofs.drafts.adopt.Goals as goal

pub let_go-requires-clause-there : goal.let_go-requires-clause-there
let_go-requires-clause-there c =
    let (world, m, beside) = c.requires.beside in
    old_there world c.args.names.now c.args.handle c.args.name c.requires.«open» c.args.draft m c.args.core.now.state beside

pub returns-clause-named : goal.returns-clause-named
returns-clause-named c =
    let (world, m, beside) = c.requires.beside in
    rw c.rename.ensures (adopt_named world c.args.names.now c.args.handle c.args.name c.requires.«open» c.args.draft m c.args.core.now.state beside c.let_go.new.core.state
    c.let_go.ensures.gone)

pub returns-clause-adopted : goal.returns-clause-adopted
returns-clause-adopted c = λ world m beside.
    rw c.rename.ensures (adopt_shows world c.args.names.now c.args.handle c.args.name c.requires.«open» c.args.draft m c.args.core.now.state beside c.let_go.new.core.state
    c.let_go.ensures.gone)
