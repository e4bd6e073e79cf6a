use Rattle.rdcss_root.proofs.Rewriting.{ready_less, ready_on, moves_more, moves_on}
use Rattle.rdcss_root.proofs.roots.Roots.carry_out.Goals as goal

pub put_word-requires-clause-ready : goal.put_word-requires-clause-ready
put_word-requires-clause-ready c = rw c.note_carried.ensures (ready_less c.requires.ready)

pub put-requires-clause-ready : goal.put-requires-clause-ready
put-requires-clause-ready c = ready_on c.requires.ready (rw c.note_carried.ensures at c.put_word.ensures.moves)

pub returns-in-Some-clause-moves : goal.returns-in-Some-clause-moves
returns-in-Some-clause-moves c = moves_on (rw c.note_carried.ensures at c.put_word.ensures.moves) c.put.ensures.moves

pub returns-in_default-clause-moves : goal.returns-in_default-clause-moves
returns-in_default-clause-moves c = moves_more (rw c.note_carried.ensures at c.put_word.ensures.moves)
