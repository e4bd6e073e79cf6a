-- A machine's state as a program of the map sees it: it knows the heap and the hashes, and nothing else of the state.
use Rattle.std.specs.Prelude.{false, [], None}
use Rattle.trie_parts.specs.Beneath.ctrie_base.specs.declared.hashes.HashKind.{HashKind}
use Rattle.trie_parts.specs.Beneath.ctrie_base.specs.declared.hashes.HashKind.TheVariants.{Low}
use Rattle.trie_parts.specs.Beneath.history.specs.declared.calls.Access.TheVariants.{ReadOnly}
use Rattle.trie_parts.specs.Beneath.history.specs.declared.calls.Call.TheVariants.{Get}
use Rattle.trie_parts.specs.Beneath.slot_arena.specs.Heaps.{Heap}
use Rattle.trie_parts.specs.Beneath.machine_model.specs.declared.lines.Line.TheVariants.{Impossible}
use Rattle.trie_parts.specs.Beneath.machine_model.specs.declared.operations.Operation.{Operation}
use Rattle.trie_parts.specs.Beneath.machine_model.specs.States.{State}

-- the state, whatever else it has, with this heap and these hashes
abbrev pub at_heap : State → Heap → HashKind → State
at_heap state heap hashes = record state { heap = heap; limits = record state.limits { hash = hashes } }

-- a state and an operation with nothing in them, to which what is known is added
abbrev pub no_state : State
no_state = record {
  limits = record { slots = 0; actors = 0; hash = Low; steps = 0 };
  heap = record { slots = []; free = []; births = 0 };
  generations = 0;
  limbo = [];
  epoch = 0;
  cursor = 0;
  roots = [];
  actors = [];
  begun = 0;
  steps = 0;
}

abbrev pub no_operation : Operation
no_operation = record {
  id = 0;
  call = Get 0 0;
  access = ReadOnly;
  epoch = 0;
  private = [];
  opens = None;
  attempt = 0;
  is_marked = false;
  generation = None;
  line = Impossible;
}
