-- WALK.
use Rattle.std.specs.Prelude.{◌≡◌, ℕ, List, [], ◌∷◌, ◌++◌}
use Rattle.machine_model.specs.Beneath.slot_arena.specs.declared.refs.Ref.{Ref}
use Rattle.machine_model.specs.Beneath.slot_arena.specs.declared.nodes.Node.TheVariants.{Indirection, Single}
use Rattle.machine_model.specs.Beneath.slot_arena.specs.Heaps.{node_at, entries_of}
use Rattle.machine_model.specs.declared.operations.Operation.{Operation}
use Rattle.machine_model.specs.declared.lines.Line.{Line}
use Rattle.machine_model.specs.declared.lines.Line.TheVariants as line
use Rattle.machine_model.specs.declared.reading.After.TheVariants.{Goes, Gives}
use Rattle.machine_model.specs.declared.reading.Read.{Read}
use Rattle.machine_model.specs.declared.walking.WalkLine.{WalkLine}
use Rattle.machine_model.specs.declared.walking.WalkLine.TheVariants as walk
use Rattle.machine_model.specs.Calls.{handle_of}
use Rattle.machine_model.specs.States.{State, word_at, root_of}
use Rattle.machine_model.specs.Reading.{read_step, reading}
use Rattle.machine_model.specs.Walking.{first_of, rest_of, walked_reply}

-- where a walk goes on, by the entries that are left
pub data WalkNext (operation : Operation) (pairs : List (ℕ × ℕ)) : List Ref → Line → Type 0 where
  walked : WalkNext operation pairs [] (line.End (walked_reply operation.call pairs))
  walks : (entry : Ref) (todo : List Ref) → WalkNext operation pairs (entry ∷ todo) (line.Walk (walk.Entry (entry ∷ todo) pairs))

pub data WalkEdge (state : State) (operation : Operation) : WalkLine → Line → Type 0 where
  begins : WalkEdge state operation walk.Root (line.Walk (walk.Read (reading (root_of (word_at state (handle_of operation.call)))) [] []))
  reads_on : (r next : Read) (todo : List Ref) (pairs : List (ℕ × ℕ)) → read_step state operation r ≡ Goes next →
      WalkEdge state operation (walk.Read r todo pairs) (line.Walk (walk.Read next todo pairs))
  gives : (r : Read) (main : Ref) (todo : List Ref) (pairs : List (ℕ × ℕ)) → read_step state operation r ≡ Gives main →
      WalkEdge state operation (walk.Read r todo pairs) (line.Walk (walk.Main main todo pairs))
  opens : (main : Ref) (todo : List Ref) (pairs : List (ℕ × ℕ)) (next : Line) → WalkNext operation pairs (entries_of (node_at state.heap main) ++ todo) next →
      WalkEdge state operation (walk.Main main todo pairs) next
  goes_down : (todo : List Ref) (pairs : List (ℕ × ℕ)) (g w : ℕ) → node_at state.heap (first_of todo) ≡ Indirection g w →
      WalkEdge state operation (walk.Entry todo pairs) (line.Walk (walk.Read (reading (first_of todo)) (rest_of todo) pairs))
  takes : (todo : List Ref) (pairs : List (ℕ × ℕ)) (k v : ℕ) (next : Line) → node_at state.heap (first_of todo) ≡ Single k v →
      WalkNext operation (pairs ++ (k, v) ∷ []) (rest_of todo) next → WalkEdge state operation (walk.Entry todo pairs) next
  strays : (l : WalkLine) → WalkEdge state operation l line.Impossible
