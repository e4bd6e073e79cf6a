-- What is followed: reached from a root, or from what an operation is to read or to store, through slots in use. Of an offer that an operation met in a root word
-- only the root is followed: what else it names is compared, and followed by the operation that made the offer.
use Rattle.std.specs.Prelude.{◌≡◌, ℕ, List, [], ◌∷◌, ◌++◌, Contains, Option, Some, None}
use Rattle.proof_followed.specs.Beneath.ctrie_base.specs.declared.hashes.HashKind.{HashKind}
use Rattle.proof_followed.specs.Beneath.history.specs.declared.calls.Access.{Access}
use Rattle.proof_followed.specs.Beneath.history.specs.declared.calls.Call.{Call}
use Rattle.proof_followed.specs.Beneath.slot_arena.specs.declared.refs.Ref.{Ref}
use Rattle.proof_followed.specs.Beneath.slot_arena.specs.Heaps.{stored, refs_of_slot}
use Rattle.proof_followed.specs.Beneath.machine_model.specs.declared.actions.Action.{Action}
use Rattle.proof_followed.specs.Beneath.machine_model.specs.declared.actions.Action.TheVariants as act
use Rattle.proof_followed.specs.Beneath.machine_model.specs.declared.lines.Line.{Line}
use Rattle.proof_followed.specs.Beneath.machine_model.specs.declared.lines.Line.TheVariants as line
use Rattle.proof_followed.specs.Beneath.machine_model.specs.declared.operations.Operation.{Operation}
use Rattle.proof_followed.specs.Beneath.machine_model.specs.declared.reading.Read.{Read}
use Rattle.proof_followed.specs.Beneath.machine_model.specs.declared.reading.ReadLine.{ReadLine}
use Rattle.proof_followed.specs.Beneath.machine_model.specs.declared.reading.ReadLine.TheVariants as read
use Rattle.proof_followed.specs.Beneath.machine_model.specs.declared.repairs.ClimbLine.TheVariants as climb
use Rattle.proof_followed.specs.Beneath.machine_model.specs.declared.roots.CompleteLine.{CompleteLine}
use Rattle.proof_followed.specs.Beneath.machine_model.specs.declared.roots.CompleteLine.TheVariants as complete
use Rattle.proof_followed.specs.Beneath.machine_model.specs.declared.roots.Root.{Root}
use Rattle.proof_followed.specs.Beneath.machine_model.specs.declared.roots.RootLine.{RootLine}
use Rattle.proof_followed.specs.Beneath.machine_model.specs.declared.roots.RootLine.TheVariants as root
use Rattle.proof_followed.specs.Beneath.machine_model.specs.Operations.{read_of}
use Rattle.proof_followed.specs.Beneath.machine_model.specs.Reads.{with_read}
use Rattle.proof_followed.specs.Beneath.machine_model.specs.States.{State, root_at, root_of, operation_of}
use Rattle.proof_followed.specs.Beneath.proof_memory.specs.Wants.{AnIndirection, AMain, Claim, Is, action_wants, climb_carries, line_wants, read_wants}
use Rattle.proof_garbage.specs.Live.{refs_of_claims}

-- ---- what a line follows

-- the line of a READ without the offer that it is to take back: as before it asked for the root
abbrev pub asked : ReadLine → ReadLine
asked (read.Abort main previous offer) = read.AskRoot main previous
asked l = l

abbrev pub asking : Option Read → Line → Line
asking None l = l
asking (Some r) l = with_read (asked r.line) l

-- the same of a program's line
abbrev pub unmet : Line → Line
unmet l = asking (read_of l) l

-- of a COMPLETE of an offer over this root that was met: the root, and what its READ has
abbrev pub met_wants : Ref → CompleteLine → List Claim
met_wants r (complete.Reading l) = Is r AnIndirection ∷ read_wants r (asked l)
met_wants r (complete.Swap main) = Is r AnIndirection ∷ Is main AMain ∷ []

abbrev pub met_root_wants : RootLine → List Claim
met_root_wants root.Read = []
met_root_wants (root.Completing c) = met_wants c.offer.root c.line

-- what a line takes the references for that it follows
abbrev pub followed_wants : HashKind → Call → Access → Line → List Claim
followed_wants kind call access (line.Root l) = met_root_wants l
followed_wants kind call access (line.Climb (climb.Root c l)) = climb_carries c ++ met_root_wants l
followed_wants kind call access l = line_wants kind call access (unmet l)

abbrev pub followed_claims : State → Operation → List Claim
followed_claims state operation = followed_wants state.limits.hash operation.call operation.access operation.line

-- the references that an operation follows: those of its line, and its private ones
abbrev pub followed_by : State → Operation → List Ref
followed_by state operation = refs_of_claims (followed_claims state operation) ++ operation.private

-- ---- what is followed

-- a reference that is followed from a root, or by an operation of these ids
pub data IsFollowed (state : State) (P : ℕ → Type 0) : Ref → Type 0 where
  from_root : (handle : ℕ) (root : Root) (r : Ref) → root_at state handle ≡ Some root → root_of root.word ≡ r → IsFollowed state P r
  from_operation : (actor : ℕ) (operation : Operation) (r : Ref) → operation_of state actor ≡ Some operation → P operation.id → Contains (followed_by state operation) r → IsFollowed state P r
  from_slot : (q r : Ref) → IsFollowed state P q → Contains (refs_of_slot (stored state.heap q)) r → IsFollowed state P r

-- by roots alone
abbrev pub IsFollowedByRoots : State → Ref → Type 0
IsFollowedByRoots state r = IsFollowed state (λ id. ⊥) r

-- by roots and all that run
abbrev pub IsFollowedByAny : State → Ref → Type 0
IsFollowedByAny state r = IsFollowed state (λ id. Unit {0}) r

-- what an action takes the references for whose words it reads or writes, or that it stores: of an offer that is taken back it stores the root that stands there, and of one that is completed
-- it compares the expected node
abbrev pub followed_action_wants : Action → List Claim
followed_action_wants (act.Abort offer) = []
followed_action_wants (act.Complete offer main) = Is main AMain ∷ Is offer.root AnIndirection ∷ []
followed_action_wants action = action_wants action
