-- Laws of generations, handles and offers, for every list of steps.
use Rattle.std.specs.Prelude.{◌≡◌, ℕ, ◌<◌, true, false, List, ◌++◌, Option, Some, None}
use Rattle.proof_generations.specs.Vocabulary.{Writable, ReadOnly, Ref, Slot, generation_of, generation_at, Action, Operation, Complete, Descriptor, Root, Plain, Offer, Bounds, Step, handle_of}
use Rattle.proof_generations.specs.Vocabulary.{is_close, State, root_at, root_of, word_at, operation_of, action_of, stands_in, AreBounds, run, standing, Record, closed_at, record_of}
use Rattle.proof_generations.specs.Beneath.machine_model.specs.declared.actions.Action.TheVariants as act
use Rattle.proof_generations.specs.Beneath.machine_model.specs.declared.copying.CopyLine.TheVariants as copy
use Rattle.proof_generations.specs.Beneath.machine_model.specs.declared.lines.Line.TheVariants as line

-- ---- the counter

-- The generation that is drawn next is greater than each that there is: of an indirection, of an operation's root, and of a closing.
abbrev pub GenerationsAreDrawn : Type 0
GenerationsAreDrawn =
    (limits : Bounds) (steps : List Step) → AreBounds limits →
    ((r : Ref) (slot : Slot) → standing (run limits steps).heap r ≡ Some slot → generation_of slot.node < (run limits steps).generations)
    × ((actor : ℕ) (operation : Operation) (g : ℕ) → operation_of (run limits steps) actor ≡ Some operation → operation.generation ≡ Some g → g < (run limits steps).generations)
    × ((g c : ℕ) → closed_at (record_of limits steps) g ≡ Some c → g < (run limits steps).generations)

-- ---- offers

-- the operation made this offer in its running try, and is completing it
abbrev pub Completes : Operation → Descriptor → Type 0
Completes operation offer =
    (operation.id ≡ offer.operation) × (operation.attempt ≡ offer.attempt) × (operation.opens ≡ offer.opens)
    × ((c : Complete) × (operation.line ≡ line.Copy (copy.Complete c)) × (c.offer ≡ offer))

-- while an offer stands in a root word the operation that made it runs on that handle, in that try, without its mark
abbrev pub OfferersRun : Type 0
OfferersRun =
    (limits : Bounds) (steps : List Step) (handle : ℕ) (offer : Descriptor) → AreBounds limits → word_at (run limits steps) handle ≡ Offer offer →
    (actor : ℕ) × (operation : Operation) × (operation_of (run limits steps) actor ≡ Some operation) × (handle_of operation.call ≡ handle) × (operation.is_marked ≡ false)
    × Completes operation offer

-- the offer that an action takes back or carries out, if it is one to do so
abbrev pub settles : Action → Option Descriptor
settles (act.Abort offer) = Some offer
settles (act.Complete offer main) = Some offer
settles action = None

-- who takes an offer back or carries it out knows it by its operation and its try, and finds the very same offer
abbrev pub OffersAreFound : Type 0
OffersAreFound =
    (limits : Bounds) (steps : List Step) (actor : ℕ) (operation : Operation) (offer : Descriptor) → AreBounds limits → operation_of (run limits steps) actor ≡ Some operation →
    settles (action_of (run limits steps) operation) ≡ Some offer → stands_in (word_at (run limits steps) (handle_of operation.call)) offer ≡ true →
    word_at (run limits steps) (handle_of operation.call) ≡ Offer offer

-- ---- handles

-- the handle of a running operation is open, and of the kind that it had at the begin; but a close has taken it away
abbrev pub HandlesStayOpen : Type 0
HandlesStayOpen =
    (limits : Bounds) (steps : List Step) (actor : ℕ) (operation : Operation) → AreBounds limits → operation_of (run limits steps) actor ≡ Some operation → is_close operation.call ≡ false →
    (root : Root) × (root_at (run limits steps) (handle_of operation.call) ≡ Some root) × (root.access ≡ operation.access)

-- until its mark no handle has the number that an operation is to open, and no other such operation has it
abbrev pub NumbersAreReserved : Type 0
NumbersAreReserved =
    (limits : Bounds) (steps : List Step) (actor n : ℕ) (operation : Operation) → AreBounds limits → operation_of (run limits steps) actor ≡ Some operation → operation.is_marked ≡ false →
    operation.opens ≡ Some n →
    (root_at (run limits steps) n ≡ None)
    × ((other : ℕ) (rival : Operation) → operation_of (run limits steps) other ≡ Some rival → rival.is_marked ≡ false → rival.opens ≡ Some n → other ≡ actor)

-- ---- roots

-- the generation of a root
abbrev pub root_generation : State → Root → ℕ
root_generation state root = generation_at state.heap (root_of root.word)

-- the root of a writable handle has a generation that is open, and that no other handle's root has
abbrev pub WritableRootsAreOwn : Type 0
WritableRootsAreOwn =
    (limits : Bounds) (steps : List Step) (handle : ℕ) (root : Root) → AreBounds limits → root_at (run limits steps) handle ≡ Some root → root.access ≡ Writable →
    (closed_at (record_of limits steps) (root_generation (run limits steps) root) ≡ None)
    × ((other : ℕ) (rival : Root) → root_at (run limits steps) other ≡ Some rival → root_generation (run limits steps) rival ≡ root_generation (run limits steps) root → other ≡ handle)

-- the root of a read-only handle has a generation that is closed, and no offer stands in its word
abbrev pub ReadOnlyRootsAreClosed : Type 0
ReadOnlyRootsAreClosed =
    (limits : Bounds) (steps : List Step) (handle : ℕ) (root : Root) → AreBounds limits → root_at (run limits steps) handle ≡ Some root → root.access ≡ ReadOnly →
    (root.word ≡ Plain (root_of root.word)) × ((c : ℕ) × (closed_at (record_of limits steps) (root_generation (run limits steps) root) ≡ Some c))

-- a generation that is closed stays so, by that very step, and is never again that of a writable handle's root
abbrev pub ClosedForEver : Type 0
ClosedForEver =
    (limits : Bounds) (before since : List Step) (g c : ℕ) → AreBounds limits → closed_at (record_of limits before) g ≡ Some c →
    (closed_at (record_of limits (before ++ since)) g ≡ Some c)
    × ((handle : ℕ) (root : Root) → root_at (run limits (before ++ since)) handle ≡ Some root → root.access ≡ Writable → ¬ (root_generation (run limits (before ++ since)) root ≡ g))

-- the generation is open, and no handle's root has it
abbrev pub IsFree : State → Record → ℕ → Type 0
IsFree state past g = (closed_at past g ≡ None) × ((handle : ℕ) (root : Root) → root_at state handle ≡ Some root → ¬ (root_generation state root ≡ g))

-- while an offer stands the roots that it brings have generations that are open, that no handle's root has, and that differ
abbrev pub OfferedRootsAreFree : Type 0
OfferedRootsAreFree =
    (limits : Bounds) (steps : List Step) (handle : ℕ) (offer : Descriptor) → AreBounds limits → word_at (run limits steps) handle ≡ Offer offer →
    IsFree (run limits steps) (record_of limits steps) (generation_at (run limits steps).heap offer.successor)
    × ((second : Ref) → offer.second ≡ Some second →
    IsFree (run limits steps) (record_of limits steps) (generation_at (run limits steps).heap second)
    × ¬ (generation_at (run limits steps).heap second ≡ generation_at (run limits steps).heap offer.successor))
