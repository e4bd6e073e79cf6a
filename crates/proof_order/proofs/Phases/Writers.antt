-- An operation that is in a SWAP runs on a writable handle, and has the root of its generation.
use Rattle.std.proofs.Common.{◌≡◌, ℕ, suc, ◌≤◌, Some, refl, sym, ap, ◌∙◌, subst, arith}
use Rattle.proof_order.specs.Vocabulary.{Access, Writable, ReadOnly, Purpose, Operation, Swap, Bounds, Step, State, operation_after, turns, IsRun, Turn, is_past_root}
use Rattle.proof_order.specs.Beneath.machine_model.specs.declared.lines.Line.TheVariants as line
use Rattle.proof_order.specs.Beneath.machine_model.proofs.Actors.{mark_only, marks_in}
use Rattle.proof_order.specs.Beneath.machine_model.proofs.Readers.{IsReaders, first_readers, readers}
use Rattle.proof_order.specs.Beneath.machine_model.proofs.Times.{along_run}
use Rattle.proof_order.specs.Beneath.proof_memory.proofs.Safety.AtEachTime.{safe_at}
use Rattle.proof_order.specs.Beneath.proof_memory.proofs.Safety.States.{IsSafe}
use Rattle.proof_generations.proofs.Handles.Running.{Comes, began, rested, went, comes, gave}
use Rattle.proof_order.specs.Facts.{Runs}
use Rattle.proof_order.proofs.Offers.Standing.{nobody}
use Rattle.proof_order.specs.Beneath.history.proofs.Places.{option_tested}

-- an operation on a read-only handle stands on a reader's line
abbrev AllReaders : State → Type 0
AllReaders state = (k : ℕ) (operation : Operation) → Runs state k operation → operation.access ≡ ReadOnly → IsReaders operation.line

readers_by : (state : State) (s : Step) → IsSafe state → AllReaders state → (k : ℕ) (found : Operation) → Comes state s k found → found.access ≡ ReadOnly → IsReaders found.line
readers_by state s S all k found (began call number go d it) e = subst IsReaders (sym (ap (λ (x : Operation). x.line) it)) (first_readers call)
readers_by state s S all k found (rested was at_k it other_step) e =
    let same = it ∙ mark_only (marks_in state s) was in
    subst IsReaders (sym (ap (λ (x : Operation). x.line) same)) (all k was at_k (ap (λ (x : Operation). x.access) (sym same) ∙ e))
readers_by state s S all k found (went was go at_k g it) e =
    let same = it ∙ mark_only (marks_in state s) (operation_after state was) in
    let read_only = ap (λ (x : Operation). x.access) (sym same) ∙ e in
    subst IsReaders (sym (ap (λ (x : Operation). x.line) same)) (readers state was was.line read_only (S.fits k was at_k read_only) (all k was at_k read_only))
readers_by state s S all k found (gave was answer go at_k may it) e = subst IsReaders (sym (ap (λ (x : Operation). x.line) it)) tt

readers_at : {limits : Bounds} {states : ℕ → State} {last : ℕ} (r : IsRun limits states last) → (t : ℕ) → t ≤ last → AllReaders (states t)
readers_at {limits} {states} {last} r =
    along_run r (λ t. AllReaders (states t)) (λ k operation runs. absurd (nobody limits k operation (subst (λ q. Runs q k operation) r.first runs)))
    (λ t lt turn before. by_turn (states t) (states (suc t)) (safe_at r t (omega arith)) turn before)
  where
    by_turn : (before after : State) → IsSafe before → Turn before after → AllReaders before → AllReaders after
    by_turn before after S (turns s o m) all k found runs = readers_by before s S all k found (comes before s o after m k found runs)

pub swaps_writable : {limits : Bounds} {states : ℕ → State} {last : ℕ} (r : IsRun limits states last) → (t k : ℕ) (operation : Operation) (why : Purpose) (s : Swap) →
    t ≤ last → Runs (states t) k operation →
    operation.line ≡ line.Swap why s → operation.access ≡ Writable
swaps_writable {limits} {states} {last} r t k operation why s le runs at = by operation.access refl
  where
    by : (access : Access) → operation.access ≡ access → access ≡ Writable
    by Writable e = refl
    by ReadOnly e = absurd (subst IsReaders at (readers_at r t le k operation runs e))

pub swaps_rooted : {limits : Bounds} {states : ℕ → State} {last : ℕ} (r : IsRun limits states last) → (t k : ℕ) (operation : Operation) (why : Purpose) (s : Swap) →
    t ≤ last → Runs (states t) k operation →
    operation.line ≡ line.Swap why s → (generation : ℕ) × (operation.generation ≡ Some generation)
swaps_rooted {limits} {states} {last} r t k operation why s le runs at = option_tested operation.generation ((safe_at r t le).known k operation runs (ap is_past_root at))
