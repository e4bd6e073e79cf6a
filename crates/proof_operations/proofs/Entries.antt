-- Each node has at most 32 entries.
use Rattle.std.proofs.Common.{ℕ, zero, suc, ◌≤◌, ◌==◌, nat_le, Bool, true, false, List, [], ◌∷◌, length, take, set, get_or, replicate, Option, Some, None, option_map, inl, inr, sym, subst, arith}
use Rattle.std.proofs.Common.{get_or-set_same, get_or-set_other, length-set}
use Rattle.std.proofs.lemmas.Bool.{cases_eq, cases_lt, cond_both}
use Rattle.std.proofs.lemmas.List.{get_or_past, length-take}
use Rattle.proof_operations.specs.Vocabulary.{HashKind, Swept, Reclaimer, ripe, sweep_by, by_index, contracted, pair, index_in, list_depth, Node, Indirection, Branch, Single, Tomb, List as Listed}
use Rattle.proof_operations.specs.Vocabulary.{Prev, Slot, Ref, slot_of, Heap, entries_of, freed, node_at, node_of, stored, take_from, taken, with_main, with_main_word, with_prev, written, Action}
use Rattle.proof_operations.specs.Vocabulary.{BuildLine, Change, CopyLine, KeyLine, Line, Operation, ReadLine, SwapLine, CleanLine, ClimbLine, RenewLine, CompleteLine, Descriptor, RootLine, Bounds}
use Rattle.proof_operations.specs.Vocabulary.{Outcome, Step, WalkLine, acted, decided, if_changed, new_root_taken, build_action, changed, handle_of, clean_action, climb_action, copy_action}
use Rattle.proof_operations.specs.Vocabulary.{key_action, reclaimer_of, run, Moves, Begins, Ends, Sweeps, begun_operation, action_of, line_action, Verdict, Commits, Fails, Overtaken, read_action}
use Rattle.proof_operations.specs.Vocabulary.{renew_action, State, empty_heap, first_state, action_at, complete_action_at, root_action, walk_action, GivesUp}
use Rattle.proof_operations.specs.Beneath.machine_model.specs.declared.actions.Action.TheVariants as act
use Rattle.proof_operations.specs.Beneath.machine_model.specs.declared.building.BuildLine.TheVariants as build
use Rattle.proof_operations.specs.Beneath.machine_model.specs.declared.building.Change.TheVariants as change
use Rattle.proof_operations.specs.Beneath.machine_model.specs.declared.copying.CopyLine.TheVariants as copy
use Rattle.proof_operations.specs.Beneath.machine_model.specs.declared.finding.KeyLine.TheVariants as key
use Rattle.proof_operations.specs.Beneath.machine_model.specs.declared.lines.Line.TheVariants as line
use Rattle.proof_operations.specs.Beneath.machine_model.specs.declared.reading.ReadLine.TheVariants as read
use Rattle.proof_operations.specs.Beneath.machine_model.specs.declared.reading.SwapLine.TheVariants as swap
use Rattle.proof_operations.specs.Beneath.machine_model.specs.declared.repairs.CleanLine.TheVariants as clean
use Rattle.proof_operations.specs.Beneath.machine_model.specs.declared.repairs.ClimbLine.TheVariants as climb
use Rattle.proof_operations.specs.Beneath.machine_model.specs.declared.repairs.RenewLine.TheVariants as renew
use Rattle.proof_operations.specs.Beneath.machine_model.specs.declared.roots.CompleteLine.TheVariants as complete
use Rattle.proof_operations.specs.Beneath.machine_model.specs.declared.roots.RootLine.TheVariants as root
use Rattle.proof_operations.specs.Beneath.machine_model.specs.declared.walking.WalkLine.TheVariants as walk
use Rattle.proof_operations.specs.Beneath.machine_model.specs.Moves.{Goes}
use Rattle.proof_operations.specs.Beneath.machine_model.proofs.Along.{along}
use Rattle.proof_operations.specs.Beneath.machine_model.proofs.HeapMoves.{aborted_heap, begin_heap, completed_heap, offered_heap}

abbrev HasFew : Node → Type 0
HasFew node = length (entries_of node) ≤ 32

-- ---- what is made

cut_few : (rs : List Ref) → length (take 32 rs) ≤ 32
cut_few rs = omega (arith, length-take 32 rs)

contracted_few : (may_entomb : Bool) (bitmap : ℕ) (entries : List Ref) → HasFew (contracted may_entomb bitmap entries)
contracted_few true bitmap [] = omega arith
contracted_few true bitmap (entry ∷ []) = omega arith
contracted_few true bitmap (entry ∷ other ∷ entries) = cut_few (entry ∷ other ∷ entries)
contracted_few false bitmap entries = cut_few entries

changed_few : (flag : ℕ) (node : Node) (c : Change) → HasFew (changed flag node c)
changed_few flag (Branch bitmap entries) (change.Insert single) = cut_few _
changed_few flag (Branch bitmap entries) (change.Update position entry) = cut_few _
changed_few flag (Branch bitmap entries) (change.Remove position) = cut_few _
changed_few flag (Branch bitmap entries) (change.Entomb single) = omega arith
changed_few flag (Listed singles) (change.Insert single) = cut_few _
changed_few flag (Listed singles) (change.Update position single) = cut_few _
changed_few flag (Listed singles) (change.Remove position) = cut_few _
changed_few flag (Listed singles) (change.Entomb single) = omega arith
changed_few flag (Indirection generation main) c = omega arith
changed_few flag (Single k v) c = omega arith
changed_few flag (Tomb single) c = omega arith

pair_few : (kind : HashKind) (depth old_hash hash : ℕ) (old single : Ref) → HasFew (pair kind depth old_hash hash old single)
pair_few kind depth old_hash hash old single =
    cond_both (depth == list_depth kind) _ _ HasFew (λ e. cut_few (old ∷ single ∷ [])) (λ e. cut_few (by_index (index_in old_hash depth) (index_in hash depth) old single))

-- what an action makes, if it makes a node
abbrev MakesFew : Action → Type 0
MakesFew (act.Make node) = HasFew node
MakesFew action = Unit {0}

reads : (indirection : Ref) (l : ReadLine) → MakesFew (read_action indirection l)
reads indirection read.Main = tt
reads indirection (read.Prev main) = tt
reads indirection (read.AskRoot main previous) = tt
reads indirection (read.Abort main previous offer) = tt
reads indirection (read.Decide main previous told) = tt
reads indirection (read.Restore main previous) = tt

completes : (offer : Descriptor) (l : CompleteLine) → MakesFew (complete_action_at offer l)
completes offer (complete.Reading l) = reads offer.root l
completes offer (complete.Swap main) = tt

roots : (l : RootLine) → MakesFew (root_action l)
roots root.Read = tt
roots (root.Completing c) = completes c.offer c.line

swaps : (indirection replaced fresh : Ref) (l : SwapLine) → MakesFew (action_at indirection replaced fresh l)
swaps indirection replaced fresh swap.Publish = tt
swaps indirection replaced fresh (swap.Deciding l) = reads indirection l
swaps indirection replaced fresh swap.Check = tt

keys : (state : State) (l : KeyLine) → MakesFew (key_action state l)
keys state (key.Read path r) = reads r.indirection r.line
keys state (key.Main path main) = tt
keys state (key.Entry path main position) = tt
keys state (key.Listed path main position) = tt
keys state (key.Sibling path main position former) = tt

builds : (state : State) (operation : Operation) (l : BuildLine) → MakesFew (build_action state operation l)
builds state operation (build.Single path main site former) = omega arith
builds state operation (build.Pair path main position single depth) = pair_few state.limits.hash depth _ _ _ single
builds state operation (build.Link path main position below depth) = omega arith
builds state operation (build.Rung path main position below depth) = cut_few (below ∷ [])
builds state operation (build.Main path main c former) = changed_few _ (node_at state.heap main) c

renews : (state : State) (operation : Operation) (l : RenewLine) → MakesFew (renew_action state operation l)
renews state operation (renew.Entry path main done) = tt
renews state operation (renew.Read path main done r) = reads r.indirection r.line
renews state operation (renew.Link path main done child) = omega arith
renews state operation (renew.Branch path main done) = cut_few done

cleans : (state : State) (l : CleanLine) → MakesFew (clean_action state l)
cleans state (clean.Read path r) = reads r.indirection r.line
cleans state (clean.Main path main) = tt
cleans state (clean.Entry path main done) = tt
cleans state (clean.Child path main done r) = reads r.indirection r.line
cleans state (clean.Tomb path main done child) = tt
cleans state (clean.Contracted path main done) = contracted_few _ _ done

climbs : (state : State) (operation : Operation) (l : ClimbLine) → MakesFew (climb_action state operation l)
climbs state operation (climb.Read c r) = reads r.indirection r.line
climbs state operation (climb.Main c main) = tt
climbs state operation (climb.Contracted c main) = contracted_few _ _ _
climbs state operation (climb.Root c l) = roots l

copies : (l : CopyLine) → MakesFew (copy_action l)
copies (copy.Read r l) = reads l.indirection l.line
copies (copy.Successor r main) = tt
copies (copy.Second r main successor) = tt
copies (copy.Empty r main) = omega arith
copies (copy.Cleared r main branch) = tt
copies (copy.Offer offer) = tt
copies (copy.Complete c) = completes c.offer c.line

walks : (l : WalkLine) → MakesFew (walk_action l)
walks walk.Root = tt
walks (walk.Read r todo pairs) = reads r.indirection r.line
walks (walk.Main main todo pairs) = tt
walks (walk.Entry todo pairs) = tt

makes_few : (state : State) (operation : Operation) (l : Line) → MakesFew (line_action state operation l)
makes_few state operation (line.Root l) = roots l
makes_few state operation (line.Key l) = keys state l
makes_few state operation (line.Build l) = builds state operation l
makes_few state operation (line.Swap why s) = swaps s.indirection s.replaced s.fresh s.line
makes_few state operation (line.Renew l) = renews state operation l
makes_few state operation (line.Clean l) = cleans state l
makes_few state operation (line.Climb l) = climbs state operation l
makes_few state operation (line.Copy l) = copies l
makes_few state operation (line.Walk l) = walks l
makes_few state operation (line.End answer) = tt
makes_few state operation line.Impossible = tt

-- ---- what is written

abbrev AreFew : Heap → Type 0
AreFew heap = (k : ℕ) → HasFew (node_of (get_or heap.slots k None))

set_few : (slots : List (Option Slot)) (k : ℕ) (put : Option Slot) → HasFew (node_of put) → ((i : ℕ) → HasFew (node_of (get_or slots i None))) →
    (i : ℕ) → HasFew (node_of (get_or (set slots k put) i None))
set_few slots k put here all i = elim (cases_eq i k) [
  | inl same ↦ subst (λ j. HasFew (node_of (get_or (set slots k put) j None))) (sym same) (elim (cases_lt k (length slots)) [
    | inl within ↦ subst (λ o. HasFew (node_of o)) (sym (get_or-set_same slots k put None within)) here
    | inr past ↦ subst (λ o. HasFew (node_of o)) (sym (get_or_past (set slots k put) k None (omega (arith, length-set slots k put, past)))) (omega arith)
  ])
  | inr other ↦ subst (λ o. HasFew (node_of o)) (sym (get_or-set_other slots k i put None other)) (all i)
]

put_few : (change : Slot → Slot) → ((slot : Slot) → HasFew slot.node → HasFew (change slot).node) → (o : Option Slot) → HasFew (node_of o) → HasFew (node_of (option_map change o))
put_few change keeps None h = h
put_few change keeps (Some slot) h = keeps slot h

written_few : (change : Slot → Slot) → ((slot : Slot) → HasFew slot.node → HasFew (change slot).node) → (heap : Heap) (r : Ref) → AreFew heap → AreFew (written change heap r)
unfolding stored
written_few change keeps heap r h = set_few heap.slots (slot_of r) _ (put_few change keeps (stored heap r) (h (slot_of r))) h

word_few : (m : Ref) (node : Node) → HasFew node → HasFew (with_main_word m node)
word_few m (Indirection generation main) h = h
word_few m (Branch bitmap entries) h = h
word_few m (Single k v) h = h
word_few m (Tomb single) h = h
word_few m (Listed singles) h = h

main_few : (heap : Heap) (r m : Ref) → AreFew heap → AreFew (with_main heap r m)
unfolding with_main
main_few heap r m h = written_few _ (λ slot few. word_few m slot.node few) heap r h

prev_few : (heap : Heap) (r : Ref) (p : Prev) → AreFew heap → AreFew (with_prev heap r p)
unfolding with_prev
prev_few heap r p h = written_few _ (λ slot few. few) heap r h

take_few : (heap : Heap) (node : Node) → HasFew node → (free : List ℕ) → AreFew heap → AreFew (take_from heap node free)
take_few heap node few [] h = h
take_few heap node few (slot ∷ free) h = set_few heap.slots slot _ few h

taken_few : (heap : Heap) (node : Node) → HasFew node → AreFew heap → AreFew (taken heap node)
unfolding taken
taken_few heap node few h = take_few heap node few heap.free h

freed_few : (heap : Heap) (r : Ref) → AreFew heap → AreFew (freed heap r)
unfolding freed
freed_few heap r h = set_few heap.slots (slot_of r) None (omega arith) h

if_few : (b : Bool) (changed same : Heap) → AreFew changed → AreFew same → AreFew (if_changed b changed same)
if_few true changed same c s = c
if_few false changed same c s = s

decided_few : (heap : Heap) (main previous : Ref) (v : Verdict) → AreFew heap → AreFew (decided heap main previous v)
decided_few heap main previous Commits h = prev_few heap main _ h
decided_few heap main previous Fails h = prev_few heap main _ h
decided_few heap main previous (Overtaken licensed) h = h

root_few : (state : State) (main : Ref) (made : Option Ref) → AreFew state.heap → AreFew (new_root_taken state main made).heap
root_few state main None h = h
root_few state main (Some made) h = taken_few state.heap _ (omega arith) h

acted_few : (state : State) (handle : ℕ) (action : Action) → MakesFew action → AreFew state.heap → AreFew (acted state handle action).heap
acted_few state handle (act.Abort offer) few h = subst AreFew (sym (aborted_heap state handle offer)) h
acted_few state handle (act.Offer offer) few h = subst AreFew (sym (offered_heap state handle offer)) h
acted_few state handle (act.Complete offer main) few h = subst AreFew (sym (completed_heap state handle offer main)) h
acted_few state handle (act.Publish indirection replaced fresh) few h = if_few _ _ state.heap (prev_few _ fresh _ (main_few state.heap indirection fresh h)) h
acted_few state handle (act.Restore indirection main previous) few h = if_few _ _ state.heap (main_few state.heap indirection previous h) h
acted_few state handle (act.Decide indirection main previous told) few h = decided_few state.heap main previous _ h
acted_few state handle (act.Make node) few h = taken_few state.heap node few h
acted_few state handle (act.MakeRoot main) few h = root_few state main _ h
acted_few state handle action few h = h

swept_few : (pins : List (Option ℕ)) (r : Reclaimer) (due : Option Ref) → AreFew r.heap → AreFew (sweep_by pins r due).1.heap
swept_few pins r None h = cond_both (nat_le r.cursor (length pins)) _ _ (λ (done : Swept × Reclaimer). AreFew done.1.heap) (λ e. h) (λ e. h)
swept_few pins r (Some at) h = freed_few r.heap at h

moved_few : (state : State) (s : Step) (o : Outcome) (after : State) → Moves state s o after → AreFew state.heap → AreFew after.heap
moved_few state s o after (Begins {actor} {call} {number} d) h = subst AreFew (sym (begin_heap state actor call (begun_operation state call number))) h
moved_few state s o after (Goes {actor} {operation} d is a g) h =
    acted_few _ (handle_of operation.call) (action_of state operation) (makes_few state operation operation.line) h
moved_few state s o after (Ends d is a) h = h
moved_few state s o after (GivesUp d is a) h = h
moved_few state s o after (Sweeps spent) h = swept_few _ (reclaimer_of state) (ripe state.epoch state.limbo) h

-- ---- along each run

empty_few : (slots : ℕ) → AreFew (empty_heap slots)
empty_few slots k = by slots k
  where
    by : (n k : ℕ) → HasFew (node_of (get_or (replicate n None) k None))
    by zero k = omega arith
    by (suc n) zero = omega arith
    by (suc n) (suc k) = by n k

first_few : (limits : Bounds) → AreFew (first_state limits).heap
unfolding first_state
first_few limits = taken_few _ _ (omega arith) (taken_few _ _ (omega arith) (empty_few limits.slots))

pub few_entries : (limits : Bounds) (steps : List Step) (r : Ref) → length (entries_of (node_at (run limits steps).heap r)) ≤ 32
unfolding node_at stored
few_entries limits steps r =
    along limits (λ state. AreFew state.heap) (first_few limits) (λ steps s o after m h. moved_few (run limits steps) s o after m h) steps (slot_of r)
