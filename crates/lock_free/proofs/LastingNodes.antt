-- What stays of accounts and nodes, and what a live main node and an operation name.
use Rattle.std.proofs.Common.{◌≡◌, ◌<◌, ℕ, suc, zero, Bool, List, [], ◌∷◌, ◌++◌, Contains, get_or, length, Some, None, refl, sym, ap, subst, ◌∙◌, arith}
use Rattle.std.proofs.lemmas.List.Elements.{Contains-append_left}
use Rattle.proof_memory.specs.Vocabulary.{HashKind}
use Rattle.machine_model.specs.Beneath.slot_arena.specs.declared.refs.Ref.{Ref}
use Rattle.machine_model.specs.Beneath.slot_arena.specs.declared.nodes.Node.{Node}
use Rattle.machine_model.specs.Beneath.slot_arena.specs.declared.nodes.Node.TheVariants.{Indirection, Branch, Single, Tomb, List as Listed}
use Rattle.machine_model.specs.Beneath.slot_arena.specs.declared.nodes.Slot.{Slot}
use Rattle.machine_model.specs.Beneath.slot_arena.specs.Refs.{slot_of}
use Rattle.machine_model.specs.Beneath.slot_arena.specs.Heaps.{stored, refs_of_node, refs_of_slot, refs_of_prev, entries_of}
use Rattle.machine_model.specs.declared.operations.Operation.{Operation}
use Rattle.machine_model.proofs.Along.{limits_along}
use Rattle.proof_memory.specs.Laws.{SameNode}
use Rattle.proof_memory.specs.Wants.{line_wants}
use Rattle.lock_free.specs.declared.accounts.Account.{Account}
use Rattle.lock_free.specs.declared.accounts.Owned.{Owned}
use Rattle.lock_free.specs.declared.sizes.Sizes.{Sizes}
use Rattle.lock_free.specs.Accounts.{bounds_for, state_of, OwnIs, later}
use Rattle.lock_free.specs.Live.{refs_of_claims, from_slot, IsLive}

-- places stay where they are
pub place_stays : (names more : List ℕ) (k : ℕ) → k < length names → get_or (names ++ more) k 0 ≡ get_or names k 0
place_stays [] more k h = absurd (omega (arith, h))
place_stays (x ∷ xs) more zero h = refl
place_stays (x ∷ xs) more (suc k) h = place_stays xs more k (omega (arith, h))

pub owns_in_front : (more owned : List Owned) (k m : ℕ) (b : Bool) → OwnIs owned k m b → OwnIs (more ++ owned) k m b
owns_in_front [] owned k m b h = h
owns_in_front (x ∷ xs) owned k m b h = later x (xs ++ owned) k m b (owns_in_front xs owned k m b h)

-- the entries of a main node stay
pub same_entries : (before after : Node) → SameNode before after → entries_of after ≡ entries_of before
same_entries (Indirection generation main) after same = ap entries_of same.1
same_entries (Branch bitmap entries) after same = ap entries_of same.1
same_entries (Single key value) after same = ap entries_of same.1
same_entries (Tomb single) after same = ap entries_of same.1
same_entries (Listed singles) after same = ap entries_of same.1

pub entry_named : (node : Node) (r : Ref) → Contains (entries_of node) r → Contains (refs_of_node node) r
entry_named (Indirection generation main) r c = let low = c.1 in absurd (omega (arith, low))
entry_named (Branch bitmap entries) r c = c
entry_named (Single key value) r c = c
entry_named (Tomb single) r c = c
entry_named (Listed singles) r c = c

-- what is an entry of a live main node is live
pub entry_lives : (sizes : Sizes) (account : Account) (main r : Ref) (slot : Slot) → IsLive (state_of sizes account) main → get_or (state_of sizes account).heap.slots
    (slot_of main) None ≡ Some slot → Contains (entries_of slot.node) r → IsLive (state_of sizes account) r
unfolding stored
entry_lives sizes account main r slot live is c =
    from_slot main r live (subst (λ o. Contains (refs_of_slot o) r) (sym is) (Contains-append_left (refs_of_node slot.node) (refs_of_prev slot.prev) r (entry_named slot.node r c)))

-- what an operation has at hand, by the hash
abbrev pub hand_by : HashKind → Operation → List Ref
hand_by hash operation = refs_of_claims (line_wants hash operation.call operation.access operation.line) ++ operation.private

pub same_hash : (sizes : Sizes) (a b : Account) → (state_of sizes a).limits.hash ≡ (state_of sizes b).limits.hash
same_hash sizes a b = ap (λ l. l.hash) (limits_along (bounds_for sizes a.steps) a.steps) ∙ sym (ap (λ l. l.hash) (limits_along (bounds_for sizes b.steps) b.steps))
