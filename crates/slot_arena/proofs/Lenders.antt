-- Loans of nodes in use: what stands in the slots is still what was lent.
use Rattle.std.proofs.Common.{◌≡◌, ℕ, ◌+◌, ◌⊎◌, true, List, ◌∷◌, get_or, set, slice_index, All, Option, None, sym, ap, ◌∙◌, subst, inl, inr, arith}
use Rattle.std.proofs.lemmas.Bool.{false≢true}
use Rattle.std.proofs.lemmas.List.{get_or-set_other}
use Rattle.slot_arena.specs.declared.refs.Ref.{Ref}
use Rattle.slot_arena.specs.declared.nodes.Slot.{Slot}
use Rattle.slot_arena.specs.Refs.{slot_of, birth_of}
use Rattle.slot_arena.specs.Heaps.{node_of, refs_of_node}
use Rattle.slot_arena.specs.Arenas.{has_birth}
use Rattle.slot_arena.specs.Chains.{Chain}
use Rattle.slot_arena.specs.Kept.{live, IsKept}
use Rattle.slot_arena.specs.Tallies.{naming}
use Rattle.slot_arena.specs.Loans.{Loan, IsLending, IsOver, KeepsLoan, LendsNone}
use Rattle.slot_arena.proofs.Changed.{live_there}
use Rattle.slot_arena.proofs.Live.{one_live, unnamed}
use Rattle.slot_arena.proofs.Makes.{first_unused}

-- a loan that stays, or is over
pub lending_kept : (slots : List (Option Slot)) (a b : Loan) → KeepsLoan a b → IsLending slots a → IsLending slots b
lending_kept slots a b (inl same) lends = subst (λ (l : Loan). IsLending slots l) (sym same) lends
lending_kept slots a b (inr over) lends = inl over

pub none_kept : (r : Ref) (a b : Loan) → KeepsLoan a b → LendsNone r a → LendsNone r b
none_kept r a b (inl same) none = subst (λ (l : Loan). LendsNone r l) (sym same) none
none_kept r a b (inr over) none = inl over

-- a loan of what a node in use refers to
pub lending_new : (slots : List (Option Slot)) (loan : Loan) (from : Ref) (refs : List Ref) → loan.lender ≡ from → loan.refs ≡ refs → live slots from ≡ true →
    refs ≡ refs_of_node (node_of (get_or slots (slot_of from) None)) → IsLending slots loan
lending_new slots loan from refs lender are has stand =
    inr (ap (live slots) lender ∙ has, are ∙ stand ∙ ap (λ r. refs_of_node (node_of (get_or slots (slot_of r) None))) (sym lender))

-- what the lender refers to is lent
pub lends_here : (slots : List (Option Slot)) (loan : Loan) (at : Ref) (refs : List Ref) → IsLending slots loan → refs ≡ refs_of_node (node_of (get_or slots (slot_of at) None)) →
    IsOver loan ⊎ (loan.lender ≡ at → loan.refs ≡ refs)
lends_here slots loan at refs (inl over) stand = inl over
lends_here slots loan at refs (inr (has, are)) stand = inr (λ same. are ∙ ap (λ r. refs_of_node (node_of (get_or slots (slot_of r) None))) same ∙ sym stand)

-- a slot changed that isn't the lender's
lending_other : (slots : List (Option Slot)) (loan : Loan) (k : ℕ) (o : Option Slot) → (slot_of loan.lender ≡ k → ⊥) → live slots loan.lender ≡ true →
    loan.refs ≡ refs_of_node (node_of (get_or slots (slot_of loan.lender) None)) → IsLending (set slots k o) loan
lending_other slots loan k o apart has are =
    inr (live_there slots k o loan.lender apart ∙ has, are ∙ ap (λ s. refs_of_node (node_of s)) (sym (get_or-set_other slots k (slot_of loan.lender) o None apart)))

-- a slot that wasn't in use
pub lending_filled : (slots : List (Option Slot)) (loan : Loan) (k : ℕ) (o : Option Slot) → get_or slots k None ≡ None → IsLending slots loan → IsLending (set slots k o) loan
lending_filled slots loan k o empty (inl over) = inl over
lending_filled slots loan k o empty (inr (has, are)) =
    lending_other slots loan k o (λ same. false≢true (sym (ap (λ i. has_birth (birth_of loan.lender) (get_or slots i None)) same ∙ ap (has_birth (birth_of loan.lender)) empty) ∙ has)) has are

-- a slot in use whose node lends nothing
pub lending_apart : (slots : List (Option Slot)) (loan : Loan) (at : Ref) (o : Option Slot) → IsLending slots loan → LendsNone at loan → live slots at ≡ true → IsLending (set slots (slot_of at) o)
    loan
lending_apart slots loan at o (inl over) none has = inl over
lending_apart slots loan at o (inr lends) (inl over) has = inl over
lending_apart slots loan at o (inr (stands, are)) (inr other) has = lending_other slots loan (slot_of at) o (λ same. other (one_live slots loan.lender at stands has same)) stands are

-- nothing is counted for the first free slot, whatever else is counted for slots in use
pub first_none : (slots : List (Option Slot)) (counts counts' : List ℕ) (free : Chain) (used : ℕ) (outside : List Ref) → IsKept slots counts free used outside → (k : ℕ) (rest : List ℕ) →
    free.slots ≡ k ∷ rest → (refs : List Ref) → All (λ q. live slots q ≡ true) refs → slice_index counts' k ≡ slice_index counts k + naming k refs → slice_index counts' k ≡ 0
first_none slots counts counts' free used outside kept k rest first refs all raised =
    let empty = first_unused slots counts free used outside kept k rest first in omega (arith, raised, kept.unused k empty, unnamed slots k refs empty all)
