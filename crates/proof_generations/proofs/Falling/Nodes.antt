-- Nodes of a run as they stand at its end: what is looked up at some time has there its entries, and its generation. Main words don't count.
use Rattle.std.proofs.Common.{◌≡◌, ℕ, ◌≤◌, true, Some, sym, ap, ◌∙◌, subst, arith}
use Rattle.std.proofs.lemmas.Bool.{false≢true}
use Rattle.proof_generations.specs.Vocabulary.{Ref, Node, Indirection, Branch, Single, Tomb, List as Listed, Slot, node_at, node_of, generation_of, generation_at, entries_of, with_main_word, Bounds}
use Rattle.proof_generations.specs.Vocabulary.{State, IsRun, grown, node_under, ASingle, meets, IsInUse, SameNode, NodesStay}
use Rattle.proof_generations.specs.Beneath.proof_memory.proofs.Claims.Uses.{entries_same}
use Rattle.proof_generations.specs.Beneath.proof_memory.proofs.Heap.Moves.{grown_stays}
use Rattle.proof_generations.proofs.Counter.Drawn.{generation_kept}
use Rattle.proof_generations.specs.Falling.{IsIndirectionOf}
use Rattle.proof_generations.specs.Beneath.machine_model.proofs.Grown.{grown_in_use, node_standing}

-- an indirection under another main word, both ways
pub same_link : (was now : Node) → SameNode was now → (h : ℕ) (word : Ref) → now ≡ Indirection h word → (w : Ref) × (was ≡ Indirection h w)
same_link (Indirection g w) now (m, e) h word is =
    let both : Indirection g m ≡ Indirection h word = sym e ∙ is in
    let same : g ≡ h = cc both in
    (w, ap (λ x. Indirection x w) same)
same_link (Branch b es) now (m, e) h word is = let both : Branch b es ≡ Indirection h word = sym e ∙ is in let wrong : ⊥ = cc both in absurd wrong
same_link (Single k v) now (m, e) h word is = let both : Single k v ≡ Indirection h word = sym e ∙ is in let wrong : ⊥ = cc both in absurd wrong
same_link (Tomb s) now (m, e) h word is = let both : Tomb s ≡ Indirection h word = sym e ∙ is in let wrong : ⊥ = cc both in absurd wrong
same_link (Listed s) now (m, e) h word is = let both : Listed s ≡ Indirection h word = sym e ∙ is in let wrong : ⊥ = cc both in absurd wrong

stays_link : (was now : Node) → SameNode was now → (h : ℕ) (word : Ref) → was ≡ Indirection h word → (w : Ref) × (now ≡ Indirection h w)
stays_link was now (m, e) h word is = (m, e ∙ ap (with_main_word m) is)

no_single : (node : Node) (h : ℕ) (word : Ref) → meets ASingle node ≡ true → node ≡ Indirection h word → ⊥
no_single node h word e is = false≢true (sym (ap (meets ASingle) is) ∙ e)

-- what stands under a reference stays, but for main words
pub nodes_stay : {limits : Bounds} {states : ℕ → State} {last : ℕ} → IsRun limits states last → NodesStay states last
nodes_stay {limits} {states} {last} run t u le within r was e = let (now, found, same) = grown_stays run t u le within r was e in (now, found, same.0)

module _ {limits : Bounds} {states : ℕ → State} {last : ℕ} (run : IsRun limits states last) (t : ℕ) (within : t ≤ last) where
  -- what was made by then
  pub made_same : (r : Ref) (slot : Slot) → grown states t r ≡ Some slot → SameNode slot.node (node_under states last r)
  made_same r slot e =
      let (now, found, same) = grown_stays run t last within (omega arith) r slot e in
      subst (λ o. SameNode slot.node (node_of o)) (sym found) same.0

  -- what is in use then
  pub used_same : (r : Ref) → IsInUse (states t).heap r → SameNode (node_at (states t).heap r) (node_under states last r)
  used_same r (slot, found) =
      subst (λ n. SameNode n (node_under states last r)) (sym (node_standing (states t).heap r slot found)) (made_same r slot (grown_in_use states t r slot found))

  pub used_entries : (r : Ref) → IsInUse (states t).heap r → entries_of (node_under states last r) ≡ entries_of (node_at (states t).heap r)
  used_entries r used = entries_same (node_at (states t).heap r) (node_under states last r) (used_same r used)

  pub used_generation : (r : Ref) → IsInUse (states t).heap r → generation_of (node_under states last r) ≡ generation_at (states t).heap r
  used_generation r used = generation_kept (node_at (states t).heap r) (node_under states last r) (used_same r used)

  -- an indirection at the end was one then
  pub used_link : (r : Ref) → IsInUse (states t).heap r → (h : ℕ) → IsIndirectionOf states last h r → (word : Ref) × (node_at (states t).heap r ≡ Indirection h word)
  used_link r used h (word, is) = same_link (node_at (states t).heap r) (node_under states last r) (used_same r used) h word is

  -- and stays one
  pub link_used : (r : Ref) → IsInUse (states t).heap r → (h : ℕ) (word : Ref) → node_at (states t).heap r ≡ Indirection h word → IsIndirectionOf states last h r
  link_used r used h word is = stays_link (node_at (states t).heap r) (node_under states last r) (used_same r used) h word is

  pub link_made : (r : Ref) (slot : Slot) → grown states t r ≡ Some slot → (h : ℕ) (word : Ref) → slot.node ≡ Indirection h word → IsIndirectionOf states last h r
  link_made r slot e h word is = stays_link slot.node (node_under states last r) (made_same r slot e) h word is

  -- a single is none
  pub used_single : (r : Ref) → IsInUse (states t).heap r → meets ASingle (node_at (states t).heap r) ≡ true → (h : ℕ) → IsIndirectionOf states last h r → ⊥
  used_single r used e h is = let (word, was) = used_link r used h is in no_single (node_at (states t).heap r) h word e was

-- the generation of an indirection is told
pub told_generation : (states : ℕ → State) (last h : ℕ) (r : Ref) → IsIndirectionOf states last h r → generation_of (node_under states last r) ≡ h
told_generation states last h r (word, is) = ap generation_of is
