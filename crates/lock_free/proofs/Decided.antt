-- The exchange of a main node's header decides it.
use Rattle.std.proofs.Common.{◌≡◌, ◌≢◌, ◌*◌, ◌⊎◌, ℕ, ◌<◌, ◌≤◌, inl, inr, Bool, true, false, List, [], ◌∷◌, set, get_or, slice_index, Some, None, refl, sym, ap, subst, ◌∙◌, arith, length}
use Rattle.std.proofs.Common.{length-set}
use Rattle.std.proofs.lemmas.Bool.{cases_eq, true≢false}
use Rattle.std.proofs.lemmas.List.{get_or-set_same}
use Rattle.std.proofs.lemmas.Option.{same_Some}
use Rattle.std.proofs.lemmas.List.Elements.{All-append, All-cons, All-nil}
use Rattle.trie_words.specs.Codes.{header_code}
use Rattle.trie_words.specs.declared.headers.Previous.{Previous}
use Rattle.machine_model.specs.Beneath.slot_arena.specs.declared.refs.Ref.{Ref}
use Rattle.machine_model.specs.Beneath.slot_arena.specs.declared.nodes.Node.{Node}
use Rattle.machine_model.specs.Beneath.slot_arena.specs.declared.nodes.Node.TheVariants.{Indirection, Branch, Single, Tomb, List as Listed}
use Rattle.machine_model.specs.Beneath.slot_arena.specs.declared.nodes.Prev.{Prev}
use Rattle.machine_model.specs.Beneath.slot_arena.specs.declared.nodes.Prev.TheVariants as prev
use Rattle.machine_model.specs.Beneath.slot_arena.specs.declared.nodes.Slot.{Slot}
use Rattle.machine_model.specs.Beneath.slot_arena.specs.Refs.{slot_of}
use Rattle.machine_model.specs.Beneath.slot_arena.specs.Heaps.{node_at, stored, node_of, entries_of}
use Rattle.machine_model.specs.Keys.{FitsKey}
use Rattle.machine_model.specs.declared.steps.Step.TheVariants as step
use Rattle.machine_model.specs.declared.operations.Operation.{Operation}
use Rattle.machine_model.specs.States.{State}
use Rattle.proof_memory.specs.Wants.{is_main_node}
use Rattle.lock_free.specs.declared.accounts.Account.{Account}
use Rattle.lock_free.specs.declared.sizes.Sizes.{Sizes}
use Rattle.lock_free.specs.Accounts.{state_of, place_at, gone_on}
use Rattle.lock_free.specs.Deciding.{says_then, Decides}
use Rattle.lock_free.specs.Nodes.{StandsAs, InTable, AreEntries, SaysPrevious, decided, ahead, pending, failed, SaysHeader, class_of, IsAhead}
use Rattle.lock_free.specs.Places.{first_slot_word, generation_word, root_word, IsSlot, IsTaken}
use Rattle.lock_free.specs.Roots.{MeansRoot, fate}
use Rattle.lock_free.specs.Rules.{Standing, Stands, NodesStand, RootsStand, IsSpare}
use Rattle.lock_free.specs.Steps.{nothing}
use Rattle.lock_free.proofs.OwnBits.{own_longer}
use Rattle.lock_free.proofs.Assembling.{AllStand}
use Rattle.lock_free.proofs.Framing.{below_word, entries_else, stands_over, still_taken, have_still, roots_still, class_small, node_far, node_inside, not_of_other, not_of_any_offer, first_word}
use Rattle.lock_free.proofs.Geometry.{IsWordOf}
use Rattle.lock_free.specs.Trying.{as_before}
use Rattle.lock_free.proofs.Meanings.{marks_kept, stood_still}
use Rattle.lock_free.proofs.Fates.{fate_kept, words_same}
use Rattle.lock_free.proofs.OneStep.Reached.{reached_kept}
use Rattle.lock_free.proofs.Keeping.{SameNodes, stands_kept, entries_kept, shape_kept, over_kept, meaning_kept, written_kept}
use Rattle.lock_free.proofs.Made.{is_pending}
use Rattle.lock_free.proofs.Owners.{owners_kept}
use Rattle.lock_free.proofs.Waiting.{quiet_more}

-- what stands in the words of a main node that is decided, with its header as it is then
module _ (account later : Account) (before after : State) (words changed : List ℕ) (p k : ℕ) (slot : Slot) (verdict : Prev)
    (entries : (xs : List Ref) → AreEntries account before.heap (InTable words) p xs → AreEntries later after.heap (InTable changed) p xs)
    (header : (found : ℕ) → slice_index words (2 * p) ≡ found → SaysHeader account before k slot found → (word : ℕ) × (slice_index changed (2 * p) ≡ word) × SaysHeader later after k
    (record slot { prev = verdict }) word) where
  pub decided_stands : (node : Node) → is_main_node node ≡ true → StandsAs account before (InTable words) p k slot node → StandsAs later after (InTable changed) p k
      (record slot { prev = verdict }) node
  decided_stands (Indirection generation main) is h = absurd (true≢false (sym is))
  decided_stands (Single key value) is h = absurd (true≢false (sym is))
  decided_stands (Branch bitmap xs) is h = (header h.0.0 h.0.1 h.0.2, entries xs.items h.1)
  decided_stands (Tomb single) is h = header h.0 h.1 h.2
  decided_stands (Listed singles) is h = (header h.0.0 h.0.1 h.0.2, entries singles.items h.1)

pub failed_pending : (p q : Ref) → prev.Failed p ≡ prev.Pending q → ⊥
failed_pending p q e = true≢false (ap is_pending_prev (sym e))
  where
    is_pending_prev : Prev → Bool
    is_pending_prev (prev.Pending r) = true
    is_pending_prev (prev.Failed r) = false
    is_pending_prev prev.None = false

pub none_pending : (q : Ref) → prev.None ≡ prev.Pending q → ⊥
none_pending q e = is_pending q (sym e)

pub same_pending : (p q : Ref) → prev.Pending p ≡ prev.Pending q → p ≡ q
same_pending p q e = ap over e
  where
    over : Prev → Ref
    over (prev.Pending r) = r
    over (prev.Failed r) = r
    over prev.None = p

module _ (sizes : Sizes) (account : Account) (actor : ℕ) (operation : Operation) (main replaced : Ref) (decides : Decides sizes account actor operation main replaced) (stands : Standing)
    (words : List ℕ)
    (all : AllStand sizes account stands words) (here : stands (slot_of main) ≡ true) (is_main : is_main_node decides.slot.node ≡ true) (value : ℕ)
    (says : (h : SaysHeader account (state_of sizes account) (slot_of main) decides.slot (slice_index words (2 * place_at account (slot_of main)))) →
    value ≡ header_code (record { previous = says_then decides.verdict h.previous; shape = h.shape })) where
  abbrev now : State
  now = state_of sizes account

  abbrev pub account_then : Account
  account_then = gone_on actor account

  abbrev next : State
  next = state_of sizes account_then

  abbrev p : ℕ
  p = place_at account (slot_of main)

  abbrev pub words_then : List ℕ
  words_then = set words (2 * p) value

  stood : Stands stands now (slot_of main) decides.slot
  stood = (here, decides.is)

  its : IsWordOf (class_of decides.slot.node) p (2 * p)
  its = first_word decides.slot.node p

  far : first_slot_word sizes ≤ 2 * p
  far = node_far sizes account stands words all (slot_of main) decides.slot stood (2 * p) its value

  -- ---- what nodes are

  same_by : (k : ℕ) → node_of (get_or next.heap.slots k None) ≡ node_of (get_or now.heap.slots k None)
  same_by k = elim (cases_eq k (slot_of main)) [
    | inl here ↦ ap (λ n. node_of (get_or next.heap.slots n None)) here ∙ ap node_of decides.then_is ∙ sym (ap node_of decides.is) ∙ sym (ap (λ n. node_of (get_or now.heap.slots n None)) here)
    | inr other ↦ ap node_of (decides.nodes k other)
  ]

  same : SameNodes now next
  unfolding node_at stored
  same r = same_by (slot_of r)

  still : (i a f : Ref) → IsAhead now i a f → nothing (slot_of f) ≡ false → IsAhead next i a f
  still i a f h none = decides.still i a f h

  -- ---- its header

  says_prev : (found : Prev) (header : Previous) (verdict : Prev) → found ≡ prev.Pending replaced → (verdict ≡ prev.None) ⊎ (verdict ≡ prev.Failed replaced) →
      SaysPrevious account now (slot_of main) found header → SaysPrevious account_then next (slot_of main) verdict (says_then verdict header)
  says_prev found header verdict is (inl committed) h =
      subst (λ v. SaysPrevious account_then next (slot_of main) v (says_then v header)) (sym committed) (decided (λ i a f x same. decides.not_ahead i a f (decides.aheads i a f x) same))
  says_prev found header verdict is (inr fails) (decided none) = absurd (none_pending replaced is)
  says_prev found header verdict is (inr fails) (ahead i a f own x at owned) = absurd (none_pending replaced is)
  says_prev found header verdict is (inr fails) (pending q own over) =
      subst (λ v. SaysPrevious account_then next (slot_of main) v (says_then v header)) (ap prev.Failed (same_pending q replaced is) ∙ sym fails)
      (failed q own (over_kept account account_then.steps account nothing now next same decides.aheads still words (slot_of main) q own over))
  says_prev found header verdict is (inr fails) (failed q own over) = absurd (failed_pending q replaced is)

  header_then : (found : ℕ) → slice_index words (2 * p) ≡ found → SaysHeader account now (slot_of main) decides.slot found →
      (word : ℕ) × (slice_index words_then (2 * p) ≡ word) × SaysHeader account_then next (slot_of main) (record decides.slot { prev = decides.verdict }) word
  header_then found is h =
      let its_header : SaysHeader account now (slot_of main) decides.slot (slice_index words (2 * p)) = subst (λ n. SaysHeader account now (slot_of main) decides.slot n) (sym is) h in (
        value,
        get_or-set_same words (2 * p) value 0 (node_inside sizes account stands words all (slot_of main) decides.slot stood (2 * p) its value),
        record {
          previous = says_then decides.verdict its_header.previous;
          is_previous = says_prev decides.slot.prev its_header.previous decides.verdict decides.pending decides.committed_or_failed its_header.is_previous;
          shape = its_header.shape;
          is_shape = shape_kept account account_then.steps account nothing now next same decides.aheads still words (slot_of main) decides.slot.node its_header.shape its_header.is_shape;
          code = says its_header;
        },
      )

  entries_then : (xs : List Ref) → AreEntries account now.heap (InTable words) p xs → AreEntries account_then next.heap (InTable words_then) p xs
  entries_then xs h =
      entries_kept account account_then.steps account nothing now next same decides.aheads still words_then p xs
      (entries_else account words (2 * p) value p now (slot_of main) decides.slot xs (λ position low e. absurd (omega (arith, e))) h)

  -- ---- what stands

  -- what stands then stood before: the main node, or another node
  pub data Which (k : ℕ) (slot : Slot) : Type 0 where
    is_its : k ≡ slot_of main → slot ≡ record decides.slot { prev = decides.verdict } → Which k slot
    is_else : k ≢ slot_of main → get_or now.heap.slots k None ≡ Some slot → Which k slot

  which : (k : ℕ) (slot : Slot) → get_or next.heap.slots k None ≡ Some slot → Which k slot
  which k slot e = elim (cases_eq k (slot_of main)) [
    | inl at_it ↦ is_its at_it (same_Some slot (record decides.slot { prev = decides.verdict }) (sym e ∙ ap (λ n. get_or next.heap.slots n None) at_it ∙ decides.then_is))
    | inr other ↦ is_else other (sym (decides.nodes k other) ∙ e)
  ]

  before : (k : ℕ) (slot : Slot) → Which k slot → (was : Slot) × (get_or now.heap.slots k None ≡ Some was) × (slot.node ≡ was.node)
  before k slot (is_its at_it is) = (decides.slot, ap (λ n. get_or now.heap.slots n None) at_it ∙ decides.is, ap (λ (x : Slot). x.node) is)
  before k slot (is_else other e) = (slot, e, refl)

  written_by : (k : ℕ) (slot : Slot) → stands k ≡ true → Which k slot → StandsAs account_then next (InTable words_then) (place_at account k) k slot slot.node
  written_by k slot h (is_its at_it is) =
      subst (λ (x : Slot). StandsAs account_then next (InTable words_then) (place_at account k) k x x.node) (sym is)
      (subst (λ n. StandsAs account_then next (InTable words_then) (place_at account n) n (record decides.slot { prev = decides.verdict }) decides.slot.node) (sym at_it)
      (decided_stands account account_then now next words words_then p (slot_of main) decides.slot decides.verdict entries_then header_then decides.slot.node is_main
      (all.nodes.written (slot_of main) decides.slot stood)))
  written_by k slot h (is_else other e) =
      stands_kept account account_then.steps account nothing now next same decides.aheads still words_then (place_at account k) k slot slot.node refl
      (stands_over account words (2 * p) value (place_at account k) now k slot slot.node (all.nodes.small k slot (h, e))
      (not_of_other sizes account stands words all (slot_of main) decides.slot stood (2 * p) its value k slot other (h, e)) (all.nodes.written k slot (h, e)))

  still_its : (b n : ℕ) → b < 3 → IsTaken sizes words b n → IsTaken sizes words_then b n
  still_its = still_taken sizes account words all.taken (2 * p) far value

  nodes_then : NodesStand sizes account_then stands words_then
  nodes_then = record {
    within = λ k slot h. (let b = before k slot (which k slot h.1) in
        still_its (class_of slot.node) (place_at account k) (class_small slot.node) (subst (λ n. IsTaken sizes words (class_of n) (place_at account k)) (sym b.2) (all.nodes.within k b.0 (h.0, b.1))));
    small = λ k slot h. (let b = before k slot (which k slot h.1) in subst (λ n. length (entries_of n) ≤ 32) (sym b.2) (all.nodes.small k b.0 (h.0, b.1)));
    apart = λ j k x y a c e. (let b = before j x (which j x a.1) in let d = before k y (which k y c.1) in all.nodes.apart j k b.0 d.0 (a.0, b.1) (c.0, d.1) e);
    offers = λ o c k slot h. (let b = before k slot (which k slot h.1) in all.nodes.offers o c k b.0 (h.0, b.1));
    written = λ k slot h. written_by k slot h.0 (which k slot h.1);
    inside = λ k slot e. (let b = before k slot (which k slot e) in subst (λ n. IsSlot sizes (class_of n) (place_at account k)) (sym b.2) (all.nodes.inside k b.0 b.1));
    owners = owners_kept account account_then now next refl refl decides.aheads all.nodes.owners;
    owned = own_longer sizes account account_then (step.Go actor ∷ []) refl refl all.nodes.owned;
    live = λ r h. all.nodes.live r (decides.live r h);
    reached = reached_kept sizes account account_then all.bounds (step.Go actor) refl stands stands all.nodes.reached (λ r h. all.nodes.live r (decides.live r h)) (λ r was h. h);
  }

  roots_then : RootsStand sizes account_then words_then
  roots_then =
      let over = roots_still sizes account words all.taken (2 * p) far value (not_of_any_offer sizes account stands words all (slot_of main) decides.slot stood (2 * p) its value) all.roots in
      record {
        means = λ handle low.
            meaning_kept account account_then.steps words_then handle _ _
            (subst (λ rs. MeansRoot account words_then handle (slice_index words_then (root_word handle)) (get_or rs handle None)) (sym decides.roots) (over.means handle low));
        offers = λ k c. written_kept account account_then.steps account nothing now next same decides.aheads still words_then k (over.offers k c);
        blocks = over.blocks;
        single = over.single;
        pending = over.pending;
        tries = over.tries;
        stood = λ k c. stood_still sizes account account_then (step.Go actor ∷ []) refl k.offer (over.stood k c);
        came = λ x c. stood_still sizes account account_then (step.Go actor ∷ []) refl x.known.offer (over.came x c);
        parting = over.parting;
        marks = marks_kept account.offers now next (as_before decides.tries) words_then words_then (λ k c. refl) over.marks;
        fates = λ k c. fate_kept sizes account account_then (step.Go actor) refl k (fate words_then k) (λ e. words_same now next decides.roots k.handle ∙ e) (over.fates k c);
      }

  pub all_then : AllStand sizes account_then stands words_then
  all_then = record {
    bounds = decides.bounds;
    keys = All-append FitsKey account.steps (step.Go actor ∷ []) all.keys (All-cons FitsKey (step.Go actor) [] tt (All-nil FitsKey));
    quiet = quiet_more account.steps (step.Go actor) all.quiet tt;
    counted = all.counted ∙ sym decides.births;
    size = length-set words (2 * p) value ∙ all.size;
    taken = have_still sizes account words all.taken (2 * p) far value;
    generations = below_word sizes account words all.taken (2 * p) far value generation_word (omega arith) ∙ all.generations ∙ sym decides.generations;
    nodes = nodes_then;
    roots = roots_then;
  }

  pub spare_then : (name : ℕ) → IsSpare sizes account stands name → IsSpare sizes account_then stands name
  spare_then name h = (λ k slot e. (let b = before k slot (which k slot e.1) in h.0 k b.0 (e.0, b.1)), h.1)
