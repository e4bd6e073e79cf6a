-- The exchange of an indirection's word puts the main node before a failed one back.
use Rattle.history.specs.declared.calls.Call.{Call}
use Rattle.std.proofs.Common.{◌≡◌, ◌≢◌, ◌*◌, ◌⊎◌, ℕ, ◌<◌, ◌≤◌, inl, inr, Bool, true, List, [], ◌∷◌, set, get_or, slice_index, Option, Some, None, refl, sym, ap, subst, ◌∙◌, arith, length}
use Rattle.std.proofs.Common.{length-set}
use Rattle.std.proofs.lemmas.Bool.{cases_eq}
use Rattle.std.proofs.lemmas.List.{get_or-set_same}
use Rattle.std.proofs.lemmas.Option.{same_Some}
use Rattle.std.proofs.lemmas.List.Elements.{All-append, All-cons, All-nil}
use mathlib.Core.Option.{some}
use lib.ListN.{get_elem?}
use Rattle.atomic_table.specs.Table as Table
use Rattle.trie_words.specs.Codes.{entry_code, link_code, pair_code}
use Rattle.trie_words.specs.declared.headers.Previous.{Previous}
use Rattle.trie_words.specs.declared.headers.Shape.{Shape}
use Rattle.machine_model.specs.Beneath.slot_arena.specs.declared.refs.Ref.{Ref}
use Rattle.machine_model.specs.Beneath.slot_arena.specs.declared.nodes.Node.{Node}
use Rattle.machine_model.specs.Beneath.slot_arena.specs.declared.nodes.Node.TheVariants.{Indirection, Branch, Single, Tomb, List as Listed}
use Rattle.machine_model.specs.Beneath.slot_arena.specs.declared.nodes.Prev.{Prev}
use Rattle.machine_model.specs.Beneath.slot_arena.specs.declared.nodes.Prev.TheVariants as prev
use Rattle.machine_model.specs.Beneath.slot_arena.specs.declared.nodes.Slot.{Slot}
use Rattle.machine_model.specs.Beneath.slot_arena.specs.Refs.{slot_of}
use Rattle.machine_model.specs.Beneath.slot_arena.specs.Heaps.{node_at, stored, node_of, main_of, main_at, entries_of}
use Rattle.machine_model.specs.Keys.{FitsKey}
use Rattle.machine_model.specs.declared.steps.Step.TheVariants as step
use Rattle.machine_model.specs.declared.operations.Operation.{Operation}
use Rattle.machine_model.specs.declared.roots.Root.{Root}
use Rattle.machine_model.specs.States.{State, operation_of, root_at}
use Rattle.lock_free.specs.declared.accounts.Account.{Account}
use Rattle.lock_free.specs.declared.rules.View.{View}
use Rattle.lock_free.specs.declared.sizes.Sizes.{Sizes}
use Rattle.lock_free.specs.Accounts.{state_of, place_at, place_of, gone_on, OwnIs}
use Rattle.lock_free.specs.Nodes.{Has, StandsAs, InTable, AreEntries, IsEntryOf, is_single, half_of, IsOver, SaysPrevious, decided, ahead, pending, failed, SaysShape, of_branch, of_tomb, of_list}
use Rattle.lock_free.specs.Nodes.{SaysHeader, class_of}
use Rattle.lock_free.specs.Places.{first_slot_word, generation_word, root_word, IsSlot, IsTaken}
use Rattle.lock_free.specs.Publishing.{with_main_of}
use Rattle.lock_free.specs.Restoring.{Restores}
use Rattle.lock_free.specs.Roots.{MeansRoot, second_of, fate}
use Rattle.lock_free.specs.Rules.{Standing, Stands, NodesStand, RootsStand, IsSpare, IsKept}
use Rattle.lock_free.proofs.OwnBits.{own_longer}
use Rattle.lock_free.proofs.Assembling.{AllStand, all_stand}
use Rattle.lock_free.proofs.Framing.{below_word, stands_over, still_taken, have_still, roots_still, class_small, first_word, node_far, node_inside, not_of_other, not_of_any_offer}
use Rattle.lock_free.specs.Trying.{as_before}
use Rattle.lock_free.proofs.Meanings.{means_kept, marks_kept, stood_still}
use Rattle.lock_free.proofs.Geometry.{IsWordOf}
use Rattle.lock_free.proofs.Made.{is_pending, is_failed}
use Rattle.lock_free.proofs.Owners.{owners_kept}
use Rattle.lock_free.proofs.NodeWord.{node_word_kept}
use Rattle.lock_free.proofs.Fates.{fate_kept, words_same}
use Rattle.lock_free.proofs.OneStep.Reached.{reached_kept}
use Rattle.lock_free.proofs.Waiting.{grown_steps, quiet_more}
use Rattle.machine_model.specs.Operations.{action_of}
use Rattle.proof_memory.specs.Wants.{is_indirection}
use Rattle.lock_free.proofs.HeldStep.{alike_written, going_less, going_private, held_step, slot_beside}
use Rattle.lock_free.proofs.Lettings.{TakesNone, none_made}
use Rattle.lock_free.proofs.LinesStay.{lines_went, going_owes}
use Rattle.machine_model.specs.Acting.{operation_after}
use Rattle.lock_free.proofs.LetGoSince.{going_let_go}
use Rattle.lock_free.specs.Live.{IsLive}
use Rattle.lock_free.proofs.Pools.{one_there}

module _ (sizes : Sizes) (account : Account) (actor : ℕ) (operation : Operation) (i main former : Ref) (restores : Restores sizes account actor operation i main former) (stands : Standing)
    (words : List ℕ)
    (all : AllStand sizes account stands words) (here : stands (slot_of i) ≡ true) (own : Bool) (owned : OwnIs account.owned (slot_of i) (slot_of former) own) where
  abbrev now : State
  now = state_of sizes account

  abbrev pub account_then : Account
  account_then = gone_on actor account

  abbrev next : State
  next = state_of sizes account_then

  abbrev p : ℕ
  p = place_of account i

  abbrev pub value : ℕ
  value = link_code (record { generation = restores.generation; main = record { slot = place_of account former; own = own } })

  abbrev pub words_then : List ℕ
  words_then = set words (2 * p) value

  stood : Stands stands now (slot_of i) restores.link
  stood = (here, restores.link_is)

  its : IsWordOf (class_of restores.link.node) p (2 * p)
  its = first_word restores.link.node p

  far : first_slot_word sizes ≤ 2 * p
  far = node_far sizes account stands words all (slot_of i) restores.link stood (2 * p) its value

  -- ---- what nodes are

  single_by : (k : ℕ) → is_single (node_of (get_or next.heap.slots k None)) ≡ is_single (node_of (get_or now.heap.slots k None))
  single_by k = elim (cases_eq k (slot_of i)) [
    | inl at_link ↦
        ap (λ n. is_single (node_of (get_or next.heap.slots n None))) at_link ∙ ap (λ x. is_single (node_of x)) restores.link_then ∙ sym (ap is_single restores.link_node)
        ∙ sym (ap (λ x. is_single (node_of x)) restores.link_is) ∙ sym (ap (λ n. is_single (node_of (get_or now.heap.slots n None))) at_link)
    | inr other ↦ ap (λ x. is_single (node_of x)) (restores.nodes k other)
  ]

  single_kept : (r : Ref) → is_single (node_at next.heap r) ≡ is_single (node_at now.heap r)
  unfolding node_at stored
  single_kept r = single_by (slot_of r)

  -- an indirection's main word is what it was, or names the node that is put back
  main_kept : (j : Ref) → (main_at next.heap j ≡ former) ⊎ (main_at next.heap j ≡ main_at now.heap j)
  unfolding node_at stored
  main_kept j = elim (cases_eq (slot_of j) (slot_of i)) [
    | inl same ↦ inl (ap (λ n. main_of (node_of (get_or next.heap.slots n None))) same ∙ ap (λ x. main_of (node_of x)) restores.link_then)
    | inr other ↦ inr (ap (λ x. main_of (node_of x)) (restores.nodes (slot_of j) other))
  ]

  -- ---- what words say

  entry_kept : (e : Ref) (half : ℕ) → IsEntryOf account now.heap e half → IsEntryOf account_then next.heap e half
  entry_kept e half h = record { own = h.own; code = h.code ∙ ap (λ b. entry_code (record { slot = place_of account e; own = h.own; is_single = b })) (sym (single_kept e)) }

  entries_kept : (has : Has) (name : ℕ) (entries : List Ref) → AreEntries account now.heap has name entries → AreEntries account_then next.heap has name entries
  entries_kept has name entries h position e at = let x = h position e at in (x.0, x.1, entry_kept e (half_of x.0 position) x.2)

  shape_kept : (k : ℕ) (n : Node) (says : Shape) → SaysShape account k n says → SaysShape account_then k n says
  shape_kept k n says (of_branch bitmap entries) = of_branch bitmap entries
  shape_kept k n says (of_tomb single b is) = of_tomb single b is
  shape_kept k n says (of_list singles) = of_list singles

  over_kept : (k : ℕ) (q : Ref) (b : Bool) → k ≢ slot_of former → IsOver account now k q b → IsOver account_then next k q b
  over_kept k q b other h j e = elim (main_kept j) [
    | inl back ↦ absurd (other (sym e ∙ ap slot_of back))
    | inr same ↦ h j (ap slot_of (sym same) ∙ e)
  ]

  -- a node that isn't decided isn't the one that is put back
  not_former : (k : ℕ) (slot : Slot) → get_or now.heap.slots k None ≡ Some slot → (slot.prev ≡ prev.None → ⊥) → k ≢ slot_of former
  not_former k slot e undecided same = undecided (restores.former_decided slot (ap (λ n. get_or now.heap.slots n None) (sym same) ∙ e))

  previous_kept : (k : ℕ) (slot : Slot) (q : Prev) (says : Previous) → get_or now.heap.slots k None ≡ Some slot → slot.prev ≡ q → SaysPrevious account now k q says →
      SaysPrevious account_then next k q says
  previous_kept k slot q says at is (decided none) = decided (λ j b g h its_own. none j b g (restores.aheads j b g h) its_own)
  previous_kept k slot q says at is (ahead j b g o h its_own o_is) = ahead j b g o (restores.still j b g h) its_own o_is
  previous_kept k slot q says at is (pending r o h) = pending r o (over_kept k r o (not_former k slot at (λ none. is_pending r (sym is ∙ none))) h)
  previous_kept k slot q says at is (failed r o h) = failed r o (over_kept k r o (not_former k slot at (λ none. is_failed r (sym is ∙ none))) h)

  header_kept : (k : ℕ) (slot : Slot) (word : ℕ) → get_or now.heap.slots k None ≡ Some slot → SaysHeader account now k slot word → SaysHeader account_then next k slot word
  header_kept k slot word at h = record {
    previous = h.previous;
    is_previous = previous_kept k slot slot.prev h.previous at refl h.is_previous;
    shape = h.shape;
    is_shape = shape_kept k slot.node h.shape h.is_shape;
    code = h.code;
  }

  else_stands : (has : Has) (name k : ℕ) (slot : Slot) (n : Node) → get_or now.heap.slots k None ≡ Some slot → StandsAs account now has name k slot n → StandsAs account_then next has name k slot n
  else_stands has name k slot (Indirection generation m) at h = h
  else_stands has name k slot (Single key value') at h = h
  else_stands has name k slot (Branch bitmap entries) at h = ((h.0.0, h.0.1, header_kept k slot h.0.0 at h.0.2), entries_kept has name entries.items h.1)
  else_stands has name k slot (Tomb single) at h = (h.0, h.1, header_kept k slot h.0 at h.2)
  else_stands has name k slot (Listed singles) at h = ((h.0.0, h.0.1, header_kept k slot h.0.0 at h.0.2), entries_kept has name singles.items h.1)

  -- ---- what stands

  -- what stands then stood before: the indirection, or another node
  pub data Which (k : ℕ) (slot : Slot) : Type 0 where
    is_link : k ≡ slot_of i → slot ≡ with_main_of restores.link restores.generation former → Which k slot
    is_else : k ≢ slot_of i → get_or now.heap.slots k None ≡ Some slot → Which k slot

  which : (k : ℕ) (slot : Slot) → get_or next.heap.slots k None ≡ Some slot → Which k slot
  which k slot e = elim (cases_eq k (slot_of i)) [
    | inl at_it ↦ is_link at_it (same_Some slot (with_main_of restores.link restores.generation former) (sym e ∙ ap (λ n. get_or next.heap.slots n None) at_it ∙ restores.link_then))
    | inr other ↦ is_else other (sym (restores.nodes k other) ∙ e)
  ]

  before : (k : ℕ) (slot : Slot) → Which k slot → (was : Slot) × (get_or now.heap.slots k None ≡ Some was) × (class_of slot.node ≡ class_of was.node) ×
      (length (entries_of slot.node) ≡ length (entries_of was.node))
  before k slot (is_link at_it is) = (
    restores.link,
    ap (λ n. get_or now.heap.slots n None) at_it ∙ restores.link_is,
    ap (λ (x : Slot). class_of x.node) is ∙ sym (ap class_of restores.link_node),
    ap (λ (x : Slot). length (entries_of x.node)) is ∙ sym (ap (λ n. length (entries_of n)) restores.link_node),
  )
  before k slot (is_else other e) = (slot, e, refl, refl)

  link_written : StandsAs account now (InTable words) p (slot_of i) restores.link (Indirection restores.generation main)
  link_written = subst (λ n. StandsAs account now (InTable words) p (slot_of i) restores.link n) restores.link_node (all.nodes.written (slot_of i) restores.link stood)

  written_by : (k : ℕ) (slot : Slot) → stands k ≡ true → Which k slot → StandsAs account_then next (InTable words_then) (place_at account k) k slot slot.node
  written_by k slot h (is_link at_it is) =
      subst (λ (x : Slot). StandsAs account_then next (InTable words_then) (place_at account k) k x x.node) (sym is)
      (subst (λ n. StandsAs account_then next (InTable words_then) (place_at account n) n (with_main_of restores.link restores.generation former) (Indirection restores.generation former)) (sym at_it)
      (link_written.0, (own, owned, get_or-set_same words (2 * p) value 0 (node_inside sizes account stands words all (slot_of i) restores.link stood (2 * p) its value))))
  written_by k slot h (is_else other e) =
      else_stands (InTable words_then) (place_at account k) k slot slot.node e
      (stands_over account words (2 * p) value (place_at account k) now k slot slot.node (all.nodes.small k slot (h, e))
      (not_of_other sizes account stands words all (slot_of i) restores.link stood (2 * p) its value k slot other (h, e)) (all.nodes.written k slot (h, e)))

  still_its : (b n : ℕ) → b < 3 → IsTaken sizes words b n → IsTaken sizes words_then b n
  still_its = still_taken sizes account words all.taken (2 * p) far value

  nodes_then : NodesStand sizes account_then stands words_then
  nodes_then = record {
    within = λ k slot h. (let b = before k slot (which k slot h.1) in
        still_its (class_of slot.node) (place_at account k) (class_small slot.node) (subst (λ c. IsTaken sizes words c (place_at account k)) (sym b.2) (all.nodes.within k b.0 (h.0, b.1))));
    small = λ k slot h. (let b = before k slot (which k slot h.1) in subst (λ n. n ≤ 32) (sym b.3) (all.nodes.small k b.0 (h.0, b.1)));
    apart = λ j k x y a c e. (let b = before j x (which j x a.1) in let d = before k y (which k y c.1) in all.nodes.apart j k b.0 d.0 (a.0, b.1) (c.0, d.1) e);
    offers = λ o c k slot h. (let b = before k slot (which k slot h.1) in all.nodes.offers o c k b.0 (h.0, b.1));
    written = λ k slot h. written_by k slot h.0 (which k slot h.1);
    inside = λ k slot e. (let b = before k slot (which k slot e) in subst (λ c. IsSlot sizes c (place_at account k)) (sym b.2) (all.nodes.inside k b.0 b.1));
    owners = owners_kept account account_then now next refl refl restores.aheads all.nodes.owners;
    owned = own_longer sizes account account_then (step.Go actor ∷ []) refl refl all.nodes.owned;
    live = λ r h. all.nodes.live r (restores.live r h);
    reached = reached_kept sizes account account_then all.bounds (step.Go actor) refl stands stands all.nodes.reached (λ r h. all.nodes.live r (restores.live r h)) (λ r was h. h);
  }

  meaning_then : (handle found : ℕ) (r : Option Root) → MeansRoot account words_then handle found r → MeansRoot account_then words_then handle found r
  meaning_then handle found r = means_kept account account_then words_then words_then handle r (λ access q is. refl) (λ k c. (c, refl)) (λ slot none. none) found

  second_then : (o : Option Ref) → second_of account o ≡ second_of account_then o
  second_then None = refl
  second_then (Some r) = refl

  roots_then : RootsStand sizes account_then words_then
  roots_then =
      let over = roots_still sizes account words all.taken (2 * p) far value (not_of_any_offer sizes account stands words all (slot_of i) restores.link stood (2 * p) its value) all.roots in
      record {
        means = λ handle low.
            subst (λ rs. MeansRoot account_then words_then handle (slice_index words_then (root_word handle)) (get_or rs handle None)) (sym restores.roots)
            (meaning_then handle _ (root_at now handle) (over.means handle low));
        offers = λ k c. (let h = over.offers k c in record {
          olds = h.olds;
          news = h.news ∙ ap (λ n. pair_code (record { low = place_of account k.offer.successor; high = n }))
              (second_then k.offer.second);
        });
        blocks = over.blocks;
        single = over.single;
        pending = over.pending;
        tries = over.tries;
        stood = λ k c. stood_still sizes account account_then (step.Go actor ∷ []) refl k.offer (over.stood k c);
        came = λ x c. stood_still sizes account account_then (step.Go actor ∷ []) refl x.known.offer (over.came x c);
        parting = over.parting;
        marks = marks_kept account.offers now next (as_before restores.tries) words_then words_then (λ k c. refl) over.marks;
        fates = λ k c. fate_kept sizes account account_then (step.Go actor) refl k (fate words_then k) (λ e. words_same now next restores.roots k.handle ∙ e) (over.fates k c);
      }

  pub all_then : AllStand sizes account_then stands words_then
  all_then = record {
    bounds = restores.bounds;
    keys = All-append FitsKey account.steps (step.Go actor ∷ []) all.keys (All-cons FitsKey (step.Go actor) [] tt (All-nil FitsKey));
    quiet = quiet_more account.steps (step.Go actor) all.quiet tt;
    counted = all.counted ∙ sym restores.births;
    size = length-set words (2 * p) value ∙ all.size;
    taken = have_still sizes account words all.taken (2 * p) far value;
    generations = below_word sizes account words all.taken (2 * p) far value generation_word (omega arith) ∙ all.generations ∙ sym restores.generations;
    nodes = nodes_then;
    roots = roots_then;
  }

  pub spare_then : (name : ℕ) → IsSpare sizes account stands name → IsSpare sizes account_then stands name
  spare_then name h = (λ k slot e. (let b = before k slot (which k slot e.1) in h.0 k b.0 (e.0, b.1)), h.1)

module _ (sizes : Sizes) (s : Table.State Call View) (kept : IsKept sizes s) (id : ℕ) (v : View) (at : get_elem? s.views id ≡ some v) (operation : Operation)
    (runs : operation_of (state_of sizes kept.account) v.actor ≡ Some operation) (i main former : Ref) (restores : Restores sizes kept.account v.actor operation i main former)
    (here : kept.stands (slot_of i) ≡ true) (own : Bool) (owned : OwnIs kept.account.owned (slot_of i) (slot_of former) own) where
  abbrev kept_all : AllStand sizes kept.account kept.stands s.words
  kept_all = all_stand sizes s kept

  -- the rule holds
  pub restore_kept : TakesNone kept.stands (state_of sizes kept.account) operation (action_of (state_of sizes kept.account) operation) → IsLive (state_of sizes kept.account) former →
      IsKept sizes (record {
        words = words_then sizes kept.account v.actor operation i main former restores kept.stands s.words kept_all here own owned;
        homes = s.homes;
        views = set s.views id (record v { account = gone_on v.actor kept.account });
      })
  restore_kept takes lives =
      node_word_kept sizes s kept id v at operation runs (slot_of i) restores.link (here, restores.link_is) (2 * place_of kept.account i) (first_word restores.link.node (place_of kept.account i))
      (value sizes kept.account v.actor operation i main former restores kept.stands s.words kept_all here own owned) []
      (all_then sizes kept.account v.actor operation i main former restores kept.stands s.words kept_all here own owned)
      (spare_then sizes kept.account v.actor operation i main former restores kept.stands s.words kept_all here own owned) restores.roots restores.others restores.own restores.tries v.owed
      (held_step sizes s kept id v at (gone_on v.actor kept.account) (grown_steps kept.account (gone_on v.actor kept.account) (step.Go v.actor ∷ []) refl refl) refl refl
      (alike_written (state_of sizes kept.account) (state_of sizes (gone_on v.actor kept.account)) (slot_of i) restores.link (with_main_of restores.link restores.generation former) restores.link_is
      restores.link_then refl (ap class_of (sym restores.link_node)) (ap is_indirection (sym restores.link_node))
      (λ r c. inr (subst (IsLive (state_of sizes kept.account)) (sym (one_there former r c)) lives)) restores.nodes) restores.live
      (going_private sizes s kept v.actor operation runs takes (gone_on v.actor kept.account) refl (state_of sizes (gone_on v.actor kept.account)) restores.others restores.own)
      (going_less sizes s kept v.actor operation runs takes (gone_on v.actor kept.account) refl)
      (going_let_go sizes s kept v.actor operation runs takes (gone_on v.actor kept.account) refl) (record v { account = gone_on v.actor kept.account }) refl refl (λ k. omega arith)
      (lines_went sizes s kept id v at (gone_on v.actor kept.account) (record v { account = gone_on v.actor kept.account }) restores.others operation
      (operation_after (state_of sizes kept.account) operation) runs restores.own
      (going_owes sizes kept.account kept.bounds v.actor operation runs (none_made kept.stands (state_of sizes kept.account) operation (action_of (state_of sizes kept.account) operation) takes)) refl)
      (words_then sizes kept.account v.actor operation i main former restores kept.stands s.words kept_all here own owned)
      (slot_beside sizes s kept (class_of restores.link.node) (place_of kept.account i) (class_small restores.link.node) (kept.nodes.within (slot_of i) restores.link (here, restores.link_is))
      (2 * place_of kept.account i) (first_word restores.link.node (place_of kept.account i))
      (value sizes kept.account v.actor operation i main former restores kept.stands s.words kept_all here own owned)))
