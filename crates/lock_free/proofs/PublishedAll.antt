-- Words, steps and nodes once a fresh main node is swapped in by an exchange of the indirection's word.
use Rattle.std.proofs.Common.{◌≡◌, ◌≢◌, ◌*◌, ℕ, ◌<◌, ◌≤◌, inl, inr, true, List, [], ◌∷◌, Contains, length, set, get_or, slice_index, Option, Some, None, refl, sym, ap, subst, ◌∙◌, arith}
use Rattle.std.proofs.Common.{length-set}
use Rattle.std.proofs.lemmas.Bool.{cases_eq}
use Rattle.std.proofs.lemmas.Option.{same_Some}
use Rattle.std.proofs.lemmas.List.{get_or-set_same}
use Rattle.std.proofs.lemmas.List.Elements.{All-append, All-cons, All-nil}
use Rattle.machine_model.specs.Beneath.slot_arena.specs.declared.refs.Ref.{Ref}
use Rattle.machine_model.specs.Beneath.slot_arena.specs.declared.nodes.Node.TheVariants.{Indirection}
use Rattle.machine_model.specs.Beneath.slot_arena.specs.declared.nodes.Slot.{Slot}
use Rattle.machine_model.specs.Beneath.slot_arena.specs.Refs.{slot_of}
use Rattle.machine_model.specs.Beneath.slot_arena.specs.Heaps.{entries_of}
use Rattle.machine_model.specs.Keys.{FitsKey}
use Rattle.machine_model.specs.declared.steps.Step.TheVariants as step
use Rattle.machine_model.specs.declared.operations.Operation.{Operation}
use Rattle.machine_model.specs.declared.roots.Root.{Root}
use Rattle.machine_model.specs.States.{root_at}
use Rattle.trie_words.specs.Codes.{link_code, pair_code}
use Rattle.lock_free.specs.declared.accounts.Account.{Account}
use Rattle.lock_free.specs.declared.accounts.Known.{Known}
use Rattle.lock_free.specs.declared.sizes.Sizes.{Sizes}
use Rattle.lock_free.specs.Accounts.{state_of, place_at, place_of, first}
use Rattle.lock_free.specs.Nodes.{StandsAs, InTable, class_of}
use Rattle.lock_free.specs.Places.{first_slot_word, generation_word, root_word, IsSlot, IsTaken}
use Rattle.lock_free.specs.Publishing.{swapped_in, with_main_of, over, Publishes}
use Rattle.lock_free.specs.Roots.{MeansRoot, second_of, fate}
use Rattle.lock_free.specs.Rules.{Standing, Stands, NodesStand, RootsStand}
use Rattle.lock_free.proofs.OwnBits.{own_published}
use Rattle.lock_free.proofs.Asked.{in_use_made}
use Rattle.lock_free.proofs.Assembling.{AllStand}
use Rattle.lock_free.proofs.Framing.{below_word, stands_over, still_taken, have_still, roots_still, class_small}
use Rattle.lock_free.specs.Trying.{as_before}
use Rattle.lock_free.proofs.Meanings.{means_kept, marks_kept, stood_still}
use Rattle.lock_free.proofs.Geometry.{IsWordOf, slots_apart, above, inside}
use Rattle.lock_free.proofs.Owners.{owners_published}
use Rattle.lock_free.proofs.Published.{differ, else_stands, fresh_stands}
use Rattle.lock_free.proofs.Fates.{fate_kept, words_same}
use Rattle.lock_free.proofs.OneStep.Reached.{reached_kept}
use Rattle.lock_free.proofs.Waiting.{quiet_more}

module _ (sizes : Sizes) (account : Account) (actor : ℕ) (operation : Operation) (i a f : Ref) (publishes : Publishes sizes account (swapped_in actor i f account) actor operation i a f)
    (stands : Standing) (words : List ℕ) (all : AllStand sizes account stands words) (here : stands (slot_of i) ≡ true) where
  abbrev pub later : Account
  later = swapped_in actor i f account

  -- the indirection's word
  abbrev pub its_word : ℕ
  its_word = 2 * place_of account i

  abbrev pub new_word : ℕ
  new_word = link_code (record { generation = publishes.generation; main = record { slot = place_of account f; own = true } })

  abbrev pub words_then : List ℕ
  words_then = set words its_word new_word

  pub link_stands : Stands stands (state_of sizes account) (slot_of i) publishes.link
  link_stands = (here, publishes.link_is)

  link_class : class_of publishes.link.node ≡ 0
  link_class = ap class_of publishes.link_node

  pub link_taken : IsTaken sizes words 0 (place_of account i)
  link_taken = subst (λ c. IsTaken sizes words c (place_of account i)) link_class (all.nodes.within (slot_of i) publishes.link link_stands)

  its_slot : IsWordOf 0 (place_of account i) its_word
  its_slot = record { low = omega arith; high = omega arith }

  pub far : first_slot_word sizes ≤ its_word
  far = above sizes words all.taken 0 (place_of account i) its_word (omega arith) link_taken its_slot

  -- no word of another node that stands, or of an offer
  not_of_node : (k : ℕ) (slot : Slot) → k ≢ slot_of i → Stands stands (state_of sizes account) k slot → (j : ℕ) → IsWordOf (class_of slot.node) (place_at account k) j → j ≢ its_word
  not_of_node k slot other h j w same =
      other (all.nodes.apart k (slot_of i) slot publishes.link h link_stands
      (slots_apart sizes words all.taken (class_of slot.node) 0 (place_at account k) (place_of account i) its_word (class_small slot.node) (omega arith) (all.nodes.within k slot h) link_taken
      (subst (λ n. IsWordOf (class_of slot.node) (place_at account k) n) same w) its_slot).1)

  pub not_of_offer : (x : Known) → Contains account.offers x → (j : ℕ) → IsWordOf 1 x.slot j → j ≢ its_word
  not_of_offer x c j w same =
      absurd (omega (
        arith,
        (slots_apart sizes words all.taken 1 0 x.slot (place_of account i) its_word (omega arith) (omega arith) (all.roots.blocks x c) link_taken
            (subst (λ n. IsWordOf 1 x.slot n) same w) its_slot).0,
      ))

  -- what stands then stood before: the indirection, the fresh node, or another one
  pub data Which (k : ℕ) (slot : Slot) : Type 0 where
    is_link : k ≡ slot_of i → slot ≡ with_main_of publishes.link publishes.generation f → Which k slot
    is_fresh : k ≡ slot_of f → slot ≡ over publishes.fresh a → Which k slot
    is_else : k ≢ slot_of i → k ≢ slot_of f → get_or (state_of sizes account).heap.slots k None ≡ Some slot → Which k slot

  pub which : (k : ℕ) (slot : Slot) → get_or (state_of sizes later).heap.slots k None ≡ Some slot → Which k slot
  which k slot e = elim (cases_eq k (slot_of i)) [
    | inl at_link ↦ is_link at_link (same_Some slot (with_main_of publishes.link publishes.generation f)
        (sym e ∙ ap (λ n. get_or (state_of sizes later).heap.slots n None) at_link ∙ publishes.link_then))
    | inr other ↦ elim (cases_eq k (slot_of f)) [
      | inl at_fresh ↦ is_fresh at_fresh (same_Some slot (over publishes.fresh a) (sym e ∙ ap (λ n. get_or (state_of sizes later).heap.slots n None) at_fresh ∙ publishes.fresh_then))
      | inr another ↦ is_else other another (sym (publishes.nodes k other another) ∙ e)
    ]
  ]

  -- the slot of that number before
  pub before : (k : ℕ) (slot : Slot) → Which k slot → (was : Slot) × (get_or (state_of sizes account).heap.slots k None ≡ Some was) × (class_of slot.node ≡ class_of was.node) ×
      (length (entries_of slot.node) ≡ length (entries_of was.node))
  before k slot (is_link at_link is) = (
    publishes.link,
    ap (λ n. get_or (state_of sizes account).heap.slots n None) at_link ∙ publishes.link_is,
    ap (λ (x : Slot). class_of x.node) is ∙ sym link_class,
    ap (λ (x : Slot). length (entries_of x.node)) is ∙ sym (ap (λ n. length (entries_of n)) publishes.link_node),
  )
  before k slot (is_fresh at_fresh is) = (
    publishes.fresh,
    ap (λ n. get_or (state_of sizes account).heap.slots n None) at_fresh ∙ publishes.fresh_is,
    ap (λ (x : Slot). class_of x.node) is,
    ap
        (λ (x : Slot). length (entries_of x.node)) is,
  )
  before k slot (is_else other another e) = (slot, e, refl, refl)

  inside_words : its_word < length words
  inside_words = subst (λ n. its_word < n) (sym all.size) (inside sizes words all.taken 0 (place_of account i) its_word (omega arith) link_taken its_slot)

  still : (b n : ℕ) → b < 3 → IsTaken sizes words b n → IsTaken sizes words_then b n
  still = still_taken sizes account words all.taken its_word far new_word

  link_written : StandsAs account (state_of sizes account) (InTable words) (place_of account i) (slot_of i) publishes.link (Indirection publishes.generation a)
  link_written = subst (λ n. StandsAs account (state_of sizes account) (InTable words) (place_of account i) (slot_of i) publishes.link n) publishes.link_node
      (all.nodes.written (slot_of i) publishes.link link_stands)

  written_by : (k : ℕ) (slot : Slot) → stands k ≡ true → Which k slot → StandsAs later (state_of sizes later) (InTable words_then) (place_at later k) k slot slot.node
  written_by k slot h (is_link at_link is) =
      subst (λ (x : Slot). StandsAs later (state_of sizes later) (InTable words_then) (place_at later k) k x x.node) (sym is)
      (subst (λ n. StandsAs later (state_of sizes later) (InTable words_then) (place_at later n) n (with_main_of publishes.link publishes.generation f) (Indirection publishes.generation f))
      (sym at_link)
      (link_written.0, (true, first _ account.owned, get_or-set_same words its_word new_word 0 inside_words)))
  written_by k slot h (is_fresh at_fresh is) =
      let stood : Stands stands (state_of sizes account) (slot_of f) publishes.fresh = (ap stands (sym at_fresh) ∙ h, publishes.fresh_is) in
      let apart : slot_of f ≢ slot_of i = λ e. differ sizes account actor operation i a f publishes (sym e) in
      subst (λ (x : Slot). StandsAs later (state_of sizes later) (InTable words_then) (place_at later k) k x x.node) (sym is)
      (subst (λ n. StandsAs later (state_of sizes later) (InTable words_then) (place_at later n) n (over publishes.fresh a) publishes.fresh.node) (sym at_fresh)
      (fresh_stands sizes account actor operation i a f publishes (InTable words_then) (place_of account f) publishes.fresh.node publishes.fresh_main
      (stands_over account words its_word new_word (place_of account f) (state_of sizes account) (slot_of f) publishes.fresh publishes.fresh.node
      (all.nodes.small (slot_of f) publishes.fresh stood) (not_of_node (slot_of f) publishes.fresh apart stood) (all.nodes.written (slot_of f) publishes.fresh stood))))
  written_by k slot h (is_else other another e) =
      let stood : Stands stands (state_of sizes account) k slot = (h, e) in
      else_stands sizes account actor operation i a f publishes (InTable words_then) (place_at account k) k slot slot.node another
      (stands_over account words its_word new_word (place_at account k) (state_of sizes account) k slot slot.node (all.nodes.small k slot stood) (not_of_node k slot other stood)
      (all.nodes.written k slot stood))

  made_before : (k : ℕ) (slot : Slot) → get_or (state_of sizes account).heap.slots k None ≡ Some slot → k < length account.names
  made_before k slot e = let low = in_use_made sizes account all.bounds k slot e in let counted = all.counted in omega (arith, low, counted)

  nodes_then : NodesStand sizes later stands words_then
  nodes_then = record {
    within = λ k slot h. (let b = before k slot (which k slot h.1) in
        still (class_of slot.node) (place_at account k) (class_small slot.node) (subst (λ c. IsTaken sizes words c (place_at account k)) (sym b.2) (all.nodes.within k b.0 (h.0, b.1))));
    small = λ k slot h. (let b = before k slot (which k slot h.1) in subst (λ n. n ≤ 32) (sym b.3) (all.nodes.small k b.0 (h.0, b.1)));
    apart = λ j k x y p q same. (let b = before j x (which j x p.1) in let c = before k y (which k y q.1) in all.nodes.apart j k b.0 c.0 (p.0, b.1) (q.0, c.1) same);
    offers = λ x c k slot h. (let b = before k slot (which k slot h.1) in all.nodes.offers x c k b.0 (h.0, b.1));
    written = λ k slot h. written_by k slot h.0 (which k slot h.1);
    inside = λ k slot e. (let b = before k slot (which k slot e) in subst (λ c. IsSlot sizes c (place_at account k)) (sym b.2) (all.nodes.inside k b.0 b.1));
    owners = owners_published sizes account actor operation i a f publishes all.nodes.owners (made_before (slot_of i) publishes.link publishes.link_is)
        (made_before (slot_of f) publishes.fresh publishes.fresh_is);
    owned = own_published sizes account actor operation i a f publishes all.nodes.owned;
    live = λ r h. all.nodes.live r (publishes.live r h);
    reached = reached_kept sizes account later all.bounds (step.Go actor) refl stands stands all.nodes.reached (λ r h. all.nodes.live r (publishes.live r h)) (λ r was h. h);
  }

  meaning_then : (handle found : ℕ) (r : Option Root) → MeansRoot account words_then handle found r → MeansRoot later words_then handle found r
  meaning_then handle found r = means_kept account later words_then words_then handle r (λ access q is. refl) (λ k c. (c, refl)) (λ slot none. none) found

  second_then : (o : Option Ref) → second_of account o ≡ second_of later o
  second_then None = refl
  second_then (Some r) = refl

  roots_then : RootsStand sizes later words_then
  roots_then =
      let roots = roots_still sizes account words all.taken its_word far new_word not_of_offer all.roots in
      record {
        means = λ handle low.
            subst (λ rs. MeansRoot later words_then handle (slice_index words_then (root_word handle)) (get_or rs handle None)) (sym publishes.roots)
            (meaning_then handle _ (root_at (state_of sizes account) handle) (roots.means handle low));
        offers = λ k c. (let h = roots.offers k c in record {
          olds = h.olds;
          news = h.news ∙ ap (λ n. pair_code (record { low = place_of account k.offer.successor; high = n }))
              (second_then k.offer.second);
        });
        blocks = roots.blocks;
        single = roots.single;
        pending = roots.pending;
        tries = roots.tries;
        stood = λ k c. stood_still sizes account later (step.Go actor ∷ []) refl k.offer (roots.stood k c);
        came = λ x c. stood_still sizes account later (step.Go actor ∷ []) refl x.known.offer (roots.came x c);
        parting = roots.parting;
        marks = marks_kept account.offers (state_of sizes account) (state_of sizes later) (as_before publishes.tries) words_then words_then (λ k c. refl) roots.marks;
        fates = λ k c.
            fate_kept sizes account later (step.Go actor) refl k (fate words_then k) (λ e. words_same (state_of sizes account) (state_of sizes later) publishes.roots k.handle ∙ e) (roots.fates k c);
      }

  pub all_then : AllStand sizes later stands words_then
  all_then = record {
    bounds = publishes.bounds;
    keys = All-append FitsKey account.steps (step.Go actor ∷ []) all.keys (All-cons FitsKey (step.Go actor) [] tt (All-nil FitsKey));
    quiet = quiet_more account.steps (step.Go actor) all.quiet tt;
    counted = all.counted ∙ sym publishes.births;
    size = length-set words its_word new_word ∙ all.size;
    taken = have_still sizes account words all.taken its_word far new_word;
    generations = below_word sizes account words all.taken its_word far new_word generation_word (omega arith) ∙ all.generations ∙ sym publishes.generations;
    nodes = nodes_then;
    roots = roots_then;
  }
