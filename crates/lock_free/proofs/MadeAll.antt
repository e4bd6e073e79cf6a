-- Words, steps and nodes once a node is made in a spare slot whose words have it.
use Rattle.std.proofs.Common.{◌≡◌, ◌≢◌, ◌⊎◌, ℕ, ◌≤◌, inl, inr, Bool, true, List, [], ◌∷◌, ◌++◌, Contains, length, get_or, slice_index, Option, Some, None, refl, sym, ap, subst, ◌∙◌}
use Rattle.std.proofs.Common.{arith}
use Rattle.std.proofs.Common.{length-append}
use Rattle.std.proofs.lemmas.Bool.{cases_eq}
use Rattle.std.proofs.lemmas.Option.{same_Some}
use Rattle.std.proofs.lemmas.List.Elements.{All-append, All-cons, All-nil, Contains-get_or, Contains-append_right}
use Rattle.machine_model.specs.Beneath.slot_arena.specs.declared.refs.Ref.{Ref}
use Rattle.machine_model.specs.Beneath.slot_arena.specs.declared.nodes.Node.{Node}
use Rattle.machine_model.specs.Beneath.slot_arena.specs.declared.nodes.Slot.{Slot}
use Rattle.machine_model.specs.Beneath.slot_arena.specs.Refs.{slot_of}
use Rattle.machine_model.specs.Beneath.slot_arena.specs.Heaps.{entries_of, refs_of_option}
use Rattle.machine_model.specs.Counting.{refs_of_root}
use Rattle.machine_model.specs.Keys.{FitsKey}
use Rattle.machine_model.specs.declared.steps.Step.TheVariants as step
use Rattle.machine_model.specs.declared.operations.Operation.{Operation}
use Rattle.machine_model.specs.States.{root_at}
use Rattle.trie_words.specs.Codes.{pair_code}
use Rattle.lock_free.specs.declared.accounts.Account.{Account}
use Rattle.lock_free.specs.declared.accounts.Known.{Known}
use Rattle.lock_free.specs.declared.sizes.Sizes.{Sizes}
use Rattle.lock_free.specs.Accounts.{state_of, place_at, place_of}
use Rattle.lock_free.specs.Nodes.{StandsAs, InTable, class_of}
use Rattle.lock_free.specs.Making.{over_of, DraftsNode, made_at, refs_of_offer, Makes}
use Rattle.lock_free.specs.Live.{IsLive}
use Rattle.lock_free.specs.Places.{IsSlot, IsTaken, root_word, words_of, HaveTaken, generation_word}
use Rattle.lock_free.specs.Roots.{MeansRoot, IsWritten, second_of, fate}
use Rattle.lock_free.specs.Rules.{Standing, Stands, NodesStand, RootsStand, IsSpare}
use Rattle.lock_free.specs.Trying.{as_before}
use Rattle.lock_free.specs.Owning.{MayOwn}
use Rattle.lock_free.proofs.OwnBits.{own_made}
use Rattle.lock_free.proofs.Meanings.{means_kept, marks_kept, stood_still}
use Rattle.lock_free.proofs.Assembling.{AllStand}
use Rattle.lock_free.proofs.Framing.{class_small}
use Rattle.lock_free.proofs.CountWords.{slot_taken}
use Rattle.lock_free.proofs.Owners.{owners_made}
use Rattle.lock_free.proofs.Made.{place_else, place_last, same_place, stands_too, stands_new, stands_else, stood_stands, new_stands}
use Rattle.lock_free.proofs.Fates.{fate_kept, words_same}
use Rattle.lock_free.proofs.OneStep.Reached.{reached_kept}
use Rattle.lock_free.proofs.Waiting.{quiet_more}

module _ (sizes : Sizes) (account : Account) (actor : ℕ) (operation : Operation) (name : ℕ) (own : Bool) (node : Node) (more : ℕ)
    (makes : Makes sizes account (made_at actor name own node account) actor operation node more)
    (stands : Standing) (words : List ℕ) (all : AllStand sizes account stands words) (taken : IsTaken sizes words (class_of node) name) (spare : IsSpare sizes account stands name)
    (small : length (entries_of node) ≤ 32) (drafted : DraftsNode account (state_of sizes account).heap (over_of operation.line) (InTable words) name own node)
    (owns : MayOwn operation.line node own) where
  abbrev pub later : Account
  later = made_at actor name own node account

  abbrev pub k0 : ℕ
  k0 = length account.names

  abbrev pub later_stands : Standing
  later_stands = stands_too k0 stands

  -- what stands then is the new node, or stood before
  which : (k : ℕ) (slot : Slot) → Stands later_stands (state_of sizes later) k slot → ((k ≡ k0) × (makes.made ≡ slot)) ⊎ ((k ≢ k0) × Stands stands (state_of sizes account) k slot)
  which k slot h = elim (cases_eq k k0) [
    | inl new ↦ inl (new, same_Some makes.made slot (sym makes.stands ∙ ap (λ n. get_or (state_of sizes later).heap.slots n None) (sym new) ∙ h.1))
    | inr other ↦ inr (other, (sym (stands_else k0 stands k other) ∙ h.0, sym (makes.nodes k other) ∙ h.1))
  ]

  place_new : (k : ℕ) → k ≡ k0 → place_at later k ≡ name
  place_new k new = ap (λ n. get_or (account.names ++ name ∷ []) n 0) new ∙ place_last account.names name

  place_old : (k : ℕ) → k ≢ k0 → place_at later k ≡ place_at account k
  place_old k other = place_else account.names name k other

  new_node : (slot : Slot) → makes.made ≡ slot → node ≡ slot.node
  new_node slot is = sym makes.node_is ∙ ap (λ (x : Slot). x.node) is

  pub nodes_then : NodesStand sizes later later_stands words
  nodes_then = record {
    within = λ k slot h. elim (which k slot h) [
      | inl n ↦ subst (λ m. IsTaken sizes words (class_of m) (place_at later k)) (new_node slot n.1) (subst (λ p. IsTaken sizes words (class_of node) p) (sym (place_new k n.0)) taken)
      | inr o ↦ subst (λ p. IsTaken sizes words (class_of slot.node) p) (sym (place_old k o.0)) (all.nodes.within k slot o.1)
    ];
    small = λ k slot h. elim (which k slot h) [
      | inl n ↦ subst (λ m. length (entries_of m) ≤ 32) (new_node slot n.1) small
      | inr o ↦ all.nodes.small k slot o.1
    ];
    apart = λ j k x y a b same. elim (which j x a) [
      | inl n ↦ elim (which k y b) [
        | inl m ↦ n.0 ∙ sym m.0
        | inr o ↦ absurd (spare.0 k y o.1 (sym (place_old k o.0) ∙ sym same ∙ place_new j n.0))
      ]
      | inr o ↦ elim (which k y b) [
        | inl m ↦ absurd (spare.0 j x o.1 (sym (place_old j o.0) ∙ same ∙ place_new k m.0))
        | inr q ↦ all.nodes.apart j k x y o.1 q.1 (sym (place_old j o.0) ∙ same ∙ place_old k q.0)
      ]
    ];
    offers = λ x c k slot h. elim (which k slot h) [
      | inl n ↦ (λ same. spare.1 x c (sym same ∙ place_new k n.0))
      | inr o ↦ (λ same. all.nodes.offers x c k slot o.1 (sym (place_old k o.0) ∙ same))
    ];
    written = λ k slot h. elim (which k slot h) [
      | inl n ↦
          subst (λ p. StandsAs later (state_of sizes later) (InTable words) p k slot slot.node) (sym (place_new k n.0))
          (subst (λ j. StandsAs later (state_of sizes later) (InTable words) name j slot slot.node) (sym n.0)
          (subst (λ (x : Slot). StandsAs later (state_of sizes later) (InTable words) name k0 x x.node) n.1
          (subst (λ m. StandsAs later (state_of sizes later) (InTable words) name k0 makes.made m) (sym makes.node_is)
          (new_stands sizes account actor operation name own node more makes (InTable words) node refl drafted))))
      | inr o ↦
          subst (λ p. StandsAs later (state_of sizes later) (InTable words) p k slot slot.node) (sym (place_old k o.0))
          (stood_stands sizes account actor operation name own node more makes (InTable words) (place_at account k) k slot slot.node o.0 o.1.1 refl (all.nodes.written k slot o.1))
    ];
    inside = λ k slot e. elim (cases_eq k k0) [
      | inl new ↦
          (let is = same_Some makes.made slot (sym makes.stands ∙ ap (λ n. get_or (state_of sizes later).heap.slots n None) (sym new) ∙ e) in
          subst (λ m. IsSlot sizes (class_of m) (place_at later k)) (new_node slot is)
          (subst (IsSlot sizes (class_of node)) (sym (place_new k new)) (slot_taken sizes words all.taken (class_of node) name (class_small node) taken)))
      | inr other ↦ subst (IsSlot sizes (class_of slot.node)) (sym (place_old k other)) (all.nodes.inside k slot (sym (makes.nodes k other) ∙ e))
    ];
    owners = owners_made sizes account actor operation name own node more makes all.nodes.owners;
    owned = own_made sizes account actor operation name own node more makes all.counted all.nodes.owned owns;
    live = live_stands;
    reached = reached_kept sizes account later all.bounds (step.Go actor) refl stands later_stands all.nodes.reached live_stands (λ r was h. stands_by r h);
  }
    where
      stands_by : (r : Ref) → stands (slot_of r) ≡ true → later_stands (slot_of r) ≡ true
      stands_by r h = elim (cases_eq (slot_of r) k0) [
        | inl new ↦ stands_new k0 stands (slot_of r) new
        | inr other ↦ stands_else k0 stands (slot_of r) other ∙ h
      ]

      live_stands : (r : Ref) → IsLive (state_of sizes later) r → later_stands (slot_of r) ≡ true
      live_stands r h = elim (makes.live r h) [
        | inl before ↦ stands_by r (all.nodes.live r before)
        | inr new ↦ stands_new k0 stands (slot_of r) new
      ]

  place_then : (r : Ref) → slot_of r ≢ k0 → place_of account r ≡ place_of later r
  place_then r other = sym (same_place sizes account actor operation name own node more makes r other)

  meaning_then : (handle found : ℕ) → MeansRoot account words handle found (root_at (state_of sizes account) handle) → MeansRoot later words handle found (root_at (state_of sizes account) handle)
  meaning_then handle found =
      means_kept account later words words handle (root_at (state_of sizes account) handle)
      (λ access q is. sym (place_then q (makes.names_not.roots handle q (subst (λ x. Contains (refs_of_root x) q) (sym is) (Contains-get_or (q ∷ []) 0 q (omega arith)))))) (λ k c. (c, refl))
      (λ slot none. none) found

  second_then : (o : Option Ref) → ((r : Ref) → Contains (refs_of_option o) r → slot_of r ≢ k0) → second_of account o ≡ second_of later o
  second_then None refs = refl
  second_then (Some r) refs = place_then r (refs r (Contains-get_or (r ∷ []) 0 r (omega arith)))

  written_then : (k : Known) → Contains account.offers k → IsWritten account words k → IsWritten later words k
  written_then k c h =
      let refs = makes.names_not.offers k c in
      let its : List Ref = refs_of_offer k.offer in
      let root = place_then k.offer.root (refs k.offer.root (Contains-get_or its 0 k.offer.root (omega arith))) in
      let expected = place_then k.offer.expected (refs k.offer.expected (Contains-get_or its 1 k.offer.root (omega arith))) in
      let successor = place_then k.offer.successor (refs k.offer.successor (Contains-get_or its 2 k.offer.root (omega arith))) in
      let second = second_then k.offer.second (λ r d. refs r (Contains-append_right (k.offer.root ∷ k.offer.expected ∷ k.offer.successor ∷ []) (refs_of_option k.offer.second) r d)) in
      record {
        olds = h.olds ∙ ap (λ p. pair_code (record { low = p; high = place_of account k.offer.expected })) root ∙ ap (λ p. pair_code (record { low = place_of later k.offer.root; high = p })) expected;
        news = h.news ∙ ap (λ p. pair_code (record { low = p; high = second_of account k.offer.second })) successor ∙ ap
            (λ p. pair_code (record { low = place_of later k.offer.successor; high = p })) second;
      }

  pub roots_then : RootsStand sizes later words
  roots_then = record {
    means = λ handle low.
        subst (λ rs. MeansRoot later words handle (slice_index words (root_word handle)) (get_or rs handle None)) (sym makes.roots)
        (meaning_then handle (slice_index words (root_word handle)) (all.roots.means handle low));
    offers = λ k c. written_then k c (all.roots.offers k c);
    blocks = all.roots.blocks;
    single = all.roots.single;
    pending = all.roots.pending;
    tries = all.roots.tries;
    stood = λ k c. stood_still sizes account later (step.Go actor ∷ []) refl k.offer (all.roots.stood k c);
    came = λ x c. stood_still sizes account later (step.Go actor ∷ []) refl x.known.offer (all.roots.came x c);
    parting = all.roots.parting;
    marks = marks_kept account.offers (state_of sizes account) (state_of sizes later) (as_before makes.tries) words words (λ k c. refl) all.roots.marks;
    fates = λ k c. fate_kept sizes account later (step.Go actor) refl k (fate words k) (λ e. words_same (state_of sizes account) (state_of sizes later) makes.roots k.handle ∙ e) (all.roots.fates k c);
  }

  -- with the words that were exchanged since, before all slots
  module _ (words_then : List ℕ) (size : length words_then ≡ words_of sizes) (have : HaveTaken sizes words_then)
      (generations : slice_index words_then generation_word ≡ (state_of sizes later).generations)
      (nodes : NodesStand sizes later later_stands words_then) (roots : RootsStand sizes later words_then) where
    pub all_then : AllStand sizes later later_stands words_then
    all_then = record {
      bounds = makes.bounds;
      keys = All-append FitsKey account.steps (step.Go actor ∷ []) all.keys (All-cons FitsKey (step.Go actor) [] tt (All-nil FitsKey));
      quiet = quiet_more account.steps (step.Go actor) all.quiet tt;
      counted = (let one = length-append account.names (name ∷ []) in omega (arith, one, all.counted, makes.births));
      size = size;
      taken = have;
      generations = generations;
      nodes = nodes;
      roots = roots;
    }
