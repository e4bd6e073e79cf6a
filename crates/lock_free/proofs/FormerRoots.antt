-- A load of the word of a root that stood once tells its generation.
use Rattle.std.proofs.Common.{◌≡◌, ◌*◌, ◌<◌, ◌^◌, ◌∷◌, ◌++◌, [], ℕ, Bool, Contains, slice_index, get_or, Some, None, sym, ap, subst, ◌∙◌, append_assoc, arith}
use Rattle.std.proofs.lemmas.Option.{same_Some}
use Rattle.std.proofs.lemmas.List.Elements.{Contains-get_or}
use Rattle.trie_words.specs.Codes.{link_of, link_code, IsLink}
use Rattle.trie_words.specs.declared.links.Link.{Link}
use Rattle.trie_words.proofs.Parts.{link_back}
use Rattle.machine_model.specs.Beneath.slot_arena.specs.declared.refs.Ref.{Ref}
use Rattle.machine_model.specs.Beneath.slot_arena.specs.declared.nodes.Node.TheVariants.{Indirection}
use Rattle.machine_model.specs.Beneath.slot_arena.specs.declared.nodes.Slot.{Slot}
use Rattle.machine_model.specs.Beneath.slot_arena.specs.Heaps.{generation_at, generation_of, with_main_word, refs_of_node}
use Rattle.machine_model.specs.Beneath.slot_arena.specs.Refs.{slot_of}
use Rattle.machine_model.specs.States.{State}
use Rattle.lock_free.specs.declared.accounts.Account.{Account}
use Rattle.lock_free.specs.declared.rules.View.{View}
use Rattle.lock_free.specs.Accounts.{state_of, place_of, running, MayBeFound, WasRoot, OwnIs}
use Rattle.lock_free.specs.Loading.{Moment, now, IsSound, HasSeen}
use Rattle.lock_free.specs.Nodes.{StandsAs, InTable, class_of}
use Rattle.lock_free.specs.RootWords.{IsFound, IsRootAt, HasSeenGeneration}
use Rattle.lock_free.proofs.Asked.{nodes_stay}
use Rattle.lock_free.proofs.Definition.{waits}
use Rattle.lock_free.proofs.Framing.{class_small, node_end}
use Rattle.lock_free.proofs.LinkWords.{generation_is}
use Rattle.lock_free.proofs.Looking.{saw}
use Rattle.lock_free.proofs.Moments.{same_place, seat}
use Rattle.lock_free.proofs.OneStep.Found.{slot_at}
use Rattle.lock_free.proofs.OneStep.Reached.{reached_used}
use Rattle.lock_free.proofs.OneStep.Roots.{names_used, reached_still}
use Rattle.lock_free.proofs.Within.{two_words}

-- its word is one of the table's
pub root_word_inside : (words : ℕ) (v : View) → IsSound words v → (r : Ref) (name : ℕ) → IsRootAt v r name → 2 * name < words
root_word_inside words v sound r name h =
    let inside = node_end v.sizes h.slot.node (place_of v.account r) (sound.inside (slot_of r) h.slot h.used) in
    let two = two_words (class_of h.slot.node) (class_small h.slot.node) in
    let size = sound.size in
    let place = h.place in
    omega (arith, inside, two, size, place)

module _ (before : View) (name found : ℕ) (m : Moment before (2 * name) found) (r : Ref) (h : IsRootAt before r name) (its : IsFound before r) where
  abbrev there : Account
  there = m.kept.account

  abbrev state : State
  state = state_of before.sizes there

  -- it is there still, with the same generation
  record IsThere : Type 0 where
    slot : Slot
    used : get_or state.heap.slots (slot_of r) None ≡ Some slot
    main : Ref
    is_link : slot.node ≡ Indirection h.generation main
    main_used : (other : Slot) × (get_or state.heap.slots (slot_of main) None ≡ Some other)

  reached : WasRoot before.sizes there r
  reached =
      let waited = (seat before m.table m.kept m.id m.at).waited in reached_still before.sizes before.account there waited.steps waited.goes_on r h.reached

  -- its operation runs still
  may_be_found : MayBeFound before.sizes there r
  may_be_found =
      let waited = (seat before m.table m.kept m.id m.at).waited in
      let f = its.0 in
      let now_runs = waits before.sizes before.actor before.account there waited m.kept.bounds f.operation (subst (λ a. running before.sizes before.account a f.operation) its.1 f.runs) in
      record {
        root = record {
          steps = f.root.steps;
          more = f.root.more ++ waited.steps;
          goes_on = waited.goes_on ∙ ap (λ xs. xs ++ waited.steps) f.root.goes_on ∙ append_assoc f.root.steps f.root.more waited.steps;
          handle = f.root.handle;
          access = f.root.access;
          was = f.root.was;
        };
        actor = before.actor;
        operation = record f.operation { is_marked = now_runs.0 };
        runs = now_runs.1;
        began = f.began;
      }

  is_there : IsThere
  is_there =
      let later = nodes_stay before.sizes before.actor before.account there (seat before m.table m.kept m.id m.at).waited m.kept.bounds (slot_of r) h.slot h.used in
      let node = later.2.1 ∙ ap (with_main_word later.2.0) h.is_link in
      let used = reached_used before.sizes there m.kept.bounds m.kept.quiet r reached in
      let same : used.0 ≡ later.0 = same_Some used.0 later.0 (sym (slot_at state.heap r used.0 used.1) ∙ later.1) in
      record {
        slot = later.0;
        used = later.1;
        main = later.2.0;
        is_link = node;
        main_used = names_used before.sizes there m.kept.bounds r used later.2.0
            (subst (λ n. Contains (refs_of_node n) later.2.0) (sym (ap (λ (x : Slot). x.node) same ∙ node)) (Contains-get_or (later.2.0 ∷ []) 0 later.2.0 (omega arith)));
      }

  main_small : place_of there is_there.main < 2 ^ 27
  main_small =
      let used = is_there.main_used in
      let inside = node_end before.sizes used.0.node (place_of there is_there.main) (m.kept.nodes.inside (slot_of is_there.main) used.0 used.1) in
      let two = two_words (class_of used.0.node) (class_small used.0.node) in
      let range = m.kept.range.within in
      omega (arith, inside, two, range)

  its_place : place_of there r ≡ name
  its_place = same_place before m.table m.kept m.id m.at (slot_of r) h.slot h.used ∙ h.place

  link_there : (h.generation < 2 ^ 36) × ((own : Bool) × OwnIs there.owned (slot_of r) (slot_of is_there.main) own
      × (slice_index m.table.words (2 * name) ≡ link_code (record { generation = h.generation; main = record { slot = place_of there is_there.main; own = own } })))
  link_there =
      subst (λ n. StandsAs there state (InTable m.table.words) name (slot_of r) is_there.slot n) is_there.is_link
      (subst (λ p. StandsAs there state (InTable m.table.words) p (slot_of r) is_there.slot is_there.slot.node) its_place
      (m.kept.nodes.written (slot_of r) is_there.slot (m.kept.nodes.reached r may_be_found, is_there.used)))

  generation_found : (link_of found).generation ≡ h.generation
  generation_found =
      let link : Link = record { generation = h.generation; main = record { slot = place_of there is_there.main; own = link_there.1.0 } } in
      let fits : IsLink link = (link_there.0, main_small) in
      ap (λ (l : Link). l.generation) (ap link_of (sym m.finds ∙ link_there.1.2) ∙ link_back link fits)

  pub generation_there : generation_at state.heap r ≡ (link_of found).generation
  generation_there = generation_is state r is_there.slot is_there.used ∙ ap generation_of is_there.is_link ∙ sym generation_found

-- what the seat is told
pub generation_told : (before : View) (name found : ℕ) (after : View) → HasSeen before (2 * name) found after → HasSeenGeneration before name ((link_of found).generation) after
generation_told before name found after (m, is) = (
  saw before name (2 * name) found after (m, is),
  λ r h its. subst (λ (x : View). generation_at (now x).heap r ≡ (link_of found).generation) (sym is) (generation_there before name found m r h its),
)
