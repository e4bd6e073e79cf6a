-- Steps that change no node, and stores to words of handles.
use Rattle.std.proofs.Common.{◌≡◌, ◌≢◌, ℕ, ◌<◌, ◌≤◌, inl, inr, List, [], ◌∷◌, ◌++◌, Contains, length, set, get_or, slice_index, Option, None, refl, sym, ap, subst, ◌∙◌, arith, length-set}
use Rattle.std.proofs.lemmas.Bool.{cases_eq}
use Rattle.std.proofs.lemmas.List.{get_or-set_same}
use Rattle.trie_words.specs.Codes.{root_code}
use Rattle.trie_words.specs.declared.roots.RootWord.TheVariants as word
use Rattle.machine_model.specs.Beneath.slot_arena.specs.declared.nodes.Slot.{Slot}
use Rattle.machine_model.specs.declared.roots.Root.{Root}
use Rattle.machine_model.specs.declared.steps.Step.{Step}
use Rattle.machine_model.specs.Keys.{KeysFit}
use Rattle.proof_waiting.specs.Beneath.proof_slots.specs.Unswept.{HasNoSweeps}
use Rattle.machine_model.specs.States.{State, root_at, handle_limit}
use Rattle.lock_free.specs.declared.accounts.Account.{Account}
use Rattle.lock_free.specs.declared.accounts.Known.{Known}
use Rattle.lock_free.specs.declared.sizes.Sizes.{Sizes}
use Rattle.lock_free.specs.Accounts.{state_of, place_at}
use Rattle.lock_free.specs.Offering.{LeavesNodes}
use Rattle.lock_free.specs.Places.{first_slot_word, slots_in, IsTaken, HaveTaken, taken_word, generation_word, root_word, pin_word, words_of}
use Rattle.lock_free.specs.Roots.{MeansRoot, IsWritten, IsPending, AreMarked, fate, undecided}
use Rattle.lock_free.specs.Rules.{Standing, Stands, NodesStand}
use Rattle.lock_free.specs.Steps.{nothing}
use Rattle.lock_free.proofs.OwnBits.{own_longer}
use Rattle.lock_free.proofs.Assembling.{AllStand}
use Rattle.lock_free.proofs.Fates.{fate_kept, fate_said, words_same}
use Rattle.lock_free.proofs.Framing.{else_word, nodes_below, roots_below, no_slot, meaning_below, written_below, first_of_offer, no_offer, marks_over}
use Rattle.lock_free.proofs.Geometry.{IsWordOf, root_below, root_apart}
use Rattle.lock_free.proofs.Owners.{owners_kept}
use Rattle.lock_free.proofs.Keeping.{stands_kept, written_kept, meaning_kept, same_nodes}
use Rattle.lock_free.proofs.Meanings.{stood_still}
use Rattle.lock_free.proofs.PartingStay.{NamesLess, parted_still}

-- ---- a step that changes no node

module _ (sizes : Sizes) (account : Account) (steps : List Step) (others : Account)
    (leaves : LeavesNodes sizes account (record others { steps = steps; names = account.names; owned = account.owned })) (stands : Standing)
    (words : List ℕ) where
  abbrev now : State
  now = state_of sizes account

  abbrev later : Account
  later = record others { steps = steps; names = account.names; owned = account.owned }

  abbrev next : State
  next = state_of sizes later

  stood : (k : ℕ) (slot : Slot) → Stands stands next k slot → Stands stands now k slot
  stood k slot h = (h.0, sym (leaves.nodes k) ∙ h.1)

  pub nodes_left : (more : List Step) → steps ≡ account.steps ++ more →
      ((x : Known) → Contains others.offers x → (k : ℕ) (slot : Slot) → Stands stands now k slot → place_at account k ≢ x.slot) → NodesStand sizes account stands words →
      NodesStand sizes later stands words
  nodes_left more goes_on apart nodes = record {
    within = λ k slot h. nodes.within k slot (stood k slot h);
    small = λ k slot h. nodes.small k slot (stood k slot h);
    apart = λ j k x y a b same. nodes.apart j k x y (stood j x a) (stood k y b) same;
    offers = λ x c k slot h. apart x c k slot (stood k slot h);
    written = λ k slot h.
        (let was = stood k slot h in
        stands_kept account steps others nothing now next (same_nodes now next leaves.nodes) leaves.aheads (λ i a f e none. leaves.still i a f e) words (place_at account k) k slot slot.node refl
        (nodes.written k slot was));
    inside = λ k slot e. nodes.inside k slot (sym (leaves.nodes k) ∙ e);
    owners = owners_kept account later now next refl refl leaves.aheads nodes.owners;
    owned = own_longer sizes account later more goes_on refl nodes.owned;
    live = λ r h. nodes.live r (leaves.live r h);
    reached = λ r h. elim (leaves.reached r h) [
      | inl was ↦ nodes.reached r was
      | inr live ↦ nodes.live r live
    ];
  }

  pub written_left : (k : Known) → IsWritten account words k → IsWritten later words k
  written_left = written_kept account steps others nothing now next (same_nodes now next leaves.nodes) leaves.aheads (λ i a f e none. leaves.still i a f e) words

-- where no root changes either, with the marks of operations as they are then
module _ (sizes : Sizes) (account : Account) (s : Step) (leaves : LeavesNodes sizes account (record account { steps = account.steps ++ s ∷ [] })) (stands : Standing) (words : List ℕ)
    (fits : KeysFit (account.steps ++ s ∷ [])) (quiet : HasNoSweeps (account.steps ++ s ∷ []))
    (roots : (state_of sizes (record account { steps = account.steps ++ s ∷ [] })).roots ≡ (state_of sizes account).roots)
    (marks : AreMarked (state_of sizes (record account { steps = account.steps ++ s ∷ [] })) words account.offers) where
  pub all_left : AllStand sizes account stands words → AllStand sizes (record account { steps = account.steps ++ s ∷ [] }) stands words
  all_left all = record {
    bounds = leaves.bounds;
    keys = fits;
    quiet = quiet;
    counted = all.counted ∙ sym leaves.births;
    size = all.size;
    taken = all.taken;
    generations = all.generations ∙ sym leaves.generations;
    nodes = nodes_left sizes account (account.steps ++ s ∷ []) account leaves stands words (s ∷ []) refl all.nodes.offers all.nodes;
    roots = record {
      means = λ handle low.
          meaning_kept account (account.steps ++ s ∷ []) words handle _ _
          (subst (λ rs. MeansRoot account words handle (slice_index words (root_word handle)) (get_or rs handle None)) (sym roots) (all.roots.means handle low));
      offers = λ k c. written_left sizes account (account.steps ++ s ∷ []) account leaves stands words k (all.roots.offers k c);
      blocks = all.roots.blocks;
      single = all.roots.single;
      tries = all.roots.tries;
      stood = λ k c. stood_still sizes account (record account { steps = account.steps ++ s ∷ [] }) (s ∷ []) refl k.offer (all.roots.stood k c);
      came = λ x c. stood_still sizes account (record account { steps = account.steps ++ s ∷ [] }) (s ∷ []) refl x.known.offer (all.roots.came x c);
      parting = all.roots.parting;
      marks = marks;
      fates = λ k c.
          fate_kept sizes account (record account { steps = account.steps ++ s ∷ [] }) s refl k (fate words k)
          (λ e. words_same (state_of sizes account) (state_of sizes (record account { steps = account.steps ++ s ∷ [] })) roots k.handle ∙ e) (all.roots.fates k c);
      pending = all.roots.pending;
    };
  }

-- ---- a store to the word of a handle

module _ (sizes : Sizes) (account : Account) (stands : Standing) (words : List ℕ) (all : AllStand sizes account stands words) (handle : ℕ) (low : handle < handle_limit) (x : ℕ) where
  abbrev i : ℕ
  i = root_word handle

  abbrev pub rooted : List ℕ
  rooted = set words i x

  before_slots : i < first_slot_word sizes
  before_slots = let where_it_is = root_below handle low in omega (arith, where_it_is.1)

  pub beside : (j : ℕ) → j ≢ i → slice_index rooted j ≡ slice_index words j
  beside = else_word account words i x

  pub at_it : slice_index rooted i ≡ x
  at_it = let size = all.size in let before = before_slots in get_or-set_same words i x 0 (omega (arith, size, before))

  pub else_root : (g : ℕ) → g ≢ handle → slice_index rooted (root_word g) ≡ slice_index words (root_word g)
  else_root g differs = beside (root_word g) (λ same. differs (root_apart g handle same))

  count_same : (b : ℕ) → b < 3 → slice_index rooted (taken_word b) ≡ slice_index words (taken_word b)
  count_same b small = let where_it_is = root_below handle low in beside (taken_word b) (λ same. absurd (omega (arith, same, small, where_it_is.0)))

  pub taken_rooted : (b n : ℕ) → b < 3 → IsTaken sizes words b n → IsTaken sizes rooted b n
  taken_rooted b n small h = record { number = h.number; few = subst (λ m. h.number < m) (sym (count_same b small)) h.few; first = h.first }

  pub have_rooted : HaveTaken sizes rooted
  have_rooted b small = subst (λ n. n ≤ slots_in sizes b) (sym (count_same b small)) (all.taken b small)

  pub size_rooted : length rooted ≡ words_of sizes
  size_rooted = length-set words i x ∙ all.size

  pub generations_rooted : slice_index rooted generation_word ≡ (state_of sizes account).generations
  generations_rooted = let where_it_is = root_below handle low in beside generation_word (λ same. absurd (omega (arith, same, where_it_is.0))) ∙ all.generations

  pub pin_rooted : (a : ℕ) → 1 ≤ a → slice_index rooted (pin_word a) ≡ slice_index words (pin_word a)
  pin_rooted a some = let where_it_is = root_below handle low in beside (pin_word a) (λ same. absurd (omega (arith, same, some, where_it_is.1)))

  pub slot_rooted : (b name : ℕ) → b < 3 → IsTaken sizes words b name → (j : ℕ) → IsWordOf b name j → slice_index rooted j ≡ slice_index words j
  slot_rooted b name small is j its = beside j (no_slot sizes account stands words all.taken all.nodes all.roots i before_slots x taken_rooted b name small is j its)

  pub nodes_rooted : NodesStand sizes account stands rooted
  nodes_rooted = nodes_below sizes account stands words all.taken all.nodes all.roots i before_slots x taken_rooted

  not_its : (k : Known) → Contains account.offers k → (j : ℕ) → IsWordOf 1 k.slot j → j ≢ i
  not_its = no_offer sizes account stands words all.taken all.nodes all.roots i before_slots x taken_rooted

  pub written_rooted : (k : Known) → Contains account.offers k → IsWritten account rooted k
  written_rooted = written_below sizes account stands words all.taken all.nodes all.roots i before_slots x taken_rooted

  pub fate_rooted : (k : Known) → Contains account.offers k → fate rooted k ≡ fate words k
  fate_rooted = first_of_offer account words i x not_its

  pub meaning_rooted : (g found : ℕ) (r : Option Root) → MeansRoot account words g found r → MeansRoot account rooted g found r
  meaning_rooted = meaning_below sizes account stands words all.taken all.nodes all.roots i before_slots x taken_rooted

  -- where the word named none of a pending offer
  pub pending_rooted : (k : Known) → (slice_index words i ≡ root_code (word.Offered k.slot) → ⊥) → (slice_index words i ≡ root_code (word.Opening k.slot) → ⊥) → IsPending words k → IsPending rooted k
  pending_rooted k not_offered not_opening h = record {
    low = h.low;
    stands = else_root k.handle (λ same. not_offered (ap (λ n. slice_index words (root_word n)) (sym same) ∙ h.stands)) ∙ h.stands;
    opens = λ opened e.
        (let y = h.opens opened e in (y.0, else_root opened (λ same. not_opening (ap (λ n. slice_index words (root_word n)) (sym same) ∙ y.1)) ∙ y.1));
  }

  -- where it says what the handle's root is, all stands as before
  module _ (means : MeansRoot account rooted handle x (root_at (state_of sizes account) handle))
      (unnamed : (k : Known) → Contains account.offers k → fate words k ≡ undecided → (slice_index words i ≡ root_code (word.Offered k.slot) → ⊥) ×
      (slice_index words i ≡ root_code (word.Opening k.slot) → ⊥)) (less : NamesLess account.offers words rooted) where
    means_by : (g : ℕ) → g < handle_limit → MeansRoot account rooted g (slice_index rooted (root_word g)) (root_at (state_of sizes account) g)
    means_by g low_g = elim (cases_eq g handle) [
      | inl same ↦
          subst (λ n. MeansRoot account rooted n (slice_index rooted (root_word n)) (root_at (state_of sizes account) n)) (sym same)
          (subst (λ n. MeansRoot account rooted handle n (root_at (state_of sizes account) handle)) (sym at_it) means)
      | inr differs ↦
          subst (λ n. MeansRoot account rooted g n (root_at (state_of sizes account) g)) (sym (else_root g differs))
          (meaning_rooted g (slice_index words (root_word g)) (root_at (state_of sizes account) g) (all.roots.means g low_g))
    ]

    pub all_rooted : AllStand sizes account stands rooted
    all_rooted = record {
      bounds = all.bounds;
      keys = all.keys;
      quiet = all.quiet;
      counted = all.counted;
      size = size_rooted;
      taken = have_rooted;
      generations = generations_rooted;
      nodes = nodes_rooted;
      roots = record {
        means = means_by;
        offers = written_rooted;
        blocks = λ k c. taken_rooted 1 k.slot (omega arith) (all.roots.blocks k c);
        single = all.roots.single;
        tries = all.roots.tries;
        stood = all.roots.stood;
        came = all.roots.came;
        parting = parted_still account.offered account.offers account.parted words rooted less all.roots.parting;
        marks = marks_over account words i x not_its (state_of sizes account) all.roots.marks;
        fates = λ k c. fate_said sizes account k (fate words k) (fate rooted k) (fate_rooted k c) (all.roots.fates k c);
        pending = λ k c stands.
            (let before = sym (fate_rooted k c) ∙ stands in let none = unnamed k c before in pending_rooted k none.0 none.1 (all.roots.pending k c before));
      };
    }

-- ---- a store to the word of a seat

module _ (sizes : Sizes) (account : Account) (stands : Standing) (words : List ℕ) (all : AllStand sizes account stands words) (actor : ℕ) (positive : 1 ≤ actor) (most : actor ≤ sizes.seats)
    (x : ℕ) where
  abbrev p : ℕ
  p = pin_word actor

  abbrev pub pinned : List ℕ
  pinned = set words p x

  inside_p : p < first_slot_word sizes
  inside_p = omega (arith, most)

  beside_p : (j : ℕ) → j ≢ p → slice_index pinned j ≡ slice_index words j
  beside_p = else_word account words p x

  pub at_p : slice_index pinned p ≡ x
  at_p = let size = all.size in let before = inside_p in get_or-set_same words p x 0 (omega (arith, size, before))

  pub root_pinned : (g : ℕ) → g < handle_limit → slice_index pinned (root_word g) ≡ slice_index words (root_word g)
  root_pinned g low = let where_it_is = root_below g low in beside_p (root_word g) (λ same. absurd (omega (arith, same, positive, where_it_is.1)))

  pub else_pinned : (a : ℕ) → a ≢ actor → slice_index pinned (pin_word a) ≡ slice_index words (pin_word a)
  else_pinned a differs = beside_p (pin_word a) (λ same. differs (omega (arith, same)))

  count_pinned : (b : ℕ) → b < 3 → slice_index pinned (taken_word b) ≡ slice_index words (taken_word b)
  count_pinned b small = beside_p (taken_word b) (λ same. absurd (omega (arith, same, small)))

  pub taken_pinned : (b n : ℕ) → b < 3 → IsTaken sizes words b n → IsTaken sizes pinned b n
  taken_pinned b n small h = record { number = h.number; few = subst (λ m. h.number < m) (sym (count_pinned b small)) h.few; first = h.first }

  pub slot_pinned : (b name : ℕ) → b < 3 → IsTaken sizes words b name → (j : ℕ) → IsWordOf b name j → slice_index pinned j ≡ slice_index words j
  slot_pinned b name small is j its = beside_p j (no_slot sizes account stands words all.taken all.nodes all.roots p inside_p x taken_pinned b name small is j its)

  pub fate_pinned : (k : Known) → Contains account.offers k → fate pinned k ≡ fate words k
  fate_pinned = first_of_offer account words p x (no_offer sizes account stands words all.taken all.nodes all.roots p inside_p x taken_pinned)

  pub all_pinned : AllStand sizes account stands pinned
  all_pinned = record {
    bounds = all.bounds;
    keys = all.keys;
    quiet = all.quiet;
    counted = all.counted;
    size = length-set words p x ∙ all.size;
    taken = λ b small. subst (λ n. n ≤ slots_in sizes b) (sym (count_pinned b small)) (all.taken b small);
    generations = beside_p generation_word (λ same. absurd (omega (arith, same))) ∙ all.generations;
    nodes = nodes_below sizes account stands words all.taken all.nodes all.roots p inside_p x taken_pinned;
    roots = roots_below sizes account stands words all.taken all.nodes all.roots p inside_p x taken_pinned
        (λ handle low e. (let where_it_is = root_below handle low in absurd (omega (arith, e, positive, where_it_is.1))));
  }
