-- A store to a word of a slot that nothing stands in changes nothing that the rule says of words, but what a seat has written there itself.
use Rattle.std.proofs.Common.{◌≡◌, ◌≢◌, ◌+◌, ◌*◌, ◌/◌, ℕ, zero, suc, ◌<◌, ◌≤◌, List, [], ◌∷◌, Contains, length, set, slice_index, Option, Some, refl, sym, subst, ◌∙◌, arith, nat_le, Bool, true}
use Rattle.std.proofs.Common.{false, if◌then◌else◌, length-set, slice_get}
use Rattle.std.proofs.lemmas.List.{get_or-set_other}
use Rattle.std.proofs.lemmas.Option.{none-some}
use Rattle.machine_model.specs.Beneath.slot_arena.specs.declared.refs.Ref.{Ref}
use Rattle.machine_model.specs.Beneath.slot_arena.specs.declared.nodes.Node.{Node}
use Rattle.machine_model.specs.Beneath.slot_arena.specs.declared.nodes.Node.TheVariants.{Indirection, Branch, Single, Tomb, List as Listed}
use Rattle.machine_model.specs.Beneath.slot_arena.specs.declared.nodes.Slot.{Slot}
use Rattle.machine_model.specs.Beneath.slot_arena.specs.Heaps.{entries_of}
use Rattle.machine_model.specs.States.{State, handle_limit, root_at}
use Rattle.machine_model.specs.declared.roots.Root.{Root}
use Rattle.lock_free.specs.declared.accounts.Account.{Account}
use Rattle.lock_free.specs.declared.accounts.Known.{Known}
use Rattle.lock_free.specs.declared.sizes.Sizes.{Sizes}
use Rattle.lock_free.specs.Accounts.{state_of, place_at}
use Rattle.lock_free.specs.Nodes.{StandsAs, AreEntries, InTable, entry_word, class_of}
use Rattle.lock_free.specs.Places.{first_slot_word, words_in, words_of, slots_in, class_for, IsSlot, IsTaken, HaveTaken, taken_word, generation_word, root_word, pin_word}
use Rattle.lock_free.specs.Roots.{MeansRoot, IsWritten, AreMarked, fate}
use Rattle.lock_free.specs.Rules.{Standing, Stands, NodesStand, RootsStand, IsSpare}
use Rattle.lock_free.proofs.Geometry.{IsWordOf, slot_end, slots_apart, above, inside, root_below}
use Rattle.lock_free.proofs.Assembling.{AllStand}
use Rattle.lock_free.proofs.Fates.{fate_said}
use Rattle.lock_free.proofs.Meanings.{means_kept, marks_kept, pending_kept, no_tries}
use Rattle.lock_free.proofs.PartingStay.{names_same, parted_still}

-- ---- a node's words are its slot's

-- a main node with so many entries has room for each of them
room_by : (n position : ℕ) (two twelve : Bool) → nat_le n 2 ≡ two → nat_le n 12 ≡ twelve → n ≤ 32 → position < n →
    1 + position / 2 < words_in (if two then 0 else (if twelve then 1 else 2))
room_by n position true twelve a b most low = grind (arith, a, most, low)
room_by n position false true a b most low = grind (arith, a, b, most, low)
room_by n position false false a b most low = grind (arith, a, b, most, low)

pub entry_inside : (n name position : ℕ) → n ≤ 32 → position < n → IsWordOf (class_for n) name (entry_word name position)
entry_inside n name position most low =
    let room = room_by n position (nat_le n 2) (nat_le n 12) refl refl most low in
    record { low = omega arith; high = omega (arith, room) }

class_has : (n : ℕ) → 0 < words_in (class_for n)
class_has n = by (nat_le n 2) (nat_le n 12)
  where
    by : (two twelve : Bool) → 0 < words_in (if two then 0 else (if twelve then 1 else 2))
    by true twelve = omega arith
    by false true = omega arith
    by false false = omega arith

pub class_below : (n : ℕ) → class_for n < 3
class_below n = by (nat_le n 2) (nat_le n 12)
  where
    by : (two twelve : Bool) → (if two then 0 else (if twelve then 1 else 2)) < 3
    by true twelve = omega arith
    by false true = omega arith
    by false false = omega arith

pub first_inside : (n name : ℕ) → IsWordOf (class_for n) name (2 * name)
first_inside n name = let some = class_has n in record { low = omega arith; high = omega (arith, some) }

pub class_small : (node : Node) → class_of node < 3
class_small (Indirection generation main) = omega arith
class_small (Single key value) = omega arith
class_small (Tomb single) = omega arith
class_small (Branch bitmap entries) = class_below (length entries.items)
class_small (Listed singles) = class_below (length singles.items)

-- all words of a node's slot are the table's
pub node_end : (sizes : Sizes) (node : Node) (name : ℕ) → IsSlot sizes (class_of node) name → 2 * name + words_in (class_of node) ≤ words_of sizes
node_end sizes node name h = slot_end sizes (class_of node) name (class_small node) h

pub has_words : (class : ℕ) → class < 3 → 0 < words_in class
has_words zero low = omega arith
has_words (suc zero) low = omega arith
has_words (suc (suc zero)) low = omega arith
has_words (suc (suc (suc class))) low = absurd (omega (arith, low))

pub first_word : (node : Node) (name : ℕ) → IsWordOf (class_of node) name (2 * name)
first_word node name = let some = has_words (class_of node) (class_small node) in record { low = omega arith; high = omega (arith, some) }

-- ---- a store to a spare slot's word

pub got_within : {A : Type 0} (xs : List A) (n : ℕ) (x : A) → slice_get xs n ≡ Some x → n < length xs
got_within [] n x e = absurd (none-some x e)
got_within (y ∷ ys) zero x e = omega arith
got_within (y ∷ ys) (suc n) x e = let h = got_within ys n x e in omega (arith, h)

-- a store to some word
module _ (account : Account) (words : List ℕ) (i x : ℕ) where
  abbrev pub changed : List ℕ
  changed = set words i x

  pub else_word : (j : ℕ) → j ≢ i → slice_index changed j ≡ slice_index words j
  else_word j apart = get_or-set_other words i j x 0 apart

  module _ (p : ℕ) (state : State) (k : ℕ) (slot : Slot) where
    -- no entry's word is it
    pub entries_else : (entries : List Ref) → ((position : ℕ) → position < length entries → entry_word p position ≢ i) →
        AreEntries account state.heap (InTable words) p entries → AreEntries account state.heap (InTable changed) p entries
    entries_else entries apart h position e at =
        let y = h position e at in (y.0, else_word (entry_word p position) (apart position (got_within entries position e at)) ∙ y.1, y.2)

    entries_over : (entries : List Ref) → length entries ≤ 32 → ((j : ℕ) → IsWordOf (class_for (length entries)) p j → j ≢ i) →
        AreEntries account state.heap (InTable words) p entries → AreEntries account state.heap (InTable changed) p entries
    entries_over entries most apart = entries_else entries (λ position low. apart (entry_word p position) (entry_inside (length entries) p position most low))

    pub stands_over : (node : Node) → length (entries_of node) ≤ 32 → ((j : ℕ) → IsWordOf (class_of node) p j → j ≢ i) → StandsAs account state (InTable words) p k slot node →
        StandsAs account state (InTable changed) p k slot node
    stands_over (Indirection generation main) most apart h = (h.0, (h.1.0, h.1.1, else_word (2 * p) (apart (2 * p) (first_inside 0 p)) ∙ h.1.2))
    stands_over (Single key value) most apart h =
        (else_word (2 * p) (apart (2 * p) (first_inside 0 p)) ∙ h.0, else_word (2 * p + 1) (apart (2 * p + 1) (record { low = omega arith; high = omega arith })) ∙ h.1)
    stands_over (Branch bitmap entries) most apart h =
        ((h.0.0, else_word (2 * p) (apart (2 * p) (first_inside (length entries.items) p)) ∙ h.0.1, h.0.2), entries_over entries.items most apart h.1)
    stands_over (Tomb single) most apart h = (h.0, else_word (2 * p) (apart (2 * p) (first_inside 0 p)) ∙ h.1, h.2)
    stands_over (Listed singles) most apart h =
        ((h.0.0, else_word (2 * p) (apart (2 * p) (first_inside (length singles.items) p)) ∙ h.0.1, h.0.2), entries_over singles.items most apart h.1)

  -- which is no offer's
  module _ (apart : (k : Known) → Contains account.offers k → (j : ℕ) → IsWordOf 1 k.slot j → j ≢ i) where
    pub first_of_offer : (k : Known) → Contains account.offers k → fate changed k ≡ fate words k
    first_of_offer k c = else_word (2 * k.slot) (apart k c (2 * k.slot) (record { low = omega arith; high = omega arith }))

    pub meaning_over : (handle found : ℕ) (r : Option Root) → MeansRoot account words handle found r → MeansRoot account changed handle found r
    meaning_over handle found r = means_kept account account words changed handle r (λ access q is. refl) (λ k c. (c, first_of_offer k c)) (λ slot none. none) found

    pub marks_over : (state : State) → AreMarked state words account.offers → AreMarked state changed account.offers
    marks_over state = marks_kept account.offers state state (no_tries account.offers state) words changed first_of_offer

    pub written_over : (k : Known) → Contains account.offers k → IsWritten account words k → IsWritten account changed k
    written_over k c h = record {
      olds = else_word (2 * k.slot + 1) (apart k c (2 * k.slot + 1) (record { low = omega arith; high = omega arith })) ∙ h.olds;
      news = else_word (2 * k.slot + 2) (apart k c (2 * k.slot + 2) (record { low = omega arith; high = omega arith })) ∙ h.news;
    }

-- a store to a word of some slot
module _ (sizes : Sizes) (account : Account) (words : List ℕ) (have : HaveTaken sizes words) (i : ℕ) (far : first_slot_word sizes ≤ i) (x : ℕ) where
  pub below_word : (j : ℕ) → j < first_slot_word sizes → slice_index (set words i x) j ≡ slice_index words j
  below_word j low = else_word account words i x j (λ same. absurd (omega (arith, low, far, same)))

  pub still_taken : (b n : ℕ) → b < 3 → IsTaken sizes words b n → IsTaken sizes (set words i x) b n
  still_taken b n low h = record { number = h.number; few = subst (λ m. h.number < m) (sym (below_word (taken_word b) (omega (arith, low)))) h.few; first = h.first }

  pub have_still : HaveTaken sizes (set words i x)
  have_still c low = subst (λ n. n ≤ slots_in sizes c) (sym (below_word (taken_word c) (omega (arith, low)))) (have c low)

  -- which is no offer's
  module _ (apart : (k : Known) → Contains account.offers k → (j : ℕ) → IsWordOf 1 k.slot j → j ≢ i) where
    pub roots_still : RootsStand sizes account words → RootsStand sizes account (set words i x)
    roots_still roots = record {
      means = λ handle low.
          (let where_it_is = root_below handle low in
          subst (λ n. MeansRoot account (set words i x) handle n (root_at (state_of sizes account) handle)) (sym (below_word (root_word handle) (omega (arith, where_it_is.1))))
          (meaning_over account words i x apart handle (slice_index words (root_word handle)) (root_at (state_of sizes account) handle) (roots.means handle low)));
      offers = λ k c. written_over account words i x apart k c (roots.offers k c);
      blocks = λ k c. still_taken 1 k.slot (omega arith) (roots.blocks k c);
      single = roots.single;
      tries = roots.tries;
      stood = roots.stood;
      came = roots.came;
      parting = parted_still account.offered account.offers account.parted words (set words i x)
          (names_same account.offers words (set words i x) (λ handle low. (let where_it_is = root_below handle low in below_word (root_word handle) (omega (arith, where_it_is.1))))) roots.parting;
      marks = marks_over account words i x apart (state_of sizes account) roots.marks;
      fates = λ k c. fate_said sizes account k (fate words k) (fate (set words i x) k) (first_of_offer account words i x apart k c) (roots.fates k c);
      pending = λ k c stands.
          pending_kept words (set words i x) k (λ handle low. (let where_it_is = root_below handle low in below_word (root_word handle) (omega (arith, where_it_is.1))))
          (roots.pending k c (sym (first_of_offer account words i x apart k c) ∙ stands));
    }

-- a store to a spare slot's word
module _ (sizes : Sizes) (account : Account) (stands : Standing) (words : List ℕ) (all : AllStand sizes account stands words) (class name : ℕ) (small : class < 3)
    (taken : IsTaken sizes words class name) (spare : IsSpare sizes account stands name) (i : ℕ) (here : IsWordOf class name i) (x : ℕ) where
  abbrev pub stored : List ℕ
  stored = set words i x

  far : first_slot_word sizes ≤ i
  far = above sizes words all.taken class name i small taken here

  pub other_word : (j : ℕ) → j ≢ i → slice_index stored j ≡ slice_index words j
  other_word = else_word account words i x

  pub low_word : (j : ℕ) → j < first_slot_word sizes → slice_index stored j ≡ slice_index words j
  low_word = below_word sizes account words all.taken i far x

  -- no word of a node that stands, or of an offer
  not_of_node : (k : ℕ) (slot : Slot) → Stands stands (state_of sizes account) k slot → (j : ℕ) → IsWordOf (class_of slot.node) (place_at account k) j → j ≢ i
  not_of_node k slot h j w same =
      spare.0 k slot h
      (slots_apart sizes words all.taken (class_of slot.node) class (place_at account k) name i (class_small slot.node) small (all.nodes.within k slot h) taken
      (subst (λ n. IsWordOf (class_of slot.node) (place_at account k) n) same w) here).1

  not_of_offer : (k : Known) → Contains account.offers k → (j : ℕ) → IsWordOf 1 k.slot j → j ≢ i
  not_of_offer k c j w same =
      spare.1 k c (slots_apart sizes words all.taken 1 class k.slot name i (omega arith) small (all.roots.blocks k c) taken (subst (λ n. IsWordOf 1 k.slot n) same w) here).1

  pub taken_over : (b n : ℕ) → b < 3 → IsTaken sizes words b n → IsTaken sizes stored b n
  taken_over = still_taken sizes account words all.taken i far x

  nodes_over : NodesStand sizes account stands stored
  nodes_over = record {
    within = λ k slot h. taken_over (class_of slot.node) (place_at account k) (class_small slot.node) (all.nodes.within k slot h);
    small = all.nodes.small;
    apart = all.nodes.apart;
    offers = all.nodes.offers;
    written = λ k slot h.
        stands_over account words i x (place_at account k) (state_of sizes account) k slot slot.node (all.nodes.small k slot h) (not_of_node k slot h) (all.nodes.written k slot h);
    inside = all.nodes.inside;
    owners = all.nodes.owners;
    owned = all.nodes.owned;
    live = all.nodes.live;
    reached = all.nodes.reached;
  }

  pub all_over : AllStand sizes account stands stored
  all_over = record {
    bounds = all.bounds;
    keys = all.keys;
    quiet = all.quiet;
    counted = all.counted;
    size = length-set words i x ∙ all.size;
    taken = have_still sizes account words all.taken i far x;
    generations = low_word generation_word (omega arith) ∙ all.generations;
    nodes = nodes_over;
    roots = roots_still sizes account words all.taken i far x not_of_offer all.roots;
  }

-- a store to a word of a node that stands
module _ (sizes : Sizes) (account : Account) (stands : Standing) (words : List ℕ) (all : AllStand sizes account stands words) (k : ℕ) (slot : Slot)
    (stood : Stands stands (state_of sizes account) k slot)
    (i : ℕ) (its : IsWordOf (class_of slot.node) (place_at account k) i) (x : ℕ) where
  pub node_far : first_slot_word sizes ≤ i
  node_far = above sizes words all.taken (class_of slot.node) (place_at account k) i (class_small slot.node) (all.nodes.within k slot stood) its

  pub node_inside : i < length words
  node_inside = subst (λ n. i < n) (sym all.size) (inside sizes words all.taken (class_of slot.node) (place_at account k) i (class_small slot.node) (all.nodes.within k slot stood) its)

  -- no word of another node that stands, of an offer, or of a spare slot
  pub not_of_other : (j : ℕ) (another : Slot) → j ≢ k → Stands stands (state_of sizes account) j another → (n : ℕ) → IsWordOf (class_of another.node) (place_at account j) n → n ≢ i
  not_of_other j another differs h n w same =
      differs
      (all.nodes.apart j k another slot h stood
      (slots_apart sizes words all.taken (class_of another.node) (class_of slot.node) (place_at account j) (place_at account k) i (class_small another.node) (class_small slot.node)
      (all.nodes.within j another h)
      (all.nodes.within k slot stood) (subst (λ m. IsWordOf (class_of another.node) (place_at account j) m) same w) its).1)

  pub not_of_any_offer : (o : Known) → Contains account.offers o → (n : ℕ) → IsWordOf 1 o.slot n → n ≢ i
  not_of_any_offer o c n w same =
      all.nodes.offers o c k slot stood
      (sym (slots_apart sizes words all.taken 1 (class_of slot.node) o.slot (place_at account k) i (omega arith) (class_small slot.node) (all.roots.blocks o c) (all.nodes.within k slot stood)
      (subst (λ m. IsWordOf 1 o.slot m) same w) its).1)

  pub not_of_spare : (b name : ℕ) → b < 3 → IsTaken sizes words b name → IsSpare sizes account stands name → (n : ℕ) → IsWordOf b name n → n ≢ i
  not_of_spare b name small taken spare n w same =
      spare.0 k slot stood
      (sym (slots_apart sizes words all.taken b (class_of slot.node) name (place_at account k) i small (class_small slot.node) taken (all.nodes.within k slot stood)
      (subst (λ m. IsWordOf b name m) same w) its).1)

  pub root_beside : (handle : ℕ) → handle < handle_limit → slice_index (set words i x) (root_word handle) ≡ slice_index words (root_word handle)
  root_beside handle low = let where_it_is = root_below handle low in below_word sizes account words all.taken i node_far x (root_word handle) (omega (arith, where_it_is.1))

  pub pin_beside : (a : ℕ) → a ≤ sizes.seats → slice_index (set words i x) (pin_word a) ≡ slice_index words (pin_word a)
  pin_beside a most = below_word sizes account words all.taken i node_far x (pin_word a) (omega (arith, most))

-- a store to a word before all slots, which takes back none that was handed out
module _ (sizes : Sizes) (account : Account) (stands : Standing) (words : List ℕ) (have : HaveTaken sizes words) (nodes : NodesStand sizes account stands words)
    (roots : RootsStand sizes account words) (i : ℕ) (before : i < first_slot_word sizes) (x : ℕ)
    (taken : (b n : ℕ) → b < 3 → IsTaken sizes words b n → IsTaken sizes (set words i x) b n) where
  pub no_slot : (b name : ℕ) → b < 3 → IsTaken sizes words b name → (j : ℕ) → IsWordOf b name j → j ≢ i
  no_slot b name small is j its same = let far = above sizes words have b name j small is its in absurd (omega (arith, far, before, same))

  pub no_offer : (k : Known) → Contains account.offers k → (j : ℕ) → IsWordOf 1 k.slot j → j ≢ i
  no_offer k c = no_slot 1 k.slot (omega arith) (roots.blocks k c)

  pub nodes_below : NodesStand sizes account stands (set words i x)
  nodes_below = record {
    within = λ k slot h. taken (class_of slot.node) (place_at account k) (class_small slot.node) (nodes.within k slot h);
    small = nodes.small;
    apart = nodes.apart;
    offers = nodes.offers;
    written = λ k slot h.
        stands_over account words i x (place_at account k) (state_of sizes account) k slot slot.node (nodes.small k slot h)
        (no_slot (class_of slot.node) (place_at account k) (class_small slot.node) (nodes.within k slot h)) (nodes.written k slot h);
    inside = nodes.inside;
    owners = nodes.owners;
    owned = nodes.owned;
    live = nodes.live;
    reached = nodes.reached;
  }

  -- what a word of a handle means, and what is written of offers
  pub meaning_below : (handle found : ℕ) (r : Option Root) → MeansRoot account words handle found r → MeansRoot account (set words i x) handle found r
  meaning_below = meaning_over account words i x no_offer

  pub written_below : (k : Known) → Contains account.offers k → IsWritten account (set words i x) k
  written_below k c = written_over account words i x no_offer k c (roots.offers k c)

  pub blocks_below : (k : Known) → Contains account.offers k → IsTaken sizes (set words i x) 1 k.slot
  blocks_below k c = taken 1 k.slot (omega arith) (roots.blocks k c)

  -- which is no handle's
  pub roots_below : ((handle : ℕ) → handle < handle_limit → root_word handle ≢ i) → RootsStand sizes account (set words i x)
  roots_below no_root = record {
    means = λ handle low.
        subst (λ n. MeansRoot account (set words i x) handle n (root_at (state_of sizes account) handle)) (sym (else_word account words i x (root_word handle) (no_root handle low)))
        (meaning_below handle (slice_index words (root_word handle)) (root_at (state_of sizes account) handle) (roots.means handle low));
    offers = written_below;
    blocks = blocks_below;
    single = roots.single;
    tries = roots.tries;
    stood = roots.stood;
    came = roots.came;
    parting = parted_still account.offered account.offers account.parted words (set words i x)
        (names_same account.offers words (set words i x) (λ handle low. else_word account words i x (root_word handle) (no_root handle low))) roots.parting;
    marks = marks_over account words i x no_offer (state_of sizes account) roots.marks;
    fates = λ k c. fate_said sizes account k (fate words k) (fate (set words i x) k) (first_of_offer account words i x no_offer k c) (roots.fates k c);
    pending = λ k c stands.
        pending_kept words (set words i x) k (λ handle low. else_word account words i x (root_word handle) (no_root handle low))
        (roots.pending k c (sym (first_of_offer account words i x no_offer k c) ∙ stands));
  }
