-- A node that is made stands in the slot that was written for it, and all others stand as they did.
use Rattle.std.proofs.Common.{◌≡◌, ◌≢◌, ◌*◌, ℕ, zero, suc, inl, inr, Bool, true, false, List, [], ◌∷◌, ◌++◌, Contains, length, get_or, Option, Some, None, refl, sym, ap, subst, ◌∙◌, arith}
use Rattle.std.proofs.Common.{slice_get, ◌==◌, if◌then◌else◌}
use Rattle.std.proofs.lemmas.List.Elements.{Contains-get_or, Contains-append_left, Contains-append_right}
use Rattle.std.proofs.lemmas.Bool.{cases_eq, eq-eqb, ne_eqb, true≢false}
use Rattle.std.proofs.lemmas.Option.{none-some, same_Some}
use Rattle.machine_model.specs.Beneath.slot_arena.specs.declared.refs.Ref.{Ref}
use Rattle.machine_model.specs.Beneath.slot_arena.specs.declared.nodes.Node.{Node}
use Rattle.machine_model.specs.Beneath.slot_arena.specs.declared.nodes.Node.TheVariants.{Indirection, Branch, Single, Tomb, List as Listed}
use Rattle.machine_model.specs.Beneath.slot_arena.specs.declared.nodes.Prev.{Prev}
use Rattle.machine_model.specs.Beneath.slot_arena.specs.declared.nodes.Prev.TheVariants as prev
use Rattle.machine_model.specs.Beneath.slot_arena.specs.declared.nodes.Slot.{Slot}
use Rattle.machine_model.specs.Beneath.slot_arena.specs.Refs.{slot_of}
use Rattle.machine_model.specs.Beneath.slot_arena.specs.Heaps.{node_at, stored, node_of, main_of, refs_of_node, refs_of_prev}
use Rattle.machine_model.specs.declared.operations.Operation.{Operation}
use Rattle.machine_model.specs.States.{State}
use Rattle.trie_words.specs.Codes.{entry_code, link_code}
use Rattle.trie_words.specs.declared.headers.Previous.{Previous}
use Rattle.trie_words.specs.declared.headers.Previous.TheVariants as previous
use Rattle.trie_words.specs.declared.headers.Shape.{Shape}
use Rattle.trie_words.specs.declared.headers.Shape.TheVariants as shape
use Rattle.lock_free.specs.declared.accounts.Account.{Account}
use Rattle.lock_free.specs.declared.accounts.Owned.{Owned}
use Rattle.lock_free.specs.declared.sizes.Sizes.{Sizes}
use Rattle.lock_free.specs.Accounts.{state_of, place_of, OwnIs, first, later}
use Rattle.lock_free.specs.Nodes.{Has, StandsAs, AreEntries, IsEntryOf, is_single, half_of, IsAhead, IsOver, SaysPrevious, decided, ahead, pending, failed, SaysShape, of_branch, of_tomb, of_list}
use Rattle.lock_free.specs.Nodes.{SaysHeader}
use Rattle.lock_free.specs.Making.{over_of, IsOverBy, shape_with, DraftsHeader, DraftsNode, owned_with, made_at, Makes}
use Rattle.lock_free.specs.Rules.{Standing}

-- ---- places

-- a place more leaves the others
pub place_else : (names : List ℕ) (name k : ℕ) → k ≢ length names → get_or (names ++ name ∷ []) k 0 ≡ get_or names k 0
place_else [] name zero other = absurd (other refl)
place_else [] name (suc k) other = refl
place_else (n ∷ ns) name zero other = refl
place_else (n ∷ ns) name (suc k) other = place_else ns name k (λ e. other (ap suc e))

pub place_last : (names : List ℕ) (name : ℕ) → get_or (names ++ name ∷ []) (length names) 0 ≡ name
place_last [] name = refl
place_last (n ∷ ns) name = place_last ns name

-- what is got stands there
pub got_in : {A : Type 0} (xs : List A) (n : ℕ) (x : A) → slice_get xs n ≡ Some x → Contains xs x
got_in [] n x e = absurd (none-some x e)
got_in (y ∷ ys) zero x e = subst (λ z. Contains (y ∷ ys) z) (same_Some y x e) (Contains-get_or (y ∷ ys) 0 y (omega arith))
got_in (y ∷ ys) (suc n) x e = Contains-append_right (y ∷ []) ys x (got_in ys n x e)

-- who owned what does so still
pub own_stays : (owned : List Owned) (k : ℕ) (own : Bool) (node : Node) (i m : ℕ) (b : Bool) → OwnIs owned i m b → OwnIs (owned_with owned k own node) i m b
own_stays owned k own (Indirection generation main) i m b h = later _ owned i m b h
own_stays owned k own (Branch bitmap entries) i m b h = h
own_stays owned k own (Single key value) i m b h = h
own_stays owned k own (Tomb single) i m b h = later _ owned i m b h
own_stays owned k own (Listed singles) i m b h = h

-- ---- which stand

abbrev pub stands_too : ℕ → Standing → Standing
stands_too k stands j = if j == k then true else stands j

pub stands_new : (k : ℕ) (stands : Standing) (j : ℕ) → j ≡ k → stands_too k stands j ≡ true
stands_new k stands j same = ap (λ b. if b then true else stands j) (eq-eqb j k same)

pub stands_else : (k : ℕ) (stands : Standing) (j : ℕ) → j ≢ k → stands_too k stands j ≡ stands j
stands_else k stands j other = ap (λ b. if b then true else stands j) (ne_eqb j k other)

still_true : (new stood : Bool) → stood ≡ true → (if new then true else stood) ≡ true
still_true true stood h = refl
still_true false stood h = h

-- what stood stands
pub stands_still : (k : ℕ) (stands : Standing) (j : ℕ) → stands j ≡ true → stands_too k stands j ≡ true
stands_still k stands j h = still_true (j == k) (stands j) h

abbrev pub is_undecided : Prev → Bool
is_undecided prev.None = false
is_undecided (prev.Pending p) = true
is_undecided (prev.Failed p) = true

pub is_pending : (q : Ref) → prev.Pending q ≡ prev.None → ⊥
is_pending q e = true≢false (ap is_undecided e)

pub is_failed : (q : Ref) → prev.Failed q ≡ prev.None → ⊥
is_failed q e = true≢false (ap is_undecided e)

module _ (sizes : Sizes) (account : Account) (actor : ℕ) (operation : Operation) (name : ℕ) (own : Bool) (node : Node) (more : ℕ)
    (makes : Makes sizes account (made_at actor name own node account) actor operation node more) where
  abbrev pub after : Account
  after = made_at actor name own node account

  abbrev pub K : ℕ
  K = length account.names

  abbrev now : State
  now = state_of sizes account

  abbrev next : State
  next = state_of sizes after

  pub same_place : (r : Ref) → slot_of r ≢ K → place_of after r ≡ place_of account r
  same_place r other = place_else account.names name (slot_of r) other

  refs_apart : (r : Ref) → Contains (refs_of_node node) r → slot_of r ≢ K
  refs_apart r c same = let low = makes.refs r c in absurd (omega (arith, low, same))

  pub same_node : (r : Ref) → slot_of r ≢ K → node_at next.heap r ≡ node_at now.heap r
  unfolding node_at stored
  same_node r other = ap node_of (makes.nodes (slot_of r) other)

  owns : (i m : ℕ) (b : Bool) → OwnIs account.owned i m b → OwnIs after.owned i m b
  owns i m b h = own_stays account.owned K own node i m b h

  -- ---- a node that stood

  entry_kept : (has : Has) (e : Ref) (half : ℕ) → slot_of e ≢ K → IsEntryOf account now.heap e half → IsEntryOf after next.heap e half
  entry_kept has e half other h = record {
    own = h.own;
    code = h.code ∙ ap (λ p. entry_code (record { slot = p; own = h.own; is_single = is_single (node_at now.heap e) })) (sym (same_place e other))
        ∙ ap (λ n. entry_code (record { slot = place_of after e; own = h.own; is_single = is_single n })) (sym (same_node e other));
  }

  entries_kept : (has : Has) (p : ℕ) (entries : List Ref) → ((e : Ref) → Contains entries e → slot_of e ≢ K) → AreEntries account now.heap has p entries → AreEntries after next.heap has p entries
  entries_kept has p entries others h position e at =
      let x = h position e at in (x.0, x.1, entry_kept has e (half_of x.0 position) (others e (got_in entries position e at)) x.2)

  over_kept : (k : ℕ) (slot : Slot) (q : Ref) (b : Bool) → get_or now.heap.slots k None ≡ Some slot → (slot.prev ≡ prev.None → ⊥) → IsOver account now k q b → IsOver after next k q b
  over_kept k slot q b at undecided h i e = elim (cases_eq (slot_of i) K) [
    | inl new ↦ absurd (undecided (makes.decided i new k slot at e))
    | inr other ↦ owns (slot_of i) (slot_of q) b (h i (ap (λ n. slot_of (main_of n)) (sym (same_node i other)) ∙ e))
  ]

  no_ahead : (k : ℕ) → k ≢ K → ((i a f : Ref) → IsAhead now i a f → slot_of f ≡ k → ⊥) → (i a f : Ref) → IsAhead next i a f → slot_of f ≡ k → ⊥
  no_ahead k other none i a f h its = elim (makes.aheads i a f h) [
    | inl before ↦ none i a f before its
    | inr new ↦ other (sym its ∙ new.1)
  ]

  previous_by : (k : ℕ) → k ≢ K → (p : Prev) (says : Previous) → ((q : Ref) → Contains (refs_of_prev p) q → slot_of q ≢ K) →
      ((q : Ref) (b : Bool) → (p ≡ prev.None → ⊥) → IsOver account now k q b → IsOver after next k q b) →
      SaysPrevious account now k p says → SaysPrevious after next k p says
  previous_by k other p says refs over (decided none) = decided (no_ahead k other none)
  previous_by k other p says refs over (ahead i a f b h its is) =
      subst (λ n. SaysPrevious after next k prev.None (previous.Pending (record { slot = n; own = b }))) (same_place a (makes.names_not.aheads i a f h).1)
      (ahead i a f b (makes.still i a f h) its (owns (slot_of i) (slot_of a) b is))
  previous_by k other p says refs over (pending q b h) =
      subst (λ n. SaysPrevious after next k (prev.Pending q) (previous.Pending (record { slot = n; own = b }))) (same_place q (refs q (Contains-get_or (q ∷ []) 0 q (omega arith))))
      (pending q b (over q b (is_pending q) h))
  previous_by k other p says refs over (failed q b h) =
      subst (λ n. SaysPrevious after next k (prev.Failed q) (previous.Failed (record { slot = n; own = b }))) (same_place q (refs q (Contains-get_or (q ∷ []) 0 q (omega arith))))
      (failed q b (over q b (is_failed q) h))

  shape_kept : (k : ℕ) (n : Node) (says : Shape) → ((r : Ref) → Contains (refs_of_node n) r → slot_of r ≢ K) → SaysShape account k n says → SaysShape after k n says
  shape_kept k n says refs (of_branch bitmap entries) = of_branch bitmap entries
  shape_kept k n says refs (of_tomb single b is) =
      subst (λ p. SaysShape after k (Tomb single) (shape.Tomb (record { slot = p; own = b; is_single = true })))
      (same_place single (refs single (Contains-get_or (single ∷ []) 0 single (omega arith))))
      (of_tomb single b (owns k (slot_of single) b is))
  shape_kept k n says refs (of_list singles) = of_list singles

  node_refs : (k : ℕ) (slot : Slot) → get_or now.heap.slots k None ≡ Some slot → (r : Ref) → Contains (refs_of_node slot.node) r → slot_of r ≢ K
  node_refs k slot at r c = makes.names_not.nodes k slot at r (Contains-append_left (refs_of_node slot.node) (refs_of_prev slot.prev) r c)

  prev_refs : (k : ℕ) (slot : Slot) → get_or now.heap.slots k None ≡ Some slot → (r : Ref) → Contains (refs_of_prev slot.prev) r → slot_of r ≢ K
  prev_refs k slot at r c = makes.names_not.nodes k slot at r (Contains-append_right (refs_of_node slot.node) (refs_of_prev slot.prev) r c)

  header_kept : (k : ℕ) (slot : Slot) (word : ℕ) → k ≢ K → get_or now.heap.slots k None ≡ Some slot → SaysHeader account now k slot word → SaysHeader after next k slot word
  header_kept k slot word other at h = record {
    previous = h.previous;
    is_previous = previous_by k other slot.prev h.previous (prev_refs k slot at) (λ q b undecided over. over_kept k slot q b at undecided over) h.is_previous;
    shape = h.shape;
    is_shape = shape_kept k slot.node h.shape (node_refs k slot at) h.is_shape;
    code = h.code;
  }

  -- a node that stood stands as before
  pub stood_stands : (has : Has) (p k : ℕ) (slot : Slot) (n : Node) → k ≢ K → get_or now.heap.slots k None ≡ Some slot → n ≡ slot.node → StandsAs account now has p k slot n →
      StandsAs after next has p k slot n
  stood_stands has p k slot (Indirection generation main) other at is h = (
    h.0,
    (
      h.1.0,
      owns k (slot_of main) h.1.0 h.1.1,
      subst (λ q. has (2 * p) (link_code (record { generation = generation; main = record { slot = q; own = h.1.0 } })))
          (sym (same_place main (node_refs k slot at main (subst (λ m. Contains (refs_of_node m) main) is (Contains-get_or (main ∷ []) 0 main (omega arith)))))) h.1.2,
    ),
  )
  stood_stands has p k slot (Single key value) other at is h = h
  stood_stands has p k slot (Branch bitmap entries) other at is h =
      ((h.0.0, h.0.1, header_kept k slot h.0.0 other at h.0.2), entries_kept has p entries.items (λ e c. node_refs k slot at e (subst (λ m. Contains (refs_of_node m) e) is c)) h.1)
  stood_stands has p k slot (Tomb single) other at is h = (h.0, h.1, header_kept k slot h.0 other at h.2)
  stood_stands has p k slot (Listed singles) other at is h =
      ((h.0.0, h.0.1, header_kept k slot h.0.0 other at h.0.2), entries_kept has p singles.items (λ e c. node_refs k slot at e (subst (λ m. Contains (refs_of_node m) e) is c)) h.1)

  -- ---- the new one

  new_previous : (over : Option (Ref × Ref)) (says : Previous) → over_of operation.line ≡ over → IsOverBy account over says → SaysPrevious after next K prev.None says
  new_previous None says is h = subst (λ x. SaysPrevious after next K prev.None x) (sym h) (decided (λ i a f ahead its. elim (makes.aheads i a f ahead) [
    | inl before ↦ (makes.names_not.aheads i a f before).2 its
    | inr new ↦ none-some (i, a) (sym is ∙ new.0)
  ]))
  new_previous (Some over) says is h =
      let n = makes.next over.0 over.1 is in
      subst (λ x. SaysPrevious after next K prev.None x) (sym h.2)
      (subst (λ p. SaysPrevious after next K prev.None (previous.Pending (record { slot = p; own = h.0 }))) (same_place over.1 n.0)
      (ahead over.0 over.1 n.1.0 h.0 n.1.2 n.1.1 (owns (slot_of over.0) (slot_of over.1) h.0 h.1)))

  new_shape : (n : Node) (says : Shape) → n ≡ node → shape_with account own n ≡ Some says → SaysShape after K n says
  new_shape (Branch bitmap entries) says is h = subst (λ x. SaysShape after K (Branch bitmap entries) x) (same_Some (shape.Branch bitmap) says h) (of_branch bitmap entries)
  new_shape (Tomb single) says is h =
      subst (λ x. SaysShape after K (Tomb single) x) (same_Some (shape.Tomb (record { slot = place_of account single; own = own; is_single = true })) says h)
      (subst (λ p. SaysShape after K (Tomb single) (shape.Tomb (record { slot = p; own = own; is_single = true })))
      (same_place single (refs_apart single (subst (λ m. Contains (refs_of_node m) single) is (Contains-get_or (single ∷ []) 0 single (omega arith)))))
      (of_tomb single own (subst (λ m. OwnIs (owned_with account.owned K own m) K (slot_of single) own) is (first _ account.owned))))
  new_shape (Listed singles) says is h = subst (λ x. SaysShape after K (Listed singles) x) (same_Some (shape.List (length singles.items)) says h) (of_list singles)
  new_shape (Indirection generation main) says is h = absurd (none-some says h)
  new_shape (Single key value) says is h = absurd (none-some says h)

  new_header : (n : Node) (word : ℕ) → n ≡ node → DraftsHeader account (over_of operation.line) own n word → SaysHeader after next K makes.made word
  new_header n word is h = record {
    previous = h.previous;
    is_previous = subst (λ p. SaysPrevious after next K p h.previous) (sym makes.prev_is) (new_previous (over_of operation.line) h.previous refl h.is_previous);
    shape = h.shape;
    is_shape = subst (λ m. SaysShape after K m h.shape) (is ∙ sym makes.node_is) (new_shape n h.shape is h.is_shape);
    code = h.code;
  }

  -- it stands where it was written
  pub new_stands : (has : Has) (n : Node) → n ≡ node → DraftsNode account now.heap (over_of operation.line) has name own n → StandsAs after next has name K makes.made n
  new_stands has (Indirection generation main) is h = (
    h.0,
    (
      own,
      subst (λ m. OwnIs (owned_with account.owned K own m) K (slot_of main) own) is (first _ account.owned),
      subst (λ q. has (2 * name) (link_code (record { generation = generation; main = record { slot = q; own = own } })))
          (sym (same_place main (refs_apart main (subst (λ m. Contains (refs_of_node m) main) is (Contains-get_or (main ∷ []) 0 main (omega arith)))))) h.1,
    ),
  )
  new_stands has (Single key value) is h = h
  new_stands has (Branch bitmap entries) is h =
      ((h.0.0, h.0.1, new_header (Branch bitmap entries) h.0.0 is h.0.2), entries_kept has name entries.items (λ e c. refs_apart e (subst (λ m. Contains (refs_of_node m) e) is c)) h.1)
  new_stands has (Tomb single) is h = (h.0, h.1, new_header (Tomb single) h.0 is h.2)
  new_stands has (Listed singles) is h =
      ((h.0.0, h.0.1, new_header (Listed singles) h.0.0 is h.0.2), entries_kept has name singles.items (λ e c. refs_apart e (subst (λ m. Contains (refs_of_node m) e) is c)) h.1)
