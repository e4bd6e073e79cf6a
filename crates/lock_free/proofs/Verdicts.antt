-- The exchange of a header decides a main node that is pending still, and no other.
use Rattle.std.proofs.Common.{◌≡◌, ◌≢◌, ◌*◌, ℕ, inl, inr, Bool, true, false, [], ◌∷◌, Contains, get_or, length, Option, Some, None, refl, sym, ap, subst, ◌∙◌, arith, if◌then◌else◌, eq-eqb}
use Rattle.std.proofs.lemmas.Bool.{true≢false}
use Rattle.std.proofs.lemmas.List.Elements.{Contains-get_or, Contains-append_left}
use Rattle.std.proofs.lemmas.Option.{same_Some}
use Rattle.trie_words.specs.Codes.{IsHeader, IsName, IsPrevious, header_code, previous_code}
use Rattle.trie_words.specs.declared.headers.Header.{Header}
use Rattle.trie_words.specs.declared.headers.Previous.{Previous}
use Rattle.trie_words.specs.declared.headers.Previous.TheVariants as previous
use Rattle.trie_words.specs.declared.headers.Shape.{Shape}
use Rattle.trie_words.specs.declared.headers.Shape.TheVariants as shape
use Rattle.trie_words.specs.declared.names.Name.{Name}
use Rattle.trie_words.proofs.Parts.{name_small}
use Rattle.machine_model.specs.Beneath.slot_arena.specs.declared.refs.Ref.{Ref}
use Rattle.machine_model.specs.Beneath.slot_arena.specs.declared.nodes.Node.{Node}
use Rattle.machine_model.specs.Beneath.slot_arena.specs.declared.nodes.Node.TheVariants.{Indirection, Branch, Single, Tomb, List as Listed}
use Rattle.machine_model.specs.Beneath.slot_arena.specs.declared.nodes.Prev.{Prev}
use Rattle.machine_model.specs.Beneath.slot_arena.specs.declared.nodes.Prev.TheVariants as prev
use Rattle.machine_model.specs.Beneath.slot_arena.specs.declared.nodes.Slot.{Slot}
use Rattle.machine_model.specs.Beneath.slot_arena.specs.Heaps.{stored, prev_at, prev_of, main_at, refs_of_node, refs_of_prev, refs_of_slot}
use Rattle.machine_model.specs.Beneath.slot_arena.specs.Refs.{slot_of}
use Rattle.machine_model.specs.declared.actions.Action.TheVariants as act
use Rattle.machine_model.specs.declared.operations.Operation.{Operation}
use Rattle.machine_model.specs.Reading.{is_licensed, is_pending}
use Rattle.machine_model.specs.States.{State}
use Rattle.proof_memory.specs.Laws.{SameNode}
use Rattle.proof_memory.specs.Wants.{is_main_node}
use Rattle.lock_free.specs.declared.accounts.Account.{Account}
use Rattle.lock_free.specs.declared.rules.View.{View}
use Rattle.lock_free.specs.Accounts.{state_of, place_of, OwnIs, running}
use Rattle.lock_free.specs.Deciding.{Decides}
use Rattle.lock_free.specs.Exchanging.{IsPendingOver}
use Rattle.lock_free.specs.Live.{from_slot}
use Rattle.lock_free.specs.Loading.{Moment, IsAt}
use Rattle.lock_free.specs.Nodes.{IsAhead, IsOver, SaysPrevious, decided, ahead, pending, failed, SaysShape, of_branch, of_tomb, of_list, SaysHeader}
use Rattle.lock_free.specs.Steps.{Reads}
use Rattle.lock_free.proofs.Asked.{decides_or_not, nodes_stay}
use Rattle.lock_free.proofs.Decided.{failed_pending, none_pending, same_pending}
use Rattle.lock_free.proofs.Looking.{main_there, header_at, o_there, acts_there}
use Rattle.lock_free.proofs.Moments.{IsThere, its_place, live_place, still_own, seat}

-- ---- what a main node is stays

pub main_same : (before after : Node) → SameNode before after → is_main_node after ≡ true → after ≡ before
main_same (Indirection generation main) after same is = absurd (true≢false (sym is ∙ ap is_main_node same.1))
main_same (Branch bitmap entries) after same is = same.1
main_same (Single key value) after same is = same.1
main_same (Tomb single) after same is = same.1
main_same (Listed singles) after same is = same.1

abbrev ShapeIs : Account → ℕ → Node → Shape → Type 0
ShapeIs account k (Branch bitmap entries) s = s ≡ shape.Branch bitmap
ShapeIs account k (Tomb single) s = (own : Bool) × OwnIs account.owned k (slot_of single) own × (s ≡ shape.Tomb (record { slot = place_of account single; own = own; is_single = true }))
ShapeIs account k (Listed singles) s = s ≡ shape.List (length singles.items)
ShapeIs account k node s = ⊥

shape_is : (account : Account) (k : ℕ) (n : Node) (s : Shape) → SaysShape account k n s → ShapeIs account k n s
shape_is account k n s (of_branch bitmap entries) = refl
shape_is account k n s (of_tomb single own is) = (own, is, refl)
shape_is account k n s (of_list singles) = refl

-- one shape is said of it, where places stay and whose own its single is
same_shape : (a b : Account) (k : ℕ) (n : Node) (x y : Shape) → ((r : Ref) → Contains (refs_of_node n) r → place_of a r ≡ place_of b r) →
    ((m : ℕ) (c d : Bool) → OwnIs a.owned k m c → OwnIs b.owned k m d → c ≡ d) → ShapeIs a k n x → ShapeIs b k n y → x ≡ y
same_shape a b k (Branch bitmap entries) x y places owns p q = p ∙ sym q
same_shape a b k (Tomb single) x y places owns (c, cs, p) (d, ds, q) =
    p ∙ ap (λ n. shape.Tomb (record { slot = n; own = c; is_single = true })) (places single (Contains-get_or (single ∷ []) 0 single (omega arith)))
    ∙ ap (λ own. shape.Tomb (record { slot = place_of b single; own = own; is_single = true })) (owns (slot_of single) c d cs ds) ∙ sym q
same_shape a b k (Listed singles) x y places owns p q = p ∙ sym q
same_shape a b k (Indirection generation main) x y places owns p q = absurd p
same_shape a b k (Single key value) x y places owns p q = absurd p

-- ---- what is said of a main node that is pending, or isn't

pub pending_says : (account : Account) (state : State) (k : ℕ) (p : Prev) (says : Previous) (r : Ref) → p ≡ prev.Pending r → SaysPrevious account state k p says →
    (own : Bool) × IsOver account state k r own × (says ≡ previous.Pending (record { slot = place_of account r; own = own }))
pending_says account state k p says r is (decided nobody) = absurd (none_pending r is)
pending_says account state k p says r is (ahead i a f own h its owned) = absurd (none_pending r is)
pending_says account state k p says r is (pending q own over) =
    (own, subst (λ x. IsOver account state k x own) (same_pending q r is) over, ap (λ x. previous.Pending (record { slot = place_of account x; own = own })) (same_pending q r is))
pending_says account state k p says r is (failed q own over) = absurd (failed_pending q r is)

-- the code of a pending one is no other's
other_code : (account : Account) (state : State) (k : ℕ) (p : Prev) (says : Previous) (name : Name) → IsName name → ((r : Ref) → p ≡ prev.Pending r → ⊥) →
    ((j a f : Ref) → IsAhead state j a f → slot_of f ≢ k) → SaysPrevious account state k p says →
    previous_code says ≢ previous_code (previous.Pending name)
other_code account state k p says name fits over nobody (decided h) e = absurd (omega (arith, e))
other_code account state k p says name fits over nobody (ahead i a f own h its owned) e = nobody i a f h its
other_code account state k p says name fits over nobody (pending q own x) e = over q refl
other_code account state k p says name fits over nobody (failed q own x) e = let small = name_small name fits in absurd (omega (arith, e, small))

pub prev_is : (state : State) (r : Ref) (slot : Slot) → get_or state.heap.slots (slot_of r) None ≡ Some slot → prev_at state.heap r ≡ slot.prev
unfolding prev_at stored
prev_is state r slot is = ap prev_of is

not_pending : (p : Prev) (r : Ref) → ((q : Ref) → p ≡ prev.Pending q → ⊥) → is_pending p r ≡ false
not_pending prev.None r nobody = refl
not_pending (prev.Failed q) r nobody = refl
not_pending (prev.Pending q) r nobody = absurd (nobody q refl)

module _ (v : View) (word found : ℕ) (m : Moment v word found) (i main replaced : Ref) (told : Option ℕ) (p : IsAt v (act.Decide i main replaced told)) (its_word : word ≡ 2 * place_of v.account main)
    (header : Header) (fits : IsHeader header) (over : IsPendingOver v i main replaced header) where
  abbrev account : Account
  account = m.kept.account

  abbrev state : State
  state = state_of v.sizes account

  abbrev pub o : Operation
  o = record p.operation { is_marked = (o_there v word found m (act.Decide i main replaced told) p).0 }

  pub runs : running v.sizes account v.actor o
  runs = (o_there v word found m (act.Decide i main replaced told) p).1

  pub main_is : (h : IsThere v m.table m.kept m.id m.at main) × (is_main_node h.slot.node ≡ true)
  main_is = main_there v word found m (act.Decide i main replaced told) main (Contains-get_or (main ∷ replaced ∷ []) 0 main (omega arith)) p

  abbrev slot : Slot
  slot = main_is.0.slot

  former_is : IsThere v m.table m.kept m.id m.at replaced
  former_is = (main_there v word found m (act.Decide i main replaced told) replaced (Contains-get_or (main ∷ replaced ∷ []) 1 main (omega arith)) p).0

  same_node : slot.node ≡ over.slot.node
  same_node =
      let later = nodes_stay v.sizes v.actor v.account account (seat v m.table m.kept m.id m.at).waited m.kept.bounds (slot_of main) over.slot over.stores in
      let is = same_Some slot later.0 (sym main_is.0.used ∙ later.1) in
      main_same over.slot.node slot.node (subst (λ (x : Slot). SameNode over.slot.node x.node) (sym is) later.2) main_is.1

  places : (r : Ref) → Contains (refs_of_node slot.node) r → place_of account r ≡ place_of v.account r
  unfolding stored
  places r c =
      live_place v m.table m.kept m.id m.at r
      (from_slot main r main_is.0.was_live (subst (λ x. Contains (refs_of_slot x) r) (sym over.stores)
      (Contains-append_left (refs_of_node over.slot.node) (refs_of_prev over.slot.prev) r (subst (λ n. Contains (refs_of_node n) r) same_node c))))

  -- it is what the header says
  pub shape_now : (s : Shape) → SaysShape account (slot_of main) slot.node s → s ≡ header.shape
  shape_now s h =
      same_shape account v.account (slot_of main) slot.node s header.shape places
      (λ k c d x y. m.kept.nodes.owners.once (slot_of main) k c d x (still_own v m.table m.kept m.id m.at (slot_of main) k d y)) (shape_is account (slot_of main) slot.node s h)
      (subst (λ n. ShapeIs v.account (slot_of main) n header.shape) (sym same_node) (shape_is v.account (slot_of main) over.slot.node header.shape over.is_shape))

  -- what is said while it is pending
  pub previous_now : (says : Previous) → slot.prev ≡ prev.Pending replaced → main_at state.heap i ≡ main → SaysPrevious account state (slot_of main) slot.prev says → says ≡ header.previous
  previous_now says is stands h =
      let x = pending_says account state (slot_of main) slot.prev says replaced is h in
      let own = m.kept.nodes.owners.once (slot_of i) (slot_of replaced) x.0 over.name.own (x.1 i (ap slot_of stands))
      (still_own v m.table m.kept m.id m.at (slot_of i) (slot_of replaced) over.name.own over.names.is_own) in
      x.2 ∙ ap (λ n. previous.Pending (record { slot = n; own = x.0 })) (its_place v m.table m.kept m.id m.at replaced former_is ∙ over.names.place)
      ∙ ap (λ b. previous.Pending (record { slot = over.name.slot; own = b })) own ∙ sym over.says

  says_now : SaysHeader account state (slot_of main) slot found
  says_now = header_at v word found m main main_is.0 main_is.1 its_word

  hit : slot.prev ≡ prev.Pending replaced → main_at state.heap i ≡ main → found ≡ header_code header
  hit is stands =
      says_now.code ∙ ap (λ x. header_code (record { previous = x; shape = says_now.shape })) (previous_now says_now.previous is stands says_now.is_previous)
      ∙ ap (λ x. header_code (record { previous = header.previous; shape = x })) (shape_now says_now.shape says_now.is_shape)

  miss : ((q : Ref) → slot.prev ≡ prev.Pending q → ⊥) → ((j a f : Ref) → IsAhead state j a f → slot_of f ≢ slot_of main) → found ≢ header_code header
  miss nobody alone e =
      let same : header_code (record { previous = says_now.previous; shape = header.shape }) ≡ header_code (record { previous = header.previous; shape = header.shape }) =
      ap (λ x. header_code (record { previous = says_now.previous; shape = x })) (sym (shape_now says_now.shape says_now.is_shape)) ∙ sym says_now.code ∙ e in
      let codes : previous_code says_now.previous ≡ previous_code header.previous = omega (arith, same) in
      other_code account state (slot_of main) slot.prev says_now.previous over.name (subst IsPrevious over.says fits.0) nobody alone says_now.is_previous (codes ∙ ap previous_code over.says)

  -- either it was pending, and its header was this one, or it wasn't
  pub data Case : Type 0 where
    was_pending : (d : Decides v.sizes account v.actor o main replaced) → d.verdict ≡ (if is_licensed state.heap i told then prev.None else prev.Failed replaced) → d.slot ≡ slot →
        main_at state.heap i ≡ main →
        found ≡ header_code header → is_pending (prev_at state.heap main) replaced ≡ true → Case
    was_decided : Reads v.sizes account v.actor o → found ≢ header_code header → is_pending (prev_at state.heap main) replaced ≡ false → Case

  pub case_is : Case
  case_is = elim (decides_or_not v.sizes account m.kept.bounds v.actor o runs i main replaced told (acts_there v word found m (act.Decide i main replaced told) p)) [
    | inl x ↦
        (let same = same_Some x.0.slot slot (sym x.0.is ∙ main_is.0.used) in
        let is = ap (λ (z : Slot). z.prev) (sym same) ∙ x.0.pending in
        was_pending x.0 x.1 same x.2 (hit is x.2) (ap (λ z. is_pending z replaced) (prev_is state main slot main_is.0.used ∙ is) ∙ eq-eqb replaced replaced refl))
    | inr x ↦
        (let at = prev_is state main slot main_is.0.used in
        was_decided x.0 (miss (λ q e. x.1 q (at ∙ e)) x.2) (ap (λ z. is_pending z replaced) at ∙ not_pending slot.prev replaced (λ q e. x.1 q (at ∙ e))))
  ]
