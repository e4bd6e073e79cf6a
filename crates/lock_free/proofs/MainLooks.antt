-- KEY's look at a main node.
use Rattle.std.proofs.Common.{ltb-true, count_ones, ◌≡◌, ◌<◌, ◌^◌, ◌*◌, ℕ, Bool, true, false, List, [], ◌∷◌, Contains, Some, refl, sym, ap, subst, ◌∙◌, arith, if◌then◌else◌}
use Rattle.std.proofs.lemmas.Bool.{le-leb}
use Rattle.std.proofs.lemmas.List.Elements.{Contains-append_left, Contains-get_or}
use Rattle.trie_words.specs.Codes.{IsShape}
use Rattle.trie_words.specs.declared.entries.Entry.{Entry}
use Rattle.trie_words.specs.declared.headers.Header.{Header}
use Rattle.trie_words.specs.declared.headers.Shape.{Shape}
use Rattle.trie_words.specs.declared.headers.Shape.TheVariants as shape
use Rattle.machine_model.specs.Beneath.ctrie_base.specs.Paths.{index_at, position_of}
use Rattle.machine_model.specs.Beneath.slot_arena.specs.declared.refs.Ref.{Ref}
use Rattle.machine_model.specs.Beneath.slot_arena.specs.declared.nodes.Node.{Node}
use Rattle.machine_model.specs.Beneath.slot_arena.specs.declared.nodes.Node.TheVariants.{Branch, Tomb, List as Listed}
use Rattle.machine_model.specs.Beneath.slot_arena.specs.Heaps.{no_ref, node_at, refs_of_node, refs_of_slot, refs_of_prev}
use Rattle.machine_model.specs.Beneath.slot_arena.specs.declared.nodes.Slot.{Slot}
use Rattle.machine_model.specs.Beneath.slot_arena.specs.Refs.{slot_of}
use Rattle.machine_model.specs.declared.finding.KeyLine.TheVariants as key
use Rattle.machine_model.specs.declared.lines.Line.{Line}
use Rattle.machine_model.specs.declared.lines.Line.TheVariants as line
use Rattle.machine_model.specs.declared.operations.Operation.{Operation}
use Rattle.machine_model.specs.Finding.{absent, key_after_main}
use Rattle.machine_model.specs.Calls.{key_of}
use Rattle.machine_model.specs.Beneath.ctrie_base.specs.Hashes.{hash_of}
use Rattle.machine_model.specs.Paths.{depth_of, flag_in}
use Rattle.machine_model.specs.States.{State}
use Rattle.nodes.specs.Levels.{has_flag}
use Rattle.proof_memory.specs.Wants.{is_list, is_main_node, flag_on}
use Rattle.proof_memory.proofs.Claims.Uses.{safe_of, meets_of}
use Rattle.proof_memory.proofs.Heap.Ones.{ones_most}
use Rattle.proof_memory.proofs.Lines.Shared.{position_within}
use Rattle.lock_free.specs.declared.accounts.Account.{Account}
use Rattle.lock_free.specs.declared.finding.Turn.{Turn}
use Rattle.lock_free.specs.declared.finding.Turn.TheVariants as turn
use Rattle.lock_free.specs.declared.rules.View.{View}
use Rattle.lock_free.specs.Accounts.{place_of}
use Rattle.lock_free.specs.GoingDown.{IsAtKey, HasMoved, IsAtMain, line_at, Tells, HasTurned}
use Rattle.lock_free.specs.Loading.{now, seen, Runs, Stores, IsUsed, IsSound, Went, HasHeader, HasLookedAtMain}
use Rattle.lock_free.specs.Nodes.{SaysShape, of_branch, of_tomb, of_list}
use Rattle.lock_free.specs.Places.{words_of}
use Rattle.lock_free.proofs.Asked.{live_in_use}
use Rattle.lock_free.proofs.GivenBack.{node_is}
use Rattle.lock_free.proofs.KeyMoves.{hash_is}
use Rattle.lock_free.proofs.OnLines.{line_is, at_look, finds_now, moved}
use Rattle.lock_free.proofs.Laters.{went_later}

-- ---- what a header says the main node is

abbrev pub kind_in : Shape → ℕ
kind_in (shape.Branch bitmap) = 0
kind_in (shape.Tomb entry) = 1
kind_in (shape.List count) = 2

abbrev slot_in : Shape → ℕ
slot_in (shape.Tomb entry) = entry.slot
slot_in s = 0

abbrev bitmap_in : Shape → ℕ
bitmap_in (shape.Branch bitmap) = bitmap
bitmap_in s = 0

module _ (account : Account) (k : ℕ) where
  pub branch_says : (n : Node) (s : Shape) (bitmap : ℕ) → s ≡ shape.Branch bitmap → SaysShape account k n s → (entries : _) × (n ≡ Branch bitmap entries)
  branch_says n s bitmap e (of_branch b entries) = (entries, ap (λ x. Branch (bitmap_in x) entries) e)
  branch_says n s bitmap e (of_tomb single own is) = absurd (omega (arith, (ap kind_in e)))
  branch_says n s bitmap e (of_list singles) = absurd (omega (arith, (ap kind_in e)))

  pub tomb_says : (n : Node) (s : Shape) (entry : Entry) → s ≡ shape.Tomb entry → SaysShape account k n s → (single : Ref) × (n ≡ Tomb single) × (place_of account single ≡ entry.slot)
  tomb_says n s entry e (of_branch b entries) = absurd (omega (arith, (ap kind_in e)))
  tomb_says n s entry e (of_tomb single own is) = (single, refl, ap slot_in e)
  tomb_says n s entry e (of_list singles) = absurd (omega (arith, (ap kind_in e)))

  pub list_says : (n : Node) (s : Shape) (count : ℕ) → s ≡ shape.List count → SaysShape account k n s → (singles : _) × (n ≡ Listed singles)
  list_says n s count e (of_branch b entries) = absurd (omega (arith, (ap kind_in e)))
  list_says n s count e (of_tomb single own is) = absurd (omega (arith, (ap kind_in e)))
  list_says n s count e (of_list singles) = (singles, refl)

-- ---- the step

-- an operation is at one main node, by one path
abbrev place_in : Line → List Ref × Ref
place_in (line.Key (key.Main path main)) = (path, main)
place_in l = ([], no_ref)

module _ (n m : ℕ) (before after : View) (sound : IsSound n before) (last : IsSound m after) (name flag : ℕ) (is_at : IsAtMain before name flag) (header : Header) (g : HasLookedAtMain before
    header after) where
  abbrev path : List Ref
  path = is_at.0

  abbrev main : Ref
  main = is_at.1

  abbrev at : IsAtKey before (key.Main path main)
  at = is_at.2

  abbrev w : Went before after
  w = g.0

  abbrev account : Account
  account = w.account

  abbrev state : State
  state = now (seen before account)

  at_then : IsAtKey (seen before account) (key.Main path main)
  at_then = let there = w.waited.stays (record at.0 { is_marked = at.1.0 }) at.1.1 in (at.0, (there.0, there.1), at.2)

  h : HasHeader account state main header
  h =
      let claims = finds_now (seen before account) (line.Key (key.Main path main)) at_then (words_of before.sizes) w.waited.sound in
      let slot = live_in_use before.sizes account w.waited.sound.bounds main (safe_of claims.1.1.0) in
      (g.1 main (at_look before (line.Key (key.Main path main)) at main (λ o. refl))).0 slot.0 slot.1 (subst (λ x. is_main_node x ≡ true) (node_is state main slot.0 slot.1) (meets_of claims.1.1.0))

  comes_by : (node : Node) (next : Operation → Line) → h.slot.node ≡ node → ((o : Operation) (mark : Bool) → Runs before o → key_after_main state (record o { is_marked = mark }) path main node ≡
      next o) → HasMoved next before after
  comes_by node next is by =
      moved before (line.Key (key.Main path main)) at after (went_later n before sound m after last w) w main next (λ o. refl) (λ o. refl)
      (λ o mark runs. ap (key_after_main state (record o { is_marked = mark }) path main) (node_is state main h.slot h.stores ∙ is) ∙ by o mark runs)

  flag_is : (o : Operation) → Runs before o → flag_in state o path ≡ flag
  flag_is o runs = ap (λ k. flag_on k o.call path) (hash_is before.sizes account) ∙ sym (is_at.4 o runs)

  abbrev by_flag : ℕ → ℕ → Operation → Line
  by_flag bitmap f o = if has_flag bitmap f then line.Key (key.Entry path main (position_of f bitmap)) else absent o path main

  -- it is at no other one
  elsewhere : (t : Turn) → HasMoved (line_at path main t) before after → Tells after main t → HasTurned before t after
  elsewhere t moves tells p q other =
      let same = ap place_in (sym (line_is before (line.Key (key.Main path main)) at other.0 other.1) ∙ other.2) in
      subst (λ (x : List Ref × Ref). HasMoved (line_at x.0 x.1 t) before after × Tells after x.1 t) same (moves, tells)

  -- what stood there stands there after the step
  stays : (r : Ref) (slot : Slot) → Stores state r slot → IsUsed after r slot
  stays r slot is = (g.1 main (at_look before (line.Key (key.Main path main)) at main (λ o. refl))).1 (slot_of r) ∙ is

  main_after : node_at (now after).heap main ≡ h.slot.node
  main_after = node_is (now after) main h.slot (stays main h.slot h.stores)

  module _ (bitmap : ℕ) (e : header.shape ≡ shape.Branch bitmap) where
    says : (entries : _) × (h.slot.node ≡ Branch bitmap entries)
    says = branch_says account (slot_of main) h.slot.node header.shape bitmap e h.is_shape

    pub enters : (position : ℕ) → position ≡ position_of flag bitmap → has_flag bitmap flag ≡ true → HasTurned before (turn.Entry position) after
    enters position is has =
        elsewhere (turn.Entry position) (comes_by (Branch bitmap says.0) (line_at path main (turn.Entry position)) says.1
        (λ o mark runs.
        ap (λ f. by_flag bitmap f o) (flag_is o runs) ∙ ap (λ (b : Bool). if b then line.Key (key.Entry path main (position_of flag bitmap)) else absent o path main) has
        ∙ ap (λ p. line.Key (key.Entry path main p)) (sym is))) tt

    pub within : (position : ℕ) → position ≡ position_of flag bitmap → has_flag bitmap flag ≡ true → position < 32
    within position is has =
        let index = index_at (hash_of before.sizes.hash (key_of at.0.call)) (5 * depth_of path) in
        let flag_so : flag ≡ 2 ^ index = is_at.4 at.0 at.1 in
        let small : bitmap < 2 ^ 32 = subst IsShape e h.fits.1 in
        let low = position_within bitmap index 32 (subst (λ f. has_flag bitmap f ≡ true) flag_so has) (le-leb (count_ones bitmap) 32 (ones_most bitmap small)) in
        subst (λ p. p < 32) (ap (λ f. position_of f bitmap) (sym flag_so) ∙ sym is) (ltb-true (position_of (2 ^ index) bitmap) 32 low)

    pub finds_none : has_flag bitmap flag ≡ false → HasTurned before turn.Absent after
    finds_none has =
        elsewhere turn.Absent (comes_by (Branch bitmap says.0) (line_at path main turn.Absent) says.1
        (λ o mark runs.
        ap (λ f. by_flag bitmap f o) (flag_is o runs) ∙ ap (λ (b : Bool). if b then line.Key (key.Entry path main (position_of flag bitmap)) else absent o path main) has)) tt

  pub at_tomb : (entry : Entry) → header.shape ≡ shape.Tomb entry → HasTurned before (turn.Tomb entry.slot) after
  at_tomb entry e =
      let says = tomb_says account (slot_of main) h.slot.node header.shape entry e h.is_shape in
      let names : Contains (refs_of_slot (Some h.slot)) says.0 =
      Contains-append_left (refs_of_node h.slot.node) (refs_of_prev h.slot.prev) says.0
      (subst (λ x. Contains (refs_of_node x) says.0) (sym says.1) (Contains-get_or (says.0 ∷ []) 0 says.0 (omega arith))) in
      let used = h.used says.0 names in
      elsewhere (turn.Tomb entry.slot) (comes_by (Tomb says.0) (line_at path main (turn.Tomb entry.slot)) says.1 (λ o mark runs. refl))
      (says.0, main_after ∙ says.1, ((used.0, stays says.0 used.0 used.1), ap (λ (x : View). place_of x.account says.0) w.after_is ∙ says.2))

  pub at_list : (count : ℕ) → header.shape ≡ shape.List count → HasTurned before turn.List after
  at_list count e =
      let says = list_says account (slot_of main) h.slot.node header.shape count e h.is_shape in
      elsewhere turn.List (comes_by (Listed says.0) (line_at path main turn.List) says.1 (λ o mark runs. refl)) (ap is_list (main_after ∙ says.1))
