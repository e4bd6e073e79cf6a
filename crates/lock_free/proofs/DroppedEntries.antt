-- What BUILD's main node doesn't name of the one before: the entry that another one takes the place of, or that is taken out.
use Rattle.std.proofs.Common.{◌≡◌, ◌≢◌, ◌+◌, ◌<◌, ◌≤◌, ◌==◌, ◌∷◌, [], ℕ, true, List, Contains, ◌++◌, cond, drop, get_or, insert}
use Rattle.std.proofs.Common.{length, length-append, length-set, remove, slice_set, take, take_all, refl, sym, ap, subst, ◌∙◌, arith, eq-eqb, ne_eqb}
use Rattle.std.proofs.lemmas.Bool.{true≢false}
use Rattle.std.proofs.lemmas.List.{take-append-drop}
use Rattle.std.proofs.lemmas.List.Edits.{length-remove}
use Rattle.std.proofs.lemmas.List.Elements.{Contains-append_left, Contains-get_or}
use Rattle.std.proofs.lemmas.List.Sums.{sum_by-insert, sum_by-remove, sum_by-set}
use Rattle.trie_words.specs.declared.entries.Entry.{Entry}
use Rattle.trie_words.specs.declared.headers.Shape.{Shape}
use Rattle.trie_words.specs.declared.headers.Shape.TheVariants as shape
use Rattle.trie_words.specs.declared.names.Name.{Name}
use Rattle.machine_model.specs.Beneath.ctrie_base.specs.Paths.{position_of}
use Rattle.machine_model.specs.Beneath.slot_arena.specs.declared.refs.Ref.{Ref}
use Rattle.machine_model.specs.Beneath.slot_arena.specs.declared.nodes.Node.{Node}
use Rattle.machine_model.specs.Beneath.slot_arena.specs.declared.nodes.Node.TheVariants.{Indirection, Branch, Single, Tomb, List as Listed}
use Rattle.machine_model.specs.Beneath.slot_arena.specs.declared.nodes.Slot.{Slot}
use Rattle.machine_model.specs.Beneath.slot_arena.specs.Heaps.{entries_of, no_ref, node_at, refs_of_node}
use Rattle.machine_model.specs.declared.building.BuildLine.TheVariants as build
use Rattle.machine_model.specs.declared.building.Change.{Change}
use Rattle.machine_model.specs.declared.building.Change.TheVariants as change
use Rattle.machine_model.specs.declared.lines.Line.{Line}
use Rattle.machine_model.specs.declared.lines.Line.TheVariants as line
use Rattle.machine_model.specs.Building.{changed}
use Rattle.proof_memory.specs.Wants.{is_branch_or_list, is_main_node}
use Rattle.lock_free.specs.declared.changing.Edit.{Edit}
use Rattle.lock_free.specs.declared.changing.Edit.TheVariants as edit
use Rattle.lock_free.specs.declared.rules.View.{View}
use Rattle.lock_free.specs.Accounts.{bounds_for}
use Rattle.lock_free.specs.Changing.{count_in, drops_of, HasPlaceFor, IsChange, IsChanging}
use Rattle.lock_free.specs.Counts.{how_often}
use Rattle.lock_free.specs.Descending.{entries_in}
use Rattle.lock_free.specs.Dropping.{AreDropped, IsDroppedAt}
use Rattle.lock_free.specs.LettingGo.{names_of}
use Rattle.lock_free.specs.Loading.{now, IsSound, IsUsed}
use Rattle.lock_free.specs.OwesAt.{owes_at}
use Rattle.lock_free.proofs.ChangedMains.{holds_main, kind, known_node, o}
use Rattle.lock_free.proofs.ChangedBranches.{branch_room}
use Rattle.lock_free.proofs.ChangedBranches.{refs_are as refs_are_branch}
use Rattle.lock_free.proofs.ClaimsThere.{has_often, often_has}
use Rattle.lock_free.proofs.Counts.{entries_few}
use Rattle.lock_free.proofs.Crowds.{counted, list_few}
use Rattle.lock_free.proofs.GivenBack.{node_is}
use Rattle.lock_free.proofs.KnownLines.{has_place}
use Rattle.lock_free.proofs.LeftNames.{refs_are}
use Rattle.lock_free.proofs.MainNames.{build_shared, taken_in}
use Rattle.lock_free.proofs.NamesUsed.{names_differ}
use Rattle.lock_free.proofs.OwesPrivate.{owes_private}
use Rattle.lock_free.proofs.Pools.{first_there}
use Rattle.lock_free.proofs.Within.{held_lives}

-- ---- in a list in which nothing stands twice

module _ (xs : List Ref) (p : ℕ) (low : p < length xs) (once : (k : Ref) → how_often k xs ≤ 1) where
  abbrev it : Ref
  it = get_or xs p no_ref

  abbrev is : Ref → ℕ
  is x = cond (x == it) 1 0

  is_it : is it ≡ 1
  is_it = ap {B = ℕ} (λ b. cond b 1 0) (eq-eqb it it refl)

  not_set : (x : Ref) → x ≢ it → ¬ Contains (slice_set xs p x) it
  not_set x differs c =
      let some = has_often it (slice_set xs p x) c in
      let all = sum_by-set is xs p x no_ref low in
      let here = is_it in
      let none = ap {B = ℕ} (λ b. cond b 1 0) (ne_eqb x it differs) in
      let one = once it in absurd (omega (arith, some, all, here, none, one))

  not_removed : ¬ Contains (remove xs p) it
  not_removed c =
      let some = has_often it (remove xs p) c in
      let all = sum_by-remove is xs p no_ref low in
      let here = is_it in
      let one = once it in absurd (omega (arith, some, all, here, one))

  abbrev weight : Ref → Ref → ℕ
  weight k x = cond (x == k) 1 0

  -- and all others stay
  still_set : (x k : Ref) → Contains xs k → k ≢ it → Contains (slice_set xs p x) k
  still_set x k c differs =
      let some = has_often k xs c in
      let all = sum_by-set (weight k) xs p x no_ref low in
      let none = ap {B = ℕ} (λ b. cond b 1 0) (ne_eqb it k (λ e. differs (sym e))) in often_has k (slice_set xs p x) (omega (arith, some, all, none))

  still_removed : (k : Ref) → Contains xs k → k ≢ it → Contains (remove xs p) k
  still_removed k c differs =
      let some = has_often k xs c in
      let all = sum_by-remove (weight k) xs p no_ref low in
      let none = ap {B = ℕ} (λ b. cond b 1 0) (ne_eqb it k (λ e. differs (sym e))) in often_has k (remove xs p) (omega (arith, some, all, none))

still_inserted : (xs : List Ref) (i : ℕ) (x k : Ref) → Contains xs k → Contains (insert xs i x) k
still_inserted xs i x k c =
    let some = has_often k xs c in let all = sum_by-insert (λ (y : Ref). cond {A = ℕ} (y == k) 1 0) xs i x in often_has k (insert xs i x) (omega (arith, some, all))

one_longer : (xs : List Ref) (i : ℕ) (x : Ref) → length (insert xs i x) ≡ length xs + 1
one_longer xs i x =
    let with_it = length-append (take i xs) (x ∷ drop i xs) in
    let without = length-append (take i xs) (drop i xs) in
    let same = ap length (take-append-drop i xs) in omega (arith, with_it, without, same)

-- a node has room for so many
all_kept : (ys : List Ref) (k : Ref) → length ys ≤ 32 → Contains ys k → Contains (take 32 ys) k
all_kept ys k few c = subst (λ zs. Contains zs k) (sym (take_all 32 ys few)) c

-- ---- the changed node

updated_has : (fl : ℕ) (node : Node) (p : ℕ) (x k : Ref) → is_branch_or_list node ≡ true → Contains (refs_of_node (changed fl node (change.Update p x))) k →
    Contains (slice_set (entries_of node) p x) k
updated_has fl (Branch bitmap es) p x k e c = taken_in (slice_set es.items p x) k c
updated_has fl (Listed es) p x k e c = taken_in (slice_set es.items p x) k c
updated_has fl (Indirection generation main) p x k e c = absurd (true≢false (sym e))
updated_has fl (Single key value) p x k e c = absurd (true≢false (sym e))
updated_has fl (Tomb single) p x k e c = absurd (true≢false (sym e))

removed_has : (fl : ℕ) (node : Node) (p : ℕ) (k : Ref) → is_branch_or_list node ≡ true → Contains (refs_of_node (changed fl node (change.Remove p))) k → Contains (remove (entries_of node) p) k
removed_has fl (Branch bitmap es) p k e c = taken_in (remove es.items p) k c
removed_has fl (Listed es) p k e c = taken_in (remove es.items p) k c
removed_has fl (Indirection generation main) p k e c = absurd (true≢false (sym e))
removed_has fl (Single key value) p k e c = absurd (true≢false (sym e))
removed_has fl (Tomb single) p k e c = absurd (true≢false (sym e))

has_updated : (fl : ℕ) (node : Node) (p : ℕ) (x k : Ref) → is_branch_or_list node ≡ true → length (entries_of node) ≤ 32 → Contains (slice_set (entries_of node) p x) k →
    Contains (refs_of_node (changed fl node (change.Update p x))) k
has_updated fl (Branch bitmap es) p x k e few c = all_kept (slice_set es.items p x) k (let same = length-set es.items p x in omega (arith, same, few)) c
has_updated fl (Listed es) p x k e few c = all_kept (slice_set es.items p x) k (let same = length-set es.items p x in omega (arith, same, few)) c
has_updated fl (Indirection generation main) p x k e few c = absurd (true≢false (sym e))
has_updated fl (Single key value) p x k e few c = absurd (true≢false (sym e))
has_updated fl (Tomb single) p x k e few c = absurd (true≢false (sym e))

has_removed : (fl : ℕ) (node : Node) (p : ℕ) (k : Ref) → is_branch_or_list node ≡ true → length (entries_of node) ≤ 32 → p < length (entries_of node) → Contains (remove (entries_of node) p) k →
    Contains (refs_of_node (changed fl node (change.Remove p))) k
has_removed fl (Branch bitmap es) p k e few low c = all_kept (remove es.items p) k (let less = length-remove es.items p low in omega (arith, less, few)) c
has_removed fl (Listed es) p k e few low c = all_kept (remove es.items p) k (let less = length-remove es.items p low in omega (arith, less, few)) c
has_removed fl (Indirection generation main) p k e few low c = absurd (true≢false (sym e))
has_removed fl (Single key value) p k e few low c = absurd (true≢false (sym e))
has_removed fl (Tomb single) p k e few low c = absurd (true≢false (sym e))

has_inserted : (fl : ℕ) (node : Node) (x k : Ref) → is_branch_or_list node ≡ true → length (entries_of node) < 32 → Contains (entries_of node) k →
    Contains (refs_of_node (changed fl node (change.Insert x))) k
has_inserted fl (Branch bitmap es) x k e few c =
    let place = position_of fl bitmap in
    all_kept (insert es.items place x) k (let more = one_longer es.items place x in omega (arith, more, few)) (still_inserted es.items place x k c)
has_inserted fl (Listed es) x k e few c =
    all_kept (es.items ++ x ∷ []) k (let more = length-append es.items (x ∷ []) in omega (arith, more, few)) (Contains-append_left es.items (x ∷ []) k c)
has_inserted fl (Indirection generation main) x k e few c = absurd (true≢false (sym e))
has_inserted fl (Single key value) x k e few c = absurd (true≢false (sym e))
has_inserted fl (Tomb single) x k e few c = absurd (true≢false (sym e))

main_by : (node : Node) → is_branch_or_list node ≡ true → is_main_node node ≡ true
main_by (Branch bitmap es) e = refl
main_by (Listed es) e = refl
main_by (Indirection generation main) e = absurd (true≢false (sym e))
main_by (Single key value) e = absurd (true≢false (sym e))
main_by (Tomb single) e = absurd (true≢false (sym e))

-- there is room for one more
room : (n : ℕ) (v : View) → IsSound n v → (name : Name) (what : Shape) (flag : ℕ) (e : Edit) (h : IsChanging v name what flag e) (entry : Entry) → HasPlaceFor what flag (edit.Insert entry) →
    length (entries_of h.known.slot.node) < 32
room n v sound name (shape.Branch bitmap) flag e h entry has =
    subst (λ rs. length rs < 32) (sym (refs_are_branch n v sound name bitmap flag e h)) (branch_room n v sound name bitmap flag e h has)
room n v sound name (shape.List count) flag e h entry has =
    let all = counted n v sound h.main h.header h.known ∙ ap entries_in h.is_shape in
    let same = ap (λ m. length (entries_of m)) (node_is (now v) h.main h.known.slot h.known.used) in omega (arith, all, same, has)
room n v sound name (shape.Tomb single) flag e h entry has =
    let all = counted n v sound h.main h.header h.known ∙ ap entries_in h.is_shape in
    let same = ap (λ m. length (entries_of m)) (node_is (now v) h.main h.known.slot h.known.used) in omega (arith, all, same)

module _ (n : ℕ) (v : View) (sound : IsSound n v) (name : Name) (what : Shape) (flag : ℕ) (e : Edit) (h : IsChanging v name what flag e) where
  abbrev node : Node
  node = node_at (now v).heap h.main

  kind_is : is_branch_or_list (node_at (now v).heap h.main) ≡ true
  kind_is = ap is_branch_or_list (known_node n v sound name what flag e h) ∙ kind n v sound name what flag e h

  abbrev es : List Ref
  es = entries_of node

  count_same : (s : Shape) → (m : Node) → is_branch_or_list m ≡ true → length (entries_of m) ≡ entries_in s → (p : ℕ) → p < count_in s → p < length (entries_of m)
  count_same (shape.Branch bitmap) m is all p low = omega (arith, all, low)
  count_same (shape.List count) m is all p low = omega (arith, all, low)
  count_same (shape.Tomb single) m is all p low = absurd (omega (arith, low))

  inside : (p : ℕ) → p < count_in what → p < length es
  inside p low =
      count_same what node kind_is (subst (λ s. length es ≡ entries_in s) h.is_shape (counted n v sound h.main h.header h.known)) p low

  few_by : (m : Node) (slot : Slot) → IsUsed v h.main slot → slot.node ≡ m → is_branch_or_list m ≡ true → length (entries_of m) ≤ 32
  few_by (Branch bitmap entries) slot used is e = entries_few n v sound h.main slot used bitmap entries is
  few_by (Listed singles) slot used is e = list_few n v sound h.main slot singles used is
  few_by (Indirection generation main) slot used is e = omega arith
  few_by (Single key value) slot used is e = omega arith
  few_by (Tomb single) slot used is e = absurd (true≢false (sym e))

  few : length es ≤ 32
  few = few_by node h.known.slot h.known.used (sym (known_node n v sound name what flag e h)) kind_is

  once : (k : Ref) → how_often k es ≤ 1
  once k =
      subst (λ ks. how_often k ks ≤ 1) (refs_are node kind_is)
      (names_differ n v sound h.main (held_lives v h.main (holds_main n v sound name what flag e h)) (main_by node kind_is) k)

  abbrev line_by : Change → Line
  line_by d = line.Build (build.Main h.path h.main d h.former)

  -- what it has made is none of them
  apart : (p : ℕ) (x : Ref) → h.its ≡ change.Update p x → (k : Ref) → Contains es k → x ≢ k
  apart p x update k c same =
      let operation = o n v sound name what flag e h in
      let owes = subst (λ d. Contains (owes_at (record operation { line = line_by d })) x) (sym update) (first_there x []) in
      build_shared n v sound (build.Main h.path h.main h.its h.former) h.on k c operation h.on.1.1
      (subst (Contains operation.private) same
      (owes_private (bounds_for v.sizes v.account.steps) sound.bounds v.account.steps v.actor operation h.on.1.1 x
      (subst (λ z. Contains (owes_at (record operation { line = z })) x) (sym h.on.2) owes)))

  module _ (w : View) (made : Ref) (fl : ℕ) (is_made : node_at (now w).heap made ≡ changed fl (node_at (now v).heap h.main) h.its)
      (same : node_at (now w).heap h.main ≡ node_at (now v).heap h.main) where
    -- what the one before names are its entries, and so it stays
    entry_v : (k : Ref) → Contains (names_of w h.main) k → Contains es k
    entry_v k c = subst (λ ks. Contains ks k) (ap refs_of_node same ∙ refs_are node kind_is) c

    named_w : (k : Ref) → Contains (refs_of_node (changed fl node h.its)) k → Contains (names_of w made) k
    named_w k c = subst (λ m. Contains (refs_of_node m) k) (sym is_made) c

    dropped_at : (p : ℕ) → p < count_in what → ((k : Ref) → Contains (refs_of_node (changed fl node h.its)) k → k ≢ get_or es p no_ref) →
        ((k : Ref) → Contains es k → k ≢ get_or es p no_ref → Contains (refs_of_node (changed fl node h.its)) k) → IsDroppedAt w h.main made p
    dropped_at p low none others = record {
      kind = ap is_branch_or_list same ∙ kind_is;
      inside = subst (λ m. p < length (entries_of m)) (sym same) (inside p low);
      low = (let most = few in let its = inside p low in omega (arith, most, its));
      out = λ c. none (get_or (entries_of (node_at (now w).heap h.main)) p no_ref) (subst (λ m. Contains (refs_of_node m) (get_or (entries_of (node_at (now w).heap h.main)) p no_ref)) is_made c)
          (ap (λ m. get_or (entries_of m) p no_ref) same);
      rest = λ k c differs. named_w k (others k (entry_v k c) (λ k_is. differs (k_is ∙ sym (ap (λ m. get_or (entries_of m) p no_ref) same))));
    }

    pub drops_new : AreDropped w h.main made (drops_of e)
    drops_new = by e h.its h.is_change (has_place n v sound name what flag e h) refl
      where
        by : (d : Edit) (c : Change) → IsChange v d c → HasPlaceFor what flag d → h.its ≡ c → AreDropped w h.main made (drops_of d)
        by (edit.Insert entry) (change.Insert x) is low its = λ k c.
            named_w k (subst (λ d. Contains (refs_of_node (changed fl node d)) k) (sym its)
            (has_inserted fl node x k kind_is
            (subst (λ m. length (entries_of m) < 32) (sym (known_node n v sound name what flag e h)) (room n v sound name what flag e h entry low))
            (entry_v k c)))
        by (edit.Insert entry) (change.Update at x) is low its = absurd is
        by (edit.Insert entry) (change.Remove at) is low its = absurd is
        by (edit.Insert entry) (change.Entomb x) is low its = absurd is
        by (edit.Entomb single) c is low its = tt
        by (edit.Update p entry) (change.Update at x) (position, to) low its =
            let is_update : h.its ≡ change.Update p x = its ∙ ap (λ q. change.Update q x) (sym position) in
            dropped_at p low (λ k c k_is.
            not_set es p (inside p low) once x (apart p x is_update (get_or es p no_ref) (Contains-get_or es p no_ref (inside p low)))
            (subst (Contains (slice_set es p x)) k_is (updated_has fl node p x k kind_is (subst (λ d. Contains (refs_of_node (changed fl node d)) k) is_update c))))
            (λ k c differs.
            subst (λ d. Contains (refs_of_node (changed fl node d)) k) (sym is_update) (has_updated fl node p x k kind_is few (still_set es p (inside p low) once x k c differs)))
        by (edit.Remove p) (change.Remove at) position low its =
            let is_removal : h.its ≡ change.Remove p = its ∙ ap change.Remove (sym position) in
            dropped_at p low (λ k c k_is.
            not_removed es p (inside p low) once
            (subst (Contains (remove es p)) k_is (removed_has fl node p k kind_is (subst (λ d. Contains (refs_of_node (changed fl node d)) k) is_removal c))))
            (λ k c differs.
            subst (λ d. Contains (refs_of_node (changed fl node d)) k) (sym is_removal)
            (has_removed fl node p k kind_is few (inside p low) (still_removed es p (inside p low) once k c differs)))
        by (edit.Update p entry) (change.Insert x) is low its = absurd is
        by (edit.Update p entry) (change.Remove at) is low its = absurd is
        by (edit.Update p entry) (change.Entomb x) is low its = absurd is
        by (edit.Remove p) (change.Insert x) is low its = absurd is
        by (edit.Remove p) (change.Update at x) is low its = absurd is
        by (edit.Remove p) (change.Entomb x) is low its = absurd is
