-- How often a node is given to the seat of a copy, by what the copy is; and what stays so of the node.
use Rattle.std.proofs.Common.{◌≡◌, ◌==◌, ◌&&◌, ◌+◌, ◌∷◌, [], not, ℕ, Bool, true, false, List, Contains, Option, Some, None, cond, count_by, is_some, refl, sym, ap, subst, ◌∙◌, arith}
use Rattle.std.proofs.lemmas.Bool.{false≢true, true≢false}
use Rattle.std.proofs.lemmas.List.Elements.{Contains-append_left, Contains-append_right, Contains-push}
use Rattle.std.proofs.lemmas.List.Sums.{sum_by-cons}
use Rattle.std.proofs.lemmas.Option.{same_Some}
use Rattle.machine_model.specs.Beneath.slot_arena.specs.declared.nodes.Node.{Node}
use Rattle.machine_model.specs.Beneath.slot_arena.specs.declared.nodes.Node.TheVariants.{Indirection, Branch, Single, Tomb, List as Listed}
use Rattle.machine_model.specs.Beneath.slot_arena.specs.declared.refs.Ref.{Ref}
use Rattle.machine_model.specs.Beneath.slot_arena.specs.Heaps.{node_at, refs_of_option}
use Rattle.machine_model.specs.declared.operations.Operation.{Operation}
use Rattle.proof_claims.specs.Left.{once}
use Rattle.proof_memory.specs.Wants.{is_indirection}
use Rattle.lock_free.specs.declared.copy_roots.CopyKind.{CopyKind}
use Rattle.lock_free.specs.declared.copy_roots.CopyKind.TheVariants as kind
use Rattle.lock_free.specs.declared.reclaiming.Kind.{Kind}
use Rattle.lock_free.specs.declared.reclaiming.Kind.TheVariants as kinds
use Rattle.lock_free.specs.declared.rules.View.{View}
use Rattle.lock_free.specs.Becoming.{Follows}
use Rattle.lock_free.specs.CopyGifts.{main_given, root_given}
use Rattle.lock_free.specs.CopySteps.{is_snapshot}
use Rattle.lock_free.specs.Counting.{IsInSlot}
use Rattle.lock_free.specs.Counts.{how_often}
use Rattle.lock_free.specs.Loading.{now, Runs}
use Rattle.lock_free.specs.Nodes.{class_of}
use Rattle.lock_free.specs.Places.{small_class}
use Rattle.lock_free.specs.Raising.{IsShared}
use Rattle.lock_free.specs.Reclaiming.{kind_of_node}
use Rattle.lock_free.proofs.CopyMains.{in_slot_on}
use Rattle.lock_free.proofs.GivenBack.{node_is}
use Rattle.lock_free.proofs.Idle.{empty_has}
use Rattle.lock_free.proofs.RootsOver as over
use Rattle.lock_free.proofs.KindsApart.{kind_same}

-- ---- so often

-- one more of those that are so is one more of it
count_one : (p : Ref → Bool) (x : Ref) (xs : List Ref) (j m : Ref) (ms : List Ref) → p x ≡ (m == j) → count_by p xs ≡ how_often j ms → count_by p (x ∷ xs) ≡ how_often j (m ∷ ms)
count_one p x xs j m ms same rest =
    let first = sum_by-cons (λ (y : Ref). cond {A = ℕ} (p y) 1 0) x xs in
    let also = sum_by-cons (λ (y : Ref). cond {A = ℕ} (y == j) 1 0) m ms in
    let one = ap {B = ℕ} (λ b. cond b 1 0) same in omega (arith, first, also, one, rest)

-- the roots that a copy of this kind makes
pub roots_named : (k : CopyKind) (successor : Ref) (second : Option Ref) (p : Ref → Bool) (j m : Ref) → is_some second ≡ is_snapshot k →
    ((x : Ref) → Contains (successor ∷ refs_of_option second) x → p x ≡ (m == j)) → count_by p (successor ∷ refs_of_option second) ≡ how_often j (main_given k m)
roots_named kind.Clear successor None p j m two each = count_one p successor [] j m [] (each successor (Contains-push [] successor)) refl
roots_named kind.Freeze successor None p j m two each = count_one p successor [] j m [] (each successor (Contains-push [] successor)) refl
roots_named kind.Snapshot successor (Some q) p j m two each =
    count_one p successor (q ∷ []) j m (m ∷ []) (each successor (Contains-append_left (successor ∷ []) (q ∷ []) successor (Contains-push [] successor)))
    (count_one p q [] j m [] (each q (Contains-append_right (successor ∷ []) (q ∷ []) q (Contains-push [] q))) refl)
roots_named kind.Snapshot successor None p j m two each = absurd (false≢true two)
roots_named kind.Clear successor (Some q) p j m two each = absurd (true≢false two)
roots_named kind.Freeze successor (Some q) p j m two each = absurd (true≢false two)

once_often : (root j : Ref) (frozen : Bool) → frozen ≡ false → once ((root == j) && not frozen) ≡ how_often j (root ∷ [])
once_often root j frozen e = by (root == j) refl ∙ sym (sum_by-cons (λ (y : Ref). cond {A = ℕ} (y == j) 1 0) root [])
  where
    by : (b : Bool) → (root == j) ≡ b → once ((root == j) && not frozen) ≡ cond {A = ℕ} (root == j) 1 0 + 0
    by true is = rw is (rw e refl)
    by false is = rw is refl

never_often : (root j : Ref) (frozen : Bool) → frozen ≡ true → once ((root == j) && not frozen) ≡ 0
never_often root j frozen e = by (root == j) refl
  where
    by : (b : Bool) → (root == j) ≡ b → once ((root == j) && not frozen) ≡ 0
    by true is = rw is (rw e refl)
    by false is = rw is refl

pub root_times : (k : CopyKind) (root j : Ref) (frozen : Bool) → frozen ≡ over.is_frozen k → once ((root == j) && not frozen) ≡ how_often j (root_given k root)
root_times kind.Clear root j frozen e = once_often root j frozen e
root_times kind.Snapshot root j frozen e = once_often root j frozen e
root_times kind.Freeze root j frozen e = never_often root j frozen e

-- ---- nodes stay what they are

pub link_class : (node : Node) → is_indirection node ≡ true → class_of node ≡ small_class
link_class (Indirection generation main) is = refl
link_class (Branch bitmap entries) is = absurd (false≢true is)
link_class (Single key value) is = absurd (false≢true is)
link_class (Tomb single) is = absurd (false≢true is)
link_class (Listed singles) is = absurd (false≢true is)

pub link_kind : (node : Node) → is_indirection node ≡ true → kind_of_node node ≡ kinds.Indirection
link_kind (Indirection generation main) is = refl
link_kind (Branch bitmap entries) is = absurd (false≢true is)
link_kind (Single key value) is = absurd (false≢true is)
link_kind (Tomb single) is = absurd (false≢true is)
link_kind (Listed singles) is = absurd (false≢true is)

-- it is in that slot, of that class and kind
pub record IsOfKind (v : View) (k : Ref) (what : Kind) (class name : ℕ) : Type 0 where
  pub there : IsInSlot v k class name
  pub its_kind : kind_of_node (node_at (now v).heap k) ≡ what

pub of_kind_on : (v w : View) → Follows v w → (k : Ref) (what : Kind) (class name : ℕ) → IsOfKind v k what class name → IsOfKind w k what class name
of_kind_on v w f k what class name h =
    let later = f.nodes k h.there.slot h.there.used in
    record {
      there = in_slot_on v w f k class name h.there;
      its_kind = ap kind_of_node (node_is (now w) k later.0 later.1) ∙ kind_same h.there.slot.node later.0.node later.2
          ∙ ap kind_of_node (sym (node_is (now v) k h.there.slot h.there.used)) ∙ h.its_kind;
    }

-- nothing is the operation's own
pub none_shared : (v : View) (o : Operation) → Runs v o → o.private ≡ [] → (k : Ref) → IsShared v k
none_shared v o (mark, runs) none k q is c =
    let same = same_Some (record o { is_marked = mark }) q (sym runs ∙ is) in
    empty_has k (subst (λ ks. Contains ks k) (ap (λ (z : Operation). z.private) (sym same) ∙ none) c)
