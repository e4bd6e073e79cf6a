-- What a seat knows of nodes stays so, whatever becomes of its operation.
use Rattle.std.proofs.Common.{◌≡◌, ℕ, true, List, [], ◌∷◌, ◌++◌, Contains, refl, sym, ap, subst, ◌∙◌, arith, append_assoc, append-nil}
use Rattle.std.proofs.lemmas.List.Elements.{Contains-get_or}
use Rattle.trie_words.specs.declared.headers.Header.{Header}
use Rattle.trie_words.specs.declared.headers.Shape.{Shape}
use Rattle.trie_words.specs.declared.headers.Shape.TheVariants as shape
use Rattle.trie_words.specs.declared.links.Link.{Link}
use Rattle.trie_words.specs.declared.names.Name.{Name}
use Rattle.machine_model.specs.Beneath.slot_arena.specs.declared.refs.Ref.{Ref}
use Rattle.machine_model.specs.Beneath.slot_arena.specs.declared.nodes.Node.{Node}
use Rattle.machine_model.specs.Beneath.slot_arena.specs.declared.nodes.Node.TheVariants.{Indirection, Branch, Single, Tomb, List as Listed}
use Rattle.machine_model.specs.Beneath.slot_arena.specs.declared.nodes.Slot.{Slot}
use Rattle.machine_model.specs.Beneath.slot_arena.specs.Heaps.{node_at, refs_of_node, with_main_word, generation_at}
use Rattle.machine_model.specs.Beneath.slot_arena.specs.Refs.{slot_of}
use Rattle.machine_model.specs.declared.operations.Operation.{Operation}
use Rattle.proof_memory.specs.Laws.{SameNode}
use Rattle.proof_memory.specs.Wants.{is_main_node}
use Rattle.lock_free.specs.declared.rules.View.{View}
use Rattle.lock_free.specs.Becoming.{Follows, HasBecome}
use Rattle.lock_free.specs.Exchanging.{IsNamed}
use Rattle.lock_free.specs.Loading.{now, IsUsed}
use Rattle.lock_free.specs.Nodes.{SaysShape, of_branch, of_tomb, of_list}
use Rattle.lock_free.specs.Passing.{Later, KnowsLink, IsPlaced, KnowsMain, KnowsPending}
use Rattle.lock_free.specs.Telling.{GoesOn}
use Rattle.lock_free.proofs.GivenBack.{node_is}
use Rattle.lock_free.proofs.LinkWords.{generation_is, generations}
use Rattle.lock_free.proofs.Verdicts.{main_same}

pub same_self : (n : Node) → SameNode n n
same_self (Indirection generation main) = (main, refl)
same_self (Branch bitmap entries) = (0, refl)
same_self (Single key value) = (0, refl)
same_self (Tomb single) = (0, refl)
same_self (Listed singles) = (0, refl)

with_both : (n : Node) (a b : Ref) → with_main_word b (with_main_word a n) ≡ with_main_word b n
with_both (Indirection generation main) a b = refl
with_both (Branch bitmap entries) a b = refl
with_both (Single key value) a b = refl
with_both (Tomb single) a b = refl
with_both (Listed singles) a b = refl

pub same_both : (a b c : Node) → SameNode a b → SameNode b c → SameNode a c
same_both a b c (m, p) (n, q) = (n, q ∙ ap (with_main_word n) p ∙ with_both a m n)

pub main_kind : (a b : Node) → SameNode a b → is_main_node a ≡ true → is_main_node b ≡ true
main_kind (Indirection generation main) b same is = ap is_main_node same.1 ∙ is
main_kind (Branch bitmap entries) b same is = ap is_main_node same.1 ∙ is
main_kind (Single key value) b same is = ap is_main_node same.1 ∙ is
main_kind (Tomb single) b same is = ap is_main_node same.1 ∙ is
main_kind (Listed singles) b same is = ap is_main_node same.1 ∙ is

-- ---- how it goes on

pub goes_self : {A : Type 0} (x : List A) → GoesOn x x
goes_self x = ([], sym (append-nil x))

pub goes_both : {A : Type 0} (x y z : List A) → GoesOn x y → GoesOn y z → GoesOn x z
goes_both x y z (a, e) (b, f) = (a ++ b, f ∙ ap (λ xs. xs ++ b) e ∙ append_assoc x a b)

pub follows_self : (v : View) → Follows v v
follows_self v = record {
  is = refl;
  places = λ r slot u. refl;
  owns = λ a b c h. h;
  nodes = λ r slot u. (slot, u, same_self slot.node);
  goes_on = goes_self v.account.steps;
}

pub follows_both : (u v w : View) → Follows u v → Follows v w → Follows u w
follows_both u v w p q = record {
  is = q.is ∙ ap (λ (x : View). record x { account = w.account; epoch = w.epoch; passed = w.passed; pool = w.pool; drafts = w.drafts; retired = w.retired; owed = w.owed; links = w.links }) p.is;
  places = λ r slot used. (let x = p.nodes r slot used in q.places r x.0 x.1 ∙ p.places r slot used);
  owns = λ a b c h. q.owns a b c (p.owns a b c h);
  nodes = λ r slot used. (let x = p.nodes r slot used in let y = q.nodes r x.0 x.1 in (y.0, y.1, same_both slot.node x.0.node y.0.node x.2 y.2));
  goes_on = goes_both u.account.steps v.account.steps w.account.steps p.goes_on q.goes_on;
}

pub follows_later : (v w : View) → Later v w → Follows v w
follows_later v w l = record {
  is = l.is
      ∙ ap (λ (x : View). record v { account = w.account; epoch = x.epoch; passed = x.passed; pool = x.pool; drafts = x.drafts; retired = x.retired; owed = x.owed; links = x.links }) (sym l.is);
  places = l.places;
  owns = l.owns;
  nodes = l.nodes;
  goes_on = l.goes_on;
}

pub become_both : (u v w : View) (first second : Operation → Operation) → HasBecome first u v → HasBecome second v w → HasBecome (λ o. second (first o)) u w
become_both u v w first second p q = record { follows = follows_both u v w p.follows q.follows; comes = λ o r. q.comes (first o) (p.comes o r) }

-- ---- what is known

module _ (v w : View) (f : Follows v w) where
  pub used_on : (r : Ref) → (slot : Slot) × IsUsed v r slot → (slot : Slot) × IsUsed w r slot
  used_on r u = let x = f.nodes r u.0 u.1 in (x.0, x.1)

  pub placed_on : (r : Ref) (name : ℕ) → IsPlaced v r name → IsPlaced w r name
  placed_on r name p = (used_on r p.0, f.places r p.0.0 p.0.1 ∙ p.1)

  pub named_on : (i r : Ref) (name : Name) → (slot : Slot) × IsUsed v r slot → IsNamed v i r name → IsNamed w i r name
  named_on i r name u h = record { place = f.places r u.0 u.1 ∙ h.place; is_own = f.owns i r name.own h.is_own }

  pub generation_on : (i : Ref) → (slot : Slot) × IsUsed v i slot → generation_at (now w).heap i ≡ generation_at (now v).heap i
  generation_on i u = let x = f.nodes i u.0 u.1 in generation_is (now w) i x.0 x.1 ∙ generations u.0.node x.0.node x.2 ∙ sym (generation_is (now v) i u.0 u.1)

  pub link_on : (i main : Ref) (link : Link) → KnowsLink v i main link → KnowsLink w i main link
  link_on i main link k = record {
    is = record { generation = k.is.generation ∙ sym (generation_on i k.link_used); names = named_on i main link.main k.main_used k.is.names };
    fits = k.fits;
    link_used = used_on i k.link_used;
    main_used = used_on main k.main_used;
  }

  kept_shape : (k : Ref) (n : Node) (s : Shape) → ((r : Ref) → Contains (refs_of_node n) r → (slot : Slot) × IsUsed v r slot) → SaysShape v.account (slot_of k) n s → SaysShape w.account
      (slot_of k) n s
  kept_shape k n s used (of_branch bitmap entries) = of_branch bitmap entries
  kept_shape k n s used (of_tomb single own is) =
      let u = used single (Contains-get_or (single ∷ []) 0 single (omega arith)) in
      subst (λ p. SaysShape w.account (slot_of k) (Tomb single) (shape.Tomb (record { slot = p; own = own; is_single = true }))) (f.places single u.0 u.1) (of_tomb single own (f.owns k single own is))
  kept_shape k n s used (of_list singles) = of_list singles

  pub main_on : (main : Ref) (header : Header) → KnowsMain v main header → KnowsMain w main header
  main_on main header k =
      let x = f.nodes main k.slot k.used in
      let is_main = main_kind k.slot.node x.0.node x.2 k.is_main in
      let same = main_same k.slot.node x.0.node x.2 is_main in
      record {
        slot = x.0;
        used = x.1;
        is_main = is_main;
        is_shape = subst (λ n. SaysShape w.account (slot_of main) n header.shape) (sym same) (kept_shape main k.slot.node header.shape k.names k.is_shape);
        fits = k.fits;
        names = λ r c. used_on r (k.names r (subst (λ n. Contains (refs_of_node n) r) same c));
      }

  pub pending_on : (i main replaced : Ref) (header : Header) → KnowsPending v i main replaced header → KnowsPending w i main replaced header
  pending_on i main replaced header k = record {
    main_is = main_on main header k.main_is;
    name = k.name;
    says = k.says;
    names = named_on i replaced k.name k.used k.names;
    used = used_on replaced k.used;
  }

  -- a main node's content stays
  pub main_node_on : (r : Ref) (slot : Slot) → IsUsed v r slot → is_main_node slot.node ≡ true → node_at (now w).heap r ≡ node_at (now v).heap r
  main_node_on r slot used is_main =
      let y = f.nodes r slot used in
      node_is (now w) r y.0 y.1 ∙ main_same slot.node y.0.node y.2 (main_kind slot.node y.0.node y.2 is_main) ∙ sym (node_is (now v) r slot used)
