-- A tomb names the single that is left, which is an entry of the main node that it is to replace.
use Rattle.std.proofs.Common.{◌≡◌, inr, ℕ, Bool, true, false, Contains, refl, sym, ap, subst, ◌∙◌}
use Rattle.std.proofs.lemmas.Bool.{true≢false}
use Rattle.std.proofs.lemmas.Option.{same_Some}
use Rattle.trie_words.specs.declared.headers.Shape.{Shape}
use Rattle.trie_words.specs.declared.names.Name.{Name}
use Rattle.machine_model.specs.Beneath.slot_arena.specs.declared.nodes.Node.{Node}
use Rattle.machine_model.specs.Beneath.slot_arena.specs.declared.nodes.Node.TheVariants.{Indirection, Branch, Single, Tomb, List as Listed}
use Rattle.machine_model.specs.Beneath.slot_arena.specs.declared.refs.Ref.{Ref}
use Rattle.machine_model.specs.Beneath.slot_arena.specs.Heaps.{entries_of, node_at, refs_of_node}
use Rattle.machine_model.specs.declared.actions.Action.TheVariants as act
use Rattle.machine_model.specs.declared.building.BuildLine.TheVariants as build
use Rattle.machine_model.specs.declared.building.Change.TheVariants as change
use Rattle.machine_model.specs.declared.lines.Line.TheVariants as line
use Rattle.machine_model.specs.declared.operations.Operation.{Operation}
use Rattle.machine_model.specs.Calls.{key_of}
use Rattle.machine_model.specs.Operations.{action_of}
use Rattle.machine_model.specs.Paths.{current, depth_of}
use Rattle.proof_claims.specs.Beneath.proof_fresh.proofs.Build.{other_entry}
use Rattle.proof_claims.specs.Changes.{goal_of}
use Rattle.proof_linearizable.specs.Beneath.proof_contents.specs.Lines.Changes.{KnowsChange}
use Rattle.lock_free.specs.declared.changing.Edit.{Edit}
use Rattle.lock_free.specs.declared.changing.Edit.TheVariants as edit
use Rattle.lock_free.specs.declared.reclaiming.Kind.TheVariants as kinds
use Rattle.lock_free.specs.declared.rules.View.{View}
use Rattle.lock_free.specs.Accounts.{IsOwn}
use Rattle.lock_free.specs.Changing.{IsChanging}
use Rattle.lock_free.specs.Loading.{now, IsAt, IsSound}
use Rattle.lock_free.specs.Nodes.{class_of, is_single}
use Rattle.lock_free.specs.Owing.{names_made}
use Rattle.lock_free.specs.Raising.{MayReplaceBy}
use Rattle.lock_free.specs.Reclaiming.{kind_of_node}
use Rattle.lock_free.proofs.ChangedMains.{kind, known_node, main_at_hand, o}
use Rattle.lock_free.proofs.Entombed.{tomb_ready, left_is_single, tomb_left}
use Rattle.lock_free.proofs.GivenBack.{node_is}
use Rattle.lock_free.proofs.KnownLines.{K, change_known, node_known, o0}
use Rattle.lock_free.proofs.MainNames.{build_shared, entry_named}
use Rattle.lock_free.proofs.OnLines.{line_is}
use Rattle.lock_free.proofs.Pools.{one_there}

single_class : (node : Node) → is_single node ≡ true → class_of node ≡ 0
single_class (Single key value) is = refl
single_class (Indirection generation main) is = absurd (true≢false (sym is))
single_class (Branch bitmap entries) is = absurd (true≢false (sym is))
single_class (Tomb single) is = absurd (true≢false (sym is))
single_class (Listed singles) is = absurd (true≢false (sym is))

single_kind : (node : Node) → is_single node ≡ true → kind_of_node node ≡ kinds.Single
single_kind (Single key value) is = refl
single_kind (Indirection generation main) is = absurd (true≢false (sym is))
single_kind (Branch bitmap entries) is = absurd (true≢false (sym is))
single_kind (Tomb single) is = absurd (true≢false (sym is))
single_kind (Listed singles) is = absurd (true≢false (sym is))

module _ (n : ℕ) (v : View) (sound : IsSound n v) (name : Name) (what : Shape) (flag : ℕ) (e : Edit) (h : IsChanging v name what flag e) (single : Name) (is : e ≡ edit.Entomb single) where
  abbrev r : Ref
  r = (tomb_ready n v sound name what flag e h single is).0

  its : h.its ≡ change.Entomb r
  its = tomb_left n v sound name what flag e h single is

  slot_entry : Contains (entries_of h.known.slot.node) r
  slot_entry =
      let known = subst (KnowsChange (K n v sound name what flag e h) (o0 n v sound name what flag e h).call (depth_of h.path) h.main h.former) its (change_known n v sound name what flag e h) in
      subst (λ x. Contains (entries_of x) r) (sym (node_known n v sound name what flag e h))
      (other_entry (K n v sound name what flag e h) (depth_of h.path) (key_of (o0 n v sound name what flag e h).call) h.main r known.0 known.3)

  named : (operation : Operation) → action_of (now v) operation ≡ action_of (now v) (tomb_ready n v sound name what flag e h single is).1.operation → (k : Ref) →
      Contains (names_made (action_of (now v) operation)) k → k ≡ r
  named operation same k c =
      let p = (tomb_ready n v sound name what flag e h single is).1 in one_there r k (subst (λ ks. Contains ks k) (ap names_made same ∙ ap names_made p.acts) c)

  pub tomb_replaces : MayReplaceBy v name.own single.slot
  tomb_replaces = by name.own refl
    where
      p : IsAt v (act.Make (Tomb r))
      p = (tomb_ready n v sound name what flag e h single is).1

      by : (own : Bool) → name.own ≡ own → MayReplaceBy v own single.slot
      by true own = λ operation runs k c.
          (let same = same_Some p.operation operation (sym p.runs ∙ runs) in
          let is_r = named operation (ap (action_of (now v)) (sym same)) k c in
          inr (inr (
            current h.path,
            h.main,
            ap goal_of (line_is v (line.Build (build.Main h.path h.main h.its h.former)) h.on operation (operation.is_marked, runs)),
            subst (λ b. IsOwn v.account (current h.path) h.main b) own h.names.is_own,
            subst (λ x. Contains (refs_of_node x) k) (sym (known_node n v sound name what flag e h))
                (entry_named h.known.slot.node (kind n v sound name what flag e h) k (subst (Contains (entries_of h.known.slot.node)) (sym is_r) slot_entry)),
          )))
      by false own = record {
        one = r;
        hand = (
          (o n v sound name what flag e h, h.on.1.1, inr (h.main, h.known.slot, main_at_hand n v sound name what flag e h, h.known.used, slot_entry)),
          (let ready = tomb_ready n v sound name what flag e h single is in record {
            slot = ready.2.0.0;
            used = ready.2.0.1;
            class_is = single_class ready.2.0.0.node (subst (λ x. is_single x ≡ true) (node_is (now v) r ready.2.0.0 ready.2.0.1) (left_is_single n v sound name what flag e h single is));
            place = ready.2.1;
          }),
        );
        its_kind = single_kind (node_at (now v).heap r) (left_is_single n v sound name what flag e h single is);
        shared = build_shared n v sound (build.Main h.path h.main h.its h.former) h.on r (subst (λ x. Contains (entries_of x) r) (sym (known_node n v sound name what flag e h)) slot_entry);
        names = λ operation runs k c.
            (let same = same_Some p.operation operation (sym p.runs ∙ runs) in inr (named operation (ap (action_of (now v)) (sym same)) k c));
      }
