-- What the loads of a READ come to.
use Rattle.history.specs.declared.calls.Access.{Access}
use Rattle.history.specs.declared.calls.Access.TheVariants.{Writable, ReadOnly}
use Rattle.std.proofs.Common.{◌≡◌, ◌≢◌, ℕ, inl, inr, Bool, true, [], ◌∷◌, Contains, get_or, Some, None, refl, sym, ap, subst, ◌∙◌, arith}
use Rattle.std.proofs.lemmas.Bool.{cases_eq}
use Rattle.std.proofs.lemmas.List.Elements.{Contains-get_or, Contains-append_left, Contains-append_right}
use Rattle.trie_words.specs.declared.headers.Header.{Header}
use Rattle.trie_words.specs.declared.headers.Previous.{Previous}
use Rattle.trie_words.specs.declared.headers.Previous.TheVariants as previous
use Rattle.trie_words.specs.declared.headers.Shape.{Shape}
use Rattle.trie_words.specs.declared.links.Link.{Link}
use Rattle.trie_words.specs.declared.names.Name.{Name}
use Rattle.machine_model.specs.Beneath.slot_arena.specs.declared.refs.Ref.{Ref}
use Rattle.machine_model.specs.Beneath.slot_arena.specs.declared.nodes.Node.{Node}
use Rattle.machine_model.specs.Beneath.slot_arena.specs.declared.nodes.Prev.{Prev}
use Rattle.machine_model.specs.Beneath.slot_arena.specs.declared.nodes.Prev.TheVariants as prev
use Rattle.machine_model.specs.Beneath.slot_arena.specs.declared.nodes.Slot.{Slot}
use Rattle.machine_model.specs.Beneath.slot_arena.specs.Heaps.{stored, node_at, node_of, main_of, main_at, generation_of, refs_of_node, refs_of_prev}
use Rattle.machine_model.specs.Beneath.slot_arena.specs.Refs.{slot_of}
use Rattle.machine_model.specs.declared.actions.Action.TheVariants as act
use Rattle.machine_model.specs.declared.reading.After.{After}
use Rattle.machine_model.specs.declared.reading.After.TheVariants.{Goes, Gives}
use Rattle.machine_model.specs.declared.reading.ReadLine.{ReadLine}
use Rattle.machine_model.specs.declared.reading.ReadLine.TheVariants as read
use Rattle.machine_model.specs.declared.operations.Operation.{Operation}
use Rattle.machine_model.specs.Reading.{after_prev}
use Rattle.machine_model.specs.States.{State}
use Rattle.lock_free.specs.declared.accounts.Account.{Account}
use Rattle.lock_free.specs.declared.reading.Way.{Way}
use Rattle.lock_free.specs.declared.rules.View.{View}
use Rattle.lock_free.specs.Accounts.{place_of, IsOwn, gone_on}
use Rattle.lock_free.specs.Exchanging.{IsNamed, IsNamedOrGone}
use Rattle.lock_free.specs.Loading.{now, seen, Runs, IsAt, IsUsed, IsSound, SameSlots, Went, HasHeader, HasReadLink, HasReadHeader}
use Rattle.lock_free.specs.Nodes.{IsAhead, IsOver, SaysPrevious, decided, ahead, pending, failed, SaysShape, of_branch, of_tomb, of_list}
use Rattle.lock_free.specs.Passing.{Later, HasCome, IsReading, IsOnWay, KnowsLink, IsPlaced, KnowsMain, KnowsPending, pending_line}
use Rattle.lock_free.proofs.Asked.{pending_stands, read_is_met}
use Rattle.lock_free.proofs.Comings.{at_read, all_read, came}
use Rattle.lock_free.proofs.Laters.{went_later}
use Rattle.lock_free.proofs.LinkWords.{generation_is, main_is}
use Rattle.lock_free.proofs.Verdicts.{prev_is}

-- ---- what a header says of the one before

abbrev name_in : Previous → Name
name_in previous.None = record { slot = 0; own = true }
name_in (previous.Pending name) = name
name_in (previous.Failed name) = name

abbrev kind_in : Previous → ℕ
kind_in previous.None = 0
kind_in (previous.Pending name) = 1
kind_in (previous.Failed name) = 2

module _ (account : Account) (state : State) (k : ℕ) where
  pub none_says : (p : Prev) (says : Previous) → says ≡ previous.None → SaysPrevious account state k p says → p ≡ prev.None
  none_says p says e (decided nobody) = refl
  none_says p says e (ahead i a f own h its owned) = refl
  none_says p says e (pending q own over) = absurd (omega (arith, (ap kind_in e)))
  none_says p says e (failed q own over) = absurd (omega (arith, (ap kind_in e)))

  abbrev Says : (Ref → Prev) → Prev → Name → Type 0
  Says kind p name = (q : Ref) × (own : Bool) × (p ≡ kind q) × IsOver account state k q own × (name ≡ record { slot = place_of account q; own = own })

  pending_says : (p : Prev) (says : Previous) (name : Name) → says ≡ previous.Pending name → ((j a f : Ref) → IsAhead state j a f → slot_of f ≢ k) → SaysPrevious account state k p says →
      Says prev.Pending p name
  pending_says p says name e met (decided nobody) = absurd (omega (arith, (ap kind_in e)))
  pending_says p says name e met (ahead i a f own h its owned) = absurd (met i a f h its)
  pending_says p says name e met (pending q own over) = (q, own, refl, over, ap name_in (sym e))
  pending_says p says name e met (failed q own over) = absurd (omega (arith, (ap kind_in e)))

  failed_says : (p : Prev) (says : Previous) (name : Name) → says ≡ previous.Failed name → SaysPrevious account state k p says → Says prev.Failed p name
  failed_says p says name e (decided nobody) = absurd (omega (arith, (ap kind_in e)))
  failed_says p says name e (ahead i a f own h its owned) = absurd (omega (arith, (ap kind_in e)))
  failed_says p says name e (pending q own over) = absurd (omega (arith, (ap kind_in e)))
  failed_says p says name e (failed q own over) = (q, own, refl, over, ap name_in (sym e))

-- with more steps the same is said
shape_on : (actor : ℕ) (account : Account) (k : ℕ) (n : Node) (s : Shape) → SaysShape account k n s → SaysShape (gone_on actor account) k n s
shape_on actor account k n s (of_branch bitmap entries) = of_branch bitmap entries
shape_on actor account k n s (of_tomb single own is) = of_tomb single own is
shape_on actor account k n s (of_list singles) = of_list singles

main_same_at : (first later : State) → SameSlots first later → (i : Ref) → main_at later.heap i ≡ main_at first.heap i
unfolding node_at stored
main_same_at first later same i = ap (λ o. main_of (node_of o)) (same (slot_of i))

module _ (n m : ℕ) (before after : View) (sound : IsSound n before) (then : IsSound m after) (i : Ref) where
  -- ---- the link is read

  module _ (link : Link) (reading : IsReading before i read.Main) (g : HasReadLink before link after) where
    pub link_come : (main : Ref) × HasCome (Goes (read.Prev main)) before after × KnowsLink after i main link
    link_come =
        let w = g.0 in
        let x = g.1 i (at_read before i read.Main reading) in
        let h = x.0 in
        let state = now (seen before w.account) in
        let v = seen before (gone_on before.actor w.account) in
        let same : SameSlots state (now v) = subst (λ (z : View). SameSlots state (now z)) w.after_is x.1 in
        let known : KnowsLink v i h.main link = record {
          is = record {
            generation = sym (generation_is (now v) i h.slot (same (slot_of i) ∙ h.stores) ∙ ap generation_of h.is_link);
            names = record { place = h.place; is_own = h.is_own };
          };
          fits = h.fits;
          link_used = (h.slot, same (slot_of i) ∙ h.stores);
          main_used = (h.used.0, same (slot_of h.main) ∙ h.used.1);
        } in (
          h.main,
          came before after i read.Main reading (went_later n before sound m after then w) w (Goes (read.Prev h.main))
              (λ o r. ap (λ z. Goes (read.Prev z)) (main_is state i h.slot h.stores ∙ ap main_of h.is_link)),
          subst (λ z. KnowsLink z i h.main link) (sym w.after_is) known,
        )

  -- ---- the header is read

  module _ (main : Ref) (header : Header) (reading : IsReading before i (read.Prev main)) (g : HasReadHeader before header after) where
    abbrev w : Went before after
    w = g.0

    abbrev account : Account
    account = w.account

    abbrev state : State
    state = now (seen before account)

    at_it : IsAt before (act.ReadPrev main)
    at_it = at_read before i (read.Prev main) reading

    h : HasHeader account state main header
    h = (g.1 main at_it).0

    abbrev v : View
    v = seen before (gone_on before.actor account)

    same : SameSlots state (now v)
    same = subst (λ (z : View). SameSlots state (now z)) w.after_is (g.1 main at_it).1

    later : Later before after
    later = went_later n before sound m after then w

    used_now : (r : Ref) → (slot : Slot) × (get_or state.heap.slots (slot_of r) None ≡ Some slot) → (slot : Slot) × IsUsed v r slot
    used_now r u = (u.0, same (slot_of r) ∙ u.1)

    known : KnowsMain v main header
    known = record {
      slot = h.slot;
      used = same (slot_of main) ∙ h.stores;
      is_main = h.is_main;
      is_shape = shape_on before.actor account (slot_of main) h.slot.node header.shape h.is_shape;
      fits = h.fits;
      names = λ r c. used_now r (h.used r (Contains-append_left (refs_of_node h.slot.node) (refs_of_prev h.slot.prev) r c));
    }

    pub main_known : KnowsMain after main header
    main_known = subst (λ z. KnowsMain z main header) (sym w.after_is) known

    comes_by : (p : Prev) (out : After ReadLine Ref) → h.slot.prev ≡ p → ((o : Operation) → Runs before o → after_prev o.access main p ≡ out) → HasCome out before after
    comes_by p out is by =
        came before after i (read.Prev main) reading later w out (λ o r. ap (after_prev o.access main) (prev_is state main h.slot h.stores ∙ is) ∙ by o r)

    -- it is decided, so it is given
    pub none_come : header.previous ≡ previous.None → HasCome (Gives main) before after
    none_come e = comes_by prev.None (Gives main) (none_says account state (slot_of main) h.slot.prev header.previous e h.is_previous) (λ o r. refl)

    named : (q : Ref) (own : Bool) (name : Name) → name ≡ record { slot = place_of account q; own = own } → IsOwn account i q own → IsNamed v i q name
    named q own name e is = subst (λ z. IsNamed v i q z) (sym e) (record { place = refl; is_own = is })

    former_used : (q : Ref) → Contains (refs_of_prev h.slot.prev) q → (slot : Slot) × IsUsed v q slot
    former_used q c = used_now q (h.used q (Contains-append_right (refs_of_node h.slot.node) (refs_of_prev h.slot.prev) q c))

    -- it has failed, so the one before it is to be put back
    pub failed_come : (name : Name) → header.previous ≡ previous.Failed name → (q : Ref) × HasCome (Goes (read.Restore main q)) before after × IsNamedOrGone after i main q name ×
        IsPlaced after q name.slot
    failed_come name e =
        let x = failed_says account state (slot_of main) h.slot.prev header.previous name e h.is_previous in
        let q = x.0 in
        let used = former_used q (subst (λ p. Contains (refs_of_prev p) q) (sym x.2) (Contains-get_or (q ∷ []) 0 q (omega arith))) in
        let choice : IsNamedOrGone v i main q name = elim (cases_eq (main_at state.heap i) main) [
          | inl stands ↦ inl (named q x.1 name x.4 (x.3 i (ap slot_of stands)))
          | inr gone ↦ inr (λ stands. gone (sym (main_same_at state (now v) same i) ∙ stands))
        ] in (
          q,
          comes_by (prev.Failed q) (Goes (read.Restore main q)) x.2 (λ o r. refl),
          subst (λ z. IsNamedOrGone z i main q name) (sym w.after_is) choice,
          subst (λ z. IsPlaced z q name.slot) (sym w.after_is) (used, ap (λ (z : Name). z.slot) (sym x.4)),
        )

    prev_then : (access : Access) (q : Ref) → after_prev access main (prev.Pending q) ≡ Goes (pending_line access main q)
    prev_then Writable q = refl
    prev_then ReadOnly q = refl

    -- it is pending, so it is to be decided
    pub pending_come : (way : Way) → IsOnWay before way → (name : Name) → header.previous ≡ previous.Pending name →
        (q : Ref) × HasCome (Goes (pending_line way.access main q)) before after × KnowsPending after i main q header
    pending_come way on name e =
        let o0 = reading.0 in
        let there = w.waited.stays at_it.operation at_it.runs in
        let o_there : Operation = record at_it.operation { is_marked = there.0 } in
        let met = read_is_met before.sizes account w.waited.sound.bounds before.actor o_there there.1 main (there.2 ∙ at_it.acts) in
        let x = pending_says account state (slot_of main) h.slot.prev header.previous name e met h.is_previous in
        let q = x.0 in
        let is_read = all_read before i (read.Prev main) reading at_it.operation (at_it.operation.is_marked, at_it.runs) in
        let stands = pending_stands before.sizes account w.waited.sound.bounds before.actor o_there there.1 i main q is_read (prev_is state main h.slot h.stores ∙ x.2) in
        let used = former_used q (subst (λ p. Contains (refs_of_prev p) q) (sym x.2) (Contains-get_or (q ∷ []) 0 q (omega arith))) in
        let knows : KnowsPending v i main q header = record { main_is = known; name = name; says = e; names = named q x.1 name x.4 (x.3 i (ap slot_of stands)); used = used } in (
          q,
          comes_by (prev.Pending q) (Goes (pending_line way.access main q)) x.2 (λ o r. ap (λ a. after_prev a main (prev.Pending q)) (on o r).0 ∙ prev_then way.access q),
          subst (λ z. KnowsPending z i main q header) (sym w.after_is) knows,
        )
