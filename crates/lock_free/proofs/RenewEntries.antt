-- RENEW at an entry: it is kept, or a new indirection comes to its place.
use Rattle.std.proofs.Common.{◌≡◌, ◌++◌, ℕ, Bool, true, false, List, [], ◌∷◌, inl, inr, Contains, length, Option, None, Some, append-nil, refl, sym, ap, ap₂, subst, ◌∙◌, unwrap_or}
use Rattle.std.proofs.lemmas.Bool.{false≢true, true≢false}
use Rattle.std.proofs.lemmas.List.Elements.{Contains-append_left, Contains-append_right}
use Rattle.std.proofs.lemmas.Option.{same_Some}
use Rattle.history.specs.declared.replies.Reply.TheVariants as reply
use Rattle.trie_words.specs.declared.entries.Entry.{Entry}
use Rattle.machine_model.specs.Beneath.slot_arena.specs.declared.refs.Ref.{Ref}
use Rattle.machine_model.specs.Beneath.slot_arena.specs.declared.nodes.Node.{Node}
use Rattle.machine_model.specs.Beneath.slot_arena.specs.declared.nodes.Node.TheVariants.{Indirection, Single}
use Rattle.machine_model.specs.Beneath.slot_arena.specs.Heaps.{node_at}
use Rattle.machine_model.specs.declared.actions.Action.TheVariants as act
use Rattle.machine_model.specs.declared.lines.Line.{Line}
use Rattle.machine_model.specs.declared.lines.Line.TheVariants as line
use Rattle.machine_model.specs.declared.operations.Operation.{Operation}
use Rattle.machine_model.specs.declared.reading.ReadLine.TheVariants as read
use Rattle.machine_model.specs.declared.repairs.RenewLine.TheVariants as renew
use Rattle.machine_model.specs.Operations.{action_of}
use Rattle.machine_model.specs.Reading.{reading}
use Rattle.machine_model.specs.Renewing.{renew_next}
use Rattle.proof_memory.specs.Wants.{done_wants, is_indirection, is_main_node, AMain, Claim, Is}
use Rattle.lock_free.specs.declared.reading.Given.{Given}
use Rattle.lock_free.specs.declared.reading.Passed.TheVariants as passed
use Rattle.lock_free.specs.declared.reading.Way.{Way}
use Rattle.lock_free.specs.declared.reading.ReadFrom.{ReadFrom}
use Rattle.lock_free.specs.declared.reading.ReadFrom.TheVariants as resume
use Rattle.lock_free.specs.declared.reclaiming.Kind.TheVariants as kinds
use Rattle.lock_free.specs.declared.renewing.RenewedEntry.{RenewedEntry}
use Rattle.lock_free.specs.declared.rules.View.{View}
use Rattle.lock_free.specs.Accounts.{bounds_for}
use Rattle.lock_free.specs.Becoming.{HasNew, HasRested, made_on}
use Rattle.lock_free.specs.Changing.{HasBuilt, HasBuiltNode}
use Rattle.lock_free.specs.Classes.{shape_class}
use Rattle.lock_free.specs.Entries.{entry_in}
use Rattle.lock_free.specs.Holding.{IsOn, HasComeTo}
use Rattle.lock_free.specs.Leaving.{Halts}
use Rattle.lock_free.specs.Live.{at_hand, line_claims, refs_of_claim, refs_of_claims}
use Rattle.lock_free.specs.Loading.{now, Runs, IsAt, IsSound}
use Rattle.lock_free.specs.Nodes.{class_of, is_single}
use Rattle.lock_free.specs.Owing.{names_made}
use Rattle.lock_free.specs.Owning.{IsBuilding, MayOwn}
use Rattle.lock_free.specs.Passing.{Later, IsPlaced, IsReading, IsPassing, IsOnWay, HasPassed, HasGiven}
use Rattle.lock_free.specs.Raising.{IsShared, MayHoldOne}
use Rattle.lock_free.specs.Reclaiming.{kind_of_node}
use Rattle.lock_free.specs.Repairing.{HasStart, IsAtRenewed, renew_looked, HasLookedOld, RenewedOrNot, HasRenewed}
use Rattle.lock_free.specs.Stocks.{Stocked, IsStock}
use Rattle.lock_free.proofs.BecomesOn.{become_so, moved_become, start_become, stock_moved}
use Rattle.lock_free.proofs.EntriesTo.{entry_named, entry_to_on}
use Rattle.lock_free.proofs.Followings.{become_both, follows_both, follows_later}
use Rattle.lock_free.proofs.GivenBack.{node_is}
use Rattle.lock_free.proofs.KeyHolds.{LooksIn, node_then}
use Rattle.lock_free.proofs.Laters.{placed_later}
use Rattle.lock_free.proofs.MainClasses.{class_known}
use Rattle.lock_free.proofs.NextEntries.{holds_next}
use Rattle.lock_free.proofs.OnLines.{line_is, moves_on, reading_on, given_moved, moved_both, way_on}
use Rattle.lock_free.proofs.OwesPrivate.{renew_links}
use Rattle.lock_free.proofs.Pools.{first_there, one_there}
use Rattle.lock_free.proofs.RepairLooks.{renew_same, renew_parts}
use Rattle.lock_free.proofs.Leavings.{halts_gives, halts_later, halts_stock, line_may, read_halts}

-- the last of its claims
last_claim : (cs : List Claim) (child : Ref) → Contains (refs_of_claims (cs ++ Is child AMain ∷ [])) child
last_claim [] child = first_there child []
last_claim (c ∷ cs) child = Contains-append_right (refs_of_claim c) (refs_of_claims (cs ++ Is child AMain ∷ [])) child (last_claim cs child)

-- a main node is no indirection
main_no_link : (n : Node) → is_main_node n ≡ true → is_indirection n ≡ true → ⊥
main_no_link (Indirection generation main) is link = true≢false (sym is)
main_no_link node is link = true≢false (sym link)

pub main_kind_is : (n : Node) → is_main_node n ≡ true → kind_of_node n ≡ kinds.Main
main_kind_is (Indirection generation main) is = absurd (true≢false (sym is))
main_kind_is (Single key value) is = absurd (true≢false (sym is))
main_kind_is node is = refl

module _ (n : ℕ) (v0 v1 : View) (sound0 : IsSound n v0) (entry : Entry) (is_at : IsAtRenewed v0 entry) (kept : Bool) (looked : HasLookedOld v0 kept v1) where
  abbrev path : List Ref
  path = is_at.0

  abbrev main : Ref
  main = is_at.1

  abbrev done : List Ref
  done = is_at.2

  abbrev l0 : Line
  l0 = line.Renew (renew.Entry path main done)

  abbrev at0 : IsOn v0 l0
  at0 = is_at.3

  abbrev e : Ref
  e = entry_in v0 main (length done)

  h : LooksIn v0 main (length done)
  h = holds_next v0 l0 at0 path main done (λ k c a. refl) n sound0

  come_by : (b : Bool) → kept ≡ b → HasComeTo (renew_looked (now v0) path main done b) v0 v1
  come_by b is = subst (λ x. HasComeTo (renew_looked (now v0) path main done x) v0 v1) is (looked path main done at0)

  later1 : Later v0 v1
  later1 = (looked path main done at0).later

  elsewhere : (result : Option RenewedEntry) (w : View) → RenewedOrNot v0 path main done result w → HasRenewed v0 result w
  elsewhere result w here p m d other =
      subst (λ (x : List Ref × Ref × List Ref). RenewedOrNot v0 x.0 x.1 x.2 result w) (ap renew_parts (sym (line_is v0 l0 at0 other.0 other.1) ∙ other.2)) here

  pub looked_stock : (stock : Stocked) → IsStock stock v0 → IsStock stock v1
  looked_stock stock is = stock_moved n v0 v1 sound0 l0 at0 (λ o. renew_looked (now v0) path main done kept) (looked path main done at0) stock is

  -- ---- it is kept

  -- with nothing more of its own
  no_more : (next : Line) (o : Operation) → record o { line = next } ≡ record o { private = o.private ++ []; line = next }
  no_more next o = ap (λ ps. record o { private = ps; line = next }) (sym (append-nil o.private))

  pub kept_renewed : kept ≡ true → HasRenewed v0 (Some (record { entry = entry; is_kept = true })) v1
  kept_renewed is =
      let next = renew_next (now v0) path main (done ++ e ∷ []) in
      elsewhere (Some (record { entry = entry; is_kept = true })) v1 (record {
        one = e;
        become = become_so v0 v1 (λ o. record o { line = next }) (λ o. record o { private = o.private ++ []; line = next }) (λ o runs. no_more next o) (moved_become v0 v1 (λ o. next)
            (come_by true is));
        names = entry_named v0 main (length done) entry is_at.4 ∙ sym (entry_to_on v0 v1 (follows_later v0 v1 later1) e h.entry_used);
        stood = λ kept. refl;
      })

  -- ---- it is read

  module _ (old : kept ≡ false) where
    abbrev l1 : Line
    l1 = line.Renew (renew.Read path main done (reading e))

    at1 : IsOn v1 l1
    at1 = moves_on v0 l0 at0 v1 l1 (come_by false old)

    is_reading : IsReading v1 e read.Main
    is_reading = reading_on v1 l1 at1 e read.Main refl

    pub old_passing : IsPassing v1 entry.slot resume.Start
    old_passing = (e, placed_later v0 v1 later1 e entry.slot is_at.4.placed, is_reading)

    pub old_way : (way : Way) → IsOnWay v0 way → IsOnWay v1 way
    old_way way on = way_on v0 v1 l0 (λ o. l1) way at0 (come_by false old) on

    -- the READ is out of tries
    module _ (place : ReadFrom) (v2 : View) (h : HasPassed v1 (passed.Again place) v2) where
      spent : Halts (λ o. reply.NoSlots) v1 v2
      spent = read_halts (λ o. reply.NoSlots) v1 v2 e read.Main is_reading place h (line_may (λ o. reply.NoSlots) v1 l1 at1 (λ o. refl))

      pub spent_renewed : HasRenewed v0 None v2
      spent_renewed = elsewhere None v2 (halts_gives (λ o. reply.NoSlots) v0 v2 (halts_later reply.NoSlots v0 v1 v2 (λ o. l1) (come_by false old) spent))

      pub spent_stock : IsSound n v1 → (stock : Stocked) → IsStock stock v0 → IsStock stock v2
      spent_stock sound1 stock is = halts_stock (λ o. reply.NoSlots) n v1 v2 sound1 l1 at1 spent stock (looked_stock stock is)

    module _ (v2 : View) (sound1 : IsSound n v1) (sound2 : IsSound n v2) (given : Given) (p : HasPassed v1 (passed.Gives given) v2) where
      g : HasGiven v1 e given v2
      g = p e read.Main is_reading

      abbrev child : Ref
      child = g.main

      abbrev l2 : Line
      l2 = line.Renew (renew.Link path main done child)

      come2 : HasComeTo l2 v1 v2
      come2 = given_moved v1 l1 at1 v2 child g.come

      at2 : IsOn v2 l2
      at2 = moves_on v1 l1 at1 v2 l2 come2

      come02 : HasComeTo l2 v0 v2
      come02 = moved_both v0 v1 v2 (λ o. l1) (λ o. l2) (λ o. l2) (λ o l. refl) (come_by false old) come2

      pub link_stock : (stock : Stocked) → IsStock stock v0 → IsStock stock v2
      link_stock stock is = stock_moved n v1 v2 sound1 l1 at1 (λ o. l2) come2 stock (looked_stock stock is)

      module _ (start : ℕ) (begun : HasStart v0 start) where
        its_start : (o : Operation) → Runs v2 o → unwrap_or o.generation 0 ≡ start
        its_start o runs =
            ap (λ g. unwrap_or g 0) (start_become v0 v2 (λ o. record o { line = l2 }) (moved_become v0 v2 (λ o. l2) come02) l0 at0 start (λ o. refl) begun o runs)

        its_making : IsAt v2 (act.Make (Indirection start child))
        its_making = record {
          operation = record at2.0 { is_marked = at2.1.0 };
          runs = at2.1.1;
          acts = subst (λ x. action_of (now v2) (record at2.0 { is_marked = at2.1.0; line = x }) ≡ act.Make (Indirection start child)) (sym at2.2)
              (ap (λ g. act.Make (Indirection g child)) (its_start at2.0 at2.1));
        }

        -- the main node isn't private: what is so are indirections
        apart : (k : Ref) → k ≡ child → IsShared v2 k
        apart k same operation runs c =
            let on = line_is v2 l2 at2 operation (operation.is_marked, runs) in
            let link = renew_links (bounds_for v2.sizes v2.account.steps) sound2.bounds v2.account.steps v2.actor operation runs (renew.Link path main done child) on k c in
            main_no_link (node_at (now v2).heap child) (subst (λ x. is_main_node x ≡ true) (sym (node_is (now v2) child g.header.slot g.header.used)) g.header.is_main)
            (subst (λ r. is_indirection (node_at (now v2).heap r) ≡ true) same link)

        at_hand_child : Contains (at_hand (now v2) (record at2.0 { is_marked = at2.1.0 })) child
        at_hand_child =
            let o : Operation = record at2.0 { is_marked = at2.1.0 } in
            Contains-append_left (refs_of_claims (line_claims (now v2) o)) o.private child
            (subst (λ (x : Line). Contains (refs_of_claims (line_claims (now v2) (record o { line = x }))) child) (sym at2.2) (last_claim (done_wants path main done) child))

        pub link_holds : (class : ℕ) → class ≡ shape_class given.header.shape → MayHoldOne v2 kinds.Main class given.link.main.slot
        link_holds class is = record {
          one = child;
          hand = (
            (record at2.0 { is_marked = at2.1.0 }, at2.1.1, inl at_hand_child),
            record {
              slot = g.header.slot;
              used = g.header.used;
              class_is = sym (ap class_of (node_is (now v2) child g.header.slot g.header.used)) ∙ class_known n v2 sound2 child given.header g.header ∙ sym is;
              place = g.link.is.names.place;
            },
          );
          its_kind = ap kind_of_node (node_is (now v2) child g.header.slot g.header.used) ∙ main_kind_is g.header.slot.node g.header.is_main;
          shared = apart child refl;
          names = λ operation runs k c.
              (let same = same_Some its_making.operation operation (sym its_making.runs ∙ runs) in
              inr (one_there child k (subst (λ ks. Contains ks k) (ap (λ o. names_made (action_of (now v2) o)) (sym same) ∙ ap names_made its_making.acts) c)));
        }

        pub link_making : (r : Ref) × (p : IsAt v2 (act.Make (Indirection start r))) × IsPlaced v2 r given.link.main.slot × MayOwn p.operation.line (Indirection start r) false
        unfolding at2 its_making
        link_making = (child, its_making, (g.link.main_used, g.link.is.names.place), (λ e. absurd (false≢true e), λ b. absurd (subst (λ x. IsBuilding x child) at2.2 b)))

        module _ (v3 : View) (result : Option ℕ) (built : HasBuilt v2 result v3) where
          pub none_renewed : result ≡ None → HasRenewed v0 None v3
          none_renewed is =
              let rests : HasRested v2 v3 = subst (λ r. HasBuiltNode v2 (Indirection start child) r v3) is (built (Indirection start child) its_making) in
              elsewhere None v3 (record {
                follows = follows_both v0 v2 v3 (follows_later v0 v2 come02.later) rests.follows;
                runs = λ o runs. (o.private, l2, rests.comes (record o { line = l2 }) (come02.comes o runs), refl);
              })

          pub some_renewed : (slot : ℕ) → result ≡ Some slot → HasRenewed v0 (Some (record { entry = record { slot = slot; own = false; is_single = false }; is_kept = false })) v3
          some_renewed slot is =
              let new : HasNew v2 (Indirection start child) slot v3 = subst (λ r. HasBuiltNode v2 (Indirection start child) r v3) is (built (Indirection start child) its_making) in
              let next = renew_next (now v0) path main (done ++ new.made ∷ []) in
              let same = node_then v0 main (length done) h v2 come02.later in
              elsewhere (Some (record { entry = record { slot = slot; own = false; is_single = false }; is_kept = false })) v3 (record {
                one = new.made;
                become = become_so v0 v3 (λ o. made_on (now v2) new.made (record o { line = l2 })) (λ o. record o { private = o.private ++ new.made ∷ []; line = next })
                    (λ o runs. ap (λ x. record o { private = o.private ++ new.made ∷ []; line = x }) (renew_same (now v2) (now v0) path main same (done ++ new.made ∷ [])))
                    (become_both v0 v2 v3 (λ o. record o { line = l2 }) (made_on (now v2) new.made) (moved_become v0 v2 (λ o. l2) come02) new.become);
                names = ap₂ (λ s b. record { slot = s; own = false; is_single = b }) (sym new.placed.1) (sym (ap is_single new.node_is));
                stood = λ kept. absurd (false≢true kept);
              })
