-- CLEAN of a branch, and CLEAN as a whole.
use Rattle.std.proofs.Common.{◌≡◌, ◌==◌, ◌⊎◌, ◌&&◌, ◌++◌, ℕ, Bool, true, false, not, List, [], ◌∷◌, Contains, count_ones, length, None, Some, inl, inr, refl, sym, ap, ap₂, subst, ◌∙◌, arith}
use Rattle.std.proofs.lemmas.List.Elements.{All-contains, Contains-get_or, Contains-append_left, Contains-append_right}
use Rattle.nodes.specs.Builders.{contracted}
use Rattle.history.specs.declared.replies.Reply.TheVariants as reply
use Rattle.trie_words.specs.declared.entries.Entry.{Entry}
use Rattle.trie_words.specs.declared.headers.Previous.TheVariants as previous
use Rattle.trie_words.specs.declared.links.Link.{Link}
use Rattle.machine_model.specs.Beneath.slot_arena.specs.declared.refs.Ref.{Ref}
use Rattle.machine_model.specs.Beneath.slot_arena.specs.declared.nodes.Node.{Node}
use Rattle.machine_model.specs.Beneath.slot_arena.specs.declared.nodes.Node.TheVariants.{Indirection, Branch, Single, Tomb, List as Listed}
use Rattle.machine_model.specs.Beneath.slot_arena.specs.declared.nodes.Slot.{Slot}
use Rattle.machine_model.specs.Beneath.slot_arena.specs.Heaps.{node_at, bitmap_of, entries_of}
use Rattle.machine_model.specs.declared.actions.Action.TheVariants as act
use Rattle.machine_model.specs.declared.lines.Line.{Line}
use Rattle.machine_model.specs.declared.lines.Line.TheVariants as line
use Rattle.machine_model.specs.declared.lines.Purpose.TheVariants as purpose
use Rattle.machine_model.specs.declared.operations.Operation.{Operation}
use Rattle.machine_model.specs.declared.repairs.CleanLine.TheVariants as clean
use Rattle.machine_model.specs.Cleaning.{leaves_single}
use Rattle.machine_model.specs.Cleaning.{is_single as is_a_single}
use Rattle.machine_model.specs.Paths.{current, is_below_root}
use Rattle.proof_memory.proofs.Claims.Uses.{Meets, all_of}
use Rattle.proof_memory.specs.Wants.{is_entry, AnEntry}
use Rattle.lock_free.specs.declared.cleaning.CleanedEntries.{CleanedEntries}
use Rattle.lock_free.specs.declared.reading.Way.{Way}
use Rattle.lock_free.specs.declared.rules.View.{View}
use Rattle.lock_free.specs.declared.swapping.Swapped.{Swapped}
use Rattle.lock_free.specs.Becoming.{HasNew, made_on}
use Rattle.lock_free.specs.Changing.{HasBuilt, HasBuiltNode}
use Rattle.lock_free.specs.Contracting.{counted_in, IsAtContracted}
use Rattle.lock_free.specs.Entries.{HasStayed}
use Rattle.lock_free.specs.Holding.{IsOn, HasComeTo}
use Rattle.lock_free.specs.Live.{IsLive, line_claims, refs_of_claims}
use Rattle.lock_free.specs.Loading.{now, Runs, IsAt, IsSound, IsUsed, Holds}
use Rattle.lock_free.specs.Nodes.{is_single}
use Rattle.lock_free.specs.Passing.{KnowsLink, IsOnWay, Later}
use Rattle.lock_free.specs.Raising.{MayHold}
use Rattle.lock_free.specs.Repairing.{IsBranchBelow, IsAtCleanedBranch, AgainOrNot, HasCleanedBranch, IsCleaning, any_changed, clean_end, CleanedAll, HasCleanedAll}
use Rattle.lock_free.specs.SeenEntries.{HasEntries, HasSeenEntries, IsOver}
use Rattle.lock_free.specs.Stocks.{Stocked, IsStock, HasSwapped}
use Rattle.lock_free.specs.Swaps.{IsAtSwap}
use Rattle.lock_free.proofs.Asked.{live_in_use}
use Rattle.lock_free.proofs.BecomesOn.{stock_moved}
use Rattle.lock_free.proofs.ContractedNames.{contracted_holds}
use Rattle.lock_free.proofs.Followings.{follows_both, follows_later, main_node_on}
use Rattle.lock_free.proofs.GivenBack.{node_is}
use Rattle.lock_free.proofs.Laters.{placed_later, link_later}
use Rattle.lock_free.proofs.OnLines.{line_is, finds_now, stays_on, moves_on, stayed_moved, way_on}
use Rattle.lock_free.proofs.Replaces.{branch_is_main, has_entries, entries_seen, at_make, is_over, at_swap, is_swapping, swap_way, swap_follows, swap_comes}
use Rattle.lock_free.specs.declared.leaving.Swapping.{Swapping}
use Rattle.lock_free.specs.Leaving.{HasLeftSwap, IsRepair, IsSpent, LeavesSwap}
use Rattle.lock_free.proofs.Leavings.{halts_gives, halts_later, halts_stock}
use Rattle.lock_free.proofs.SharedEntries.{clean_shared}
use Rattle.lock_free.proofs.RunningOn.{runs_on_become, runs_on_both, runs_on_moved}
use Rattle.lock_free.proofs.SwapsBegun.{leaves_swap}
use Rattle.lock_free.specs.Places.{class_for}
use Rattle.lock_free.proofs.MainClasses.{branch_class}
use Rattle.lock_free.proofs.NewNodes.{class_on}

single_kinds : (node : Node) → is_a_single node ≡ is_single node
single_kinds (Single k v) = refl
single_kinds (Indirection generation main) = refl
single_kinds (Branch bitmap entries) = refl
single_kinds (Tomb single) = refl
single_kinds (Listed singles) = refl

-- a stock stays while the operation stays
pub stay_moves : (v w : View) (l : Line) (at : IsOn v l) → HasStayed v w → HasComeTo l v w
stay_moves v w l at s = record { later = s.later; comes = λ o runs. subst (λ x. Runs w (record o { line = x })) (line_is v l at o runs) (s.comes o runs) }

module _ (n : ℕ) (v0 : View) (sound0 : IsSound n v0) (name : ℕ) (link : Link) (bitmap : ℕ) (may : Bool) (is_at : IsAtCleanedBranch v0 name link bitmap may) where
  abbrev path : List Ref
  path = is_at.0

  abbrev main : Ref
  main = is_at.1

  abbrev l0 : Line
  l0 = line.Clean (clean.Main path main)

  abbrev at0 : IsOn v0 l0
  at0 = is_at.2

  abbrev b : IsBranchBelow v0 path main name link bitmap
  b = is_at.3

  abbrev its : Operation
  its = record at0.0 { is_marked = at0.1.0 }

  holds : Holds v0 main
  holds = (
    its,
    at0.1.1,
    inl (Contains-append_left (refs_of_claims (line_claims (now v0) its)) its.private main
        (subst (λ (x : Line). Contains (refs_of_claims (line_claims (now v0) (record its { line = x }))) main) (sym at0.2)
        (Contains-append_right path (main ∷ []) main (Contains-get_or (main ∷ []) 0 main (omega arith))))),
  )

  pub clean_has : (count : ℕ) → count ≡ count_ones bitmap → HasEntries v0 link.main.slot count
  clean_has count is = has_entries n v0 sound0 main link.main.slot bitmap b.branch holds b.link_is.is.names.place count is

  elsewhere : (result : Bool) (w : View) → AgainOrNot v0 result w → HasCleanedBranch v0 result w
  elsewhere result w here p m other = here

  module _ (v1 : View) (sound1 : IsSound n v1) (count : ℕ) (entries : List Entry) (is : count ≡ count_ones bitmap) (g : HasSeenEntries v0 link.main.slot count entries v1) where
    stayed : HasStayed v0 v1
    stayed = g.0

    at1 : IsOn v1 l0
    at1 = stays_on v0 l0 at0 v1 stayed

    node_on : (w : View) → Later v0 w → node_at (now w).heap main ≡ Branch bitmap b.branch.1
    node_on w later =
        main_node_on v0 w (follows_later v0 w later) main b.branch.0 b.branch.2 (branch_is_main n v0 sound0 main link.main.slot bitmap b.branch) ∙ node_is (now v0) main b.branch.0 b.branch.2
        ∙ b.branch.3

    pub cleaning : IsCleaning v1 link.main.slot entries
    cleaning = record {
      path = path;
      main = main;
      on = at1;
      placed = placed_later v0 v1 stayed.later main link.main.slot (b.link_is.main_used, b.link_is.is.names.place);
      bitmap = bitmap;
      refs = b.branch.1;
      node = node_on v1 stayed.later;
      names = entries_seen n v0 sound0 main link.main.slot bitmap b.branch v1 count entries is g holds b.link_is.is.names.place;
    }

    pub cleaning_way : (way : Way) → IsOnWay v0 way → IsOnWay v1 way
    cleaning_way way on = way_on v0 v1 l0 (λ o. l0) way at0 (stay_moves v0 v1 l0 at0 stayed) on

    pub cleaning_stock : (stock : Stocked) → IsStock stock v0 → IsStock stock v1
    cleaning_stock stock h = stock_moved n v0 v1 sound0 l0 at0 (λ o. l0) (stay_moves v0 v1 l0 at0 stayed) stock h

    -- it is out of tries
    module _ (v2 : View) (h : IsSpent v1 v2) where
      pub spent_branch : HasCleanedBranch v0 false v2
      spent_branch = elsewhere false v2 (halts_gives (λ o. reply.NoSlots) v0 v2 (halts_later reply.NoSlots v0 v1 v2 (λ o. l0) (stay_moves v0 v1 l0 at0 stayed) h))

      pub spent_branch_stock : (stock : Stocked) → IsStock stock v0 → IsStock stock v2
      spent_branch_stock stock is = halts_stock (λ o. reply.NoSlots) n v1 v2 sound1 l0 at1 h stock (cleaning_stock stock is)

    module _ (v2 : View) (sound2 : IsSound n v2) (cleaned : CleanedEntries) (c : HasCleanedAll v1 cleaned v2) where
      abbrev changed : Bool
      changed = any_changed cleaned.singles.items

      all : CleanedAll v1 path main cleaned v2
      all = c path main at1

      pub cleaned_stock : (stock : Stocked) → IsStock stock v0 → IsStock stock v2
      cleaned_stock stock h = stock_moved n v1 v2 sound1 l0 at1 (λ o. clean_end path main all.done changed) all.come stock (cleaning_stock stock h)

      come : (x : Bool) → changed ≡ x → HasComeTo (clean_end path main all.done x) v0 v2
      come x so = stayed_moved v0 v1 v2 (λ o. clean_end path main all.done x) stayed (subst (λ y. HasComeTo (clean_end path main all.done y) v1 v2) so all.come)

      -- nothing has changed
      pub unchanged : (length cleaned.singles.items == 0) ≡ true → HasCleanedBranch v0 true v2
      unchanged none =
          let m = come false (ap not none) in
          elsewhere true v2 (record { follows = follows_later v0 v2 m.later; comes = λ o runs. (o.private, m.comes o runs) })

      module _ (some : (length cleaned.singles.items == 0) ≡ false) where
        abbrev l2 : Line
        l2 = line.Clean (clean.Contracted path main all.done)

        come2 : HasComeTo l2 v0 v2
        come2 = come true (ap not some)

        at2 : IsOn v2 l2
        at2 = moves_on v0 l0 at0 v2 l2 come2

        node2 : node_at (now v2).heap main ≡ Branch bitmap b.branch.1
        node2 = node_on v2 come2.later

        abbrev entombs : Bool
        entombs = is_below_root path && leaves_single (now v2) all.done

        done_entry : (k : Ref) → Contains all.done k → (slot : Slot) × IsUsed v2 k slot × (is_entry slot.node ≡ true)
        done_entry k c =
            let claims = finds_now v2 l2 at2 n sound2 in
            let h = All-contains (Meets (IsLive (now v2)) (now v2).heap AnEntry) all.done k (all_of claims.1.1.1.0) c in
            let u = live_in_use v2.sizes v2.account sound2.bounds k h.0 in
            (u.0, u.1, subst (λ x. is_entry x ≡ true) (node_is (now v2) k u.0 u.1) h.1)

        abbrev node : Node
        node = contracted entombs bitmap all.done

        makes_it : IsAt v2 (act.Make node)
        makes_it = at_make v2 l2 at2 (act.Make node) (ap (λ x. act.Make (contracted entombs (bitmap_of x) all.done)) node2)

        pub contracted_making : IsAtContracted v2 may bitmap cleaned.entries.items
        contracted_making = record {
          refs = all.done;
          entombs = entombs;
          making = makes_it;
          names = all.names;
          lone = λ r one. (
            (let u = done_entry r (subst (λ ks. Contains ks r) (sym one) (0, omega arith, refl)) in (u.0, u.1)),
            ap₂ (λ x y. x && y) is_at.4 (ap (leaves_single (now v2)) one ∙ single_kinds (node_at (now v2).heap r)),
          );
        }

        link2 : KnowsLink v2 (current path) main link
        link2 = link_later v0 v2 come2.later (current path) main link b.link_is

        pub contracted_over : IsOver v2 (previous.Pending link.main)
        contracted_over = is_over v2 l2 at2 (current path) main link refl link2

        -- what it names is at hand
        done_held : (k : Ref) → Contains all.done k → Holds v2 k
        done_held k c =
            let o : Operation = record at2.0 { is_marked = at2.1.0 } in (
              o,
              at2.1.1,
              inl (Contains-append_left (refs_of_claims (line_claims (now v2) o)) o.private k
                  (subst (λ (x : Line). Contains (refs_of_claims (line_claims (now v2) (record o { line = x }))) k) (sym at2.2)
                  (Contains-append_right path (main ∷ all.done ++ main ∷ []) k (Contains-append_right (main ∷ []) (all.done ++ main ∷ []) k (Contains-append_left all.done (main ∷ []) k c))))),
            )

        pub contracted_owes : MayHold v2 (counted_in link.main.own cleaned.entries.items cleaned.singles.items) None
        contracted_owes =
            contracted_holds v2 l2 at2 (current path) main refl link.main link2.is.names entombs bitmap all.done makes_it done_entry done_held
            (clean_shared n v2 sound2 (clean.Contracted path main all.done) at2) all.freed all.among others2 cleaned.entries.items cleaned.singles.items all.names all.freed_names
          where
            others2 : (k : Ref) → Contains all.done k → Contains all.freed k ⊎ Contains (entries_of (node_at (now v2).heap main)) k
            others2 k c = elim (all.others k c) [
              | inl one ↦ inl one
              | inr stays ↦ inr (subst (λ x. Contains (entries_of x) k) (node_on v1 stayed.later ∙ sym node2) stays)
            ]

        module _ (v3 : View) (result : _) (made : HasBuilt v2 result v3) where
          new : HasBuiltNode v2 node result v3
          new = made node makes_it

          pub clean_gives_up : result ≡ None → HasCleanedBranch v0 false v3
          clean_gives_up none =
              let rested = subst (λ r. HasBuiltNode v2 node r v3) none new in
              elsewhere false v3 (record {
                follows = follows_both v0 v2 v3 (follows_later v0 v2 come2.later) rested.follows;
                runs = λ o runs. (o.private, l2, rested.comes (record o { line = l2 }) (come2.comes o runs), refl);
              })

          module _ (fresh : ℕ) (had : result ≡ Some fresh) where
            it : HasNew v2 node fresh v3
            it = subst (λ r. HasBuiltNode v2 node r v3) had new

            pub clean_swap : (class : ℕ) → class ≡ class_for (count_ones bitmap) → IsAtSwap v3 name link class fresh
            clean_swap class is =
                at_swap v2 l2 at2 purpose.Clean (current path) main node v3 fresh it (λ o. refl) name link class (placed_later v0 v2 come2.later (current path) name b.placed) link2
                (class_on v0 v2 (follows_later v0 v2 come2.later) main (b.branch.0, b.branch.2) ∙ branch_class n v0 sound0 main bitmap b.branch ∙ sym is)

            pub clean_swap_way : (way : Way) → IsOnWay v0 way → IsOnWay v3 way
            clean_swap_way way on = swap_way v2 l2 at2 purpose.Clean (current path) main node v3 fresh it (λ o. refl) way (way_on v0 v2 l0 (λ o. l2) way at0 come2 on)

            pub cleaned_there : (swapped : Swapped) (x : View) → HasSwapped v3 swapped x → HasCleanedBranch v0 true x
            cleaned_there swapped x s =
                elsewhere true x (record {
                  follows = follows_both v0 v2 x (follows_later v0 v2 come2.later) (swap_follows v2 l2 at2 purpose.Clean (current path) main node v3 fresh it (λ o. refl) swapped x s);
                  comes = λ o runs. ([], swap_comes v2 l2 at2 purpose.Clean (current path) main node v3 fresh it (λ o. refl) swapped x s (record o { line = l2 }) (come2.comes o runs));
                })

            -- its SWAP is under way
            pub clean_left : (s : Swapping) (x : View) → HasLeftSwap v3 s x → LeavesSwap IsRepair v0 s x
            clean_left s x h =
                leaves_swap IsRepair v0 v3 x s (runs_on_both v0 v2 v3 (runs_on_moved v0 v2 (λ o. l2) come2) (runs_on_become v2 v3 (made_on (now v2) it.made) (λ o. refl) it.become))
                purpose.Clean (current path) main it.made (is_swapping v2 l2 at2 purpose.Clean (current path) main node v3 fresh it (λ o. refl)) tt h
