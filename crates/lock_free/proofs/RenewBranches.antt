-- RENEW of a branch.
use Rattle.std.proofs.Common.{◌≡◌, ◌++◌, ℕ, List, [], Contains, count_ones, Option, None, Some, refl, sym, ap, subst, ◌∙◌}
use Rattle.std.proofs.lemmas.List.Elements.{Contains-append_right}
use Rattle.history.specs.declared.replies.Reply.TheVariants as reply
use Rattle.trie_words.specs.declared.entries.Entry.{Entry}
use Rattle.trie_words.specs.declared.headers.Previous.TheVariants as previous
use Rattle.trie_words.specs.declared.links.Link.{Link}
use Rattle.machine_model.specs.Beneath.slot_arena.specs.declared.refs.Ref.{Ref}
use Rattle.machine_model.specs.Beneath.slot_arena.specs.declared.nodes.Node.{Node}
use Rattle.machine_model.specs.Beneath.slot_arena.specs.declared.nodes.Node.TheVariants.{Branch}
use Rattle.machine_model.specs.Beneath.slot_arena.specs.Heaps.{node_at, bitmap_of, entries_from, entries_of}
use Rattle.machine_model.specs.declared.actions.Action.TheVariants as act
use Rattle.machine_model.specs.declared.lines.Line.{Line}
use Rattle.machine_model.specs.declared.lines.Line.TheVariants as line
use Rattle.machine_model.specs.declared.lines.Purpose.TheVariants as purpose
use Rattle.machine_model.specs.declared.operations.Operation.{Operation}
use Rattle.machine_model.specs.declared.repairs.RenewLine.TheVariants as renew
use Rattle.machine_model.specs.Operations.{swapped}
use Rattle.machine_model.specs.Paths.{current}
use Rattle.nodes.specs.Builders.{renewed}
use Rattle.lock_free.specs.declared.reading.Way.{Way}
use Rattle.lock_free.specs.declared.renewing.Renewed.{Renewed}
use Rattle.lock_free.specs.declared.renewing.Renewed.TheVariants as outcome
use Rattle.lock_free.specs.declared.renewing.RenewedEntries.{RenewedEntries}
use Rattle.lock_free.specs.declared.rules.View.{View}
use Rattle.lock_free.specs.declared.swapping.Swapped.{Swapped}
use Rattle.lock_free.specs.declared.swapping.Swapped.TheVariants.{Commits, Fails, Misses}
use Rattle.lock_free.specs.Becoming.{Follows, HasNew, HasRested, made_on}
use Rattle.lock_free.specs.Changing.{HasBuilt, HasBuiltNode}
use Rattle.lock_free.specs.Entries.{HasStayed}
use Rattle.lock_free.specs.Holding.{IsOn}
use Rattle.lock_free.specs.Loading.{now, Runs, IsSound, Holds}
use Rattle.lock_free.specs.Passing.{KnowsLink, IsOnWay}
use Rattle.lock_free.specs.Repairing.{HasStart, GivesUp, HasEndedAt, IsBranchBelow, IsAtRenew, RenewedBy, HasRenewedBranch, IsRenewing, RenewedAll, AllRenewedOrNot, HasRenewedAll, renewed_by}
use Rattle.lock_free.specs.SeenEntries.{HasEntries, HasSeenEntries, IsAtBranch, IsOver}
use Rattle.lock_free.specs.Stocks.{Stocked, IsStock, HasSwapped}
use Rattle.lock_free.specs.Swaps.{IsAtSwap, is_done}
use Rattle.lock_free.specs.Raising.{MayReplace}
use Rattle.lock_free.proofs.BecomesOn.{becomes_on, moved_become, start_become, stock_moved, way_become}
use Rattle.lock_free.proofs.CleanBranches.{stay_moves}
use Rattle.lock_free.proofs.Comings.{runs_one}
use Rattle.lock_free.proofs.Followings.{follows_both, follows_later, link_on, main_node_on, placed_on}
use Rattle.lock_free.proofs.GivenBack.{node_is}
use Rattle.lock_free.proofs.NextEntries.{holds_next}
use Rattle.lock_free.proofs.OnLines.{line_is, stays_on, way_on}
use Rattle.lock_free.proofs.RenewAll.{with_more}
use Rattle.lock_free.proofs.RenewHolds.{renewal_holds}
use Rattle.lock_free.proofs.RepairLooks.{renew_parts}
use Rattle.lock_free.proofs.Replaces.{branch_is_main, has_entries, entries_seen, at_make, is_over, at_swap, is_swapping, swap_way, swap_follows, swap_comes}
use Rattle.lock_free.specs.declared.leaving.Swapping.{Swapping}
use Rattle.lock_free.specs.Leaving.{HasLeftSwap, IsRepair, LeavesSwap}
use Rattle.lock_free.proofs.RunningOn.{runs_on_become, runs_on_both, runs_on_stayed}
use Rattle.lock_free.proofs.SwapsBegun.{leaves_swap}
use Rattle.lock_free.specs.declared.reclaiming.Retiree.{Retiree}
use Rattle.lock_free.specs.Places.{class_for}
use Rattle.lock_free.proofs.MainClasses.{branch_class}
use Rattle.lock_free.proofs.NewNodes.{class_on}

module _ (n : ℕ) (v0 : View) (sound0 : IsSound n v0) (name : ℕ) (link : Link) (bitmap : ℕ) (is_at : IsAtRenew v0 name link bitmap) where
  abbrev path : List Ref
  path = is_at.0

  abbrev main : Ref
  main = is_at.1

  abbrev l0 : Line
  l0 = line.Renew (renew.Entry path main [])

  abbrev at0 : IsOn v0 l0
  at0 = is_at.2

  abbrev b : IsBranchBelow v0 path main name link bitmap
  b = is_at.3

  holds : Holds v0 main
  holds = (holds_next v0 l0 at0 path main [] (λ k c a. refl) n sound0).holds

  pub renew_has : (count : ℕ) → count ≡ count_ones bitmap → HasEntries v0 link.main.slot count
  renew_has count is = has_entries n v0 sound0 main link.main.slot bitmap b.branch holds b.link_is.is.names.place count is

  elsewhere : (result : Renewed) (w : View) → RenewedBy v0 path result w → HasRenewedBranch v0 result w
  elsewhere result w here p m other =
      subst (λ (x : List Ref × Ref × List Ref). RenewedBy v0 x.0 result w) (ap renew_parts (sym (line_is v0 l0 at0 other.0 other.1) ∙ other.2)) here

  node_on : (w : View) → Follows v0 w → node_at (now w).heap main ≡ Branch bitmap b.branch.1
  node_on w f =
      main_node_on v0 w f main b.branch.0 b.branch.2 (branch_is_main n v0 sound0 main link.main.slot bitmap b.branch) ∙ node_is (now v0) main b.branch.0 b.branch.2 ∙ b.branch.3

  module _ (v1 : View) (sound1 : IsSound n v1) (count : ℕ) (entries : List Entry) (is : count ≡ count_ones bitmap) (g : HasSeenEntries v0 link.main.slot count entries v1) where
    stayed : HasStayed v0 v1
    stayed = g.0

    at1 : IsOn v1 l0
    at1 = stays_on v0 l0 at0 v1 stayed

    pub renewing : IsRenewing v1 entries
    renewing = record {
      path = path;
      main = main;
      on = at1;
      bitmap = bitmap;
      refs = b.branch.1;
      node = node_on v1 (follows_later v0 v1 stayed.later);
      names = entries_seen n v0 sound0 main link.main.slot bitmap b.branch v1 count entries is g holds b.link_is.is.names.place;
    }

    pub renewing_way : (way : Way) → IsOnWay v0 way → IsOnWay v1 way
    renewing_way way on = way_on v0 v1 l0 (λ o. l0) way at0 (stay_moves v0 v1 l0 at0 stayed) on

    pub renewing_start : (start : ℕ) → HasStart v0 start → HasStart v1 start
    renewing_start start begun = start_become v0 v1 (λ o. record o { line = l0 }) (moved_become v0 v1 (λ o. l0) (stay_moves v0 v1 l0 at0 stayed)) l0 at0 start (λ o. refl) begun

    pub renewing_stock : (stock : Stocked) → IsStock stock v0 → IsStock stock v1
    renewing_stock stock h = stock_moved n v0 v1 sound0 l0 at0 (λ o. l0) (stay_moves v0 v1 l0 at0 stayed) stock h

    first : Follows v0 v1
    first = follows_later v0 v1 stayed.later

    module _ (v2 : View) (result : Option RenewedEntries) (c : HasRenewedAll v1 result v2) where
      all : AllRenewedOrNot v1 path main result v2
      all = c path main at1

      pub renew_gives_up : result ≡ None → HasRenewedBranch v0 outcome.Full v2
      renew_gives_up none =
          let up : GivesUp (λ o. reply.NoSlots) v1 v2 = subst (λ r. AllRenewedOrNot v1 path main r v2) none all in
          elsewhere outcome.Full v2 (record { follows = follows_both v0 v1 v2 first up.follows; runs = λ o runs. up.runs o (stayed.comes o runs) })

      module _ (all_entries : RenewedEntries) (some : result ≡ Some all_entries) where
        it : RenewedAll v1 path main all_entries v2
        it = subst (λ r. AllRenewedOrNot v1 path main r v2) some all

        abbrev l2 : Line
        l2 = line.Renew (renew.Branch path main it.done)

        at2 : IsOn v2 l2
        at2 = becomes_on v1 v2 (with_more it.made l2) it.become l0 at1 l2 (λ o e. refl)

        second : Follows v0 v2
        second = follows_both v0 v1 v2 first it.become.follows

        abbrev node : Node
        node = Branch bitmap (entries_from it.done)

        pub branch_making : IsAtBranch v2 bitmap all_entries.entries.items
        branch_making = (it.done, at_make v2 l2 at2 (act.Make node) (ap (λ x. act.Make (renewed (bitmap_of x) it.done)) (node_on v2 second)), it.names)

        link2 : KnowsLink v2 (current path) main link
        link2 = link_on v0 v2 second (current path) main link b.link_is

        pub branch_over : IsOver v2 (previous.Pending link.main)
        branch_over = is_over v2 l2 at2 (current path) main link refl link2

        -- what it has made is its own
        own_then : (o : Operation) → Runs v2 o → (k : Ref) → Contains it.made k → Contains o.private k
        own_then o runs k c =
            let same = runs_one v2 o (with_more it.made l2 at1.0) runs (it.become.comes at1.0 at1.1) in
            subst (λ ps. Contains ps k) (sym (ap (λ (z : Operation). z.private) same)) (Contains-append_right at1.0.private it.made k c)

        -- what is kept stands in the branch still
        stood_then : (k : Ref) → Contains it.kept k → Contains (entries_of (node_at (now v2).heap main)) k
        stood_then k c = subst (λ x. Contains (entries_of x) k) (node_on v1 first ∙ sym (node_on v2 second)) (it.stood k c)

        pub branch_holds : IsSound n v2 → MayReplace v2 link.main.own all_entries.kept.items None
        branch_holds sound2 =
            renewal_holds n v2 sound2 path main it.done it.made it.kept at2 own_then it.each stood_then all_entries.kept.items it.kept_names link.main.own link2.is.names.is_own

        module _ (v3 : View) (got : Option ℕ) (built : HasBuilt v2 got v3) where
          new : HasBuiltNode v2 node got v3
          unfolding branch_making
          new = built node branch_making.1

          pub branch_gives_up : got ≡ None → HasRenewedBranch v0 outcome.Full v3
          branch_gives_up none =
              let rests : HasRested v2 v3 = subst (λ r. HasBuiltNode v2 node r v3) none new in
              elsewhere outcome.Full v3 (record {
                follows = follows_both v0 v2 v3 second rests.follows;
                runs = λ o runs. (o.private ++ it.made, l2, rests.comes (with_more it.made l2 o) (it.become.comes o (stayed.comes o runs)), refl);
              })

          module _ (fresh : ℕ) (had : got ≡ Some fresh) where
            its : HasNew v2 node fresh v3
            its = subst (λ r. HasBuiltNode v2 node r v3) had new

            pub renew_swap : (class : ℕ) → class ≡ class_for (count_ones bitmap) → IsAtSwap v3 name link class fresh
            renew_swap class is =
                at_swap v2 l2 at2 (purpose.Renew path) (current path) main node v3 fresh its (λ o. refl) name link class (placed_on v0 v2 second (current path) name b.placed) link2
                (class_on v0 v2 second main (b.branch.0, b.branch.2) ∙ branch_class n v0 sound0 main bitmap b.branch ∙ sym is)

            pub renew_swap_way : (way : Way) → IsOnWay v0 way → IsOnWay v3 way
            renew_swap_way way on =
                swap_way v2 l2 at2 (purpose.Renew path) (current path) main node v3 fresh its (λ o. refl) way
                (way_become v1 v2 (with_more it.made l2) it.become l0 at1 way (λ o. refl) (λ o. refl) (renewing_way way on))

            ends : (r : Swapped) (x : View) → HasSwapped v3 r x → (l : Line) → ((o : Operation) → swapped o node (purpose.Renew path) (is_done r) ≡ l) → HasEndedAt l v0 x
            ends r x s l same = record {
              follows = follows_both v0 v2 x second (swap_follows v2 l2 at2 (purpose.Renew path) (current path) main node v3 fresh its (λ o. refl) r x s);
              comes = λ o runs. (
                [],
                subst (λ y. Runs x (record o { private = []; line = y })) (same (with_more it.made l2 o))
                    (swap_comes v2 l2 at2 (purpose.Renew path) (current path) main node v3 fresh its (λ o. refl) r x s (with_more it.made l2 o) (it.become.comes o (stayed.comes o runs))),
              );
            }

            module _ (r : Swapped) (x : View) (s : HasSwapped v3 r x) where
              pub swap_commits : (had : Option Retiree) → r ≡ Commits had → HasRenewedBranch v0 outcome.Reads x
              swap_commits had e = elsewhere outcome.Reads x (ends r x s _ (λ o. ap (λ q. swapped o node (purpose.Renew path) (is_done q)) e))

              pub swap_fails : (had : Retiree) → r ≡ Fails had → HasRenewedBranch v0 outcome.Again x
              swap_fails had e = elsewhere outcome.Again x (ends r x s _ (λ o. ap (λ q. swapped o node (purpose.Renew path) (is_done q)) e))

              pub swap_misses : r ≡ Misses → HasRenewedBranch v0 outcome.Again x
              swap_misses e = elsewhere outcome.Again x (ends r x s _ (λ o. ap (λ q. swapped o node (purpose.Renew path) (is_done q)) e))

              by_kind : (q : Swapped) → r ≡ q → HasRenewedBranch v0 (renewed_by q) x
              by_kind (Commits had) e = swap_commits had e
              by_kind (Fails had) e = swap_fails had e
              by_kind Misses e = swap_misses e

              pub swap_ends : HasRenewedBranch v0 (renewed_by r) x
              swap_ends = by_kind r refl

            -- its SWAP is under way
            pub renew_left : (s : Swapping) (x : View) → HasLeftSwap v3 s x → LeavesSwap IsRepair v0 s x
            renew_left s x h =
                leaves_swap IsRepair v0 v3 x s
                (runs_on_both v0 v1 v3 (runs_on_stayed v0 v1 stayed)
                (runs_on_both v1 v2 v3 (runs_on_become v1 v2 (with_more it.made l2) (λ o. refl) it.become) (runs_on_become v2 v3 (made_on (now v2) its.made) (λ o. refl) its.become)))
                (purpose.Renew path) (current path) main its.made (is_swapping v2 l2 at2 (purpose.Renew path) (current path) main node v3 fresh its (λ o. refl)) tt h
