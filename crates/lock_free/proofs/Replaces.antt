-- A main node that is made and swapped in, in whichever repair.
use Rattle.std.proofs.Common.{◌≡◌, ◌≤◌, ℕ, true, List, [], length, count_ones, Some, refl, sym, ap, subst, ◌∙◌}
use Rattle.trie_words.specs.declared.entries.Entry.{Entry}
use Rattle.trie_words.specs.declared.headers.Previous.TheVariants as previous
use Rattle.trie_words.specs.declared.links.Link.{Link}
use Rattle.machine_model.specs.Beneath.slot_arena.specs.declared.refs.Ref.{Ref}
use Rattle.machine_model.specs.Beneath.slot_arena.specs.declared.nodes.Node.{Node}
use Rattle.machine_model.specs.Beneath.slot_arena.specs.Heaps.{entries_of, node_at}
use Rattle.machine_model.specs.declared.actions.Action.{Action}
use Rattle.machine_model.specs.declared.lines.Line.{Line}
use Rattle.machine_model.specs.declared.lines.Line.TheVariants as line
use Rattle.machine_model.specs.declared.lines.Purpose.{Purpose}
use Rattle.machine_model.specs.declared.operations.Operation.{Operation}
use Rattle.machine_model.specs.Operations.{line_action, swapped}
use Rattle.machine_model.specs.Swapping.{swapping}
use Rattle.proof_memory.specs.Wants.{is_main_node, is_branch_or_list}
use Rattle.lock_free.specs.declared.reading.Way.{Way}
use Rattle.lock_free.specs.declared.rules.View.{View}
use Rattle.lock_free.specs.declared.swapping.Swapped.{Swapped}
use Rattle.lock_free.specs.Accounts.{place_of}
use Rattle.lock_free.specs.Becoming.{Follows, HasNew, line_made, made_on}
use Rattle.lock_free.specs.Holding.{IsOn}
use Rattle.lock_free.specs.Loading.{now, Runs, IsAt, IsSound, Holds}
use Rattle.lock_free.specs.Making.{over_of, IsOverBy}
use Rattle.lock_free.specs.Nodes.{class_of}
use Rattle.lock_free.specs.Passing.{KnowsLink, IsPlaced, IsOnWay}
use Rattle.lock_free.specs.Repairing.{IsBranch}
use Rattle.lock_free.specs.SeenEntries.{AreEntriesTo, HasEntries, HasSeenEntries, IsOver}
use Rattle.lock_free.specs.Stocks.{HasSwapped}
use Rattle.lock_free.specs.Swaps.{is_done, IsSwapping, IsAtSwap}
use Rattle.lock_free.proofs.BecomesOn.{way_become}
use Rattle.lock_free.proofs.Counts.{entries_counted, entries_few}
use Rattle.lock_free.proofs.Followings.{follows_both, placed_on, link_on}
use Rattle.lock_free.proofs.NewNodes.{class_on}
use Rattle.lock_free.proofs.OnLines.{line_is}

-- ---- the entries of a branch are seen

module _ (n : ℕ) (v : View) (sound : IsSound n v) (main : Ref) (name bitmap : ℕ) (b : IsBranch v main bitmap) where
  abbrev entries_in : List Ref
  entries_in = b.1.items

  kind : is_branch_or_list b.0.node ≡ true
  kind = ap is_branch_or_list b.3

  pub branch_is_main : is_main_node b.0.node ≡ true
  branch_is_main = ap is_main_node b.3

  pub has_entries : Holds v main → place_of v.account main ≡ name → (count : ℕ) → count ≡ count_ones bitmap → HasEntries v name count
  has_entries holds placed count is =
      let many = entries_counted n v sound main b.0 b.2 bitmap b.1 b.3 in
      let so : count ≡ length (entries_of b.0.node) = is ∙ sym many ∙ ap (λ x. length (entries_of x)) (sym b.3) in
      (main, b.0, holds, b.2, kind, so, subst (λ k. k ≤ 32) (many ∙ sym is) (entries_few n v sound main b.0 b.2 bitmap b.1 b.3), placed)

  pub entries_seen : (w : View) (count : ℕ) (entries : List Entry) → count ≡ count_ones bitmap → HasSeenEntries v name count entries w → Holds v main → place_of v.account main ≡ name →
      AreEntriesTo w entries entries_in
  entries_seen w count entries is g holds placed =
      let so : count ≡ length (entries_of b.0.node) = is ∙ sym (entries_counted n v sound main b.0 b.2 bitmap b.1 b.3) ∙ ap (λ x. length (entries_of x)) (sym b.3) in
      subst (λ x. AreEntriesTo w entries (entries_of x)) b.3 (g.1 main b.0 holds b.2 kind so placed)

-- ---- it is made

module _ (v : View) (l : Line) (at : IsOn v l) where
  abbrev its : Operation
  its = record at.0 { is_marked = at.1.0 }

  pub at_make : (does : Action) → line_action (now v) its l ≡ does → IsAt v does
  at_make does is = record { operation = its; runs = at.1.1; acts = ap (line_action (now v) its) at.2 ∙ is }

  -- its header says so
  pub is_over : (i main : Ref) (link : Link) → over_of l ≡ Some (i, main) → KnowsLink v i main link → IsOver v (previous.Pending link.main)
  is_over i main link over k o runs =
      subst (λ x. IsOverBy v.account x (previous.Pending link.main)) (sym (ap over_of (line_is v l at o runs) ∙ over))
      (link.main.own, k.is.names.is_own, ap (λ s. previous.Pending (record { slot = s; own = link.main.own })) (sym k.is.names.place))

  module _ (why : Purpose) (i main : Ref) (node : Node) (w : View) (name : ℕ) (new : HasNew v node name w)
      (leads : (o : Operation) → line_made (now v) o l new.made ≡ line.Swap why (swapping i main new.made)) where
    pub is_swapping : IsSwapping w why i main new.made
    is_swapping = (made_on (now v) new.made at.0, new.become.comes at.0 at.1, ap (λ x. line_made (now v) at.0 x new.made) at.2 ∙ leads at.0)

    pub at_swap : (place : ℕ) (link : Link) (class : ℕ) → IsPlaced v i place → KnowsLink v i main link → class_of (node_at (now v).heap main) ≡ class → IsAtSwap w place link class name
    at_swap place link class p k is = (
      why,
      i,
      main,
      new.made,
      is_swapping,
      placed_on v w new.become.follows i place p,
      link_on v w new.become.follows i main link k,
      new.placed,
      class_on v w new.become.follows main k.main_used ∙ is,
    )

    pub swap_way : (way : Way) → IsOnWay v way → IsOnWay w way
    swap_way way on = way_become v w (made_on (now v) new.made) new.become l at way (λ o. refl) (λ o. refl) on

    -- it ends there
    module _ (result : Swapped) (x : View) (s : HasSwapped w result x) where
      pub swap_follows : Follows v x
      swap_follows = follows_both v w x new.become.follows (s why i main new.made is_swapping).follows

      pub swap_comes : (o : Operation) → Runs v o → Runs x (record o { private = []; line = swapped o node why (is_done result) })
      swap_comes o runs =
          let done = (s why i main new.made is_swapping).comes (made_on (now v) new.made o) (new.become.comes o runs) in
          subst (λ m. Runs x (record o { private = []; line = swapped (made_on (now v) new.made o) m why (is_done result) })) new.node_is done
