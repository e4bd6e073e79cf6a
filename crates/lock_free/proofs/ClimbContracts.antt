-- CLIMB makes the parent's main node anew.
use Rattle.std.proofs.Common.{◌≡◌, ◌⊎◌, ◌<◌, ◌==◌, ◌&&◌, ◌++◌, ℕ, Bool, true, false, List, [], ◌∷◌, Contains, length, length-set, slice_set, count_ones, Option, None, Some, inl, inr, refl, sym}
use Rattle.std.proofs.Common.{ap, ap₂, subst, ◌∙◌, arith, eqb-true}
use Rattle.std.proofs.lemmas.Bool.{true≢false}
use Rattle.std.proofs.lemmas.List.{get_or-set_same}
use Rattle.std.proofs.lemmas.List.Elements.{Contains-append_left, Contains-append_right}
use Rattle.nodes.specs.Builders.{contracted, renewed}
use Rattle.trie_words.specs.declared.entries.Entry.{Entry}
use Rattle.trie_words.specs.declared.headers.Previous.TheVariants as previous
use Rattle.trie_words.specs.declared.links.Link.{Link}
use Rattle.machine_model.specs.Beneath.slot_arena.specs.declared.refs.Ref.{Ref}
use Rattle.machine_model.specs.Beneath.slot_arena.specs.declared.nodes.Node.{Node}
use Rattle.machine_model.specs.Beneath.slot_arena.specs.declared.nodes.Node.TheVariants.{Branch, Tomb}
use Rattle.machine_model.specs.Beneath.slot_arena.specs.declared.nodes.Slot.{Slot}
use Rattle.machine_model.specs.Beneath.slot_arena.specs.Heaps.{no_ref, node_at, entries_of, bitmap_of}
use Rattle.machine_model.specs.declared.actions.Action.TheVariants as act
use Rattle.machine_model.specs.declared.lines.Line.{Line}
use Rattle.machine_model.specs.declared.lines.Line.TheVariants as line
use Rattle.machine_model.specs.declared.lines.Purpose.TheVariants as purpose
use Rattle.machine_model.specs.declared.operations.Operation.{Operation}
use Rattle.machine_model.specs.declared.repairs.Climb.{Climb}
use Rattle.machine_model.specs.declared.repairs.ClimbLine.TheVariants as climb
use Rattle.machine_model.specs.declared.roots.RootLine.TheVariants as root
use Rattle.machine_model.specs.Climbing.{climbed, climbing, higher}
use Rattle.machine_model.specs.GivingUp.{given_up}
use Rattle.machine_model.specs.Operations.{swapped, climbed_on}
use Rattle.machine_model.specs.Paths.{above, current, is_below_root}
use Rattle.proof_linearizable.specs.Beneath.proof_shape.proofs.Runs.Entries.{of_set}
use Rattle.proof_memory.proofs.Claims.Uses.{safe_of}
use Rattle.proof_memory.specs.Wants.{is_branch_or_list, is_entry}
use Rattle.lock_free.specs.declared.climbing.Climbed.{Climbed}
use Rattle.lock_free.specs.declared.climbing.Climbed.TheVariants as outcome
use Rattle.lock_free.specs.declared.reading.Way.{Way}
use Rattle.lock_free.specs.declared.rules.View.{View}
use Rattle.lock_free.specs.declared.swapping.Swapped.{Swapped}
use Rattle.lock_free.specs.declared.swapping.Swapped.TheVariants.{Commits}
use Rattle.lock_free.specs.Becoming.{Follows, HasBecome, HasNew}
use Rattle.lock_free.specs.Changing.{HasBuilt, HasBuiltNode}
use Rattle.lock_free.specs.Climbs.{IsContracting, ContractsParent, HasContracted, ClimbedBy, IsAskingAgain}
use Rattle.lock_free.specs.Contracting.{counted_in, IsAtContracted}
use Rattle.lock_free.specs.GoingDown.{HasMoved}
use Rattle.lock_free.specs.Holding.{IsOn}
use Rattle.lock_free.specs.Live.{at_hand, line_claims, refs_of_claims}
use Rattle.lock_free.specs.Loading.{now, Holds, IsAt, IsUsed, Runs, IsSound}
use Rattle.lock_free.specs.Nodes.{is_single}
use Rattle.lock_free.specs.Passing.{IsOnWay}
use Rattle.lock_free.specs.Repairing.{HasEndedBy, HasStart}
use Rattle.lock_free.specs.Raising.{MayHold}
use Rattle.lock_free.specs.SeenEntries.{IsOver}
use Rattle.lock_free.specs.Stocks.{Stocked, IsStock, HasSwapped}
use Rattle.lock_free.specs.Swaps.{IsAtSwap, is_done}
use Rattle.lock_free.proofs.BecomesOn.{stock_moved, start_become, way_become}
use Rattle.lock_free.proofs.ClimbLooks.{no_climb}
use Rattle.lock_free.proofs.ContractedNames.{contracted_holds}
use Rattle.lock_free.proofs.EntriesTo.{Used, entry_to_on}
use Rattle.lock_free.proofs.Followings.{follows_both, follows_later, used_on}
use Rattle.lock_free.proofs.GoingOver.{as_many}
use Rattle.lock_free.proofs.LeftWords.{single_entry}
use Rattle.lock_free.proofs.MainNames.{entry_there}
use Rattle.lock_free.proofs.OnLines.{finds_now, line_is}
use Rattle.lock_free.proofs.Pools.{one_there}
use Rattle.lock_free.proofs.SharedEntries.{climb_shared}
use Rattle.lock_free.proofs.Replaces.{at_make, is_over, at_swap, is_swapping, swap_way, swap_follows, swap_comes}
use Rattle.lock_free.specs.declared.leaving.Swapping.{Swapping}
use Rattle.lock_free.specs.Becoming.{made_on}
use Rattle.lock_free.specs.Climbs.{AskedOrSpent, HasAskedWithin, HasLeftContracted, LeavesClimb}
use Rattle.lock_free.specs.Leaving.{HasLeftSwap, IsClimbAfter}
use Rattle.lock_free.proofs.RunningOn.{runs_on_become}
use Rattle.lock_free.proofs.SwapsBegun.{leaves_swap}
use Rattle.lock_free.specs.declared.reclaiming.Retiree.{Retiree}
use Rattle.lock_free.specs.Places.{class_for}
use Rattle.lock_free.proofs.MainClasses.{branch_class}
use Rattle.lock_free.proofs.GivenBack.{node_is}

abbrev contracted_parts : Line → Climb × Ref
contracted_parts (line.Climb (climb.Contracted c main)) = (c, main)
contracted_parts l = (no_climb, no_ref)

-- where one alone is left, it is the one that was put there
lone_put : (xs : List Ref) (k : ℕ) (x r : Ref) → k < length xs → slice_set xs k x ≡ r ∷ [] → r ≡ x
lone_put [] k x r low is = absurd (omega (arith, low))
lone_put (y ∷ []) k x r low is = one k low is
  where
    head : Ref → List Ref → Ref
    head d [] = d
    head d (z ∷ zs) = z

    one : (k : ℕ) → k < 1 → slice_set (y ∷ []) k x ≡ r ∷ [] → r ≡ x
    one k low is = sym (ap (head x) (ap (λ j. slice_set (y ∷ []) j x) (sym zero_is) ∙ is))
      where
        zero_is : k ≡ 0
        zero_is = omega (arith, low)
lone_put (y ∷ z ∷ zs) k x r low is = absurd (omega (arith, (ap length is), (length-set (y ∷ z ∷ zs) k x)))

put_there : (xs : List Ref) (k : ℕ) (x : Ref) → k < length xs → Contains (slice_set xs k x) x
put_there xs k x low = (k, subst (λ n. k < n) (sym (length-set xs k x)) low, get_or-set_same xs k x x low)

-- which of both is made
tomb_made : (may : Bool) (bitmap : ℕ) (refs : List Ref) (x : Ref) → (may && (length refs == 1)) ≡ true → ((r : Ref) → refs ≡ r ∷ [] → r ≡ x) → contracted may bitmap refs ≡ Tomb x
tomb_made true bitmap [] x is lone = absurd (true≢false (sym is))
tomb_made true bitmap (r ∷ []) x is lone = ap Tomb (lone r refl)
tomb_made true bitmap (r ∷ q ∷ rs) x is lone = absurd (omega (arith, (eqb-true (length (r ∷ q ∷ rs)) 1 is)))
tomb_made false bitmap refs x is lone = absurd (true≢false (sym is))

branch_made : (may : Bool) (bitmap : ℕ) (refs : List Ref) → (may && (length refs == 1)) ≡ false → contracted may bitmap refs ≡ renewed bitmap refs
branch_made true bitmap [] is = refl
branch_made true bitmap (r ∷ []) is = absurd (true≢false is)
branch_made true bitmap (r ∷ q ∷ rs) is = refl
branch_made false bitmap refs is = refl

and_true : (b : Bool) → b ≡ (b && true)
and_true true = refl
and_true false = refl

module _ (n : ℕ) (v0 : View) (sound0 : IsSound n v0) (parent : ℕ) (link : Link) (bitmap : ℕ) (entries : List Entry) (single : Entry) (may : Bool) (is_at : IsContracting v0 parent link
    bitmap entries single
    may) where
  abbrev c : Climb
  c = is_at.0

  abbrev main : Ref
  main = is_at.1

  abbrev l0 : Line
  l0 = line.Climb (climb.Contracted c main)

  abbrev at0 : IsOn v0 l0
  at0 = is_at.2

  abbrev k : ContractsParent v0 c main parent link bitmap entries single may
  k = is_at.3

  abbrev refs : List Ref
  refs = slice_set k.refs.items k.place c.single

  abbrev node : Node
  node = contracted may bitmap refs

  lone : (r : Ref) → refs ≡ r ∷ [] → r ≡ c.single
  lone r is = lone_put k.refs.items k.place c.single r k.inside is

  abbrev its : Operation
  its = record at0.0 { is_marked = at0.1.0 }

  abbrev makes : Bool → Node → ℕ → Node
  makes b x place = contracted b (bitmap_of x) (slice_set (entries_of x) place c.single)

  makes_it : IsAt v0 (act.Make node)
  makes_it =
      at_make v0 l0 at0 (act.Make node) (ap act.Make (ap (λ p. makes (is_below_root (above c.path)) (node_at (now v0).heap main) p) (k.place_is its (at0.1.0, at0.1.1))
      ∙ ap₂ (λ b x. makes b x k.place) k.below_is k.node))

  pub its_making : IsAtContracted v0 may bitmap entries
  its_making = record {
    refs = refs;
    entombs = may;
    making = makes_it;
    names = k.entries_are;
    lone = λ r is.
        (let same = lone r is in
        let alone : is_single (node_at (now v0).heap c.single) ≡ true = sym (ap (λ (x : Entry). x.is_single) k.names) ∙ k.alone in (
          subst (λ x. Used v0 x) (sym same) k.used,
          and_true may ∙ ap (λ b. may && b) (sym (ap (λ x. is_single (node_at (now v0).heap x)) same ∙ alone)),
        ));
  }

  pub its_over : IsOver v0 (previous.Pending link.main)
  its_over = is_over v0 l0 at0 (current (above c.path)) main link refl k.link_is

  -- what the node names: the tomb's single, and entries of the main node
  set_or_other : (x : Ref) → Contains refs x → Contains k.refs.items x ⊎ (x ≡ c.single)
  set_or_other x held = of_set k.refs.items k.place c.single x held

  main_is : k.link_is.main_used.0.node ≡ Branch bitmap k.refs
  main_is = sym (node_is (now v0) main k.link_is.main_used.0 k.link_is.main_used.1) ∙ k.node

  in_slot : (x : Ref) → Contains k.refs.items x → Contains (entries_of k.link_is.main_used.0.node) x
  in_slot x stays = subst (λ y. Contains (entries_of y) x) (sym main_is) stays

  its_used : (x : Ref) → Contains refs x → (slot : Slot) × IsUsed v0 x slot × (is_entry slot.node ≡ true)
  its_used x held = elim (set_or_other x held) [
    | inl stays ↦ entry_there n v0 sound0 main k.link_is.main_used.0 k.link_is.main_used.1 (ap is_branch_or_list main_is) x (in_slot x stays)
        (let claims = finds_now v0 l0 at0 n sound0 in safe_of claims.1.1.1.0)
    | inr is ↦ subst (λ y. (slot : Slot) × IsUsed v0 y slot × (is_entry slot.node ≡ true)) (sym is) (
      k.used.0,
      k.used.1,
      subst (λ y. is_entry y ≡ true) (node_is (now v0) c.single k.used.0 k.used.1)
          (single_entry (node_at (now v0).heap c.single) (sym (ap (λ (x : Entry). x.is_single) k.names) ∙ k.alone)),
    )
  ]

  hand : (x : Ref) → Contains (c.path ++ (c.single ∷ main ∷ main ∷ [])) x → Contains (at_hand (now v0) its) x
  hand x there =
      Contains-append_left (refs_of_claims (line_claims (now v0) its)) its.private x
      (subst (λ (l : Line). Contains (refs_of_claims (line_claims (now v0) (record its { line = l }))) x) (sym at0.2) there)

  its_held : (x : Ref) → Contains refs x → Holds v0 x
  its_held x held = elim (set_or_other x held) [
    | inl stays ↦ (
      its,
      at0.1.1,
      inr (main, k.link_is.main_used.0, hand main (Contains-append_right c.path (c.single ∷ main ∷ main ∷ []) main (1, omega arith, refl)), k.link_is.main_used.1, in_slot x stays),
    )
    | inr is ↦ (its, at0.1.1, inl (hand x (Contains-append_right c.path (c.single ∷ main ∷ main ∷ []) x (0, omega arith, sym is))))
  ]

  pub its_owes : MayHold v0 (counted_in link.main.own entries (single ∷ [])) None
  its_owes =
      contracted_holds v0 l0 at0 (current (above c.path)) main refl link.main k.link_is.is.names may bitmap refs makes_it its_used its_held (climb_shared n v0 sound0 (climb.Contracted c main) at0)
      (c.single ∷ []) among others entries (single ∷ []) k.entries_are (ap (λ (x : Entry). x ∷ []) k.names)
    where
      among : (x : Ref) → Contains (c.single ∷ []) x → Contains refs x
      among x one = subst (Contains refs) (sym (one_there c.single x one)) (put_there k.refs.items k.place c.single k.inside)

      others : (x : Ref) → Contains refs x → Contains (c.single ∷ []) x ⊎ Contains (entries_of (node_at (now v0).heap main)) x
      others x held = elim (set_or_other x held) [
        | inl stays ↦ inr (subst (λ y. Contains (entries_of y) x) (sym k.node) stays)
        | inr is ↦ inl (0, omega arith, sym is)
      ]

  elsewhere : (result : Climbed) (w : View) → ClimbedBy v0 c result w → HasContracted v0 result w
  elsewhere result w here d m other = subst (λ (x : Climb × Ref). ClimbedBy v0 x.0 result w) (ap contracted_parts (sym (line_is v0 l0 at0 other.0 other.1) ∙ other.2)) here

  module _ (v1 : View) (result : Option ℕ) (made : HasBuilt v0 result v1) where
    new : HasBuiltNode v0 node result v1
    new = made node makes_it

    pub gives_up : result ≡ None → HasContracted v0 outcome.Full v1
    gives_up none =
        let rested = subst (λ r. HasBuiltNode v0 node r v1) none new in
        elsewhere outcome.Full v1 (record {
          follows = rested.follows;
          runs = λ o runs. (o.private, o.line, rested.comes o runs, ap (λ l. given_up o.call l) (line_is v0 l0 at0 o runs));
        })

    module _ (fresh : ℕ) (had : result ≡ Some fresh) where
      it : HasNew v0 node fresh v1
      it = subst (λ r. HasBuiltNode v0 node r v1) had new

      pub its_swap : (class : ℕ) → class ≡ class_for (count_ones bitmap) → IsAtSwap v1 parent link class fresh
      its_swap class is =
          at_swap v0 l0 at0 (purpose.Climb c) (current (above c.path)) main node v1 fresh it (λ o. refl) parent link class k.parent_at k.link_is
          (branch_class n v0 sound0 main bitmap
          (k.link_is.main_used.0, k.refs, k.link_is.main_used.1, sym (node_is (now v0) main k.link_is.main_used.0 k.link_is.main_used.1) ∙ k.node) ∙ sym is)

      pub its_way : (way : Way) → IsOnWay v0 way → IsOnWay v1 way
      its_way way on = swap_way v0 l0 at0 (purpose.Climb c) (current (above c.path)) main node v1 fresh it (λ o. refl) way on

      module _ (r : Swapped) (v2 : View) (s : HasSwapped v1 r v2) where
        follows2 : Follows v0 v2
        follows2 = swap_follows v0 l0 at0 (purpose.Climb c) (current (above c.path)) main node v1 fresh it (λ o. refl) r v2 s

        comes2 : (o : Operation) → Runs v0 o → Runs v2 (record o { private = []; line = swapped o node (purpose.Climb c) (is_done r) })
        comes2 o runs = swap_comes v0 l0 at0 (purpose.Climb c) (current (above c.path)) main node v1 fresh it (λ o. refl) r v2 s o runs

        ends : (next : Operation → Line) → ((o : Operation) → swapped o node (purpose.Climb c) (is_done r) ≡ next o) → HasEndedBy next v0 v2
        ends next same = record { follows = follows2; comes = λ o runs. ([], subst (λ x. Runs v2 (record o { private = []; line = x })) (same o) (comes2 o runs)) }

        module _ (retired : Option Retiree) (commits : r ≡ Commits retired) where
          done_so : (o : Operation) → swapped o node (purpose.Climb c) (is_done r) ≡ climbed_on o c node
          done_so o = ap (λ q. swapped o node (purpose.Climb c) (is_done q)) commits

          many : length entries ≡ length refs
          many = as_many v0 entries refs k.entries_are

          pub goes_higher : (may && (length entries == 1)) ≡ true → HasContracted v0 (outcome.Higher single) v2
          goes_higher is =
              let tomb = tomb_made may bitmap refs c.single (ap (λ x. may && (x == 1)) (sym many) ∙ is) lone in
              elsewhere (outcome.Higher single) v2 (record {
                one = c.single;
                ended = ends (λ o. climbing o (higher c c.single)) (λ o. done_so o ∙ ap (climbed_on o c) tomb);
                names = k.names ∙ sym (entry_to_on v0 v2 follows2 c.single k.used);
                used = used_on v0 v2 follows2 c.single k.used;
                alone = k.alone;
              })

          pub ends_there : (may && (length entries == 1)) ≡ false → HasContracted v0 outcome.Ends v2
          ends_there is =
              elsewhere outcome.Ends v2
              (ends (λ o. climbed o c.former) (λ o. done_so o ∙ ap (climbed_on o c) (branch_made may bitmap refs (ap (λ x. may && (x == 1)) (sym many) ∙ is))))

        module _ (fails : is_done r ≡ false) where
          abbrev l2 : Line
          l2 = line.Climb (climb.Root c root.Read)

          become2 : HasBecome (λ o. record o { private = []; line = l2 }) v0 v2
          become2 = record { follows = follows2; comes = λ o runs. subst (λ x. Runs v2 (record o { private = []; line = swapped o node (purpose.Climb c) x })) fails (comes2 o runs) }

          pub is_asking : IsAskingAgain v2
          is_asking = (c, (record at0.0 { private = []; line = l2 }, become2.comes at0.0 at0.1, refl))

          pub ask_way : (way : Way) → IsOnWay v0 way → IsOnWay v2 way
          ask_way way on = way_become v0 v2 (λ o. record o { private = []; line = l2 }) become2 l0 at0 way (λ o. refl) (λ o. refl) on

          pub ask_start : (start : ℕ) → HasStart v0 start → HasStart v2 start
          ask_start start begun = start_become v0 v2 (λ o. record o { private = []; line = l2 }) become2 l0 at0 start (λ o. refl) begun

          module _ (sound2 : IsSound n v2) (v3 : View) (asked : Climbed) (a : HasAskedWithin v2 asked v3) where
            on2 : IsOn v2 l2
            on2 = (record at0.0 { private = []; line = l2 }, become2.comes at0.0 at0.1, refl)

            moves_there : (f : Operation → Line) → ((o : Operation) → f (record o { private = []; line = l2 }) ≡ f o) → HasMoved f v2 v3 → HasEndedBy f v0 v3
            moves_there f same m = record {
              follows = follows_both v0 v2 v3 follows2 (follows_later v2 v3 m.later);
              comes = λ o runs. ([], subst (λ x. Runs v3 (record o { private = []; line = x })) (same o) (m.comes (record o { private = []; line = l2 }) (become2.comes o runs)));
            }

            climbed_or_spent : (x : Climbed) → AskedOrSpent v2 c x v3 → ClimbedBy v0 c x v3
            climbed_or_spent outcome.Again m = moves_there (λ o. climbing o c) (λ o. refl) m
            climbed_or_spent outcome.Ends m = moves_there (λ o. climbed o c.former) (λ o. refl) m
            climbed_or_spent (outcome.Higher e) m = absurd m
            climbed_or_spent outcome.Full h = record {
              follows = follows_both v0 v2 v3 follows2 (follows_later v2 v3 h.moved.later);
              runs = λ o runs.
                  (let p : Operation = record o { private = []; line = l2 } in
                  ([], h.next p, h.moved.comes p (become2.comes o runs), h.gives_up p (become2.comes o runs)));
            }

            pub asked_or_spent : HasContracted v0 asked v3
            asked_or_spent = elsewhere asked v3 (climbed_or_spent asked (a c on2))

            stock_or_spent : (stock : Stocked) → IsStock stock v2 → (x : Climbed) → AskedOrSpent v2 c x v3 → IsStock stock v3
            stock_or_spent stock is outcome.Again m = stock_moved n v2 v3 sound2 l2 on2 (λ o. climbing o c) m stock is
            stock_or_spent stock is outcome.Ends m = stock_moved n v2 v3 sound2 l2 on2 (λ o. climbed o c.former) m stock is
            stock_or_spent stock is (outcome.Higher e) m = absurd m
            stock_or_spent stock is outcome.Full h = stock_moved n v2 v3 sound2 l2 on2 h.next h.moved stock is

            pub spent_or_stock : (stock : Stocked) → IsStock stock v2 → IsStock stock v3
            spent_or_stock stock is = stock_or_spent stock is asked (a c on2)

      -- its SWAP is under way
      pub contract_left : (s : Swapping) (x : View) → HasLeftSwap v1 s x → HasLeftContracted v0 s x
      contract_left s x h d m other =
          subst (λ (z : Climb × Ref). LeavesClimb v0 z.0 s x) (ap contracted_parts (sym (line_is v0 l0 at0 other.0 other.1) ∙ other.2))
          (leaves_swap (IsClimbAfter c.former) v0 v1 x s (runs_on_become v0 v1 (made_on (now v0) it.made) (λ o. refl) it.become) (purpose.Climb c) (current (above c.path)) main it.made
          (is_swapping v0 l0 at0 (purpose.Climb c) (current (above c.path)) main node v1 fresh it (λ o. refl)) refl h)
