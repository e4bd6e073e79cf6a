-- CLIMB over one indirection.
use Rattle.std.proofs.Common.{◌≡◌, ◌∷◌, ℕ, suc, zero, Bool, true, false, [], Contains, Some, refl, sym, ap, ap₂, subst, ◌∙◌, arith}
use Rattle.std.proofs.lemmas.List.Elements.{Contains-get_or}
use Rattle.std.proofs.lemmas.Option.{none-some}
use Rattle.trie_words.specs.declared.entries.Entry.{Entry}
use Rattle.trie_words.specs.declared.headers.Header.{Header}
use Rattle.trie_words.specs.declared.headers.Shape.TheVariants as shape
use Rattle.machine_model.specs.Beneath.slot_arena.specs.declared.refs.Ref.{Ref}
use Rattle.machine_model.specs.Beneath.slot_arena.specs.declared.nodes.Node.{Node}
use Rattle.machine_model.specs.Beneath.slot_arena.specs.declared.nodes.Node.TheVariants.{Tomb, List as Listed}
use Rattle.machine_model.specs.Beneath.slot_arena.specs.declared.nodes.Slot.{Slot}
use Rattle.machine_model.specs.Beneath.slot_arena.specs.Heaps.{node_at, refs_of_node}
use Rattle.machine_model.specs.Beneath.slot_arena.specs.Refs.{slot_of}
use Rattle.machine_model.specs.declared.actions.Action.TheVariants as act
use Rattle.machine_model.specs.declared.lines.Line.{Line}
use Rattle.machine_model.specs.declared.lines.Line.TheVariants as line
use Rattle.machine_model.specs.declared.operations.Operation.{Operation}
use Rattle.machine_model.specs.declared.reading.ReadLine.TheVariants as read
use Rattle.machine_model.specs.declared.repairs.Climb.{Climb}
use Rattle.machine_model.specs.declared.repairs.ClimbLine.TheVariants as climb
use Rattle.machine_model.specs.Climbing.{climbing, higher, climb_after_main}
use Rattle.machine_model.specs.Lines.{impossible}
use Rattle.machine_model.specs.Paths.{above, current}
use Rattle.machine_model.specs.States.{State, operation_of}
use Rattle.proof_memory.specs.Wants.{flag_on}
use Rattle.proof_memory.proofs.Claims.Uses.{safe_of}
use Rattle.proof_memory.proofs.Levels.Impossible.{IsImpossible}
use Rattle.proof_memory.proofs.Levels.ShapeStates.{none_impossible}
use Rattle.lock_free.specs.declared.climbing.Climbed.{Climbed}
use Rattle.lock_free.specs.declared.climbing.Climbed.TheVariants as outcome
use Rattle.lock_free.specs.declared.reading.Given.{Given}
use Rattle.lock_free.specs.declared.reading.Passed.TheVariants as passed
use Rattle.lock_free.specs.declared.reading.Way.{Way}
use Rattle.lock_free.specs.declared.reading.ReadFrom.TheVariants as resume
use Rattle.lock_free.specs.declared.rules.View.{View}
use Rattle.lock_free.specs.Accounts.{bounds_for, state_of, place_of}
use Rattle.lock_free.specs.Becoming.{Follows}
use Rattle.lock_free.specs.Climbs.{KnowsClimb, at_parent, IsAtParent, ClimbedBy, HasClimbed, IsAtParentBranch, HasClimbedBranch}
use Rattle.lock_free.specs.GoingDown.{HasMoved}
use Rattle.lock_free.specs.Holding.{IsOn, HasComeTo}
use Rattle.lock_free.specs.Loading.{now, seen, IsUsed, IsSound, IsAtSlot, HasLookedAtMain}
use Rattle.lock_free.specs.Nodes.{is_single}
use Rattle.lock_free.specs.Passing.{IsPassing, IsReading, IsOnWay, HasPassed, HasGiven}
use Rattle.lock_free.specs.Repairing.{HasStart}
use Rattle.lock_free.specs.SeenEntries.{unowned}
use Rattle.lock_free.specs.Stocks.{Stocked, IsStock}
use Rattle.lock_free.proofs.BecomesOn.{moved_become, start_become, stock_moved}
use Rattle.lock_free.proofs.CleanBelow.{known_branch}
use Rattle.lock_free.proofs.CleanEntries.{tomb_entry}
use Rattle.lock_free.proofs.ClimbBranches.{climbed_from}
use Rattle.lock_free.proofs.ClimbLooks.{no_climb}
use Rattle.lock_free.proofs.Comings.{runs_one}
use Rattle.lock_free.proofs.EntriesTo.{entry_to_on}
use Rattle.lock_free.proofs.Followings.{follows_both, follows_later, main_node_on, used_on}
use Rattle.lock_free.proofs.GivenBack.{node_is}
use Rattle.lock_free.proofs.Laters.{placed_later, waited_later, went_later}
use Rattle.lock_free.proofs.MainLooks.{list_says}
use Rattle.lock_free.proofs.OnLines.{line_is, at_look, finds_now, moves_on, moved, reading_on, given_moved, way_on}
use Rattle.lock_free.proofs.TombSingles.{tomb_single}
use Rattle.machine_model.specs.Calls.{changed_reply}
use Rattle.lock_free.specs.declared.leaving.Swapping.{Swapping}
use Rattle.lock_free.specs.declared.reading.ReadFrom.{ReadFrom}
use Rattle.lock_free.specs.Climbs.{HasLeftBranch, HasLeftParent, LeavesClimb}
use Rattle.lock_free.specs.Leaving.{Halts, IsClimbAfter}
use Rattle.lock_free.proofs.Leavings.{halts_gives, halts_stock, line_may, read_halts}
use Rattle.lock_free.proofs.RunningOn.{runs_on_moved}
use Rattle.lock_free.proofs.SwapsBegun.{leaves_swap_on}

abbrev read_parts : Line → Climb
read_parts (line.Climb (climb.Read c r)) = c
read_parts l = no_climb

-- no operation is on that line
never : (n : ℕ) (v : View) → IsSound n v → IsOn v impossible → ⊥
never n v sound at = by_actor v.actor at.1.1
  where
    o : Operation
    o = record at.0 { is_marked = at.1.0 }

    by_actor : (actor : ℕ) → operation_of (state_of v.sizes v.account) actor ≡ Some o → ⊥
    by_actor zero runs = absurd (none-some o runs)
    by_actor (suc m) runs = none_impossible (bounds_for v.sizes v.account.steps) sound.bounds v.account.steps m o runs (subst IsImpossible (sym at.2) tt)

module _ (n : ℕ) (v0 : View) (sound0 : IsSound n v0) (parent tombed flag : ℕ) (single : Entry) (below : Bool) (is_at : IsAtParent v0 parent tombed flag single below) where
  abbrev c : Climb
  c = is_at.0

  abbrev i : Ref
  i = current (above c.path)

  abbrev l0 : Line
  l0 = at_parent c

  abbrev at0 : IsOn v0 l0
  at0 = is_at.1

  abbrev k : KnowsClimb v0 c parent tombed flag single below
  k = is_at.2

  is_reading : IsReading v0 i read.Main
  is_reading = reading_on v0 l0 at0 i read.Main refl

  pub over_passing : IsPassing v0 parent resume.Start
  over_passing = (i, k.parent_at, is_reading)

  -- its READ is out of tries
  module _ (place : ReadFrom) (v1 : View) (h : HasPassed v0 (passed.Again place) v1) where
    spent : Halts (λ o. changed_reply o.call c.former) v0 v1
    spent = read_halts (λ o. changed_reply o.call c.former) v0 v1 i read.Main is_reading place h (line_may (λ o. changed_reply o.call c.former) v0 l0 at0 (λ o. refl))

    pub over_spent_stock : (stock : Stocked) → IsStock stock v0 → IsStock stock v1
    over_spent_stock stock is = halts_stock (λ o. changed_reply o.call c.former) n v0 v1 sound0 l0 at0 spent stock is

    pub over_spent : HasClimbed v0 outcome.Full v1
    over_spent d other =
        subst (λ x. ClimbedBy v0 x outcome.Full v1) (ap read_parts (sym (line_is v0 l0 at0 other.0 other.1) ∙ other.2)) (halts_gives (λ o. changed_reply o.call c.former) v0 v1 spent)

  module _ (v1 : View) (sound1 : IsSound n v1) (given : Given) (p : HasPassed v0 (passed.Gives given) v1) where
    g : HasGiven v0 i given v1
    g = p i read.Main is_reading

    abbrev main : Ref
    main = g.main

    abbrev l1 : Line
    l1 = line.Climb (climb.Main c main)

    come1 : HasComeTo l1 v0 v1
    come1 = given_moved v0 l0 at0 v1 main g.come

    at1 : IsOn v1 l1
    at1 = moves_on v0 l0 at0 v1 l1 come1

    pub over_way : (way : Way) → IsOnWay v0 way → IsOnWay v1 way
    over_way way on = way_on v0 v1 l0 (λ o. l1) way at0 come1 on

    pub over_start : (start : ℕ) → HasStart v0 start → HasStart v1 start
    over_start start begun = start_become v0 v1 (λ o. record o { line = l1 }) (moved_become v0 v1 (λ o. l1) come1) l0 at0 start (λ o. refl) begun

    pub over_stock : (stock : Stocked) → IsStock stock v0 → IsStock stock v1
    over_stock stock s = stock_moved n v0 v1 sound0 l0 at0 (λ o. l1) come1 stock s

    elsewhere : (result : Climbed) (w : View) → ClimbedBy v0 c result w → HasClimbed v0 result w
    elsewhere result w here d other = subst (λ x. ClimbedBy v0 x result w) (ap read_parts (sym (line_is v0 l0 at0 other.0 other.1) ∙ other.2)) here

    abbrev f1 : Follows v0 v1
    f1 = follows_later v0 v1 come1.later

    knows1 : KnowsClimb v1 c parent tombed flag single below
    knows1 = record {
      parent_at = placed_later v0 v1 come1.later i parent k.parent_at;
      tombed_at = placed_later v0 v1 come1.later (current c.path) tombed k.tombed_at;
      names = k.names ∙ sym (entry_to_on v0 v1 f1 c.single k.used);
      used = used_on v0 v1 f1 c.single k.used;
      alone = k.alone;
      flag_is = λ q runs.
          (let call_so : q.call ≡ at0.0.call = ap (λ (z : Operation). z.call) (runs_one v1 q (record at0.0 { line = l1 }) runs (come1.comes at0.0 at0.1)) in
          k.flag_is at0.0 at0.1 ∙ ap (λ s. flag_on s.hash at0.0.call (above c.path)) (sym (ap (λ (x : View). x.sizes) come1.later.is))
          ∙ ap (λ x. flag_on v1.sizes.hash x (above c.path)) (sym call_so));
      below_is = k.below_is;
    }

    -- ---- a branch

    pub parent_branch : (bitmap : ℕ) → given.header.shape ≡ shape.Branch bitmap → IsAtParentBranch v1 parent given.link bitmap tombed flag single below
    parent_branch bitmap is = (c, main, at1, record { knows = knows1; link_is = g.link; branch = known_branch v1 main given.header bitmap g.header is })

    pub parent_left : (s : Swapping) (v2 : View) → HasLeftBranch v1 s v2 → HasLeftParent v0 s v2
    parent_left s v2 h d other =
        subst (λ x. LeavesClimb v0 x s v2) (ap read_parts (sym (line_is v0 l0 at0 other.0 other.1) ∙ other.2))
        (leaves_swap_on (IsClimbAfter c.former) v0 v1 v2 s (runs_on_moved v0 v1 (λ o. l1) come1) (h c main at1))

    pub branch_climbed : (v2 : View) (result : Climbed) → HasClimbedBranch v1 result v2 → HasClimbed v0 result v2
    branch_climbed v2 result h = elsewhere result v2 (climbed_from v0 v1 v2 l1 come1 c result (h c main at1))

    -- ---- any other main node

    pub over_ready : IsAtSlot v1 act.Look given.link.main.slot
    over_ready = (main, at_look v1 l1 at1 main (λ o. refl), g.link.is.names.place)

    module _ (v2 : View) (sound2 : IsSound n v2) (header : Header) (look : HasLookedAtMain v1 header v2) where
      moves_by : (node : Node) → g.header.slot.node ≡ node → (next : Operation → Line) → ((state : State) (o : Operation) (mark : Bool) → climb_after_main state (record o {
        is_marked =
            mark;
      }) c main node ≡
          next o) → HasMoved next v1 v2
      moves_by node is next by =
          let w = look.0 in
          let u = seen v1 w.account in
          let same = main_node_on v1 u (follows_later v1 u (waited_later n v1 sound1 w.account w.waited)) main g.header.slot g.header.used g.header.is_main ∙ node_is (now v1) main
          g.header.slot g.header.used ∙ is in
          moved v1 l1 at1 v2 (went_later n v1 sound1 n v2 sound2 w) w main next (λ o. refl) (λ o. refl)
          (λ o mark runs. ap (climb_after_main (now u) (record o { is_marked = mark }) c main) same ∙ by (now u) o mark)

      -- a tomb: so it goes on above
      module _ (entry : Entry) (is : given.header.shape ≡ shape.Tomb entry) where
        t : (r : Ref) × (g.header.slot.node ≡ Tomb r) × (entry.slot ≡ place_of v1.account r) × (entry.is_single ≡ true)
        t = tomb_entry v1.account (slot_of main) g.header.slot.node given.header.shape entry is g.header.is_shape

        abbrev r : Ref
        r = t.0

        used_r : (slot : Slot) × IsUsed v1 r slot
        used_r = g.header.names r (subst (λ x. Contains (refs_of_node x) r) (sym t.1) (Contains-get_or (r ∷ []) 0 r (omega arith)))

        is_one : is_single (node_at (now v1).heap r) ≡ true
        is_one =
            let claims = finds_now v1 l1 at1 n sound1 in
            tomb_single v1.sizes v1.account sound1.bounds main r (safe_of claims.1.1.1.0) (node_is (now v1) main g.header.slot g.header.used ∙ t.1)

        move : HasMoved (λ o. climbing o (higher c r)) v1 v2
        move = moves_by (Tomb r) t.1 (λ o. climbing o (higher c r)) (λ state o mark. refl)

        pub tomb_stock : (stock : Stocked) → IsStock stock v0 → IsStock stock v2
        tomb_stock stock s = stock_moved n v1 v2 sound1 l1 at1 (λ o. climbing o (higher c r)) move stock (over_stock stock s)

        abbrev f2 : Follows v1 v2
        f2 = follows_later v1 v2 move.later

        pub tomb_climbed : (found : Entry) → unowned found ≡ unowned entry → HasClimbed v0 (outcome.Higher found) v2
        tomb_climbed found same =
            elsewhere (outcome.Higher found) v2 (record {
              one = r;
              ended = record { follows = follows_both v0 v1 v2 f1 f2; comes = λ o runs. (o.private, move.comes (record o { line = l1 }) (come1.comes o runs)) };
              names = same ∙ ap₂ (λ s b. record { slot = s; own = false; is_single = b }) t.2 (t.3 ∙ sym is_one) ∙ sym (entry_to_on v1 v2 f2 r used_r);
              used = used_on v1 v2 f2 r used_r;
              alone = ap (λ (x : Entry). x.is_single) same ∙ t.3;
            })

      -- no list stands there
      pub none_listed : {A : Type 0} (count : ℕ) → given.header.shape ≡ shape.List count → A
      none_listed count is =
          let x = list_says v1.account (slot_of main) g.header.slot.node given.header.shape count is g.header.is_shape in
          let m = moves_by (Listed x.0) x.1 (λ o. impossible) (λ state o mark. refl) in
          absurd (never n v2 sound2 (moves_on v1 l1 at1 v2 impossible m))
