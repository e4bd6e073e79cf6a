-- CLIMB at the parent's branch.
use Rattle.std.proofs.Common.{◌≡◌, ◌<◌, ◌==◌, ◌&&◌, ℕ, Bool, true, false, List, All, Contains, length, get_or, slice_set, set, count_ones, refl, sym, ap, ap₂, subst, ◌∙◌, if◌then◌else◌}
use Rattle.std.proofs.lemmas.Bool.{and_parts}
use Rattle.std.proofs.lemmas.List.{map-set}
use Rattle.std.proofs.lemmas.List.Elements.{Contains-get_or}
use Rattle.history.specs.declared.calls.Call.{Call}
use Rattle.trie_words.specs.declared.entries.Entry.{Entry}
use Rattle.trie_words.specs.declared.headers.Header.{Header}
use Rattle.trie_words.specs.declared.links.Link.{Link}
use Rattle.machine_model.specs.Beneath.ctrie_base.specs.Paths.{position_of}
use Rattle.machine_model.specs.Beneath.slot_arena.specs.declared.refs.Ref.{Ref}
use Rattle.machine_model.specs.Beneath.slot_arena.specs.declared.nodes.Node.{Node}
use Rattle.machine_model.specs.Beneath.slot_arena.specs.declared.nodes.Node.TheVariants.{Branch}
use Rattle.machine_model.specs.Beneath.slot_arena.specs.Heaps.{no_ref, node_at, entries_of, bitmap_of}
use Rattle.machine_model.specs.declared.actions.Action.TheVariants as act
use Rattle.machine_model.specs.declared.lines.Line.{Line}
use Rattle.machine_model.specs.declared.lines.Line.TheVariants as line
use Rattle.machine_model.specs.declared.operations.Operation.{Operation}
use Rattle.machine_model.specs.declared.repairs.Climb.{Climb}
use Rattle.machine_model.specs.declared.repairs.ClimbLine.TheVariants as climb
use Rattle.machine_model.specs.Climbing.{climbed, climbing, higher, climb_after_main}
use Rattle.machine_model.specs.Paths.{above, current}
use Rattle.nodes.specs.Levels.{has_flag}
use Rattle.proof_memory.specs.Vocabulary.{HashKind}
use Rattle.proof_memory.specs.Wants.{flag_on, is_main_node}
use Rattle.proof_memory.proofs.Claims.Uses.{safe_of}
use Rattle.lock_free.specs.declared.climbing.Climbed.{Climbed}
use Rattle.lock_free.specs.declared.climbing.Climbed.TheVariants as outcome
use Rattle.lock_free.specs.declared.reading.Way.{Way}
use Rattle.lock_free.specs.declared.rules.View.{View}
use Rattle.lock_free.specs.Becoming.{Follows}
use Rattle.lock_free.specs.Climbs.{AtParentBranch, IsAtParentBranch, HasClimbedBranch, ClimbedBy, IsAtTombed, HasSeenIt, IsContracting, HasContracted}
use Rattle.lock_free.specs.Entries.{HasStayed}
use Rattle.lock_free.specs.GoingDown.{HasMoved}
use Rattle.lock_free.specs.Holding.{IsOn, HasComeTo}
use Rattle.lock_free.specs.Live.{IsLive}
use Rattle.lock_free.specs.Loading.{now, seen, Runs, IsSound, IsAtSlot, HasLookedAtMain}
use Rattle.lock_free.specs.Passing.{Later, IsOnWay}
use Rattle.lock_free.specs.Repairing.{HasEndedBy, HasStart, IsBranch}
use Rattle.lock_free.specs.SeenEntries.{AreEntriesTo, HasEntries, HasSeenEntries, entry_to, unowned}
use Rattle.lock_free.specs.Stocks.{Stocked, IsStock}
use Rattle.lock_free.proofs.Asked.{live_in_use}
use Rattle.lock_free.proofs.BecomesOn.{moved_become, start_become, stock_moved}
use Rattle.lock_free.proofs.CleanBranches.{stay_moves}
use Rattle.lock_free.proofs.ClimbLooks.{holds_main, inside, main_parts}
use Rattle.lock_free.proofs.Comings.{runs_one}
use Rattle.lock_free.proofs.EntriesTo.{Used, entry_to_on, entries_on}
use Rattle.lock_free.proofs.Followings.{follows_both, follows_later, main_node_on, used_on}
use Rattle.lock_free.proofs.GivenBack.{node_is}
use Rattle.lock_free.proofs.GoingOver.{as_many}
use Rattle.lock_free.proofs.KeyMoves.{hash_is}
use Rattle.lock_free.proofs.Laters.{later_both, link_later, placed_later, waited_later, went_later}
use Rattle.lock_free.proofs.LastingNodes.{entry_lives}
use Rattle.lock_free.proofs.OnLines.{line_is, at_look, finds_now, stays_on, moves_on, moved, stayed_moved, way_on}
use Rattle.lock_free.proofs.Replaces.{branch_is_main, has_entries, entries_seen}
use Rattle.lock_free.specs.declared.leaving.Swapping.{Swapping}
use Rattle.lock_free.specs.Climbs.{HasLeftBranch, HasLeftContracted, LeavesClimb}
use Rattle.lock_free.specs.Leaving.{IsClimbAfter}
use Rattle.lock_free.proofs.RunningOn.{runs_on_moved}
use Rattle.lock_free.proofs.SwapsBegun.{leaves_swap_on}

-- ---- what a climb comes to later it comes to from before

module _ (u v w : View) (l : Line) (m : HasComeTo l u v) where
  ended_from : (f : Operation → Line) → ((o : Operation) → f (record o { line = l }) ≡ f o) → HasEndedBy f v w → HasEndedBy f u w
  ended_from f same e = record {
    follows = follows_both u v w (follows_later u v m.later) e.follows;
    comes = λ o runs. (let x = e.comes (record o { line = l }) (m.comes o runs) in (x.0, subst (λ y. Runs w (record o { private = x.0; line = y })) (same o) x.1));
  }

  pub climbed_from : (c : Climb) (result : Climbed) → ClimbedBy v c result w → ClimbedBy u c result w
  climbed_from c (outcome.Higher e) h =
      record { one = h.one; ended = ended_from (λ o. climbing o (higher c h.one)) (λ o. refl) h.ended; names = h.names; used = h.used; alone = h.alone }
  climbed_from c outcome.Again h = ended_from (λ o. climbing o c) (λ o. refl) h
  climbed_from c outcome.Ends h = ended_from (λ o. climbed o c.former) (λ o. refl) h
  climbed_from c outcome.Full h = record {
    follows = follows_both u v w (follows_later u v m.later) h.follows;
    runs = λ o runs. (let x = h.runs (record o { line = l }) (m.comes o runs) in (x.0, x.1, x.2, x.3));
  }

pub branch_on : (v w : View) (f : Follows v w) (main : Ref) (bitmap : ℕ) → IsBranch v main bitmap → IsBranch w main bitmap
branch_on v w f main bitmap b =
    let y = f.nodes main b.0 b.2 in
    let kind : is_main_node b.0.node ≡ true = ap is_main_node b.3 in
    (y.0, b.1, y.1, sym (node_is (now w) main y.0 y.1) ∙ main_node_on v w f main b.0 b.2 kind ∙ node_is (now v) main b.0 b.2 ∙ b.3)

module _ (n : ℕ) (v0 : View) (sound0 : IsSound n v0) (parent : ℕ) (link : Link) (bitmap tombed flag : ℕ) (single : Entry) (may : Bool) (is_at : IsAtParentBranch v0 parent link bitmap
    tombed flag single
    may) where
  abbrev c : Climb
  c = is_at.0

  abbrev main : Ref
  main = is_at.1

  abbrev l0 : Line
  l0 = line.Climb (climb.Main c main)

  abbrev at0 : IsOn v0 l0
  at0 = is_at.2

  abbrev k : AtParentBranch v0 c main parent link bitmap tombed flag single may
  k = is_at.3

  abbrev b : IsBranch v0 main bitmap
  b = k.branch

  abbrev refs : List Ref
  refs = b.1.items

  pub at_tombed : IsAtTombed v0 link.main.slot bitmap flag tombed
  at_tombed = (c, main, at0, (k.link_is.main_used, k.link_is.is.names.place), b, k.knows.tombed_at, k.knows.flag_is)

  node_on : (w : View) → Follows v0 w → node_at (now w).heap main ≡ Branch bitmap b.1
  node_on w f =
      main_node_on v0 w f main b.0 b.2 (branch_is_main n v0 sound0 main link.main.slot bitmap b) ∙ node_is (now v0) main b.0 b.2 ∙ b.3

  -- the flag stays that of the key
  flag_then : (w : View) → Later v0 w → (q : Operation) → Runs w q → q.call ≡ at0.0.call → flag ≡ flag_on w.sizes.hash q.call (above c.path)
  flag_then w l q runs same =
      k.knows.flag_is at0.0 at0.1 ∙ ap (λ s. flag_on s.hash at0.0.call (above c.path)) (sym (ap (λ (x : View). x.sizes) l.is))
      ∙ ap (λ x. flag_on w.sizes.hash x (above c.path)) (sym same)

  abbrev looks : HashKind → Call → Node → Bool
  looks kind call node =
      has_flag bitmap (flag_on kind call (above c.path)) && (get_or (entries_of node) (position_of (flag_on kind call (above c.path)) (bitmap_of node)) no_ref == current c.path)

  module _ (v1 : View) (sound1 : IsSound n v1) (found : Bool) (g : HasSeenIt v0 bitmap found v1) where
    stayed1 : HasStayed v0 v1
    stayed1 = g.0

    at1 : IsOn v1 l0
    at1 = stays_on v0 l0 at0 v1 stayed1

    found_is : looks v0.sizes.hash at0.0.call (Branch bitmap b.1) ≡ found
    found_is =
        sym (ap₂ (λ h x. looks h at0.0.call x) (hash_is v0.sizes v0.account) (node_is (now v0) main b.0 b.2 ∙ b.3)) ∙ g.1 c main at0 at0.0 at0.1

    abbrev after : Bool → Operation → Line
    after x o = if x then line.Climb (climb.Contracted c main) else climbed o c.former

    -- the look at the main node
    looked : (v : View) (sound : IsSound n v) (s : HasStayed v0 v) (w : View) → IsSound n w → (header : Header) → HasLookedAtMain v header w → HasMoved (after found) v w
    looked v sound s w sound_w header look =
        let at = stays_on v0 l0 at0 v s in
        let went = look.0 in
        let u = seen v went.account in
        let later_u = later_both v0 v u s.later (waited_later n v sound went.account went.waited) in
        let node_u = node_on u (follows_later v0 u later_u) in
        let sizes_u : u.sizes ≡ v0.sizes = ap (λ (x : View). x.sizes) later_u.is in
        moved v l0 at w (went_later n v sound n w sound_w went) went main (after found) (λ o. refl) (λ o. refl)
        (λ o mark runs.
        (let call_so : o.call ≡ at0.0.call = ap (λ (z : Operation). z.call) (runs_one v o at0.0 runs (s.comes at0.0 at0.1)) in
        ap (climb_after_main (now u) (record o { is_marked = mark }) c main) node_u
        ∙ ap (λ x. after x o) (ap₂ (λ h (call : Call). has_flag bitmap (flag_on h call (above c.path)) && (get_or refs (position_of (flag_on h call (above c.path)) (bitmap_of (node_at
        (now u).heap main))) no_ref
        == current c.path)) (hash_is u.sizes u.account ∙ ap (λ z. z.hash) sizes_u) call_so
        ∙ ap (λ x. has_flag bitmap (flag_on v0.sizes.hash at0.0.call (above c.path)) && (get_or refs (position_of (flag_on v0.sizes.hash at0.0.call (above c.path)) (bitmap_of x))
        no_ref == current c.path))
        node_u ∙ found_is)))

    pub seen_stock : (stock : Stocked) → IsStock stock v0 → IsStock stock v1
    seen_stock stock h = stock_moved n v0 v1 sound0 l0 at0 (λ o. l0) (stay_moves v0 v1 l0 at0 stayed1) stock h

    elsewhere : (result : Climbed) (w : View) → ClimbedBy v0 c result w → HasClimbedBranch v0 result w
    elsewhere result w here d m other = subst (λ (x : Climb × Ref). ClimbedBy v0 x.0 result w) (ap main_parts (sym (line_is v0 l0 at0 other.0 other.1) ∙ other.2)) here

    pub gone_ready : IsAtSlot v1 act.Look link.main.slot
    gone_ready =
        (main, at_look v1 l0 at1 main (λ o. refl), (placed_later v0 v1 stayed1.later main link.main.slot (k.link_is.main_used, k.link_is.is.names.place)).1)

    -- ---- it isn't there any more

    module _ (gone : found ≡ false) (v2 : View) (sound2 : IsSound n v2) (header : Header) (look : HasLookedAtMain v1 header v2) where
      gone_move : HasMoved (λ o. climbed o c.former) v1 v2
      gone_move = subst (λ x. HasMoved (after x) v1 v2) gone (looked v1 sound1 stayed1 v2 sound2 header look)

      pub gone_stock : (stock : Stocked) → IsStock stock v0 → IsStock stock v2
      gone_stock stock h = stock_moved n v1 v2 sound1 l0 at1 (λ o. climbed o c.former) gone_move stock (seen_stock stock h)

      pub gone_ends : HasClimbedBranch v0 outcome.Ends v2
      gone_ends =
          elsewhere outcome.Ends v2 (record {
            follows = follows_both v0 v1 v2 (follows_later v0 v1 stayed1.later) (follows_later v1 v2 gone_move.later);
            comes = λ o runs. (o.private, gone_move.comes o (stayed1.comes o runs));
          })

    -- ---- it is there

    place1 : IsAtTombed v1 link.main.slot bitmap flag tombed
    place1 = (
      c,
      main,
      at1,
      placed_later v0 v1 stayed1.later main link.main.slot (k.link_is.main_used, k.link_is.is.names.place),
      branch_on v0 v1 (follows_later v0 v1 stayed1.later) main bitmap b,
      placed_later v0 v1 stayed1.later (current c.path) tombed k.knows.tombed_at,
      λ q runs. flag_then v1 stayed1.later q runs (ap (λ (z : Operation). z.call) (runs_one v1 q at0.0 runs (stayed1.comes at0.0 at0.1))),
    )

    pub there_has : (count : ℕ) → count ≡ count_ones bitmap → HasEntries v1 link.main.slot count
    unfolding place1
    there_has count is =
        has_entries n v1 sound1 main link.main.slot bitmap place1.4 (holds_main n v1 sound1 link.main.slot bitmap flag tombed place1) place1.3.1 count is

    module _ (v2 : View) (sound2 : IsSound n v2) (count : ℕ) (entries : List Entry) (is : count ≡ count_ones bitmap) (h : HasSeenEntries v1 link.main.slot count entries v2) where
      stayed2 : HasStayed v0 v2
      stayed2 = record { later = later_both v0 v1 v2 stayed1.later h.0.later; comes = λ o runs. h.0.comes o (stayed1.comes o runs) }

      at2 : IsOn v2 l0
      at2 = stays_on v0 l0 at0 v2 stayed2

      names2 : AreEntriesTo v2 entries refs
      unfolding place1 branch_on
      names2 = entries_seen n v1 sound1 main link.main.slot bitmap place1.4 v2 count entries is h (holds_main n v1 sound1 link.main.slot bitmap flag tombed place1) place1.3.1

      pub there_ready : IsAtSlot v2 act.Look link.main.slot
      there_ready =
          (main, at_look v2 l0 at2 main (λ o. refl), (placed_later v0 v2 stayed2.later main link.main.slot (k.link_is.main_used, k.link_is.is.names.place)).1)

      module _ (there : found ≡ true) (v3 : View) (sound3 : IsSound n v3) (header : Header) (look : HasLookedAtMain v2 header v3) where
        abbrev l3 : Line
        l3 = line.Climb (climb.Contracted c main)

        come3 : HasComeTo l3 v2 v3
        come3 = subst (λ x. HasMoved (after x) v2 v3) there (looked v2 sound2 stayed2 v3 sound3 header look)

        come03 : HasComeTo l3 v0 v3
        come03 = stayed_moved v0 v2 v3 (λ o. l3) stayed2 come3

        at3 : IsOn v3 l3
        at3 = moves_on v0 l0 at0 v3 l3 come03

        abbrev f3 : Follows v0 v3
        f3 = follows_later v0 v3 come03.later

        has : has_flag bitmap flag ≡ true
        has = ap (has_flag bitmap) (k.knows.flag_is at0.0 at0.1) ∙ (and_parts _ _ (found_is ∙ there)).0

        abbrev place : ℕ
        place = position_of flag bitmap

        pub place_inside : place < length refs
        unfolding at_tombed
        place_inside = subst (λ x. place < length (entries_of x)) b.3 (inside n v0 sound0 link.main.slot bitmap flag tombed at_tombed has)

        main_lives : IsLive (now v0) main
        main_lives = let claims = finds_now v0 l0 at0 n sound0 in safe_of claims.1.1.1.0

        refs_used : All (Used v2) refs
        refs_used j d low =
            used_on v0 v2 (follows_later v0 v2 stayed2.later) (get_or refs j d)
            (live_in_use v0.sizes v0.account sound0.bounds (get_or refs j d)
            (entry_lives v0.sizes v0.account main (get_or refs j d) b.0 main_lives b.2 (subst (λ x. Contains (entries_of x) (get_or refs j d)) (sym b.3) (Contains-get_or refs j d low))))

        single_used : Used v0 c.single
        single_used = k.knows.used

        names3 : AreEntriesTo v3 (slice_set entries place single) (slice_set refs place c.single)
        names3 =
            map-set unowned entries place single
            ∙ ap₂ (λ xs x. set xs place x) (entries_on v2 v3 (follows_later v2 v3 come3.later) entries refs refs_used names2) (k.knows.names ∙ sym (entry_to_on v0 v3 f3 c.single single_used))
            ∙ sym (map-set (entry_to v3) refs place c.single)

        pub put_inside : place < length entries
        put_inside = subst (λ m. place < m) (sym (as_many v2 entries refs names2)) place_inside

        pub contracting : (put : List Entry) → put ≡ slice_set entries place single → IsContracting v3 parent link bitmap put single may
        contracting put so = (
          c,
          main,
          at3,
          record {
            parent_at = placed_later v0 v3 come03.later (current (above c.path)) parent k.knows.parent_at;
            link_is = link_later v0 v3 come03.later (current (above c.path)) main link k.link_is;
            refs = b.1;
            node = node_on v3 f3;
            place = place;
            place_is = λ q runs.
                (let call_so : q.call ≡ at0.0.call = ap (λ (z : Operation). z.call) (runs_one v3 q (record at0.0 { line = l3 }) runs (come03.comes at0.0 at0.1)) in
                ap₂ position_of (ap (λ h. flag_on h q.call (above c.path)) (hash_is v3.sizes v3.account) ∙ sym (flag_then v3 come03.later q runs call_so)) (ap bitmap_of (node_on v3 f3)));
            inside = place_inside;
            entries_are = subst (λ xs. AreEntriesTo v3 xs (slice_set refs place c.single)) (sym so) names3;
            names = k.knows.names ∙ sym (entry_to_on v0 v3 f3 c.single single_used);
            used = used_on v0 v3 f3 c.single single_used;
            alone = k.knows.alone;
            below_is = k.knows.below_is;
          },
        )

        pub contracting_way : (way : Way) → IsOnWay v0 way → IsOnWay v3 way
        contracting_way way on = way_on v0 v3 l0 (λ o. l3) way at0 come03 on

        pub contracting_start : (start : ℕ) → HasStart v0 start → HasStart v3 start
        contracting_start start begun = start_become v0 v3 (λ o. record o { line = l3 }) (moved_become v0 v3 (λ o. l3) come03) l0 at0 start (λ o. refl) begun

        pub contracting_stock : (stock : Stocked) → IsStock stock v0 → IsStock stock v3
        contracting_stock stock s = stock_moved n v0 v3 sound0 l0 at0 (λ o. l3) come03 stock s

        pub contracted_there : (v4 : View) (result : Climbed) → HasContracted v3 result v4 → HasClimbedBranch v0 result v4
        contracted_there v4 result e = elsewhere result v4 (climbed_from v0 v3 v4 l3 come03 c result (e c main at3))

        pub branch_left : (s : Swapping) (v4 : View) → HasLeftContracted v3 s v4 → HasLeftBranch v0 s v4
        branch_left s v4 h d m other =
            subst (λ (x : Climb × Ref). LeavesClimb v0 x.0 s v4) (ap main_parts (sym (line_is v0 l0 at0 other.0 other.1) ∙ other.2))
            (leaves_swap_on (IsClimbAfter c.former) v0 v3 v4 s (runs_on_moved v0 v3 (λ o. l3) come03) (h c main at3))
