-- A copy's operation has found what came of its own offer: what that gives to its seat, which lets go of it.
use Rattle.std.proofs.Common.{◌≡◌, ◌==◌, ◌||◌, ◌+◌, ◌++◌, ◌∷◌, [], ℕ, Bool, true, false, List, Contains, Option, Some, None, append-nil, is_some, length, refl, sym, ap, subst, ◌∙◌, arith}
use Rattle.std.proofs.lemmas.Bool.{true≢false}
use Rattle.std.proofs.lemmas.List.Elements.{Contains-append_left, Contains-push}
use Rattle.machine_model.specs.Beneath.slot_arena.specs.declared.refs.Ref.{Ref}
use Rattle.machine_model.specs.Beneath.slot_arena.specs.Heaps.{empty_branch, generation_of, main_at, main_of, node_at, refs_of_option}
use Rattle.machine_model.specs.declared.copying.CopyLine.TheVariants as copy
use Rattle.machine_model.specs.declared.operations.Operation.{Operation}
use Rattle.machine_model.specs.declared.reading.After.TheVariants.{Gives}
use Rattle.machine_model.specs.declared.roots.Complete.{Complete}
use Rattle.machine_model.specs.declared.roots.CompleteLine.TheVariants as complete
use Rattle.machine_model.specs.declared.roots.Descriptor.{Descriptor}
use Rattle.machine_model.specs.declared.steps.Step.{Step}
use Rattle.machine_model.specs.Machine.{run}
use Rattle.machine_model.specs.States.{State}
use Rattle.proof_claims.specs.Left.{is_freeze, names}
use Rattle.machine_model.specs.declared.steps.Bounds.{Bounds}
use Rattle.proof_garbage.proofs.Claims.{one_in}
use Rattle.proof_memory.specs.Laws.{IsInUse}
use Rattle.proof_memory.specs.Wants.{is_indirection}
use Rattle.proof_waiting.specs.Beneath.proof_slots.specs.Lasting.{widened}
use Rattle.lock_free.specs.declared.accounts.Account.{Account}
use Rattle.lock_free.specs.declared.copy_gifts.CopyMain.{CopyMain}
use Rattle.lock_free.specs.declared.copy_roots.CopyKind.{CopyKind}
use Rattle.lock_free.specs.declared.copy_roots.CopyKind.TheVariants as kind
use Rattle.lock_free.specs.declared.leaving.Completing.{Completing}
use Rattle.lock_free.specs.declared.reclaiming.Kind.{Kind}
use Rattle.lock_free.specs.declared.reclaiming.Kind.TheVariants as kinds
use Rattle.lock_free.specs.declared.rules.View.{View}
use Rattle.lock_free.specs.Accounts.{bounds_for, running, state_of}
use Rattle.lock_free.specs.CopyGifts.{HasBelow, MayLetGo, SawExpected, SawMain, main_given, root_given}
use Rattle.lock_free.specs.CopySteps.{as_before, copied_line, copy_kind, is_snapshot, HasCopied, HasHungRoots, IsAtCopy, IsKind, IsOwnCompleting}
use Rattle.lock_free.specs.Counts.{how_often}
use Rattle.lock_free.specs.GoingDown.{HasMoved}
use Rattle.lock_free.specs.Loading.{now, IsSound, Runs, Saw}
use Rattle.lock_free.specs.Nodes.{class_of}
use Rattle.lock_free.specs.OfReads.{read_to}
use Rattle.lock_free.specs.Outcomes.{HasConcluded, IsConcluding, made_for, times_given}
use Rattle.lock_free.specs.Passing.{IsPlaced, Later}
use Rattle.lock_free.specs.Places.{small_class}
use Rattle.lock_free.specs.Raising.{HasReleasedAll}
use Rattle.lock_free.specs.Reclaiming.{kind_of_node}
use Rattle.lock_free.specs.Rooting.{HasReadExpected}
use Rattle.lock_free.proofs.CopiesLeft as left
use Rattle.lock_free.proofs.CopyGifts.{complete_saw, one_offer, root_link, successor_link}
use Rattle.lock_free.proofs.CopyReads.{completing_with}
use Rattle.lock_free.proofs.Comings.{runs_one, saw_runs}
use Rattle.lock_free.proofs.Followings.{follows_later}
use Rattle.lock_free.proofs.GivenBack.{node_is}
use Rattle.lock_free.proofs.HandHolds.{class_stays}
use Rattle.lock_free.proofs.Laters.{later_both, placed_later, saw_later, waited_later}
use Rattle.lock_free.proofs.OneStep.Found.{slot_at}
use Rattle.lock_free.proofs.OneStep.LinksWide.{node_wide}
use Rattle.lock_free.proofs.OneStep.Longer.{run_longer}
use Rattle.lock_free.proofs.OneStep.Retired.{used_wide}
use Rattle.lock_free.proofs.RenewEntries.{main_kind_is}
use Rattle.lock_free.proofs.RootsOver as over
use Rattle.lock_free.proofs.CopyTimes.{IsOfKind, link_class, link_kind, none_shared, of_kind_on, root_times, roots_named}
use Rattle.lock_free.proofs.KindsApart.{kind_same}

-- it is the same copy where it has seen more
pub kind_saw : (v w : View) → Saw v w → (o : Operation) → Runs v o → (k : CopyKind) → IsKind v k → IsKind w k
kind_saw v w s o runs k which q is = ap (λ (z : Operation). copy_kind z.call) (runs_one w q o is (saw_runs v w s o runs)) ∙ which o runs

-- ---- it sees more before it finds that

module _ (n : ℕ) (before : View) (slot : ℕ) (expected : Bool) (w : View) (sound_w : IsSound n w) (r : HasReadExpected before slot expected w) (u : View) (s : Saw w u) where
  pub expected_saw : HasReadExpected before slot expected u
  expected_saw = record {
    main = r.main;
    come = record {
      later = later_both before w u r.come.later (saw_later n w sound_w u s);
      comes = λ o runs. saw_runs w u s (read_to (Gives r.main) o) (r.come.comes o runs);
    };
    at = complete_saw n w sound_w slot expected r.at u s;
  }

neither : (a b : Bool) → (a || b) ≡ false → b ≡ false
neither true b e = absurd (true≢false e)
neither false b e = e

-- ---- and finds it

module _ (before : View) (handle : ℕ) (s : Completing) (to : IsOwnCompleting before handle s) (k : CopyKind) (which : IsKind before k) (n : ℕ) (sound : IsSound n before) (expected : Bool) (u : View)
    (sound_u : IsSound n u) (r : HasReadExpected before s.offer expected u) (after : View) (sound_after : IsSound n after) (carried : Bool) (h : HasConcluded u carried after) where
  abbrev o : Operation
  o = to.at.0

  abbrev offer : Descriptor
  offer = to.its.its.offer

  abbrev c : Complete
  c = record { offer = to.its.its.offer; line = complete.Swap r.main }

  abbrev at_u : IsAtCopy u (copy.Complete c)
  at_u = (record o { line = completing_with to.its.its.offer r.main }, left.ran before handle s to u n sound sound_u expected r, refl)

  abbrev g : IsConcluding u s.offer expected
  g = left.concluding before handle s to u n sound sound_u expected r

  same_offer : c.offer ≡ g.at.its.offer
  same_offer = one_offer n u sound_u s.offer expected g c at_u

  -- ---- at that moment

  abbrev account : Account
  account = h.account

  abbrev limits : Bounds
  limits = bounds_for u.sizes account.steps

  abbrev state : State
  state = state_of u.sizes h.account

  there : (mark : Bool) × running u.sizes h.account u.actor (record o { line = completing_with to.its.its.offer r.main; is_marked = mark })
  there =
      let (mark, runs) = left.ran before handle s to u n sound sound_u expected r in
      let t = h.waited.stays (record o { line = completing_with to.its.its.offer r.main; is_marked = mark }) runs in
      (t.0, t.1)

  abbrev q : Operation
  q = record o { line = completing_with to.its.its.offer r.main; is_marked = there.0 }

  -- what is so of its operation then
  pub private_none : o.private ≡ []
  private_none = over.private_none limits h.waited.sound.bounds account.steps u.actor q there.1 c refl

  two : is_some to.its.its.offer.second ≡ is_snapshot k
  two = over.second_is limits h.waited.sound.bounds account.steps u.actor q there.1 c refl ∙ ap is_snapshot (which o to.at.1)

  frozen : is_freeze to.its.its.offer.opens to.its.its.offer.second ≡ over.is_frozen k
  frozen = over.freeze_is limits h.waited.sound.bounds account.steps u.actor q there.1 c refl ∙ ap over.is_frozen (which o to.at.1)

  -- so often each node is given
  given : (j : Ref) → how_often j after.owed ≡ how_often j before.owed + times_given carried (state_of u.sizes h.account) to.its.its.offer j
  given j =
      h.given offer r.main j (left.at_complete before handle s to u n sound sound_u expected r)
      ∙ ap (λ ks. how_often j ks + times_given carried state offer j) (ap (λ (x : View). x.owed) r.come.later.is)

  -- ---- after it

  runs_after : Runs after (record o { line = copied_line carried o })
  runs_after = left.ends before handle s to u n sound sound_u expected r after sound_after carried h o to.at.1

  later_after : Later u (as_before before after)
  later_after = left.later_then before handle s to u n sound sound_u expected r after sound_after carried h

  of_kind_after : (m : Ref) (what : Kind) (class name : ℕ) → IsOfKind u m what class name → IsOfKind after m what class name
  of_kind_after m what class name is =
      let x = of_kind_on u (as_before before after) (follows_later u (as_before before after) later_after) m what class name is in
      record { there = record { slot = x.there.slot; used = x.there.used; class_is = x.there.class_is; place = x.there.place }; its_kind = x.its_kind }

  may_go : (m : Ref) (what : Kind) (class name : ℕ) (gifts : List Ref) → IsOfKind u m what class name → ((j : Ref) → how_often j after.owed ≡ how_often j before.owed + how_often j gifts) →
      MayLetGo after m what class name gifts
  may_go m what class name gifts is all =
      let x = of_kind_after m what class name is in
      record {
        there = x.there;
        its_kind = x.its_kind;
        shared = none_shared after (record o { line = copied_line carried o }) runs_after private_none m;
        held = λ j. (let e = all j in omega (arith, e));
      }

  -- ---- it was carried out

  module _ (truly : carried ≡ true) where
    pub root_gifts : (j : Ref) → how_often j after.owed ≡ how_often j before.owed + how_often j (root_given k to.its.its.offer.root)
    root_gifts j =
        given j ∙ ap (λ b. how_often j before.owed + times_given b state offer j) truly
        ∙ ap (λ t. how_often j before.owed + t) (root_times k offer.root j (is_freeze offer.opens offer.second) frozen)

    root_kind : IsOfKind u offer.root kinds.Indirection small_class s.root
    root_kind =
        let placed = placed_later before u r.come.later offer.root s.root to.root in
        let link : is_indirection placed.0.0.node ≡ true = ap is_indirection (sym (node_is (now u) offer.root placed.0.0 placed.0.1))
        ∙ subst (λ (d : Descriptor). is_indirection (node_at (now u).heap d.root) ≡ true) (sym same_offer) (root_link n u sound_u s.offer expected g) in
        record {
          there = record { slot = placed.0.0; used = placed.0.1; class_is = link_class placed.0.0.node link; place = placed.1 };
          its_kind = ap kind_of_node (node_is (now u) offer.root placed.0.0 placed.0.1) ∙ link_kind placed.0.0.node link;
        }

    pub root_may : MayLetGo after to.its.its.offer.root kinds.Indirection small_class s.root (root_given k to.its.its.offer.root)
    root_may = may_go offer.root kinds.Indirection small_class s.root (root_given k offer.root) root_kind root_gifts

  -- ---- or taken back

  module _ (falsely : carried ≡ false) where
    unmarked : q.is_marked ≡ false
    unmarked =
        neither _ q.is_marked
        (h.tells offer r.main (left.at_complete before handle s to u n sound sound_u expected r) q there.1 (record { its = to.its_try.its; now = to.its_try.now }) ∙ falsely)

    -- each of its roots stands over this main node
    abbrev AreOver : Ref → Type 0
    AreOver m = (x : Ref) → Contains (made_for to.its.its.offer) x → main_at (state_of u.sizes h.account).heap x ≡ m

    main_gifts : (m : Ref) → AreOver m → (j : Ref) → how_often j after.owed ≡ how_often j before.owed + how_often j (main_given k m)
    main_gifts m each j =
        given j ∙ ap (λ b. how_often j before.owed + times_given b state offer j) falsely
        ∙ ap (λ t. how_often j before.owed + t)
        (roots_named k offer.successor offer.second (λ (x : Ref). names state x j) j m two
        (λ x made. over.root_names limits h.waited.sound.bounds account.steps u.actor q there.1 c refl unmarked x made j ∙ ap (λ y. y == j) (each x made)))

    -- it is let go of, then
    pub record MainGiven (main : CopyMain) : Type 0 where
      pub node : Ref
      pub may : MayLetGo after node kinds.Main main.class main.slot (main_given k node)
      pub gifts : (j : Ref) → how_often j after.owed ≡ how_often j before.owed + how_often j (main_given k node)

    main_let : (main : CopyMain) (m : Ref) → AreOver m → IsOfKind u m kinds.Main main.class main.slot → MainGiven main
    main_let main m each is = record { node = m; may = may_go m kinds.Main main.class main.slot (main_given k m) is (main_gifts m each); gifts = main_gifts m each }

    -- the one that the offer expects
    expected_over : over.is_cleared k ≡ false → AreOver to.its.its.offer.expected
    expected_over clear x made =
        over.over_expected limits h.waited.sound.bounds account.steps u.actor q there.1 c refl unmarked x made (ap over.is_cleared (which o to.at.1) ∙ clear)

    -- ---- that of a clear

    module _ (clear : over.is_cleared k ≡ true) (alone : to.its.its.offer.second ≡ None) where
      abbrev fresh : Ref
      fresh = offer.successor

      fresh_made : Contains (made_for to.its.its.offer) fresh
      fresh_made = Contains-append_left (fresh ∷ []) (refs_of_option offer.second) fresh (Contains-push [] fresh)

      fresh_link : IsInUse (now u).heap fresh × (is_indirection (node_at (now u).heap fresh) ≡ true)
      fresh_link =
          subst (λ (d : Descriptor). IsInUse (now u).heap d.successor × (is_indirection (node_at (now u).heap d.successor) ≡ true)) (sym same_offer)
          (successor_link n u sound_u s.offer expected g)

      abbrev m : Ref
      m = main_at (now u).heap fresh

      -- until then
      abbrev more : List Step
      more = h.waited.waited.steps

      goes_on : account.steps ≡ u.account.steps ++ more
      goes_on = h.waited.waited.goes_on

      state_early : run limits u.account.steps ≡ widened (length more) (length (u.account.steps ++ more) + 1) (now u)
      state_early =
          ap (λ l. run (bounds_for u.sizes l) u.account.steps) goes_on
          ∙ run_longer u.sizes u.account.steps sound_u.bounds u.account.steps [] more (sym (append-nil u.account.steps))

      node_early : node_at (run limits u.account.steps).heap fresh ≡ node_at (now u).heap fresh
      node_early = ap (λ (z : State). node_at z.heap fresh) state_early ∙ node_wide (length more) (length (u.account.steps ++ more) + 1) (now u) fresh

      stays : main_at (state_of u.sizes h.account).heap fresh ≡ m
      stays =
          over.stays_over limits h.waited.sound.bounds account.steps u.actor q there.1 c refl unmarked fresh fresh_made u.account.steps more goes_on
          (subst (λ (z : State). IsInUse z.heap fresh) (sym state_early) (used_wide (length more) (length (u.account.steps ++ more) + 1) (now u) fresh fresh_link.0))
          (ap is_indirection node_early ∙ fresh_link.1)
          ∙ ap main_of node_early

      empty_over : AreOver m
      empty_over x made =
          let one : fresh ≡ x = one_in (λ z. fresh ≡ z) fresh refl x (subst (λ d. Contains (fresh ∷ refs_of_option d) x) alone made) in
          ap (λ z. main_at state.heap z) (sym one) ∙ stays

      empty_there : node_at state.heap m ≡ empty_branch
      empty_there =
          ap (λ z. node_at state.heap z) (sym stays)
          ∙ over.over_empty limits h.waited.sound.bounds account.steps u.actor q there.1 c refl unmarked fresh fresh_made (ap over.is_cleared (which o to.at.1) ∙ clear)

      empty_kind : (class name : ℕ) → class ≡ small_class → IsPlaced u m name → IsOfKind u m kinds.Main class name
      empty_kind class name is placed =
          let later = (waited_later n u sound_u h.account h.waited).nodes m placed.0.0 placed.0.1 in
          let empty : later.0.node ≡ empty_branch = sym (node_is state m later.0 later.1) ∙ empty_there in
          record {
            there = record {
              slot = placed.0.0;
              used = placed.0.1;
              class_is = sym (class_stays placed.0.0.node later.0.node later.2) ∙ ap class_of empty ∙ sym is;
              place = placed.1;
            };
            its_kind = ap kind_of_node (node_is (now u) m placed.0.0 placed.0.1) ∙ sym (kind_same placed.0.0.node later.0.node later.2) ∙ ap kind_of_node empty;
          }

      pub empty_given : (main : CopyMain) → main.class ≡ small_class → HasBelow u fresh main.slot → MainGiven main
      empty_given main is below =
          let used = fresh_link.0.0 in
          let stored = slot_at (now u).heap fresh used fresh_link.0.1 in
          let node = over.link_node (node_at (now u).heap fresh) fresh_link.1 in
          main_let main m empty_over
          (empty_kind main.class main.slot is (below used (generation_of (node_at (now u).heap fresh)) m stored (sym (node_is (now u) fresh used stored) ∙ node)))

-- ---- by what it has seen before

module _ (before : View) (handle : ℕ) (s : Completing) (to : IsOwnCompleting before handle s) (k : CopyKind) (which : IsKind before k) (n : ℕ) (sound : IsSound n before) (expected : Bool) (w : View)
    (sound_w : IsSound n w) (r : HasReadExpected before s.offer expected w) (main : CopyMain) (u : View) (saw : SawMain w k main u) where
  pub main_saw : Saw w u
  main_saw = by k saw
    where
      by : (k : CopyKind) → SawMain w k main u → Saw w u
      by kind.Clear x = x.saw
      by kind.Snapshot x = x.saw
      by kind.Freeze x = x.saw

  pub then : HasReadExpected before s.offer expected u
  then = expected_saw n before s.offer expected w sound_w r u main_saw

  at_w : IsAtCopy w (copy.Complete (record { offer = to.its.its.offer; line = complete.Swap r.main }))
  at_w = (record to.at.0 { line = completing_with to.its.its.offer r.main }, left.ran before handle s to w n sound sound_w expected r, refl)

  module _ (sound_u : IsSound n u) (after : View) (sound_after : IsSound n after) (h : HasConcluded u false after) where
    abbrev Given : Type 0
    Given = MainGiven before handle s to k which n sound expected u sound_u then after sound_after false h refl main

    pub main_given_so : Given
    main_given_so = by k refl saw
      where
        expected_given : over.is_cleared k ≡ false → SawExpected w main u → Given
        expected_given clear x =
            let e = to.its.its.offer.expected in
            let there = x.there (record { offer = to.its.its.offer; line = complete.Swap r.main }) at_w in
            main_let before handle s to k which n sound expected u sound_u then after sound_after false h refl main e
            (expected_over before handle s to k which n sound expected u sound_u then after sound_after false h refl clear)
            (record { there = there; its_kind = main_kind_is (node_at (now u).heap e) (x.is_main (record { offer = to.its.its.offer; line = complete.Swap r.main }) at_w) })

        alone_by : (second : Option Ref) → is_some second ≡ false → second ≡ None
        alone_by None e = refl
        alone_by (Some x) e = absurd (true≢false e)

        by : (kind_is : CopyKind) → k ≡ kind_is → SawMain w kind_is main u → Given
        by kind.Clear is x =
            empty_given before handle s to k which n sound expected u sound_u then after sound_after false h refl (ap over.is_cleared is)
            (alone_by to.its.its.offer.second (two before handle s to k which n sound expected u sound_u then after sound_after false h ∙ ap is_snapshot is)) main x.class
            (x.below (record { offer = to.its.its.offer; line = complete.Swap r.main }) at_w)
        by kind.Snapshot is x = expected_given (ap over.is_cleared is) x
        by kind.Freeze is x = expected_given (ap over.is_cleared is) x

-- ---- it is let go of

module _ (before x z : View) (carried : Bool) (moved : HasMoved (copied_line carried) before (as_before before x)) (gifts : List Ref)
    (given : (j : Ref) → how_often j x.owed ≡ how_often j before.owed + how_often j gifts) (done : HasReleasedAll x gifts z) where
  pub copied_then : HasCopied before carried z
  copied_then =
      let same : as_before before z ≡ as_before before x = ap (as_before before) done.kept.is in
      record {
        moved = record {
          later = subst (Later before) (sym same) moved.later;
          comes = λ o runs. subst (λ (v : View). Runs v (record o { line = copied_line carried o })) (sym same) (moved.comes o runs);
        };
        owed = λ j. (let all = given j in let less = done.all j in omega (arith, all, less));
      }

-- ---- after its roots hang

pub owed_hung : (x y : View) → HasHungRoots x y → y.owed ≡ x.owed
owed_hung x y hung = ap (λ (v : View). v.owed) hung.hung.is ∙ ap (λ (v : View). v.owed) hung.saw.after_is

module _ (n : ℕ) (x : View) (sound : IsSound n x) (y : View) (hung : HasHungRoots x y) (o : Operation) (runs : Runs x o) (none : o.private ≡ []) where
  pub may_hung : (m : Ref) (what : Kind) (class name : ℕ) (gifts : List Ref) → MayLetGo x m what class name gifts → MayLetGo y m what class name gifts
  may_hung m what class name gifts h =
      let at = hung.at in
      let there = of_kind_on x at (follows_later x at (saw_later n x sound at hung.saw)) m what class name (record { there = h.there; its_kind = h.its_kind }) in
      let shared = none_shared at o (saw_runs x at hung.saw o runs) none m in
      subst (λ v. MayLetGo v m what class name gifts) (sym hung.hung.is)
      (record {
        there = record { slot = there.there.slot; used = there.there.used; class_is = there.there.class_is; place = there.there.place };
        its_kind = there.its_kind;
        shared = shared;
        held = λ j. (let all = h.held j in let same = ap (λ (v : View). how_often j v.owed) hung.saw.after_is in omega (arith, all, same));
      })
