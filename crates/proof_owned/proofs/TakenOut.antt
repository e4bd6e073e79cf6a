-- An indirection of its parent's own generation that was taken out of its parent's main node: it stands in no main node to which a root leads, and no root leads to it
-- or to a main node that is its own.
use Rattle.std.proofs.Common.{◌≡◌, ℕ, zero, suc, ◌<◌, ◌≤◌, true, Contains, length, Some, inl, inr, refl, sym, ap, ◌∙◌, subst, arith}
use Rattle.std.proofs.lemmas.Bool.{cases_eq, false≢true}
use Rattle.std.proofs.lemmas.Option.{same_Some}
use Rattle.std.proofs.lemmas.List.Elements.{Contains-get_or}
use Rattle.proof_owned.specs.Beneath.slot_arena.specs.declared.refs.Ref.{Ref}
use Rattle.proof_owned.specs.Beneath.slot_arena.specs.declared.nodes.Prev.{Prev}
use Rattle.proof_owned.specs.Beneath.slot_arena.specs.declared.nodes.Prev.TheVariants as prev
use Rattle.proof_owned.specs.Beneath.slot_arena.specs.Heaps.{empty_branch, entries_of, no_ref}
use Rattle.proof_owned.specs.Beneath.history.specs.declared.calls.Access.TheVariants.{Writable}
use Rattle.proof_owned.specs.Beneath.machine_model.specs.declared.operations.Operation.{Operation}
use Rattle.proof_owned.specs.Beneath.machine_model.specs.declared.reading.SwapLine.TheVariants as swap
use Rattle.proof_owned.specs.Beneath.machine_model.specs.declared.roots.Descriptor.{Descriptor}
use Rattle.proof_owned.specs.Beneath.machine_model.specs.declared.roots.Root.{Root}
use Rattle.proof_owned.specs.Beneath.machine_model.specs.declared.roots.RootWord.{RootWord}
use Rattle.proof_owned.specs.Beneath.machine_model.specs.declared.roots.RootWord.TheVariants.{Plain, Offer}
use Rattle.proof_owned.specs.Beneath.machine_model.specs.declared.steps.Bounds.{Bounds}
use Rattle.proof_owned.specs.Beneath.machine_model.specs.Grown.{node_under}
use Rattle.proof_owned.specs.Beneath.machine_model.specs.Paths.{current}
use Rattle.proof_owned.specs.Beneath.machine_model.specs.States.{State, operation_of, root_at, root_of}
use Rattle.proof_owned.specs.Beneath.machine_model.specs.Times.{IsRun}
use Rattle.proof_owned.specs.Beneath.proof_memory.specs.Levels.{WordLevel}
use Rattle.proof_owned.specs.Beneath.proof_memory.specs.Wants.{AMain, ASingle, meets, is_indirection}
use Rattle.proof_owned.specs.Beneath.proof_commits.specs.Protocol.{Words, Protocol, Given, logical_at}
use Rattle.proof_owned.specs.Beneath.proof_commits.proofs.Known.Acts.{known_run}
use Rattle.proof_owned.specs.Beneath.proof_commits.proofs.Known.Owners.{Staged}
use Rattle.proof_owned.specs.Beneath.proof_commits.proofs.Known.Sounds.{sound_at}
use Rattle.proof_owned.specs.Beneath.proof_commits.proofs.Lines.Stages.{Remembers}
use Rattle.proof_owned.specs.Beneath.proof_commits.proofs.Lines.Swap.{runs_publishing}
use Rattle.proof_owned.specs.Beneath.proof_commits.proofs.Words.Along.{protocol, remembers_at}
use Rattle.proof_owned.specs.Beneath.proof_commits.proofs.Words.Stood.{Stood, Decided, IsOver, over_none, over_pending, over_failed}
use Rattle.proof_owned.specs.Beneath.proof_commits.proofs.Course.Finals.{from_time, link_stays, none_final}
use Rattle.proof_owned.specs.Beneath.proof_commits.proofs.Course.Mains.{MainStep, MainStays, MainChanges, main_decided, main_step, main_when_none, main_when_pending, main_when_failed}
use Rattle.proof_owned.specs.Beneath.proof_contents.proofs.Values.Runs.{counting_main-last}
use Rattle.proof_owned.specs.Beneath.proof_generations.specs.Falling.{WasOpened}
use Rattle.proof_owned.specs.Beneath.proof_generations.proofs.Falling.KnownRoots.{words, protocol_of}
use Rattle.proof_owned.specs.Beneath.proof_generations.proofs.Falling.Runs.{gen_of}
use Rattle.proof_order.specs.Openings.{IsSwap}
use Rattle.proof_order.proofs.Openings.Branches as branch
use Rattle.proof_order.proofs.Openings.Branches.{empty_at}
use Rattle.proof_owned.specs.Beneath.proof_generations.proofs.Handles.Running.{place_of_actor}
use Rattle.proof_owned.specs.Beneath.proof_contents.specs.Runs.{counting_main}
use Rattle.proof_order.proofs.Openings.SwapState.{old_stands}
use Rattle.proof_shape.proofs.Held.Fresh.{Names}
use Rattle.proof_shape.proofs.Runs.Entries.{no_entry}
use Rattle.proof_shape.proofs.Runs.Levels.{level, levels_along}
use Rattle.proof_owned.specs.Owned.{IsLinked}
use Rattle.proof_owned.proofs.AtFirst.{none_at_first}
use Rattle.proof_owned.proofs.Brought.{How, publishes, builds}
use Rattle.proof_owned.proofs.Building.{BuildsAt, at_link, at_clear, runs_building}
use Rattle.proof_owned.proofs.CameIn.{CameIn, came_at, new_once, renews_below}
use Rattle.proof_owned.proofs.Linked.{nothing_good, IsAt, of_handle, of_main, Place, is_link, is_main, is_entry, stood_is_main, linked_place, main_no_link, main_no_single}
use Rattle.proof_owned.proofs.NewEntries.{IsNew, swaps_new, builds_new}
use Rattle.proof_owned.proofs.Earlier.{IsLink}
use Rattle.proof_owned.proofs.OneMain.{own_alone}
use Rattle.proof_owned.proofs.OverNew.{over_counts, over_new}
use Rattle.proof_owned.proofs.Reading.{publishing_opened, given_there}
use Rattle.proof_owned.proofs.Theirs.{IsTheirs}
use Rattle.proof_owned.proofs.Unopened.{IsUnopened, IsRenewing, ComeInAlone, unopened_at}

module _ {limits : Bounds} {states : ℕ → State} {last : ℕ} (run : IsRun limits states last) (a c : Ref) (link : IsLink run c) (own : gen_of states last c ≡ gen_of states last a)
    (before after : ℕ) (order : before ≤ after) (within : after ≤ last) (linked : Words.link (words states run.records last) before a ≡ true)
    (was : Names run (logical_at (words states run.records last) before a) c) (gone : Names run (logical_at (words states run.records last) after a) c → ⊥) where
  abbrev w : Words
  w = words states run.records last

  abbrev p : Protocol
  p = protocol_of run

  decided : Decided w before a (logical_at w before a)
  decided = main_decided w before (sound_at p before (omega arith)).words a linked

  came : CameIn run a c link own before (logical_at w before a)
  came = came_at run a c link own before (omega arith) (logical_at w before a) decided.stood was

  -- the node with which it came in is decided, and there is no other one
  first_none : (u : ℕ) → before ≤ u → u ≤ last → w.prev u came.first ≡ prev.None
  first_none u le h =
      none_final p a came.first before u le h came.stood (elim came.place [ inl same ↦ subst (λ r. w.prev before r ≡ prev.None) same decided.none | inr none ↦ none ])

  is_first : (t : ℕ) (m : Ref) → IsNew run t m c → m ≡ came.first
  is_first t m new = new_once run t came.at m came.first c new came.new

  undecided_old : (u : ℕ) → before ≤ u → u ≤ last → (m q : Ref) → IsOver (w.prev u m) q → Names run m c → Names run q c
  undecided_old u le h m q over names = elim (over_new run u h m q c (w.prev u m) refl over link names) [
    | inl old ↦ old
    | inr (t, b, new) ↦ absurd (over_none (w.prev u m) q (ap (w.prev u) (is_first t m new) ∙ first_none u le h) over)
  ]

  -- ---- from then on it is in none of the parent's main nodes

  gone_next : (v : ℕ) → after ≤ v → v < last → (Names run (logical_at w v a) c → ⊥) → MainStep w v a → Names run (logical_at w (suc v) a) c → ⊥
  gone_next v low h so_far (MainStays e) names = so_far (subst (λ m. Names run m c) e names)
  gone_next v low h so_far (MainChanges x) names =
      so_far
      (subst (λ m. Names run m c) (sym x.before)
      (undecided_old v (omega arith) (omega arith) x.fresh x.replaced (over_pending x.commits.was) (subst (λ m. Names run m c) x.after names)))

  gone_since : (u : ℕ) → after ≤ u → u ≤ last → Names run (logical_at w u a) c → ⊥
  gone_since =
      from_time (λ u. Names run (logical_at w u a) c → ⊥) after last gone
      (λ v low h so_far. gone_next v low h so_far (main_step p v h a (link_stays p a before v (omega arith) (omega arith) linked)))

  not_counting : (m : Ref) → logical_at w last a ≡ m → Names run m c → ⊥
  not_counting m is names = gone_since last within (omega arith) (subst (λ q. Names run q c) (sym is) names)

  at_word : (q : Ref) (v : Prev) → w.main last a ≡ q → w.prev last q ≡ v → Names run q c → ⊥
  at_word q prev.None is none names = not_counting q (main_when_none w last a q is none) names
  at_word q (prev.Pending x) is over names =
      not_counting x (main_when_pending w last a q x is over) (undecided_old last (omega arith) (omega arith) q x (over_pending over) names)
  at_word q (prev.Failed x) is over names =
      not_counting x (main_when_failed w last a q x is over) (undecided_old last (omega arith) (omega arith) q x (over_failed over) names)

  at_parent : (q : Ref) → IsAt run a q → Names run q c → ⊥
  at_parent q (inl is) names = at_word q (w.prev last q) is refl names
  at_parent q (inr over) names = not_counting q (over_counts (w.main last a) q (w.prev last (w.main last a)) over) names

  -- ---- nor in another's

  not_first : (t : ℕ) → t < last → (k : ℕ) (j m : Ref) → (j ≡ a → ⊥) → Stood w (suc t) j m → How w t k j m → (u : ℕ) → IsNew run u m c → ⊥
  not_first t lt k j m other stood how u new =
      let same = is_first u m new in came.theirs.not_elsewhere t lt j other k (subst (λ y. Stood w (suc t) j y) same stood) (subst (λ y. How w t k j y) same how)

  none_empty : (m : Ref) → node_under states last m ≡ empty_branch → Names run m c → ⊥
  none_empty m empty names = no_entry c (subst (λ n. Contains (entries_of n) c) empty names)

  not_brought : (t : ℕ) → t < last → IsUnopened run a (λ m. Names run m c) t → (k : ℕ) (j m : Ref) → (j ≡ a → ⊥) → Names run m c → Stood w (suc t) j m → How w t k j m → ⊥
  not_brought t lt so_far k j m other names stood (publishes x stage) =
      let sound = sound_at p t (omega arith) in
      let (private, given) = subst (λ s. Staged w t k s) stage (sound.staged k) in
      let by = runs_publishing (operation_of (states t) k) j x m stage in
      elim (swaps_new run t (omega arith) k by.operation by.is by.swaps.0 (record { indirection = j; replaced = x; fresh = m; line = swap.Publish }) by.swaps.1 c link names private.made
      (λ i s none. private.apart i (record { at = s.at; past = s.past; link = s.link; is = s.is }))) [
        | inl old ↦ so_far j x other old (sound.given k j x given).stood (publishing_opened run t (omega arith) k j x m stage)
        | inr new ↦ not_first t lt k j m other stood (publishes x stage) t new
      ]
  not_brought t lt so_far k j m other names stood (builds stage was is) =
      let by = runs_building (operation_of (states t) k) m stage in built by.operation by.is by.at
    where
      built : (operation : Operation) → operation_of (states t) k ≡ Some operation → BuildsAt operation.line m → ⊥
      built operation runs (at_link path main position depth at) =
          not_first t lt k j m other stood (builds stage was is) t (builds_new run t (omega arith) k operation runs path main position m depth at c link names)
      built operation runs (at_clear r main at) =
          let (n, place, at_n) = place_of_actor (states t) k operation runs in
          none_empty m (empty_at run t (omega arith) n operation m at_n (subst (λ l. branch.IsCleared l m) (sym at) refl)) names

  not_final : (m : Ref) → counting_main states last last a ≡ m → Names run m c → ⊥
  not_final m keeps names = not_counting m (sym (counting_main-last states last a) ∙ keeps) names

  comes_in_alone : ComeInAlone run a (λ m. Names run m c)
  comes_in_alone = record {
    not_first = λ j m other names stood. no_entry c (subst (λ es. Contains es c) (none_at_first run m ((sound_at p zero (omega arith)).words.made j m stood)) names);
    not_brought = not_brought;
    not_cleared = λ j m other names x. none_empty m x.empty names;
    not_renewed = λ t lt so_far m names r. not_final m r.keeps names;
    not_copied = λ t handle offer swap root names keeps closed. not_final offer.expected keeps names;
  }

  -- whoever has it stands in the parent, or is not yet opened
  in_parent : (t : ℕ) → t ≤ last → (j m : Ref) → Names run m c → Stood w t j m → WasOpened states t (gen_of states last j) → j ≡ a
  in_parent t h j m names stood opened = elim (cases_eq j a) [
    | inl same ↦ same
    | inr other ↦ absurd (unopened_at run a (λ q. Names run q c) comes_in_alone t h j m other names stood opened)
  ]

  -- ---- no root leads to it

  not_root : (t : ℕ) → t ≤ last → (handle : ℕ) (root : Root) → root_at (states t) handle ≡ Some root → root_of root.word ≡ c → ⊥
  not_root t h handle root e is =
      let deep = came.new.1.fresh.deep in
      let shallow = by root.word ((levels_along run t h).words handle root e) in
      omega (arith, deep, shallow, ap (level run) is)
    where
      by : (word : RootWord) → WordLevel (level run) word → level run (root_of word) ≡ 1
      by (Plain r) e = e
      by (Offer offer) e = e.0

  is_indirection_c : is_indirection (node_under states last c) ≡ true
  is_indirection_c = ap is_indirection link.2

  abbrev Placed : Ref → Type 0
  Placed r = Place run (λ x. Unit {0}) (nothing_good run) r

  placed : Placed c → ⊥
  placed (is_link l opened good (of_handle handle root e is)) = not_root last (omega arith) handle root e is
  placed (is_link l opened good (of_main x)) =
      at_parent x.main (subst (λ y. IsAt run y x.main) (in_parent last (omega arith) x.above x.main x.names x.stood x.opened) x.at) x.names
  placed (is_main j above good j_link opened stood at) = main_no_link (node_under states last c) (stood_is_main run last (omega arith) j c stood) is_indirection_c
  placed (is_entry single entry) = false≢true (ap (meets ASingle) (sym link.2) ∙ single)

  pub unlinked : IsLinked (states last) c → ⊥
  unlinked linked = placed (linked_place run (λ x. Unit {0}) (nothing_good run) c linked).1

  -- ---- nor to its own main nodes

  not_renewed : (m : Ref) (t : ℕ) → t < last → IsRenewing run t c m → ⊥
  not_renewed m t lt r =
      let below = renews_below run t (omega arith) r.actor r.operation r.runs r.path r.main r.done m r.at in
      let given = (subst (λ l. Remembers (λ i x. Given (protocol limits states last (known_run run)).words t r.actor i x) (r.operation.access ≡ Writable) l) r.at
      (remembers_at limits states last (known_run run) t (omega arith) r.actor r.operation r.runs)).0 in
      let there = given_there run t (omega arith) r.actor (current r.path) r.main given in
      let among = subst (λ x. Contains r.entries.items x) r.next (Contains-get_or r.entries.items (length r.done) no_ref r.less) in
      let names : Names run r.main c = subst (λ n. Contains (entries_of n) c) (sym r.branch) among in
      let here = in_parent t (omega arith) (current r.path) r.main names there.stood there.opened in
      r.older (own ∙ sym (ap (gen_of states last) here) ∙ below.own ∙ same_Some _ _ (sym below.begun ∙ r.begun))

  module _ (m : Ref) (theirs : IsTheirs run c m) where
    not_copied : (t handle : ℕ) (offer : Descriptor) → IsSwap states run.records last t handle offer → offer.root ≡ c → ⊥
    not_copied t handle offer swap same = let old = old_stands run t handle offer swap in not_root t (omega (arith, swap.taken)) handle old.root old.is_open (old.is ∙ same)

    kind : meets AMain (node_under states last m) ≡ true
    kind = stood_is_main run last (omega arith) c m theirs.stood

    main_placed : Placed m → ⊥
    main_placed (is_link l opened good above) = main_no_link (node_under states last m) kind l
    main_placed (is_entry single entry) = main_no_single (node_under states last m) kind single
    main_placed (is_main j above good j_link opened stood at) = elim (cases_eq j c) [
      | inl same ↦ unlinked (subst (IsLinked (states last)) same above)
      | inr other ↦
          unopened_at run c (λ x. x ≡ m) (own_alone run c m theirs (λ t lt r. not_renewed m t lt r) (λ t handle offer swap root keeps closed. not_copied t handle offer swap root)) last
          (omega arith) j m other refl stood opened
    ]

    pub main_unlinked : IsLinked (states last) m → ⊥
    main_unlinked linked = main_placed (linked_place run (λ x. Unit {0}) (nothing_good run) m linked).1
