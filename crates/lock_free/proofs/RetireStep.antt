-- The load that is the last step of a SWAP retires the slot of the main node that it lets go of, and gives what that one held to the seat.
use Rattle.history.specs.declared.calls.Call.{Call}
use Rattle.std.proofs.Common.{◌≡◌, ◌≢◌, ◌*◌, ◌≤◌, ◌==◌, ◌&&◌, ◌⊎◌, inl, ℕ, Bool, true, false, List, [], ◌∷◌, Contains, Some, set, slice_index, refl, sym, ap, subst, ◌∙◌, arith}
use Rattle.std.proofs.lemmas.Bool.{true≢false}
use Rattle.std.proofs.lemmas.List.Elements.{Contains-append_left}
use mathlib.Core.Option.{some}
use lib.ListN.{get_elem?}
use Rattle.atomic_table.specs.Table as Table
use Rattle.atomic_table.specs.Table.{Allows, Me, step}
use Rattle.trie_words.specs.Codes.{header_of}
use Rattle.trie_words.specs.declared.headers.Previous.{Previous}
use Rattle.trie_words.specs.declared.headers.Previous.TheVariants as previous
use Rattle.machine_model.specs.Beneath.slot_arena.specs.declared.nodes.Prev.TheVariants as prev
use Rattle.machine_model.specs.Beneath.slot_arena.specs.declared.refs.Ref.{Ref}
use Rattle.machine_model.specs.Beneath.slot_arena.specs.Heaps.{node_at, prev_at}
use Rattle.machine_model.specs.Beneath.slot_arena.specs.Refs.{slot_of}
use Rattle.machine_model.specs.declared.actions.Action.TheVariants as act
use Rattle.machine_model.specs.declared.operations.Operation.{Operation}
use Rattle.machine_model.specs.declared.steps.Step.TheVariants as machine
use Rattle.machine_model.specs.Operations.{action_of, line_action}
use Rattle.machine_model.specs.States.{State}
use Rattle.proof_claims.specs.Changes.{change_of}
use Rattle.proof_claims.specs.Claims.{Has}
use Rattle.proof_claims.specs.Dropped.{HasFailed}
use Rattle.proof_claims.specs.Held.{Claim, Ends, Held, OfNode, is_owned}
use Rattle.proof_memory.specs.Laws.{IsInUse}
use Rattle.proof_memory.specs.Wants.{is_main_node}
use Rattle.proof_claims.specs.Beneath.proof_reuse.specs.Laws.{HasReplaced, IsGarbage}
use Rattle.lock_free.specs.declared.accounts.Account.{Account}
use Rattle.lock_free.specs.declared.rules.Retired.{Retired}
use Rattle.lock_free.specs.declared.rules.View.{View}
use Rattle.lock_free.specs.Accounts.{state_of, place_of, running, gone_on, HasGrown, IsOwn}
use Rattle.lock_free.specs.Claims.{held_now}
use Rattle.lock_free.specs.Counts.{references}
use Rattle.lock_free.specs.Holdings.{IsHere, count_of}
use Rattle.lock_free.specs.LettingGo.{let_go, HoldsLeft}
use Rattle.lock_free.specs.Live.{IsKnown, IsLive}
use Rattle.lock_free.specs.Loading.{now, IsAt, IsAtSlot, IsSound, HasGone, HasHeader}
use Rattle.lock_free.specs.Nodes.{class_of}
use Rattle.lock_free.specs.Owing.{owes_then, owing}
use Rattle.lock_free.specs.Owning.{IsOwnBy}
use Rattle.lock_free.specs.Places.{words_of}
use Rattle.lock_free.specs.Reclaiming.{IsChecking, HasRetired, HasRetiredOrNot, is_decided, retiring}
use Rattle.lock_free.specs.Rules.{AreEpochs, AreOwed, AreRetired, IsKept, WasGarbage, WasLetGo, by_commit, by_refusal}
use Rattle.lock_free.specs.Steps.{Reads}
use Rattle.lock_free.proofs.Asked.{live_in_use, nodes_stay, read_is_met}
use Rattle.lock_free.proofs.CheckHolds.{held_own, held_refused, held_shared, owned_now}
use Rattle.lock_free.proofs.Definition.{IsReading, reads_of}
use Rattle.lock_free.proofs.EpochStays.{IsAsWas, epoch_in, epochs_stay, was_then}
use Rattle.lock_free.proofs.GivenBack.{node_is}
use Rattle.lock_free.proofs.HeldRetiring.{some_claims}
use Rattle.lock_free.proofs.KindsApart.{shallow_kind}
use Rattle.lock_free.proofs.Keeping.{kept_owing, kept_retiring}
use Rattle.lock_free.proofs.Led.{early_led, led_pinned}
use Rattle.lock_free.proofs.Lettings.{TakesNone, reading_takes}
use Rattle.lock_free.proofs.LookGives.{had_or, held_letting_go, held_owing, owes_is}
use Rattle.lock_free.proofs.Looking.{header_read}
use Rattle.lock_free.proofs.Moments.{before, gone_sound, gone_took, gone_view, live_place, seat, still_own, waited_so}
use Rattle.lock_free.proofs.NewNodes.{class_same}
use Rattle.lock_free.proofs.OneStep.Found.{live_used}
use Rattle.lock_free.proofs.OwedStay.{owed_changing}
use Rattle.lock_free.proofs.Passes.{none_says}
use Rattle.lock_free.proofs.Refused.{never_refused, refused_garbage}
use Rattle.lock_free.proofs.Retirable.{item, item_class, never_let_go, not_retired, own_then, replaced_garbage, was_garbage}
use Rattle.lock_free.proofs.RetiredStay.{retired_then}
use Rattle.lock_free.proofs.RetiresOne.{newly, one_more}
use Rattle.lock_free.proofs.SeatOwing.{owing_sound}
use Rattle.lock_free.proofs.SwapChecks.{failed_known, fresh_held, fresh_lives, fresh_main, given, link_lives, own_known, replaced_held, own_ends, failed_ends}
use Rattle.lock_free.proofs.SwapChecks.{replaced_lives, replaced_main, shared_known}
use Rattle.lock_free.proofs.SwapRuns.{is_none, not_none}
use Rattle.lock_free.proofs.Verdicts.{prev_is}
use Rattle.lock_free.proofs.Waiting.{grown_none}

pub decided_none : (p : Previous) → is_decided p ≡ true → p ≡ previous.None
decided_none previous.None e = refl
decided_none p e = absurd (true≢false (sym e))

pub undecided_some : (p : Previous) → is_decided p ≡ false → p ≢ previous.None
undecided_some p e same = true≢false (ap is_decided (sym same) ∙ e)

abbrev pub checks_slot : (v : View) (i m f : Ref) → IsChecking v i m f → (name : ℕ) → place_of v.account f ≡ name → IsAtSlot v act.ReadPrev name
checks_slot v i m f p name placed = (f, record { operation = p.operation; runs = p.runs; acts = ap (line_action (now v) p.operation) p.line_is }, placed)

module _ (v : View) (i m f : Ref) (own : Bool) (p : IsChecking v i m f) (owned : IsOwn v.account i m own) (name : ℕ) (placed : place_of v.account f ≡ name) (s : Table.State Call View)
    (kept : IsKept v.sizes s) (epochs : AreEpochs s.words s.views) (old : AreRetired v.sizes s.words s.views) (id : ℕ) (at : get_elem? s.views id ≡ some v) where
  abbrev there : Account
  there = kept.account

  abbrev state : State
  state = state_of v.sizes there

  abbrev held : Held
  held = held_now v.sizes there

  abbrev after : Account
  after = gone_on v.actor there

  abbrev word : ℕ
  word = 2 * name

  abbrev found : ℕ
  found = slice_index s.words word

  at_prev : IsAt v (act.ReadPrev f)
  at_prev = (checks_slot v i m f p name placed).1

  reading : IsReading (action_of (now v) p.operation)
  reading = subst IsReading (sym (ap (line_action (now v) p.operation) p.line_is)) tt

  pub stays : (mark : Bool) × running v.sizes kept.account v.actor (record p.operation { is_marked = mark })
      × (action_of (state_of v.sizes kept.account) (record p.operation { is_marked = mark }) ≡ action_of (now v) p.operation)
  stays = (waited_so v s kept id at).stays p.operation p.runs

  abbrev o : Operation
  o = record p.operation { is_marked = stays.0 }

  reads : Reads v.sizes there v.actor o
  reads = reads_of v.sizes there kept.bounds v.actor o stays.1 (subst IsReading (sym stays.2) reading)

  abbrev gone : View
  gone = gone_view v s kept id at p.operation p.runs reading

  abbrev went : HasGone v word found gone
  went = (record { table = s; kept = kept; id = id; at = at; finds = refl }, refl, gone_took v s kept id at p.operation p.runs reading)

  takes_nothing : TakesNone kept.stands state o (action_of state o)
  takes_nothing = reading_takes kept.stands state o (action_of state o) (subst IsReading (sym stays.2) reading)

  -- with what it holds then
  abbrev w : View
  w = owing gone (owes_then v there)

  abbrev Known : Ref → Type 0
  Known = IsKnown state (λ n. n ≡ o.id)

  abbrev its : List Ref
  its = given v.sizes there kept.bounds v.actor o stays.1 p.why i m f p.line_is

  pub record Leaves (committed : Bool) : Type 0 where
    pub view_then : View
    pub ruled : IsKept v.sizes (record { words = s.words; homes = s.homes; views = set s.views id view_then })
    pub in_epochs : AreEpochs s.words (set s.views id view_then)
    pub retired : AreRetired v.sizes s.words (set s.views id view_then)
    pub heard : view_then.heard ≡ v.heard
    pub links : view_then.links ≡ v.links
    pub pin : view_then.pin ≡ v.pin
    pub glance : view_then.glance ≡ v.glance
    pub more : (y : Retired) → Contains v.retired y → Contains view_then.retired y
    pub newly : (y : Retired) → Contains view_then.retired y → Contains v.retired y ⊎ (y.stamp ≡ epoch_in s.words)
    pub owes : (k : Ref) → Contains view_then.owed k → Contains v.owed k ⊎ Known k
    pub told : HasRetired v m f own committed word found view_then
    pub sound : IsSound (words_of v.sizes) view_then

  epochs_then : (x : View) → IsAsWas v x → AreEpochs s.words (set s.views id x)
  epochs_then x it = epochs_stay s.words s.words s.views (set s.views id x) refl (was_then s.views id v at x it) epochs

  sound_then : IsSound (words_of v.sizes) w
  sound_then = owing_sound (words_of v.sizes) gone (owes_then v there) (gone_sound v s kept id at p.operation p.runs reading)

  owned_there : is_owned held i m ≡ own
  owned_there = owned_now v s kept id at i m f own p owned o stays.1 p.line_is

  -- what is given the seat holds
  holds : (k : Ref) → Contains its k → Contains (owes_then v there) k
  holds k c =
      subst (λ ks. Contains ks k) (sym (owes_is v s kept id at o stays.1 p.why i m f p.line_is reads takes_nothing)) (Contains-append_left its v.owed k c)

  -- ---- it lets go of a node

  module _ (r : Ref) (lives_v : IsLive (now v) r) (lives : IsLive state r) (main : is_main_node (node_at state.heap r) ≡ true) (claimed : Has held (OfNode i) r)
      (ends : (change_of state held (machine.Go v.actor)).fate (record { by = OfNode i; on = r }) ≡ Ends) (garbage : IsGarbage (state_of v.sizes after) r)
      (led : (k : Ref) → Contains its k → Known k) (committed : Bool) (is : let_go own committed m f ≡ Some r) (left : HoldsLeft v own m f committed (owes_then v there)) where
    used_r : IsInUse state.heap r
    used_r = live_used v.sizes there kept.bounds r lives

    here_is : IsHere v.sizes there kept.stands r
    here_is = (used_r, kept.nodes.live r lives)

    abbrev x : Retired
    x = item v.sizes there kept.bounds kept.quiet v.actor r used_r (epoch_in s.words)

    module _ (goes : WasLetGo v.sizes x r) (never : (y : Retired) → HasGrown y.account there → WasLetGo v.sizes y r → ⊥) where
      some_counted : 1 ≤ references s.words (count_of v.sizes there r)
      some_counted =
          let ended : Claim = record { by = OfNode i; on = r } in
          let stands = ap (λ b. b && kept.stands (slot_of i)) (eq_self r) ∙ kept.nodes.live i (link_lives v.sizes there kept.bounds v.actor o stays.1 p.why i m f p.line_is) in
          let one = some_claims kept.stands r held.claims ended claimed stands in let all = kept.held.counted r here_is in omega (arith, one, all)
        where
          eq_self : (k : Ref) → (k == k) ≡ true
          eq_self k = grind arith

      abbrev view_then : View
      view_then = retiring w x

      never_before : (y : Retired) → WasGarbage v.sizes y → HasGrown y.account there → y.deep ≡ false → y.number ≢ slot_of r
      never_before y was grown shallow = not_retired v.sizes there kept.bounds kept.quiet v.actor r used_r y was grown shallow (never y grown)

      class_is : x.class ≡ class_of (node_at (now v).heap r)
      class_is =
          let was = live_in_use v.sizes v.account (before v s kept id at) r lives_v in
          let later = nodes_stay v.sizes v.actor v.account there (seat v s kept id at).waited kept.bounds (slot_of r) was.0 was.1 in
          item_class v.sizes there kept.bounds kept.quiet v.actor r used_r ∙ ap class_of (node_is state r later.0 later.1) ∙ class_same was.0.node later.0.node later.2
          ∙ sym (ap class_of (node_is (now v) r was.0 was.1))

      lets_go : Leaves committed
      lets_go = record {
        view_then = view_then;
        ruled = kept_retiring v.sizes s kept id v at o stays.1 reads takes_nothing (owes_then v there) x
            (was_garbage v.sizes there kept.bounds kept.quiet v.actor r used_r kept.counted garbage (epoch_in s.words) goes) (grown_none after) (kept.nodes.live r lives)
            (held_letting_go v s kept id at o stays.1 p.why i m f p.line_is reads takes_nothing led r x refl refl here_is claimed ends);
        in_epochs = epochs_then view_then (record { actor = refl; epoch = refl; passed = refl; glance = refl; pinned = λ pin same. same });
        retired = one_more v s kept id at epochs old r x refl refl here_is some_counted never_before w refl refl;
        heard = refl;
        links = refl;
        pin = refl;
        glance = refl;
        more = λ y c. Contains-append_left v.retired (x ∷ []) y c;
        newly = newly v s kept id at epochs old r x refl refl here_is some_counted never_before w refl refl;
        owes = had_or v s kept id at o stays.1 p.why i m f p.line_is reads takes_nothing led;
        told = record {
          gone = gone;
          went = went;
          retired = subst (λ q. HasRetiredOrNot v q w view_then) (sym is)
              (record { item = x; number = refl; name = live_place v s kept id at r lives_v; class = class_is; kind = refl; what = shallow_kind v.sizes x refl; is = refl });
          holds = left;
        };
        sound = record {
          size = sound_then.size;
          range = sound_then.range;
          bounds = sound_then.bounds;
          keys = sound_then.keys;
          counted = sound_then.counted;
          inside = sound_then.inside;
          free = λ b n free. sound_then.free b n free;
        };
      }

  -- ---- it was committed

  says : HasHeader there state f (header_of found)
  says = (header_read v name word found gone went (f, at_prev, placed) refl f at_prev).0

  module _ (none_is : (header_of found).previous ≡ previous.None) where
    decided : prev_at state.heap f ≡ prev.None
    decided = prev_is state f says.slot says.stores ∙ none_says there state (slot_of f) says.slot.prev (header_of found).previous none_is says.is_previous

    replaced : HasReplaced state v.actor i m f
    replaced = record { operation = o; runs = stays.1; why = p.why; checks = p.line_is; decided = decided }

    -- over the indirection's own one

    module _ (is : own ≡ true) where
      is_owned_now : is_owned held i m ≡ true
      is_owned_now = owned_there ∙ is

      own_by : IsOwnBy v.sizes there (slot_of i) (slot_of m)
      own_by = kept.nodes.owned (slot_of i) (slot_of m) (subst (λ b. IsOwn there i m b) is (still_own v s kept id at (slot_of i) (slot_of m) own owned))

      ends : (change_of state held (machine.Go v.actor)).fate (record { by = OfNode i; on = m }) ≡ Ends
      ends = own_ends v.sizes there kept.bounds v.actor o stays.1 p.why i m f p.line_is kept.keys decided is_owned_now

      left : HoldsLeft v own m f true (owes_then v there)
      left = held_own v s kept id at i m f own p owned o stays.1 p.line_is (owes_then v there) holds decided is

      abbrev lives_m : IsLive state m
      lives_m = replaced_lives v.sizes there kept.bounds v.actor o stays.1 p.why i m f p.line_is

      abbrev main_m : is_main_node (node_at state.heap m) ≡ true
      main_m = replaced_main v.sizes there kept.bounds v.actor o stays.1 p.why i m f p.line_is

      own_replaced : Leaves true
      own_replaced =
          lets_go m (replaced_lives v.sizes v.account (before v s kept id at) v.actor p.operation p.runs p.why i m f p.line_is) lives_m main_m
          (replaced_held v.sizes there kept.bounds v.actor o stays.1 p.why i m f p.line_is kept.keys decided) ends
          (replaced_garbage v.sizes there kept.bounds kept.quiet v.actor i m f replaced own_by)
          (own_known v.sizes there kept.bounds v.actor o stays.1 p.why i m f p.line_is kept.keys decided is_owned_now) true (ap (λ b. let_go b true m f) is) left
          (by_commit (record {
            before = there.steps;
            actor = v.actor;
            goes_on = refl;
            link = i;
            fresh = f;
            replaced = replaced;
            own = own_then v.sizes there kept.bounds kept.quiet v.actor i m f replaced own_by;
            owned = is_owned_now;
          })) (λ y grown. never_let_go v.sizes there kept.bounds kept.quiet v.actor i m f replaced own_by y grown)

    -- or over another one's

    module _ (is : own ≡ false) where
      is_shared : is_owned held i m ≡ false
      is_shared = owned_there ∙ is

      led : (k : Ref) → Contains its k → Known k
      led = shared_known v.sizes there kept.bounds v.actor o stays.1 p.why i m f p.line_is kept.keys decided is_shared

      shared_replaced : Leaves true
      shared_replaced = record {
        view_then = w;
        ruled = kept_owing v.sizes s kept id v at o stays.1 reads takes_nothing (owes_then v there) (held_owing v s kept id at o stays.1 p.why i m f p.line_is reads takes_nothing led);
        in_epochs = epochs_then w (record { actor = refl; epoch = refl; passed = refl; glance = refl; pinned = λ pin same. same });
        retired = retired_then s.views id v at w refl (λ pin same. same) v.sizes s.words s.words (omega arith) old;
        heard = refl;
        links = refl;
        pin = refl;
        glance = refl;
        more = λ y c. c;
        newly = λ y c. inl c;
        owes = had_or v s kept id at o stays.1 p.why i m f p.line_is reads takes_nothing led;
        told = record {
          gone = gone;
          went = went;
          retired = subst (λ b. HasRetiredOrNot v (let_go b true m f) w w) (sym is) refl;
          holds = held_shared v s kept id at i m f own p owned o stays.1 p.line_is (owes_then v there) holds decided is;
        };
        sound = sound_then;
      }

    by_own : (b : Bool) → own ≡ b → Leaves true
    by_own true e = own_replaced e
    by_own false e = shared_replaced e

  -- ---- it was refused

  module _ (isnt : (header_of found).previous ≢ previous.None) where
    undecided : prev_at state.heap f ≢ prev.None
    undecided same =
        true≢false (ap is_none (sym same ∙ prev_is state f says.slot says.stores)
        ∙ not_none there state (slot_of f) says.slot.prev (header_of found).previous isnt
        (read_is_met v.sizes there kept.bounds v.actor o stays.1 f (stays.2 ∙ ap (line_action (now v) p.operation) p.line_is)) says.is_previous)

    failed : HasFailed state v.actor i m f
    failed = record { operation = o; runs = stays.1; why = p.why; checks = p.line_is; uncommitted = undecided }

    abbrev lives_f : IsLive state f
    lives_f = fresh_lives v.sizes there kept.bounds v.actor o stays.1 p.why i m f p.line_is

    abbrev main_f : is_main_node (node_at state.heap f) ≡ true
    main_f = fresh_main v.sizes there kept.bounds v.actor o stays.1 p.why i m f p.line_is

    ends_f : (change_of state held (machine.Go v.actor)).fate (record { by = OfNode i; on = f }) ≡ Ends
    ends_f = failed_ends v.sizes there kept.bounds v.actor o stays.1 p.why i m f p.line_is kept.keys undecided

    left_f : HoldsLeft v own m f false (owes_then v there)
    left_f = held_refused v s kept id at i m f own p owned o stays.1 p.line_is (owes_then v there) holds undecided

    its_refused : Leaves false
    its_refused =
        lets_go f (fresh_lives v.sizes v.account (before v s kept id at) v.actor p.operation p.runs p.why i m f p.line_is) lives_f main_f
        (fresh_held v.sizes there kept.bounds v.actor o stays.1 p.why i m f p.line_is kept.keys undecided) ends_f (refused_garbage v.sizes there kept.bounds kept.quiet v.actor i m f failed)
        (failed_known v.sizes there kept.bounds v.actor o stays.1 p.why i m f p.line_is kept.keys undecided) false (goes_f own) left_f
        (by_refusal (record { before = there.steps; actor = v.actor; goes_on = refl; link = i; over = m; failed = failed }))
        (λ y grown. never_refused v.sizes there kept.bounds kept.quiet v.actor i m f failed y grown)
      where
        goes_f : (b : Bool) → let_go b false m f ≡ Some f
        goes_f true = refl
        goes_f false = refl

  by : (b : Bool) → is_decided (header_of found).previous ≡ b → Leaves b
  by true e = by_own (decided_none (header_of found).previous e) own refl
  by false e = its_refused (undecided_some (header_of found).previous e)

  pub leaves : Leaves (is_decided (header_of found).previous)
  leaves = by (is_decided (header_of found).previous) refl

  -- ---- what seats hold

  pub owed_then : AreOwed s.views → AreOwed (set s.views id leaves.view_then)
  owed_then owed =
      owed_changing s.views id v at leaves.view_then Known (λ y. y.stamp ≡ epoch_in s.words) leaves.owes leaves.pin (λ k known. led_pinned v s kept id at o stays.1) leaves.newly
      (λ j u e y c k known same q pinned. early_led v s kept id at o stays.1 k known old j u e y c same q pinned)
      (λ y now j u e q pinned. (let low = (epochs.pinned j u e q pinned).since in omega (arith, low, now))) owed
