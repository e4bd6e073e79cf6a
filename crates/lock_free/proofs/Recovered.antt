-- The one seat that is left has each slot of a class free to which no handle leads: the rule is kept.
use Rattle.history.specs.declared.calls.Call.{Call}
use Rattle.std.proofs.Common.{◌≡◌, ◌*◌, ◌<◌, inl, inr, ℕ, suc, Bool, true, false, List, [], Contains, get_or, set, slice_index, if◌then◌else◌}
use Rattle.std.proofs.Common.{Option, Some, None, refl, sym, ap, subst, ◌∙◌, arith, append-nil}
use Rattle.std.proofs.lemmas.Bool.{cases_eq, true≢false}
use Rattle.std.proofs.lemmas.Option.{none-some}
use mathlib.Core.Option.{some}
use lib.ListN.{get_elem?}
use Rattle.atomic_table.specs.Table as Table
use Rattle.trie_words.specs.Codes.{root_code, IsRootWord}
use Rattle.trie_words.specs.declared.roots.RootWord.{RootWord as HandleWord}
use Rattle.trie_words.specs.declared.roots.RootWord.TheVariants as word
use Rattle.machine_model.specs.Beneath.slot_arena.specs.declared.nodes.Slot.{Slot}
use Rattle.machine_model.specs.Beneath.slot_arena.specs.declared.refs.Ref.{Ref}
use Rattle.machine_model.specs.Beneath.slot_arena.specs.Refs.{slot_of}
use Rattle.history.specs.declared.calls.Access.{Access}
use Rattle.machine_model.specs.Counting.{refs_of_root, refs_of_word}
use Rattle.machine_model.specs.declared.roots.Root.{Root}
use Rattle.machine_model.specs.declared.roots.RootWord.{RootWord}
use Rattle.machine_model.specs.declared.roots.RootWord.TheVariants.{Offer, Plain}
use Rattle.machine_model.specs.Machine.{AreBounds}
use Rattle.machine_model.specs.States.{State, handle_limit, root_at, word_of}
use Rattle.proof_claims.specs.Beneath.proof_reuse.specs.Beneath.proof_followed.specs.Followed as followed
use Rattle.proof_claims.specs.Beneath.proof_reuse.specs.Beneath.proof_followed.specs.Followed.{IsFollowedByRoots}
use Rattle.lock_free.specs.declared.accounts.Account.{Account}
use Rattle.lock_free.specs.declared.rules.Heard.{Heard}
use Rattle.lock_free.specs.declared.rules.Pinned.{Pinned}
use Rattle.lock_free.specs.declared.rules.View.{View}
use Rattle.lock_free.specs.declared.sizes.Sizes.{Sizes}
use Rattle.lock_free.specs.Accounts.{bounds_for, place_at, state_of, HasGrown, HasWaited}
use Rattle.lock_free.specs.Alone.{name_of, recovering, unmarked, IsByItself, IsLedTo, Marks}
use Rattle.lock_free.specs.Cells.{IsAside}
use Rattle.lock_free.specs.Live.{IsLive, from_root, from_operation, from_slot}
use Rattle.lock_free.specs.Holdings.{AreHeld}
use Rattle.lock_free.specs.Loading.{now}
use Rattle.lock_free.specs.Nodes.{class_of}
use Rattle.lock_free.specs.Places.{root_word, slots_in, taken_word, IsTaken}
use Rattle.lock_free.specs.Roots.{MeansRoot, SaysPlain, SaysRoot, open_with}
use Rattle.lock_free.specs.Rules.{first_account, no_slots, pool_of, HasPinnedIdle, IsFree, IsKept, IsPlainSo, IsSeat, IsSpare}
use Rattle.lock_free.specs.Rules.{NamesOffer, NodesStand, Once, RootsStand, RunsNothing, Standing, Stands, WasGivenUp}
use Rattle.lock_free.proofs.Assembling.{AllStand, all_stand, assembled, closing_stays}
use Rattle.lock_free.proofs.CellsStay.{aside_small, cells_stay}
use Rattle.lock_free.proofs.CountWords.{one_class, slot_taken}
use Rattle.lock_free.proofs.Framing.{class_small}
use Rattle.lock_free.proofs.Idle.{empty_has, none_free}
use Rattle.lock_free.proofs.Keeping.{same_nodes, stands_kept}
use Rattle.lock_free.proofs.Moments.{same_place}
use Rattle.lock_free.proofs.OneStep.Found.{live_used, slot_at}
use Rattle.lock_free.proofs.OneStep.Standing.{has}
use Rattle.lock_free.proofs.OnlySeat.{is_left, runs_nothing}
use Rattle.lock_free.proofs.OwnBits.{own_longer}
use Rattle.lock_free.proofs.Owners.{owners_kept}
use Rattle.lock_free.proofs.Pools.{one_there, pool_else, pool_same}
use Rattle.lock_free.proofs.QuietSince.{led_before, same_begun, same_slot}
use Rattle.lock_free.proofs.Unmarked.{among, is_among, named, there, unmarked_has, unmarked_once}
use Rattle.lock_free.proofs.Waiting.{waited_none}
use Rattle.lock_free.proofs.PartingStay.{knows_forgotten}
use Rattle.lock_free.specs.Parting.{KnowsOffers}
use Rattle.lock_free.specs.declared.rules.Pool.{Pool}

no_pool : (u : View) (b name : ℕ) → u.pool ≡ no_slots → IsFree u b name → ⊥
no_pool u b name none free = none_free no_sizes_here 0 0 nothing b name (free.0, subst (λ p. Contains (pool_of p b) name) none free.1)
  where
    nothing : Account
    nothing = record { steps = []; names = []; owned = []; offered = []; offers = []; parted = [] }

    no_sizes_here : Sizes
    no_sizes_here = u.sizes

gone_by : (gone stood : Bool) → (if gone then false else stood) ≡ true → (gone ≡ false) × (stood ≡ true)
gone_by true stood e = absurd (true≢false (sym e))
gone_by false stood e = (refl, e)

-- ---- where nothing runs

module _ (sizes : Sizes) (account : Account) (nothing : RunsNothing (state_of sizes account)) (bounds : AreBounds (bounds_for sizes account.steps)) where
  abbrev quiet : State
  quiet = state_of sizes account

  -- no offer stands
  word_led : (handle : ℕ) (access : Access) (w : RootWord) (r : Ref) → root_at quiet handle ≡ open_with access w → Contains (refs_of_word w) r → IsFollowedByRoots quiet r
  word_led handle access (Plain q) r is c = followed.from_root handle (record { access = access; word = Plain q }) r is (sym (one_there q r c))
  word_led handle access (Offer offer) r is c = let b = (has sizes account bounds).0.offers handle offer (ap word_of is) in absurd (none-some b.owner (sym (nothing (suc b.k)) ∙ b.runs))

  root_led : (handle : ℕ) (root : Option Root) (r : Ref) → root_at quiet handle ≡ root → Contains (refs_of_root root) r → IsFollowedByRoots quiet r
  root_led handle None r is c = absurd (empty_has r c)
  root_led handle (Some root) r is c = word_led handle root.access root.word r is c

  -- what is live handles lead to
  pub live_led : (r : Ref) → IsLive quiet r → IsFollowedByRoots quiet r
  live_led r (from_root handle q c) = root_led handle (root_at quiet handle) r refl c
  live_led r (from_operation actor operation q runs p c) = absurd (none-some operation (sym (nothing actor) ∙ runs))
  live_led r (from_slot q x k c) = followed.from_slot q r (live_led q k) c

-- ---- the seat has them

-- each slot is marked to which a handle leads
abbrev pub MarksLed : View → ℕ → Marks → Type 0
MarksLed v class marks = (number : ℕ) → number < slots_in v.sizes class → IsLedTo v class (name_of v.sizes class number) → marks number ≡ true

module _ (v : View) (s : Table.State Call View) (kept : IsKept v.sizes s) (heard : (h : Heard) → Contains v.heard h → WasGivenUp s.views h) (id : ℕ) (at : get_elem? s.views id ≡ some v)
    (it : IsByItself v) (class : ℕ) (small : class < 3) (marks : Marks) (are : MarksLed v class marks) where
  abbrev sizes : Sizes
  sizes = v.sizes

  abbrev account : Account
  account = kept.account

  abbrev state : State
  state = state_of sizes account

  abbrev pub found : ℕ
  found = slice_index s.words (taken_word class)

  abbrev pub names : List ℕ
  names = unmarked sizes class marks found

  abbrev pub account_then : Account
  account_then = record account { steps = account.steps; offered = []; offers = [] }

  abbrev dropped : ℕ → Bool
  dropped k = is_among names (place_at account k)

  abbrev pub stands_then : Standing
  stands_then k = if dropped k then false else kept.stands k

  abbrev pub view_then : View
  view_then = recovering v account class names

  seat : IsSeat sizes account kept.stands s.words v
  seat = kept.seats id v at

  nothing : RunsNothing state
  nothing = runs_nothing v s kept heard id at it.alone it.rests.idle

  -- ---- nodes

  stood : (k : ℕ) (slot : Slot) → Stands stands_then state k slot → Stands kept.stands state k slot × (dropped k ≡ false)
  stood k slot h = let b = gone_by (dropped k) (kept.stands k) h.0 in ((b.1, h.1), b.0)

  -- a slot to which a handle leads is none of them
  pub led_stays : (r : Ref) → IsFollowedByRoots state r → kept.stands (slot_of r) ≡ true → (slot : Slot) → get_or state.heap.slots (slot_of r) None ≡ Some slot → dropped (slot_of r) ≡ false
  led_stays r led stands slot used = by (dropped (slot_of r)) refl
    where
      name : ℕ
      name = place_at account (slot_of r)

      before : get_or (now v).heap.slots (slot_of r) None ≡ Some slot
      before = sym (same_slot v s kept heard id at v.account seat.waited it.alone (slot_of r)) ∙ used

      taken : IsTaken sizes s.words (class_of slot.node) name
      taken = kept.nodes.within (slot_of r) slot (stands, used)

      not_among : Contains names name → ⊥
      not_among c =
          let u = unmarked_has sizes class marks found name c in
          let its : IsTaken sizes s.words class name = record { number = u.number; few = u.few; first = ap (λ n. 2 * n) u.is ∙ named sizes class u.number small } in
          let same = one_class sizes (class_of slot.node) class name (class_small slot.node) small (slot_taken sizes s.words kept.taken (class_of slot.node) name (class_small slot.node) taken)
          (slot_taken sizes s.words kept.taken class name small its) in
          let most = kept.taken class small in
          let few = u.few in
          let marked = are u.number (omega (arith, few, most)) (record {
            node = r;
            led = led_before v s kept heard id at v.account seat.waited it.alone r led;
            slot = slot;
            used = before;
            in_class = same;
            place = sym (same_place v s kept id at (slot_of r) slot before) ∙ u.is;
          }) in
          true≢false (sym marked ∙ u.not)

      by : (b : Bool) → dropped (slot_of r) ≡ b → dropped (slot_of r) ≡ false
      by true e = absurd (not_among (there names name e))
      by false e = e

  still : (k : ℕ) → dropped k ≡ false → kept.stands k ≡ true → stands_then k ≡ true
  still k none h = ap (λ b. if b then false else kept.stands k) none ∙ h

  live_then : (r : Ref) → IsLive state r → stands_then (slot_of r) ≡ true
  live_then r live =
      let stands = kept.nodes.live r live in
      let used = live_used sizes account kept.bounds r live in
      still (slot_of r) (led_stays r (live_led sizes account nothing kept.bounds r live) stands used.0 (slot_at state.heap r used.0 used.1)) stands

  nodes_then : NodesStand sizes account_then stands_then s.words
  nodes_then = record {
    within = λ k slot h. kept.nodes.within k slot (stood k slot h).0;
    small = λ k slot h. kept.nodes.small k slot (stood k slot h).0;
    apart = λ j k a b h g same. kept.nodes.apart j k a b (stood j a h).0 (stood k b g).0 same;
    offers = λ x c. absurd (empty_has x c);
    written = λ k slot h.
        stands_kept account account.steps account_then dropped state state (same_nodes state state (λ j. refl)) (λ i a f x. x) (λ i a f x none. x) s.words (place_at account k) k slot slot.node
        (stood k slot h).1 (kept.nodes.written k slot (stood k slot h).0);
    inside = kept.nodes.inside;
    owners = owners_kept account account_then state state refl refl (λ i a f x. x) kept.nodes.owners;
    owned = own_longer sizes account account_then [] (sym (append-nil account.steps)) refl kept.nodes.owned;
    live = live_then;
    reached = λ r h. absurd (none-some h.operation (sym (nothing h.actor) ∙ h.runs));
  }

  -- ---- handles

  plain_word : (handle : ℕ) → handle < handle_limit → (slot : ℕ) → NamesOffer (slice_index s.words (root_word handle)) slot → ⊥
  plain_word handle low slot h =
      ((seat.plain (handle, (now v).begun) (it.plain handle low)).plain (sym (same_begun v s kept heard id at v.account seat.waited it.alone))).1 slot h

  module _ (handle : ℕ) (low : handle < handle_limit) where
    abbrev found_word : ℕ
    found_word = slice_index s.words (root_word handle)

    plain_then : (access : _) (slot : ℕ) (r : Option Root) → SaysPlain account access slot r → SaysPlain account_then access slot r
    plain_then access slot r h = record { root = h.root; place = h.place; is = h.is }

    says_then : (w : HandleWord) → IsRootWord w → found_word ≡ root_code w → (r : Option Root) → SaysRoot account s.words handle w r → SaysRoot account_then s.words handle w r
    says_then word.Closed fits is r h = h
    says_then word.Reserved fits is r h = h
    says_then (word.Writable slot) fits is r h = plain_then _ slot r h
    says_then (word.ReadOnly slot) fits is r h = plain_then _ slot r h
    says_then (word.ClosingWritable slot who) fits is r h = plain_then _ slot r h
    says_then (word.ClosingReadOnly slot who) fits is r h = plain_then _ slot r h
    says_then (word.Offered slot) fits is r h = absurd (plain_word handle low slot (inl (fits, is)))
    says_then (word.Opening slot) fits is r h = absurd (plain_word handle low slot (inr (fits, is)))

    means_plain : (r : Option Root) → MeansRoot account s.words handle found_word r → MeansRoot account_then s.words handle found_word r
    means_plain r h = record { what = h.what; fits = h.fits; code = h.code; says = says_then h.what h.fits h.code r h.says }

  roots_then : RootsStand sizes account_then s.words
  roots_then = record {
    means = λ handle low. means_plain handle low (root_at state handle) (kept.roots.means handle low);
    offers = λ k c. absurd (empty_has k c);
    blocks = λ k c. absurd (empty_has k c);
    single = λ k l c. absurd (empty_has k c);
    tries = λ k l c. absurd (empty_has k c);
    stood = λ k c. absurd (empty_has k c);
    came = λ x c. (let h = kept.roots.came x c in record { steps = h.steps; more = h.more; goes_on = h.goes_on; handle = h.handle; stood = h.stood });
    parting = record { known = λ k c. absurd (empty_has k c); left = λ k c. absurd (empty_has k c); unnamed = λ k c. absurd (empty_has k c) };
    marks = λ k c. absurd (empty_has k c);
    fates = λ k c. absurd (empty_has k c);
    pending = λ k c. absurd (empty_has k c);
  }

  all_then : AllStand sizes account_then stands_then s.words
  all_then =
      let a = all_stand sizes s kept in
      record {
        bounds = a.bounds;
        keys = a.keys;
        quiet = a.quiet;
        counted = a.counted;
        size = a.size;
        taken = a.taken;
        generations = a.generations;
        nodes = nodes_then;
        roots = roots_then;
      }

  -- ---- seats

  grown_then : (first : Account) → HasGrown first account → HasGrown first account_then
  grown_then first h = record { steps = h.steps; goes_on = h.goes_on; names = h.names; more_names = h.more_names }

  waited_then : (a : ℕ) (first : Account) → first.offered ≡ [] → HasWaited a first account → HasWaited a first account_then
  waited_then a first none h = record {
    steps = h.steps;
    goes_on = h.goes_on;
    others = h.others;
    names = h.names;
    more_names = h.more_names;
    owned = h.owned;
    more_owned = h.more_owned;
    offers = [];
    more_offers = sym none;
  }

  pinned_then : (actor : ℕ) (p : Pinned) → HasPinnedIdle sizes account actor p → HasPinnedIdle sizes account_then actor p
  pinned_then actor p h = record { grown = grown_then p.account h.grown; idle = h.idle }

  so_plain : (d : ℕ × ℕ) → IsPlainSo sizes account s.words d → IsPlainSo sizes account_then s.words d
  so_plain d h = record { low = h.low; begun = h.begun; plain = h.plain }

  spare_then : (name : ℕ) → IsSpare sizes account kept.stands name → IsSpare sizes account_then stands_then name
  spare_then name h = (λ k slot x. h.0 k slot (stood k slot x).0, λ k c. absurd (empty_has k c))

  new_spare : (name : ℕ) → Contains names name → IsTaken sizes s.words class name × IsSpare sizes account_then stands_then name
  new_spare name c =
      let u = unmarked_has sizes class marks found name c in (
        record { number = u.number; few = u.few; first = ap (λ n. 2 * n) u.is ∙ named sizes class u.number small },
        (λ k slot h same. true≢false (sym (among names (place_at account k) (subst (Contains names) (sym same) c)) ∙ (stood k slot h).1), λ k d. absurd (empty_has k d)),
      )

  own_spare : (b name : ℕ) → IsFree view_then b name → IsTaken sizes s.words b name × IsSpare sizes account_then stands_then name
  own_spare b name f = elim (cases_eq b class) [
    | inl same ↦
        (let c = subst (λ xs. Contains xs name) (pool_same v.pool class names small) (subst (λ n. Contains (pool_of view_then.pool n) name) same f.1) in
        subst (λ n. IsTaken sizes s.words n name × IsSpare sizes account_then stands_then name) (sym same) (new_spare name c))
    | inr differs ↦
        (let before = seat.spare b name (f.0, subst (λ xs. Contains xs name) (pool_else v.pool class b names small f.0 differs) f.1) in (before.0, spare_then name before.1))
  ]

  own_once : (b : ℕ) → b < 3 → Once (pool_of view_then.pool b)
  own_once b low = elim (cases_eq b class) [
    | inl same ↦ subst (λ n. Once (pool_of view_then.pool n)) (sym same) (subst Once (sym (pool_same v.pool class names small)) (unmarked_once sizes class marks small found))
    | inr differs ↦ subst Once (sym (pool_else v.pool class b names small low differs)) (seat.once b low)
  ]

  own_then : IsSeat sizes account_then stands_then s.words view_then
  own_then = record {
    same = seat.same;
    low = seat.low;
    top = seat.top;
    most = seat.most;
    waited = waited_none v.actor account_then;
    counts = kept.counted;
    rested = λ a above most. waited_then a (first_account sizes) refl (seat.rested a above most);
    rests = seat.rests;
    pinned = seat.pinned;
    pinned_idle = λ p is. pinned_then v.actor p (seat.pinned_idle p is);
    retired = λ x c. absurd (empty_has x c);
    entered = seat.entered;
    calls = seat.calls;
    opens = seat.opens;
    reserves = seat.reserves;
    opening = λ handle slot o n. absurd (none-some handle (sym it.rests.opens ∙ o));
    spare = own_spare;
    once = own_once;
    drafts = λ d c. absurd (empty_has d c);
    plain = λ d c. so_plain d (seat.plain d c);
    offering = knows_forgotten kept.account.offered kept.account.offers kept.account.parted s.words v.actor v.pin v.offer v.pool.parted seat.offering;
  }

  others_then : (other : ℕ) (w : View) → get_elem? s.views other ≡ some w → (other ≡ id → ⊥) → IsSeat sizes account_then stands_then s.words w
  others_then other w e apart =
      let h = kept.seats other w e in
      let left = is_left v s kept heard id at it.alone it.rests.idle other w e apart in
      let bare : (b name : ℕ) → IsFree w b name → ⊥ = λ b name f. no_pool w b name left.bare.0 f in
      record {
        same = h.same;
        low = h.low;
        top = h.top;
        most = h.most;
        waited = waited_then w.actor w.account left.bare.2 h.waited;
        counts = h.counts;
        rested = λ a above most. waited_then a (first_account sizes) refl (h.rested a above most);
        rests = h.rests;
        pinned = h.pinned;
        pinned_idle = λ p is. pinned_then w.actor p (h.pinned_idle p is);
        retired = λ x c. absurd (empty_has x (subst (λ xs. Contains xs x) left.bare.1 c));
        entered = h.entered;
        calls = h.calls;
        opens = h.opens;
        reserves = h.reserves;
        opening = λ handle slot o n. absurd (bare 1 slot (h.opening handle slot o n).free);
        spare = λ b name f. absurd (bare b name f);
        once = h.once;
        drafts = λ d c. (let x = (h.drafts d c).1 in absurd (bare x.0 x.1 x.2));
        plain = λ d c. so_plain d (h.plain d c);
        offering = subst (λ o. KnowsOffers [] [] kept.account.parted s.words w.actor w.pin o w.pool.parted) (sym left.bare.4)
            (subst (λ (p : Pool). KnowsOffers [] [] kept.account.parted s.words w.actor w.pin None p.parted) (sym left.bare.0)
            (knows_forgotten kept.account.offered kept.account.offers kept.account.parted s.words w.actor w.pin w.offer w.pool.parted h.offering));
      }

  abbrev NoneAside : Type 0
  NoneAside = (number : ℕ) → number < found → marks number ≡ false → IsAside sizes s.words class (name_of sizes class number) → ⊥

  -- what stands in a cell, or is loose, is none of them
  not_aside : (c n : ℕ) → IsAside sizes s.words c n → IsTaken sizes s.words c n → Contains names n → NoneAside → ⊥
  not_aside c n aside was among none =
      let u = unmarked_has sizes class marks found n among in
      let low = aside_small sizes s.words c n aside in
      let one = one_class sizes c class n low small (slot_taken sizes s.words kept.taken c n low was) (slot_taken sizes s.words kept.taken class n small (new_spare n among).0) in
      none u.number u.few u.not (subst (IsAside sizes s.words class) u.is (subst (λ k. IsAside sizes s.words k n) one aside))

  -- ---- the rule holds

  pub recover_kept : AreHeld sizes account_then stands_then s.words (set s.views id view_then) →
      NoneAside → IsKept sizes (record { words = s.words; homes = s.homes; views = set s.views id view_then })
  recover_kept held none =
      assembled sizes s kept id v at view_then refl refl account_then stands_then s.words all_then
      (λ handle who low says. closing_stays sizes s kept id v at view_then refl refl (λ h e. (e, refl)) refl (λ c. c) handle who (kept.closings handle who low says)) own_then others_then
      (λ b name f. inr (λ other w c e apart g. no_pool w c name (is_left v s kept heard id at it.alone it.rests.idle other w e apart).bare.0 g))
      (record {
        openings = λ handle slot low fits is none. absurd (plain_word handle low slot (inr (fits, is)));
        number = λ handle h. inl h;
        others = λ other w e apart handle h. h;
        runners = λ a o e. inr (o, e);
      }) held (cells_stay sizes s kept id v at view_then account_then stands_then s.words (λ c n cell. refl) (λ c n h. h) (λ c n low was spare no. (was, spare_then n spare))
      (λ c n b aside was spare f. elim (cases_eq b class) [
        | inl same ↦ absurd (not_aside c n aside was (subst (λ xs. Contains xs n) (pool_same v.pool class names small) (subst (λ k. Contains (pool_of view_then.pool k) n) same f.1)) none)
        | inr differs ↦ (f.0, subst (λ xs. Contains xs n) (pool_else v.pool class b names small f.0 differs) f.1)
      ]))
