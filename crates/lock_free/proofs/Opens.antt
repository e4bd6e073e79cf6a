-- The words of a new map keep the rule.
use Rattle.std.proofs.Common.{◌≡◌, ◌≢◌, ◌+◌, ◌*◌, ◌^◌, ◌<◌, ◌≤◌, ℕ, zero, suc, Bool, true, List, [], ◌∷◌, Contains, length, replicate, set, slice_index, length-set, refl, sym, ap, subst, ◌∙◌}
use Rattle.std.proofs.Common.{inl, inr, map, arith}
use Rattle.std.proofs.lemmas.List.{get_or-set_same, get_or-set_other, length-replicate}
use Rattle.std.proofs.lemmas.List.Elements.{All-nil}
use Rattle.std.proofs.lemmas.Option.{none-some}
use mathlib.Core.Option.{some}
use lib.ListN.{get_elem?}
use Rattle.atomic_table.specs.Table.{opening}
use Rattle.history.specs.declared.calls.Call.{Call}
use Rattle.trie_words.specs.Codes.{root_code, link_code, IsRootWord}
use Rattle.trie_words.specs.declared.headers.Previous.TheVariants as previous
use Rattle.trie_words.specs.declared.headers.Shape.TheVariants as shape
use Rattle.trie_words.specs.declared.roots.RootWord.{RootWord as HandleWord}
use Rattle.trie_words.specs.declared.roots.RootWord.TheVariants as word
use Rattle.machine_model.specs.Beneath.slot_arena.specs.declared.refs.Ref.{Ref}
use Rattle.machine_model.specs.Beneath.slot_arena.specs.declared.nodes.Slot.{Slot}
use Rattle.machine_model.specs.Beneath.slot_arena.specs.Heaps.{entries_of, entries_from}
use Rattle.machine_model.specs.Beneath.slot_arena.specs.Refs.{ref_to, slot_of}
use Rattle.machine_model.specs.Beneath.slot_arena.proofs.Live.{slot_of_ref}
use Rattle.machine_model.specs.Keys.{FitsKey}
use Rattle.machine_model.specs.Machine.{AreBounds}
use Rattle.machine_model.specs.States.{root_at, handle_limit}
use Rattle.machine_model.proofs.Grown.{node_standing}
use Rattle.proof_memory.specs.Laws.{IsInUse}
use Rattle.lock_free.specs.declared.accounts.Account.{Account}
use Rattle.lock_free.specs.declared.accounts.Owned.{Owned}
use Rattle.lock_free.specs.declared.rules.Retired.{Retired}
use Rattle.lock_free.specs.declared.rules.View.{View}
use Rattle.lock_free.specs.declared.sizes.Sizes.{Sizes}
use Rattle.lock_free.specs.Accounts.{bounds_for, state_of, place_at, OwnIs, first, later}
use Rattle.lock_free.specs.Counts.{IsCount}
use Rattle.lock_free.specs.Holdings.{AreHeld, count_of}
use Rattle.lock_free.specs.Loading.{IsSound}
use Rattle.lock_free.specs.Nodes.{IsAhead, AreOwners, StandsAs, InTable, class_of, of_branch, decided}
use Rattle.lock_free.specs.Opening.{counted_words, first_words, first_link, first_handle}
use Rattle.lock_free.specs.Owning.{IsOwnBy, at_first}
use Rattle.lock_free.specs.Cells.{AreCells, IsAside, Stores}
use Rattle.lock_free.specs.Links.{link_in}
use Rattle.lock_free.specs.Places.{AreSizes, cell_word, HaveTaken, IsSlot, IsTaken, branch_slot, count_word, epoch_word, root_slot, words_of, generation_word, taken_word, root_word, pin_word}
use Rattle.lock_free.specs.Roots.{MeansRoot}
use Rattle.lock_free.specs.FirstViews.{first_view}
use Rattle.lock_free.specs.Rules.{Once, first_account, IsSpare, Standing, NodesStand, RootsStand, SaysClosing, IsSeat, IsKept, IsRuled}
use Rattle.lock_free.proofs.CountWords.{count_above, count_beside, slot_taken}
use Rattle.lock_free.proofs.FirstHeld.{held_first, only_view}
use Rattle.lock_free.proofs.Framing.{class_small}
use Rattle.lock_free.proofs.Geometry.{next_root}
use Rattle.lock_free.proofs.FirstState.{IsFirst, branch, link, births_are, generations_are, node_found, root_is, no_root, nobody_runs, none_runs}
use Rattle.lock_free.proofs.Idle.{empty_has, none_free, none_twice}
use Rattle.lock_free.proofs.OneStep.Found.{slot_at}
use Rattle.lock_free.proofs.RootCodes.{kind, same_kind}
use Rattle.lock_free.proofs.Waiting.{waited_none}
use Rattle.lock_free.proofs.PartingStay.{knows_nothing}

zeros : (n k : ℕ) → slice_index (replicate n 0) k ≡ 0
zeros zero k = refl
zeros (suc n) zero = refl
zeros (suc n) (suc k) = zeros n k

-- somebody owns something
some_owned : (xs : List Owned) (i m : ℕ) (b : Bool) → OwnIs xs i m b → 0 < length xs
some_owned [] i m b h = elim h [ ]
some_owned (x ∷ xs) i m b (first y ys) = omega arith
some_owned (x ∷ xs) i m b (later y ys j k c h) = omega arith

branch_ref : slot_of (ref_to 1 0) ≡ 0
branch_ref = slot_of_ref 1 0

root_ref : slot_of (ref_to 2 1) ≡ 1
root_ref = slot_of_ref 2 1

module _ (sizes : Sizes) where
  abbrev account : Account
  account = first_account sizes

  pub size_is : length (first_words sizes) ≡ words_of sizes
  size_is =
      length-set {A = ℕ} (set (counted_words sizes) (root_word 0) (first_handle sizes)) (2 * root_slot sizes) (first_link sizes)
      ∙ length-set {A = ℕ} (counted_words sizes) (root_word 0) (first_handle sizes)
      ∙ length-set {A = ℕ} (set (replicate (words_of sizes) 0) generation_word 1) (taken_word 0) 2 ∙ length-set {A = ℕ} (replicate (words_of sizes) 0) generation_word 1
      ∙ length-replicate {A = ℕ} (words_of sizes) 0

  module _ (ok : AreSizes sizes) where
    bounds_are : AreBounds (bounds_for sizes [])
    bounds_are = (omega arith, ok.some, ok.many)

    before_link : (k : ℕ) → k ≢ 2 * root_slot sizes → slice_index (first_words sizes) k ≡ slice_index (set (counted_words sizes) (root_word 0) (first_handle sizes)) k
    before_link k apart = get_or-set_other (set (counted_words sizes) (root_word 0) (first_handle sizes)) (2 * root_slot sizes) k (first_link sizes) 0 apart

    before_handle : (k : ℕ) → k ≢ 2 * root_slot sizes → k ≢ 80 → slice_index (first_words sizes) k ≡ slice_index (counted_words sizes) k
    before_handle k apart other = before_link k apart ∙ get_or-set_other (counted_words sizes) (root_word 0) k (first_handle sizes) 0 other

    generation_is : slice_index (first_words sizes) generation_word ≡ 1
    generation_is =
        before_handle 16 (λ e. omega (arith, e)) (λ e. omega (arith, e)) ∙ get_or-set_other (set (replicate (words_of sizes) 0) generation_word 1) (taken_word 0) 16 2 0 (λ e. omega (arith, e))
        ∙ get_or-set_same (replicate (words_of sizes) 0) 16 1 0 (omega (arith, length-replicate {A = ℕ} (words_of sizes) 0))

    taken_is : slice_index (first_words sizes) (taken_word 0) ≡ 2
    taken_is =
        before_handle 32 (λ e. omega (arith, e)) (λ e. omega (arith, e))
        ∙ get_or-set_same (set (replicate (words_of sizes) 0) generation_word 1) 32 2 0
        (omega (arith, length-set {A = ℕ} (replicate (words_of sizes) 0) generation_word 1, length-replicate {A = ℕ} (words_of sizes) 0))

    handle_is : slice_index (first_words sizes) (root_word 0) ≡ first_handle sizes
    handle_is =
        before_link 80 (λ e. omega (arith, e))
        ∙ get_or-set_same (counted_words sizes) 80 (first_handle sizes) 0
        (omega (
          arith,
          length-set {A = ℕ} (set (replicate (words_of sizes) 0) generation_word 1) (taken_word 0) 2,
          length-set {A = ℕ} (replicate (words_of sizes) 0) generation_word 1,
          length-replicate {A = ℕ} (words_of sizes) 0,
        ))

    link_is : slice_index (first_words sizes) (2 * root_slot sizes) ≡ first_link sizes
    link_is =
        let root = ok.root in get_or-set_same (set (counted_words sizes) (root_word 0) (first_handle sizes)) (2 * root_slot sizes) (first_link sizes) 0
        (omega (
          arith,
          root,
          length-set {A = ℕ} (counted_words sizes) (root_word 0) (first_handle sizes),
          length-set {A = ℕ} (set (replicate (words_of sizes) 0) generation_word 1)
              (taken_word 0) 2,
          length-set {A = ℕ} (replicate (words_of sizes) 0) generation_word 1,
          length-replicate {A = ℕ} (words_of sizes) 0,
        ))

    zero_is : (k : ℕ) → k ≢ 2 * root_slot sizes → k ≢ 80 → k ≢ 32 → k ≢ 16 → slice_index (first_words sizes) k ≡ 0
    zero_is k a b c d =
        before_handle k a b ∙ get_or-set_other (set (replicate (words_of sizes) 0) generation_word 1) (taken_word 0) k 2 0 c
        ∙ get_or-set_other (replicate (words_of sizes) 0) generation_word k 1 0 d ∙ zeros (words_of sizes) k

    have_taken : HaveTaken sizes (first_words sizes)
    have_taken zero small = let two = ok.root in omega (arith, two, taken_is)
    have_taken (suc zero) small = omega (arith, zero_is 48 (λ e. omega (arith, e)) (λ e. omega (arith, e)) (λ e. omega (arith, e)) (λ e. omega (arith, e)))
    have_taken (suc (suc zero)) small = omega (arith, zero_is 64 (λ e. omega (arith, e)) (λ e. omega (arith, e)) (λ e. omega (arith, e)) (λ e. omega (arith, e)))
    have_taken (suc (suc (suc class))) small = absurd (omega (arith, small))

    -- ---- nodes

    abbrev all_stand : Standing
    all_stand = λ k. true

    not_ahead : (i a f : Ref) → IsAhead (state_of sizes account) i a f → ⊥
    not_ahead i a f ahead = none_runs sizes ahead.actor ahead.operation ahead.runs

    taken_at : (k : ℕ) (slot : Slot) → IsFirst k slot → IsTaken sizes (first_words sizes) (class_of slot.node) (place_at account k)
    taken_at k slot branch = record { number = 0; few = omega (arith, taken_is); first = omega arith }
    taken_at k slot link = record { number = 1; few = omega (arith, taken_is); first = omega arith }

    few_at : (k : ℕ) (slot : Slot) → IsFirst k slot → length (entries_of slot.node) ≤ 32
    few_at k slot branch = omega arith
    few_at k slot link = omega arith

    inside_at : (k : ℕ) (slot : Slot) → IsFirst k slot → IsSlot sizes (class_of slot.node) (place_at account k)
    inside_at k slot branch = record { number = 0; few = (let two = ok.root in omega (arith, two)); first = omega arith }
    inside_at k slot link = record { number = 1; few = (let two = ok.root in omega (arith, two)); first = omega arith }

    apart_at : (j k : ℕ) (x y : Slot) → IsFirst j x → IsFirst k y → place_at account j ≡ place_at account k → j ≡ k
    apart_at j k x y branch branch e = refl
    apart_at j k x y branch link e = absurd (omega (arith, e))
    apart_at j k x y link branch e = absurd (omega (arith, e))
    apart_at j k x y link link e = refl

    written_at : (k : ℕ) (slot : Slot) → IsFirst k slot → StandsAs account (state_of sizes account) (InTable (first_words sizes)) (place_at account k) k slot slot.node
    written_at k slot branch = (
      (
        0,
        zero_is (2 * branch_slot sizes) (λ e. omega (arith, e)) (λ e. omega (arith, e)) (λ e. omega (arith, e)) (λ e. omega (arith, e)),
        record {
          previous = previous.None;
          is_previous = decided (λ i a f ahead e. not_ahead i a f ahead);
          shape = shape.Branch 0;
          is_shape = of_branch 0 (entries_from []);
          code = refl;
        },
      ),
      λ position e there. absurd (none-some e there),
    )
    written_at k slot link = (
      omega arith,
      (
        true,
        subst (λ n. OwnIs account.owned 1 n true) (sym branch_ref) (first (record { holder = 1; held = 0; is_own = true }) []),
        link_is ∙ ap (λ n. link_code (record { generation = 0; main = record { slot = place_at account n; own = true } })) (sym branch_ref),
      ),
    )

    owners_are : AreOwners account (state_of sizes account)
    owners_are = record {
      made = λ i m b own. made_by i m b own;
      once = λ i m b c x y. once_by i m b x ∙ sym (once_by i m c y);
      fresh = λ i a f ahead. absurd (not_ahead i a f ahead);
    }
      where
        made_by : (i m : ℕ) (b : Bool) → OwnIs account.owned i m b → (i < 2) × (m < 2)
        made_by i m b (first x rest) = (omega arith, omega arith)
        made_by i m b (later x rest j k c h) = absurd (omega (arith, some_owned [] i m b h))

        once_by : (i m : ℕ) (b : Bool) → OwnIs account.owned i m b → b ≡ true
        once_by i m b (first x rest) = refl
        once_by i m b (later x rest j k c h) = absurd (omega (arith, some_owned [] i m b h))

    own_by : (i m : ℕ) → OwnIs account.owned i m true → IsOwnBy sizes account i m
    own_by i m (first x rest) = at_first refl refl
    own_by i m (later x rest j k c h) = absurd (omega (arith, some_owned [] i m true h))

    nodes_are : NodesStand sizes account all_stand (first_words sizes)
    nodes_are = record {
      within = λ k slot s. taken_at k slot (node_found sizes k slot s.1);
      small = λ k slot s. few_at k slot (node_found sizes k slot s.1);
      apart = λ j k x y s t e. apart_at j k x y (node_found sizes j x s.1) (node_found sizes k y t.1) e;
      offers = λ x c. absurd (empty_has x c);
      written = λ k slot s. written_at k slot (node_found sizes k slot s.1);
      inside = λ k slot s. inside_at k slot (node_found sizes k slot s);
      owners = owners_are;
      owned = λ i m own. own_by i m own;
      live = λ r l. refl;
      reached = λ r l. refl;
    }

    -- ---- handles

    closed_is : (n : ℕ) → suc n < handle_limit → slice_index (first_words sizes) (root_word (suc n)) ≡ 0
    closed_is n low =
        ap (slice_index (first_words sizes)) (next_root n) ∙ zero_is (87 + suc n) (λ e. omega (arith, e, low)) (λ e. omega (arith, e)) (λ e. omega (arith, e)) (λ e. omega (arith, e))

    root_fits : root_slot sizes < 2 ^ 27
    root_fits = let within = ok.within in let two = ok.root in omega (arith, within, two)

    means_at : (handle : ℕ) → handle < handle_limit → MeansRoot account (first_words sizes) handle (slice_index (first_words sizes) (root_word handle)) (root_at (state_of sizes account) handle)
    means_at zero low = record {
      what = word.Writable (root_slot sizes);
      fits = root_fits;
      code = handle_is;
      says = record { root = ref_to 2 1; place = ap (place_at account) (sym root_ref); is = root_is sizes };
    }
    means_at (suc n) low = record { what = word.Closed; fits = tt; code = closed_is n low; says = no_root sizes n }

    roots_are : RootsStand sizes account (first_words sizes)
    roots_are = record {
      means = means_at;
      offers = λ k c. absurd (empty_has k c);
      blocks = λ k c. absurd (empty_has k c);
      single = λ k l c. absurd (empty_has k c);
      tries = λ k l c. absurd (empty_has k c);
      stood = λ k c. absurd (empty_has k c);
      came = λ x c. absurd (empty_has x c);
      parting = record { known = λ k c. absurd (empty_has k c); left = λ k c. absurd (empty_has k c); unnamed = λ k c. absurd (empty_has k c) };
      fates = λ k c. absurd (empty_has k c);
      marks = λ k c. absurd (empty_has k c);
      pending = λ k c. absurd (empty_has k c);
    }

    -- the word says that the handle has a root, or is closed
    plain_at : (handle : ℕ) → handle < handle_limit → (w : HandleWord) → IsRootWord w → slice_index (first_words sizes) (root_word handle) ≡ root_code w → kind w < 2
    plain_at zero low w fits e =
        let same = same_kind (word.Writable (root_slot sizes)) w root_fits fits (sym handle_is ∙ e) in omega (arith, same)
    plain_at (suc n) low w fits e = let same = same_kind word.Closed w tt fits (sym (closed_is n low) ∙ e) in omega (arith, same)

    no_closing : (handle seat : ℕ) → handle < handle_limit → SaysClosing (slice_index (first_words sizes) (root_word handle)) seat → ⊥
    no_closing handle seat low (inl h) = omega (arith, plain_at handle low (word.ClosingWritable h.0 seat) h.1 h.2)
    no_closing handle seat low (inr h) = omega (arith, plain_at handle low (word.ClosingReadOnly h.0 seat) h.1 h.2)

    -- ---- seats

    no_pin : (a : ℕ) → 1 ≤ a → a ≤ sizes.seats → slice_index (first_words sizes) (pin_word a) ≡ 0
    no_pin a low most = zero_is (pin_word a) (λ e. omega (arith, e, low, most)) (λ e. omega (arith, e, low)) (λ e. omega (arith, e, low)) (λ e. omega (arith, e, low))

    seat_is : IsSeat sizes account all_stand (first_words sizes) (first_view sizes)
    seat_is = record {
      same = λ some. refl;
      low = omega arith;
      top = ok.some;
      most = omega arith;
      waited = waited_none 1 account;
      counts = sym (births_are sizes);
      rested = λ a above most. waited_none a account;
      rests = λ a above most. (nobody_runs sizes a, no_pin a (omega (arith, above)) most);
      pinned = no_pin 1 (omega arith) ok.some;
      pinned_idle = λ p is. absurd (none-some p is);
      retired = λ x c. absurd (empty_has x c);
      entered = λ handle e. absurd (none-some handle e);
      calls = λ o e. absurd (none_runs sizes 1 o e);
      opens = λ handle r. absurd (none-some handle r.0);
      reserves = λ o e. absurd (none_runs sizes 1 o e);
      opening = λ handle slot e. absurd (none-some handle e);
      spare = λ class name free. absurd (none_free sizes 1 sizes.seats account class name free);
      once = none_twice sizes 1 sizes.seats account;
      drafts = λ d c. absurd (empty_has d c);
      plain = λ d c. absurd (empty_has d c);
      offering = knows_nothing account.offered account.offers account.parted (first_words sizes) 1;
    }

    abbrev its : (w : View) (id : ℕ) → get_elem? (first_view sizes ∷ []) id ≡ some w → (id ≡ 0) × (first_view sizes ≡ w)
    its w id e = only_view (first_view sizes) w id e

    -- all counts are 0 beside the first reference
    no_count : (c : ℕ) → IsCount sizes c → slice_index (first_words sizes) c ≡ 0
    no_count c is =
        let far = count_above sizes c is in
        let root : IsTaken sizes (first_words sizes) 0 (root_slot sizes) = record { number = 1; few = omega (arith, taken_is); first = omega arith } in
        let beside = count_beside sizes (first_words sizes) have_taken c is 0 (root_slot sizes) (2 * root_slot sizes) (omega arith) root (record { low = omega arith; high = omega arith }) in
        zero_is c (λ e. beside (sym e)) (λ e. omega (arith, far, e)) (λ e. omega (arith, far, e)) (λ e. omega (arith, far, e))

    counts_of : (k : Ref) → IsInUse (state_of sizes account).heap k → IsCount sizes (count_of sizes account k)
    counts_of k (slot, standing) =
        let heap = (state_of sizes account).heap in
        let taken = taken_at (slot_of k) slot (node_found sizes (slot_of k) slot (slot_at heap k slot standing)) in
        record {
          class = class_of slot.node;
          small = class_small slot.node;
          name = place_at account (slot_of k);
          slot = slot_taken sizes (first_words sizes) have_taken (class_of slot.node) (place_at account (slot_of k)) (class_small slot.node) taken;
          is = ap (λ n. count_word sizes (class_of n) (place_at account (slot_of k))) (node_standing heap k slot standing);
        }

    held_is : AreHeld sizes account all_stand (first_words sizes) (first_view sizes ∷ [])
    held_is = held_first sizes all_stand (λ k. refl) (first_words sizes) (λ c is. (let zero = no_count c is in omega (arith, zero))) counts_of

    -- nothing stands in cells, or is loose
    none_stored : (class number name : ℕ) → Stores sizes (first_words sizes) class number name → ⊥
    none_stored class number name h =
        let none = zero_is (cell_word sizes class number) (λ e. omega (arith, ok.root, e)) (λ e. omega (arith, e)) (λ e. omega (arith, e)) (λ e. omega (arith, e)) in h.2 (sym h.1 ∙ ap link_in none)

    none_aside : (class name : ℕ) → IsAside sizes (first_words sizes) class name → ⊥
    none_aside class name (inl (number, h)) = none_stored class number name h
    none_aside class name (inr h) =
        let link = ap link_in (no_count (count_word sizes class name) (record { class = class; small = h.0; name = name; slot = h.1; is = refl })) in let least = h.2 in omega (arith, link, least)

    cells_are : AreCells sizes (IsSpare sizes account all_stand) (first_words sizes) (first_view sizes ∷ [])
    cells_are = record {
      spare = λ class name h. absurd (none_aside class name h);
      nobodys = λ class name h id v b e f. none_aside class name h;
      once = λ b c m n name h g. absurd (none_stored b m name h);
      apart = λ b c m name h g. none_stored b m name h;
    }

    pub opens : IsKept sizes (opening {S = Call} (first_words sizes) [] (first_view sizes))
    opens = record {
      account = account;
      stands = all_stand;
      range = ok;
      bounds = bounds_are;
      keys = All-nil FitsKey;
      quiet = tt;
      counted = sym (births_are sizes);
      size = size_is;
      taken = have_taken;
      generations = generation_is ∙ sym (generations_are sizes);
      nodes = nodes_are;
      roots = roots_are;
      closings = λ handle seat low says. absurd (no_closing handle seat low says);
      openings = λ handle slot low fits is none. absurd (omega (arith, plain_at handle low (word.Opening slot) fits is));
      seats = λ id w e. subst (λ x. IsSeat sizes account all_stand (first_words sizes) x) (its w id e).1 seat_is;
      runners = λ a o e. absurd (none_runs sizes a o e);
      alone = λ i j v w a ei ej hv hw. (its v i ei).0 ∙ sym (its w j ej).0;
      pools = λ i j v w b c name ei ej hv hw. (its v i ei).0 ∙ sym (its w j ej).0;
      numbers = λ i j v w handle ei ej hv hw. (its v i ei).0 ∙ sym (its w j ej).0;
      held = held_is;
      cells = cells_are;
    }

    none_retired : (id : ℕ) (v : View) → get_elem? (first_view sizes ∷ []) id ≡ some v → (x : Retired) → Contains v.retired x → ⊥
    none_retired id v e x c = empty_has x (subst (λ xs. Contains xs x) (ap (λ (y : View). y.retired) (sym (its v id e).1)) c)

    -- nobody has heard of anybody, and nothing is retired
    pub opens_ruled : IsRuled sizes (opening {S = Call} (first_words sizes) [] (first_view sizes))
    opens_ruled = record {
      kept = opens;
      epochs = record {
        seen = λ id v e. subst (λ n. n ≤ slice_index (first_words sizes) epoch_word) (ap (λ (x : View). x.epoch) (its v id e).1) (omega arith);
        pinned = λ id v e p is. absurd (none-some p (ap (λ (x : View). x.pin) (its v id e).1 ∙ is));
        passed = λ i j v w ei ej fell below p is shown. absurd (none-some p (ap (λ (x : View). x.pin) (its w j ej).1 ∙ is));
        cleared = λ i j v w ei ej all p is hidden. absurd (none-some p (ap (λ (x : View). x.pin) (its w j ej).1 ∙ is));
      };
      retired = record {
        stamps = λ id v e x c. absurd (none_retired id v e x c);
        pins = λ i j v w ei ej x c p is. absurd (none_retired i v ei x c);
        once = λ id v e. subst (λ xs. Once (map (λ (x : Retired). x.number) xs)) (ap (λ (x : View). x.retired) (its v id e).1) tt;
        apart = λ i j v w ei ej x y c d same. absurd (none_retired i v ei x c);
      };
      owed = record {
        pinned = λ id v e k c. absurd (empty_has k (subst (λ ks. Contains ks k) (ap (λ (x : View). x.owed) (sym (its v id e).1)) c));
        early = λ i j v w ei ej x k cx ck same p is. absurd (none_retired i v ei x cx);
      };
      linked = record { linked = λ id v e d c. absurd (empty_has d (subst (λ ds. Contains ds d) (ap (λ (x : View). x.links) (sym (its v id e).1)) c)) };
      heard = λ id v e h c. (let none = (subst (λ hs. Contains hs h) (ap (λ (x : View). x.heard) (sym (its v id e).1)) c).1 in absurd (omega (arith, none)));
    }

    pub first_sound : (words : ℕ) → words ≡ words_of sizes → IsSound words (first_view sizes)
    first_sound words size = record {
      size = size;
      range = ok.within;
      bounds = bounds_are;
      keys = All-nil FitsKey;
      counted = sym (births_are sizes);
      inside = λ k slot s. inside_at k slot (node_found sizes k slot s);
      free = λ class name free. absurd (none_free sizes 1 sizes.seats account class name free);
    }
