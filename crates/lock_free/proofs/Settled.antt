-- An exchange of an offer's first word carries it out or takes it back.
use Rattle.history.specs.declared.calls.Call.{Call}
use Rattle.std.proofs.Common.{◌≡◌, ◌≢◌, ◌+◌, ◌*◌, ◌^◌, ◌==◌, ℕ, ◌<◌, ◌≤◌, inl, inr, true, List, [], ◌∷◌, Contains, set, slice_index, is_some, Some, None, refl, sym, ap}
use Rattle.std.proofs.Common.{append-nil, arith, length-set, subst, ◌∙◌}
use Rattle.std.proofs.lemmas.Bool.{cases_eq, true≢false}
use Rattle.std.proofs.lemmas.Option.{none-some}
use Rattle.std.proofs.lemmas.List.{get_or-set_same}
use Rattle.std.proofs.lemmas.List.Elements.{All-cons, All-nil, All-append}
use mathlib.Core.Option.{some}
use lib.ListN.{get_elem?}
use Rattle.atomic_table.specs.Table as Table
use Rattle.trie_words.specs.Codes.{root_code, IsRootWord}
use Rattle.trie_words.specs.declared.roots.RootWord.TheVariants as word
use Rattle.history.specs.declared.calls.Access.TheVariants.{Writable}
use Rattle.machine_model.specs.declared.steps.Step.TheVariants as step
use Rattle.machine_model.specs.declared.operations.Operation.{Operation}
use Rattle.machine_model.specs.Beneath.slot_arena.specs.Heaps.{no_ref}
use Rattle.machine_model.specs.declared.roots.Descriptor.{Descriptor}
use Rattle.machine_model.specs.declared.roots.RootWord.{RootWord}
use Rattle.machine_model.specs.declared.roots.RootWord.TheVariants.{Plain, Offer}
use Rattle.machine_model.specs.Calls.{handle_of}
use Rattle.machine_model.specs.Keys.{FitsKey}
use Rattle.machine_model.specs.States.{State, operation_of, root_at, word_at, word_of, handle_limit}
use Rattle.lock_free.specs.declared.accounts.Account.{Account}
use Rattle.lock_free.specs.declared.accounts.Known.{Known}
use Rattle.lock_free.specs.declared.rules.View.{View}
use Rattle.lock_free.specs.declared.sizes.Sizes.{Sizes}
use Rattle.lock_free.specs.Accounts.{state_of, place_at, HasWaited, IsOfOther, gone_on}
use Rattle.lock_free.specs.Nodes.{class_of}
use Rattle.lock_free.specs.Places.{first_slot_word, generation_word, pin_word, root_word, IsTaken}
use Rattle.lock_free.specs.Roots.{MeansRoot, NoOffer, IsWritten, AreMarked, IsPending, fate, undecided, meant, opened_by, open_with, carried_out}
use Rattle.lock_free.specs.declared.rules.Retired.{Retired}
use Rattle.lock_free.specs.Rules.{NodesStand, IsClosing, SaysClosing, IsSpare, IsHeld, Reserves, IsSeat, IsKept}
use Rattle.lock_free.specs.Fates.{TellsFate, IsSettled, IsMarkedThen, is_carried_out, is_taken_back}
use Rattle.lock_free.specs.Settling.{Settles}
use Rattle.lock_free.proofs.Assembling.{AllStand, all_stand, closing_stays, opening_stays, Numbers, assembled}
use Rattle.lock_free.proofs.CellsStay.{before_cells, cells_step}
use Rattle.lock_free.proofs.CountWords.{slot_apart as count_apart}
use Rattle.lock_free.proofs.Fates.{fate_kept, fate_said, fate_settled}
use Rattle.lock_free.proofs.Framing.{else_word, below_word, still_taken, have_still, stands_over, class_small}
use Rattle.lock_free.proofs.Geometry.{IsWordOf, slots_apart, above, inside, root_below}
use Rattle.lock_free.proofs.Meanings.{means_then, stood_still, pending_kept, unmarked_then}
use Rattle.lock_free.proofs.RootFound.{slot_fits, opening_is}
use Rattle.lock_free.proofs.RootSteps as root
use Rattle.lock_free.proofs.PlainStay.{plain_running}
use Rattle.lock_free.proofs.Seats.{Stays, other_kept, own_kept, drafts_kept}
use Rattle.lock_free.proofs.Stood.{meant_offer, offer_is, plain_not}
use Rattle.lock_free.proofs.Tries.{is_or_not, ran_settled, reserved_settled, not_owner, marks_settled, marks_else, opener}
use Rattle.lock_free.proofs.Waiting.{waited_more, quiet_more}
use Rattle.machine_model.specs.Beneath.slot_arena.specs.declared.refs.Ref.{Ref}
use Rattle.lock_free.specs.Holdings.{AreHeld}
use Rattle.lock_free.proofs.PartingStay.{knows_still, names_same, parted_still}

module _ (sizes : Sizes) (s : Table.State Call View) (kept : IsKept sizes s) (id : ℕ) (v : View) (at : get_elem? s.views id ≡ some v) (operation : Operation)
    (runs : operation_of (state_of sizes kept.account) v.actor ≡ Some operation) (n : ℕ) (k : Known) (here : Contains kept.account.offers k)
    (settles : Settles sizes kept.account v.actor n operation k)
    (on : k.handle ≡ handle_of operation.call) (stands_yet : fate s.words k ≡ undecided) where
  abbrev all : AllStand sizes kept.account kept.stands s.words
  all = all_stand sizes s kept

  abbrev now : State
  now = state_of sizes kept.account

  abbrev pub account_then : Account
  account_then = gone_on v.actor kept.account

  abbrev next : State
  next = state_of sizes account_then

  abbrev handle : ℕ
  handle = handle_of operation.call

  abbrev i : ℕ
  i = 2 * k.slot

  abbrev pub words_then : List ℕ
  words_then = set s.words i n

  abbrev pub view_then : View
  view_then = record v { account = account_then }

  seat : IsSeat sizes kept.account kept.stands s.words v
  seat = kept.seats id v at

  low : handle < handle_limit
  low = (seat.entered handle (seat.calls operation runs)).0

  medium : 1 < 3
  medium = omega arith

  its_word : IsWordOf 1 k.slot i
  its_word = record { low = omega arith; high = omega arith }

  far : first_slot_word sizes ≤ i
  far = above sizes s.words kept.taken 1 k.slot i medium (kept.roots.blocks k here) its_word

  else_same : (j : ℕ) → j ≢ i → slice_index words_then j ≡ slice_index s.words j
  else_same = else_word kept.account s.words i n

  at_it : slice_index words_then i ≡ n
  at_it = get_or-set_same s.words i n 0 (subst (λ m. i < m) (sym kept.size) (inside sizes s.words kept.taken 1 k.slot i medium (kept.roots.blocks k here) its_word))

  before_slots : (j : ℕ) → j < first_slot_word sizes → slice_index words_then j ≡ slice_index s.words j
  before_slots = below_word sizes kept.account s.words kept.taken i far n

  root_same : (g : ℕ) → g < handle_limit → slice_index words_then (root_word g) ≡ slice_index s.words (root_word g)
  root_same g below = let where_it_is = root_below g below in before_slots (root_word g) (omega (arith, where_it_is.1))

  taken_still : (b m : ℕ) → b < 3 → IsTaken sizes s.words b m → IsTaken sizes words_then b m
  taken_still = still_taken sizes kept.account s.words kept.taken i far n

  -- a slot that isn't the offer's has other words
  slot_apart : (b name : ℕ) → b < 3 → IsTaken sizes s.words b name → name ≢ k.slot → (j : ℕ) → IsWordOf b name j → j ≢ i
  slot_apart b name small is differs j its same =
      differs (slots_apart sizes s.words kept.taken b 1 name k.slot i small medium is (kept.roots.blocks k here) (subst (λ m. IsWordOf b name m) same its) its_word).1

  fate_else : (l : Known) → l.slot ≢ k.slot → fate words_then l ≡ fate s.words l
  fate_else l differs = else_same (2 * l.slot) (λ same. differs (omega (arith, same)))

  same_offer : (l : Known) → Contains kept.account.offers l → l.slot ≡ k.slot → l ≡ k
  same_offer l c same = kept.roots.single l k c here same

  -- ---- nodes

  nodes_over : NodesStand sizes kept.account kept.stands words_then
  nodes_over = record {
    within = λ m slot h. taken_still (class_of slot.node) (place_at kept.account m) (class_small slot.node) (kept.nodes.within m slot h);
    small = kept.nodes.small;
    apart = kept.nodes.apart;
    offers = kept.nodes.offers;
    written = λ m slot h.
        stands_over kept.account s.words i n (place_at kept.account m) now m slot slot.node (kept.nodes.small m slot h)
        (slot_apart (class_of slot.node) (place_at kept.account m) (class_small slot.node) (kept.nodes.within m slot h) (kept.nodes.offers k here m slot h)) (kept.nodes.written m slot h);
    inside = kept.nodes.inside;
    owners = kept.nodes.owners;
    owned = kept.nodes.owned;
    live = kept.nodes.live;
    reached = kept.nodes.reached;
  }

  nodes_then : NodesStand sizes account_then kept.stands words_then
  nodes_then = root.nodes_left sizes kept.account account_then.steps kept.account settles.leaves kept.stands words_then (step.Go v.actor ∷ []) refl kept.nodes.offers nodes_over

  -- ---- what words of handles mean

  k_fits : k.slot < 2 ^ 27
  k_fits = slot_fits sizes s.words kept.range kept.taken k.slot (kept.roots.blocks k here)

  pending : IsPending s.words k
  pending = kept.roots.pending k here stands_yet

  means_here : MeansRoot account_then words_then handle (slice_index words_then (root_word handle)) (root_at next handle)
  means_here = record {
    what = word.Offered k.slot;
    fits = k_fits;
    code = root_same handle low ∙ ap (λ g. slice_index s.words (root_word g)) (sym on) ∙ pending.stands;
    says = record { its = k; here = here; on = on; place = refl; is = settles.settled ∙ ap (λ m. open_with Writable (meant m k.offer)) (sym at_it) };
  }

  means_opened : (g : ℕ) → g < handle_limit → k.offer.opens ≡ Some g → MeansRoot account_then words_then g (slice_index words_then (root_word g)) (root_at next g)
  means_opened g below opens = record {
    what = word.Opening k.slot;
    fits = k_fits;
    code = root_same g below ∙ (pending.opens g opens).1;
    says = inl (record { its = k; here = here; place = refl; opens = opens; is = settles.opened g below opens ∙ ap (λ m. opened_by m k.offer) (sym at_it) });
  }

  -- another handle's word names no offer, or another
  other_offered : (g : ℕ) → g ≢ handle → (l : Known) → Contains kept.account.offers l → l.handle ≡ g → l.slot ≢ k.slot
  other_offered g differs l c its same = differs (sym its ∙ ap (λ (x : Known). x.handle) (same_offer l c same) ∙ on)

  other_opening : (g : ℕ) → (k.offer.opens ≡ Some g → ⊥) → (l : Known) → Contains kept.account.offers l → l.offer.opens ≡ Some g → l.slot ≢ k.slot
  other_opening g unopened l c opens same = unopened (ap (λ (x : Known). x.offer.opens) (sym (same_offer l c same)) ∙ opens)

  means_else : (g : ℕ) → g < handle_limit → g ≢ handle → (k.offer.opens ≡ Some g → ⊥) → MeansRoot account_then words_then g (slice_index words_then (root_word g)) (root_at next g)
  means_else g below differs unopened =
      subst (λ m. MeansRoot account_then words_then g m (root_at next g)) (sym (root_same g below))
      (subst (λ r. MeansRoot account_then words_then g (slice_index s.words (root_word g)) r) (sym (settles.roots g differs unopened))
      (means_then kept.account account_then s.words words_then g (slice_index s.words (root_word g)) (root_at now g) (λ access q is. refl)
      (λ l c its says. (c, fate_else l (other_offered g differs l c its))) (λ l c opens. (c, fate_else l (other_opening g unopened l c opens))) (λ slot is fits nothing closed. inr nothing)
      (kept.roots.means g below)))

  means_all : (g : ℕ) → g < handle_limit → MeansRoot account_then words_then g (slice_index words_then (root_word g)) (root_at next g)
  means_all g below = elim (cases_eq g handle) [
    | inl same ↦ subst (λ m. MeansRoot account_then words_then m (slice_index words_then (root_word m)) (root_at next m)) (sym same) means_here
    | inr differs ↦ elim (is_or_not k.offer.opens g) [
      | inl opens ↦ means_opened g below opens
      | inr unopened ↦ means_else g below differs unopened
    ]
  ]

  -- ---- offers

  written_all : (l : Known) → Contains kept.account.offers l → IsWritten account_then words_then l
  written_all l c =
      let w = root.written_left sizes kept.account account_then.steps kept.account settles.leaves kept.stands s.words l (kept.roots.offers l c) in
      record { olds = else_same (2 * l.slot + 1) (λ same. omega (arith, same)) ∙ w.olds; news = else_same (2 * l.slot + 2) (last_apart l c) ∙ w.news }
    where
      last_apart : (l : Known) → Contains kept.account.offers l → 2 * l.slot + 2 ≢ i
      last_apart l c same =
          let both = (slots_apart sizes s.words kept.taken 1 1 l.slot k.slot i medium medium (kept.roots.blocks l c) (kept.roots.blocks k here)
          (record { low = omega (arith, same); high = omega (arith, same) }) its_word).1 in
          omega (arith, same, both)

  marks_all : AreMarked next words_then kept.account.offers
  marks_all l c a o e try = elim (cases_eq l.slot k.slot) [
    | inl same ↦
        (let is = same_offer l c same in
        marks_settled n k.offer now next l (ap (λ (x : Known). x.offer) is) settles.tries
        (λ b p f t. kept.roots.marks l c b p f t ∙ ap (λ (x : Known). fate s.words x == carried_out) is ∙ ap (λ m. m == carried_out) stands_yet) a o e try
        ∙ ap (λ m. m == carried_out) (sym at_it) ∙ ap (λ (x : Known). fate words_then x == carried_out) (sym is))
    | inr differs ↦
        marks_else n k.offer now next settles.tries l (fate words_then l) (fate s.words l) (fate_else l differs)
        (λ same_id same_try. differs (ap (λ (x : Known). x.slot) (kept.roots.tries l k c here same_id same_try)))
        (kept.roots.marks l c) a o e try
  ]

  -- what is undecided then is another one
  is_decided : IsSettled n k.offer now next → n ≢ undecided
  is_decided (is_carried_out is h) none = omega (arith, is, none)
  is_decided (is_taken_back is h) none = omega (arith, is, none)

  pending_all : (l : Known) → Contains kept.account.offers l → fate words_then l ≡ undecided → IsPending words_then l
  pending_all l c none = elim (cases_eq l.slot k.slot) [
    | inl same ↦ absurd (is_decided settles.tries (sym at_it ∙ ap (λ m. slice_index words_then (2 * m)) (sym same) ∙ none))
    | inr differs ↦ pending_kept s.words words_then l root_same (kept.roots.pending l c (sym (fate_else l differs) ∙ none))
  ]

  -- it leaves, and each other one stays
  it_leaves : word_at next handle ≢ Offer k.offer
  it_leaves e = is_decided settles.tries (meant_offer n k.offer k.offer (sym (ap word_of settles.settled) ∙ e)).0

  stays_there : (l : Known) → l.slot ≢ k.slot → Contains kept.account.offers l → word_at now l.handle ≡ Offer l.offer → word_at next l.handle ≡ Offer l.offer
  stays_there l differs c stood = elim (cases_eq l.handle handle) [
    | inl same ↦
        (let one : k.offer ≡ l.offer = offer_is k.offer l.offer (sym (ap word_of settles.stood) ∙ ap (word_at now) (sym same) ∙ stood) in
        absurd (differs (ap (λ (x : Known). x.slot) (kept.roots.tries l k c here (ap (λ (d : Descriptor). d.operation) (sym one)) (ap (λ (d : Descriptor). d.attempt) (sym one))))))
    | inr other ↦ ap word_of (settles.roots l.handle other (λ opens. closed_not (ap word_of (is_closed l.handle opens) ∙ refl) stood)) ∙ stood
  ]
    where
      is_closed : (g : ℕ) → k.offer.opens ≡ Some g → root_at now g ≡ None
      is_closed g opens =
          let x = pending.opens g opens in
          (opening_is sizes kept.account s.words kept.roots g x.0 k here k_fits x.1).1 ∙ ap (λ m. opened_by m k.offer) stands_yet

      closed_not : {w : RootWord} → w ≡ Plain no_ref → w ≡ Offer l.offer → ⊥
      closed_not is e = plain_not no_ref l.offer (sym is ∙ e)

  fates_all : (l : Known) → Contains kept.account.offers l → TellsFate sizes account_then l (fate words_then l)
  fates_all l c = elim (cases_eq l.slot k.slot) [
    | inl same ↦
        subst (λ x. TellsFate sizes account_then x (fate words_then x)) (sym (same_offer l c same))
        (subst (TellsFate sizes account_then k) (sym at_it)
        (fate_settled sizes kept.account account_then (step.Go v.actor) refl k n (ap (word_at now) on ∙ ap word_of settles.stood) (λ e. it_leaves (ap (word_at next) (sym on) ∙ e)) settles.tries
        (subst (TellsFate sizes kept.account k) stands_yet (kept.roots.fates k here))))
    | inr differs ↦
        fate_said sizes account_then l (fate s.words l) (fate words_then l) (fate_else l differs)
        (fate_kept sizes kept.account account_then (step.Go v.actor) refl l (fate s.words l) (stays_there l differs c) (kept.roots.fates l c))
  ]

  pub all_then : AllStand sizes account_then kept.stands words_then
  all_then = record {
    bounds = settles.leaves.bounds;
    keys = All-append FitsKey kept.account.steps (step.Go v.actor ∷ []) kept.keys (All-cons FitsKey (step.Go v.actor) [] tt (All-nil FitsKey));
    quiet = quiet_more kept.account.steps (step.Go v.actor) kept.quiet tt;
    counted = kept.counted ∙ sym settles.leaves.births;
    size = length-set s.words i n ∙ kept.size;
    taken = have_still sizes kept.account s.words kept.taken i far n;
    generations = before_slots generation_word (omega arith) ∙ kept.generations ∙ sym settles.leaves.generations;
    nodes = nodes_then;
    roots = record {
      means = means_all;
      offers = written_all;
      blocks = λ l c. taken_still 1 l.slot medium (kept.roots.blocks l c);
      single = kept.roots.single;
      tries = kept.roots.tries;
      stood = λ l c. stood_still sizes kept.account account_then (step.Go v.actor ∷ []) refl l.offer (kept.roots.stood l c);
      came = λ x c. stood_still sizes kept.account account_then (step.Go v.actor ∷ []) refl x.known.offer (kept.roots.came x c);
      parting = parted_still kept.account.offered kept.account.offers kept.account.parted s.words words_then (names_same kept.account.offers s.words words_then root_same) kept.roots.parting;
      marks = marks_all;
      fates = fates_all;
      pending = pending_all;
    };
  }

  -- ---- seats

  pub waits : (actor : ℕ) (first : Account) → actor ≢ v.actor → HasWaited actor first kept.account → HasWaited actor first account_then
  waits actor first differs h =
      subst (λ names. HasWaited actor first (record account_then { names = names })) (append-nil kept.account.names)
      (waited_more actor first kept.account (step.Go v.actor ∷ []) [] [] [] (All-cons (IsOfOther actor) (step.Go v.actor) [] (λ e. differs (sym e)) (All-nil (IsOfOther actor))) h)

  not_open : (g : ℕ) → root_at now g ≡ None → g ≢ handle
  not_open g closed same = none-some _ (sym closed ∙ ap (root_at now) same ∙ settles.stood)

  -- the handle that is opened is nobody's any more
  closed_by : IsSettled n k.offer now next → (other : ℕ) (w : View) → get_elem? s.views other ≡ some w → (g : ℕ) → Reserves next w g → Reserves now w g → k.offer.opens ≡ Some g → root_at next g ≡ None
  closed_by (is_carried_out is h) other w e g after before opens = absurd (not_owner n k.offer now next h w g after (opener sizes s kept k.offer next h other w e g before opens))
  closed_by (is_taken_back is h) other w e g after before opens = settles.opened g ((kept.seats other w e).opens g before).low opens ∙ ap (λ m. opened_by m k.offer) is

  held : (other : ℕ) (w : View) → get_elem? s.views other ≡ some w → (g : ℕ) → Reserves next w g → IsHeld next words_then g
  held other w e g h =
      let before = reserved_settled n k.offer now next settles.tries w g h in
      let x = (kept.seats other w e).opens g before in
      record {
        low = x.low;
        taken = λ none. x.taken (sym (root_same g x.low) ∙ none);
        closed = elim (is_or_not k.offer.opens g) [
          | inl opens ↦ closed_by settles.tries other w e g h before opens
          | inr unopened ↦ settles.roots g (not_open g x.closed) unopened ∙ x.closed
        ];
      }

  open_still : (g : ℕ) → is_some (root_at now g) ≡ true → is_some (root_at next g) ≡ true
  open_still g e = elim (cases_eq g handle) [
    | inl same ↦ ap (λ m. is_some (root_at next m)) same ∙ ap is_some settles.settled
    | inr differs ↦ elim (is_or_not k.offer.opens g) [
      | inl opens ↦
          (let closed = (opening_is sizes kept.account s.words kept.roots g (pending.opens g opens).0 k here k_fits (pending.opens g opens).1).1 ∙ ap (λ m. opened_by m k.offer) stands_yet in
          absurd (true≢false (sym e ∙ ap is_some closed)))
      | inr unopened ↦ ap is_some (settles.roots g differs unopened) ∙ e
    ]
  ]

  spare_then : (name : ℕ) → IsSpare sizes kept.account kept.stands name → IsSpare sizes account_then kept.stands name
  spare_then name h = (λ m slot e. h.0 m slot (e.0, sym (settles.leaves.nodes m) ∙ e.1), h.1)

  slot_same : (b name : ℕ) → b < 3 → IsTaken sizes s.words b name → IsSpare sizes kept.account kept.stands name → (j : ℕ) → IsWordOf b name j → slice_index words_then j ≡ slice_index s.words j
  slot_same b name small is h j its = else_same j (slot_apart b name small is (λ same. h.1 k here (sym same)) j its)

  stays : Stays sizes s kept id v at account_then kept.stands words_then
  stays = record {
    waits = waits;
    still = λ x h. h.still;
    others = λ a differs o e. ran_settled n k.offer now next settles.tries a o e;
    pins = λ a positive most apart. before_slots (pin_word a) (omega (arith, most));
    named = λ other w e apart handle slot o x. root_same handle x.low;
    numbers = λ other w e apart. held other w e;
    still_open = λ other w at_w g inside e. open_still g e;
    taken = taken_still;
    spare = λ other w b name e apart free. (let x = (kept.seats other w e).spare b name free in (spare_then name x.1, slot_same b name free.0 x.0 x.1));
    plain = plain_running sizes kept.account account_then kept.bounds ((step.Go v.actor) ∷ []) refl s.words words_then v.actor operation runs;
    offering = knows_still kept.account.offered kept.account.offers kept.account.parted s.words words_then
        (names_same kept.account.offers s.words words_then root_same);
  }

  pub own_then : IsSeat sizes account_then kept.stands words_then view_then
  own_then =
      own_kept sizes s kept id v at account_then kept.stands words_then stays operation settles.next runs settles.own settles.same_call settles.same_opens (held id v at) all_then.counted
      (before_slots (pin_word v.actor) (let top = seat.top in let most = seat.most in omega (arith, top, most))) v.pool v.opening (λ g slot o m. (m, λ x. (root_same g x.low, x.free.1))) v.drafts
      (λ b name f. (let x = seat.spare b name f in (taken_still b name f.0 x.0, spare_then name x.1))) seat.once
      (λ d c. drafts_kept sizes s kept id v at account_then kept.stands words_then stays view_then d (seat.drafts d c)
      (λ b name f. (f, (let x = seat.spare b name f in slot_same b name f.0 x.0 x.1)))) (stays.offering v.actor v.pin v.offer v.pool.parted seat.offering)

  -- with what it owes and has retired then
  abbrev pub Then : List Ref → List Retired → View
  Then owed retired = record view_then { owed = owed; retired = retired }

  closings_then : (owed : List Ref) (retired : List Retired) (g who : ℕ) → g < handle_limit → SaysClosing (slice_index words_then (root_word g)) who →
      IsClosing (set s.views id (Then owed retired)) g who
  closings_then owed retired g who below says =
      closing_stays sizes s kept id v at (Then owed retired) refl refl (λ h e. (e, refl)) refl (λ c. c) g who (kept.closings g who below (subst (λ m. SaysClosing m who) (root_same g below) says))

  -- a number whose word names no offer isn't the one that is opened
  not_its : (g slot : ℕ) → g < handle_limit → IsRootWord (word.Opening slot) → slice_index words_then (root_word g) ≡ root_code (word.Opening slot) → NoOffer account_then slot → k.offer.opens ≡
      Some g → ⊥
  not_its g slot below fits is nothing opens =
      let code = sym (pending.opens g opens).1 ∙ sym (root_same g below) ∙ is in nothing k here (omega (arith, code))

  reserves_then : IsSettled n k.offer now next → (other : ℕ) (w : View) → get_elem? s.views other ≡ some w → (g : ℕ) → Reserves now w g → (k.offer.opens ≡ Some g → ⊥) → Reserves next w g
  reserves_then (is_carried_out is h) other w e g r unopened = (r.0, unmarked_then now next w.actor (h.others w.actor (λ its. unopened (owner_opens h its))) r.1)
    where
      owner_opens : (h : IsMarkedThen k.offer now next) → w.actor ≡ h.owner → k.offer.opens ≡ Some g
      owner_opens h its = sym h.opens ∙ sym ((kept.seats other w e).reserves h.was (ap (operation_of now) its ∙ h.ran)) ∙ r.0
  reserves_then (is_taken_back is same) other w e g r unopened = (r.0, unmarked_then now next w.actor (same w.actor) r.1)

  numbers_then : (owed : List Ref) (retired : List Retired) → Numbers sizes s kept id v at (Then owed retired) refl refl account_then words_then
  numbers_then owed retired = record {
    openings = λ g slot below fits is nothing.
        (let unopened : k.offer.opens ≡ Some g → ⊥ = not_its g slot below fits is nothing in
        opening_stays sizes s kept id v at (Then owed retired) refl refl next g slot (λ r f. (reserves_then settles.tries id v at g r unopened, f))
        (λ other w e apart f r. reserves_then settles.tries other w e g r unopened)
        (kept.openings g slot below fits (sym (root_same g below) ∙ is) nothing));
    number = λ g h. inl (reserved_settled n k.offer now next settles.tries v g h);
    others = λ other w e apart g h. reserved_settled n k.offer now next settles.tries w g h;
    runners = λ a o e. (let p = ran_settled n k.offer now next settles.tries a o e in inr (p.was, p.runs));
  }

  -- the rule holds, where each reference is counted still
  pub settle_all : (owed : List Ref) (retired : List Retired) → IsSeat sizes account_then kept.stands words_then (Then owed retired) →
      AreHeld sizes account_then kept.stands words_then (set s.views id (Then owed retired)) → IsKept sizes (record { words = words_then; homes = s.homes; views = set s.views id (Then owed retired) })
  settle_all owed retired its is_held =
      assembled sizes s kept id v at (Then owed retired) refl refl account_then kept.stands words_then all_then (closings_then owed retired) its
      (other_kept sizes s kept id v at account_then kept.stands words_then stays) (λ b name f. inl f) (numbers_then owed retired) is_held
      (cells_step sizes s kept id v at (Then owed retired) account_then kept.stands i n
      (before_cells sizes s.words kept.taken 1 k.slot i medium (kept.roots.blocks k here) its_word)
      (count_apart sizes s.words kept.taken 1 k.slot i medium (kept.roots.blocks k here) its_word).1 taken_still spare_then (λ b m f. f))
