-- A step that changes no word keeps the rule: one that reads, whatever the seat knows of what it read, and one that gives nodes of its own up.
use Rattle.history.specs.declared.calls.Call.{Call}
use Rattle.std.proofs.Common.{if◌then◌else◌, Option, append-nil, ◌≡◌, ◌≢◌, ◌⊎◌, ℕ, suc, ◌<◌, inl, inr, Bool, true, false, List, [], ◌∷◌, ◌++◌, Contains, set, get_or, slice_index, is_some, Some}
use Rattle.std.proofs.Common.{None, refl, sym, ap, subst, ◌∙◌, arith}
use Rattle.std.proofs.lemmas.List.Elements.{All-append, All-cons, All-nil}
use mathlib.Core.Option.{some}
use lib.ListN.{get_elem?}
use Rattle.atomic_table.specs.Table as Table
use Rattle.std.proofs.lemmas.Bool.{true≢false}
use Rattle.machine_model.specs.Beneath.slot_arena.specs.declared.refs.Ref.{Ref}
use Rattle.machine_model.specs.Beneath.slot_arena.specs.declared.nodes.Slot.{Slot}
use Rattle.machine_model.specs.Beneath.slot_arena.specs.declared.nodes.Node.{Node}
use Rattle.machine_model.specs.Beneath.slot_arena.specs.declared.nodes.Node.TheVariants.{Indirection, Branch, Single, Tomb, List as Listed}
use Rattle.machine_model.specs.Beneath.slot_arena.specs.declared.nodes.Prev.{Prev}
use Rattle.machine_model.specs.Beneath.slot_arena.specs.Refs.{slot_of}
use Rattle.machine_model.specs.Beneath.slot_arena.specs.Heaps.{node_at, stored, node_of, main_of, main_at}
use Rattle.machine_model.specs.declared.operations.Operation.{Operation}
use Rattle.machine_model.specs.declared.steps.Step.{Step}
use Rattle.machine_model.specs.declared.steps.Step.TheVariants as step
use Rattle.machine_model.specs.Acting.{operation_after}
use Rattle.machine_model.specs.Keys.{FitsKey, KeysFit}
use Rattle.machine_model.specs.declared.roots.Root.{Root}
use Rattle.trie_words.specs.Codes.{entry_code, pair_code}
use Rattle.trie_words.specs.declared.headers.Previous.{Previous}
use Rattle.trie_words.specs.declared.headers.Shape.{Shape}
use Rattle.lock_free.specs.Places.{root_word, IsTaken}
use Rattle.machine_model.specs.States.{State, operation_of}
use Rattle.lock_free.specs.declared.accounts.Account.{Account}
use Rattle.lock_free.specs.declared.accounts.Known.{Known}
use Rattle.lock_free.specs.declared.rules.Pool.{Pool}
use Rattle.lock_free.specs.declared.rules.Retired.{Retired}
use Rattle.lock_free.specs.declared.rules.View.{View}
use Rattle.lock_free.specs.declared.sizes.Sizes.{Sizes}
use Rattle.lock_free.specs.Accounts.{state_of, place_at, place_of, HasGrown, HasWaited, IsOfOther, gone_on}
use Rattle.lock_free.specs.Owing.{owing}
use Rattle.lock_free.specs.Holdings.{AreHeld}
use Rattle.lock_free.specs.Live.{IsLive}
use Rattle.machine_model.specs.Operations.{action_of}
use Rattle.lock_free.specs.Nodes.{StandsAs, class_of, IsAhead, IsOver, is_single, SaysPrevious, decided, ahead, pending, failed, SaysHeader, SaysShape, of_branch, of_tomb, of_list, IsEntryOf}
use Rattle.lock_free.specs.Nodes.{AreEntries, half_of, InTable}
use Rattle.lock_free.specs.Roots.{MeansRoot, IsWritten, second_of, fate}
use Rattle.lock_free.specs.Reclaiming.{retiring, retiring_all}
use Rattle.lock_free.specs.Rules.{Standing, Stands, NodesStand, RootsStand, Once, pool_of, IsFree, IsRetired, IsSpare, IsSeat, IsKept, WasGarbage}
use Rattle.lock_free.specs.Steps.{Dropped, nothing, Leads, Reads}
use Rattle.lock_free.proofs.OwnBits.{own_longer}
use Rattle.lock_free.proofs.Assembling.{AllStand, closing_stays, numbers_stay, assembled}
use Rattle.lock_free.proofs.CellsStay.{cells_stay, cells_still}
use Rattle.lock_free.proofs.Meanings.{means_kept, marks_kept, stood_still}
use Rattle.lock_free.proofs.PlainStay.{plain_running}
use Rattle.lock_free.proofs.Seats.{ran_so, numbers_so, Stays, other_kept, own_kept, drafts_kept}
use Rattle.lock_free.proofs.RetiredMore.{seat_retiring, seat_retiring_all}
use Rattle.lock_free.proofs.HeldStep.{going_less}
use Rattle.lock_free.proofs.HeldLeads.{held_leads}
use Rattle.lock_free.proofs.Lettings.{TakesNone, private_fewer, none_made}
use Rattle.lock_free.proofs.SeatOwing.{seat_owing}
use Rattle.lock_free.proofs.Owners.{owners_kept}
use Rattle.lock_free.proofs.Fates.{fate_kept, words_same}
use Rattle.lock_free.proofs.OneStep.Reached.{reached_kept}
use Rattle.lock_free.proofs.Waiting.{waited_more, quiet_more, other_quiet}
use Rattle.lock_free.proofs.LinesStay.{going_owes}
use Rattle.lock_free.proofs.LetGoSince.{going_let_go}
use Rattle.lock_free.specs.Parting.{KnowsOffers}

-- an operation's step names no key
pub keys_gone : (steps : List Step) (actor : ℕ) → KeysFit steps → KeysFit (steps ++ step.Go actor ∷ [])
keys_gone steps actor fit = All-append FitsKey steps (step.Go actor ∷ []) fit (All-cons FitsKey (step.Go actor) [] tt (All-nil FitsKey))

abbrev pub SameNodes : State → State → Type 0
SameNodes before after = (r : Ref) → node_at after.heap r ≡ node_at before.heap r

pub same_nodes : (before after : State) → ((k : ℕ) → get_or after.heap.slots k None ≡ get_or before.heap.slots k None) → SameNodes before after
unfolding node_at stored
same_nodes before after same r = ap node_of (same (slot_of r))

module _ (account : Account) (steps : List Step) (others : Account) (dropped : Dropped) (before after : State) (same : SameNodes before after)
    (aheads : (i a f : Ref) → IsAhead after i a f → IsAhead before i a f)
    (still : (i a f : Ref) → IsAhead before i a f → dropped (slot_of f) ≡ false → IsAhead after i a f) (words : List ℕ) where
  abbrev pub later : Account
  later = record others { steps = steps; names = account.names; owned = account.owned }

  same_main : (r : Ref) → main_at after.heap r ≡ main_at before.heap r
  same_main r = ap main_of (same r)

  entry_kept : (e : Ref) (half : ℕ) → IsEntryOf account before.heap e half → IsEntryOf later after.heap e half
  entry_kept e half h = record {
    own = h.own;
    code = h.code ∙ ap (λ node. entry_code (record { slot = place_of account e; own = h.own; is_single = is_single node })) (sym (same e));
  }

  pub over_kept : (k : ℕ) (q : Ref) (own : Bool) → IsOver account before k q own → IsOver later after k q own
  over_kept k q own h i e = h i (ap slot_of (sym (same_main i)) ∙ e)

  previous_kept : (k : ℕ) (q : Prev) (says : Previous) → dropped k ≡ false → SaysPrevious account before k q says → SaysPrevious later after k q says
  previous_kept k q says stays (decided none) = decided (λ i a f h. none i a f (aheads i a f h))
  previous_kept k q says stays (ahead i a f own h its is) = ahead i a f own (still i a f h (ap dropped its ∙ stays)) its is
  previous_kept k q says stays (pending o own h) = pending o own (over_kept k o own h)
  previous_kept k q says stays (failed o own h) = failed o own (over_kept k o own h)

  pub shape_kept : (k : ℕ) (node : Node) (says : Shape) → SaysShape account k node says → SaysShape later k node says
  shape_kept k node says (of_branch bitmap entries) = of_branch bitmap entries
  shape_kept k node says (of_tomb single own is) = of_tomb single own is
  shape_kept k node says (of_list singles) = of_list singles

  header_kept : (k : ℕ) (slot : Slot) (word : ℕ) → dropped k ≡ false → SaysHeader account before k slot word → SaysHeader later after k slot word
  header_kept k slot word stays h = record {
    previous = h.previous;
    is_previous = previous_kept k slot.prev h.previous stays h.is_previous;
    shape = h.shape;
    is_shape = shape_kept k slot.node h.shape h.is_shape;
    code = h.code;
  }

  pub entries_kept : (name : ℕ) (entries : List Ref) → AreEntries account before.heap (InTable words) name entries → AreEntries later after.heap (InTable words) name entries
  entries_kept name entries h position e at = let x = h position e at in (x.0, x.1, entry_kept e (half_of x.0 position) x.2)

  pub stands_kept : (name k : ℕ) (slot : Slot) (node : Node) → dropped k ≡ false → StandsAs account before (InTable words) name k slot node → StandsAs later after (InTable words) name k slot node
  stands_kept name k slot (Indirection generation main) stays h = h
  stands_kept name k slot (Single key value) stays h = h
  stands_kept name k slot (Branch bitmap entries) stays h = ((h.0.0, h.0.1, header_kept k slot h.0.0 stays h.0.2), entries_kept name entries.items h.1)
  stands_kept name k slot (Tomb single) stays h = (h.0, h.1, header_kept k slot h.0 stays h.2)
  stands_kept name k slot (Listed singles) stays h = ((h.0.0, h.0.1, header_kept k slot h.0.0 stays h.0.2), entries_kept name singles.items h.1)

  second_kept : (o : Option Ref) → second_of account o ≡ second_of later o
  second_kept None = refl
  second_kept (Some r) = refl

  pub written_kept : (k : Known) → IsWritten account words k → IsWritten later words k
  written_kept k h = record { olds = h.olds; news = h.news ∙ ap (λ n. pair_code (record { low = place_of account k.offer.successor; high = n })) (second_kept k.offer.second) }

pub meaning_kept : (account : Account) (steps : List Step) (words : List ℕ) (handle found : ℕ) (r : Option Root) → MeansRoot account words handle found r → MeansRoot
    (record account { steps = steps }) words handle found r
meaning_kept account steps words handle found r = means_kept account (record account { steps = steps }) words words handle r (λ access q is. refl) (λ k c. (c, refl)) (λ slot none. none) found

-- ---- the rule

-- what still stands
abbrev pub standing : Standing → Dropped → Standing
standing stands dropped k = if dropped k then false else stands k

stood_by : (gone stood : Bool) → (if gone then false else stood) ≡ true → (gone ≡ false) × (stood ≡ true)
stood_by true stood e = absurd (true≢false (sym e))
stood_by false stood e = (refl, e)

abbrev pub with_step : Account → Step → Account
with_step account taken = record account { steps = account.steps ++ taken ∷ [] }

-- A step of the seat's operation changes no word; the slots of the nodes that it gives up are free for it then.
module _ (sizes : Sizes) (s : Table.State Call View) (kept : IsKept sizes s) (id : ℕ) (v : View) (at : get_elem? s.views id ≡ some v) (operation next : Operation)
    (runs : operation_of (state_of sizes kept.account) v.actor ≡ Some operation) (taken : Step) (fits : FitsKey taken) (its : (a : ℕ) → a ≢ v.actor → IsOfOther a taken) (dropped : Dropped)
    (leads : Leads sizes kept.account (with_step kept.account taken) v.actor dropped next) (same_call : next.call ≡ operation.call) (same_opens : next.opens ≡ operation.opens) where
  abbrev now : State
  now = state_of sizes kept.account

  abbrev pub account_then : Account
  account_then = with_step kept.account taken

  abbrev next_state : State
  next_state = state_of sizes account_then

  abbrev pub stands_then : Standing
  stands_then = standing kept.stands dropped

  stood : (k : ℕ) (slot : Slot) → Stands stands_then next_state k slot → Stands kept.stands now k slot × (dropped k ≡ false)
  stood k slot h = let x = stood_by (dropped k) (kept.stands k) h.0 in ((x.1, sym (leads.nodes k) ∙ h.1), x.0)

  live_then : (gone : Bool) (k : ℕ) → dropped k ≡ gone → gone ≡ false → kept.stands k ≡ true → stands_then k ≡ true
  live_then gone k is none h = ap (λ b. if b then false else kept.stands k) (is ∙ none) ∙ h

  live_stands : (r : Ref) → IsLive next_state r → stands_then (slot_of r) ≡ true
  live_stands r h = let x = leads.live r h in live_then (dropped (slot_of r)) (slot_of r) refl x.1 (kept.nodes.live r x.0)

  nodes_then : NodesStand sizes account_then stands_then s.words
  nodes_then = record {
    within = λ k slot h. kept.nodes.within k slot (stood k slot h).0;
    small = λ k slot h. kept.nodes.small k slot (stood k slot h).0;
    apart = λ j k x y a b same. kept.nodes.apart j k x y (stood j x a).0 (stood k y b).0 same;
    offers = λ x c k slot h. kept.nodes.offers x c k slot (stood k slot h).0;
    written = λ k slot h. (let was = stood k slot h in
        stands_kept kept.account account_then.steps kept.account dropped now next_state (same_nodes now next_state leads.nodes) leads.aheads leads.still s.words
        (place_at kept.account k) k slot slot.node was.1 (kept.nodes.written k slot was.0));
    inside = λ k slot e. kept.nodes.inside k slot (sym (leads.nodes k) ∙ e);
    owners = owners_kept kept.account account_then now next_state refl refl leads.aheads kept.nodes.owners;
    owned = own_longer sizes kept.account account_then (taken ∷ []) refl refl kept.nodes.owned;
    live = live_stands;
    reached = reached_kept sizes kept.account account_then kept.bounds taken refl kept.stands stands_then kept.nodes.reached live_stands
        (λ r was h. live_then (dropped (slot_of r)) (slot_of r) refl (leads.reached r was) h);
  }

  roots_then : RootsStand sizes account_then s.words
  roots_then = record {
    means = λ handle low. meaning_kept kept.account account_then.steps s.words handle _ _
        (subst (λ rs. MeansRoot kept.account s.words handle (slice_index s.words (root_word handle)) (get_or rs handle None)) (sym leads.roots) (kept.roots.means handle low));
    offers = λ k c. written_kept kept.account account_then.steps kept.account dropped now next_state (same_nodes now next_state leads.nodes) leads.aheads leads.still s.words k
        (kept.roots.offers k c);
    blocks = kept.roots.blocks;
    single = kept.roots.single;
    pending = kept.roots.pending;
    tries = kept.roots.tries;
    stood = λ k c. stood_still sizes kept.account account_then (taken ∷ []) refl k.offer (kept.roots.stood k c);
    came = λ x c. stood_still sizes kept.account account_then (taken ∷ []) refl x.known.offer (kept.roots.came x c);
    parting = kept.roots.parting;
    marks = marks_kept kept.account.offers now next_state leads.tries s.words s.words (λ k c. refl) kept.roots.marks;
    fates = λ k c. fate_kept sizes kept.account account_then taken refl k (fate s.words k) (λ e. words_same now next_state leads.roots k.handle ∙ e) (kept.roots.fates k c);
  }

  all_then : AllStand sizes account_then stands_then s.words
  all_then = record {
    bounds = leads.bounds;
    keys = All-append FitsKey kept.account.steps (taken ∷ []) kept.keys (All-cons FitsKey taken [] fits (All-nil FitsKey));
    quiet = quiet_more kept.account.steps taken kept.quiet (other_quiet (suc v.actor) taken (its (suc v.actor) (λ e. omega (arith, e))));
    counted = kept.counted ∙ sym leads.births;
    size = kept.size;
    taken = kept.taken;
    generations = kept.generations ∙ sym leads.generations;
    nodes = nodes_then;
    roots = roots_then;
  }

  waits : (actor : ℕ) (first : Account) → actor ≢ v.actor → HasWaited actor first kept.account → HasWaited actor first account_then
  waits actor first differs h =
      subst (λ names. HasWaited actor first (record account_then { names = names })) (append-nil kept.account.names)
      (waited_more actor first kept.account (taken ∷ []) [] [] [] (All-cons (IsOfOther actor) taken [] (its actor differs) (All-nil (IsOfOther actor))) h)

  spare_then : (name : ℕ) → IsSpare sizes kept.account kept.stands name → IsSpare sizes account_then stands_then name
  spare_then name h = (λ k slot e. h.0 k slot (stood k slot e).0, h.1)

  stays : Stays sizes s kept id v at account_then stands_then s.words
  stays = record {
    waits = waits;
    still = λ x h. live_then (dropped x.number) x.number refl (leads.retired x h.was h.grown) h.still;
    others = λ a differs. ran_so now next_state a (leads.others a differs);
    pins = λ a some most apart. refl;
    named = λ other w e apart handle slot o x. refl;
    numbers = λ other w e apart. numbers_so sizes s kept account_then s.words leads.tries leads.roots (λ handle low. refl) other w e;
    still_open = λ other w at_w handle inside e. ap (λ rs. is_some (get_or rs handle None)) leads.roots ∙ e;
    taken = λ b name small h. h;
    spare = λ other w b name e apart free. (spare_then name ((kept.seats other w e).spare b name free).1, λ j its_word. refl);
    plain = plain_running sizes kept.account account_then kept.bounds (taken ∷ []) refl s.words s.words v.actor operation runs;
    offering = λ actor pin own slots h. h;
  }

  -- what is free for the seat then was so before, or is the slot of a node that it gives up
  pub record IsGivenUp (b name : ℕ) : Type 0 where
    pub number : ℕ
    pub is : dropped number ≡ true
    pub slot : Slot
    pub stands : Stands kept.stands now number slot
    pub class : class_of slot.node ≡ b
    pub place : place_at kept.account number ≡ name

  module _ (pool : Pool) (once : (b : ℕ) → b < 3 → Once (pool_of pool b)) (more : (b name : ℕ) → b < 3 → Contains (pool_of v.pool b) name → Contains (pool_of pool b) name)
      (which : (b name : ℕ) → b < 3 → Contains (pool_of pool b) name → Contains (pool_of v.pool b) name ⊎ IsGivenUp b name) (same_parted : pool.parted ≡ v.pool.parted) where
    abbrev pub view_then : View
    view_then = record v { account = account_then; pool = pool }

    seat : IsSeat sizes kept.account kept.stands s.words v
    seat = kept.seats id v at

    -- a slot that is given up is the seat's then
    given_up : (b name : ℕ) → IsGivenUp b name → IsTaken sizes s.words b name × IsSpare sizes account_then stands_then name
    given_up b name g = (
      subst (λ c. IsTaken sizes s.words c name) g.class (subst (λ n. IsTaken sizes s.words (class_of g.slot.node) n) g.place (kept.nodes.within g.number g.slot g.stands)),
      (
        λ k slot e same. (let was = stood k slot e in true≢false (sym g.is ∙ ap dropped (sym (kept.nodes.apart k g.number slot g.slot was.0 g.stands (same ∙ sym g.place))) ∙ was.1)),
        λ k c same. kept.nodes.offers k c g.number g.slot g.stands (g.place ∙ sym same),
      ),
    )

    spare_own : (b name : ℕ) → IsFree view_then b name → IsTaken sizes s.words b name × IsSpare sizes account_then stands_then name
    spare_own b name free = elim (which b name free.0 free.1) [
      | inl was ↦ (let x = seat.spare b name (free.0, was) in (x.0, spare_then name x.1))
      | inr new ↦ given_up b name new
    ]

    not_others : (b name : ℕ) → IsFree view_then b name → IsFree v b name ⊎ ((other : ℕ) (w : View) (c : ℕ) → get_elem? s.views other ≡ some w → (other ≡ id → ⊥) → IsFree w c name → ⊥)
    not_others b name free = elim (which b name free.0 free.1) [
      | inl was ↦ inl (free.0, was)
      | inr new ↦ inr (λ other w c e apart f. ((kept.seats other w e).spare c name f).1.0 new.number new.slot new.stands new.place)
    ]

    own_then : IsSeat sizes account_then stands_then s.words view_then
    own_then =
        own_kept sizes s kept id v at account_then stands_then s.words stays operation next runs leads.own same_call same_opens
        (numbers_so sizes s kept account_then s.words leads.tries leads.roots (λ handle low. refl) id v at) all_then.counted refl pool v.opening
        (λ handle slot o n. (n, λ x. (refl, more 1 slot x.free.0 x.free.1))) v.drafts spare_own once
        (λ d c. drafts_kept sizes s kept id v at account_then stands_then s.words stays view_then d (seat.drafts d c) (λ b name free. ((free.0, more b name free.0 free.1), λ j its_word. refl)))
        (subst (λ xs. KnowsOffers kept.account.offered kept.account.offers kept.account.parted s.words v.actor v.pin v.offer xs) (sym same_parted) seat.offering)

    -- the rule holds, where the seat holds these references then
    pub drop_kept : (owed : List Ref) → AreHeld sizes account_then stands_then s.words (set s.views id (owing view_then owed)) → IsKept sizes
        (record { words = s.words; homes = s.homes; views = set s.views id (owing view_then owed) })
    drop_kept owed held =
        let w = owing view_then owed in
        assembled sizes s kept id v at w refl refl account_then stands_then s.words all_then
        (λ handle who low says. closing_stays sizes s kept id v at w refl refl (λ h e. (e, refl)) refl (λ c. c) handle who (kept.closings handle who low says))
        (seat_owing sizes account_then stands_then s.words view_then owed own_then)
        (other_kept sizes s kept id v at account_then stands_then s.words stays) not_others
        (numbers_stay sizes s kept id v at w refl refl account_then s.words leads.tries (λ slot none. none) (λ handle low. refl) refl
        (λ slot handle e free. (free.0, more 1 slot free.0 free.1))) held
        (cells_stay sizes s kept id v at w account_then stands_then s.words (λ c n cell. refl) (λ c n h. h) (λ c n low was spare no. (was, spare_then n spare))
        (λ c n b it was spare free. elim (which b n free.0 free.1) [
          | inl old ↦ (free.0, old)
          | inr new ↦ absurd (spare.0 new.number new.slot new.stands new.place)
        ]))

-- ---- reads

module _ (sizes : Sizes) (s : Table.State Call View) (kept : IsKept sizes s) (id : ℕ) (v : View) (at : get_elem? s.views id ≡ some v) (operation : Operation)
    (runs : operation_of (state_of sizes kept.account) v.actor ≡ Some operation) (reads : Reads sizes kept.account v.actor operation)
    (takes : TakesNone kept.stands (state_of sizes kept.account) operation (action_of (state_of sizes kept.account) operation)) where
  abbrev pub then_view : View
  then_view = record v { account = gone_on v.actor kept.account }

  pub held_read : AreHeld sizes (gone_on v.actor kept.account) (standing kept.stands nothing) s.words (set s.views id then_view)
  held_read =
      held_leads sizes s kept id v at operation (operation_after (state_of sizes kept.account) operation) runs (step.Go v.actor) nothing reads (λ k here e. absurd (true≢false (sym e)))
      (λ k e. absurd (true≢false (sym e))) (λ k c. private_fewer kept.stands (state_of sizes kept.account) operation (action_of (state_of sizes kept.account) operation) takes k c)
      (going_less sizes s kept v.actor operation runs takes (gone_on v.actor kept.account) refl) (λ j k has stood. refl) (λ j k has. refl)
      (going_let_go sizes s kept v.actor operation runs takes (gone_on v.actor kept.account) refl) then_view refl refl (λ k. omega arith) (λ k c. refl)
      (λ k.
      (let now = state_of sizes kept.account in
      let old = kept.held.lines id v at operation runs k in
      let less = going_owes sizes kept.account kept.bounds v.actor operation runs (none_made kept.stands now operation (action_of now operation) takes) k in omega (arith, old, less)))

  pub kept_then : IsKept sizes (record { words = s.words; homes = s.homes; views = set s.views id then_view })
  kept_then =
      drop_kept sizes s kept id v at operation (operation_after (state_of sizes kept.account) operation) runs (step.Go v.actor) tt (λ a differs e. differs (sym e)) nothing reads refl refl v.pool
      (kept.seats id v at).once (λ b name small h. h) (λ b name small h. inl h) refl v.owed held_read

  -- the same where the seat holds these references then
  pub kept_owing : (owed : List Ref) → AreHeld sizes (gone_on v.actor kept.account) (standing kept.stands nothing) s.words (set s.views id (owing then_view owed)) → IsKept sizes
      (record { words = s.words; homes = s.homes; views = set s.views id (owing then_view owed) })
  kept_owing owed held =
      drop_kept sizes s kept id v at operation (operation_after (state_of sizes kept.account) operation) runs (step.Go v.actor) tt (λ a differs e. differs (sym e)) nothing reads refl refl v.pool
      (kept.seats id v at).once (λ b name small h. h) (λ b name small h. inl h) refl owed held

  gone_others : (a : ℕ) → a ≢ v.actor → IsOfOther a (step.Go v.actor)
  gone_others a differs e = differs (sym e)

  -- and has retired one slot more
  module _ (owed : List Ref) (x : Retired) (was : WasGarbage sizes x) (grown : HasGrown x.account (gone_on v.actor kept.account)) (still : kept.stands x.number ≡ true)
      (held : AreHeld sizes (gone_on v.actor kept.account) (standing kept.stands nothing) s.words (set s.views id (retiring (owing then_view owed) x))) where
    abbrev after : Account
    after = gone_on v.actor kept.account

    abbrev after_stands : Standing
    after_stands = standing kept.stands nothing

    abbrev next : Operation
    next = operation_after (state_of sizes kept.account) operation

    abbrev w : View
    w = retiring (owing then_view owed) x

    gone_seat : IsSeat sizes after after_stands s.words then_view
    gone_seat =
        own_then sizes s kept id v at operation next runs (step.Go v.actor) tt gone_others nothing reads refl refl v.pool (kept.seats id v at).once (λ b name small h. h) (λ b name small h. inl h) refl

    pub kept_retiring : IsKept sizes (record { words = s.words; homes = s.homes; views = set s.views id (retiring (owing then_view owed) x) })
    kept_retiring =
        assembled sizes s kept id v at w refl refl after after_stands s.words
        (all_then sizes s kept id v at operation next runs (step.Go v.actor) tt gone_others nothing reads refl refl)
        (λ handle who low says. closing_stays sizes s kept id v at w refl refl (λ h e. (e, refl)) refl (λ c. c) handle who (kept.closings handle who low says))
        (seat_retiring sizes after after_stands s.words (owing then_view owed) x (record { was = was; grown = grown; still = still })
        (seat_owing sizes after after_stands s.words then_view owed gone_seat))
        (other_kept sizes s kept id v at after after_stands s.words (stays sizes s kept id v at operation next runs (step.Go v.actor) tt gone_others nothing reads refl refl))
        (λ b name free. inl free)
        (numbers_stay sizes s kept id v at w refl refl after s.words reads.tries (λ slot none. none) (λ handle low. refl) refl (λ slot handle e free. free)) held
        (cells_still sizes s kept id v at w after after_stands (spare_then sizes s kept id v at operation next runs (step.Go v.actor) tt gone_others nothing reads refl refl) (λ b n f. f))

  module _ (owed : List Ref) (xs : List Retired) (are : (x : Retired) → Contains xs x → IsRetired sizes (gone_on v.actor kept.account) (standing kept.stands nothing) x)
      (held : AreHeld sizes (gone_on v.actor kept.account) (standing kept.stands nothing) s.words (set s.views id (retiring_all (owing then_view owed) xs))) where
    abbrev account_after : Account
    account_after = gone_on v.actor kept.account

    abbrev stands_after : Standing
    stands_after = standing kept.stands nothing

    abbrev its_next : Operation
    its_next = operation_after (state_of sizes kept.account) operation

    abbrev view_after : View
    view_after = retiring_all (owing then_view owed) xs

    seat_gone : IsSeat sizes account_after stands_after s.words then_view
    seat_gone =
        own_then sizes s kept id v at operation its_next runs (step.Go v.actor) tt gone_others nothing reads refl refl v.pool (kept.seats id v at).once (λ b name small h. h)
        (λ b name small h. inl h) refl

    pub kept_retiring_all : IsKept sizes (record { words = s.words; homes = s.homes; views = set s.views id (retiring_all (owing then_view owed) xs) })
    kept_retiring_all =
        assembled sizes s kept id v at view_after refl refl account_after stands_after s.words
        (all_then sizes s kept id v at operation its_next runs (step.Go v.actor) tt gone_others nothing reads refl refl)
        (λ handle who low says. closing_stays sizes s kept id v at view_after refl refl (λ h e. (e, refl)) refl (λ c. c) handle who (kept.closings handle who low says))
        (seat_retiring_all sizes account_after stands_after s.words (owing then_view owed) xs are (seat_owing sizes account_after stands_after s.words then_view owed seat_gone))
        (other_kept sizes s kept id v at account_after stands_after s.words (stays sizes s kept id v at operation its_next runs (step.Go v.actor) tt gone_others nothing reads refl refl))
        (λ b name free. inl free)
        (numbers_stay sizes s kept id v at view_after refl refl account_after s.words reads.tries (λ slot none. none) (λ handle low. refl) refl (λ slot handle e free. free)) held
        (cells_still sizes s kept id v at view_after account_after stands_after
        (spare_then sizes s kept id v at operation its_next runs (step.Go v.actor) tt gone_others nothing reads refl refl) (λ b n f. f))
