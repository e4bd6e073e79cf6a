-- A seat stores the word of the number that it has reserved: it names the offer that is to open the handle, or gives the number back.
use Rattle.history.specs.declared.calls.Call.{Call}
use Rattle.std.proofs.Common.{◌≡◌, ◌≢◌, ◌^◌, ℕ, ◌<◌, ◌≤◌, inl, inr, List, Contains, set, slice_index, Option, Some, None, refl, sym, ap, subst, ◌∙◌, arith}
use Rattle.std.proofs.lemmas.Bool.{cases_eq}
use Rattle.std.proofs.lemmas.Option.{none-some, same_Some}
use mathlib.Core.Option.{some, some-injective}
use lib.ListN.{get_elem?}
use Rattle.atomic_table.specs.Table as Table
use Rattle.trie_words.specs.Codes.{root_code, IsRootWord}
use Rattle.trie_words.specs.declared.roots.RootWord.{RootWord as HandleWord}
use Rattle.trie_words.specs.declared.roots.RootWord.TheVariants as word
use Rattle.history.specs.declared.calls.Access.TheVariants.{Writable}
use Rattle.machine_model.specs.declared.copying.CopyLine.TheVariants as copy
use Rattle.machine_model.specs.declared.lines.Line.TheVariants as line
use Rattle.machine_model.specs.declared.operations.Operation.{Operation}
use Rattle.machine_model.specs.declared.roots.Complete.{Complete}
use Rattle.machine_model.specs.declared.roots.Descriptor.{Descriptor}
use Rattle.machine_model.specs.declared.roots.RootWord.TheVariants.{Offer}
use Rattle.machine_model.specs.States.{State, operation_of, root_at, handle_limit}
use Rattle.lock_free.specs.declared.accounts.Known.{Known}
use Rattle.lock_free.specs.declared.rules.View.{View}
use Rattle.lock_free.specs.declared.sizes.Sizes.{Sizes}
use Rattle.lock_free.specs.Accounts.{state_of}
use Rattle.lock_free.specs.Offering.{HasOwner}
use Rattle.lock_free.specs.Places.{pin_word, root_word}
use Rattle.lock_free.specs.Roots.{NoOffer, fate, undecided, meant, open_with}
use Rattle.lock_free.specs.Rules.{IsClosing, SaysClosing, IsFree, IsHeld, Reserves, Names, NamesOffer, IsOpening, IsSeat, IsKept, RunsNothing}
use Rattle.lock_free.proofs.Assembling.{AllStand, all_stand, here, closing_stays, opening_stays, assembled}
use Rattle.lock_free.proofs.CellsStay.{cells_beside, handle_before}
use Rattle.lock_free.proofs.RootCodes.{kind, same_kind, slot_in}
use Rattle.lock_free.proofs.RootFound.{slot_fits, offered_is, opening_is}
use Rattle.lock_free.proofs.RootSteps as root
use Rattle.lock_free.proofs.PlainStay.{names_none, plain_over}
use Rattle.lock_free.proofs.Seats.{ran_so, Stays, StaysSpare, other_kept, own_else}
use Rattle.lock_free.proofs.HeldStill.{held_words}
use Rattle.lock_free.proofs.CountWords.{handle_apart}
use Rattle.lock_free.proofs.PartingStay.{knows_still, names_over}

-- ---- no offer stands that opens the seat's number, but its own operation's

module _ (sizes : Sizes) (s : Table.State Call View) (kept : IsKept sizes s)
    (owners : (h : ℕ) (offer : Descriptor) → root_at (state_of sizes kept.account) h ≡ open_with Writable (Offer offer) → HasOwner (state_of sizes kept.account) offer) where
  pub own_pending : (id : ℕ) (v : View) → get_elem? s.views id ≡ some v → (o : ℕ) → Reserves (state_of sizes kept.account) v o → (k : Known) → Contains kept.account.offers k → fate s.words k ≡
      undecided →
      k.offer.opens ≡ Some o → (operation : Operation) × (operation_of (state_of sizes kept.account) v.actor ≡ Some operation) × ((c : Complete) × (operation.line ≡ line.Copy (copy.Complete c)))
  own_pending id v at o r k c stands opens =
      let p = kept.roots.pending k c stands in
      let fits = slot_fits sizes s.words kept.range kept.taken k.slot (kept.roots.blocks k c) in
      let owner = owners k.handle k.offer (offered_is sizes kept.account s.words kept.roots k.handle p.low k c fits p.stands ∙ ap (λ n. open_with Writable (meant n k.offer)) stands) in
      let seat = kept.runners owner.actor owner.operation owner.runs in
      let runs : operation_of (state_of sizes kept.account) seat.view.actor ≡ Some owner.operation = ap (operation_of (state_of sizes kept.account)) seat.its ∙ owner.runs in
      let reserves : Reserves (state_of sizes kept.account) seat.view o = (
        (kept.seats seat.id seat.view seat.at).reserves owner.operation runs ∙ owner.opens ∙ opens,
        λ p e. ap (λ (x : Operation). x.is_marked) (same_Some p owner.operation (sym e ∙ runs)) ∙
            owner.unmarked,
      ) in
      let same : seat.id ≡ id = kept.numbers seat.id id seat.view v o seat.at at reserves r in
      let view_is : seat.view ≡ v = some-injective seat.view v (sym seat.at ∙ ap (λ n. get_elem? s.views n) same ∙ at) in
      (owner.operation, ap (λ (x : View). operation_of (state_of sizes kept.account) x.actor) (sym view_is) ∙ runs, (owner.completing, owner.completes))

-- ---- the stores

module _ (sizes : Sizes) (s : Table.State Call View) (kept : IsKept sizes s) (id : ℕ) (v : View) (at : get_elem? s.views id ≡ some v) (o : ℕ) (reserves : Reserves (state_of sizes kept.account) v o)
    (no_pending : (k : Known) → Contains kept.account.offers k → fate s.words k ≡ undecided → k.offer.opens ≡ Some o → ⊥) where
  abbrev all : AllStand sizes kept.account kept.stands s.words
  all = all_stand sizes s kept

  abbrev now : State
  now = state_of sizes kept.account

  seat : IsSeat sizes kept.account kept.stands s.words v
  seat = kept.seats id v at

  pub its_held : IsHeld now s.words o
  its_held = seat.opens o reserves

  k_fits : (k : Known) → Contains kept.account.offers k → k.slot < 2 ^ 27
  k_fits k c = slot_fits sizes s.words kept.range kept.taken k.slot (kept.roots.blocks k c)

  unnamed : (k : Known) → Contains kept.account.offers k → fate s.words k ≡ undecided →
      (slice_index s.words (root_word o) ≡ root_code (word.Offered k.slot) → ⊥) × (slice_index s.words (root_word o) ≡ root_code (word.Opening k.slot) → ⊥)
  unnamed k c stands = (
    λ is. none-some _ (sym its_held.closed ∙ offered_is sizes kept.account s.words kept.roots o its_held.low k c (k_fits k c) is),
    λ is. no_pending k c stands (opening_is sizes kept.account s.words kept.roots o its_held.low k c (k_fits k c) is).0,
  )

  module _ (w : HandleWord) (fits : IsRootWord w) (unmarked : kind w < 6) (quiet : RunsNothing now → (slot : ℕ) → NamesOffer (root_code w) slot → ⊥)
      (new : (k : Known) → Contains kept.account.offers k → (w ≢ word.Offered k.slot) × (w ≢ word.Opening k.slot)) where
    abbrev pub words_then : List ℕ
    words_then = set s.words (root_word o) (root_code w)

    root_beside : (g : ℕ) → g ≢ o → slice_index words_then (root_word g) ≡ slice_index s.words (root_word g)
    root_beside = root.else_root sizes kept.account kept.stands s.words all o its_held.low (root_code w)

    root_here : slice_index words_then (root_word o) ≡ root_code w
    root_here = root.at_it sizes kept.account kept.stands s.words all o its_held.low (root_code w)

    pin_same : (a : ℕ) → 1 ≤ a → slice_index words_then (pin_word a) ≡ slice_index s.words (pin_word a)
    pin_same = root.pin_rooted sizes kept.account kept.stands s.words all o its_held.low (root_code w)

    -- nobody else has the number
    others_number : (other : ℕ) (x : View) → get_elem? s.views other ≡ some x → (other ≡ id → ⊥) → (g : ℕ) → Reserves now x g → g ≢ o
    others_number other x e apart g r same = apart (kept.numbers other id x v o e at (subst (λ n. Reserves now x n) same r) reserves)

    -- nor names it an offer that another seat writes
    others_name : (other : ℕ) (x : View) → get_elem? s.views other ≡ some x → (other ≡ id → ⊥) → (g slot : ℕ) → Names s.words x g slot → g ≢ o
    others_name other x e apart g slot n same =
        let h = kept.openings g slot n.low n.fits n.is ((kept.seats other x e).spare 1 slot n.free).1.1 in
        let it : h.id ≡ other = kept.pools h.id other h.view x 1 1 slot h.at e h.free n.free in
        others_number h.id h.view h.at (λ own. apart (sym it ∙ own)) g h.reserves same

    stays_spare : (other : ℕ) (x : View) (b name : ℕ) → get_elem? s.views other ≡ some x → IsFree x b name → StaysSpare sizes s kept id v at kept.account kept.stands words_then b name
    stays_spare other x b name e free =
        let h = (kept.seats other x e).spare b name free in (h.1, root.slot_rooted sizes kept.account kept.stands s.words all o its_held.low (root_code w) b name free.0 h.0)

    stays : Stays sizes s kept id v at kept.account kept.stands words_then
    stays = record {
      waits = λ actor first differs h. h;
      still = λ x h. h.still;
      others = λ a differs. ran_so now now a refl;
      pins = λ a positive most apart. pin_same a positive;
      named = λ other x e apart g slot p n. root_beside g (others_name other x e apart g slot n);
      numbers = λ other x e apart g r.
          (let h = (kept.seats other x e).opens g r in record { low = h.low; taken = λ none. h.taken (sym (root_beside g (others_number other x e apart g r)) ∙ none); closed = h.closed });
      still_open = λ other x at_x g inside e. e;
      taken = root.taken_rooted sizes kept.account kept.stands s.words all o its_held.low (root_code w);
      spare = λ other x b name e apart free. stays_spare other x b name e free;
      plain = plain_over sizes kept.account s.words words_then o root_beside (λ idle slot n. quiet idle slot (subst (λ x. NamesOffer x slot) root_here n));
      offering = knows_still kept.account.offered kept.account.offers kept.account.parted s.words words_then
          (names_over kept.account.offers s.words words_then o w fits root_beside root_here new);
    }

    not_closing : (who : ℕ) → SaysClosing (root_code w) who → ⊥
    not_closing who (inl h) = let same = same_kind w (word.ClosingWritable h.0 who) fits h.1 h.2 in omega (arith, same, unmarked)
    not_closing who (inr h) = let same = same_kind w (word.ClosingReadOnly h.0 who) fits h.1 h.2 in omega (arith, same, unmarked)

    -- what the seat has reserved then, and which offer it names
    module _ (opens opening : Option ℕ) where
      abbrev pub view_then : View
      view_then = record v { opens = opens; opening = opening }

      closings_then : (g who : ℕ) → g < handle_limit → SaysClosing (slice_index words_then (root_word g)) who → IsClosing (set s.views id view_then) g who
      closings_then g who below says = elim (cases_eq g o) [
        | inl same ↦ absurd (not_closing who (subst (λ n. SaysClosing n who) (ap (λ n. slice_index words_then (root_word n)) same ∙ root_here) says))
        | inr differs ↦ closing_stays sizes s kept id v at view_then refl refl (λ h e. (e, refl)) refl (λ c. c) g who (kept.closings g who below (subst (λ n. SaysClosing n who)
            (root_beside g differs) says))
      ]

      own_by : (numbers : (g : ℕ) → Reserves now view_then g → IsHeld now words_then g) → ((p : Operation) → operation_of now v.actor ≡ Some p → opens ≡ p.opens) →
          ((g slot : ℕ) → opens ≡ Some g → opening ≡ Some slot → Names words_then view_then g slot) → IsSeat sizes kept.account kept.stands words_then view_then
      own_by numbers reserves_then names =
          own_else sizes s kept id v at kept.account kept.stands words_then stays v.account seat.waited seat.rested seat.counts v.pin v.entered v.closing opens opening
          (pin_same v.actor seat.low ∙ seat.pinned) seat.pinned_idle seat.entered seat.calls
          numbers reserves_then names (λ b name free. stays_spare id v b name at free) (stays.offering v.actor v.pin v.offer v.pool.parted seat.offering)

  -- ---- the offer that is to open it is named

  module _ (slot : ℕ) (free : IsFree v 1 slot) (busy : RunsNothing now → ⊥) where
    fits_slot : slot < 2 ^ 27
    fits_slot = slot_fits sizes s.words kept.range kept.taken slot (seat.spare 1 slot free).0

    abbrev pub named_words : List ℕ
    named_words = set s.words (root_word o) (root_code (word.Opening slot))

    abbrev pub naming : View
    naming = record v { opening = Some slot }

    few : kind (word.Opening slot) < 6
    few = omega arith

    running : RunsNothing now → (x : ℕ) → NamesOffer (root_code (word.Opening slot)) x → ⊥
    running idle x n = busy idle

    fresh : (k : Known) → Contains kept.account.offers k → (word.Opening slot ≢ word.Offered k.slot) × (word.Opening slot ≢ word.Opening k.slot)
    fresh k c = (λ e. (let wrong = ap kind e in omega (arith, wrong)), λ e. (seat.spare 1 slot free).1.1 k c (sym (ap slot_in e)))

    here_is : slice_index named_words (root_word o) ≡ root_code (word.Opening slot)
    here_is = root_here (word.Opening slot) fits_slot few running fresh

    all_named : AllStand sizes kept.account kept.stands named_words
    all_named =
        root.all_rooted sizes kept.account kept.stands s.words all o its_held.low (root_code (word.Opening slot))
        (record { what = word.Opening slot; fits = fits_slot; code = refl; says = inr ((seat.spare 1 slot free).1.1, its_held.closed) }) unnamed
        (names_over kept.account.offers s.words named_words o (word.Opening slot) fits_slot (root_beside (word.Opening slot) fits_slot few running fresh) here_is fresh)

    named_held : (g : ℕ) → Reserves now naming g → IsHeld now named_words g
    named_held g r =
        let same = same_Some o g (sym reserves.0 ∙ r.0) in
        subst (λ n. IsHeld now named_words n) same (record { low = its_held.low; taken = λ none. absurd (omega (arith, here_is, none)); closed = its_held.closed })

    named_it : (g x : ℕ) → v.opens ≡ Some g → Some slot ≡ Some x → Names named_words naming g x
    named_it g x p e =
        subst (λ n. Names named_words naming n x) (same_Some o g (sym reserves.0 ∙ p))
        (subst (λ n. Names named_words naming o n) (same_Some slot x e) (record { low = its_held.low; fits = fits_slot; is = here_is; free = free }))

    openings_named : (g x : ℕ) → g < handle_limit → IsRootWord (word.Opening x) → slice_index named_words (root_word g) ≡ root_code (word.Opening x) → NoOffer kept.account x → IsOpening now
        (set s.views id naming) g x
    openings_named g x below fits is nothing = elim (cases_eq g o) [
      | inl same ↦
          (let code = sym here_is ∙ ap (λ n. slice_index named_words (root_word n)) (sym same) ∙ is in
          let which : slot ≡ x = omega (arith, code) in
          record {
            id = id;
            view = naming;
            at = here sizes s kept id v at naming refl refl;
            reserves = subst (λ n. Reserves now naming n) (sym same) reserves;
            free = subst (λ n. IsFree v 1 n)
                which free;
          })
      | inr differs ↦
          opening_stays sizes s kept id v at naming refl refl now g x (λ r f. (r, f)) (λ other w e apart f r. r)
          (kept.openings g x below fits (sym (root_beside (word.Opening slot) fits_slot few running fresh g differs) ∙ is) nothing)
    ]

    -- the rule holds
    pub name_kept : IsKept sizes (record { words = named_words; homes = s.homes; views = set s.views id naming })
    name_kept =
        assembled sizes s kept id v at naming refl refl kept.account kept.stands named_words all_named (closings_then (word.Opening slot) fits_slot few running fresh v.opens (Some slot))
        (own_by (word.Opening slot) fits_slot few running fresh v.opens (Some slot) named_held seat.reserves named_it)
        (other_kept sizes s kept id v at kept.account kept.stands named_words (stays (word.Opening slot) fits_slot few running fresh)) (λ b name f. inl f)
        (record { openings = openings_named; number = λ g r. inl r; others = λ other w e apart g r. r; runners = λ a p e. inr (p, e) })
        (held_words sizes s kept id v at naming refl refl refl (root_word o) (root_code (word.Opening slot)) (handle_apart sizes o its_held.low).1)
        (cells_beside sizes s kept id v at naming (root_word o) (root_code (word.Opening slot)) (handle_before sizes o its_held.low) (handle_apart sizes o its_held.low).1
        (stays (word.Opening slot) fits_slot few running fresh).taken (λ b n f. f))

  -- ---- the number is given back

  module _ (idle : operation_of now v.actor ≡ None) where
    abbrev pub free_words : List ℕ
    free_words = set s.words (root_word o) (root_code word.Closed)

    abbrev pub freeing : View
    freeing = record v { opens = None; opening = None }

    low_kind : kind word.Closed < 6
    low_kind = omega arith

    closes : RunsNothing now → (x : ℕ) → NamesOffer (root_code word.Closed) x → ⊥
    closes nothing = names_none word.Closed tt (λ e. omega (arith, e)) (λ e. omega (arith, e))

    none_named : (k : Known) → Contains kept.account.offers k → (word.Closed ≢ word.Offered k.slot) × (word.Closed ≢ word.Opening k.slot)
    none_named k c = (λ e. (let wrong = ap kind e in omega (arith, wrong)), λ e. (let wrong = ap kind e in omega (arith, wrong)))

    all_free : AllStand sizes kept.account kept.stands free_words
    all_free =
        root.all_rooted sizes kept.account kept.stands s.words all o its_held.low (root_code word.Closed) (record { what = word.Closed; fits = tt; code = refl; says = its_held.closed }) unnamed
        (names_over kept.account.offers s.words free_words o word.Closed tt (root_beside word.Closed tt low_kind closes none_named) (root_here word.Closed tt low_kind closes none_named) none_named)

    openings_free : (g x : ℕ) → g < handle_limit → IsRootWord (word.Opening x) → slice_index free_words (root_word g) ≡ root_code (word.Opening x) → NoOffer kept.account x → IsOpening now
        (set s.views id freeing) g x
    openings_free g x below fits is nothing = elim (cases_eq g o) [
      | inl same ↦
          (let wrong = same_kind word.Closed (word.Opening x) tt fits (sym (root_here word.Closed tt low_kind closes none_named) ∙ ap (λ n. slice_index free_words (root_word n)) (sym same) ∙ is) in
          absurd (omega (arith, wrong)))
      | inr differs ↦
          opening_stays sizes s kept id v at freeing refl refl now g x (λ r f. absurd (differs (same_Some g o (sym r.0 ∙ reserves.0)))) (λ other w e apart f r. r)
          (kept.openings g x below fits (sym (root_beside word.Closed tt low_kind closes none_named g differs) ∙ is) nothing)
    ]

    -- the rule holds
    pub give_back_kept : IsKept sizes (record { words = free_words; homes = s.homes; views = set s.views id freeing })
    give_back_kept =
        assembled sizes s kept id v at freeing refl refl kept.account kept.stands free_words all_free (closings_then word.Closed tt low_kind closes none_named None None)
        (own_by word.Closed tt low_kind closes none_named None None (λ g r. absurd (none-some g r.0)) (λ p e. absurd (none-some p (sym idle ∙ e))) (λ g x p n. absurd (none-some g p)))
        (other_kept sizes s kept id v at kept.account kept.stands free_words (stays word.Closed tt low_kind closes none_named)) (λ b name f. inl f)
        (record { openings = openings_free; number = λ g r. absurd (none-some g r.0); others = λ other w e apart g r. r; runners = λ a p e. inr (p, e) })
        (held_words sizes s kept id v at freeing refl refl refl (root_word o) (root_code word.Closed) (handle_apart sizes o its_held.low).1)
        (cells_beside sizes s kept id v at freeing (root_word o) (root_code word.Closed) (handle_before sizes o its_held.low) (handle_apart sizes o its_held.low).1
        (stays word.Closed tt low_kind closes none_named).taken (λ b n f. f))
