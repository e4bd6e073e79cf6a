-- A load of a handle's word begins the operation for which the seat has pinned itself, where the handle is open for it.
use Rattle.history.specs.declared.calls.Access.TheVariants.{Writable, ReadOnly}
use Rattle.history.specs.declared.calls.Call.{Call}
use Rattle.std.proofs.Common.{◌≡◌, ◌<◌, ◌≤◌, ◌^◌, ℕ, zero, suc, Bool, true, false, List, [], ◌∷◌, get_or, set, slice_index, is_some, not, Option, Some, None}
use Rattle.std.proofs.Common.{Result, Ok, Err, refl, sym, ap, subst, ◌∙◌, arith, ne_eqb, inr}
use Rattle.std.specs.Prelude.{◌&&◌, ◌||◌, ◌++◌, unwrap_or, if◌then◌else◌}
use Rattle.std.specs.List.{list_any}
use Rattle.std.proofs.lemmas.Bool.{lt-ltb}
use Rattle.std.proofs.lemmas.List.{set-get_or}
use Rattle.std.proofs.lemmas.Option.{same_Some, none-some}
use mathlib.Core.Option.{some, none, some-injective}
use lib.ListN.{get_elem?}
use Rattle.atomic_table.specs.Table.{Me, Allows, step}
use Rattle.atomic_table.specs.Table as Table
use Rattle.trie_words.specs.Codes.{root_code, root_of, IsRootWord}
use Rattle.trie_words.specs.declared.roots.RootWord.{RootWord}
use Rattle.trie_words.specs.declared.roots.RootWord.TheVariants as word
use Rattle.history.specs.declared.events.Event.TheVariants as event
use Rattle.machine_model.specs.declared.operations.Operation.{Operation}
use Rattle.machine_model.specs.declared.roots.Root.{Root}
use Rattle.machine_model.specs.declared.steps.Step.TheVariants as taken
use Rattle.machine_model.specs.Calls.{handle_of, key_of, needs_read_only, needs_writable, opens_handle}
use Rattle.machine_model.specs.Machine.{access_of, begin_denial, begun_operation, is_access, is_free, is_number, is_taken, lacks_number, reserved_by, runs_on}
use Rattle.machine_model.specs.States.{State, operation_of, root_at, handle_limit}
use Rattle.lock_free.proofs.EpochStays.{rest_of}
use Rattle.lock_free.specs.declared.accounts.Account.{Account}
use Rattle.lock_free.specs.declared.calling.Denial.{Denial}
use Rattle.lock_free.specs.declared.calling.Denial.TheVariants as denial
use Rattle.lock_free.specs.declared.calling.Started.{Started}
use Rattle.lock_free.specs.declared.calling.Started.TheVariants as started
use Rattle.lock_free.specs.declared.rules.View.{View}
use Rattle.lock_free.specs.declared.sizes.Sizes.{Sizes}
use Rattle.lock_free.specs.Accounts.{past_of, state_of}
use Rattle.lock_free.specs.Beginning.{Begins, taking}
use Rattle.lock_free.specs.Calling.{IsBeginner, access_in, once_begun, refusal_of, runs_unless, started_by, HasBegun, HasTriedToStart, has_started}
use Rattle.lock_free.specs.HandleWords.{is_marked, TellsRoot}
use Rattle.lock_free.specs.Loading.{IsSound, Saw}
use Rattle.lock_free.specs.Places.{root_word, words_of}
use Rattle.lock_free.specs.Roots.{MeansRoot, SaysRoot}
use Rattle.lock_free.specs.Shadows.{IsShadowed}
use Rattle.lock_free.specs.Rules.{SaysClosing, IsSeat, IsKept, Reserves}
use Rattle.lock_free.proofs.Allowed.{and_false, begin_allowed, no_handle, not_read_only, read_only}
use Rattle.lock_free.proofs.Begun.{all_then, begin_kept}
use Rattle.lock_free.proofs.Moments.{free_inside, ruled_still, seen_kept, seen_view, waited_so}
use Rattle.lock_free.proofs.OneGlance.Shadowed.{AllowsRuled, lifted}
use Rattle.lock_free.proofs.OneStep.Beginning.{begins_of, begin_own, number_is}
use Rattle.lock_free.proofs.OneStep.Idle.{idle_stays}
use Rattle.lock_free.proofs.OneStep.Telling.{begin_told}
use Rattle.lock_free.proofs.OpenHandles.{not_closing}
use Rattle.lock_free.proofs.RootCodes.{kind, root_back}
use Rattle.lock_free.proofs.SeenRoots.{tells_by}
use Rattle.lock_free.proofs.Lettings.{beginning_lets}
use Rattle.lock_free.specs.Live.{IsLive}
use Rattle.lock_free.proofs.LetGoSince.{beginning_let_go}
use Rattle.lock_free.proofs.PartingStay.{standing_stood}

-- nobody in the list has reserved the number
nobody_has : (n : ℕ) (xs : List (Option Operation)) → ((k : ℕ) (o : Operation) → get_or xs k None ≡ Some o → reserved_by (Some o) ≡ Some n → ⊥) → list_any (λ o. is_number n (reserved_by o)) xs ≡ false
nobody_has n [] each = refl
nobody_has n (None ∷ xs) each = nobody_has n xs (λ k o e. each (suc k) o e)
nobody_has n (Some p ∷ xs) each =
    ap (λ b. b || list_any (λ o. is_number n (reserved_by o)) xs) (not_it n (reserved_by (Some p)) (each zero p refl)) ∙ nobody_has n xs (λ k o e. each (suc k) o e)
  where
    not_it : (n : ℕ) (x : Option ℕ) → (x ≡ Some n → ⊥) → is_number n x ≡ false
    not_it n None h = refl
    not_it n (Some m) h = ne_eqb m n (λ same. h (ap Some same))

-- the number that an unmarked operation is to open
reserves_of : (mark : Bool) (opens : Option ℕ) (n : ℕ) → (if mark then None else opens) ≡ Some n → (mark ≡ false) × (opens ≡ Some n)
reserves_of true opens n e = absurd (none-some n e)
reserves_of false opens n e = (refl, e)

module _ (v : View) (call : Call) (b : IsBeginner v call) (low : handle_of call < 256) (key : key_of call < 2 ^ 64) (s : Table.State Call View) (kept : IsKept v.sizes s) (id : ℕ)
    (at : get_elem? s.views id ≡ some v) where
  abbrev there : Account
  there = kept.account

  abbrev state : State
  state = state_of v.sizes there

  abbrev handle : ℕ
  handle = handle_of call

  abbrev found : ℕ
  found = slice_index s.words (root_word handle)

  seat : IsSeat v.sizes there kept.stands s.words v
  seat = kept.seats id v at

  idle : operation_of state v.actor ≡ None
  idle = idle_stays v.sizes v.actor v.account there seat.waited kept.bounds b.idle

  most : v.actor ≤ v.sizes.seats
  most = let top = seat.top in let few = seat.most in omega (arith, top, few)

  -- ---- the number that it has reserved is free

  own_reserved : (o : ℕ) → v.opens ≡ Some o → Reserves state v o
  own_reserved o e = (e, λ p runs. absurd (none-some p (sym idle ∙ runs)))

  nobody_else : (o : ℕ) → v.opens ≡ Some o → (k : ℕ) (p : Operation) → get_or state.actors k None ≡ Some p → reserved_by (Some p) ≡ Some o → ⊥
  nobody_else o e k p runs reserved =
      let is = reserves_of p.is_marked p.opens o reserved in
      let it = kept.runners (suc k) p runs in
      let its_run : operation_of state it.view.actor ≡ Some p = ap (operation_of state) it.its ∙ runs in
      let its : Reserves state it.view o = (
        (kept.seats it.id it.view it.at).reserves p its_run ∙ is.1,
        λ q f. ap (λ (x : Operation). x.is_marked) (same_Some q p (sym f ∙ its_run)) ∙ is.0,
      ) in
      let same : it.id ≡ id = kept.numbers it.id id it.view v o it.at at its (own_reserved o e) in
      let mine : it.view ≡ v = some-injective it.view v (sym it.at ∙ ap (λ n. get_elem? s.views n) same ∙ at) in
      none-some p (sym idle ∙ ap (λ (x : View). operation_of state x.actor) (sym mine) ∙ its_run)

  free_number : (o : ℕ) → v.opens ≡ Some o → is_free state o ≡ true
  free_number o e =
      let held = seat.opens o (own_reserved o e) in
      ap (λ c. c && not (is_taken state o)) (lt-ltb o handle_limit held.low)
      ∙ ap (λ r. not (is_some r || list_any (λ x. is_number o (reserved_by x)) state.actors)) held.closed ∙ ap not (nobody_has o state.actors (nobody_else o e))

  lacks_by : (number : Option ℕ) → opens_handle call ≡ is_some number → ((o : ℕ) → number ≡ Some o → is_free state o ≡ true) → (opens_handle call && lacks_number state number) ≡ false
  lacks_by None e free = ap (λ c. c && lacks_number state None) e
  lacks_by (Some o) e free = ap (λ c. c && not (is_free state o)) e ∙ ap not (free o refl)

  has_number : (opens_handle call && lacks_number state v.opens) ≡ false
  has_number = lacks_by v.opens b.number free_number

  -- ---- what comes of it

  abbrev Starts : Result Started RootWord → Type 0
  Starts result =
      (x : View) × IsKept v.sizes (record { words = s.words; homes = s.homes; views = set s.views id x }) × HasTriedToStart v call result x × IsSound (words_of v.sizes) x
      × (rest_of x ≡ rest_of v)

  abbrev saw : Saw v (seen_view v s kept id at)
  saw = record { account = there; waited = waited_so v s kept id at; after_is = refl }

  denied : (why : Denial) → begin_denial state v.actor call v.opens ≡ Some (refusal_of why) → Starts (Ok (started.Denied why))
  denied why is = (seen_view v s kept id at, seen_kept v s kept id at, (saw, is), saw.waited.sound, refl)

  tells : (w : RootWord) → IsRootWord w → found ≡ root_code w → SaysRoot there s.words handle w (root_at state handle) → TellsRoot v.sizes there v.pin handle w
  tells w fits code says =
      tells_by v.sizes there s.words kept.taken kept.roots v.actor v.pin v.offer v.pool.parted (kept.seats id v at).offering handle low w fits code says

  closing : (w : RootWord) → IsRootWord w → found ≡ root_code w → is_marked w ≡ true → SaysRoot there s.words handle w (root_at state handle) → Starts (Err w)
  closing w fits code marked says = (seen_view v s kept id at, seen_kept v s kept id at, ((saw, fits, tells w fits code says), marked), saw.waited.sound, refl)

  -- the handle is open, and nobody would close it
  module _ (w : RootWord) (fits : IsRootWord w) (code : found ≡ root_code w) (says : SaysRoot there s.words handle w (root_at state handle)) (few : kind w < 6) (root : Root)
      (is_open : root_at state handle ≡ Some root) (access : root.access ≡ access_in w) where
    module _ (write : (needs_writable call && is_access ReadOnly (Some root.access)) ≡ false) (read : (needs_read_only call && is_access Writable (Some root.access)) ≡ false) where
      may : begin_denial state v.actor call v.opens ≡ None
      may = begin_allowed v.sizes s kept id v at idle call v.opens root is_open write read has_number (ap (λ c. c && runs_on state handle) b.stays)

      begins : Begins v.sizes there v.actor (taken.Begin v.actor call v.opens) call v.opens
      begins = begins_of v.sizes there kept.bounds v.actor call v.opens most idle may b.number b.stays key (standing_stood v.sizes there s.words kept.roots)

      has_begun : HasBegun v call w (once_begun v call there)
      has_begun = record {
        account = there;
        waited = waited_so v s kept id at;
        after_is = refl;
        allowed = may;
        runs = begin_own v.sizes there kept.bounds v.actor call v.opens most idle may;
        access = ap (λ r. unwrap_or (access_of r) Writable) is_open ∙ access;
        fits = fits;
        tells = tells w fits code says;
        told = begin_told v.sizes there kept.bounds v.actor call v.opens may
            ∙ ap (λ o. (past_of v.sizes there).events ++ event.Begin (begun_operation state call v.opens).id v.actor call o ∷ []) (number_is state v.opens (opens_handle call) b.number);
      }

      sound : IsSound (words_of v.sizes) (once_begun v call there)
      sound =
          let all = all_then v.sizes s kept id v at (taken.Begin v.actor call v.opens) call begins idle in
          record { size = refl; range = kept.range.within; bounds = all.bounds; keys = all.keys; counted = all.counted; inside = all.nodes.inside; free = free_inside v s kept id at }

      runs : Starts (Ok (started.Runs w))
      runs = (
        once_begun v call there,
        begin_kept v.sizes s kept id v at (taken.Begin v.actor call v.opens) call begins idle b.pin b.pinned b.its low (ap is_some is_open)
            (λ who h. not_closing w who fits few (subst (λ n. SaysClosing n who) code h)) (beginning_lets kept.stands kept.stands (λ j e. e) (IsLive state) state call)
            (beginning_let_go v.sizes s kept v.actor call v.opens (taking (taken.Begin v.actor call v.opens) there) refl),
        has_begun,
        sound,
        refl,
      )

    writable : root.access ≡ Writable → (c : Bool) → needs_read_only call ≡ c → Starts (runs_unless c denial.NotReadOnly w)
    writable is true e = denied denial.NotReadOnly (not_read_only v.sizes s kept id v at idle call v.opens root is_open is e)
    writable is false e =
        runs (ap (λ a. needs_writable call && is_access ReadOnly (Some a)) is ∙ and_false (needs_writable call) false refl) (ap (λ c. c && is_access Writable (Some root.access)) e)

    readable : root.access ≡ ReadOnly → (c : Bool) → needs_writable call ≡ c → Starts (runs_unless c denial.ReadOnly w)
    readable is true e = denied denial.ReadOnly (read_only v.sizes s kept id v at idle call v.opens root is_open is e)
    readable is false e =
        runs (ap (λ c. c && is_access ReadOnly (Some root.access)) e) (ap (λ a. needs_read_only call && is_access Writable (Some a)) is ∙ and_false (needs_read_only call) false refl)

  starts_by : (w : RootWord) → IsRootWord w → found ≡ root_code w → SaysRoot there s.words handle w (root_at state handle) → Starts (started_by w call)
  starts_by word.Closed fits code says = denied denial.NoHandle (no_handle v.sizes s kept id v at idle call v.opens says)
  starts_by word.Reserved fits code says = denied denial.NoHandle (no_handle v.sizes s kept id v at idle call v.opens says)
  starts_by (word.Opening slot) fits code says = (seen_view v s kept id at, seen_kept v s kept id at, (saw, fits, tells (word.Opening slot) fits code says), saw.waited.sound, refl)
  starts_by (word.ClosingWritable root who) fits code says = closing (word.ClosingWritable root who) fits code refl says
  starts_by (word.ClosingReadOnly root who) fits code says = closing (word.ClosingReadOnly root who) fits code refl says
  starts_by (word.Writable slot) fits code says = writable (word.Writable slot) fits code says (omega arith) _ says.is refl refl (needs_read_only call) refl
  starts_by (word.Offered slot) fits code says = writable (word.Offered slot) fits code says (omega arith) _ says.is refl refl (needs_read_only call) refl
  starts_by (word.ReadOnly slot) fits code says = readable (word.ReadOnly slot) fits code says (omega arith) _ says.is refl refl (needs_writable call) refl

  abbrev means : MeansRoot there s.words handle found (root_at state handle)
  means = kept.roots.means handle low

  pub starts : Starts (started_by (root_of found) call)
  starts =
      subst (λ w. Starts (started_by w call)) (sym (ap root_of means.code ∙ root_back means.what means.fits)) (starts_by means.what means.fits means.code means.says)

pub begin_step_ruled : (sizes : Sizes) (size id : ℕ) (me : Me Call View) (some_seats : 1 ≤ me.0.sizes.seats) (call : Call) → IsBeginner me.0 call → handle_of call < 256 → key_of call < 2 ^ 64 →
    AllowsRuled sizes size id me (root_word (handle_of call)) (λ n. n) (has_started (step size (root_word (handle_of call)) 0 0 none) me)
begin_step_ruled sizes size id me some_seats call b low key =
    ruled_still sizes size id me (root_word (handle_of call)) (λ n. n) (has_started (step size (root_word (handle_of call)) 0 0 none) me)
    some_seats (λ s kept at. inr refl)
    (λ s kept at. (let x = starts me.0 call b low key s kept id at in (
      x.0,
      subst (λ ws. IsKept me.0.sizes (record { words = ws; homes = s.homes; views = set s.views id x.0 })) (sym (set-get_or s.words (root_word (handle_of call)) 0)) x.1,
      (
        λ other asks is. subst (λ o. HasTriedToStart me.0 o (started_by (root_of (slice_index s.words (root_word (handle_of call)))) o) x.0) (same_Some call other (sym b.asks ∙ asks)) x.2,
        x.3,
        refl,
      ),
    )))
    (λ s kept at. (starts me.0 call b low key s kept id at).4)

pub begin_step_allowed : (sizes : Sizes) (size id : ℕ) (me : Me Call View) (some_seats : 1 ≤ me.0.sizes.seats) (call : Call) → IsBeginner me.0 call → handle_of call < 256 → key_of call < 2 ^ 64 →
    Allows (IsShadowed sizes) size id me (root_word (handle_of call)) (λ n. n) (has_started (step size (root_word (handle_of call)) 0 0 none) me)
begin_step_allowed sizes size id me some_seats call b low key =
    lifted sizes size id me (root_word (handle_of call)) (λ n. n) (has_started (step size (root_word (handle_of call)) 0 0 none) me) some_seats
    (begin_step_ruled sizes size id me some_seats call b low key)
