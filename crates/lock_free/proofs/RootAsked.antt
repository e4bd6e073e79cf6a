-- The load by which the root of a handle is asked for is the operation's step, where the word names the root.
use Rattle.history.specs.declared.calls.Call.{Call}
use Rattle.std.proofs.Common.{◌≤◌, ◌≡◌, ◌<◌, ◌∷◌, [], ℕ, None, inl, set, slice_index, refl, sym, ap, subst, ◌∙◌, inr, ◌⊎◌}
use Rattle.std.proofs.lemmas.List.{set-get_or}
use mathlib.Core.Option.{some, none}
use lib.ListN.{get_elem?}
use Rattle.atomic_table.specs.Table.{Me, Allows, step}
use Rattle.atomic_table.specs.Table as Table
use Rattle.trie_words.specs.Codes.{root_of}
use Rattle.trie_words.specs.declared.roots.RootWord.{RootWord as HandleWord}
use Rattle.trie_words.specs.declared.roots.RootWord.TheVariants as word
use Rattle.history.specs.declared.calls.Access.{Access}
use Rattle.history.specs.declared.calls.Access.TheVariants.{Writable, ReadOnly}
use Rattle.machine_model.specs.Beneath.slot_arena.specs.Refs.{slot_of}
use Rattle.machine_model.specs.declared.actions.Action.TheVariants as act
use Rattle.machine_model.specs.declared.operations.Operation.{Operation}
use Rattle.machine_model.specs.declared.steps.Step.TheVariants as taken
use Rattle.machine_model.specs.Acting.{operation_after}
use Rattle.machine_model.specs.Moves.{GoesOn}
use Rattle.machine_model.specs.Operations.{action_of}
use Rattle.machine_model.specs.States.{State, root_at}
use Rattle.proof_garbage.specs.Beneath.proof_generations.proofs.Handles.Running.{place_of_actor}
use Rattle.lock_free.proofs.EpochStays.{rest_of}
use Rattle.std.proofs.lemmas.Option.{none-some}
use Rattle.lock_free.specs.declared.accounts.Account.{Account}
use Rattle.lock_free.specs.declared.asking.Named.{Named}
use Rattle.lock_free.specs.declared.asking.Named.TheVariants as named
use Rattle.lock_free.specs.declared.rules.View.{View}
use Rattle.lock_free.specs.declared.sizes.Sizes.{Sizes}
use Rattle.lock_free.specs.Accounts.{state_of, gone_on, running}
use Rattle.lock_free.specs.HandleWords.{TellsRoot, HasOffer}
use Rattle.lock_free.specs.Loading.{now, seen, HasGone, HasSeen, IsSound, SameSlots}
use Rattle.lock_free.specs.Places.{root_word, words_of}
use Rattle.lock_free.specs.Roots.{MeansRoot, SaysRoot, SaysPlain}
use Rattle.lock_free.specs.RootWords.{AsksAt, IsFound, IsRootAt, HasFoundRoot, HasAskedRoot, LoadedAs, has_asked, named_by}
use Rattle.lock_free.specs.Shadows.{IsShadowed}
use Rattle.lock_free.specs.Rules.{IsKept}
use Rattle.lock_free.proofs.Definition.{IsReading, waits}
use Rattle.lock_free.proofs.Looking.{saw, same_slots, went}
use Rattle.lock_free.proofs.OneGlance.Shadowed.{AllowsRuled, lifted}
use Rattle.lock_free.proofs.Moments.{ruled_still, seat, seen_view, seen_kept, waited_so, gone_view, gone_kept, gone_sound, gone_took}
use Rattle.lock_free.proofs.OneStep.Handled.{handle_low}
use Rattle.lock_free.proofs.OneStep.Standing.{has}
use Rattle.lock_free.proofs.OneStep.Roots.{root_is_link}
use Rattle.lock_free.proofs.RootCodes.{root_back}
use Rattle.lock_free.proofs.SeenRoots.{root_told}
use Rattle.lock_free.proofs.Led.{led_pinned}

-- its handle is one of the machine's
pub asks_low : (n : ℕ) (v : View) → IsSound n v → (handle : ℕ) → AsksAt v handle → handle < 256
asks_low n v sound handle asks =
    subst (λ h. h < 256) asks.on (handle_low v.sizes v.account sound.bounds v.actor asks.acts.operation asks.acts.runs (subst GoesOn (sym asks.acts.acts) tt))

module _ (v : View) (handle : ℕ) (asks : AsksAt v handle) (s : Table.State Call View) (kept : IsKept v.sizes s) (id : ℕ) (at : get_elem? s.views id ≡ some v) where
  abbrev found : ℕ
  found = slice_index s.words (root_word handle)

  abbrev o : Operation
  o = asks.acts.operation

  reading : IsReading (action_of (now v) o)
  reading = subst IsReading (sym asks.acts.acts) tt

  abbrev Asks : Named → View → Type 0
  Asks n w = IsKept v.sizes (record { words = s.words; homes = s.homes; views = set s.views id w }) × LoadedAs n v (root_word handle) found w × IsSound (words_of v.sizes) w × (rest_of w ≡ rest_of v)

  saw_it : IsKept v.sizes (record { words = s.words; homes = s.homes; views = set s.views id (seen_view v s kept id at) }) × HasSeen v (root_word handle) found (seen_view v s kept id at)
      × IsSound (words_of v.sizes) (seen_view v s kept id at) × (rest_of (seen_view v s kept id at) ≡ rest_of v)
  saw_it = (seen_kept v s kept id at, (record { table = s; kept = kept; id = id; at = at; finds = refl }, refl), (waited_so v s kept id at).sound, refl)

  pub asks_as : (n : Named) → (w : View) × Asks n w
  asks_as (named.Root slot) = (
    gone_view v s kept id at o asks.acts.runs reading,
    (
      gone_kept v s kept id at o asks.acts.runs reading,
      (record { table = s; kept = kept; id = id; at = at; finds = refl }, refl, gone_took v s kept id at o asks.acts.runs reading),
      gone_sound v s kept id at o asks.acts.runs reading,
      refl,
    ),
  )
  asks_as (named.Offer slot) = (seen_view v s kept id at, saw_it)
  asks_as named.Nothing = (seen_view v s kept id at, saw_it)

pub ask_ruled : (sizes : Sizes) (size id : ℕ) (me : Me Call View) (some_seats : 1 ≤ me.0.sizes.seats) (handle : ℕ) → AsksAt me.0 handle →
    AllowsRuled sizes size id me (root_word handle) (λ n. n) (has_asked (step size (root_word handle) 0 0 none) me)
ask_ruled sizes size id me some_seats handle asks =
    ruled_still sizes size id me (root_word handle) (λ n. n) (has_asked (step size (root_word handle) 0 0 none) me)
    some_seats (λ s kept at. inr refl)
    (λ s kept at. (let x = asks_as me.0 handle asks s kept id at (named_by (root_of (slice_index s.words (root_word handle)))) in (
      x.0,
      subst (λ ws. IsKept me.0.sizes (record { words = ws; homes = s.homes; views = set s.views id x.0 })) (sym (set-get_or s.words (root_word handle) 0)) x.1.0,
      (x.1.1, x.1.2, refl),
    )))
    (λ s kept at. (asks_as me.0 handle asks s kept id at (named_by (root_of (slice_index s.words (root_word handle))))).1.3)

pub ask_allowed : (sizes : Sizes) (size id : ℕ) (me : Me Call View) (some_seats : 1 ≤ me.0.sizes.seats) (handle : ℕ) → AsksAt me.0 handle →
    Allows (IsShadowed sizes) size id me (root_word handle) (λ n. n) (has_asked (step size (root_word handle) 0 0 none) me)
ask_allowed sizes size id me some_seats handle asks =
    lifted sizes size id me (root_word handle) (λ n. n) (has_asked (step size (root_word handle) 0 0 none) me) some_seats (ask_ruled sizes size id me some_seats handle asks)

-- ---- what the seat is told

module _ (before : View) (handle : ℕ) (low : handle < 256) (asks : AsksAt before handle) (found : ℕ) (after : View) where
  module _ (g : HasGone before (root_word handle) found after) where
    abbrev account : Account
    account = g.0.kept.account

    abbrev state : State
    state = state_of before.sizes account

    abbrev means : MeansRoot account g.0.table.words handle (slice_index g.0.table.words (root_word handle)) (root_at state handle)
    means = g.0.kept.roots.means handle low

    what_is : root_of found ≡ means.what
    what_is = ap root_of (sym g.0.finds ∙ means.code) ∙ root_back means.what means.fits

    said : (w : HandleWord) → root_of found ≡ w → SaysRoot account g.0.table.words handle w (root_at state handle)
    said w e = subst (λ x. SaysRoot account g.0.table.words handle x (root_at state handle)) (sym what_is ∙ e) means.says

    root_found : (access : Access) (slot : ℕ) → SaysPlain account access slot (root_at state handle) → HasFoundRoot before handle slot after
    root_found access slot h =
        let link = root_is_link before.sizes account g.0.kept.bounds handle access h.root h.is in
        let same = same_slots before slot (root_word handle) found after g act.ReadRoot tt asks.acts in
        let there : IsRootAt (seen before (gone_on before.actor account)) h.root slot = record {
          place = sym h.place;
          slot = link.0;
          used = subst (λ (x : View). SameSlots state (now x)) g.1 same (slot_of h.root) ∙ link.3;
          generation = link.1;
          main = link.2;
          is_link = link.4;
          reached = record {
            steps = account.steps;
            more = taken.Go before.actor ∷ [];
            goes_on = refl;
            handle = handle;
            access = access;
            was = h.is;
          };
        } in
        let runs = waits before.sizes before.actor before.account account (seat before g.0.table g.0.kept g.0.id g.0.at).waited g.0.kept.bounds asks.acts.operation asks.acts.runs in
        let o : Operation = record asks.acts.operation { is_marked = runs.0 } in
        let place = place_of_actor state before.actor o runs.1 in
        let its : IsFound (seen before (gone_on before.actor account)) h.root = (
          record {
            root = there.reached;
            actor = before.actor;
            operation = operation_after state o;
            runs = subst (λ (x : View). running x.sizes x.account x.actor (operation_after state o)) g.1 (g.2 o runs.1);
            began = (has before.sizes account g.0.kept.bounds).0.ids.below place.0 o place.2;
          },
          refl,
        ) in
        record {
          went = went before slot (root_word handle) found after g;
          access = access;
          root = h.root;
          is = h.is;
          same = same;
          at = subst (λ x. IsRootAt x h.root slot) (sym g.1) there;
          found = subst (λ x. IsFound x h.root) (sym g.1) its;
        }

  -- who asks is pinned
  offer_known : (account : Account) (slot : ℕ) (h : HasSeen before (root_word handle) found after) → HasOffer before.sizes account before.pin handle slot ⊎ (before.pin ≡ None) →
      HasOffer before.sizes account before.pin handle slot
  offer_known account slot h (inl has) = has
  offer_known account slot h (inr free) =
      let m = h.0 in
      let there = (waited_so before m.table m.kept m.id m.at).stays asks.acts.operation asks.acts.runs in
      let pinned = led_pinned before m.table m.kept m.id m.at (record asks.acts.operation { is_marked = there.0 }) there.1 in
      absurd (none-some pinned.0 (sym free ∙ pinned.1))

  told_by : (w : HandleWord) → root_of found ≡ w → LoadedAs (named_by w) before (root_word handle) found after → HasAskedRoot before handle (named_by w) after
  told_by (word.Writable slot) e g = root_found g Writable slot (said g (word.Writable slot) e)
  told_by (word.ReadOnly slot) e g = root_found g ReadOnly slot (said g (word.ReadOnly slot) e)
  told_by (word.ClosingWritable slot seat) e g = root_found g Writable slot (said g (word.ClosingWritable slot seat) e)
  told_by (word.ClosingReadOnly slot seat) e g = root_found g ReadOnly slot (said g (word.ClosingReadOnly slot seat) e)
  told_by (word.Offered slot) e h =
      let x = root_told before handle found after low h in (x.0, offer_known x.0.account slot h (subst (λ w. TellsRoot before.sizes x.0.account before.pin handle w) e x.2))
  told_by (word.Opening slot) e h = saw before 0 (root_word handle) found after h
  told_by word.Closed e h = saw before 0 (root_word handle) found after h
  told_by word.Reserved e h = saw before 0 (root_word handle) found after h

  pub ask_told : LoadedAs (named_by (root_of found)) before (root_word handle) found after → HasAskedRoot before handle (named_by (root_of found)) after
  ask_told h = told_by (root_of found) refl h
