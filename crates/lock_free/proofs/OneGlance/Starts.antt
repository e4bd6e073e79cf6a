-- A get begins while its seat glances.
use Rattle.history.specs.declared.calls.Access.{Access}
use Rattle.history.specs.declared.calls.Call.{Call}
use Rattle.history.specs.declared.calls.Call.TheVariants.{Get}
use Rattle.history.specs.declared.replies.Reply.TheVariants as reply
use Rattle.std.proofs.Common.{◌≡◌, ◌≤◌, ℕ, inr, inl, true, false, is_some, List, Option, None, Some, Ok, IfSome, refl, sym, ap, subst, ◌∙◌}
use Rattle.std.proofs.lemmas.Bool.{true≢false}
use Rattle.std.proofs.lemmas.Option.{same_Some}
use Rattle.atomic_table.specs.Table.{Me, Step}
use Rattle.trie_words.specs.Codes.{root_of}
use Rattle.trie_words.specs.declared.roots.RootWord.{RootWord}
use Rattle.trie_words.specs.declared.roots.RootWord.TheVariants as word
use Rattle.machine_model.specs.Lines.{new_try}
use Rattle.machine_model.specs.declared.operations.Operation.{Operation}
use Rattle.machine_model.specs.Calls.{handle_of}
use Rattle.lock_free.specs.declared.glance_roots.Glancing.{Glancing}
use Rattle.lock_free.specs.declared.reading.Way.{Way}
use Rattle.lock_free.specs.declared.rules.Glance.{Glance}
use Rattle.lock_free.specs.declared.rules.Pinned.{Pinned}
use Rattle.lock_free.specs.declared.rules.View.{View}
use Rattle.lock_free.specs.Calling.{access_in, first_operation, has_started, started_by, HasBegun, HasCalled, HasTriedToStart, IsBeginner}
use Rattle.lock_free.specs.GlanceGets.{plain_access, HasBegunToGlance, IsGetSince, WhileItCounts}
use Rattle.lock_free.specs.Glancing.{BeginsGlance, HasGlanced, IsGlancing, glance_of, goes_on, is_lost, losing, veiled}
use Rattle.lock_free.specs.Holding.{IsOn}
use Rattle.lock_free.specs.Loading.{IsSound, Saw}
use Rattle.lock_free.specs.Passing.{IsOnWay}
use Rattle.lock_free.specs.Places.{root_word}
use Rattle.lock_free.specs.Seeking.{IsCalled}
use Rattle.lock_free.specs.SeatWords.{pinned_for}
use Rattle.lock_free.specs.Shadows.{IsHidden, inner}
use Rattle.lock_free.specs.WholeCalls.{RestsWith}
use Rattle.lock_free.proofs.CallsUnderWay.{begun_under_way}
use Rattle.lock_free.proofs.Comings.{runs_one}
use Rattle.lock_free.proofs.OneGlance.Loads.{saw_keeps, waits_hidden}
use Rattle.lock_free.proofs.OneGlance.Steps.{back}
use Rattle.lock_free.proofs.Waiting.{saw_none}
use Rattle.lock_free.proofs.WholeCalls.{begun_called, begun_try}

-- ---- what comes of its handle's word: it has begun, or its seat has only seen that

module _ (x : View) (handle key : ℕ) (w : View) where
  -- whatever is so in each of these cases
  pub tried_as : (P : RootWord → Type 0) → ((f : RootWord) → HasBegun x (Get handle key) f w → P f) → ((f : RootWord) → plain_access f ≡ None → Saw x w → P f) → (f : RootWord) →
      HasTriedToStart x (Get handle key) (started_by f (Get handle key)) w → P f
  tried_as P begun saw word.Closed h = saw word.Closed refl h.0
  tried_as P begun saw word.Reserved h = saw word.Reserved refl h.0
  tried_as P begun saw (word.Opening slot) h = saw (word.Opening slot) refl h.0
  tried_as P begun saw (word.ClosingWritable root seat) h = saw (word.ClosingWritable root seat) refl h.0.0
  tried_as P begun saw (word.ClosingReadOnly root seat) h = saw (word.ClosingReadOnly root seat) refl h.0.0
  tried_as P begun saw (word.ReadOnly slot) h = begun (word.ReadOnly slot) h
  tried_as P begun saw (word.Writable slot) h = begun (word.Writable slot) h
  tried_as P begun saw (word.Offered slot) h = begun (word.Offered slot) h

-- ---- it is hidden then

module _ (x : View) (hidden : IsHidden x) (handle key : ℕ) (w : View) where
  begun_hidden : (f : RootWord) → HasBegun x (Get handle key) f w → (w.sizes ≡ x.sizes) × IsHidden w
  begun_hidden f b = (
    ap (λ (z : View). z.sizes) b.after_is,
    record {
      pinned = hidden.pinned;
      is = ap (λ (z : View). z.pin) b.after_is ∙ hidden.is;
      hidden = hidden.hidden;
      may = inr (first_operation x b.account (Get handle key), reply.NoSlots, (false, b.runs), refl);
      plain = ap (λ (z : View). z.glance) b.after_is ∙ hidden.plain;
      seats = subst (λ (z : View). 1 ≤ z.sizes.seats) (sym b.after_is) hidden.seats;
    },
  )

  saw_hidden : Saw x w → (w.sizes ≡ x.sizes) × IsHidden w
  saw_hidden s = subst (λ (z : View). (z.sizes ≡ x.sizes) × IsHidden z) (sym s.after_is) (refl, waits_hidden x hidden s.account s.waited)

  pub started_hidden : (found : RootWord) → HasTriedToStart x (Get handle key) (started_by found (Get handle key)) w → (w.sizes ≡ x.sizes) × IsHidden w
  started_hidden = tried_as x handle key w (λ f. (w.sizes ≡ x.sizes) × IsHidden w) begun_hidden (λ f none s. saw_hidden s)

-- ---- the get is under way then

module _ (n : ℕ) (before : View) (sound : IsSound n before) (rests : RestsWith before None) (handle key : ℕ) (pinned : Pinned) (its : pinned.pin.handle ≡ handle) (plain : before.glance ≡ None) where
  abbrev call : Call
  call = Get handle key

  abbrev x : View
  x = pinned_for before pinned call

  pub sound_x : IsSound n x
  sound_x = record { size = sound.size; range = sound.range; bounds = sound.bounds; keys = sound.keys; counted = sound.counted; inside = sound.inside; free = sound.free }

  pub to_begin : IsBeginner x call
  to_begin = record { idle = rests.idle; asks = refl; pin = pinned; pinned = refl; its = its; number = sym (ap is_some rests.opens_it); stays = refl }

  fresh : IsGetSince n before handle key x
  fresh = record { sound = sound_x; seat = refl; at = inl (pinned, saw_none n x sound_x, rests.idle) }

  module _ (w : View) (then : IsSound n w) where
    abbrev Goes : RootWord → Type 0
    Goes f = IsGetSince n before handle key w × (w.sizes ≡ x.sizes) × (w.glance ≡ None) × IfSome (plain_access f) (λ access. IsOn w new_try × IsCalled w call access)

    module _ (f : RootWord) (b : HasBegun x call f w) where
      abbrev o : Operation
      o = first_operation x b.account call

      abbrev way : Way
      way = record { handle = handle; access = access_in f }

      on_way : IsOnWay w way
      on_way p r =
          let same = runs_one w p o r (false, b.runs) in
          (ap (λ (z : Operation). z.access) same ∙ b.access, ap (λ (z : Operation). handle_of z.call) same)

      called : HasCalled before call (Ok way) w
      called = (pinned, f, b, on_way)

      since : IsGetSince n before handle key w
      since = record {
        sound = then;
        seat = subst (λ (z : View). z ≡ record before { account = z.account; pin = z.pin; asks = z.asks; entered = z.entered; owed = z.owed }) (sym b.after_is) refl;
        at = inr (
          record { operation = o; runs = (false, b.runs); call_is = refl; none = refl; may = refl },
          begun_under_way n before sound None rests call way w then called,
        );
      }

      by : (f : RootWord) → IsOn w new_try × IsCalled w call (access_in f) → IfSome (plain_access f) (λ access. IsOn w new_try × IsCalled w call access)
      by (word.Writable slot) h = h
      by (word.ReadOnly slot) h = h
      by word.Closed h = tt
      by word.Reserved h = tt
      by (word.Opening slot) h = tt
      by (word.Offered slot) h = tt
      by (word.ClosingWritable root seat) h = tt
      by (word.ClosingReadOnly root seat) h = tt

      begun_goes : Goes f
      begun_goes = (
        since,
        ap (λ (z : View). z.sizes) b.after_is,
        ap (λ (z : View). z.glance) b.after_is ∙ plain,
        by f (begun_try before None rests call way w called tt, begun_called before None rests call way w called),
      )

    saw_goes : (f : RootWord) → plain_access f ≡ None → Saw x w → Goes f
    saw_goes f none s = (
      saw_keeps n x sound_x w s then before handle key fresh,
      ap (λ (z : View). z.sizes) s.after_is,
      ap (λ (z : View). z.glance) s.after_is ∙ plain,
      subst (λ a. IfSome a (λ access. IsOn w new_try × IsCalled w call access)) (sym none) tt,
    )

    started_goes : (found : RootWord) → HasTriedToStart x call (started_by found call) w → Goes found
    started_goes = tried_as x handle key w Goes begun_goes saw_goes

  -- ---- as it glances

  module _ (count : ℕ) (b c : List (ℕ × Call)) (st : Step Call) (at : st.word ≡ root_word handle) (found : ℕ) (after : View) where
    abbrev g : Glance
    g = glance_of before count

    abbrev u : View
    u = veiled x g

    abbrev glancing : Glancing
    glancing = record { count = count; access = plain_access (root_of found) }

    inner_is : inner u g ≡ x
    inner_is = sym (back u g refl x refl plain)

    never : (lost : Glance) → lost.lost ≡ true → (a : Option Access) → after.glance ≡ Some lost → IfSome a (λ access. WhileItCounts (λ v. IsOn v new_try × IsCalled v call access) after)
    never lost fell None is = tt
    never lost fell (Some access) is = λ h is_too no. absurd (true≢false (sym fell ∙ ap (λ (z : Glance). z.lost) (same_Some lost h (sym is ∙ is_too)) ∙ no))

    counted : (f : Glance) (w : View) (a : Option Access) → after.glance ≡ Some f → w ≡ inner after f → IfSome a (λ access. IsOn w new_try × IsCalled w call access) →
        IfSome a (λ access. WhileItCounts (λ v. IsOn v new_try × IsCalled v call access) after)
    counted f w None is same h = tt
    counted f w (Some access) is same h = λ k is_too known.
        subst (λ (z : View). IsOn z new_try × IsCalled z call access) (same ∙ ap (inner after) (same_Some f k (sym is ∙ is_too))) h

    lost_begun : (f : Glance) → u.glance ≡ Some f → ◌≡◌ {A = Me Call View} (after, c) (losing u f, b) → HasBegunToGlance n before handle key glancing after
    lost_begun f is so =
        let same : g ≡ f = same_Some g f is in
        let lost : Glance = record f { lost = true } in
        let after_is : after ≡ losing u f = ap (λ (z : Me Call View). z.0) so in
        let glance_is : after.glance ≡ Some lost = ap (λ (z : View). z.glance) after_is in
        record {
          its = record {
            glance = lost;
            is = glance_is;
            its =
                subst (λ (z : View). IsGetSince n before handle key (inner z lost)) (sym after_is)
                (subst (λ (h : Glance). IsGetSince n before handle key (inner u h)) same (subst (IsGetSince n before handle key) (sym inner_is) fresh));
          };
          count = ap (λ (h : Glance). h.read) (sym same);
          begun = never lost refl (plain_access (root_of found)) glance_is;
        }

    gone_begun : (f : Glance) (w : Me Call View) → has_started st (x, b) found w → u.glance ≡ Some f → ◌≡◌ {A = Me Call View} (after, c) (veiled w.0 f, w.1)
        → HasBegunToGlance n before handle key glancing after
    gone_begun f w told_x is so =
        let same : g ≡ f = same_Some g f is in
        let tried = told_x.0 call refl at in
        let then : IsSound n w.0 = subst (λ k. IsSound k w.0) (sym sound.size) told_x.1 in
        let goes = started_goes w.0 then (root_of found) tried in
        let after_is : after ≡ veiled w.0 f = ap (λ (z : Me Call View). z.0) so in
        let glance_is : after.glance ≡ Some f = ap (λ (z : View). z.glance) after_is in
        let inner_after : w.0 ≡ inner after f = back u f is w.0 (goes.1 ∙ ap (λ (h : Glance). h.sizes) same) goes.2 ∙ ap (λ (z : View). inner z f) (sym after_is) in
        record {
          its = record { glance = f; is = glance_is; its = subst (IsGetSince n before handle key) inner_after goes.0 };
          count = ap (λ (h : Glance). h.read) (sym same);
          begun = counted f w.0 (plain_access (root_of found)) glance_is inner_after goes.3;
        }

    pub begun_to_glance : HasGlanced (λ p q. has_started st p found q) (u, b) (after, c) → HasBegunToGlance n before handle key glancing after
    begun_to_glance (is_lost f is so) = lost_begun f is so
    begun_to_glance (goes_on f is known w told so) = gone_begun f w (subst (λ (z : View). has_started st (z, b) found w) (ap (inner u) (sym (same_Some g f is)) ∙ inner_is) told) is so

-- ---- once it has begun to glance

module _ (n : ℕ) (before : View) (sound : IsSound n before) (rests : RestsWith before None) (handle key count : ℕ) (mid : View) (it : BeginsGlance before (Get handle key) count mid) where
  abbrev first : Glance
  first = glance_of before count

  abbrev pinned_view : View
  pinned_view = pinned_for before it.pinned (Get handle key)

  glance_is : mid.glance ≡ Some first
  glance_is = ap (λ (z : View). z.glance) it.after_is

  inner_mid : inner mid first ≡ pinned_view
  inner_mid = ap (λ (z : View). inner z first) it.after_is ∙ sym (back (veiled pinned_view first) first refl pinned_view refl it.plain)

  pub begun_glancing : IsGlancing n mid
  begun_glancing = record {
    glance = first;
    is = glance_is;
    sound = subst (IsSound n) (sym inner_mid) (sound_x n before sound rests handle key it.pinned it.its it.plain);
  }

  pub begun_starts : WhileItCounts (λ v. IsBeginner v (Get handle key)) mid
  begun_starts g is known =
      subst (λ (v : View). IsBeginner v (Get handle key)) (sym inner_mid ∙ ap (inner mid) (same_Some first g (sym glance_is ∙ is)))
      (to_begin n before sound rests handle key it.pinned it.its it.plain)

  pub begun_told : (b c : List (ℕ × Call)) (st : Step Call) → st.word ≡ root_word handle → (found : ℕ) (after : View) → HasGlanced (λ p q. has_started st p found q) (mid, b) (after, c) →
      HasBegunToGlance n before handle key (record { count = count; access = plain_access (root_of found) }) after
  begun_told b c st at found after told =
      begun_to_glance n before sound rests handle key it.pinned it.its it.plain count b c st at found after
      (subst (λ (z : View). HasGlanced (λ p q. has_started st p found q) (z, b) (after, c)) it.after_is told)
