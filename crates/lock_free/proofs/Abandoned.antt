-- A step by which the seat's operation gives up all that it has made, and that changes no word, keeps the rule: the slots are free for the seat.
use Rattle.history.specs.declared.calls.Call.{Call}
use Rattle.std.proofs.Common.{if◌then◌else◌, Some, ◌≡◌, ◌≢◌, ◌+◌, ◌*◌, ◌<◌, ◌≤◌, ◌⊎◌, ℕ, inl, inr, Bool, true, false, [], ◌∷◌, All, Contains, set, List, length}
use Rattle.std.proofs.Common.{refl, sym, ap, subst, ◌∙◌, arith, ◌==◌, ◌||◌, eqb-true}
use Rattle.std.proofs.lemmas.Bool.{cases_eq, true≢false}
use Rattle.std.proofs.lemmas.List.Elements.{All-cons, All-nil, All-append, Contains-append_cases, Contains-append_left, Contains-append_right, Contains-push}
use mathlib.Core.Option.{some}
use lib.ListN.{get_elem?}
use Rattle.atomic_table.specs.Table as Table
use Rattle.machine_model.specs.Beneath.slot_arena.specs.declared.refs.Ref.{Ref}
use Rattle.machine_model.specs.Beneath.slot_arena.specs.declared.nodes.Slot.{Slot}
use Rattle.machine_model.specs.Beneath.slot_arena.specs.Refs.{slot_of}
use Rattle.machine_model.specs.declared.operations.Operation.{Operation}
use Rattle.machine_model.specs.declared.steps.Step.{Step}
use Rattle.machine_model.specs.Keys.{FitsKey}
use Rattle.machine_model.specs.States.{State, operation_of}
use Rattle.machine_model.proofs.Fates.{place_of_actor}
use Rattle.proof_claims.specs.Changes.{fate_given_up, given_up, change_of}
use Rattle.proof_claims.specs.Claims.{Has}
use Rattle.proof_claims.specs.Held.{Claim, Ends, Given, Held, Holder, OfHandle, OfNode, Stays, gives, held_after, is_by_nodes, is_in, Change, is_kept}
use Rattle.proof_claims.proofs.Lists.{among, found_in}
use Rattle.proof_memory.specs.Laws.{IsInUse}
use Rattle.proof_memory.proofs.Safety.AtEachTime.{safe_along}
use Rattle.lock_free.specs.declared.accounts.Account.{Account}
use Rattle.lock_free.specs.declared.rules.View.{View}
use Rattle.lock_free.specs.Accounts.{bounds_for, place_of, state_of, running, IsOfOther}
use Rattle.lock_free.specs.Claims.{claims_there, held_now, is_there, owed_beside}
use Rattle.lock_free.specs.Counts.{how_often, owed_on, references}
use Rattle.lock_free.specs.Holdings.{AreHeld, IsHere, count_of, retired_on, HasBeenLetGo}
use Rattle.lock_free.specs.GivingUp.{given_back}
use Rattle.lock_free.specs.Live.{refs_of_claims, line_claims, from_operation, IsKnown, IsLive}
use Rattle.lock_free.specs.Loading.{IsSound}
use Rattle.lock_free.specs.Nodes.{class_of}
use Rattle.lock_free.specs.Owing.{owes_given_up, owing}
use Rattle.lock_free.specs.Places.{count_word, words_in, words_of}
use Rattle.lock_free.specs.Rules.{AreOwed, AreRetired, Standing, Stands, pool_of, IsKept}
use Rattle.lock_free.specs.Steps.{Leads}
use Rattle.lock_free.proofs.Asked.{is_one_of, private_apart, live_in_use}
use Rattle.lock_free.proofs.Framing.{node_end}
use Rattle.lock_free.proofs.GivenBack.{WasOf, Fits, all_fit, one_of, parted_back}
use Rattle.lock_free.proofs.Keeping.{IsGivenUp, with_step, drop_kept}
use Rattle.lock_free.proofs.ClaimsThere.{beside_fewer, beside_has, there_balance}
use Rattle.lock_free.proofs.CountsStay.{owed_set}
use Rattle.lock_free.proofs.Gifts.{GiftOf, given_of}
use Rattle.lock_free.proofs.HeldGives.{held_gives}
use Rattle.lock_free.proofs.HeldGone.{HoldsLess, held_less}
use Rattle.lock_free.proofs.HeldLeads.{alike_slots, held_leads, left_before, left_standing}
use Rattle.lock_free.proofs.HeldStill.{retired_set}
use Rattle.lock_free.proofs.Idle.{empty_has}
use Rattle.lock_free.proofs.OneStep.Found.{live_used, used_made}
use Rattle.lock_free.proofs.Lettings.{given_up_leaves, giving_up_lets}
use Rattle.lock_free.proofs.OneStep.Giving.{none_of_them}
use Rattle.lock_free.proofs.OneStep.Holders.{holders_used}
use Rattle.lock_free.proofs.Led.{early_led, led_here, led_own, led_pinned, named_known, led_lives}
use Rattle.lock_free.proofs.Moments.{free_inside}
use Rattle.lock_free.proofs.OwedStay.{owed_changing}
use Rattle.lock_free.proofs.LinesStay.{lines_private}
use Rattle.lock_free.proofs.HeldFrom.{live_from}
use Rattle.lock_free.proofs.LetGoSince.{let_go_then}
use Rattle.lock_free.specs.Reached.{IsHeldFrom, at_first, by_node}
use Rattle.proof_claims.proofs.OnPrivates.{on_privates}

given_by : (r : Ref) (rs : List Ref) (k : ℕ) (first : Bool) → (slot_of r == k) ≡ first → (is_one_of rs k ≡ true → (q : Ref) × Contains rs q × (slot_of q ≡ k)) → (first || is_one_of rs k) ≡ true →
    (q : Ref) × Contains (r ∷ rs) q × (slot_of q ≡ k)
given_by r rs k true is rest e = (r, Contains-append_left (r ∷ []) rs r (Contains-push [] r), eqb-true (slot_of r) k is)
given_by r rs k false is rest e = let q = rest e in (q.0, Contains-append_right (r ∷ []) rs q.0 q.1, q.2)

one_given : (rs : List Ref) (k : ℕ) → is_one_of rs k ≡ true → (r : Ref) × Contains rs r × (slot_of r ≡ k)
one_given [] k e = absurd (true≢false (sym e))
one_given (r ∷ rs) k e = given_by r rs k (slot_of r == k) refl (one_given rs k) e

module _ (v : View) (s : Table.State Call View) (kept : IsKept v.sizes s) (id : ℕ) (at : get_elem? s.views id ≡ some v) (o next : Operation) (runs : running v.sizes kept.account v.actor o)
    (taken : Step)
    (fits : FitsKey taken) (its : (a : ℕ) → a ≢ v.actor → IsOfOther a taken)
    (leads : Leads v.sizes kept.account (with_step kept.account taken) v.actor (is_one_of o.private) next) (same_call : next.call ≡ o.call) (same_opens : next.opens ≡ o.opens)
    (none : next.private ≡ [])
    (gives_up : held_now v.sizes (with_step kept.account taken) ≡ held_after (given_up o.private) (held_now v.sizes kept.account))
    (changes : change_of (state_of v.sizes kept.account) (held_now v.sizes kept.account) taken ≡ given_up o.private) where
  abbrev there : Account
  there = kept.account

  abbrev state : State
  state = state_of v.sizes there

  -- what it has made is nobody's, and what that held is the seat's
  abbrev pub abandoned : View
  abandoned = record v { account = with_step kept.account taken; pool = given_back (state_of v.sizes kept.account) kept.account o.private v.pool; owed = owes_given_up v kept.account o.private }

  -- without what is given to it
  abbrev bare : View
  bare = owing abandoned (owed_beside o.private v.owed)

  private_lives : (q : Ref) → Contains o.private q → IsLive state q
  private_lives q c = from_operation v.actor o q runs tt (Contains-append_right (refs_of_claims (line_claims state o)) o.private q c)

  each : (q : Ref) → Contains o.private q → (slot : Slot) × Stands kept.stands state (slot_of q) slot
  each q c = let used = live_in_use v.sizes there kept.bounds q (private_lives q c) in (used.0, (kept.nodes.live q (private_lives q c), used.1))

  fit : Fits v s kept id at (λ q. Contains o.private q) (given_back state there o.private v.pool)
  fit = all_fit v s kept id at o.private each (private_apart v.sizes there kept.bounds v.actor o runs)

  -- what is free then is the table's
  free_then : (b n : ℕ) → b < 3 → Contains (pool_of v.pool b) n ⊎ WasOf v s kept id at (λ q. Contains o.private q) b n → 2 * n + words_in b ≤ words_of v.sizes
  free_then b n low (inl old) = free_inside v s kept id at b n (low, old)
  free_then b n low (inr w) =
      subst (λ c. 2 * n + words_in c ≤ words_of v.sizes) w.class (subst (λ x. 2 * x + words_in (class_of w.slot.node) ≤ words_of v.sizes) w.place
      (node_end v.sizes w.slot.node (place_of there w.node) (kept.nodes.inside (slot_of w.node) w.slot w.stood.1)))

  abbrev GivenUp : ℕ → ℕ → Type 0
  GivenUp b n = IsGivenUp v.sizes s kept id v at o next runs taken fits its (is_one_of o.private) leads same_call same_opens b n

  was_given : (b n : ℕ) → Contains (pool_of v.pool b) n ⊎ WasOf v s kept id at (λ q. Contains o.private q) b n → Contains (pool_of v.pool b) n ⊎ GivenUp b n
  was_given b n (inl old) = inl old
  was_given b n (inr w) = inr (record { number = slot_of w.node; is = one_of o.private w.node w.one; slot = w.slot; stands = w.stood; class = w.class; place = w.place })

  -- ---- references

  privates : All (IsInUse state.heap) o.private
  privates = let (k, its_place, at_k) = place_of_actor state v.actor o runs in (safe_along (bounds_for v.sizes there.steps) kept.bounds there.steps).privates k o at_k

  used_here : (k : Ref) → IsHere v.sizes there kept.stands k → is_one_of o.private (slot_of k) ≡ true → Contains o.private k
  used_here k here e = by (is_in o.private k) refl
    where
      by : (b : Bool) → is_in o.private k ≡ b → Contains o.private k
      by true is = among o.private k is
      by false is =
          absurd (true≢false (sym e ∙ none_of_them state.heap o.private privates k here.0 (λ c. true≢false (sym (found_in o.private k c) ∙ is))))

  low : (k : ℕ) → is_one_of o.private k ≡ true → k < length there.names
  low k e =
      let (r, c, is) = one_given o.private k e in
      let under = used_made v.sizes there kept.bounds r (live_used v.sizes there kept.bounds r (private_lives r c)) in
      let all = kept.counted in
      omega (arith, under, is, all)

  owed_given : (k : Ref) → Contains (owed_beside o.private v.owed) k → is_one_of o.private (slot_of k) ≡ false
  owed_given k c =
      let (had, apart) = beside_has o.private v.owed k c in
      none_of_them state.heap o.private privates k (kept.held.owed id v at k had).0 (λ its. true≢false (sym (found_in o.private k its) ∙ apart))

  less : HoldsLess kept.stands (left_standing kept.stands (is_one_of o.private)) (IsLive state) (held_now v.sizes there) (held_now v.sizes (with_step there taken))
  less =
      let stands_then = left_standing kept.stands (is_one_of o.private) in
      let fewer = left_before kept.stands (is_one_of o.private) in
      subst (HoldsLess kept.stands stands_then (IsLive state) (held_now v.sizes there)) (sym gives_up)
      (held_less kept.stands stands_then fewer (IsLive state) (held_now v.sizes there) (given_up o.private) (giving_up_lets kept.stands stands_then fewer (IsLive state) o.private))

  -- what is given up holds nothing then
  none_held : (j k : Ref) → Has (held_now v.sizes (with_step there taken)) (OfNode j) k → kept.stands (slot_of j) ≡ true → is_one_of o.private (slot_of j) ≡ false
  none_held j k has stood =
      let (had, kept_its) = given_up_leaves o.private (held_now v.sizes there) j k (subst (λ h. Has h (OfNode j) k) gives_up has) in
      none_of_them state.heap o.private privates j (holders_used (bounds_for v.sizes there.steps) kept.bounds there.steps kept.quiet j k had)
      (λ c. true≢false (sym (found_in o.private j c) ∙ kept_its))

  -- and none holds it
  none_named : (j k : Ref) → Has (held_now v.sizes (with_step there taken)) (OfNode j) k → is_one_of o.private (slot_of k) ≡ false
  none_named j k has =
      let (had, kept_its) = given_up_leaves o.private (held_now v.sizes there) j k (subst (λ h. Has h (OfNode j) k) gives_up has) in
      let (n, its_place, at_n) = place_of_actor state v.actor o runs in
      none_of_them state.heap o.private privates k (kept.held.used (record { by = OfNode j; on = k }) had)
      (λ c. true≢false (sym (found_in o.private j (on_privates (bounds_for v.sizes there.steps) kept.bounds there.steps kept.keys n o at_n j k c had)) ∙ kept_its))

  -- what is let go of by this step is private
  let_go_before : (k : Ref) → HasBeenLetGo v.sizes (with_step kept.account taken) k → is_one_of o.private (slot_of k) ≡ false → HasBeenLetGo v.sizes kept.account k
  let_go_before k gone none_of = elim (let_go_then v.sizes s kept taken (with_step kept.account taken) refl k gone) [
    | inl was ↦ was
    | inr now ↦ absurd (by (is_in o.private k) refl (sym (ap (λ (c : Change). is_kept (c.fate (record { by = OfNode k; on = k }))) changes) ∙ now.lets k))
  ]
    where
      by : (b : Bool) → is_in o.private k ≡ b → is_kept (fate_given_up o.private (record { by = OfNode k; on = k })) ≡ false → ⊥
      by true is lets = true≢false (sym (one_of o.private k (among o.private k is)) ∙ none_of)
      by false is lets = true≢false (sym (ap (λ b. is_kept (if b then (if is_in o.private k then Ends else Given) else Stays (OfNode k))) is) ∙ lets)

  stood_so : (k : Ref) → left_standing kept.stands (is_one_of o.private) (slot_of k) ≡ true → is_one_of o.private (slot_of k) ≡ false
  stood_so k stood = by (is_one_of o.private (slot_of k)) refl
    where
      by : (b : Bool) → is_one_of o.private (slot_of k) ≡ b → is_one_of o.private (slot_of k) ≡ false
      by true is = absurd (true≢false (sym stood ∙ ap (λ b. if b then false else kept.stands (slot_of k)) is))
      by false is = is

  abbrev after : Account
  after = with_step there taken

  abbrev stands_then : Standing
  stands_then = left_standing kept.stands (is_one_of o.private)

  held_bare : AreHeld v.sizes after stands_then s.words (set s.views id bare)
  held_bare =
      held_leads v.sizes s kept id v at o next runs taken (is_one_of o.private) leads used_here low (λ k c. absurd (empty_has k (subst (λ ks. Contains ks k) none c))) less none_held none_named
      (λ k gone stood. inl (let_go_before k gone (stood_so k stood))) bare refl refl
      (beside_fewer o.private v.owed) owed_given
      ((lines_private v.sizes s kept id v at (with_step there taken) bare leads.others leads.bounds next leads.own none).own next leads.own)

  -- ---- what is given to the seat

  abbrev gifts : List Ref
  gifts = gives (given_up o.private) (held_now v.sizes there).claims

  gift_named : (k : Ref) → Contains gifts k → GiftOf v.sizes there o k
  gift_named = given_of v.sizes there kept.bounds kept.keys v.actor o runs

  gift_known : (k : Ref) → Contains gifts k → IsKnown state (λ n. n ≡ o.id) k
  gift_known k c =
      let g = gift_named k c in
      let used = live_used v.sizes there kept.bounds g.maker (private_lives g.maker g.its) in
      named_known v.sizes there kept.bounds (λ n. n ≡ o.id) g.maker k
      (from_operation v.actor o g.maker runs refl (Contains-append_right (refs_of_claims (line_claims state o)) o.private g.maker g.its)) used g.names

  gift_here : (k : Ref) → Contains gifts k → IsHere v.sizes after stands_then k
  gift_here k c =
      let here = led_here v s kept id at o runs k (gift_known k c) in
      let others = none_of_them state.heap o.private privates k here.0 (λ mine. true≢false (sym (found_in o.private k mine) ∙ (gift_named k c).apart)) in
      ((alike_slots state (state_of v.sizes after) leads.nodes).stays k here.0, ap (λ b. if b then false else kept.stands (slot_of k)) others ∙ here.1)

  gift_own : (k : Ref) → Contains gifts k → (a : ℕ) (p : Operation) → operation_of (state_of v.sizes after) a ≡ Some p → Contains p.private k → a ≡ v.actor
  gift_own k c a p its_runs has = elim (cases_eq a v.actor) [
    | inl same ↦ same
    | inr differs ↦ led_own v s kept id at o runs k (gift_known k c) a p (sym (leads.others a differs) ∙ its_runs) has
  ]

  private_there : (by : Holder) → is_by_nodes o.private by ≡ true → is_there kept.stands by ≡ true
  private_there (OfHandle handle) e = refl
  private_there (OfNode j) e = kept.nodes.live j (private_lives j (among o.private j e))

  given_there : (c : Claim) → fate_given_up o.private c ≡ Given → is_there kept.stands c.by ≡ true
  given_there c e = private_there c.by (by (is_by_nodes o.private c.by) (is_in o.private c.on) e)
    where
      by : (a b : Bool) → (if a then (if b then Ends else Given) else Stays c.by) ≡ Given → a ≡ true
      by true b h = refl
      by false b h = let wrong : ⊥ = cc h in absurd wrong

  counted : (k : Ref) → IsHere v.sizes after stands_then k → claims_there stands_then k (held_now v.sizes after).claims + how_often k gifts + owed_on k (set s.views id bare) + retired_on (slot_of k)
      (set s.views id bare) ≤ references s.words (count_of v.sizes after k)
  counted k here =
      let fewer = left_before kept.stands (is_one_of o.private) in
      let alike = alike_slots state (state_of v.sizes after) leads.nodes in
      let old = kept.held.counted k (alike.used k here.0, fewer (slot_of k) here.1) in
      let lets = giving_up_lets kept.stands stands_then fewer (IsLive state) o.private in
      let all = there_balance k kept.stands stands_then (given_up o.private) lets.stays given_there (held_now v.sizes there).claims in
      let now = ap (λ (h : Held). claims_there stands_then k h.claims) gives_up in
      let beside = beside_fewer o.private v.owed k in
      let seats = owed_set k s.views id v at bare in
      let slots = retired_set (slot_of k) s.views id v at bare in
      let count = ap (references s.words) (ap (λ c. count_word v.sizes c (place_of there k)) (alike.classes k here.0)) in
      omega (arith, old, all, now, beside, seats, slots, count)

  let_go : (k : Ref) → HasBeenLetGo v.sizes after k → IsHere v.sizes after stands_then k →
      claims_there stands_then k (held_now v.sizes after).claims + how_often k gifts + owed_on k (set s.views id bare) + 1 ≤ references s.words (count_of v.sizes after k)
  let_go k gone here =
      let fewer = left_before kept.stands (is_one_of o.private) in
      let alike = alike_slots state (state_of v.sizes after) leads.nodes in
      let old = kept.held.unlet k (let_go_before k gone (stood_so k here.1)) (alike.used k here.0, fewer (slot_of k) here.1) in
      let lets = giving_up_lets kept.stands stands_then fewer (IsLive state) o.private in
      let all = there_balance k kept.stands stands_then (given_up o.private) lets.stays given_there (held_now v.sizes there).claims in
      let now = ap (λ (h : Held). claims_there stands_then k h.claims) gives_up in
      let beside = beside_fewer o.private v.owed k in
      let seats = owed_set k s.views id v at bare in
      let count = ap (references s.words) (ap (λ c. count_word v.sizes c (place_of there k)) (alike.classes k here.0)) in
      omega (arith, old, all, now, beside, seats, count)

  gift_below : (k : Ref) → IsHeldFrom v.sizes after (Contains gifts) k → stands_then (slot_of k) ≡ true
  gift_below k from = by k from (kept.nodes.live k (live_from v.sizes s kept after (alike_slots state (state_of v.sizes after) leads.nodes).names (Contains gifts)
      (λ r c. led_lives v s kept id at o runs r (gift_known r c)) k from))
    where
      by : (r : Ref) → IsHeldFrom v.sizes after (Contains gifts) r → kept.stands (slot_of r) ≡ true → stands_then (slot_of r) ≡ true
      by r (at_first k c) stood = (gift_here r c).1
      by r (by_node j k rest holds) stood = ap (λ b. if b then false else kept.stands (slot_of r)) (none_named j r holds.0) ∙ stood

  held : AreHeld v.sizes after stands_then s.words (set s.views id abandoned)
  held = held_gives v.sizes after stands_then s.words s.views id v at bare gifts held_bare gift_here gift_own counted let_go gift_below

  -- what the seat holds then it held, or its operation led there
  pub had_or_given : (k : Ref) → Contains (owes_given_up v kept.account o.private) k → Contains v.owed k ⊎ IsKnown (state_of v.sizes kept.account) (λ n. n ≡ o.id) k
  had_or_given k c = elim (Contains-append_cases gifts (owed_beside o.private v.owed) k c) [ inl new ↦ inr (gift_known k new) | inr old ↦ inl (beside_has o.private v.owed k old).0 ]

  pub owed_abandoned : AreRetired v.sizes s.words s.views → AreOwed s.views → AreOwed (set s.views id abandoned)
  owed_abandoned retired owed =
      owed_changing s.views id v at abandoned (IsKnown state (λ n. n ≡ o.id)) (λ x. ⊥) had_or_given refl (λ k known. led_pinned v s kept id at o runs) (λ x c. inl c)
      (λ j u e y c k known same p pinned. early_led v s kept id at o runs k known retired j u e y c same p pinned) (λ x never. absurd never) owed

  pub abandon_kept : IsKept v.sizes (record { words = s.words; homes = s.homes; views = set s.views id abandoned })
  abandon_kept =
      drop_kept v.sizes s kept id v at o next runs taken fits its (is_one_of o.private) leads same_call same_opens (given_back state there o.private v.pool) fit.once fit.more
      (λ b n low c. was_given b n (fit.which b n low c)) (parted_back state there o.private v.pool) (owes_given_up v there o.private) held

  pub abandon_sound : IsSound (words_of v.sizes) abandoned
  abandon_sound = record {
    size = refl;
    range = kept.range.within;
    bounds = leads.bounds;
    keys = All-append FitsKey kept.account.steps (taken ∷ []) kept.keys (All-cons FitsKey taken [] fits (All-nil FitsKey));
    counted = kept.counted ∙ sym leads.births;
    inside = λ k slot e. kept.nodes.inside k slot (sym (leads.nodes k) ∙ e);
    free = λ b n f. free_then b n f.0 (fit.which b n f.0 f.1);
  }
