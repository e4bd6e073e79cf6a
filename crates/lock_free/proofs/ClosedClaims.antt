-- What a close does to claims: the handle's claim on its root is let go, and the seat may hold the root itself then.
use Rattle.std.proofs.Common.{◌≡◌, ◌+◌, ◌<◌, ◌≤◌, ◌==◌, ◌&&◌, ℕ, Bool, true, false, [], ◌∷◌, cond, None, if◌then◌else◌, refl, sym, ap, subst, ◌∙◌, arith, inl, inr}
use Rattle.std.proofs.lemmas.List.Sums.{sum_by-cons}
use Rattle.history.specs.declared.calls.Access.{Access}
use Rattle.history.specs.declared.calls.Call.TheVariants.{Close}
use Rattle.machine_model.specs.Beneath.slot_arena.specs.declared.refs.Ref.{Ref}
use Rattle.machine_model.specs.declared.roots.RootWord.TheVariants.{Plain}
use Rattle.machine_model.specs.declared.steps.Step.TheVariants as step
use Rattle.machine_model.specs.Keys.{KeysFit}
use Rattle.machine_model.specs.Machine.{AreBounds, begin_denial, begun_operation}
use Rattle.machine_model.specs.States.{State, operation_of, root_at, root_of, word_at}
use Rattle.proof_claims.specs.Changes.{change_going, fate_let_go, lets_root_go}
use Rattle.proof_claims.specs.Held.{Change, Claim, Given, Held, Holder, OfHandle, OfNode, gives, held_after, is_by_handle, is_kept}
use Rattle.proof_claims.specs.Left.{once}
use Rattle.proof_claims.proofs.LeftAtClose.{given_by_close}
use Rattle.lock_free.specs.declared.accounts.Account.{Account}
use Rattle.lock_free.specs.declared.sizes.Sizes.{Sizes}
use Rattle.lock_free.specs.Accounts.{bounds_for, state_of}
use Rattle.lock_free.specs.Beginning.{closed_by}
use Rattle.lock_free.specs.Claims.{claims_there, held_now, is_there}
use Rattle.lock_free.specs.Counts.{how_often}
use Rattle.lock_free.specs.Roots.{open_with}
use Rattle.lock_free.proofs.GivenCounted.{fewer_given}
use Rattle.lock_free.proofs.HeldGone.{HoldsLess, IsLetting, less_next, less_still}
use Rattle.lock_free.proofs.Lettings.{beginning_lets, nothing_lets}
use Rattle.lock_free.proofs.OneStep.Beginning as beginning
use Rattle.lock_free.proofs.OneStep.HeldLonger.{held_next, let_go_before}
use Rattle.lock_free.specs.Live.{IsLive}
use Rattle.lock_free.specs.Holdings.{HasBeenLetGo}
use Rattle.std.proofs.lemmas.Bool.{true≢false}

-- only the handle's claim is given
pub handle_gives : (stands : ℕ → Bool) (handle : ℕ) (root : Ref) (c : Claim) → fate_let_go (is_by_handle handle c.by && (c.on == root)) c ≡ Given → is_there stands c.by ≡ true
handle_gives stands handle root c e = by c.by refl
  where
    by : (h : Holder) → c.by ≡ h → is_there stands c.by ≡ true
    by (OfHandle n) is = ap (is_there stands) is
    by (OfNode j) is =
        let kept = sym (ap (λ (h : Holder). fate_let_go (is_by_handle handle h && (c.on == root)) c) is) ∙ e in let wrong : ⊥ = cc kept in absurd wrong

module _ (sizes : Sizes) (account : Account) (bounds : AreBounds (bounds_for sizes account.steps)) (keys : KeysFit account.steps) (actor handle : ℕ) (most : actor ≤ sizes.seats) (low : handle < 256)
    (idle : operation_of (state_of sizes account) actor ≡ None) (allowed : begin_denial (state_of sizes account) actor (Close handle) None ≡ None) (stands : ℕ → Bool) where
  abbrev state : State
  state = state_of sizes account

  abbrev held : Held
  held = held_now sizes account

  abbrev middle : Account
  middle = beginning.middle sizes account bounds actor handle most low idle allowed

  abbrev last : Account
  last = beginning.last sizes account bounds actor handle most low idle allowed

  abbrev let_go : Change
  let_go = lets_root_go handle (root_of (word_at state handle))

  first_less : HoldsLess stands stands (IsLive state) held (held_now sizes middle)
  first_less =
      less_next sizes account bounds stands stands (λ j e. e) (IsLive state) (step.Begin actor (Close handle) None)
      (beginning_lets stands stands (λ j e. e) (IsLive state) state (Close handle)) middle refl

  -- its end changes none
  last_less : HoldsLess stands stands (IsLive state) (held_now sizes middle) (held_now sizes last)
  last_less =
      let now = state_of sizes middle in
      let operation = begun_operation state (Close handle) None in
      less_next sizes middle (beginning.middle_bounds sizes account bounds actor handle most low idle allowed) stands stands (λ j e. e) (IsLive state) (step.Go actor)
      (subst (λ o. IsLetting stands stands (IsLive state) (change_going now (held_now sizes middle) o)) (sym (beginning.runs sizes account bounds actor handle most low idle allowed))
      (nothing_lets stands stands (λ j e. e) (IsLive state))) last refl

  same_steps : closed_by actor handle account ≡ last
  same_steps = beginning.same_steps sizes account bounds actor handle most low idle allowed

  pub close_less : HoldsLess stands stands (IsLive (state_of sizes account)) held (held_now sizes (closed_by actor handle account))
  close_less =
      subst (λ (a : Account). HoldsLess stands stands (IsLive state) held (held_now sizes a)) (sym same_steps)
      (less_still stands stands stands (IsLive state) held (held_now sizes middle) (held_now sizes last) first_less last_less)

  -- neither step lets go of a node's claims
  pub close_let_go : (k : Ref) → HasBeenLetGo sizes (closed_by actor handle account) k → HasBeenLetGo sizes account k
  close_let_go k gone = elim (let_go_before sizes middle.steps (beginning.middle_bounds sizes account bounds actor handle most low idle allowed) (step.Go actor) k
      (subst (λ (a : Account). HasBeenLetGo sizes a k) same_steps gone)) [
        | inl was ↦ elim (let_go_before sizes account.steps bounds (step.Begin actor (Close handle) None) k was) [
          | inl before ↦ before
          | inr now ↦ absurd (true≢false (now.lets k))
        ]
        | inr now ↦
            absurd (true≢false (sym (ap (λ o. is_kept ((change_going (state_of sizes middle) (held_now sizes middle) o).fate (record { by = OfNode k; on = k })))
            (beginning.runs sizes account bounds actor handle most low idle allowed)) ∙ now.lets k))
      ]

  -- the root's claim goes over to the seat
  module _ (access : Access) (root : Ref) (was : root_at state handle ≡ open_with access (Plain root)) where
    middle_is : held_now sizes middle ≡ held_after let_go held
    middle_is =
        held_next sizes account.steps bounds (step.Begin actor (Close handle) None)
        ∙ ap (λ b. if b then held_after let_go held else held) (beginning.close_taken sizes account bounds actor handle most low idle allowed)

    root_given : (k : Ref) → how_often k (gives let_go held.claims) ≡ once (root == k)
    root_given k = given_by_close (bounds_for sizes account.steps) account.steps actor handle None (record { access = access; word = Plain root }) k bounds keys was

    middle_fewer : (k : Ref) → claims_there stands k (held_now sizes middle).claims + once (root == k) ≤ claims_there stands k held.claims
    middle_fewer k =
        let lets = beginning_lets stands stands (λ j e. e) (IsLive state) state (Close handle) in
        let all = fewer_given k stands let_go refl refl lets.stays (handle_gives stands handle (root_of (word_at state handle))) held.claims in
        let its = root_given k in
        let is = ap (λ (h : Held). claims_there stands k h.claims) middle_is in
        omega (arith, all, its, is)

    once_in : (k : Ref) → how_often k (root ∷ []) ≡ once (root == k)
    once_in k = sum_by-cons (λ (x : Ref). cond {A = ℕ} (x == k) 1 0) root [] ∙ by (root == k)
      where
        by : (b : Bool) → cond {A = ℕ} b 1 0 + 0 ≡ once b
        by true = refl
        by false = refl

    pub close_fewer : (k : Ref) → claims_there stands k (held_now sizes (closed_by actor handle account)).claims + how_often k (root ∷ []) ≤ claims_there stands k held.claims
    close_fewer k =
        let first = middle_fewer k in
        let end = last_less.claims k in
        let same = ap (λ (a : Account). claims_there stands k (held_now sizes a).claims) same_steps in
        let one = once_in k in
        omega (arith, first, end, same, one)
