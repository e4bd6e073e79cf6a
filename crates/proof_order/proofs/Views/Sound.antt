-- No two writable handles have one generation, and none a closed one; what a swap opens.
use Rattle.std.proofs.Common.{◌≡◌, ◌≢◌, ℕ, zero, suc, ◌<◌, ◌≤◌, [], ◌∷◌, ◌++◌, replicate, Option, Some, None, refl, sym, ap, ◌∙◌, subst, arith}
use native.Mathlib.Decide.{ℕ_discrete}
use Rattle.std.proofs.lemmas.Option.{none-some, same_Some, some_pair_parts}
use Rattle.proof_order.specs.Vocabulary.{KeyMap, Access, Writable, ReadOnly, Call, Ref, generation_at, Root, Descriptor, Bounds, State, first_state, root_at, handle_limit, opened_root, IsRun}
use Rattle.proof_order.specs.Vocabulary.{closed_at, first_record}
use Rattle.proof_order.specs.Beneath.machine_model.proofs.Found.{none_found, found_elsewhere}
use Rattle.proof_order.specs.Facts.{standing_of, standing, On, IsFresh, Facts, Opens, clears, snapshots, freezes}
use Rattle.proof_order.proofs.Offers.Carried.{Carried}
use Rattle.proof_order.proofs.Views.Changes.{first_root, roots_swapped}
use Rattle.proof_order.proofs.Views.Handles.{opens_in_range}
use Rattle.proof_order.proofs.Views.Standing.{here_none, here_some, there_some, else_none, else_some}
use Rattle.proof_order.proofs.Views.Steps.{Kind, plain, updates, answers, closes, swaps, kind_at}
use Rattle.proof_generations.proofs.Offers.Swaps.{closed_in, closed_other}
use Rattle.proof_generations.proofs.Roots.Rooted.{standing_root}

-- the standing at first: handle 0 alone is open
pub first_standing : (limits : Bounds) (handle : ℕ) (access : Access) (generation : ℕ) → standing (first_state limits) handle ≡ Some (access, generation) → handle ≡ 0
unfolding first_state
first_standing limits zero access generation e = refl
first_standing limits (suc n) access generation e =
    let (root, is, kind, same) = standing_root (first_state limits) (suc n) access generation e in
    absurd (none_found handle_limit (suc n) root (sym (found_elsewhere (replicate handle_limit None) 0 (suc n) first_root (λ same. omega (arith, same))) ∙ is))

nothing_closed : (limits : Bounds) (generation : ℕ) → closed_at (first_record limits) generation ≡ None
nothing_closed limits generation = refl

module _ {limits : Bounds} {states : ℕ → State} {last : ℕ} (r : IsRun limits states last) (V : ℕ → ℕ → KeyMap) (facts : Facts limits states r.records last V) where
  -- ---- what a swap makes of the handles

  module _ (t handle : ℕ) (lt : t < last) (offer : Descriptor) (swap : Carried states r.records last V t handle offer)
      (roots : (states (suc t)).roots ≡ roots_swapped (states t) handle offer offer.opens) (heap : (states (suc t)).heap ≡ (states t).heap) where
    root_there : (root : Root) × (root_at (states t) handle ≡ Some root) × (root.access ≡ Writable)
    root_there = let (root, is, access, generation) = standing_root (states t) handle Writable _ swap.stands in (root, is, access)

    -- the new root's generation stands on its handle
    pub stands_here : (opens : Option ℕ) → offer.opens ≡ opens → ((n : ℕ) → opens ≡ Some n → root_at (states t) n ≡ None) → On states (suc t) handle (generation_at (states t).heap offer.successor)
    stands_here None e free =
        let (root, is, writable) = root_there in
        here_none (states t) (states (suc t)) handle offer root is writable (roots ∙ ap (roots_swapped (states t) handle offer) e) heap
    stands_here (Some n) e free =
        let (root, is, writable) = root_there in
        here_some (states t) (states (suc t)) handle offer root is writable n (free n refl) (roots ∙ ap (roots_swapped (states t) handle offer) e) heap

    -- the handle that is opened
    pub stands_there : (n : ℕ) → offer.opens ≡ Some n → standing (states (suc t)) n ≡ standing_of (states t).heap (Some (opened_root offer offer.second))
    stands_there n e =
        let (root, is, writable) = root_there in
        there_some (states t) (states (suc t)) handle offer root is writable n
        (opens_in_range r t (omega arith) swap.k swap.offerer swap.runs n (swap.number ∙ e))
        (roots ∙ ap (roots_swapped (states t) handle offer) e) heap

    -- any other handle
    pub stands_else : (opens : Option ℕ) (other : ℕ) → offer.opens ≡ opens → (other ≡ handle → ⊥) → ((n : ℕ) → opens ≡ Some n → other ≡ n → ⊥) →
        standing (states (suc t)) other ≡ standing (states t) other
    stands_else None other e apart away =
        let (root, is, writable) = root_there in
        else_none (states t) (states (suc t)) handle offer root is writable other apart (roots ∙ ap (roots_swapped (states t) handle offer) e) heap
    stands_else (Some n) other e apart away =
        let (root, is, writable) = root_there in
        else_some (states t) (states (suc t)) handle offer root is writable n other apart (away n refl) (roots ∙ ap (roots_swapped (states t) handle offer) e) heap

    -- a handle that is opened isn't the one of the swap
    pub opened_apart : (n : ℕ) → root_at (states t) n ≡ None → n ≡ handle → ⊥
    opened_apart n free same = let (root, is, writable) = root_there in none-some root (sym free ∙ ap (root_at (states t)) same ∙ is)

    -- a writable handle behind the swap
    data WasOn (other generation : ℕ) : Type 0 where
      its_own : other ≡ handle → generation ≡ generation_at (states t).heap offer.successor → WasOn other generation
      opened : (second : Ref) → offer.opens ≡ Some other → generation ≡ generation_at (states t).heap second → IsFresh (states t) (r.records t) (generation_at (states t).heap second) →
          generation_at (states t).heap second ≢ generation_at (states t).heap offer.successor → WasOn other generation
      before : (other ≡ handle → ⊥) → On states t other generation → WasOn other generation

    own_generation : (other generation : ℕ) → other ≡ handle → On states (suc t) handle (generation_at (states t).heap offer.successor) → On states (suc t) other generation → WasOn other generation
    own_generation other generation same here on =
        its_own same (some_pair_parts Writable Writable _ _ (sym on ∙ ap (standing (states (suc t))) same ∙ here)).1

    was_on : (call : Call) → Opens states r.records last V t handle (generation_at (states t).heap offer.root) offer call → (other generation : ℕ) → On states (suc t) other generation →
        Dec (other ≡ handle) → WasOn other generation
    was_on call (clears e empty) other generation on (yes same) =
        own_generation other generation same (stands_here None e (λ n is. absurd (none-some n is))) on
    was_on call (clears e empty) other generation on (no apart) =
        before apart (sym (stands_else None other e apart (λ n is. absurd (none-some n is))) ∙ on)
    was_on call (snapshots n second e s fresh differ first copy) other generation on (yes same) =
        own_generation other generation same (stands_here (Some n) e (λ m is. subst (λ x. root_at (states t) x ≡ None) (same_Some n m is) (swap.free n e))) on
    was_on call (snapshots n second e s fresh differ first copy) other generation on (no apart) = by (ℕ_discrete other n)
      where
        by : Dec (other ≡ n) → WasOn other generation
        by (yes same) =
            let there : standing (states (suc t)) other ≡ Some (Writable, generation_at (states t).heap second) =
            ap (standing (states (suc t))) same ∙ stands_there n e ∙ ap (λ o. standing_of (states t).heap (Some (opened_root offer o))) s in
            opened second (e ∙ ap Some (sym same)) (some_pair_parts Writable Writable _ _ (sym on ∙ there)).1 fresh differ
        by (no away) = before apart (sym (stands_else (Some n) other e apart (λ m is same. away (same ∙ sym (same_Some n m is)))) ∙ on)
    was_on call (freezes n e s first) other generation on (yes same) =
        own_generation other generation same (stands_here (Some n) e (λ m is. subst (λ x. root_at (states t) x ≡ None) (same_Some n m is) (swap.free n e))) on
    was_on call (freezes n e s first) other generation on (no apart) = by (ℕ_discrete other n)
      where
        by : Dec (other ≡ n) → WasOn other generation
        by (yes same) =
            let there : standing (states (suc t)) other ≡ Some (ReadOnly, generation_at (states t).heap offer.root) =
            ap (standing (states (suc t))) same ∙ stands_there n e ∙ ap (λ o. standing_of (states t).heap (Some (opened_root offer o))) s in
            let wrong : Writable ≡ ReadOnly = (some_pair_parts Writable ReadOnly _ _ (sym on ∙ there)).0 in
            cc wrong
        by (no away) = before apart (sym (stands_else (Some n) other e apart (λ m is same. away (same ∙ sym (same_Some n m is)))) ∙ on)

  -- ---- at each time

  pub record Sound (t : ℕ) : Type 0 where
    pub apart : (a b generation : ℕ) → On states t a generation → On states t b generation → a ≡ b
    pub unclosed : (handle generation : ℕ) → On states t handle generation → closed_at (r.records t) generation ≡ None

  -- where each standing stays and nothing is closed
  kept_sound : (t : ℕ) → ((handle generation : ℕ) → On states (suc t) handle generation → On states t handle generation) → (r.records (suc t)).closings ≡ (r.records t).closings →
      Sound t → Sound (suc t)
  kept_sound t back closings sound = record {
    apart = λ a b generation on_a on_b. sound.apart a b generation (back a generation on_a) (back b generation on_b);
    unclosed = λ handle generation on. ap (λ l. closed_in l generation) closings ∙ sound.unclosed handle generation (back handle generation on);
  }

  module _ (t handle : ℕ) (lt : t < last) (offer : Descriptor) (swap : Carried states r.records last V t handle offer)
      (roots : (states (suc t)).roots ≡ roots_swapped (states t) handle offer offer.opens) (heap : (states (suc t)).heap ≡ (states t).heap)
      (closings : (r.records (suc t)).closings ≡ (r.records t).closings ++ record { generation = generation_at (states t).heap offer.root; step = t } ∷ []) (sound : Sound t) where
    not_fresh : (other generation fresh : ℕ) → generation ≡ fresh → IsFresh (states t) (r.records t) fresh → On states t other generation → ⊥
    not_fresh other generation fresh same is on = is.1 other Writable (on ∙ ap (λ g. Some (Writable, g)) same)

    apart_by : (a b generation : ℕ) → WasOn t handle lt offer swap roots heap a generation → WasOn t handle lt offer swap roots heap b generation → a ≡ b
    apart_by a b generation (its_own e g) (its_own f h) = e ∙ sym f
    apart_by a b generation (its_own e g) (opened second o h fresh differ) = absurd (differ (sym h ∙ g))
    apart_by a b generation (its_own e g) (before apart on) = absurd (not_fresh b generation _ g swap.is_fresh on)
    apart_by a b generation (opened second o h fresh differ) (its_own f g) = absurd (differ (sym h ∙ g))
    apart_by a b generation (opened second o h fresh differ) (opened other p k anew apart) = same_Some a b (sym o ∙ p)
    apart_by a b generation (opened second o h fresh differ) (before apart on) = absurd (not_fresh b generation _ h fresh on)
    apart_by a b generation (before apart on) (its_own f g) = absurd (not_fresh a generation _ g swap.is_fresh on)
    apart_by a b generation (before apart on) (opened second o h fresh differ) = absurd (not_fresh a generation _ h fresh on)
    apart_by a b generation (before apart on) (before away there) = sound.apart a b generation on there

    was : (other generation : ℕ) → On states (suc t) other generation → WasOn t handle lt offer swap roots heap other generation
    was other generation on = was_on t handle lt offer swap roots heap swap.offerer.call swap.opens other generation on (ℕ_discrete other handle)

    open_by : (generation : ℕ) → closed_at (r.records t) generation ≡ None → (generation_at (states t).heap offer.root ≡ generation → ⊥) → closed_at (r.records (suc t)) generation ≡ None
    open_by generation none other = ap (λ l. closed_in l generation) closings ∙ closed_other (r.records t).closings _ generation none other

    fresh_open : (generation fresh : ℕ) → generation ≡ fresh → IsFresh (states t) (r.records t) fresh → closed_at (r.records (suc t)) generation ≡ None
    fresh_open generation fresh same is =
        open_by generation (ap (closed_at (r.records t)) same ∙ is.0) (λ old. not_fresh handle (generation_at (states t).heap offer.root) fresh (old ∙ same) is swap.stands)

    unclosed_by : (other generation : ℕ) → WasOn t handle lt offer swap roots heap other generation → closed_at (r.records (suc t)) generation ≡ None
    unclosed_by other generation (its_own e g) = fresh_open generation _ g swap.is_fresh
    unclosed_by other generation (opened second o h fresh differ) = fresh_open generation _ h fresh
    unclosed_by other generation (before apart on) =
        open_by generation (sound.unclosed other generation on) (λ old. apart (sound.apart other handle generation on (subst (λ g. On states t handle g) old swap.stands)))

    swapped_sound : Sound (suc t)
    swapped_sound = record {
      apart = λ a b generation on_a on_b. apart_by a b generation (was a generation on_a) (was b generation on_b);
      unclosed = λ other generation on. unclosed_by other generation (was other generation on);
    }

  sound_by : (t : ℕ) → t < last → Kind limits states r.records last V t → Sound t → Sound (suc t)
  sound_by t lt (plain places closings kept still) sound = kept_sound t (λ handle generation on. sym (kept handle) ∙ on) closings sound
  sound_by t lt (updates entered update places closings kept) sound = kept_sound t (λ handle generation on. sym (kept handle) ∙ on) closings sound
  sound_by t lt (answers k operation answer runs places unplaced agrees replied closings kept still) sound = kept_sound t (λ handle generation on. sym (kept handle) ∙ on) closings sound
  sound_by t lt (closes handle stood places recalls more at gone others closings still) sound = kept_sound t back closings sound
    where
      back_by : (other generation : ℕ) → On states (suc t) other generation → Dec (other ≡ handle) → On states t other generation
      back_by other generation on (yes same) = absurd (none-some (Writable, generation) (sym (ap (standing (states (suc t))) same ∙ gone) ∙ on))
      back_by other generation on (no apart) = sym (others other apart) ∙ on

      back : (other generation : ℕ) → On states (suc t) other generation → On states t other generation
      back other generation on = back_by other generation on (ℕ_discrete other handle)
  sound_by t lt (swaps handle offer swap places closings roots heap still) sound = swapped_sound t handle lt offer swap roots heap closings sound

  first_sound : Sound zero
  first_sound = record {
    apart = λ a b generation on_a on_b. at_first a generation on_a ∙ sym (at_first b generation on_b);
    unclosed = λ handle generation on. ap (λ past. closed_at past generation) r.nothing_recorded ∙ nothing_closed limits generation;
  }
    where
      at_first : (a generation : ℕ) → On states zero a generation → a ≡ 0
      at_first a generation on = first_standing limits a Writable generation (ap (λ state. standing state a) (sym r.first) ∙ on)

  pub sound_at : (t : ℕ) → t ≤ last → Sound t
  sound_at zero le = first_sound
  sound_at (suc t) le = sound_by t le (kind_at r V facts t le) (sound_at t (omega (arith, le)))
