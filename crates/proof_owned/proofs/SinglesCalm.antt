-- A single that came into an indirection and was dropped there again: what is said of the indirections to which it must not have come.
use Rattle.std.proofs.Common.{◌≡◌, ℕ, suc, ◌<◌, ◌≤◌, ◌⊎◌, true, length, inl, inr, refl, sym, ap, ◌∙◌, subst, arith}
use Rattle.arrayvec.specs.ArrayVec.{ArrayVec}
use Rattle.proof_shape.specs.Vocabulary.{Branch, Ref, Bounds, State, node_under, IsRun, entries_of, no_ref}
use Rattle.proof_owned.specs.Beneath.proof_commits.specs.Protocol.{Words, Protocol, Builds}
use Rattle.proof_owned.specs.Beneath.proof_commits.proofs.Known.Sounds.{sound_at}
use Rattle.proof_owned.specs.Beneath.proof_commits.proofs.Words.Stood.{Stood, stands_now, stood_still, none≢pending}
use Rattle.proof_owned.specs.Beneath.proof_contents.specs.Runs.{counting_main}
use Rattle.proof_owned.specs.Beneath.proof_generations.proofs.Falling.KnownRoots.{words, protocol_of}
use Rattle.proof_shape.specs.Lines.Knowing.{first_main}
use Rattle.proof_shape.proofs.Held.Fresh.{Names}
use Rattle.proof_owned.proofs.Brought.{IsBrought, builds, private_then}
use Rattle.proof_owned.proofs.CountingSteps.{IsPublished}
use Rattle.proof_owned.proofs.Earlier.{IsLink, IsSingle, either, single_no_link, single_no_none}
use Rattle.proof_owned.proofs.SinglesNew.{IsFirst, IsBuilt, IsBeside, ends, goes_on, entry_in, first_once}
use Rattle.proof_owned.proofs.Theirs.{by_brought}

module _ {limits : Bounds} {states : ℕ → State} {last : ℕ} (run : IsRun limits states last) where
  -- the main node has the entry once
  abbrev pub IsOnce : Ref → Ref → Type 0
  IsOnce m s =
      (p q : ℕ) → p < length (entries_of (node_under states last m)) → q < length (entries_of (node_under states last m)) → entry_in run m p ≡ s → entry_in run m q ≡ s → p ≡ q

  -- A single came into the indirection with this main node, new in it; it was in each one that counted from then on, and the step after this time dropped it there,
  -- with no indirection in its place.
  pub record CameAndWent (i s : Ref) : Type 0 where
    pub link : IsLink run i
    pub single : IsSingle run s
    pub first : Ref
    pub new : IsFirst run first s
    pub brought : IsBrought (words states run.records last) last i first
    pub came : ℕ
    pub until : ℕ
    pub order : came ≤ until
    pub within : suc until ≤ last
    pub linked : Words.link (words states run.records last) came i ≡ true
    pub is : counting_main states last came i ≡ first
    pub since : (v : ℕ) → came ≤ v → v ≤ until → Names run (counting_main states last v i) s
    pub once : (v : ℕ) → came ≤ v → v ≤ until → (bitmap : ℕ) (entries : ArrayVec Ref) → node_under states last (counting_main states last v i) ≡ Branch bitmap entries →
        IsOnce (counting_main states last v i) s
    pub gone : Names run (counting_main states last (suc until) i) s → ⊥
    pub no_link : (c : Ref) → IsLink run c → Names run (counting_main states last (suc until) i) c → Names run (counting_main states last until i) c

  module _ (i s : Ref) (h : CameAndWent i s) where
    abbrev w : Words
    w = words states run.records last

    abbrev p : Protocol
    p = protocol_of run

    -- the main node over which the indirection was made hasn't the single, nor has one below
    pub data Calm : Ref → Type 0 where
      calm : (c : Ref) → ((c ≡ i → ⊥) → Names run (first_main states last c) s → ⊥) → ((d : Ref) → IsLink run d → Names run (first_main states last c) d → Calm d) → Calm c

    pub calm_first : (c : Ref) → Calm c → (c ≡ i → ⊥) → Names run (first_main states last c) s → ⊥
    calm_first c (calm d none below) other names = none other names

    pub calm_below : (c : Ref) → Calm c → (d : Ref) → IsLink run d → Names run (first_main states last c) d → Calm d
    calm_below c (calm e none below) d link names = below d link names

    pub no_link_is : IsLink run s → ⊥
    no_link_is = single_no_link run s h.single

    pub first_no_link : (m y : Ref) → IsFirst run m y → IsLink run y → ⊥
    first_no_link m y x = single_no_link run y x.latest.single

    pub not_no_ref : s ≡ no_ref → ⊥
    not_no_ref = single_no_none run s h.single

    pub is_first : (m : Ref) → IsFirst run m s → m ≡ h.first
    is_first m x = first_once run m h.first s x h.new

    -- ---- the node with which it came stands in no other word

    pub built_elsewhere : (c : Ref) → IsBuilt run c → first_main states last c ≡ h.first → (c ≡ i → ⊥) → ⊥
    built_elsewhere c b same other =
        (by_brought run i h.first h.brought).not_elsewhere b.at b.within c other b.actor (stands_now b.is (b.main ∙ same)) (builds (b.stage ∙ ap Builds same) b.was b.is)

    pub published_elsewhere : (t : ℕ) → t ≤ last → (j a f : Ref) → IsPublished run t j a f → f ≡ h.first → (j ≡ i → ⊥) → ⊥
    published_elsewhere t within j a f x same other = by (either t h.brought.at)
      where
        stood : Stood w t j h.first
        stood = subst (Stood w t j) same x.stood

        by : (t ≤ h.brought.at) ⊎ (h.brought.at < t) → ⊥
        by (inl sooner) = (private_then p h.brought.at h.brought.actor i h.first (omega (arith, h.brought.before)) h.brought.how).apart j (stood_still sooner stood)
        by (inr later) =
            other
            ((sound_at p t within).words.one_word h.first j i (λ none. none≢pending none (ap (w.prev t) (sym same) ∙ x.pending)) stood (stood_still later h.brought.stood))

    -- ---- a new chain beside another single

    over_calm : (q e : Ref) → ((y : Ref) → Names run q y → y ≡ e) → IsBuilt run e → Calm e → (c : Ref) → first_main states last c ≡ q → Calm c
    over_calm q e names built_below rest c is =
        calm c (λ other n. no_link_is (subst (IsLink run) (sym (names s (subst (λ m. Names run m s) is n))) built_below.link))
        (λ d link n. subst Calm (sym (names d (subst (λ m. Names run m d) is n))) rest)

    pub beside_calm : (old q : Ref) → IsBeside run old q → (old ≡ s → ⊥) → (IsLink run old → Calm old) → (c : Ref) → IsBuilt run c → first_main states last c ≡ q → Calm c
    beside_calm old q (ends x names) apart old_calm c built is = calm c none below
      where
        none : (c ≡ i → ⊥) → Names run (first_main states last c) s → ⊥
        none other n = by (names s (subst (λ m. Names run m s) is n))
          where
            by : (s ≡ old) ⊎ IsFirst run x s → ⊥
            by (inl same) = apart (sym same)
            by (inr new) = built_elsewhere c built (is ∙ is_first x new) other

        below : (d : Ref) → IsLink run d → Names run (first_main states last c) d → Calm d
        below d link n = by (names d (subst (λ m. Names run m d) is n))
          where
            by : (d ≡ old) ⊎ IsFirst run x d → Calm d
            by (inl same) = subst Calm (sym same) (old_calm (subst (IsLink run) same link))
            by (inr new) = absurd (first_no_link x d new link)
    beside_calm old q (goes_on x e names built_below beside) apart old_calm c built is =
        over_calm x e names built_below (beside_calm old (first_main states last e) beside apart old_calm e built_below refl) c is
