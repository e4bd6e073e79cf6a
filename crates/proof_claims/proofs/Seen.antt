-- Who swapped in a main node that has failed is still deciding it, or about to see that, or has seen it.
use Rattle.std.proofs.Common.{◌≡◌, ◌<◌, ◌≤◌, inl, inr, ℕ, zero, suc, refl, sym, ap, subst, ◌∙◌, arith}
use Rattle.std.proofs.lemmas.Bool.{cases_eq}
use Rattle.proof_claims.specs.Beneath.slot_arena.specs.declared.nodes.Prev.TheVariants as prev
use Rattle.proof_claims.specs.Beneath.slot_arena.specs.declared.refs.Ref.{Ref}
use Rattle.proof_claims.specs.Beneath.machine_model.specs.declared.reading.After.{After}
use Rattle.proof_claims.specs.Beneath.machine_model.specs.declared.reading.After.TheVariants.{Goes, Gives}
use Rattle.proof_claims.specs.Beneath.machine_model.specs.declared.reading.ReadLine.{ReadLine}
use Rattle.proof_claims.specs.Beneath.machine_model.proofs.Basics.{none≢failed}
use Rattle.proof_claims.specs.Beneath.proof_commits.specs.Protocol.{Protocol, Words, Stage, Decides, Checks, IsFree, Turn, Acts, Passes}
use Rattle.proof_claims.specs.Beneath.proof_commits.specs.Protocol.{Moves, Idles, MakesNode, SwapsNode, ReadsOn, DecidesOn, after_deciding}
use Rattle.proof_claims.specs.Beneath.proof_commits.proofs.Course.Finals.{effect, from_time}
use Rattle.proof_claims.specs.Beneath.proof_commits.proofs.Known.Sounds.{sound_at}
use Rattle.proof_claims.specs.Beneath.proof_commits.proofs.Words.Effects.{Becomes, GoesIn, IsCommitted, IsFailed, Same, becomes}
use Rattle.proof_claims.specs.Beneath.proof_commits.proofs.Words.Stood.{pending≢failed}

-- an actor is deciding the node, or about to see how it was decided, or has seen that it failed
pub data IsSeen (w : Words) (t : ℕ) (m : Ref) : Type 0 where
  deciding : (k : ℕ) (i a : Ref) (l : ReadLine) → w.stage t k ≡ Decides i a m l → IsSeen w t m
  checking : (k : ℕ) (i a : Ref) → w.stage t k ≡ Checks i a m → IsSeen w t m
  seen : (u k : ℕ) (i a q : Ref) → u < t → w.stage u k ≡ Checks i a m → w.prev u m ≡ prev.Failed q → IsSeen w t m

module _ (p : Protocol) where
  abbrev w : Words
  w = p.words

  -- who decides it goes on, or comes to see how it was decided
  goes_on : (t k : ℕ) (i a m : Ref) (l : ReadLine) (s after : Stage) → s ≡ Decides i a m l → w.stage (suc t) k ≡ after → Moves w t k s after → IsSeen w (suc t) m
  goes_on t k i a m l s after is then (Idles e free r) = absurd (subst IsFree is free)
  goes_on t k i a m l s after is then (MakesNode n e free name have) = absurd (subst IsFree is free)
  goes_on t k i a m l s after is then (SwapsNode link e) = let bad : ⊥ = cc is in absurd bad
  goes_on t k i a m l s after is then (ReadsOn r) = let bad : ⊥ = cc is in absurd bad
  goes_on t k i a m l s after is then (DecidesOn {i = j} {a = b} {f} {out} r) =
      by out then
    where
      by : (out : After ReadLine Ref) → w.stage (suc t) k ≡ after_deciding j b f out → IsSeen w (suc t) m
      by (Goes next) e = deciding k j b next (e ∙ ap (λ x. Decides j b x next) (cc is))
      by (Gives n) e = checking k j b (e ∙ ap (Checks j b) (cc is))

  decides_on : (t k : ℕ) (i a m : Ref) (l : ReadLine) → w.stage t k ≡ Decides i a m l → Turn w t → IsSeen w (suc t) m
  decides_on t k i a m l is (Passes e same) = deciding k i a l ((same k).stage ∙ is)
  decides_on t k i a m l is (Acts actor moves counts same) = elim (cases_eq k actor) [
    | inl here ↦ goes_on t actor i a m l (w.stage t actor) (w.stage (suc t) actor) (subst (λ j. w.stage t j ≡ Decides i a m l) here is) refl moves
    | inr apart ↦ deciding k i a l ((same k apart).stage ∙ is)
  ]

  checks_on : (t k : ℕ) (i a m q : Ref) → w.stage t k ≡ Checks i a m → w.prev t m ≡ prev.Failed q → Turn w t → IsSeen w (suc t) m
  checks_on t k i a m q is failed (Passes e same) = checking k i a ((same k).stage ∙ is)
  checks_on t k i a m q is failed (Acts actor moves counts same) = seen t k i a q (omega arith) is failed

  seen_on : (t : ℕ) (m q : Ref) → w.prev t m ≡ prev.Failed q → Turn w t → IsSeen w t m → IsSeen w (suc t) m
  seen_on t m q failed turn (deciding k i a l is) = decides_on t k i a m l is turn
  seen_on t m q failed turn (checking k i a is) = checks_on t k i a m q is failed turn
  seen_on t m q failed turn (seen u k i a x before is then) = seen u k i a x (omega (arith, before)) is then

  abbrev AllSeen : ℕ → Type 0
  AllSeen t = (m q : Ref) → w.prev t m ≡ prev.Failed q → IsSeen w t m

  later_seen : (t : ℕ) → t < p.last → AllSeen t → AllSeen (suc t)
  later_seen t h so_far m q e = by (becomes w t (effect p t h) m)
    where
      by : Becomes w t m → IsSeen w (suc t) m
      by (Same keeps) = seen_on t m q (sym keeps ∙ e) (p.turn t h) (so_far m q (sym keeps ∙ e))
      by (GoesIn i a l swaps private d) = absurd (pending≢failed swaps.prev.here e)
      by (IsCommitted x commits) = absurd (none≢failed commits.prev.here e)
      by (IsFailed x fails) =
          let owner = (sound_at p t (omega (arith, h))).owned m x fails.was in
          decides_on t owner.actor owner.link x m owner.line owner.stage (p.turn t h)

  pub failed_seen : (t : ℕ) → t ≤ p.last → AllSeen t
  failed_seen t h = from_time AllSeen zero p.last (λ m q e. absurd (none≢failed (p.first_decided m) e)) (λ v low within so_far. later_seen v within so_far) t (omega arith) h
