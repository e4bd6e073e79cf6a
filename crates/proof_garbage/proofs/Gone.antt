-- A failed main node that stands in an indirection no more doesn't come back.
use Rattle.std.proofs.Common.{◌≡◌, ◌≤◌, ℕ, suc, true, inl, inr, sym, ap, subst, ◌∙◌, arith}
use Rattle.std.proofs.lemmas.Bool.{cases_eq}
use Rattle.proof_garbage.specs.Beneath.slot_arena.specs.declared.refs.Ref.{Ref}
use Rattle.proof_garbage.specs.Beneath.slot_arena.specs.declared.nodes.Prev.TheVariants as prev
use Rattle.proof_garbage.specs.Beneath.machine_model.proofs.Basics.{none≢failed}
use Rattle.proof_garbage.specs.Beneath.proof_commits.specs.Protocol.{Words, Protocol}
use Rattle.proof_garbage.specs.Beneath.proof_commits.proofs.Course.Finals.{from_time, effect}
use Rattle.proof_garbage.specs.Beneath.proof_commits.proofs.Known.Sounds.{sound_at}
use Rattle.proof_garbage.specs.Beneath.proof_commits.proofs.Words.Effects.{Effect, Nothing, Made, SwappedIn, PutBack, Committed, Failed, failed_later, link_later}
use Rattle.proof_garbage.specs.Beneath.proof_commits.proofs.Words.Stood.{AreSound, over_failed, not_both}

module _ (w : Words) (i main former : Ref) where
  -- it has failed, and another one stands there
  record IsGone (t : ℕ) : Type 0 where
    pub link : w.link t i ≡ true
    pub failed : w.prev t main ≡ prev.Failed former
    pub apart : w.main t i ≡ main → ⊥

  other_then : (t : ℕ) → AreSound w t → (e : Effect w t) → IsGone t → w.main (suc t) i ≡ main → ⊥
  other_then t sound (Nothing e) h stands = h.apart (sym (e.main i) ∙ stands)
  other_then t sound (Made n e s) h stands = h.apart (sym (e.main i (λ same. not_both (subst (λ x. w.link t x ≡ true) same h.link) e.was_no_link)) ∙ stands)
  other_then t sound (SwappedIn j a f l e private d) h stands = elim (cases_eq i j) [
    | inl same ↦
        let is : f ≡ main = sym e.main.here ∙ ap (w.main (suc t)) (sym same) ∙ stands in none≢failed (subst (λ x. w.prev t x ≡ prev.None) is private.none) h.failed
    | inr apart ↦ h.apart (sym (e.main.elsewhere i apart) ∙ stands)
  ]
  other_then t sound (PutBack j x q l e failed stood) h stands = elim (cases_eq i j) [
    | inl same ↦
        let is : q ≡ main = sym e.main.here ∙ ap (w.main (suc t)) (sym same) ∙ stands in
        none≢failed (subst (λ y. w.prev t y ≡ prev.None) is (sound.over x q (over_failed failed)).none) h.failed
    | inr apart ↦ h.apart (sym (e.main.elsewhere i apart) ∙ stands)
  ]
  other_then t sound (Committed m p e) h stands = h.apart (sym (e.main i) ∙ stands)
  other_then t sound (Failed m p e) h stands = h.apart (sym (e.main i) ∙ stands)

  gone_later : (t : ℕ) → AreSound w t → (e : Effect w t) → IsGone t → IsGone (suc t)
  gone_later t sound e h = record { link = link_later w t e i h.link; failed = failed_later w t e main former h.failed; apart = other_then t sound e h }

pub failed_gone : (p : Protocol) (i main former : Ref) (t u : ℕ) → t ≤ u → u ≤ p.last → p.words.link t i ≡ true → p.words.prev t main ≡ prev.Failed former → (p.words.main t i ≡ main → ⊥) →
    p.words.main u i ≡ main → ⊥
failed_gone p i main former t u h within link failed apart =
    (from_time (IsGone p.words i main former) t p.last (record { link = link; failed = failed; apart = apart })
    (λ v from low gone. gone_later p.words i main former v (sound_at p v (omega arith)).words (effect p v low) gone) u h within).apart
