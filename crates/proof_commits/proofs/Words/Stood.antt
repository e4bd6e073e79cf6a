-- What once stood in a word, and what is known of a node from that.
use Rattle.std.proofs.Common.{◌≡◌, ℕ, suc, ◌≤◌, ◌⊎◌, Bool, true, false, inl, inr, refl, sym, ◌∙◌, subst, arith}
use Rattle.std.proofs.lemmas.Bool.{true≢false}
use Rattle.proof_commits.specs.Vocabulary.{Ref, Prev}
use Rattle.proof_commits.specs.Beneath.slot_arena.specs.declared.nodes.Prev.TheVariants as over
use Rattle.proof_commits.specs.Protocol.{Words}
use Rattle.proof_commits.specs.Beneath.machine_model.proofs.Basics.{at_or_before}

-- the node stood in this indirection's word, now or before
pub record Stood (w : Words) (t : ℕ) (i m : Ref) : Type 0 where
  pub at : ℕ
  pub past : at ≤ t
  pub link : w.link at i ≡ true
  pub is : w.main at i ≡ m

-- it did, and is decided
pub record Decided (w : Words) (t : ℕ) (i m : Ref) : Type 0 where
  pub stood : Stood w t i m
  pub none : w.prev t m ≡ over.None

-- the node was made, is decided, and stood in no word
pub record Private (w : Words) (t : ℕ) (f : Ref) : Type 0 where
  pub made : w.made t f ≡ true
  pub none : w.prev t f ≡ over.None
  pub apart : (i : Ref) → Stood w t i f → ⊥

-- this is the node over which a pending or a failed one stands
abbrev pub IsOver : Prev → Ref → Type 0
IsOver over.None p = ⊥
IsOver (over.Pending q) p = q ≡ p
IsOver (over.Failed q) p = q ≡ p

-- what is known of a node and the one that it stands over
pub record StandsOver (w : Words) (t : ℕ) (m p : Ref) : Type 0 where
  pub none : w.prev t p ≡ over.None
  pub link : Ref
  pub stood : Stood w t link m
  pub before : Stood w t link p

-- what is known of words: what stood in one was made; a node that isn't decided stood in just one, over a decided one that
-- stood there too
pub record AreSound (w : Words) (t : ℕ) : Type 0 where
  pub made : (i m : Ref) → Stood w t i m → w.made t m ≡ true
  pub link : (i m : Ref) → Stood w t i m → w.link t i ≡ true
  pub one_word : (m i j : Ref) → (w.prev t m ≡ over.None → ⊥) → Stood w t i m → Stood w t j m → i ≡ j
  pub over : (m p : Ref) → IsOver (w.prev t m) p → StandsOver w t m p

pub stood_later : {w : Words} {t : ℕ} {i m : Ref} → Stood w t i m → Stood w (suc t) i m
stood_later s = record { at = s.at; past = omega (arith, s.past); link = s.link; is = s.is }

-- the same at any later time
pub stood_still : {w : Words} {t u : ℕ} {i m : Ref} → t ≤ u → Stood w t i m → Stood w u i m
stood_still h s = record { at = s.at; past = omega (arith, s.past, h); link = s.link; is = s.is }

pub stands_now : {w : Words} {t : ℕ} {i m : Ref} → w.link t i ≡ true → w.main t i ≡ m → Stood w t i m
stands_now {t = t} l e = record { at = t; past = omega arith; link = l; is = e }

-- what stood by the next time stood before, or stands then
stood_by : (w : Words) (t : ℕ) (i m : Ref) (s : Stood w (suc t) i m) → (s.at ≤ t) ⊎ (s.at ≡ suc t) →
    Stood w t i m ⊎ ((w.link (suc t) i ≡ true) × (w.main (suc t) i ≡ m))
stood_by w t i m s (inl h) = inl (record { at = s.at; past = h; link = s.link; is = s.is })
stood_by w t i m s (inr e) = inr (subst (λ u. w.link u i ≡ true) e s.link, subst (λ u. w.main u i ≡ m) e s.is)

pub stood_cases : (w : Words) (t : ℕ) (i m : Ref) → Stood w (suc t) i m →
    Stood w t i m ⊎ ((w.link (suc t) i ≡ true) × (w.main (suc t) i ≡ m))
stood_cases w t i m s = stood_by w t i m s (at_or_before s.at t s.past)

-- ---- prev words

pub none≢pending : {v : Prev} {p : Ref} → v ≡ over.None → v ≡ over.Pending p → ⊥
none≢pending e h = let wrong = sym e ∙ h in cc

pub pending≢failed : {v : Prev} {p q : Ref} → v ≡ over.Pending p → v ≡ over.Failed q → ⊥
pending≢failed e h = let wrong = sym e ∙ h in cc

pub same_pending : {v : Prev} {p q : Ref} → v ≡ over.Pending p → v ≡ over.Pending q → p ≡ q
same_pending {v} {p} {q} e h = let wrong : over.Pending p ≡ over.Pending q = sym e ∙ h in cc

pub over_pending : {v : Prev} {p : Ref} → v ≡ over.Pending p → IsOver v p
over_pending {v} {p} e = subst (λ x. IsOver x p) (sym e) refl

pub over_failed : {v : Prev} {p : Ref} → v ≡ over.Failed p → IsOver v p
over_failed {v} {p} e = subst (λ x. IsOver x p) (sym e) refl

pub over_none : (v : Prev) (p : Ref) → v ≡ over.None → IsOver v p → ⊥
over_none v p e h = subst (λ x. IsOver x p) e h

pub not_both : {b : Bool} → b ≡ true → b ≡ false → ⊥
not_both e h = true≢false (sym e ∙ h)
