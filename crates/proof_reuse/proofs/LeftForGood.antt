-- The node that an operation has made for an indirection or for its SWAP is its alone, and once it is done with it nobody's ever after.
use Rattle.std.proofs.Common.{◌≡◌, ◌⊎◌, ◌≤◌, ◌++◌, inl, inr, ℕ, suc, true, false, List, refl, sym, ap, subst, ◌∙◌, is_some, arith}
use Rattle.std.proofs.lemmas.Bool.{cases_eq, true≢false}
use Rattle.proof_reuse.specs.Beneath.slot_arena.specs.declared.refs.Ref.{Ref}
use Rattle.proof_reuse.specs.Beneath.machine_model.specs.Grown.{standing}
use Rattle.proof_reuse.specs.Beneath.machine_model.specs.Machine.{AreBounds, run}
use Rattle.proof_reuse.specs.Beneath.machine_model.specs.States.{State}
use Rattle.proof_reuse.specs.Beneath.machine_model.specs.Times.{states_of, last_of}
use Rattle.proof_reuse.specs.Beneath.machine_model.specs.declared.reading.After.{After}
use Rattle.proof_reuse.specs.Beneath.machine_model.specs.declared.reading.After.TheVariants.{Goes, Gives}
use Rattle.proof_reuse.specs.Beneath.machine_model.specs.declared.reading.ReadLine.{ReadLine}
use Rattle.proof_reuse.specs.Beneath.machine_model.specs.declared.steps.Bounds.{Bounds}
use Rattle.proof_reuse.specs.Beneath.machine_model.specs.declared.steps.Step.{Step}
use Rattle.proof_reuse.specs.Beneath.machine_model.proofs.Grown.{grown_in_use}
use Rattle.proof_reuse.specs.Beneath.machine_model.proofs.Times.{run_is, run_ends}
use Rattle.proof_reuse.specs.Beneath.proof_commits.specs.Protocol.{Words, Stage, Rests, Reads, Builds, Publishes, Decides, Checks, IsAtRest, MayHave}
use Rattle.proof_reuse.specs.Beneath.proof_commits.specs.Protocol.{Moves, Idles, MakesNode, SwapsNode, ReadsOn, DecidesOn, after_read, after_deciding, Turn, Acts, Passes, Protocol}
use Rattle.proof_reuse.specs.Beneath.proof_commits.proofs.Course.Finals.{effect, from_time}
use Rattle.proof_reuse.specs.Beneath.proof_commits.proofs.Known.Owners.{HasFresh}
use Rattle.proof_reuse.specs.Beneath.proof_commits.proofs.Known.Sounds.{sound_at}
use Rattle.proof_reuse.specs.Beneath.proof_commits.proofs.Words.Effects.{made_later}
use Rattle.proof_reuse.specs.Beneath.proof_generations.proofs.Falling.KnownRoots.{protocol_of}
use Rattle.proof_reuse.specs.Beneath.proof_memory.specs.Laws.{IsInUse}
use Rattle.proof_reuse.specs.Laws.{IsFreshIn, IsFreshOf}
use Rattle.proof_reuse.proofs.InLists.{state_then, time_within}

-- ---- one turn

fresh_in : (s : Stage) (f : Ref) → IsFreshIn s f → HasFresh s f
fresh_in Rests f h = h
fresh_in (Reads i l) f h = h
fresh_in (Builds x) f h = h
fresh_in (Publishes i a x) f h = h
fresh_in (Decides i a x l) f h = h
fresh_in (Checks i a x) f h = h

pub rest_fresh : (s : Stage) (f : Ref) → IsAtRest s → IsFreshIn s f → ⊥
rest_fresh Rests f r h = h
rest_fresh (Reads i l) f r h = h
rest_fresh s f r h = r

have_fresh : (w : Words) (t k : ℕ) (n : Ref) (after : Stage) (f : Ref) → MayHave w t k n after → IsFreshIn after f → n ≡ f
have_fresh w t k n Rests f have h = absurd h
have_fresh w t k n (Reads i l) f have h = absurd h
have_fresh w t k n (Builds x) f have h = sym have ∙ h
have_fresh w t k n (Publishes i a x) f have h = sym have.0 ∙ h
have_fresh w t k n (Decides i a x l) f have h = absurd have
have_fresh w t k n (Checks i a x) f have h = absurd have

read_fresh : (i : Ref) (out : After ReadLine Ref) (f : Ref) → IsFreshIn (after_read i out) f → ⊥
read_fresh i (Goes l) f h = h
read_fresh i (Gives m) f h = h

deciding_fresh : (i a x : Ref) (out : After ReadLine Ref) (f : Ref) → IsFreshIn (after_deciding i a x out) f → x ≡ f
deciding_fresh i a x (Goes l) f h = h
deciding_fresh i a x (Gives m) f h = h

-- it was its own before, or is just made
fresh_before : (w : Words) (t k : ℕ) (s after : Stage) → Moves w t k s after → (f : Ref) → IsFreshIn after f → IsFreshIn s f ⊎ (w.made t f ≡ false)
fresh_before w t k s after (Idles e x r) f h = absurd (rest_fresh after f r h)
fresh_before w t k s after (MakesNode n e x name have) f h = inr (subst (λ y. w.made t y ≡ false) (have_fresh w t k n after f have h) e.was_unmade)
fresh_before w t k s after (SwapsNode l e) f h = inl h
fresh_before w t k s after (ReadsOn {i} {l} {out} r) f h = absurd (read_fresh i out f h)
fresh_before w t k s after (DecidesOn {i} {a} {f = x} {l} {out} r) f h = inl (deciding_fresh i a x out f h)

module _ (p : Protocol) (f : Ref) where
  abbrev w : Words
  w = p.words

  abbrev IsNobodys : ℕ → Type 0
  IsNobodys t = (w.made t f ≡ true) × ((k : ℕ) → IsFreshIn (w.stage t k) f → ⊥)

  one_turn : (t : ℕ) → IsNobodys t → Turn w t → (k : ℕ) → IsFreshIn (w.stage (suc t) k) f → ⊥
  one_turn t (made, none) (Acts a m counts same) k has = elim (cases_eq k a) [
    | inl is ↦ elim (fresh_before w t a (w.stage t a) (w.stage (suc t) a) m f (subst (λ q. IsFreshIn (w.stage (suc t) q) f) is has)) [
      | inl was ↦ none a was
      | inr new ↦ true≢false (sym made ∙ new)
    ]
    | inr apart ↦ none k (subst (λ s. IsFreshIn s f) (same k apart).stage has)
  ]
  one_turn t (made, none) (Passes leaves same) k has = none k (subst (λ s. IsFreshIn s f) (same k).stage has)

  never_again : (t u : ℕ) → t ≤ u → u ≤ p.last → IsNobodys t → IsNobodys u
  never_again t u le within h = from_time IsNobodys t p.last h (λ v low lt now. (made_later w v (effect p v lt) f now.0, one_turn v now (p.turn v lt))) u le within

-- ---- by lists

module _ (limits : Bounds) (ok : AreBounds limits) (steps : List Step) where
  abbrev at_end : Protocol
  at_end = protocol_of (run_is limits steps ok)

  there : (a : ℕ) (f : Ref) → IsFreshOf (run limits steps) a f → HasFresh (at_end.words.stage (last_of limits steps) a) f
  there a f h = fresh_in (at_end.words.stage (last_of limits steps) a) f (subst (λ (s : State). IsFreshOf s a f) (sym (run_ends limits steps)) h)

  pub fresh_is_ones : (j k : ℕ) (f : Ref) → IsFreshOf (run limits steps) j f → IsFreshOf (run limits steps) k f → j ≡ k
  fresh_is_ones j k f mine other = elim (cases_eq j k) [
    | inl same ↦ same
    | inr differs ↦ absurd ((sound_at at_end (last_of limits steps) (omega arith)).apart j k f differs (there j f mine) (there k f other))
  ]

module _ (limits : Bounds) (ok : AreBounds limits) (before since : List Step) (f : Ref) (used : IsInUse (run limits before).heap f)
    (none : (actor : ℕ) → IsFreshOf (run limits before) actor f → ⊥) where
  abbrev all : List Step
  all = before ++ since

  abbrev q : Protocol
  q = protocol_of (run_is limits all ok)

  abbrev t : ℕ
  t = last_of limits before

  state_is : states_of limits all t ≡ run limits before
  state_is = state_then limits all before since refl

  made : q.words.made t f ≡ true
  made = ap is_some (grown_in_use (states_of limits all) t f used.0 (ap (λ (s : State). standing s.heap f) state_is ∙ used.1))

  nobodys : (k : ℕ) → IsFreshIn (q.words.stage t k) f → ⊥
  nobodys k h = none k (subst (λ (s : State). IsFreshOf s k f) state_is h)

  pub left_for_good : (actor : ℕ) → IsFreshOf (run limits (before ++ since)) actor f → ⊥
  left_for_good actor has =
      (never_again q f t (last_of limits all) (time_within limits all before since refl) (omega arith) (made, nobodys)).1 actor
      (subst (λ (s : State). IsFreshOf s actor f) (sym (run_ends limits all)) has)
