-- What is known of main words and prev words of the run, and what the steps of a READ write to them.
use Rattle.std.proofs.Common.{◌≡◌, ℕ, suc, ◌<◌, ◌≤◌, ◌⊎◌, inl, inr, true, option_map, is_some, sym, ap, ◌∙◌, subst}
use Rattle.std.proofs.lemmas.Bool.{cases_eq, true≢false}
use Rattle.proof_obstruction_free.specs.Vocabulary.{Ref, Prev, node_of, main_of, prev_of, main_changed, prev_changed, grown, node_under, main_word, prev_word, Words, Protocol, Makes, is_made}
use Rattle.proof_obstruction_free.specs.Beneath.slot_arena.specs.declared.nodes.Prev.TheVariants as prev
use Rattle.proof_obstruction_free.specs.Beneath.proof_commits.proofs.Words.Stood.{none≢pending, over_failed}
use Rattle.proof_obstruction_free.specs.Beneath.proof_commits.proofs.Words.Effects.{Effect, Nothing, Made, SwappedIn, PutBack, Committed, Failed, made_later}
use Rattle.proof_obstruction_free.specs.Beneath.proof_commits.proofs.Known.Owners.{IsSound}
use Rattle.proof_obstruction_free.specs.Beneath.proof_commits.proofs.Known.Sounds.{sound_at}
use Rattle.proof_obstruction_free.specs.Beneath.proof_commits.proofs.Course.Finals.{effect}
use Rattle.proof_obstruction_free.specs.Beneath.proof_commits.proofs.Words.OfRuns.{slot_prev_node, slot_prev, slot_main, slot_main_prev}
use Rattle.proof_obstruction_free.specs.Beneath.proof_commits.proofs.Known.Given.{GrownStays, GrownChanges}
use Rattle.proof_obstruction_free.specs.Beneath.proof_memory.specs.Wants.{is_indirection}
use Rattle.proof_obstruction_free.specs.Beneath.proof_commits.proofs.Words.Along.{protocol}
use Rattle.proof_obstruction_free.specs.Alone.{Lone, Has, Keeps}
use Rattle.proof_obstruction_free.specs.Weighing.{Sees}
use Rattle.proof_obstruction_free.specs.Beneath.proof_commits.proofs.Known.Acts.{known_run}
use Rattle.proof_obstruction_free.specs.Beneath.machine_model.proofs.Basics.{none≢failed}
use Rattle.proof_obstruction_free.specs.Beneath.machine_model.proofs.Slots.{change_kept}
use Rattle.proof_obstruction_free.proofs.Step.Next.{own_run}

module _ (a : Lone) where
  abbrev pub p : Protocol
  p = protocol a.limits a.states a.last (known_run (own_run a))

  abbrev pub w : Words
  w = p.words

  pub sound : (t : ℕ) → t ≤ a.last → IsSound w t
  sound t within = sound_at p t within

  -- what a failed node stands over is decided
  pub over_decided : (t : ℕ) → t ≤ a.last → (m q : Ref) → prev_word a.states t m ≡ prev.Failed q → prev_word a.states t q ≡ prev.None
  over_decided t within m q failed = ((sound t within).words.over m q (over_failed failed)).none

  -- ---- main nodes that stay

  -- the step makes no node pending
  abbrev pub NonePending : ℕ → Type 0
  NonePending t = (m q : Ref) → prev_word a.states t m ≡ prev.None → prev_word a.states (suc t) m ≡ prev.Pending q → ⊥

  keeps_same : (t : ℕ) (i m : Ref) → Has a t i m → is_made a.states (suc t) i ≡ true → main_word a.states (suc t) i ≡ main_word a.states t i →
      prev_word a.states (suc t) m ≡ prev.None → Has a (suc t) i m
  keeps_same t i m has made main decided = record { made = made; main = main ∙ has.main; decided = decided }

  made_apart : (t : ℕ) (n i m : Ref) → Makes w t n → Has a t i m → i ≡ n → ⊥
  made_apart t n i m e has same = true≢false (sym has.made ∙ ap (is_made a.states t) same ∙ e.was_unmade)

  put_apart : (t : ℕ) (i j m x q : Ref) → Has a t i m → main_word a.states t j ≡ x → prev_word a.states t x ≡ prev.Failed q → i ≡ j → ⊥
  put_apart t i j m x q has stood failed same =
      none≢failed has.decided (ap (prev_word a.states t) (sym has.main ∙ ap (main_word a.states t) same ∙ stood) ∙ failed)

  keeps_by : (t : ℕ) → NonePending t → Effect w t → Keeps a t (suc t)
  keeps_by t none (Nothing e) i m has = keeps_same t i m has (e.makes.made i ∙ has.made) (e.main i) (e.prev m ∙ has.decided)
  keeps_by t none (Made n e s) i m has =
      keeps_same t i m has (made_later w t (Made n e s) i has.made) (e.main i (made_apart t n i m e has)) (e.prev m ∙ has.decided)
  keeps_by t none (SwappedIn j x f l e private d) i m has = absurd (none f x private.none e.prev.here)
  keeps_by t none (PutBack j x q l e failed s) i m has =
      keeps_same t i m has (e.makes.made i ∙ has.made) (e.main.elsewhere i (put_apart t i j m x q has e.stood failed)) (e.prev m ∙ has.decided)
  keeps_by t none (Committed x q e) i m has =
      keeps_same t i m has (e.makes.made i ∙ has.made) (e.main i)
      (e.prev.elsewhere m (λ same. none≢pending has.decided (ap (prev_word a.states t) same ∙ e.was)) ∙ has.decided)
  keeps_by t none (Failed x q e) i m has =
      keeps_same t i m has (e.makes.made i ∙ has.made) (e.main i)
      (e.prev.elsewhere m (λ same. none≢pending has.decided (ap (prev_word a.states t) same ∙ e.was)) ∙ has.decided)

  -- a step that makes no node pending leaves decided main nodes where they stand
  pub keeps_unless : (t : ℕ) → t < a.last → NonePending t → Keeps a t (suc t)
  keeps_unless t more none = keeps_by t none (effect p t more)

  -- ---- what is written

  pub still_sees : (t : ℕ) (i m : Ref) (v : Prev) → GrownStays a.states t → Sees a t i m v → Sees a (suc t) i m v
  still_sees t i m v stays s = record {
    made = ap is_some (stays i) ∙ s.made;
    main = ap (λ o. main_of (node_of o)) (stays i) ∙ s.main;
    prev = ap prev_of (stays m) ∙ s.prev;
  }

  pub sees_has : (t : ℕ) (i m : Ref) → Sees a t i m prev.None → Has a t i m
  sees_has t i m s = record { made = s.made; main = s.main; decided = s.prev }

  prev_writes : (t : ℕ) (v : Prev) (m : Ref) → GrownChanges a.states t (prev_changed v) m → (i : Ref) → (i ≡ m) ⊎ (i ≡ m → ⊥) →
      (node_under a.states (suc t) i ≡ node_under a.states t i) × (is_made a.states (suc t) i ≡ is_made a.states t i)
  prev_writes t v m e i (inl same) =
      let here : grown a.states (suc t) i ≡ option_map (prev_changed v) (grown a.states t i) =
      subst (λ r. grown a.states (suc t) r ≡ option_map (prev_changed v) (grown a.states t r)) (sym same) e.here in
      (ap node_of here ∙ slot_prev_node v (grown a.states t i), ap is_some here ∙ change_kept (prev_changed v) (grown a.states t i))
  prev_writes t v m e i (inr other) = (ap node_of (e.elsewhere i other), ap is_some (e.elsewhere i other))

  -- the prev word of the main node is written
  pub sees_written : (t : ℕ) (i m : Ref) (was now : Prev) → is_some (grown a.states t m) ≡ true → GrownChanges a.states t (prev_changed now) m → Sees a t i m was → Sees a (suc t) i m now
  sees_written t i m was now made e s =
      let kept = prev_writes t now m e i (cases_eq i m) in
      record {
        made = kept.1 ∙ s.made;
        main = ap main_of kept.0 ∙ s.main;
        prev = ap prev_of e.here ∙ slot_prev now (grown a.states t m) made;
      }

  main_leaves_prev : (t : ℕ) (i q : Ref) → GrownChanges a.states t (main_changed q) i → (r : Ref) → (r ≡ i) ⊎ (r ≡ i → ⊥) → prev_word a.states (suc t) r ≡ prev_word a.states t r
  main_leaves_prev t i q e r (inl same) =
      ap (prev_word a.states (suc t)) same ∙ ap prev_of e.here ∙ slot_main_prev q (grown a.states t i) ∙ ap (prev_word a.states t) (sym same)
  main_leaves_prev t i q e r (inr other) = ap prev_of (e.elsewhere r other)

  -- the node before a failed one is put back: it is decided
  pub put_back : (t : ℕ) → t ≤ a.last → (i m q : Ref) → is_indirection (node_under a.states t i) ≡ true → GrownChanges a.states t (main_changed q) i → Sees a t i m (prev.Failed q) →
      Sees a (suc t) i q prev.None
  put_back t within i m q link e s = record {
    made = ap is_some e.here ∙ change_kept (main_changed q) (grown a.states t i) ∙ s.made;
    main = ap (λ o. main_of (node_of o)) e.here ∙ slot_main q (grown a.states t i) link;
    prev = main_leaves_prev t i q e q (cases_eq q i) ∙ over_decided t within m q s.prev;
  }

  -- ---- no node becomes pending

  pub stays_none : (t : ℕ) → GrownStays a.states t → NonePending t
  stays_none t stays m q none pending = none≢pending (ap prev_of (stays m) ∙ none) pending

  pub main_none : (t : ℕ) (i x : Ref) → GrownChanges a.states t (main_changed x) i → NonePending t
  main_none t i x e m q none pending = none≢pending (main_leaves_prev t i x e m (cases_eq m i) ∙ none) pending

  prev_none_by : (t : ℕ) (v : Prev) (m : Ref) → is_some (grown a.states t m) ≡ true → ((q : Ref) → v ≡ prev.Pending q → ⊥) → GrownChanges a.states t (prev_changed v) m → (r q : Ref) →
      prev_word a.states t r ≡ prev.None → prev_word a.states (suc t) r ≡ prev.Pending q → (r ≡ m) ⊎ (r ≡ m → ⊥) → ⊥
  prev_none_by t v m made not e r q none pending (inl same) =
      not q (sym (ap prev_of e.here ∙ slot_prev v (grown a.states t m) made) ∙ ap (prev_word a.states (suc t)) (sym same) ∙ pending)
  prev_none_by t v m made not e r q none pending (inr other) = none≢pending (ap prev_of (e.elsewhere r other) ∙ none) pending

  pub prev_none : (t : ℕ) (v : Prev) (m : Ref) → is_some (grown a.states t m) ≡ true → ((q : Ref) → v ≡ prev.Pending q → ⊥) → GrownChanges a.states t (prev_changed v) m → NonePending t
  prev_none t v m made not e r q none pending = prev_none_by t v m made not e r q none pending (cases_eq r m)
