-- A step that commits nothing leaves all main nodes; one that commits a node changes the main node of one indirection alone.
use Rattle.std.proofs.Common.{◌≡◌, ◌≢◌, ℕ, suc, ◌<◌, ◌⊎◌, ◌==◌, Bool, true, false, Option, Some, None, is_some, option_map, find, inl, inr, refl, sym, ◌∙◌, ap, arith}
use Rattle.std.proofs.lemmas.Bool.{cases_eq, true≢false}
use Rattle.std.proofs.lemmas.Option.{none-some}
use Rattle.proof_shape.specs.Vocabulary.{Ref, Slot, node_of, Commit, Bounds, State, grown, node_under, main_before, IsRun, CommitsNode, Protocol, is_made, counting_main}
use Rattle.proof_shape.specs.Beneath.proof_memory.proofs.Heap.Moves.{grown_stays}
use Rattle.proof_shape.specs.Beneath.proof_commits.proofs.Words.Stood.{stands_now, none≢pending}
use Rattle.proof_shape.specs.Beneath.proof_commits.proofs.Known.Sounds.{sound_at}
use Rattle.proof_shape.specs.Beneath.proof_commits.proofs.Course.Finals.{first_commit, commits_at}
use Rattle.proof_shape.specs.Beneath.proof_commits.proofs.Course.Mains.{MainStep, MainStays, MainChanges, main_step}
use Rattle.proof_shape.specs.Beneath.proof_commits.proofs.Words.Along.{protocol}
use Rattle.proof_shape.specs.Beneath.proof_contents.proofs.Values.Runs.{counting_main-stays}
use Rattle.proof_shape.specs.Beneath.proof_memory.specs.Wants.{is_indirection}
use Rattle.proof_shape.specs.Beneath.proof_commits.proofs.Words.OfRuns.{link_kept}
use Rattle.proof_shape.specs.Beneath.proof_commits.proofs.Known.Acts.{known_run}
use Rattle.proof_generations.proofs.Falling.NoRef.{no_main_before}

module _ {limits : Bounds} {states : ℕ → State} {last : ℕ} (run : IsRun limits states last) where
  abbrev p : Protocol
  p = protocol limits states last (known_run run)

  -- what was made stays what it is
  link_next : (t : ℕ) → t < last → (i : Ref) → is_made states t i ≡ true → is_indirection (node_under states (suc t) i) ≡ is_indirection (node_under states t i)
  link_next t h i made = by_slot (grown states t i) refl made
    where
      by_slot : (o : Option Slot) → grown states t i ≡ o → is_some o ≡ true → is_indirection (node_under states (suc t) i) ≡ is_indirection (node_under states t i)
      by_slot None e made = absurd (true≢false (sym made))
      by_slot (Some slot) e made =
          let (later, now, same) = grown_stays run t (suc t) (omega arith) h i slot e in
          ap (λ o. is_indirection (node_of o)) now ∙ ap is_indirection same.0.1 ∙ link_kept same.0.0 slot.node ∙ sym (ap (λ o. is_indirection (node_of o)) e)

  -- the main node of any reference, by that of indirections
  pub mains_by : (t : ℕ) → t < last → (i : Ref) → (is_indirection (node_under states t i) ≡ true → main_before states (suc t) i ≡ main_before states t i) →
      counting_main states last (suc t) i ≡ counting_main states last t i
  mains_by t h i links = counting_main-stays states last t i h (λ made. by_test made (is_indirection (node_under states t i)) refl)
    where
      by_test : is_made states t i ≡ true → (b : Bool) → is_indirection (node_under states t i) ≡ b → main_before states (suc t) i ≡ main_before states t i
      by_test made true e = links e
      by_test made false e = no_main_before run (suc t) h i (link_next t h i made ∙ e) ∙ sym (no_main_before run t (omega arith) i e)

  -- ---- a step that commits nothing

  quiet_step : (t : ℕ) → t < last → (run.records (suc t)).commits ≡ (run.records t).commits → (i : Ref) → MainStep p.words t i → main_before states (suc t) i ≡ main_before states t i
  quiet_step t h quiet i (MainStays e) = e
  quiet_step t h quiet i (MainChanges c) =
      let before : p.words.commit t c.fresh ≡ None = first_commit p t (omega arith) (commits_at p t (omega arith)) c.fresh c.replaced c.commits in
      let after : p.words.commit (suc t) c.fresh ≡ Some t = c.commits.commit before in
      absurd (none-some t (sym before ∙ sym (ap (λ xs. option_map (λ (x : Commit). x.step) (find (λ (x : Commit). x.main == c.fresh) xs)) quiet) ∙ after))

  pub quiet_stays : (t : ℕ) → t < last → (run.records (suc t)).commits ≡ (run.records t).commits → (i : Ref) → counting_main states last (suc t) i ≡ counting_main states last t i
  quiet_stays t h quiet i = mains_by t h i (λ link. quiet_step t h quiet i (main_step p t h i link))

  -- ---- a commit

  -- two nodes aren't committed in one step
  same_commit : (t : ℕ) (x q y r : Ref) → CommitsNode p.words t x q → CommitsNode p.words t y r → (y ≡ x) ⊎ (y ≡ x → ⊥) → y ≡ x
  same_commit t x q y r c d (inl same) = same
  same_commit t x q y r c d (inr apart) = absurd (none≢pending d.prev.here (c.prev.elsewhere y apart ∙ d.was))

  one_step : (t : ℕ) → t < last → (link x q j : Ref) → CommitsNode p.words t x q → p.words.link t link ≡ true → p.words.main t link ≡ x → (j ≡ link → ⊥) → p.words.link t j ≡ true →
      MainStep p.words t j → main_before states (suc t) j ≡ main_before states t j
  one_step t h link x q j c is_indirection stands apart l (MainStays e) = e
  one_step t h link x q j c is_indirection stands apart l (MainChanges d) =
      let same : d.fresh ≡ x = same_commit t x q d.fresh d.replaced c d.commits (cases_eq d.fresh x) in
      absurd (apart ((sound_at p t (omega arith)).words.one_word x j link (λ none. none≢pending none c.was) (stands_now l (d.stands ∙ same)) (stands_now is_indirection stands)))

  pub others_stay : (t : ℕ) → t < last → (link x q : Ref) → CommitsNode p.words t x q → p.words.link t link ≡ true → p.words.main t link ≡ x → (j : Ref) → j ≢ link →
      counting_main states last (suc t) j ≡ counting_main states last t j
  others_stay t h link x q c is_indirection stands j apart = mains_by t h j (λ l. one_step t h link x q j c is_indirection stands apart l (main_step p t h j l))
