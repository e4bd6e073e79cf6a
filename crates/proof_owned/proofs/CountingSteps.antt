-- What a step makes of the main node that counts for an indirection: it stays, or the fresh node of a SWAP is committed there.
use Rattle.std.proofs.Common.{◌≡◌, ℕ, suc, ◌<◌, ◌≤◌, true, false, Bool, Option, Some, None, is_some, refl, sym, ap, ◌∙◌, subst, arith}
use Rattle.std.proofs.lemmas.Bool.{true≢false}
use Rattle.proof_shape.specs.Vocabulary.{Ref, Slot, Purpose, Operation, Bounds, State, operation_of, node_under, grown, IsRun, ReadLine, node_of}
use Rattle.proof_owned.specs.Beneath.slot_arena.specs.declared.nodes.Prev.TheVariants as prev
use Rattle.proof_owned.specs.Beneath.machine_model.specs.declared.lines.Line.TheVariants as line
use Rattle.proof_owned.specs.Beneath.machine_model.specs.declared.reading.SwapLine.TheVariants as swap
use Rattle.proof_owned.specs.Beneath.proof_memory.specs.Wants.{is_indirection}
use Rattle.proof_owned.specs.Beneath.proof_commits.specs.Protocol.{Words, Protocol, CommitsNode}
use Rattle.proof_owned.specs.Beneath.proof_commits.proofs.Known.Sounds.{sound_at}
use Rattle.proof_owned.specs.Beneath.proof_commits.proofs.Lines.Swap.{runs_deciding}
use Rattle.proof_owned.specs.Beneath.proof_commits.proofs.Words.Stood.{Stood, stands_now, none≢pending}
use Rattle.proof_owned.specs.Beneath.proof_commits.proofs.Course.Mains.{MainStep, MainStays, MainChanges, main_step}
use Rattle.proof_owned.specs.Beneath.proof_contents.specs.Runs.{is_made, counting_main}
use Rattle.proof_owned.specs.Beneath.proof_contents.proofs.Values.Runs.{counting_main-unmade, made_next}
use Rattle.proof_owned.specs.Beneath.proof_generations.proofs.Falling.KnownRoots.{words, protocol_of}
use Rattle.proof_owned.specs.Beneath.proof_generations.proofs.Falling.Nodes.{made_same, same_link}
use Rattle.proof_shape.proofs.Commits.Was.{main_linked}
use Rattle.proof_owned.proofs.Earlier.{IsLink}

module _ {limits : Bounds} {states : ℕ → State} {last : ℕ} (run : IsRun limits states last) where
  abbrev w : Words
  w = words states run.records last

  abbrev p : Protocol
  p = protocol_of run

  -- what is made and an indirection in the end is one
  pub made_link : (t : ℕ) → t ≤ last → (j : Ref) → IsLink run j → is_made states t j ≡ true → Words.link (words states run.records last) t j ≡ true
  made_link t h j link made = by (grown states t j) refl made
    where
      by : (o : Option Slot) → grown states t j ≡ o → is_some o ≡ true → is_indirection (node_of (grown states t j)) ≡ true
      by None e some = absurd (true≢false (sym some))
      by (Some slot) e some =
          let (g, word, is) = link in
          ap (λ o. is_indirection (node_of o)) e ∙ ap is_indirection (same_link slot.node (node_under states last j) (made_same run t h j slot e) g word is).1

  -- a node that stands over the one that counts, by the operation in whose SWAP it is
  pub record IsPublished (t : ℕ) (j a f : Ref) : Type 0 where
    pub pending : Words.prev (words states run.records last) t f ≡ prev.Pending a
    pub made : is_made states t f ≡ true
    pub stood : Stood (words states run.records last) t j f
    pub actor : ℕ
    pub operation : Operation
    pub runs : operation_of (states t) actor ≡ Some operation
    pub why : Purpose
    pub read : ReadLine
    pub line : operation.line ≡ line.Swap why (record { indirection = j; replaced = a; fresh = f; line = swap.Deciding read })

  pub published : (t : ℕ) → t ≤ last → (j a f : Ref) → Words.link (words states run.records last) t j ≡ true → Words.main (words states run.records last) t j ≡ f →
      Words.prev (words states run.records last) t f ≡ prev.Pending a → IsPublished t j a f
  published t h j a f link stands pending =
      let sound = sound_at p t h in
      let owner = sound.owned f a pending in
      let same : owner.link ≡ j = sound.words.one_word f owner.link j (λ none. none≢pending none pending) (stands_now owner.is_link owner.stands) (stands_now link stands) in
      let by = runs_deciding (operation_of (states t) owner.actor) owner.link a f owner.line owner.stage in
      record {
        pending = pending;
        made = sound.words.made j f (stands_now link stands);
        stood = stands_now link stands;
        actor = owner.actor;
        operation = by.operation;
        runs = by.is;
        why = by.swaps.0;
        read = owner.line;
        line = by.swaps.1 ∙ ap (λ i. line.Swap by.swaps.0 (record { indirection = i; replaced = a; fresh = f; line = swap.Deciding owner.line })) same;
      }

  pub data CountingStep (t : ℕ) (j : Ref) : Type 0 where
    keeps : counting_main states last (suc t) j ≡ counting_main states last t j → CountingStep t j
    changes : (f : Ref) → IsPublished t j (counting_main states last t j) f → CommitsNode (words states run.records last) t f (counting_main states last t j) →
        counting_main states last (suc t) j ≡ f → CountingStep t j

  by_link : (t : ℕ) → t < last → (j : Ref) → w.link t j ≡ true → w.link (suc t) j ≡ true → MainStep w t j → CountingStep t j
  by_link t h j link link' (MainStays e) = keeps (main_linked run (suc t) j link' ∙ e ∙ sym (main_linked run t j link))
  by_link t h j link link' (MainChanges x) =
      let before : x.replaced ≡ counting_main states last t j = sym x.before ∙ sym (main_linked run t j link) in
      changes x.fresh
      (published t (omega arith) j (counting_main states last t j) x.fresh link x.stands (x.commits.was ∙ ap (λ r. prev.Pending r) before))
      (subst (CommitsNode w t x.fresh) before x.commits) (main_linked run (suc t) j link' ∙ x.after)

  pub counting_step : (t : ℕ) → t < last → (j : Ref) → IsLink run j → CountingStep t j
  counting_step t h j link = by (is_made states t j) refl
    where
      by : (b : Bool) → is_made states t j ≡ b → CountingStep t j
      by true made = by_link t h j (made_link t (omega arith) j link made) (made_link (suc t) h j link (made_next states t j made)) (main_step p t h j (made_link t (omega arith) j link made))
      by false unmade = keeps (counting_main-unmade states last t j h unmade)
