-- What a step tells, put together from what the programs and the table of root words tell of it.
use Rattle.std.specs.Prelude.{◌≡◌, ℕ, Option, Some, None, option_map, refl}
use Rattle.std.proofs.Common.{sym, ap, ◌∙◌}
use Rattle.std.proofs.lemmas.Option.{none-some}
use Rattle.running.specs.Vocabulary.{Heap, Action, Operation, Progress, Descriptor, RootWord, handle_of, action_of, State, word_at, carried_by, progress_of, published_by, acted_heap, word_in}
use Rattle.running.specs.Vocabulary.{with_generation}
use Rattle.running.specs.Beneath.machine_model.specs.declared.actions.Action.TheVariants as act
use Rattle.running.specs.declared.job.Job.{Job}
use Rattle.running.specs.declared.job.Program.{Program}
use Rattle.running.specs.Carried.{carried_of, carried_offer}
use Rattle.running.specs.Places.{line_for}
use Rattle.running.specs.Steps.{Changes, Does, Scene, at_scene, operation_in}
use Rattle.running.specs.Taking.{Taken}
use Rattle.running.proofs.Asks.{handle_named}
use Rattle.running.proofs.Offers.{carried_or, carried_told, marks_by}

-- where an offer is carried out the heap stays, and with it the generation of its root
same_heap : (heap : Heap) (generation : ℕ) (word : RootWord) (action : Action) (offer : Descriptor) → carried_offer word action ≡ Some offer →
    acted_heap heap (with_generation generation action) ≡ heap
same_heap heap generation word (act.Complete offer main) other is = refl
same_heap heap generation word act.ReadRoot offer is = absurd (none-some offer is)
same_heap heap generation word (act.Abort o) offer is = absurd (none-some offer is)
same_heap heap generation word (act.Offer o) offer is = absurd (none-some offer is)
same_heap heap generation word (act.ReadMain i) offer is = absurd (none-some offer is)
same_heap heap generation word (act.Publish i r f) offer is = absurd (none-some offer is)
same_heap heap generation word (act.Restore i m p) offer is = absurd (none-some offer is)
same_heap heap generation word (act.ReadPrev m) offer is = absurd (none-some offer is)
same_heap heap generation word (act.Decide i m p t) offer is = absurd (none-some offer is)
same_heap heap generation word (act.Look at) offer is = absurd (none-some offer is)
same_heap heap generation word (act.Make node) offer is = absurd (none-some offer is)
same_heap heap generation word (act.MakeRoot m) offer is = absurd (none-some offer is)
same_heap heap generation word (act.End a) offer is = absurd (none-some offer is)

-- so it tells the same before and behind the step
behind : (before after : Heap) (carried : Option Descriptor) → ((offer : Descriptor) → carried ≡ Some offer → after ≡ before) →
    option_map (carried_of after) carried ≡ option_map (carried_of before) carried
behind before after None same = refl
behind before after (Some offer) same = ap (λ heap. Some (carried_of heap offer)) (same offer refl)

module _ (job : Job) (program : Program) (before after : Scene) (taken : Taken) (does : Does job program (line_for program before.programs) before taken after)
    (none : before.table.carried ≡ None) (state : State) (operation : Operation) where
  abbrev Own : Operation
  Own = operation_in job program before (record operation { line = line_for program before.programs })

  abbrev There : State
  There = at_scene state before

  abbrev Now : Action
  Now = action_of There Own

  changes : Changes job before Now after
  changes = does.changes state (record operation { line = line_for program before.programs })

  -- the offer that the table has behind the step
  offer_is : after.table.carried ≡ carried_offer (word_at There (handle_of Own.call)) Now
  offer_is =
      ap (λ t. t.carried) changes.table ∙ (marks_by before.table job.handle job.actor Now).carried
      ∙ ap (λ c. carried_or c (carried_offer (word_in before.table job.handle) Now)) none ∙ or_none (carried_offer (word_in before.table job.handle) Now)
      ∙ ap (λ h. carried_offer (word_at There h) Now) (sym (handle_named job.handle program))
    where
      or_none : (carried : Option Descriptor) → carried_or None carried ≡ carried
      or_none None = refl
      or_none (Some offer) = refl

  carried_is : option_map (carried_of after.memory.heap) after.table.carried ≡ carried_by There (handle_of Own.call) Now
  carried_is =
      ap (option_map (carried_of after.memory.heap)) offer_is
      ∙ behind before.memory.heap after.memory.heap (carried_offer (word_at There (handle_of Own.call)) Now)
      (λ offer is. changes.acts.heap ∙ same_heap before.memory.heap before.generation (word_at There (handle_of Own.call)) Now offer is)
      ∙ sym (carried_told There (handle_of Own.call) Now)

  -- What the programs tell of the step, and behind it the table of the offer that was carried out, if it told none before, is what the definition tells.
  pub progress_is : (progress : Progress) → progress.committed ≡ taken.committed → progress.given ≡ taken.given → progress.counts ≡ taken.counts →
      progress.published ≡ published_by Own Own.line → progress.carried ≡ option_map (carried_of after.memory.heap) after.table.carried → progress ≡ progress_of There Own
  progress_is progress committed given counts published carried =
      let takes = does.takes state (record operation { line = line_for program before.programs }) in
      rw (committed ∙ sym takes.committed, given ∙ sym takes.given, counts ∙ sym takes.counts, published, carried ∙ carried_is) refl
