-- Offers beside the history: whose an offer is that stands in a root word. What the layer of generations knows of offers, with the books.
use Rattle.std.proofs.Common.{◌≡◌, ℕ, suc, ◌<◌, false, sym}
use Rattle.proof_order.specs.Vocabulary.{begun, Operation, Offer, Descriptor, Complete, handle_of, State, word_at, Record}
use Rattle.proof_order.specs.Beneath.history.specs.Histories.{Operation as Told}
use Rattle.proof_order.specs.Beneath.machine_model.specs.declared.copying.CopyLine.TheVariants as copy
use Rattle.proof_order.specs.Beneath.machine_model.specs.declared.lines.Line.TheVariants as line
use Rattle.proof_generations.proofs.Offers.Standing.{own_numbers, completes_it}
use Rattle.proof_generations.proofs.Offers.Same.{HasOffers}
use Rattle.proof_order.specs.Facts.{Runs}
use Rattle.proof_order.proofs.History.Books.{Books, id_below}

-- who runs has begun
pub running_below : (state : State) {past : Record} → Books state past → (k : ℕ) (operation : Operation) → Runs state k operation → operation.id < begun past.events
running_below state {past} books k operation runs =
    let told = books.told k operation runs in
    let says : Told = record { actor = suc k; call = operation.call; opens = operation.opens } in
    id_below past.events told.place operation.id says books.well_formed told.begins

-- ---- whose an offer is

pub record Offers (state : State) (past : Record) : Type 0 where
  pub books : Books state past
  pub own : HasOffers state

-- an offer that stands on a handle: its operation completes it, without a mark
pub record OfferStands (state : State) (handle : ℕ) (offer : Descriptor) : Type 0 where
  pub k : ℕ
  pub operation : Operation
  pub c : Complete
  pub runs : Runs state k operation
  pub id : operation.id ≡ offer.operation
  pub opens : operation.opens ≡ offer.opens
  pub on : handle_of operation.call ≡ handle
  pub unmarked : operation.is_marked ≡ false
  pub at : operation.line ≡ line.Copy (copy.Complete c)
  pub its : c.offer ≡ offer

pub stands : (state : State) {past : Record} → Offers state past → (handle : ℕ) (offer : Descriptor) → word_at state handle ≡ Offer offer → OfferStands state handle offer
stands state offers handle offer word =
    let b = offers.own.offers handle offer word in
    let mine = own_numbers b.owner offer (offers.own.own b.k b.owner b.runs) b.completes in
    let (c, at, its) = completes_it b.owner.line offer b.completes in
    record { k = b.k; operation = b.owner; c = c; runs = b.runs; id = sym mine.its; opens = sym mine.number; on = b.on_handle; unmarked = b.unmarked; at = at; its = its }
