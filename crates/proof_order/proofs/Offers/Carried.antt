-- An offer that is carried out, with the operation that made it and what the facts say of it.
use Rattle.std.proofs.Common.{◌≡◌, ℕ, false, ◌∙◌, Some, None, arith}
use Rattle.proof_order.specs.Vocabulary.{KeyMap, generation_at, Operation, Descriptor, Bounds, State, root_at, copied_reply, IsRun, is_placed, Record}
use Rattle.proof_generations.proofs.Handles.Operations.{has_handles_at}
use Rattle.proof_order.specs.Facts.{IsReply, Runs, On, IsFresh, Opens, Facts}
use Rattle.proof_order.specs.Openings.{IsSwap}
use Rattle.proof_order.proofs.History.Answering.{carried_reply}
use Rattle.proof_order.proofs.Offers.Honest.{offerer_of}
use Rattle.proof_order.proofs.Offers.Known.{Offers}

-- an offer that is carried out, with the operation that made it
pub record Carried (states : ℕ → State) (records : ℕ → Record) (last : ℕ) (V : ℕ → ℕ → KeyMap) (t handle : ℕ) (offer : Descriptor) : Type 0 where
  pub k : ℕ
  pub offerer : Operation
  pub runs : Runs (states t) k offerer
  pub is_its : offerer.id ≡ offer.operation
  pub number : offerer.opens ≡ offer.opens
  -- the number that it opens isn't open
  pub free : (n : ℕ) → offer.opens ≡ Some n → root_at (states t) n ≡ None
  -- it answers that it was carried out
  pub agrees : IsReply (records last).events offer.operation (copied_reply offerer.call offerer.opens)
  pub unplaced : is_placed (records t) offer.operation ≡ false
  pub stands : On states t handle (generation_at (states t).heap offer.root)
  pub is_fresh : IsFresh (states t) (records t) (generation_at (states t).heap offer.successor)
  pub opens : Opens states records last V t handle (generation_at (states t).heap offer.root) offer offerer.call

-- the facts, of the operation that made it
module _ {limits : Bounds} {states : ℕ → State} {last : ℕ} (r : IsRun limits states last) (V : ℕ → ℕ → KeyMap) (facts : Facts limits states r.records last V) where
  pub carried : (t handle : ℕ) (offer : Descriptor) → IsSwap states r.records last t handle offer → Offers (states t) (r.records t) → Carried states r.records last V t handle offer
  carried t handle offer swap offers =
      let st = offerer_of (states t) offers swap.step handle offer swap.carries in
      let facts_of = facts.swaps t swap.step swap.outcome swap.taken swap.moves swap.notes handle offer swap.carries st.k st.operation st.runs st.id in
      record {
        k = st.k;
        offerer = st.operation;
        runs = st.runs;
        is_its = st.id;
        number = st.opens;
        free = λ n e. (has_handles_at r t (omega (arith, swap.taken))).1.unopened st.k n st.operation st.runs st.unmarked (st.opens ∙ e);
        agrees = carried_reply r t handle offer swap st.k st.operation st.runs st.id;
        unplaced = facts_of.unplaced;
        stands = facts_of.stands;
        is_fresh = facts_of.is_fresh;
        opens = facts_of.opens;
      }
