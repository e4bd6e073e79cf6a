-- What is live, of what a line and an action take their references for.
use Rattle.std.proofs.Common.{List, [], ◌∷◌, All}
use Rattle.std.proofs.lemmas.List.Elements.{All-nil, All-cons, All-weaker}
use Rattle.proof_core.specs.Vocabulary.{Ref, Node, Indirection, Branch, Single, Tomb, List as Listed, Heap, refs_of_node, refs_of_option, IsLive, AreLive, Descriptor, Offer, refs_of_word, AllHold}
use Rattle.proof_core.specs.Vocabulary.{AnEntry, AnIndirection, ASingle, Claim, Wanted, node_wants, offer_wants}
use Rattle.proof_core.specs.Beneath.proof_memory.proofs.Claims.Uses.{Meets, all_of, safe_of}
use Rattle.proof_core.specs.Beneath.proof_memory.proofs.Claims.Named.{third_claim, past_third}

-- the claims are true of what is in use
abbrev pub Lives : Heap → List Claim → Type 0
Lives heap claims = AllHold (IsLive heap) heap claims

-- ---- what is live

pub one_live : (heap : Heap) (r : Ref) → IsLive heap r → AreLive heap (r ∷ [])
one_live heap r h = All-cons (IsLive heap) r [] h (All-nil (IsLive heap))

met_live : (heap : Heap) (wanted : Wanted) (rs : List Ref) → All (Meets (IsLive heap) heap wanted) rs → AreLive heap rs
met_live heap wanted rs all = All-weaker (Meets (IsLive heap) heap wanted) (IsLive heap) (λ r m. m.0) rs all

pub offer_live : (heap : Heap) (offer : Descriptor) → Lives heap (offer_wants offer) → AreLive heap (refs_of_word (Offer offer))
offer_live heap offer h =
    All-cons (IsLive heap) offer.root (offer.expected ∷ offer.successor ∷ refs_of_option offer.second) (safe_of h.0)
    (All-cons (IsLive heap) offer.expected (offer.successor ∷ refs_of_option offer.second) (safe_of h.1.0)
    (All-cons (IsLive heap) offer.successor (refs_of_option offer.second) (safe_of (third_claim h)) (met_live heap AnIndirection (refs_of_option offer.second) (all_of (past_third h).0))))

pub root_live : (heap : Heap) (offer : Descriptor) → Lives heap (offer_wants offer) → AreLive heap (offer.root ∷ [])
root_live heap offer h = one_live heap offer.root (safe_of h.0)

-- what stands in a node that is to be made
pub node_live : (heap : Heap) (node : Node) → Lives heap (node_wants node) → AreLive heap (refs_of_node node)
node_live heap (Indirection generation main) h = one_live heap main (safe_of h.0)
node_live heap (Branch bitmap entries) h = met_live heap AnEntry entries.items (all_of h.0)
node_live heap (Single key value) h = All-nil (IsLive heap)
node_live heap (Tomb single) h = one_live heap single (safe_of h.0)
node_live heap (Listed singles) h = met_live heap ASingle singles.items (all_of h.0)
