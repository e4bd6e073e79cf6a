-- What a drafted offer says of its references: they are at hand, it is written so later too, and what its step takes is what it offers.
use Rattle.std.proofs.Common.{◌≤◌, ◌≡◌, ◌+◌, ◌*◌, ◌<◌, ◌==◌, ℕ, true, List, [], ◌∷◌, cond, map}
use Rattle.std.proofs.Common.{Contains, Option, Some, None, refl, sym, ap, subst, ◌∙◌, arith, get_or}
use Rattle.std.proofs.Common.{append-nil}
use Rattle.std.proofs.lemmas.List.Elements.{Contains-append_right, Contains-get_or}
use Rattle.trie_words.specs.Codes.{pair_code}
use Rattle.machine_model.specs.Beneath.slot_arena.specs.declared.refs.Ref.{Ref}
use Rattle.machine_model.specs.Beneath.slot_arena.specs.Heaps.{refs_of_option}
use Rattle.machine_model.specs.declared.roots.Descriptor.{Descriptor}
use Rattle.proof_memory.specs.Wants.{offer_wants}
use Rattle.lock_free.specs.declared.accounts.Account.{Account}
use Rattle.lock_free.specs.Accounts.{place_of}
use Rattle.lock_free.specs.Live.{refs_of_claims}
use Rattle.lock_free.specs.Making.{refs_of_offer}
use Rattle.lock_free.specs.Offering.{DraftsOffer}
use Rattle.lock_free.specs.Roots.{second_of}
use Rattle.std.proofs.lemmas.List.Sums.{sum_by-cons}
use Rattle.proof_claims.specs.Changes as claiming
use Rattle.proof_claims.specs.Held.{Claim, takes}
use Rattle.lock_free.specs.Claims.{HoldsAll}
use Rattle.lock_free.specs.Counts.{how_often}

-- the references that stand in the line of an offer are at hand
pub refs_at_hand : (offer : Descriptor) → refs_of_claims (offer_wants offer) ≡ refs_of_offer offer
refs_at_hand offer = ap (λ rs. offer.root ∷ offer.expected ∷ offer.successor ∷ rs) (append-nil (refs_of_option offer.second))

second_same : (before after : Account) (o : Option Ref) → ((r : Ref) → Contains (refs_of_option o) r → place_of after r ≡ place_of before r) → second_of after o ≡ second_of before o
second_same before after None same = refl
second_same before after (Some r) same = same r (Contains-get_or (r ∷ []) 0 r (omega arith))

pub root_of_offer : (offer : Descriptor) → Contains (refs_of_offer offer) offer.root
root_of_offer offer = Contains-get_or (refs_of_offer offer) 0 offer.root (omega arith)

-- it is written so later too, where its nodes are where they were
pub drafts_moved : (before after : Account) (drafts : List (ℕ × ℕ)) (slot : ℕ) (offer : Descriptor) → ((r : Ref) → Contains (refs_of_offer offer) r → place_of after r ≡ place_of before r) →
    DraftsOffer before drafts slot offer →
    DraftsOffer after drafts slot offer
drafts_moved before after drafts slot offer same d = record {
  first = d.first;
  olds =
      subst (λ n. Contains drafts (2 * slot + 1, n))
      (sym (ap (λ n. pair_code (record { low = n; high = place_of after offer.expected })) (same offer.root (named 0 (omega arith)))
      ∙ ap (λ n. pair_code (record { low = place_of before offer.root; high = n })) (same offer.expected (named 1 (omega arith))))) d.olds;
  news =
      subst (λ n. Contains drafts (2 * slot + 2, n))
      (sym (ap (λ n. pair_code (record { low = n; high = second_of after offer.second })) (same offer.successor (named 2 (omega arith)))
      ∙ ap (λ n. pair_code (record { low = place_of before offer.successor; high = n }))
      (second_same before after offer.second
      (λ r c. same r (Contains-append_right (offer.root ∷ offer.expected ∷ offer.successor ∷ []) (refs_of_option offer.second) r c))))) d.news;
}
  where
    named : (k : ℕ) → k < 3 → Contains (refs_of_offer offer) (get_or (refs_of_offer offer) k offer.root)
    named k few = Contains-get_or (refs_of_offer offer) k offer.root (omega (arith, few))

-- the roots that it offers are what the step takes
second_taken : (opens : Option ℕ) (second : Option Ref) (k : Ref) → how_often k (map (λ (c : Claim). c.on) (claiming.second_claims opens second)) ≤ how_often k (refs_of_option second)
second_taken (Some opens) (Some second) k = omega arith
second_taken (Some opens) None k = omega arith
second_taken None second k = omega arith

pub taken_offered : (offer : Descriptor) (private : List Ref) (handle : ℕ) (owed : List Ref) → HoldsAll (offer.successor ∷ refs_of_option offer.second) owed →
    HoldsAll (takes (claiming.offers true private handle offer)) owed
taken_offered offer private handle owed owes k =
    let most = owes k in
    let second = second_taken offer.opens offer.second k in
    let first = sum_by-cons (λ (x : Ref). cond {A = ℕ} (x == k) 1 0) offer.successor (map (λ (c : Claim). c.on) (claiming.second_claims offer.opens offer.second)) in
    let all = sum_by-cons (λ (x : Ref). cond {A = ℕ} (x == k) 1 0) offer.successor (refs_of_option offer.second) in
    omega (arith, most, second, first, all)
