-- An offer is written in a free slot, word after word.
use Rattle.std.proofs.Common.{◌≡◌, ◌+◌, ◌*◌, ◌<◌, ◌≤◌, ℕ, Contains, unwrap_or, sym, ap, subst, ◌∙◌, arith}
use Rattle.trie_words.specs.Codes.{pair_code}
use Rattle.lock_free.specs.declared.copy_roots.NewRoots.{NewRoots as Roots}
use Rattle.lock_free.specs.declared.rules.View.{View}
use Rattle.lock_free.specs.CopySteps.{HasDraftedOffer}
use Rattle.lock_free.specs.Making.{others_than}
use Rattle.lock_free.specs.Rules.{IsFree}
use Rattle.lock_free.specs.Roots.{undecided}
use Rattle.lock_free.specs.Storing.{IsOwnWord, drafted}
use Rattle.lock_free.proofs.Pools.{first_there}
use Rattle.lock_free.proofs.Drafts.{written_still}

-- a word of the slot is the seat's own
pub own_offer_word : (v w : View) (slot word : ℕ) → w ≡ record v { drafts = w.drafts } → IsFree v 1 slot → 2 * slot ≤ word → word < 2 * slot + 7 → IsOwnWord w word
own_offer_word v w slot word is free low high = subst (λ x. IsOwnWord x word) (sym is) (1, slot, free, low, high)

pub drafted_once : (v w : View) (word value : ℕ) → w ≡ drafted v word value → w ≡ record v { drafts = w.drafts }
drafted_once v w word value is = is ∙ ap (λ (x : View). record v { drafts = x.drafts }) (sym is)

pub drafted_more : (u v w : View) (word value : ℕ) → v ≡ record u { drafts = v.drafts } → w ≡ drafted v word value → w ≡ record u { drafts = w.drafts }
drafted_more u v w word value first is =
    is ∙ ap (λ (x : View). record x { drafts = (drafted v word value).drafts }) first ∙ ap (λ (x : View). record u { drafts = x.drafts }) (sym is)

pub offer_drafted : (u a b w : View) (slot root main : ℕ) (roots : Roots) → a ≡ drafted u (2 * slot) undecided → b ≡ drafted a (2 * slot + 1) (pair_code (record { low = root; high = main })) →
    w ≡ drafted b (2 * slot + 2) (pair_code (record { low = roots.successor; high = unwrap_or roots.second 0 })) →
    HasDraftedOffer u slot root main roots w
offer_drafted u a b w slot root main roots first second third =
    let olds = pair_code (record { low = root; high = main }) in
    let news = pair_code (record { low = roots.successor; high = unwrap_or roots.second 0 }) in
    let in_a = subst (λ (x : View). Contains x.drafts (2 * slot, undecided)) (sym first) (first_there (2 * slot, undecided) (others_than (2 * slot) u.drafts)) in
    let in_b = subst (λ (x : View). Contains x.drafts (2 * slot, undecided)) (sym second) (written_still a.drafts (2 * slot + 1) olds (2 * slot) undecided (λ e. omega (arith, e)) in_a) in
    let olds_b = subst (λ (x : View). Contains x.drafts (2 * slot + 1, olds)) (sym second) (first_there (2 * slot + 1, olds) (others_than (2 * slot + 1) a.drafts)) in
    record {
      is = drafted_more u b w (2 * slot + 2) news (drafted_more u a b (2 * slot + 1) olds (drafted_once u a (2 * slot) undecided first) second) third;
      first = subst (λ (x : View). Contains x.drafts (2 * slot, undecided)) (sym third) (written_still b.drafts (2 * slot + 2) news (2 * slot) undecided (λ e. omega (arith, e)) in_b);
      olds = subst (λ (x : View). Contains x.drafts (2 * slot + 1, olds)) (sym third)
          (written_still b.drafts (2 * slot + 2) news (2 * slot + 1) olds (λ e. omega (arith, e)) olds_b);
      news = subst (λ (x : View). Contains x.drafts (2 * slot + 2, news)) (sym third) (first_there (2 * slot + 2, news) (others_than (2 * slot + 2) b.drafts));
    }
