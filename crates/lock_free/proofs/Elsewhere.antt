-- Halves that lead to no slot to which one of others leads.
use Rattle.std.proofs.Common.{◌≡◌, ◌≤◌, ◌<◌, ◌==◌, inl, inr, ℕ, zero, suc, Bool, true, false, cond, not, List, [], ◌∷◌, Contains, None, get_or, length, map, refl, sym, ap, subst, ◌∙◌}
use Rattle.std.proofs.Common.{arith, eqb-true, ◌||◌}
use Rattle.std.proofs.lemmas.Bool.{true≢false}
use Rattle.std.proofs.lemmas.List.Sums.{sum_by-cons}
use Rattle.trie_words.specs.Codes.{entry_of}
use Rattle.trie_words.specs.declared.entries.Entry.{Entry}
use Rattle.machine_model.specs.Beneath.slot_arena.specs.declared.refs.Ref.{Ref}
use Rattle.proof_claims.specs.Held.{is_in}
use Rattle.proof_claims.proofs.Lists.{found_in}
use Rattle.lock_free.specs.declared.rules.View.{View}
use Rattle.lock_free.specs.Accounts.{place_of}
use Rattle.lock_free.specs.Counts.{how_often}
use Rattle.lock_free.specs.Halves.{entries_of_halves}
use Rattle.lock_free.specs.Raising.{MayRelease}
use Rattle.lock_free.specs.SeenEntries.{AreEntriesTo, entry_to, unowned}
use Rattle.lock_free.specs.SeenNames.{MayLetGo, elsewhere, slots_of}
use Rattle.lock_free.proofs.ClaimsThere.{has_often, often_has}
use Rattle.lock_free.proofs.Pools.{first_or_more, first_there, more_there}

head_is : (x y : Entry) (xs ys : List Entry) → x ∷ xs ≡ y ∷ ys → x ≡ y
head_is x y xs ys e = cc e

tail_is : (x y : Entry) (xs ys : List Entry) → x ∷ xs ≡ y ∷ ys → xs ≡ ys
tail_is x y xs ys e = cc e

module _ (v : View) (others : List ℕ) where
  abbrev there : Ref → Bool
  there k = is_in (slots_of others) (place_of v.account k)

  -- of the nodes to which halves lead, those to which these lead
  record LeadsElsewhere (halves : List ℕ) (refs : List Ref) : Type 0 where
    kept : List Ref
    named : AreEntriesTo v (entries_of_halves (elsewhere others halves)) kept
    fewer : (k : Ref) → how_often k kept ≤ how_often k refs
    apart : (k : Ref) → Contains kept k → there k ≡ false

  first_or : (r k : Ref) (rs : List Ref) → Contains (r ∷ rs) k → (P : Ref → Type 0) → P r → ((q : Ref) → Contains rs q → P q) → P k
  first_or r k rs c P first rest = elim (first_or_more r rs k c) [ inl same ↦ subst P (sym same) first | inr more ↦ rest k more ]

  lead_on : (half : ℕ) (halves : List ℕ) (r : Ref) (refs : List Ref) → unowned (entry_of half) ≡ entry_to v r → LeadsElsewhere halves refs → (b : Bool) →
      is_in (slots_of others) (entry_of half).slot ≡ b → LeadsElsewhere (half ∷ halves) (r ∷ refs)
  lead_on half halves r refs named h true is = record {
    kept = h.kept;
    named = subst (λ b. AreEntriesTo v (entries_of_halves (cond (not b) (half ∷ elsewhere others halves) (elsewhere others halves))) h.kept) (sym is) h.named;
    fewer = λ k. (let all = sum_by-cons (λ (x : Ref). cond {A = ℕ} (x == k) 1 0) r refs in let less = h.fewer k in omega (arith, all, less));
    apart = h.apart;
  }
  lead_on half halves r refs named h false is = record {
    kept = r ∷ h.kept;
    named = subst (λ b. AreEntriesTo v (entries_of_halves (cond (not b) (half ∷ elsewhere others halves) (elsewhere others halves))) (r ∷ h.kept)) (sym is)
        (ap (λ e. e ∷ map unowned (entries_of_halves (elsewhere others halves))) named ∙ ap (λ es. entry_to v r ∷ es) h.named);
    fewer = λ k.
        (let all = sum_by-cons (λ (x : Ref). cond {A = ℕ} (x == k) 1 0) r refs in
        let some = sum_by-cons (λ (x : Ref). cond {A = ℕ} (x == k) 1 0) r h.kept in
        let less = h.fewer k in omega (arith, all, some, less));
    apart = λ k c. first_or r k h.kept c (λ q. there q ≡ false) (ap (λ (e : Entry). is_in (slots_of others) e.slot) (sym named) ∙ is) h.apart;
  }

  lead : (halves : List ℕ) (refs : List Ref) → AreEntriesTo v (entries_of_halves halves) refs → LeadsElsewhere halves refs
  lead [] [] named = record { kept = []; named = refl; fewer = λ k. omega arith; apart = λ k c. absurd (omega (arith, c.1)) }
  lead [] (r ∷ refs) named = let wrong : ⊥ = cc named in absurd wrong
  lead (half ∷ halves) [] named = let wrong : ⊥ = cc named in absurd wrong
  lead (half ∷ halves) (r ∷ refs) named =
      lead_on half halves r refs (head_is (unowned (entry_of half)) (entry_to v r) (map unowned (entries_of_halves halves)) (map (entry_to v) refs) named)
      (lead halves refs (tail_is (unowned (entry_of half)) (entry_to v r) (map unowned (entries_of_halves halves)) (map (entry_to v) refs) named))
      (is_in (slots_of others) (entry_of half).slot) refl

  -- what is among the nodes to which the others lead is there
  those_there : (halves : List ℕ) (those : List Ref) → AreEntriesTo v (entries_of_halves halves) those → (k : Ref) → Contains those k → Contains (slots_of halves) (place_of v.account k)
  those_there [] [] named k c = absurd (omega (arith, c.1))
  those_there [] (r ∷ refs) named k c = let wrong : ⊥ = cc named in absurd wrong
  those_there (half ∷ halves) [] named k c = let wrong : ⊥ = cc named in absurd wrong
  those_there (half ∷ halves) (r ∷ refs) named k c =
      let head = head_is (unowned (entry_of half)) (entry_to v r) (map unowned (entries_of_halves halves)) (map (entry_to v) refs) named in
      let tail = tail_is (unowned (entry_of half)) (entry_to v r) (map unowned (entries_of_halves halves)) (map (entry_to v) refs) named in
      first_or r k refs c (λ q. Contains (slots_of (half ∷ halves)) (place_of v.account q))
      (subst (Contains (slots_of (half ∷ halves))) (ap (λ (e : Entry). e.slot) head) (first_there (entry_of half).slot (slots_of halves)))
      (λ q d. more_there (entry_of half).slot (slots_of halves) (place_of v.account q) (those_there halves refs tail q d))

  pub may_release : (halves : List ℕ) → MayLetGo v (entries_of_halves halves) (entries_of_halves others) → (refs : List Ref) × MayRelease v (entries_of_halves (elsewhere others halves)) None refs
  may_release halves h = (
    its_lead.kept,
    record {
      lead = record { named = its_lead.named; used = λ k c. h.lead.used k (among k c); shared = λ k c. h.lead.shared k (among k c) };
      owed = λ k. by k (how_often k its_lead.kept) refl;
    },
  )
    where
      its_lead : LeadsElsewhere halves h.refs
      its_lead = lead halves h.refs h.lead.named

      among : (k : Ref) → Contains its_lead.kept k → Contains h.refs k
      among k c = often_has k h.refs (let some = has_often k its_lead.kept c in let less = its_lead.fewer k in omega (arith, some, less))

      held : (k : Ref) → Contains its_lead.kept k → Contains v.owed k
      held k c =
          h.holds k (among k c)
          (λ d. true≢false (sym (found_in (slots_of others) (place_of v.account k) (those_there others h.those h.others_lead k d)) ∙ its_lead.apart k c))

      by : (k : Ref) (n : ℕ) → how_often k its_lead.kept ≡ n → how_often k its_lead.kept ≤ how_often k v.owed
      by k zero e = omega (arith, e)
      by k (suc n) e =
          let c = often_has k its_lead.kept (omega (arith, e)) in
          let some = has_often k v.owed (held k c) in
          let once = h.once k in
          let less = its_lead.fewer k in
          omega (arith, some, once, less)

-- ---- as a loop goes over them

-- none of these slots is it
pub none_leads : (halves : List ℕ) (slot : ℕ) → ((n : ℕ) → n < length halves → (entry_of (get_or halves n 0)).slot ≡ slot → ⊥) → is_in (slots_of halves) slot ≡ false
none_leads [] slot none = refl
none_leads (x ∷ xs) slot none = by ((entry_of x).slot == slot) refl (none_leads xs slot (λ n low is. none (suc n) (omega (arith, low)) is))
  where
    by : (b : Bool) → ((entry_of x).slot == slot) ≡ b → is_in (slots_of xs) slot ≡ false → is_in (slots_of (x ∷ xs)) slot ≡ false
    by true e rest = absurd (none zero (omega arith) (eqb-true (entry_of x).slot slot e))
    by false e rest = ap (λ b. b || is_in (slots_of xs) slot) e ∙ rest
