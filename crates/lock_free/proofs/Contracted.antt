-- Which main node is made, by how many entries are left.
use Rattle.std.proofs.Common.{◌≡◌, ◌≤◌, ◌<◌, ◌^◌, ◌&&◌, ℕ, Bool, true, false, List, [], ◌∷◌, length, None, Some, refl, sym, ap, ap₂, subst, ◌∙◌, arith}
use Rattle.std.proofs.lemmas.Bool.{true≢false}
use Rattle.nodes.specs.Builders.{contracted, renewed}
use Rattle.trie_words.specs.declared.entries.Entry.{Entry}
use Rattle.trie_words.specs.declared.headers.Previous.{Previous}
use Rattle.trie_words.specs.declared.headers.Shape.TheVariants as shape
use Rattle.machine_model.specs.Beneath.slot_arena.specs.declared.refs.Ref.{Ref}
use Rattle.machine_model.specs.declared.actions.Action.TheVariants as act
use Rattle.lock_free.specs.declared.rules.View.{View}
use Rattle.lock_free.specs.Contracting.{IsAtContracted, IsLone}
use Rattle.lock_free.specs.Halves.{entries_of_halves, halves_of, AreHalves}
use Rattle.lock_free.specs.Loading.{IsAt, IsSound}
use Rattle.lock_free.specs.Raising.{MayHold}
use Rattle.lock_free.specs.SeenEntries.{AreEntriesTo, AreFit, IsAtBranch, IsAtMain, IsOver, entry_to, unowned}
use Rattle.lock_free.proofs.EntryHalves.{codes_back, codes_small}
use Rattle.lock_free.proofs.MainMakes.{all_fit, branch_at, entries_fit, tomb_at}

-- one entry leads to one node
one_ref : (v : View) (e : Entry) (refs : List Ref) → AreEntriesTo v (e ∷ []) refs → (r : Ref) × (refs ≡ r ∷ []) × (unowned e ≡ entry_to v r)
one_ref v e [] h = absurd (omega (arith, (ap length h)))
one_ref v e (r ∷ []) h = (r, refl, ap (first (unowned e)) h)
  where
    first : Entry → List Entry → Entry
    first x [] = x
    first x (y ∷ ys) = y
one_ref v e (r ∷ q ∷ rs) h = absurd (omega (arith, (ap length h)))

one_entry : (v : View) (entries : List Entry) (r : Ref) → AreEntriesTo v entries (r ∷ []) → (e : Entry) × (entries ≡ e ∷ []) × (unowned e ≡ entry_to v r)
one_entry v [] r h = absurd (omega (arith, (ap length h)))
one_entry v (e ∷ []) r h = (e, refl, ap (first (unowned e)) h)
  where
    first : Entry → List Entry → Entry
    first x [] = x
    first x (y ∷ ys) = y
one_entry v (e ∷ f ∷ es) r h = absurd (omega (arith, (ap length h)))

-- those that are counted fit in halves
module _ (n : ℕ) (v : View) (sound : IsSound n v) (entries : List Entry) (h : MayHold v entries None) where
  pub counted_fit : AreFit entries
  counted_fit = all_fit v entries h.refs h.may.lead.named n sound (λ r c. let u = h.may.lead.used r c in (u.0, u.1))

  pub counted_back : entries_of_halves (halves_of entries) ≡ entries
  counted_back = codes_back entries counted_fit

module _ (v : View) (may : Bool) (bitmap : ℕ) (entries : List Entry) (at : IsAtContracted v may bitmap entries) where
  plain : (b : Bool) (refs : List Ref) → ((r : Ref) → refs ≡ r ∷ [] → b ≡ false) → contracted b bitmap refs ≡ renewed bitmap refs
  plain true [] no_lone = refl
  plain true (r ∷ []) no_lone = absurd (true≢false (no_lone r refl))
  plain true (r ∷ q ∷ rs) no_lone = refl
  plain false refs no_lone = refl

  branch_making : IsLone may entries None → IsAtBranch v bitmap entries
  branch_making lone =
      let none : (r : Ref) → at.refs ≡ r ∷ [] → at.entombs ≡ false =
      (λ r is.
      (let one = one_entry v entries r (subst (AreEntriesTo v entries) is at.names) in
      (at.lone r is).1 ∙ ap (λ b. may && b) (sym (ap (λ (x : Entry). x.is_single) one.2)) ∙ lone one.0 one.1)) in
      (at.refs, subst (λ n. IsAt v (act.Make n)) (plain at.entombs at.refs none) at.making, at.names)

  pub tomb_made : (n : ℕ) → IsSound n v → (single : Entry) → IsLone may entries (Some single) → IsAtMain v (shape.Tomb single) []
  tomb_made n sound single lone =
      let one = one_ref v single at.refs (subst (λ es. AreEntriesTo v es at.refs) lone.1 at.names) in
      let used = at.lone one.0 one.1 in
      let alone : at.entombs ≡ true = used.1 ∙ ap₂ (λ a b. a && b) lone.0 (sym (ap (λ (x : Entry). x.is_single) one.2) ∙ lone.2) in
      let making = subst (λ node. IsAt v (act.Make node)) (ap₂ (λ b rs. contracted b bitmap rs) alone one.1) at.making in
      subst (λ (b : Bool). IsAtMain v (shape.Tomb (record { slot = single.slot; own = single.own; is_single = b })) []) (sym lone.2)
      (tomb_at n v sound one.0 (record { slot = single.slot; own = single.own }) making (used.0, sym (ap (λ (x : Entry). x.slot) one.2)))

  module _ (n : ℕ) (sound : IsSound n v) (few : length entries ≤ 32) (small : bitmap < 2 ^ 32) (lone : IsLone may entries None) (says : Previous) (over : IsOver v says) where
    branch_main : IsAtMain v (shape.Branch bitmap) entries
    branch_main = branch_at v entries few bitmap small (branch_making lone)

    pub branch_fit : AreFit entries
    branch_fit = entries_fit n v sound (shape.Branch bitmap) entries branch_main says over

    pub branch_halves : AreHalves (halves_of entries)
    branch_halves = codes_small entries branch_fit

    pub branch_made : IsAtMain v (shape.Branch bitmap) (entries_of_halves (halves_of entries))
    branch_made = subst (IsAtMain v (shape.Branch bitmap)) (sym (codes_back entries branch_fit)) branch_main
