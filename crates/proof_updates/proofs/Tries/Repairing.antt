-- A main node that RENEW, CLEAN or CLIMB made repairs the one that it replaces. Of the trie this takes only that tombs last, so that
-- it serves to show that each step does what is assumed of it.
use Rattle.std.proofs.Common.{◌≡◌, ℕ, ◌<◌, ◌≤◌, ◌==◌, Bool, true, false, cond, List, [], ◌∷◌, length, set, slice_index_or, slice_set, refl, sym, ap, subst₂, ◌∙◌, arith, length-set, eqb-true}
use Rattle.std.proofs.lemmas.List.{get_or-set_same, get_or-set_other}
use Rattle.arrayvec.specs.ArrayVec.{ArrayVec}
use Rattle.proof_updates.specs.Vocabulary.{Ref, Node, Indirection, Branch, Tomb, no_ref, contracted, Trie, generation, node_in, Stays, kept, renewed_by, untombed, IsRepair, refills, entombs, IsDone}
use Rattle.proof_updates.specs.Vocabulary.{keeps, renews, cleans, IsRepaired}
use Rattle.proof_updates.specs.Beneath.proof_contents.proofs.Nodes.Branches.{differ}
use Rattle.proof_updates.specs.Beneath.proof_contents.proofs.Lines.Repair.{StaysGiven, HasFresh}

-- where an indirection's main node is a tomb it stays so
abbrev pub TombsLast : Trie → Type 0
TombsLast trie = (t u : ℕ) (i single : Ref) → t ≤ u → u ≤ trie.last → node_in trie t i ≡ Tomb single → trie.main u i ≡ trie.main t i

module _ (trie : Trie) (lasts : TombsLast trie) (g t : ℕ) (within : t ≤ trie.last) where
  -- an entry whose main node was once a tomb gives way to the tomb's single
  pub cleaned_entry : (entry single main word : Ref) (h u : ℕ) → trie.node entry ≡ Indirection h word → u ≤ t → trie.main u entry ≡ main → trie.node main ≡ Tomb single →
      Stays trie g t entry single
  cleaned_entry entry single main word h u is le given tomb = untombed h word is (by_test (generation trie entry == g))
    where
      at_once : node_in trie u entry ≡ Tomb single
      at_once = ap trie.node given ∙ tomb

      by_test : (b : Bool) → trie.node (cond b (trie.main t entry) (trie.main trie.last entry)) ≡ Tomb single
      by_test true = ap trie.node (lasts u t entry single le within at_once) ∙ at_once
      by_test false = ap trie.node (lasts u trie.last entry single (omega arith) (omega arith) at_once) ∙ at_once

  -- entries that stay one by one make a repair, contracted or not
  stays_repair : (b : Bool) (bitmap : ℕ) (entries : ArrayVec Ref) (others : List Ref) (old new : Node) → old ≡ Branch bitmap entries → new ≡ contracted b bitmap others →
      length others ≡ length entries.items →
      ((n : ℕ) → n < length entries.items → Stays trie g t (slice_index_or entries.items n no_ref) (slice_index_or others n no_ref)) → IsRepair trie g t old new
  stays_repair true bitmap entries (single ∷ []) old new o n count stays =
      entombs bitmap entries (slice_index_or entries.items 0 no_ref) single o (one entries.items (omega arith)) n (stays 0 (omega arith))
    where
      one : (es : List Ref) → length es ≡ 1 → es ≡ slice_index_or es 0 no_ref ∷ []
      one [] e = absurd (omega arith)
      one (e ∷ []) len = refl
      one (e ∷ f ∷ es) len = absurd (omega arith)
  stays_repair b bitmap entries others old new o n count stays = refills bitmap entries others o n count stays

  -- RENEW and CLEAN
  pub repairs : (first : Ref → Ref) (Gave : Ref → Ref → Type 0) → StaysGiven trie Gave g t → (replaced fresh : Ref) → (knows : IsRepaired trie.node first Gave g replaced fresh) →
      HasFresh trie first g t knows.2 knows.0 → IsRepair trie g t (trie.node replaced) (trie.node fresh)
  repairs first Gave stands replaced fresh (done, bitmap, entries, are, all, (b, made)) news =
      stays_repair b bitmap entries done (trie.node replaced) (trie.node fresh) are.is made all
      (λ n below. each n (slice_index_or entries.items n no_ref) (slice_index_or done n no_ref) refl refl (are.each n (omega (arith, all))))
    where
      each : (n : ℕ) (entry other : Ref) → slice_index_or entries.items n no_ref ≡ entry → slice_index_or done n no_ref ≡ other → IsDone trie.node first Gave g entry other →
          Stays trie g t entry other
      each n entry other here there (keeps same) = kept same
      each n entry other here there (renews h word word' child is apart new gave at) =
          renewed_by h word word' is apart new
          (ap (trie.main t) (sym there) ∙ news n h word word' (ap trie.node here ∙ is) apart (ap trie.node there ∙ new) ∙ ap first there ∙ at
          ∙ sym (stands.final entry child word h is apart gave))
      each n entry other here there (cleans h word child is gave tomb) =
          let at = stands.once entry child gave in
          cleaned_entry entry other child word h at.0 is at.1 at.2 tomb

  -- CLIMB: the entry whose main node was once a tomb gives way to the tomb's single
  pub climbs : (b : Bool) (bitmap p : ℕ) (entries : ArrayVec Ref) (single : Ref) (old new : Node) → old ≡ Branch bitmap entries → Stays trie g t (slice_index_or entries.items p no_ref) single →
      new ≡ contracted b bitmap (slice_set entries.items p single) → IsRepair trie g t old new
  climbs b bitmap p entries single old new o stay n =
      stays_repair b bitmap entries (set entries.items p single) old new o n (length-set entries.items p single) (λ m lt. by_place m lt (m == p) refl)
    where
      by_place : (m : ℕ) → m < length entries.items → (c : Bool) → (m == p) ≡ c → Stays trie g t (slice_index_or entries.items m no_ref) (slice_index_or (set entries.items p single) m no_ref)
      by_place m lt true same =
          let there = eqb-true m p same in
          subst₂ (λ e f. Stays trie g t e f) (ap (λ q. slice_index_or entries.items q no_ref) (sym there))
          (sym (ap (λ q. slice_index_or (set entries.items p single) q no_ref) there ∙ get_or-set_same entries.items p single no_ref (omega (arith, there, lt)))) stay
      by_place m lt false apart = kept (sym (get_or-set_other entries.items p m single no_ref (differ m p apart)))
