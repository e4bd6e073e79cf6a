-- What a line knows of its change makes an own update.
use Rattle.std.proofs.Common.{◌≡◌, ℕ, suc, ◌-◌, ◌≤◌, slice_index_or, Option, Some, None, inl, inr, refl, sym, ap, subst, ◌∙◌, arith}
use Rattle.proof_contents.specs.Vocabulary.{hash_of, position_of, Call, Ref, Node, Branch, Single, Tomb, List as Listed, no_ref, flag_of, updated, Change, key_of, value_of, changed}
use Rattle.proof_contents.specs.Nodes.Chains.{LeadsToPair}
use Rattle.machine_model.specs.declared.building.Change.TheVariants as change
use Rattle.proof_contents.specs.Tries.{Trie, assigned}
use Rattle.proof_contents.specs.Steps.{IsOwnUpdate, branch_inserts, branch_updates, branch_removes, branch_entombs, goes_beside, list_inserts, list_updates, list_removes}
use Rattle.proof_contents.specs.Steps.{list_entombs, Asks, to_insert, to_set, to_remove}
use Rattle.proof_contents.specs.Lines.Changes.{Known, Absence, no_flag, not_listed, Presence, in_branch, in_list, Neighbour, IsOther, of_branch, of_list, KnowsChange, KnowsSwap, LeadsToBoth}

-- the trie, as a line knows it, where indirections were made with these main nodes
abbrev pub known_in : Trie → (Ref → Ref) → Known
known_in trie first = record { kind = trie.kind; node = trie.node; first = first }

module _ (trie : Trie) (g t : ℕ) (i : Ref) (first : Ref → Ref) where
  -- fresh indirections have the main nodes with which they were made
  abbrev pub StaysFresh : Ref → Type 0
  StaysFresh link =
      (former key : ℕ) (old single : Ref) (levels depth : ℕ) → LeadsToPair trie.node first trie.kind former key old single levels depth link →
      LeadsToPair trie.node (assigned trie g (suc t)) trie.kind former key old single levels depth link

  -- what a swap's line knows of its change
  pub record MakesUpdate (call : Call) (former : Option ℕ) (old new : Node) : Type 0 where
    pub now : Option ℕ
    pub asks : Asks call former now
    pub updates : IsOwnUpdate trie g t i (key_of call) old new former now

  pub makes_update : (call : Call) (replaced fresh : Ref) (former : Option ℕ) → trie.depth i ≤ 13 → (knows : KnowsSwap (known_in trie first) call (trie.depth i) replaced former fresh) →
      ((position : ℕ) (link : Ref) → knows.0 ≡ change.Update position link → former ≡ None → StaysFresh link) → MakesUpdate call former (trie.node replaced) (trie.node fresh)
  makes_update call replaced fresh former deep (c, knows, made) chains = by_change c refl knows made
    where
      flag : ℕ
      flag = flag_of (hash_of trie.kind (key_of call)) (trie.depth i)

      built : (c : Change) (n : Node) → trie.node replaced ≡ n → trie.node fresh ≡ changed flag (trie.node replaced) c → trie.node fresh ≡ changed flag n c
      built c n is e = e ∙ ap (λ m. changed flag m c) is

      absent : (single : Ref) → former ≡ None → Asks call None (Some (value_of call)) → Absence (known_in trie first) (trie.depth i) (key_of call) replaced →
          trie.node single ≡ Single (key_of call) (value_of call) → trie.node fresh ≡ changed flag (trie.node replaced) (change.Insert single) →
          MakesUpdate call former (trie.node replaced) (trie.node fresh)
      absent single none asks (no_flag bitmap entries is lacks) new e =
          subst (λ f. MakesUpdate call f (trie.node replaced) (trie.node fresh)) (sym none)
          (record { now = Some (value_of call); asks = asks; updates = branch_inserts bitmap (value_of call) entries single is lacks new (built (change.Insert single) (Branch bitmap entries) is e) })
      absent single none asks (not_listed singles is room lacks) new e =
          subst (λ f. MakesUpdate call f (trie.node replaced) (trie.node fresh)) (sym none)
          (record { now = Some (value_of call); asks = asks; updates = list_inserts (value_of call) singles single is room lacks new (built (change.Insert single) (Listed singles) is e) })

      present : (position value : ℕ) (entry : Ref) → former ≡ Some value → Asks call (Some value) (Some (value_of call)) →
          Presence (known_in trie first) (trie.depth i) (key_of call) replaced position value →
          trie.node entry ≡ Single (key_of call) (value_of call) → trie.node fresh ≡ changed flag (trie.node replaced) (change.Update position entry) →
          MakesUpdate call former (trie.node replaced) (trie.node fresh)
      present position value entry had asks (in_branch bitmap entries f single) new e =
          subst (λ o. MakesUpdate call o (trie.node replaced) (trie.node fresh)) (sym had) (record {
            now = Some (value_of call);
            asks = asks;
            updates = branch_updates bitmap value (value_of call) entries entry f.is f.flagged (ap (λ p. trie.node (slice_index_or entries.items p no_ref)) (sym f.at) ∙ single) new
                (built (change.Update position entry) (Branch bitmap entries) f.is e ∙ ap (λ p. updated bitmap entries.items p entry) f.at);
          })
      present position value entry had asks (in_list singles is lt single) new e =
          subst (λ o. MakesUpdate call o (trie.node replaced) (trie.node fresh)) (sym had) (record {
            now = Some (value_of call);
            asks = asks;
            updates = list_updates position value (value_of call) singles entry is lt single new (built (change.Update position entry) (Listed singles) is e);
          })

      gone : (position value : ℕ) → former ≡ Some value → Asks call (Some value) None → Presence (known_in trie first) (trie.depth i) (key_of call) replaced position value →
          trie.node fresh ≡ changed flag (trie.node replaced) (change.Remove position) → MakesUpdate call former (trie.node replaced) (trie.node fresh)
      gone position value had asks (in_branch bitmap entries f single) e =
          subst (λ o. MakesUpdate call o (trie.node replaced) (trie.node fresh)) (sym had) (record {
            now = None;
            asks = asks;
            updates = branch_removes bitmap value entries f.is f.flagged (ap (λ p. trie.node (slice_index_or entries.items p no_ref)) (sym f.at) ∙ single)
                (built (change.Remove position) (Branch bitmap entries) f.is e ∙ ap (λ p. changed flag (Branch bitmap entries) (change.Remove p)) f.at);
          })
      gone position value had asks (in_list singles is lt single) e =
          subst (λ o. MakesUpdate call o (trie.node replaced) (trie.node fresh)) (sym had) (record {
            now = None;
            asks = asks;
            updates = list_removes position value singles is lt single (built (change.Remove position) (Listed singles) is e);
          })

      entombed : (value : ℕ) (other : Ref) → former ≡ Some value → Asks call (Some value) None → IsOther (known_in trie first) (trie.depth i) (key_of call) replaced other value →
          trie.node fresh ≡ changed flag (trie.node replaced) (change.Entomb other) → MakesUpdate call former (trie.node replaced) (trie.node fresh)
      entombed value other had asks (of_branch bitmap position own own_value entries f single two is left) e =
          let there : other ≡ slice_index_or entries.items (1 - position_of flag bitmap) no_ref = is ∙ ap (λ p. slice_index_or entries.items (1 - p) no_ref) f.at in
          subst (λ o. MakesUpdate call o (trie.node replaced) (trie.node fresh)) (sym had) (record {
            now = None;
            asks = asks;
            updates = branch_entombs bitmap value own own_value entries f.is two f.flagged (ap (λ p. trie.node (slice_index_or entries.items p no_ref)) (sym f.at) ∙ single)
                (ap trie.node (sym there) ∙ left) (built (change.Entomb other) (Branch bitmap entries) f.is e ∙ ap Tomb there);
          })
      entombed value other had asks (of_list position singles is lt single two there) e =
          subst (λ o. MakesUpdate call o (trie.node replaced) (trie.node fresh)) (sym had) (record {
            now = None;
            asks = asks;
            updates = list_entombs position value singles is two lt single (built (change.Entomb other) (Listed singles) is e ∙ ap Tomb there);
          })

      besides : (position : ℕ) (link : Ref) → c ≡ change.Update position link → former ≡ None → Asks call None (Some (value_of call)) →
          (beside : Neighbour (known_in trie first) (trie.depth i) (key_of call) replaced position) →
          (single : Ref) → trie.node single ≡ Single (key_of call) (value_of call) → LeadsToBoth (known_in trie first) call (trie.depth i) replaced position beside single (suc (trie.depth i)) link →
          trie.node fresh ≡ changed flag (trie.node replaced) (change.Update position link) → MakesUpdate call former (trie.node replaced) (trie.node fresh)
      besides position link is_change none asks beside single new (ind, chain) e =
          subst (λ o. MakesUpdate call o (trie.node replaced) (trie.node fresh)) (sym none) (record {
            now = Some (value_of call);
            asks = asks;
            updates = goes_beside beside.bitmap beside.other (value_of call) beside.own (15 - suc (trie.depth i)) ind.0 beside.entries single link ind.1 beside.branch.is beside.branch.flagged
                (ap (λ p. trie.node (slice_index_or beside.entries.items p no_ref)) (sym beside.branch.at) ∙ beside.is) beside.apart new ind.2 (omega arith)
                (subst (λ p. LeadsToPair trie.node (assigned trie g (suc t)) trie.kind beside.other (key_of call)
                (slice_index_or beside.entries.items p no_ref) single (15 - suc (trie.depth i)) (suc (trie.depth i)) link)
                beside.branch.at (chains position link is_change none beside.other (key_of call) (slice_index_or beside.entries.items position no_ref) single
                (15 - suc (trie.depth i)) (suc (trie.depth i)) chain))
                (built (change.Update position link) (Branch beside.bitmap beside.entries) beside.branch.is e ∙ ap (λ p. updated beside.bitmap beside.entries.items p link) beside.branch.at);
          })

      by_change : (d : Change) → c ≡ d → KnowsChange (known_in trie first) call (trie.depth i) replaced former d → trie.node fresh ≡ changed flag (trie.node replaced) d →
          MakesUpdate call former (trie.node replaced) (trie.node fresh)
      by_change (change.Insert single) is_change ((none, ins), absence, new) e = absent single none (to_insert ins) absence new e
      by_change (change.Update position entry) is_change (inl (value, had, sets, presence, new)) e = present position value entry had (to_set value sets) presence new e
      by_change (change.Update position entry) is_change (inr ((none, ins), (beside, single, new, both))) e = besides position entry is_change none (to_insert ins) beside single new both e
      by_change (change.Remove position) is_change (value, had, removes, presence) e = gone position value had (to_remove value removes) presence e
      by_change (change.Entomb other) is_change (value, had, removes, is) e = entombed value other had (to_remove value removes) is e
