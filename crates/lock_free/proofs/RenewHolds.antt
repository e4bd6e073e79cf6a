-- What a seat must hold before RENEW makes its branch: the operation has made what comes to the places of older indirections; what is kept the branch takes
-- over, where the replaced one is its indirection's own, or it is at hand and shared.
use Rattle.std.proofs.Common.{◌≡◌, ◌≤◌, ◌<◌, ◌^◌, ◌⊎◌, ◌++◌, ◌∷◌, [], inl, inr, ℕ, Bool, true, false, List, length, Contains, None, sym, subst, arith}
use Rattle.std.proofs.lemmas.List.Elements.{Contains-append_left, Contains-append_right, Contains-get_or}
use Rattle.trie_words.specs.declared.entries.Entry.{Entry}
use Rattle.trie_words.specs.declared.headers.Previous.{Previous}
use Rattle.trie_words.specs.declared.headers.Shape.TheVariants as shape
use Rattle.machine_model.specs.Beneath.slot_arena.specs.declared.nodes.Slot.{Slot}
use Rattle.machine_model.specs.Beneath.slot_arena.specs.declared.refs.Ref.{Ref}
use Rattle.machine_model.specs.Beneath.slot_arena.specs.Heaps.{entries_of, node_at}
use Rattle.machine_model.specs.declared.lines.Line.{Line}
use Rattle.machine_model.specs.declared.lines.Line.TheVariants as line
use Rattle.machine_model.specs.declared.operations.Operation.{Operation}
use Rattle.machine_model.specs.declared.repairs.RenewLine.TheVariants as renew
use Rattle.machine_model.specs.Operations.{action_of, line_action}
use Rattle.machine_model.specs.Paths.{current}
use Rattle.proof_linearizable.specs.Beneath.proof_shape.proofs.Runs.Entries.{of_take}
use Rattle.proof_memory.specs.Wants.{all_done_wants, is_branch, is_branch_or_list}
use Rattle.proof_memory.proofs.Claims.Nodes.{branch_both}
use Rattle.proof_memory.proofs.Claims.Uses.{meets_of, safe_of}
use Rattle.lock_free.specs.declared.rules.View.{View}
use Rattle.lock_free.specs.Accounts.{running, IsOwn}
use Rattle.lock_free.specs.Halves.{entries_of_halves, halves_of}
use Rattle.lock_free.specs.Holding.{IsOn}
use Rattle.lock_free.specs.Live.{at_hand, line_claims, refs_of_claims, IsLive}
use Rattle.lock_free.specs.Loading.{now, Holds, IsSound, IsUsed, Runs}
use Rattle.lock_free.specs.OwesAt.{owes_at, owes_on}
use Rattle.lock_free.specs.Owing.{names_made, HoldsRaised, IsTakenOver}
use Rattle.lock_free.specs.Raising.{MayHold, MayReplace}
use Rattle.lock_free.specs.SeenEntries.{AreEntriesTo, AreFit, IsAtBranch, IsAtMain, IsOver}
use Rattle.lock_free.proofs.Asked.{live_in_use}
use Rattle.lock_free.proofs.EntryHalves.{codes_back}
use Rattle.lock_free.proofs.GivenBack.{node_is}
use Rattle.lock_free.proofs.MainMakes.{branch_at, entries_fit}
use Rattle.lock_free.proofs.MainNames.{entry_there}
use Rattle.lock_free.proofs.OnLines.{finds_now, line_is}
use Rattle.lock_free.proofs.RaisedLines.{raised_renewal}
use Rattle.lock_free.proofs.SharedEntries.{renew_shared}

module _ (n : ℕ) (v : View) (sound : IsSound n v) (path : List Ref) (main : Ref) (done made kept : List Ref) (on : IsOn v (line.Renew (renew.Branch path main done)))
    (own : (o : Operation) → Runs v o → (k : Ref) → Contains made k → Contains o.private k) (each : (k : Ref) → Contains done k → Contains made k ⊎ Contains kept k)
    (stood : (k : Ref) → Contains kept k → Contains (entries_of (node_at (now v).heap main)) k) where
  abbrev l : Line
  l = line.Renew (renew.Branch path main done)

  taking_over : IsOwn v.account (current path) main true → HoldsRaised v
  taking_over owns = raised_renewal v path main done on (λ o runs k c. elim (each k c) [
    | inl new ↦ inl (own o runs k new)
    | inr old ↦ inr (inr (owns, stood k old))
  ])

  -- ---- what is kept is shared

  abbrev its : Operation
  its = record on.0 { is_marked = on.1.0 }

  main_lives : IsLive (now v) main
  main_lives = let claims = finds_now v l on n sound in safe_of claims.1.1.0

  main_used : (slot : Slot) × IsUsed v main slot
  main_used = live_in_use v.sizes v.account sound.bounds main main_lives

  kind : is_branch_or_list main_used.0.node ≡ true
  kind =
      let claims = finds_now v l on n sound in
      branch_both main_used.0.node (subst (λ x. is_branch x ≡ true) (node_is (now v) main main_used.0 main_used.1) (meets_of claims.1.1.0))

  main_claimed : Contains (refs_of_claims (all_done_wants path main done)) main
  main_claimed = Contains-append_right path (main ∷ (done ++ main ∷ [])) main (Contains-get_or (main ∷ (done ++ main ∷ [])) 0 main (omega arith))

  main_at_hand : Contains (at_hand (now v) its) main
  main_at_hand =
      Contains-append_left (refs_of_claims (line_claims (now v) its)) its.private main
      (subst (λ (x : Line). Contains (refs_of_claims (line_claims (now v) (record its { line = x }))) main) (sym on.2) main_claimed)

  slot_entry : (k : Ref) → Contains kept k → Contains (entries_of main_used.0.node) k
  slot_entry k c = subst (λ x. Contains (entries_of x) k) (node_is (now v) main main_used.0 main_used.1) (stood k c)

  held : (k : Ref) → Contains kept k → Holds v k
  held k c = (its, on.1.1, inr (main, main_used.0, main_at_hand, main_used.1, slot_entry k c))

  names : (operation : Operation) → running v.sizes v.account v.actor operation → (k : Ref) → Contains (names_made (action_of (now v) operation)) k →
      Contains (owes_at operation) k ⊎ (Contains kept k ⊎ IsTakenOver v operation.line k)
  names operation runs k c =
      let is = line_is v l on operation (operation.is_marked, runs) in
      elim (each k (of_take 32 done k (subst (λ x. Contains (names_made (line_action (now v) operation x)) k) is c))) [
        | inl new ↦ inl (subst (λ x. Contains (owes_on operation.private x) k) (sym is) (own operation (operation.is_marked, runs) k new))
        | inr old ↦ inr (inl old)
      ]

  module _ (entries : List Entry) (to : AreEntriesTo v entries kept) where
    counting : MayHold v entries None
    counting = record {
      refs = kept;
      may = record {
        lead = record {
          named = to;
          used = λ k c. entry_there n v sound main main_used.0 main_used.1 kind k (slot_entry k c) main_lives;
          shared = λ k c. renew_shared n v sound (renew.Branch path main done) on k (stood k c);
        };
        held = held;
      };
      names = names;
    }

    pub renewal_holds : (is_own : Bool) → IsOwn v.account (current path) main is_own → MayReplace v is_own entries None
    renewal_holds true owns = taking_over owns
    renewal_holds false owns = counting

-- ---- in halves of words

module _ (n : ℕ) (v : View) (sound : IsSound n v) (entries : List Entry) (few : length entries ≤ 32) (bitmap : ℕ) (small : bitmap < 2 ^ 32) (making : IsAtBranch v bitmap entries)
    (says : Previous) (over : IsOver v says) where
  pub branch_fits : AreFit entries
  branch_fits = entries_fit n v sound (shape.Branch bitmap) entries (branch_at v entries few bitmap small making) says over

  pub branch_of_halves : IsAtMain v (shape.Branch bitmap) (entries_of_halves (halves_of entries))
  branch_of_halves = subst (IsAtMain v (shape.Branch bitmap)) (sym (codes_back entries branch_fits)) (branch_at v entries few bitmap small making)
