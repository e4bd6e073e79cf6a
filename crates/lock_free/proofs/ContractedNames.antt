-- What a main node names that is made once tombs have given way: their singles, and entries of the one before, which it takes over, or which are shared.
use Rattle.std.proofs.Common.{◌≡◌, ◌⊎◌, ◌∙◌, inl, inr, ℕ, Bool, true, false, List, Contains, None, Some, refl, sym, ap, subst}
use Rattle.std.proofs.lemmas.Option.{same_Some}
use Rattle.nodes.specs.Builders.{contracted}
use Rattle.trie_words.specs.declared.entries.Entry.{Entry}
use Rattle.trie_words.specs.declared.names.Name.{Name}
use Rattle.machine_model.specs.Beneath.slot_arena.specs.declared.nodes.Slot.{Slot}
use Rattle.machine_model.specs.Beneath.slot_arena.specs.declared.refs.Ref.{Ref}
use Rattle.machine_model.specs.Beneath.slot_arena.specs.Heaps.{entries_of, node_at}
use Rattle.machine_model.specs.declared.actions.Action.TheVariants as act
use Rattle.machine_model.specs.declared.lines.Line.{Line}
use Rattle.machine_model.specs.declared.operations.Operation.{Operation}
use Rattle.machine_model.specs.Operations.{action_of}
use Rattle.proof_claims.specs.Beneath.proof_fresh.proofs.Lines.{named_entry}
use Rattle.proof_claims.specs.Changes.{goal_of}
use Rattle.proof_linearizable.specs.Beneath.proof_shape.proofs.Runs.Entries.{contracted_entries}
use Rattle.proof_memory.proofs.Lines.Next.{contracted_no_link}
use Rattle.proof_memory.specs.Wants.{is_entry}
use Rattle.lock_free.specs.declared.rules.View.{View}
use Rattle.lock_free.specs.Accounts.{running, IsOwn}
use Rattle.lock_free.specs.Contracting.{counted_in}
use Rattle.lock_free.specs.Exchanging.{IsNamed}
use Rattle.lock_free.specs.Holding.{IsOn}
use Rattle.lock_free.specs.Loading.{now, Holds, IsAt, IsUsed}
use Rattle.lock_free.specs.Owing.{names_made, IsTakenOver}
use Rattle.lock_free.specs.Raising.{IsShared, MayHold, MayRaise}
use Rattle.lock_free.specs.SeenEntries.{AreEntriesTo}
use Rattle.lock_free.proofs.LastingNodes.{entry_named}
use Rattle.lock_free.proofs.OnLines.{line_is}

module _ (v : View) (l : Line) (at : IsOn v l) (i main : Ref) (goes : goal_of l ≡ Some (i, main)) (name : Name) (names : IsNamed v i main name)
    (entombs : Bool) (bitmap : ℕ) (refs : List Ref) (making : IsAt v (act.Make (contracted entombs bitmap refs)))
    (used : (k : Ref) → Contains refs k → (slot : Slot) × IsUsed v k slot × (is_entry slot.node ≡ true)) (held : (k : Ref) → Contains refs k → Holds v k) (shared : (k : Ref) → IsShared v k)
    (freed : List Ref) (among : (k : Ref) → Contains freed k → Contains refs k)
    (others : (k : Ref) → Contains refs k → Contains freed k ⊎ Contains (entries_of (node_at (now v).heap main)) k) where
  named : (operation : Operation) → running v.sizes v.account v.actor operation → (k : Ref) → Contains (names_made (action_of (now v) operation)) k → Contains refs k
  named operation runs k c =
      let same = same_Some making.operation operation (sym making.runs ∙ runs) in
      contracted_entries entombs bitmap refs k (named_entry (contracted entombs bitmap refs) (contracted_no_link entombs bitmap refs) k
      (subst (λ ks. Contains ks k) (ap names_made (ap (action_of (now v)) (sym same) ∙ making.acts)) c))

  taken_over : name.own ≡ true → (operation : Operation) → running v.sizes v.account v.actor operation → (k : Ref) → Contains (entries_of (node_at (now v).heap main)) k →
      IsTakenOver v operation.line k
  taken_over own operation runs k c = (
    i,
    main,
    ap goal_of (line_is v l at operation (operation.is_marked, runs)) ∙ goes,
    subst (λ b. IsOwn v.account i main b) own names.is_own,
    entry_named (node_at (now v).heap main) k c,
  )

  may_raise : (entries : List Entry) (ks : List Ref) → ((k : Ref) → Contains ks k → Contains refs k) → AreEntriesTo v entries ks → MayRaise v entries None ks
  may_raise entries ks within to = record {
    lead = record { named = to; used = λ k c. used k (within k c); shared = λ k c. shared k };
    held = λ k c. held k (within k c);
  }

  pub contracted_holds : (entries singles : List Entry) → AreEntriesTo v entries refs → AreEntriesTo v singles freed → MayHold v (counted_in name.own entries singles) None
  contracted_holds entries singles to freed_to = by name.own refl
    where
      by : (own : Bool) → name.own ≡ own → MayHold v (counted_in own entries singles) None
      by true is = record {
        refs = freed;
        may = may_raise singles freed among freed_to;
        names = λ operation runs k c. elim (others k (named operation runs k c)) [
          | inl one ↦ inr (inl one)
          | inr stays ↦ inr (inr (taken_over is operation runs k stays))
        ];
      }
      by false is = record {
        refs = refs;
        may = may_raise entries refs (λ k c. c) to;
        names = λ operation runs k c. inr (inl (named operation runs k c));
      }
