-- What a seat holds at the end of its SWAP, in words of what nodes name.
use Rattle.history.specs.declared.calls.Call.{Call}
use Rattle.std.proofs.Common.{◌≡◌, ◌≢◌, ◌&&◌, inl, inr, ℕ, Bool, true, false, List, Contains, sym, ap, subst, ◌∙◌, refl}
use Rattle.std.proofs.lemmas.Bool.{cases_Bool}
use mathlib.Core.Option.{some}
use lib.ListN.{get_elem?}
use Rattle.atomic_table.specs.Table as Table
use Rattle.machine_model.specs.Beneath.slot_arena.specs.declared.nodes.Prev.TheVariants as prev
use Rattle.machine_model.specs.Beneath.slot_arena.specs.declared.refs.Ref.{Ref}
use Rattle.machine_model.specs.Beneath.slot_arena.specs.Heaps.{node_at, prev_at, refs_of_node}
use Rattle.machine_model.specs.Beneath.slot_arena.specs.Refs.{slot_of}
use Rattle.machine_model.specs.declared.lines.Line.TheVariants as line
use Rattle.machine_model.specs.declared.operations.Operation.{Operation}
use Rattle.machine_model.specs.declared.reading.SwapLine.TheVariants as swap
use Rattle.machine_model.specs.States.{State}
use Rattle.proof_claims.proofs.Lists.{among}
use Rattle.proof_claims.specs.Held.{Held, is_owned}
use Rattle.proof_claims.specs.Left.{names, takes_over}
use Rattle.lock_free.specs.declared.accounts.Account.{Account}
use Rattle.lock_free.specs.declared.rules.View.{View}
use Rattle.lock_free.specs.Accounts.{running, state_of, IsOwn}
use Rattle.lock_free.specs.Claims.{held_now}
use Rattle.lock_free.specs.LettingGo.{names_of, taken_over, HoldsLeft}
use Rattle.lock_free.specs.Reclaiming.{IsChecking}
use Rattle.lock_free.specs.Rules.{IsKept}
use Rattle.lock_free.proofs.Moments.{before, still_own}
use Rattle.lock_free.proofs.NamesStay.{names_same}
use Rattle.lock_free.proofs.OneStep.Found.{live_used}
use Rattle.lock_free.proofs.SwapChecks.{failed_has, fresh_lives, fresh_main, given, link_is, own_has, replaced_lives, replaced_main, shared_has}

module _ (v : View) (s : Table.State Call View) (kept : IsKept v.sizes s) (id : ℕ) (at : get_elem? s.views id ≡ some v) (i m f : Ref) (own : Bool) (p : IsChecking v i m f)
    (owned : IsOwn v.account i m own) (o : Operation) (runs : running v.sizes kept.account v.actor o)
    (e : o.line ≡ line.Swap p.why (record { indirection = i; replaced = m; fresh = f; line = swap.Check })) where
  abbrev there : Account
  there = kept.account

  abbrev state : State
  state = state_of v.sizes there

  abbrev held : Held
  held = held_now v.sizes there

  pub owned_now : is_owned (held_now v.sizes kept.account) i m ≡ own
  owned_now =
      kept.held.owns i m own (link_is v.sizes there kept.bounds v.actor o runs p.why i m f e)
      (live_used v.sizes there kept.bounds m (replaced_lives v.sizes there kept.bounds v.actor o runs p.why i m f e)) (still_own v s kept id at (slot_of i) (slot_of m) own owned)

  replaced_names : names_of v m ≡ refs_of_node (node_at state.heap m)
  replaced_names =
      names_same v s kept id at m (replaced_lives v.sizes v.account (before v s kept id at) v.actor p.operation p.runs p.why i m f p.line_is)
      (replaced_main v.sizes v.account (before v s kept id at) v.actor p.operation p.runs p.why i m f p.line_is)

  fresh_names : names_of v f ≡ refs_of_node (node_at state.heap f)
  fresh_names =
      names_same v s kept id at f (fresh_lives v.sizes v.account (before v s kept id at) v.actor p.operation p.runs p.why i m f p.line_is)
      (fresh_main v.sizes v.account (before v s kept id at) v.actor p.operation p.runs p.why i m f p.line_is)

  over_none : (k : Ref) → (b : Bool) → own ≡ b → (Contains (taken_over v b m) k → ⊥) → takes_over state held i m k ≡ false
  over_none k true is apart =
      ap (λ b. b && names state m k) (owned_now ∙ is)
      ∙ (elim (cases_Bool (names state m k)) [
        | inl named ↦ absurd (apart (subst (λ ks. Contains ks k) (sym replaced_names) (among (refs_of_node (node_at state.heap m)) k named)))
        | inr other ↦ other
      ])
  over_none k false is apart = ap (λ b. b && names state m k) (owned_now ∙ is)

  -- where it holds what it is given
  module _ (owed : List Ref) (holds : (k : Ref) → Contains (given v.sizes kept.account kept.bounds v.actor o runs p.why i m f e) k → Contains owed k) where
    pub held_own : prev_at (state_of v.sizes kept.account).heap f ≡ prev.None → own ≡ true → HoldsLeft v own m f true owed
    held_own decided is =
        subst (λ b. HoldsLeft v b m f true owed) (sym is)
        (λ k has apart. holds k
        (own_has v.sizes there kept.bounds v.actor o runs p.why i m f e kept.keys decided (owned_now ∙ is) k (subst (λ ks. Contains ks k) replaced_names has)
        (λ c. apart (subst (λ ks. Contains ks k) (sym fresh_names) c))))

    pub held_shared : prev_at (state_of v.sizes kept.account).heap f ≡ prev.None → own ≡ false → HoldsLeft v own m f true owed
    held_shared decided is =
        subst (λ b. HoldsLeft v b m f true owed) (sym is) (holds m (shared_has v.sizes there kept.bounds v.actor o runs p.why i m f e kept.keys decided (owned_now ∙ is)))

    pub held_refused : prev_at (state_of v.sizes kept.account).heap f ≢ prev.None → HoldsLeft v own m f false owed
    held_refused undecided k has apart =
        holds k
        (failed_has v.sizes there kept.bounds v.actor o runs p.why i m f e kept.keys undecided k (subst (λ ks. Contains ks k) fresh_names has) (over_none k own refl apart))
