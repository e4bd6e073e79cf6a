-- KEY from a handle's root.
use Rattle.std.proofs.Common.{◌≡◌, ℕ, false, [], ◌∷◌, Some, refl, sym, ap, subst, ◌∙◌, arith}
use Rattle.std.proofs.lemmas.Bool.{true≢false}
use Rattle.history.specs.declared.calls.Access.{Access}
use Rattle.history.specs.declared.calls.Call.{Call}
use Rattle.history.specs.declared.calls.Call.TheVariants.{Get, Put, PutIfAbsent, Replace, ReplaceIf, Remove, RemoveIf, Clear, Snapshot, Freeze, Close, Entries, Count}
use Rattle.machine_model.specs.Beneath.ctrie_base.specs.Hashes.{hash_of}
use Rattle.machine_model.specs.Beneath.slot_arena.specs.declared.refs.Ref.{Ref}
use Rattle.machine_model.specs.declared.operations.Operation.{Operation}
use Rattle.machine_model.specs.Calls.{copies, key_of}
use Rattle.machine_model.specs.Finding.{going_down}
use Rattle.machine_model.specs.Lines.{new_try}
use Rattle.machine_model.specs.Operations.{from_root}
use Rattle.lock_free.specs.declared.rooting.Rooted.{Rooted}
use Rattle.lock_free.specs.declared.rules.View.{View}
use Rattle.lock_free.specs.declared.tasks.Task.{Task}
use Rattle.lock_free.specs.Descending.{IsOnPath, IsTask}
use Rattle.lock_free.specs.Holding.{IsOn}
use Rattle.lock_free.specs.Loading.{Runs, IsSound}
use Rattle.lock_free.specs.Rooting.{HasRooted, rooted}
use Rattle.lock_free.specs.Seeking.{IsCalled}
use Rattle.lock_free.specs.Stocks.{IsStock, Stocked}
use Rattle.lock_free.proofs.Comings.{runs_one}
use Rattle.lock_free.proofs.OnLines.{line_is}
use Rattle.lock_free.proofs.StockStays.{stock_later}

-- no call on a key copies the map
goes_from_root : (call : Call) (r : Ref) → copies call ≡ false → from_root call r ≡ going_down [] r
goes_from_root (Clear h) r keeps = absurd (true≢false keeps)
goes_from_root (Snapshot h) r keeps = absurd (true≢false keeps)
goes_from_root (Freeze h) r keeps = absurd (true≢false keeps)
goes_from_root (Get h k) r keeps = refl
goes_from_root (Put h k v) r keeps = refl
goes_from_root (PutIfAbsent h k v) r keeps = refl
goes_from_root (Replace h k v) r keeps = refl
goes_from_root (ReplaceIf h k a b) r keeps = refl
goes_from_root (Remove h k) r keeps = refl
goes_from_root (RemoveIf h k v) r keeps = refl
goes_from_root (Close h) r keeps = refl
goes_from_root (Entries h) r keeps = refl
goes_from_root (Count h) r keeps = refl

module _ (v : View) (on : IsOn v new_try) where
  module _ (call : Call) (access : Access) (calls : IsCalled v call access) where
    module _ (keyed : copies call ≡ false) (given : Rooted) (w : View) (h : HasRooted v given w) where
      abbrev next : Operation → Operation
      next o = record o { generation = Some given.generation; line = going_down [] h.root }

      comes : (o : Operation) → Runs v o → Runs w (next o)
      comes o r =
          subst (λ l. Runs w (record o { generation = Some given.generation; line = l })) (ap (λ c. from_root c h.root) (calls o r).0 ∙ goes_from_root call h.root keyed)
          (subst (λ l. Runs w (rooted h.root given.generation o l)) (line_is v new_try on o r) (h.comes o r))

      pub root_ready : IsOnPath w (given.slot ∷ [])
      root_ready = (h.root ∷ [], (next on.0, comes on.0 on.1, refl), (((h.at.slot, h.at.used), h.at.place), tt), omega arith)

      pub task_ready : (task : Task) → task.call ≡ call → task.access ≡ access → task.start ≡ given.generation → task.key ≡ key_of call → task.hash ≡ hash_of v.sizes.hash task.key → IsTask w task
      task_ready task call_is access_is start key_is hash = record {
        calls = λ q s. (let same = runs_one w q (next on.0) s (comes on.0 on.1) in
            let its = calls on.0 on.1 in (
              ap (λ (z : Operation). z.call) same ∙ its.0 ∙ sym call_is,
              ap (λ (z : Operation). z.access) same ∙ its.1 ∙ sym access_is,
              ap (λ (z : Operation). z.generation) same ∙ ap Some (sym start),
            ));
        key = key_is ∙ ap key_of (sym call_is);
        hash = hash ∙ ap (λ (x : View). hash_of x.sizes.hash task.key) (sym h.later.is);
      }

      pub stock_ready : (n : ℕ) → IsSound n v → (stock : Stocked) → IsStock stock v → IsStock stock w
      stock_ready n sound stock is = stock_later n v w sound on.0 on.1 stock is h.later (next on.0) (comes on.0 on.1) refl
