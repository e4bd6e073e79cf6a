-- A SWAP that has missed: what of the fresh main node's names the seat is to let go of, and what it was to take over.
use Rattle.std.proofs.Common.{◌≡◌, ◌∷◌, ℕ, Bool, true, false, inl, inr, List, [], Contains, Some, map, refl, sym, ap, subst, ◌∙◌}
use Rattle.std.proofs.lemmas.Option.{none-some}
use Rattle.trie_words.specs.declared.links.Link.{Link}
use Rattle.machine_model.specs.Beneath.slot_arena.specs.declared.refs.Ref.{Ref}
use Rattle.machine_model.specs.Beneath.slot_arena.specs.Heaps.{node_at}
use Rattle.machine_model.specs.declared.operations.Operation.{Operation}
use Rattle.machine_model.specs.declared.reading.Swap.{Swap}
use Rattle.machine_model.specs.declared.reading.SwapLine.TheVariants as swap
use Rattle.proof_memory.specs.Wants.{is_main_node}
use Rattle.proof_memory.proofs.Claims.Uses.{meets_of, safe_of}
use Rattle.lock_free.specs.declared.rules.View.{View}
use Rattle.lock_free.specs.declared.stock.OwnNode.{OwnNode}
use Rattle.lock_free.specs.declared.swapping.Swapped.TheVariants.{Misses}
use Rattle.lock_free.specs.Accounts.{place_of, running, IsOwn}
use Rattle.lock_free.specs.LettingGo.{names_of, HasItself}
use Rattle.lock_free.specs.LettingMadeGo.{fresh_left, kept_over, slots_kept, KeepsNamed, MayLetMadeGo}
use Rattle.lock_free.specs.Live.{IsLive}
use Rattle.lock_free.specs.Loading.{now, seen, IsSound}
use Rattle.lock_free.specs.Passing.{Later}
use Rattle.lock_free.specs.Stocks.{Stocked, IsStock, made_of, own_of}
use Rattle.lock_free.specs.Swaps.{HasSwapDone, HoldsSwapped, IsAtSwap}
use Rattle.lock_free.proofs.Asked.{live_in_use}
use Rattle.lock_free.proofs.Followings.{follows_later}
use Rattle.lock_free.proofs.Laters.{waited_later}
use Rattle.lock_free.proofs.Led.{named_known}
use Rattle.lock_free.proofs.NamesStay.{swap_live, swap_names}
use Rattle.lock_free.proofs.NewNodes.{all_made_same, own_used}
use Rattle.lock_free.proofs.OneStep.Found.{live_used}
use Rattle.lock_free.proofs.SwapsMade.{missed_become}

module _ (n : ℕ) (v w : View) (sound : IsSound n v) (last : IsSound n w) (name : ℕ) (link : Link) (class fresh : ℕ) (at : IsAtSwap v name link class fresh) (done : HasSwapDone v Misses w)
    (holds : HoldsSwapped v Misses w) where
  abbrev gone : Operation
  gone = at.4.0

  runs : running v.sizes v.account v.actor (record gone { is_marked = at.4.1.0 })
  runs = at.4.1.1

  -- as it stood then
  abbrev then : View
  then = seen v holds.0

  later : Later v then
  later = waited_later n v sound holds.0 holds.1

  abbrev its : Swap
  its = record { indirection = at.1; replaced = at.2; fresh = at.3; line = swap.Publish }

  replaced_live : IsLive (now v) at.2 × (is_main_node (node_at (now v).heap at.2) ≡ true)
  replaced_live = let all = swap_live v.sizes v.account sound.bounds v.actor (record gone { is_marked = at.4.1.0 }) runs at.0 its at.4.2 in (safe_of all.1.0, meets_of all.1.0)

  -- what the replaced one names stays where it is
  named_place : (k : Ref) → Contains (names_of v at.2) k → place_of w.account k ≡ place_of v.account k
  named_place k c =
      let lives = named_known v.sizes v.account sound.bounds (λ id. Unit {0}) at.2 k replaced_live.0 (live_used v.sizes v.account sound.bounds at.2 replaced_live.0) c in
      let used = live_in_use v.sizes v.account sound.bounds k lives in
      (missed_become n v w sound last at.0 at.1 at.2 at.3 at.4 done).follows.places k used.0 used.1

  named_then : (k : Ref) → Contains (names_of then at.2) k → Contains (names_of v at.2) k
  named_then k c =
      subst (λ ks. Contains ks k) (swap_names v then (follows_later v then later) sound.bounds (record gone { is_marked = at.4.1.0 }) runs at.0 its at.4.2 at.2 replaced_live.0 replaced_live.1) c

  itself_so : (x k : Ref) (own : Bool) (kept : List ℕ) → link.main.own ≡ own → KeepsNamed v kept → fresh_left own kept fresh ≡ Some (place_of then.account x) →
      ¬ Contains (slots_kept (kept_over own kept)) (place_of w.account k) → HasItself then gone.line x k
  itself_so x k true [] is keeps e apart = absurd (none-some _ e)
  itself_so x k true (first ∷ kept) is keeps e apart =
      subst (λ l. HasItself then l x k) (sym at.4.2)
      (inr (inr (λ named.
      (let before = named_then k named in apart (subst (Contains (slots_kept (first ∷ kept))) (sym (named_place k before)) (keeps at.0 at.1 at.2 at.3 at.4 k before))))))
  itself_so x k false kept is keeps e apart = subst (λ l. HasItself then l x k) (sym at.4.2) (inr (inl (later.owns at.1 at.2 false (subst (IsOwn v.account at.1 at.2) is at.6.is.names.is_own))))

  same_made : map (made_of then) gone.private ≡ map (made_of v) gone.private
  same_made = all_made_same v then (follows_later v then later) gone.private (own_used n v sound (record gone { is_marked = at.4.1.0 }) runs)

  -- what was made for it is let go of, as far as it named others
  pub missed_may : (kept : List ℕ) → KeepsNamed v kept → (stock : Stocked) → IsStock stock v → (made : List OwnNode) → made ≡ stock.made →
      MayLetMadeGo w made (fresh_left link.main.own kept fresh) (slots_kept (kept_over link.main.own kept))
  missed_may kept keeps stock is made same = record {
    before = then;
    private = gone.private;
    on = gone.line;
    made_is = same ∙ is.made ∙ ap (λ x. map (made_of v) (own_of x)) runs ∙ sym same_made;
    dropped = holds.2 gone at.4.1;
    covers = λ x k c e named apart. itself_so x k link.main.own kept refl keeps e apart;
  }
