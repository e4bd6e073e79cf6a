-- A SWAP before which it is seen what the main node names that is to be replaced.
use Rattle.std.proofs.Common.{◌≡◌, ◌∷◌, ℕ, Bool, true, false, inl, List, [], Contains, map, refl, sym, ap, ap₂, subst, ◌∙◌, arith}
use Rattle.std.proofs.lemmas.List.Elements.{Contains-append_left}
use Rattle.trie_words.specs.Codes.{entry_of}
use Rattle.trie_words.specs.declared.entries.Entry.{Entry}
use Rattle.trie_words.specs.declared.links.Link.{Link}
use Rattle.machine_model.specs.Beneath.slot_arena.specs.declared.refs.Ref.{Ref}
use Rattle.machine_model.specs.Beneath.slot_arena.specs.declared.nodes.Slot.{Slot}
use Rattle.machine_model.specs.Beneath.slot_arena.specs.Heaps.{node_at}
use Rattle.machine_model.specs.declared.lines.Line.{Line}
use Rattle.machine_model.specs.declared.lines.Line.TheVariants as line
use Rattle.machine_model.specs.declared.lines.Purpose.{Purpose}
use Rattle.machine_model.specs.declared.operations.Operation.{Operation}
use Rattle.machine_model.specs.declared.reading.Swap.{Swap}
use Rattle.machine_model.specs.declared.reading.SwapLine.TheVariants as swap
use Rattle.proof_memory.specs.Wants.{AllHold, is_main_node, line_wants, swap_wants}
use Rattle.proof_memory.proofs.Claims.Uses.{meets_of, safe_of}
use Rattle.lock_free.specs.declared.leaving.Swapping.{Swapping}
use Rattle.lock_free.specs.declared.reading.Way.{Way}
use Rattle.lock_free.specs.declared.rules.View.{View}
use Rattle.lock_free.specs.declared.swapping.Swapped.{Swapped}
use Rattle.lock_free.specs.Accounts.{place_of}
use Rattle.lock_free.specs.Entries.{HasStayed}
use Rattle.lock_free.specs.Halves.{entries_of_halves}
use Rattle.lock_free.specs.Leaving.{HasLeftSwap}
use Rattle.lock_free.specs.LettingGo.{names_of, taken_over}
use Rattle.lock_free.specs.LettingMadeGo.{slots_kept, KeepsNamed}
use Rattle.lock_free.specs.Live.{line_claims, refs_of_claims, IsLive}
use Rattle.lock_free.specs.Loading.{now, Holds, Runs, IsSound}
use Rattle.lock_free.specs.Passing.{IsOnWay}
use Rattle.lock_free.specs.SeenEntries.{AreEntriesTo, entry_to, unowned}
use Rattle.lock_free.specs.SeenNames.{HasSeenTaken, HoldsMain, IsMainIn}
use Rattle.lock_free.specs.Stocks.{HasSwapped}
use Rattle.lock_free.specs.Swaps.{is_done, swap_done, IsAtSwap, IsSwapping}
use Rattle.lock_free.proofs.Asked.{live_in_use}
use Rattle.lock_free.proofs.Comings.{runs_one}
use Rattle.lock_free.proofs.Followings.{follows_both, follows_later, main_node_on}
use Rattle.lock_free.proofs.GivenBack.{node_is}
use Rattle.lock_free.proofs.Laters.{link_later, placed_later}
use Rattle.lock_free.proofs.NamesStay.{names_on, swap_live}
use Rattle.lock_free.proofs.NewNodes.{class_on}
use Rattle.lock_free.proofs.Pools.{contains_map}
use Rattle.lock_free.proofs.Rootings.{on_then}
use Rattle.lock_free.proofs.RunningOn.{runs_on_both, runs_on_stayed}

-- the slots of entries that lead to these
slots_are : (w : View) (halves : List ℕ) (refs : List Ref) → AreEntriesTo w (entries_of_halves halves) refs → slots_kept halves ≡ map (place_of w.account) refs
slots_are w [] [] e = refl
slots_are w [] (r ∷ refs) e = let wrong : ⊥ = cc e in absurd wrong
slots_are w (x ∷ halves) [] e = let wrong : ⊥ = cc e in absurd wrong
slots_are w (x ∷ halves) (r ∷ refs) e =
    let first : unowned (entry_of x) ≡ entry_to w r = cc e in
    let rest : map unowned (entries_of_halves halves) ≡ map (entry_to w) refs = cc e in
    ap₂ (λ n ns. n ∷ ns) (ap (λ (y : Entry). y.slot) first) (slots_are w halves refs rest)

-- an operation is at one SWAP
abbrev swap_in : Purpose × Ref × Ref × Ref → Line → Purpose × Ref × Ref × Ref
swap_in other (line.Swap y z) = (y, z.indirection, z.replaced, z.fresh)
swap_in other l = other

module _ (n : ℕ) (v : View) (sound : IsSound n v) (name : ℕ) (link : Link) (class fresh : ℕ) (at : IsAtSwap v name link class fresh) where
  abbrev m : Ref
  m = at.2

  abbrev p : Operation
  p = record at.4.0 { is_marked = at.4.1.0 }

  abbrev its : Swap
  its = record { indirection = at.1; replaced = m; fresh = at.3; line = swap.Publish }

  lives : AllHold (IsLive (now v)) (now v).heap (swap_wants its)
  lives = swap_live v.sizes v.account sound.bounds v.actor p at.4.1.1 at.0 its at.4.2

  its_main : is_main_node (node_at (now v).heap m) ≡ true
  its_main = meets_of lives.1.0

  hand : Holds v m
  hand = (
    p,
    at.4.1.1,
    inl (Contains-append_left (refs_of_claims (line_claims (now v) p)) p.private m
        (subst (λ l. Contains (refs_of_claims (line_wants (now v).limits.hash p.call p.access l)) m) (sym at.4.2) (1, omega arith, refl))),
  )

  abbrev its_slot : Slot
  its_slot = at.6.main_used.0

  its_in : IsMainIn v link.main.slot m its_slot
  its_in = let used = at.6.main_used in (hand, used.1, sym (ap is_main_node (node_is (now v) m used.0 used.1)) ∙ its_main, at.6.is.names.place)

  pub main_held : HoldsMain v link.main.slot
  main_held = (m, its_slot, its_in)

  module _ (w : View) (stayed : HasStayed v w) where
    swapping_then : (why : Purpose) (i a f : Ref) → IsSwapping v why i a f → IsSwapping w why i a f
    swapping_then why i a f (o, runs, on) = (o, stayed.comes o runs, on)

    pub swap_then : IsAtSwap w name link class fresh
    swap_then = (
      at.0,
      at.1,
      m,
      at.3,
      swapping_then at.0 at.1 m at.3 at.4,
      placed_later v w stayed.later at.1 name at.5,
      link_later v w stayed.later at.1 m link at.6,
      placed_later v w stayed.later at.3 fresh at.7,
      class_on v w (follows_later v w stayed.later) m at.6.main_used ∙ at.8,
    )

    pub way_then : (way : Way) → IsOnWay v way → IsOnWay w way
    way_then way on = on_then v w way at.4.0 at.4.1 at.4.0 (stayed.comes at.4.0 at.4.1) refl refl on

    pub swapped_since : (result : Swapped) (z : View) → HasSwapped w result z → HasSwapped v result z
    swapped_since result z h why i a f s =
        let lives = swap_live v.sizes v.account sound.bounds v.actor (record s.0 { is_marked = s.1.0 }) s.1.1 why (record { indirection = i; replaced = a; fresh = f; line = swap.Publish }) s.2 in
        let used = live_in_use v.sizes v.account sound.bounds f (safe_of lives.1.1.0) in
        let goes_on = follows_later v w stayed.later in
        let node = main_node_on v w goes_on f used.0 used.1 (sym (ap is_main_node (node_is (now v) f used.0 used.1)) ∙ meets_of lives.1.1.0) in
        let so = h why i a f (swapping_then why i a f s) in
        record { follows = follows_both v w z goes_on so.follows; comes = λ o r. subst (λ k. Runs z (swap_done why k (is_done result) o)) node (so.comes o (stayed.comes o r)) }

    pub left_since : (s : Swapping) (z : View) → HasLeftSwap w s z → HasLeftSwap v s z
    left_since s z h = record {
      on = runs_on_both v w z (runs_on_stayed v w stayed) h.on;
      pool = h.pool ∙ ap (λ (x : View). x.pool) stayed.later.is;
      retired = h.retired ∙ ap (λ (x : View). x.retired) stayed.later.is;
      its = λ why i a f at_swap. h.its why i a f (swapping_then why i a f at_swap);
    }

  -- what it names was seen
  module _ (w : View) (halves : List ℕ) (saw : HasSeenTaken v link.main (entries_of_halves halves) w) where
    keeps : (own : Bool) → link.main.own ≡ own → (kept : List ℕ) → AreEntriesTo w (entries_of_halves kept) (taken_over v own m) → KeepsNamed w kept
    keeps own is [] e = tt
    keeps false is (x ∷ kept) e = let wrong : ⊥ = cc e in absurd wrong
    keeps true is (x ∷ kept) e = all
      where
        names_then : names_of w m ≡ names_of v m
        names_then = names_on v w (follows_later v w saw.0.later) m at.6.main_used its_main

        all : (why : Purpose) (i a f : Ref) → IsSwapping w why i a f → (k : Ref) → Contains (names_of w a) k → Contains (slots_kept (x ∷ kept)) (place_of w.account k)
        all why i a f s k c =
            let same = ap (swap_in (why, i, a, f)) (sym s.2 ∙ ap (λ (z : Operation). z.line) (runs_one w s.0 at.4.0 s.1 (saw.0.comes at.4.0 at.4.1)) ∙ at.4.2) in
            let there = subst (λ (z : Purpose × Ref × Ref × Ref). Contains (names_of w z.2) k) same c in
            let here = subst (λ ks. Contains ks k) names_then there in
            subst (λ ns. Contains ns (place_of w.account k)) (sym (slots_are w (x ∷ kept) (names_of v m) e)) (contains_map (place_of w.account) (names_of v m) k here)

    pub keeps_named : KeepsNamed w halves
    keeps_named = keeps link.main.own refl halves (saw.1 m its_slot its_in)
