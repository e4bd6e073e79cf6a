-- The swap of a root, by handle: what the handle whose root is swapped, and the one that is opened, hold behind it.
use Rattle.std.proofs.Common.{◌≡◌, ℕ, suc, List, [], ◌∷◌, length, Option, Some, None, nat_cmp, refl, sym, ap, ◌∙◌, subst, arith}
use Rattle.std.proofs.lemmas.Option.{none-some}
use Rattle.std.specs.FinMap as map
use Rattle.proof_updates.specs.Vocabulary.{hash_of, Writable, ReadOnly, Call, Clear, Snapshot, Freeze, Ref, Descriptor, Root, Bounds, Outcome, Step, opened_root, content_at, State, root_at, root_of}
use Rattle.proof_updates.specs.Vocabulary.{Moves, IsRun, flag_of, value_by, value_in, find_at, counting_main, Trie, put_value, CarriesOut, IsSwap, Brings, snapshots, freezes, TakesSteps, StepsFit}
use Rattle.proof_updates.specs.Vocabulary.{Notes}
use Rattle.proof_updates.specs.Beneath.proof_contents.specs.Tries.{map_of}
use Rattle.proof_updates.specs.Beneath.proof_contents.proofs.Changes.Openings.{empty_says}
use Rattle.proof_updates.specs.Beneath.proof_contents.proofs.Values.Found.{found_below}
use Rattle.proof_order.specs.Openings.{clears}
use Rattle.proof_order.proofs.Openings.Brings.{swaps_bring}
use Rattle.proof_order.proofs.Openings.Carried as Carried
use Rattle.proof_order.proofs.Openings.NoLateCommit.{no_late_commit}
use Rattle.proof_order.proofs.Openings.SwapState.{offerer, offers}
use Rattle.proof_updates.specs.Laws.Handles.{HandleHolds}
use Rattle.proof_updates.specs.Touching.{CarriesOutCall}
use Rattle.proof_updates.proofs.Handles.Committing.{carries_nothing}
use Rattle.proof_updates.proofs.Handles.Kept.{trie, values_stay, content_later}
use Rattle.proof_updates.proofs.Handles.Roots.{swap_of, new_root}
use Rattle.proof_updates.proofs.Handles.Showing.{content_shown}
use Rattle.proof_updates.proofs.Handles.Values.{value_below}

nothing_listed : (pairs : List (ℕ × ℕ)) → length pairs ≡ 0 → pairs ≡ []
nothing_listed [] e = refl
nothing_listed (p ∷ pairs) e = absurd (omega (arith, e))

no_entries : map.entries (map.empty {K = ℕ} {X = ℕ} {R = nat_cmp}) ≡ []
no_entries = nothing_listed _ (sym (map.len-entries (map.empty {K = ℕ} {X = ℕ} {R = nat_cmp})) ∙ map.len-empty nat_cmp ℕ)

-- no values make the empty map
no_values : (keys : List ℕ) (f : ℕ → Option ℕ) → ((key : ℕ) → f key ≡ None) → map_of keys f ≡ map.empty
no_values [] f none = refl
no_values (key ∷ keys) f none = ap (λ o. put_value key o (map_of keys f)) (none key) ∙ no_values keys f none

module _ (limits : Bounds) (states : ℕ → State) (steps : ℕ → Step) (t : ℕ) (run : IsRun limits states (suc t)) (takes : TakesSteps states steps (suc t)) (keys : StepsFit steps (suc t))
    (s : Step) (o : Outcome) (m : Moves (states t) s o (states (suc t))) (notes : Notes states run.records t s) (on : ℕ) (offer : Descriptor) (carries : CarriesOut (states t) s on offer) where
  abbrev T : Trie
  T = trie limits states steps t run takes keys s o m notes

  abbrev swap : IsSwap states run.records (suc t) t on offer
  swap = swap_of run t (omega arith) s o m notes on offer carries

  abbrev old : Carried.IsOffered (states t) on offer
  old = Carried.root run t on offer swap

  -- ---- whose offer it is

  abbrev pub its_call : Call
  its_call = (offerer run t on offer swap).owner.call

  pub carries_call : (opens : Option ℕ) → offer.opens ≡ opens → CarriesOutCall (states t) s its_call opens
  carries_call opens e =
      let who = offerer run t on offer swap in
      record {
        handle = on;
        offer = offer;
        carries = carries;
        number = e;
        actor = suc who.k;
        operation = who.owner;
        runs = who.runs;
        its = sym (offers run t on offer swap).its;
        calls = refl;
      }

  pub brings : Brings states (suc t) t on offer its_call
  brings =
      let who = offerer run t on offer swap in
      swaps_bring run t on offer swap (suc who.k) who.owner who.runs (sym (offers run t on offer swap).its)

  -- ---- values behind the swap

  -- the old root keeps its values
  old_stays : (key : ℕ) → value_below T (suc t) (root_of old.root.word) key ≡ value_below T t (root_of old.root.word) key
  old_stays =
      values_stay limits states steps t run takes keys s o m notes on old.root old.is_open
      (λ own path former e reach. carries_nothing limits states run.records (suc t) t s on offer carries own)

  one_main : (a b : Ref) (key : ℕ) → counting_main states (suc t) (suc t) a ≡ counting_main states (suc t) (suc t) b → value_below T (suc t) a key ≡ value_below T (suc t) b key
  one_main a b key same =
      found_below T (T.main (suc t)) key 14 0 a ∙ ap (λ q. value_in T.node (T.main (suc t)) (hash_of T.kind) key 14 0 (T.node q)) same ∙ sym (found_below T (T.main (suc t)) key 14 0 b)

  -- a root over the expected node has the old root's values
  over_old : (r : Ref) → counting_main states (suc t) (suc t) r ≡ offer.expected → (key : ℕ) → value_below T (suc t) r key ≡ value_below T t (root_of old.root.word) key
  over_old r main key =
      one_main r (root_of old.root.word) key
      (main ∙ sym (no_late_commit run t on offer swap (suc t) (omega arith) (omega arith)) ∙ ap (counting_main states (suc t) (suc t)) (sym (ap root_of old.word)))
      ∙ old_stays key

  -- so a handle over it has the content of the handle copied
  pub copies : (r : Ref) → counting_main states (suc t) (suc t) r ≡ offer.expected → (handle : ℕ) (now : Root) → root_at (states (suc t)) handle ≡ Some now → root_of now.word ≡ r →
      content_at (states (suc t)) handle ≡ content_at (states t) on
  copies r main handle now at over =
      content_later limits states steps t run takes keys s o m notes on old.root old.is_open handle now at
      (λ key. ap (λ q. value_below T (suc t) q key) over ∙ over_old r main key)

  -- ---- by the call

  pub copied_root : (call : Call) → Brings states (suc t) t on offer call → (call ≡ Clear on → ⊥) → counting_main states (suc t) (suc t) offer.successor ≡ offer.expected
  copied_root call (clears opens new empty) other = absurd (other refl)
  copied_root call (snapshots n second opens is first main copy its) other = main
  copied_root call (freezes n opens none first main) other = main

  pub cleared : (call : Call) → Brings states (suc t) t on offer call → (handle : ℕ) → call ≡ Clear handle → HandleHolds (states (suc t)) handle Writable []
  cleared call (clears opens new empty) handle e =
      let same : on ≡ handle = cc e in
      let stands = new_root run t (omega arith) s o m notes on offer carries in
      subst (λ h. HandleHolds (states (suc t)) h Writable []) same (record {
        root = stands.root;
        is_open = stands.is_open;
        kind = stands.kind;
        content = content_shown steps run takes keys (suc t) (omega arith) on stands.root stands.is_open
            ∙ ap map.entries (no_values T.keys _ (λ key. nothing stands.over key)) ∙ no_entries;
      })
    where
      nothing : {r : Ref} → r ≡ offer.successor → (key : ℕ) → value_below T (suc t) r key ≡ None
      nothing {r} over key =
          ap (λ q. value_below T (suc t) q key) over ∙ found_below T (T.main (suc t)) key 14 0 offer.successor
          ∙ ap (λ n. value_in T.node (T.main (suc t)) (hash_of T.kind) key 14 0 n) empty
          ∙ ap (value_by (find_at T.node (T.main (suc t)) (hash_of T.kind) key 14 1)) (empty_says T.node (flag_of (hash_of T.kind key) 0) key)
  cleared call (snapshots n second opens is first main copy its) handle e = absurd (let wrong : ⊥ = cc e in wrong)
  cleared call (freezes n opens none first main) handle e = absurd (let wrong : ⊥ = cc e in wrong)

  -- what is opened is a copy
  pub data Copied (handle : ℕ) (call : Call) : Type 0 where
    by_snapshot : call ≡ Snapshot on → HandleHolds (states (suc t)) handle Writable (content_at (states t) on) → Copied handle call
    by_freeze : call ≡ Freeze on → HandleHolds (states (suc t)) handle ReadOnly (content_at (states t) on) → Copied handle call

  pub copied : (call : Call) → Brings states (suc t) t on offer call → (handle : ℕ) → offer.opens ≡ Some handle →
      root_at (states (suc t)) handle ≡ Some (opened_root offer offer.second) → Copied handle call
  copied call (clears opens new empty) handle e now = absurd (none-some handle (sym opens ∙ e))
  copied call (snapshots n second opens is first main copy its) handle e now =
      let at = now ∙ ap (λ x. Some (opened_root offer x)) is in
      by_snapshot refl (record { root = opened_root offer (Some second); is_open = at; kind = refl; content = copies second its handle (opened_root offer (Some second)) at refl })
  copied call (freezes n opens none first main) handle e now =
      let at = now ∙ ap (λ x. Some (opened_root offer x)) none in
      by_freeze refl (record {
        root = opened_root offer None;
        is_open = at;
        kind = refl;
        content = copies offer.root (no_late_commit run t on offer swap (suc t) (omega arith) (omega arith)) handle (opened_root offer None) at refl;
      })
