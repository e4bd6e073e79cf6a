-- KEY holds the main node at an entry of which it looks.
use Rattle.std.proofs.Common.{◌≡◌, ◌<◌, ◌-◌, inl, inr, ℕ, true, List, [], ◌∷◌, ◌++◌, Contains, get_or, length, Option, Some, refl, sym, ap, subst, arith, ltb-true}
use Rattle.std.proofs.lemmas.Bool.{true≢false}
use Rattle.std.proofs.lemmas.List.Elements.{Contains-get_or, Contains-append_left, Contains-append_right}
use Rattle.std.proofs.lemmas.Option.{none-some, same_Some}
use Rattle.history.specs.declared.calls.Access.{Access}
use Rattle.history.specs.declared.calls.Access.TheVariants.{Writable, ReadOnly}
use Rattle.machine_model.specs.Beneath.slot_arena.specs.declared.refs.Ref.{Ref}
use Rattle.machine_model.specs.Beneath.slot_arena.specs.declared.nodes.Node.{Node}
use Rattle.machine_model.specs.Beneath.slot_arena.specs.declared.nodes.Node.TheVariants.{Indirection, Branch, Single, Tomb, List as Listed}
use Rattle.machine_model.specs.Beneath.slot_arena.specs.declared.nodes.Slot.{Slot}
use Rattle.machine_model.specs.Beneath.slot_arena.specs.Heaps.{no_ref, node_at, entries_of}
use Rattle.machine_model.specs.declared.building.BuildLine.TheVariants as build
use Rattle.machine_model.specs.declared.building.Change.{Change}
use Rattle.machine_model.specs.declared.building.Change.TheVariants as change
use Rattle.machine_model.specs.declared.building.Site.{Site}
use Rattle.machine_model.specs.declared.finding.KeyLine.{KeyLine}
use Rattle.machine_model.specs.declared.finding.KeyLine.TheVariants as key
use Rattle.machine_model.specs.declared.lines.Line.{Line}
use Rattle.machine_model.specs.declared.lines.Line.TheVariants as line
use Rattle.machine_model.specs.declared.operations.Operation.{Operation}
use Rattle.proof_memory.specs.Wants.{AllHold, Holds as Claims, Is, Wanted, ABranch, ASingle, BranchOrList, TombOrList, WithEntry}
use Rattle.proof_memory.specs.Wants.{change_wants, flag_on, line_wants, listed, meets, site_wants, is_main_node, is_branch, is_branch_or_list, is_entry}
use Rattle.proof_memory.proofs.Claims.Nodes.{branch_main, branch_both, both_main}
use Rattle.proof_memory.proofs.Claims.Uses.{safe_of, meets_of}
use Rattle.lock_free.specs.declared.rules.View.{View}
use Rattle.lock_free.specs.Accounts.{place_of}
use Rattle.lock_free.specs.Descending.{IsInside}
use Rattle.lock_free.specs.Entries.{entry_in, HoldsEntry}
use Rattle.lock_free.specs.GoingDown.{IsAtKey, sought_in}
use Rattle.lock_free.specs.Holding.{IsOn}
use Rattle.lock_free.specs.Live.{IsLive, line_claims, refs_of_claims, at_hand}
use Rattle.lock_free.specs.Loading.{now, IsUsed, IsSound, Holds, HasPosition}
use Rattle.lock_free.specs.Passing.{Later}
use Rattle.lock_free.proofs.Asked.{live_in_use}
use Rattle.lock_free.specs.Nodes.{is_single}
use Rattle.lock_free.proofs.EntryLooks.{entry_inside, entry_used, node_stays}
use Rattle.lock_free.proofs.GivenBack.{node_is}
use Rattle.lock_free.proofs.KeyMoves.{hash_is}
use Rattle.lock_free.proofs.OnLines.{finds_now}
use Rattle.lock_free.proofs.OneStep.Entries.{entry_stands, listed_stands}

listed_main : (access : Access) (node : Node) → meets (listed access) node ≡ true → is_main_node node ≡ true
listed_main access (Branch bitmap entries) is = refl
listed_main access (Tomb single) is = refl
listed_main access (Listed singles) is = refl
listed_main Writable (Indirection generation main) is = absurd (true≢false (sym is))
listed_main Writable (Single key value) is = absurd (true≢false (sym is))
listed_main ReadOnly (Indirection generation main) is = absurd (true≢false (sym is))
listed_main ReadOnly (Single key value) is = absurd (true≢false (sym is))

-- the main node, and the entry
pub record LooksIn (v : View) (main : Ref) (position : ℕ) : Type 0 where
  pub slot : Slot
  pub used : IsUsed v main slot
  pub lives : IsLive (now v) main
  pub is_main : is_main_node slot.node ≡ true
  pub inside : position < length (entries_of slot.node)
  pub holds : Holds v main
  pub holds_entry : Holds v (entry_in v main position)
  pub entry_used : (other : Slot) × IsUsed v (entry_in v main position) other

-- at a later time too
module _ (v : View) (main : Ref) (position : ℕ) (h : LooksIn v main position) (w : View) (l : Later v w) where
  pub node_then : node_at (now w).heap main ≡ node_at (now v).heap main
  node_then = node_stays v w l main h.slot h.used h.is_main

  pub entry_then : entry_in w main position ≡ entry_in v main position
  entry_then = ap (λ x. get_or (entries_of x) position no_ref) node_then

module _ (v : View) (l : Line) (at : IsOn v l) (n : ℕ) (sound : IsSound n v) where
  abbrev its : Operation
  its = record at.0 { is_marked = at.1.0 }

  claims : AllHold (IsLive (now v)) (now v).heap (line_wants v.sizes.hash at.0.call at.0.access l)
  claims = finds_now v l at n sound

  abbrev Named : Ref → Type 0
  Named main = Contains (refs_of_claims (line_wants v.sizes.hash at.0.call at.0.access l)) main

  hand : (main : Ref) → Named main → Contains (at_hand (now v) its) main
  hand main c =
      Contains-append_left (refs_of_claims (line_claims (now v) its)) at.0.private main
      (subst (λ (x : Line). Contains (refs_of_claims (line_claims (now v) (record its { line = x }))) main) (sym at.2)
      (subst (λ h. Contains (refs_of_claims (line_wants h at.0.call at.0.access l)) main) (sym (hash_is v.sizes v.account)) c))

  pub looks_by : (main : Ref) (position : ℕ) (wanted : Wanted) → Named main → ((node : Node) → meets wanted node ≡ true → is_main_node node ≡ true) → Claims (IsLive (now v)) (now v).heap
      (Is main wanted) →
      IsInside v main position → LooksIn v main position
  looks_by main position wanted named as_main there within =
      let lives = safe_of there in
      let used = live_in_use v.sizes v.account sound.bounds main lives in
      let node = node_is (now v) main used.0 used.1 in
      let inside = subst (λ x. position < length (entries_of x)) node within in
      let stands = entry_inside v n sound main used.0 used.1 lives position inside in
      record {
        slot = used.0;
        used = used.1;
        lives = lives;
        is_main = as_main used.0.node (subst (λ x. meets wanted x ≡ true) node (meets_of there));
        inside = inside;
        holds = (its, at.1.1, inl (hand main named));
        holds_entry = (its, at.1.1, inr (main, used.0, hand main named, used.1, stands));
        entry_used = entry_used v n sound main used.0 used.1 lives position inside;
      }

  pub within : (main : Ref) (position : ℕ) → Claims (IsLive (now v)) (now v).heap (Is main (WithEntry position)) → IsInside v main position
  within main position c = ltb-true position (length (entries_of (node_at (now v).heap main))) (meets_of c)

  -- at that place after the path
  named_after : (path rest : List Ref) (main : Ref) → refs_of_claims (line_wants v.sizes.hash at.0.call at.0.access l) ≡ path ++ main ∷ rest → Named main
  named_after path rest main is =
      subst (λ xs. Contains xs main) (sym is) (Contains-append_right path (main ∷ rest) main (Contains-get_or (main ∷ rest) 0 main (omega arith)))

pub looks_in_entry : (v : View) (path : List Ref) (main : Ref) (position : ℕ) → IsAtKey v (key.Entry path main position) → (n : ℕ) → IsSound n v → LooksIn v main position
looks_in_entry v path main position at n sound =
    let l = line.Key (key.Entry path main position) in
    let c = claims v l at n sound in
    looks_by v l at n sound main position ABranch (named_after v l at n sound path (main ∷ main ∷ []) main refl) branch_main c.1.1.0 (within v l at n sound main position c.1.1.1.0)

pub looks_in_list : (v : View) (path : List Ref) (main : Ref) (position : ℕ) → IsAtKey v (key.Listed path main position) → (n : ℕ) → IsSound n v → LooksIn v main position
looks_in_list v path main position at n sound =
    let l = line.Key (key.Listed path main position) in
    let c = claims v l at n sound in
    looks_by v l at n sound main position (listed at.0.access) (named_after v l at n sound path (main ∷ []) main refl) (listed_main at.0.access) c.1.1.0 (within v l at n sound main position c.1.1.1.0)

pub looks_in_sibling : (v : View) (path : List Ref) (main : Ref) (position former : ℕ) → IsAtKey v (key.Sibling path main position former) → (n : ℕ) → IsSound n v → LooksIn v main (1 - position)
looks_in_sibling v path main position former at n sound =
    let l = line.Key (key.Sibling path main position former) in
    let c = claims v l at n sound in
    looks_by v l at n sound main (1 - position) ABranch (named_after v l at n sound path (main ∷ main ∷ []) main refl) branch_main c.1.1.0 (within v l at n sound main (1 - position) c.1.1.1.0)

-- where a change of it is to be made
pub looks_in_change : (v : View) (path : List Ref) (main : Ref) (c : Change) (former : Option ℕ) (position : ℕ) → IsOn v (line.Build (build.Main path main c former)) → (n : ℕ) → IsSound n v →
    IsInside v main position → LooksIn v main position
looks_in_change v path main c former position at n sound inside =
    let l = line.Build (build.Main path main c former) in
    let is = claims v l at n sound in
    looks_by v l at n sound main position BranchOrList
    (named_after v l at n sound path (refs_of_claims (change_wants main (flag_on v.sizes.hash at.0.call path) former c)) main refl) both_main is.1.1.0 inside

-- and where a new single is to be made for it
pub holds_to_build : (v : View) (path : List Ref) (main : Ref) (place : Site) (former : Option ℕ) → IsOn v (line.Build (build.Single path main place former)) → (n : ℕ) → IsSound n v → Holds v
    main
holds_to_build v path main place former at n sound =
    let l = line.Build (build.Single path main place former) in
    (its v l at n sound, at.1.1, inl (hand v l at n sound main (named_after v l at n sound path (refs_of_claims (site_wants main former place)) main refl)))

single_so : (node : Node) → meets ASingle node ≡ true → is_single node ≡ true
single_so (Single key value) is = refl
single_so (Indirection generation main) is = absurd (true≢false (sym is))
single_so (Branch bitmap entries) is = absurd (true≢false (sym is))
single_so (Tomb single) is = absurd (true≢false (sym is))
single_so (Listed singles) is = absurd (true≢false (sym is))

-- a tomb is to be made of a single
pub entombed_single : (v : View) (path : List Ref) (main single : Ref) (former : Option ℕ) → IsOn v (line.Build (build.Main path main (change.Entomb single) former)) → (n : ℕ) → IsSound n v →
    is_single (node_at (now v).heap single) ≡ true
entombed_single v path main single former at n sound =
    let l = line.Build (build.Main path main (change.Entomb single) former) in let is = claims v l at n sound in single_so (node_at (now v).heap single) (meets_of is.1.1.1.0)

-- wherever it looks for the key
pub looks_in : (v : View) (l : KeyLine) (main : Ref) (position : ℕ) → IsAtKey v l → sought_in l ≡ Some (main, position) → (n : ℕ) → IsSound n v → LooksIn v main position
looks_in v (key.Entry path m p) main position at is n sound =
    subst (λ (x : Ref × ℕ). LooksIn v x.0 x.1) (same_Some (m, p) (main, position) is) (looks_in_entry v path m p at n sound)
looks_in v (key.Listed path m p) main position at is n sound =
    subst (λ (x : Ref × ℕ). LooksIn v x.0 x.1) (same_Some (m, p) (main, position) is) (looks_in_list v path m p at n sound)
looks_in v (key.Read path r) main position at is n sound = absurd (none-some (main, position) is)
looks_in v (key.Main path m) main position at is n sound = absurd (none-some (main, position) is)
looks_in v (key.Sibling path m p former) main position at is n sound = absurd (none-some (main, position) is)

-- ---- in a branch, and in a list

pub entry_branch : (v : View) (path : List Ref) (main : Ref) (position : ℕ) → IsAtKey v (key.Entry path main position) → (n : ℕ) → IsSound n v → (slot : Slot) → IsUsed v main slot →
    is_branch_or_list slot.node ≡ true
entry_branch v path main position at n sound slot used =
    branch_both slot.node (subst (λ x. is_branch x ≡ true) (node_is (now v) main slot used) (meets_of (claims v (line.Key (key.Entry path main position)) at n sound).1.1.0))

pub sibling_branch : (v : View) (path : List Ref) (main : Ref) (position former : ℕ) → IsAtKey v (key.Sibling path main position former) → (n : ℕ) → IsSound n v → (slot : Slot) →
    IsUsed v main slot → is_branch_or_list slot.node ≡ true
sibling_branch v path main position former at n sound slot used =
    branch_both slot.node (subst (λ x. is_branch x ≡ true) (node_is (now v) main slot used) (meets_of (claims v (line.Key (key.Sibling path main position former)) at n sound).1.1.0))

-- the other entry of two is an indirection or a single
pub sibling_entry : (v : View) (path : List Ref) (main : Ref) (position former : ℕ) → IsAtKey v (key.Sibling path main position former) → (n : ℕ) → IsSound n v →
    is_entry (node_at (now v).heap (entry_in v main (1 - position))) ≡ true
sibling_entry v path main position former at n sound =
    let c = claims v (line.Key (key.Sibling path main position former)) at n sound in entry_stands v.sizes v.account sound.bounds main (1 - position) c.1.1.0 c.1.1.1.0

-- an entry of a list or a tomb is a single
pub listed_single : (v : View) (path : List Ref) (main : Ref) (position : ℕ) → IsAtKey v (key.Listed path main position) → (n : ℕ) → IsSound n v →
    meets TombOrList (node_at (now v).heap main) ≡ true → is_single (node_at (now v).heap (entry_in v main position)) ≡ true
listed_single v path main position at n sound kind =
    let c = claims v (line.Key (key.Listed path main position)) at n sound in
    single_so (node_at (now v).heap (entry_in v main position)) (listed_stands v.sizes v.account sound.bounds main position (Claims.is (safe_of c.1.1.0) kind) c.1.1.1.0)

-- so it can be seen
module _ (v : View) (main : Ref) (position : ℕ) (looks : LooksIn v main position) (kind : is_branch_or_list looks.slot.node ≡ true) where
  pub has_position_in : position < 32 → (name : ℕ) → place_of v.account main ≡ name → HasPosition v name position
  has_position_in small name placed = (main, looks.slot, looks.holds, looks.used, kind, looks.inside, small, placed)

  pub holds_entry_in : HoldsEntry v main position
  holds_entry_in = record { slot = looks.slot; used = looks.used; holds = looks.holds; kind = kind; inside = looks.inside }
