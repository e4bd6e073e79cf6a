-- How the entries of a branch are renewed, one after the other, and the branch with them.
use Rattle.std.proofs.Common.{arith, ◌≡◌, ℕ, suc, ◌+◌, ◌*◌, ◌<◌, ◌≤◌, Bool, true, false, List, [], ◌∷◌, ◌++◌, drop, length, get_or, refl, sym, ap, ◌∙◌, subst}
use Rattle.std.proofs.Math.Seq.{drop-cons}
use Rattle.std.proofs.lemmas.List.{drop_all, length-append}
use Rattle.std.proofs.lemmas.List.Elements.{All-nil, All-push, All-weaker}
use Rattle.arrayvec.specs.ArrayVec.{ArrayVec}
use Rattle.machine_core.specs.Vocabulary.{Node, Branch, Indirection, Ref, AreLive, IsLive, Heap, entries_of, entry_at, generation_at, main_at, main_of, node_at, no_ref, refs_of_node, renewed, State}
use Rattle.machine_core.specs.Vocabulary.{Draft, first_draft, swapped_in, Renewal, is_of_other, is_old, renewal_of, renewed_entries, renewed_entry, CanSwap, IsDraft}
use Rattle.epochs.specs.Memories.{Memory}
use Rattle.machine_core.specs.Beneath.proof_straight.specs.Drafts.{with_made}
use Rattle.machine_core.specs.Beneath.proof_straight.proofs.Renewal.NewEntries.{all_private, steps_by_slots}
use Rattle.machine_core.specs.Pairing.{CanMake, IsMade, Makes}
use Rattle.machine_core.specs.Renewing.{IsRenewing, IsSoFar, Renews}
use Rattle.machine_core.proofs.Paired.{can_begin, can_fewer, made_same, makes_on}

-- ---- one entry

-- it is as old as the root says
same_age : (state : State) (root : Ref) (heap : Heap) (generation : ℕ) (entry : Ref) (old : Bool) → generation_at state.heap root ≡ generation → node_at heap entry ≡ node_at state.heap entry →
    is_of_other generation (node_at heap entry) ≡ old → is_old state root entry ≡ old
same_age state root heap generation entry old g same is =
    ap (λ n. is_of_other n (node_at state.heap entry)) g ∙ ap (is_of_other generation) (sym same) ∙ is

-- it stays
pub kept_so_far : (state : State) (root : Ref) (so_far : Renewal) (memory : Memory) (made entries : List Ref) (generation : ℕ) (entry : Ref) → IsSoFar state so_far memory made entries →
    generation_at state.heap root ≡ generation → node_at memory.heap entry ≡ node_at state.heap entry → is_of_other generation (node_at memory.heap entry) ≡ false →
    IsSoFar state (renewed_entry state root entry (is_old state root entry) so_far) memory made (entries ++ entry ∷ [])
kept_so_far state root so_far memory made entries generation entry is g same young =
    subst (λ b. IsSoFar state (renewed_entry state root entry b so_far) memory made (entries ++ entry ∷ [])) (sym (same_age state root memory.heap generation entry false g same young))
    (record { draft_is = is.draft_is; private = is.private; entries_are = ap (λ l. l ++ entry ∷ []) is.entries_are })

-- an indirection of the root's generation is made in its place
pub made_so_far : (state : State) (root : Ref) (so_far : Renewal) (memory after : Memory) (made made' entries : List Ref) (generation : ℕ) (entry main fresh : Ref) →
    IsSoFar state so_far memory made entries → generation_at state.heap root ≡ generation → node_at memory.heap entry ≡ node_at state.heap entry →
    is_of_other generation (node_at memory.heap entry) ≡ true → main ≡ main_at memory.heap entry →
    ((draft : Draft) (newest : Ref) → IsMade state draft memory made newest → IsMade state (with_made state draft (Indirection generation main)) after made' fresh) →
    IsSoFar state (renewed_entry state root entry (is_old state root entry) so_far) after made' (entries ++ fresh ∷ [])
made_so_far state root so_far memory after made made' entries generation entry main fresh is g same old over makes =
    let draft = with_made state so_far.draft (Indirection (generation_at state.heap root) (main_at state.heap entry)) in
    let made_it : IsMade state draft after made' fresh =
    made_same state so_far.draft after made' fresh (Indirection generation main) (Indirection (generation_at state.heap root) (main_at state.heap entry))
    (ap (λ n. Indirection n main) (sym g) ∙ ap (Indirection (generation_at state.heap root)) (over ∙ ap main_of same))
    (makes so_far.draft so_far.draft.newest (record { draft_is = is.draft_is; private = is.private; newest_is = refl })) in
    subst (λ b. IsSoFar state (renewed_entry state root entry b so_far) after made' (entries ++ fresh ∷ [])) (sym (same_age state root memory.heap generation entry true g same old))
    (record {
      draft_is = made_it.draft_is;
      private = made_it.private;
      entries_are = ap (λ l. l ++ draft.newest ∷ []) is.entries_are ∙ ap (λ (r : Ref). entries ++ r ∷ []) made_it.newest_is;
    })

-- nothing is made
pub makes_none : (memory : Memory) (made : List Ref) → Makes 1 memory made memory made
makes_none memory made = record {
  can = λ more can. can_fewer memory made (1 + more) more (omega arith) can;
  stay = λ r live. live;
  nodes = λ r live. refl;
  records = (refl, refl);
}

-- ---- all of them

goes_on : (state : State) (root entry : Ref) (rest : List Ref) (so_far : Renewal) →
    renewed_entries state root rest (renewed_entry state root entry (is_old state root entry) so_far) ≡ renewed_entries state root (entry ∷ rest) so_far
unfolding renewed_entries
goes_on state root entry rest so_far = refl

ends : (state : State) (root : Ref) (so_far : Renewal) → so_far ≡ renewed_entries state root [] so_far
unfolding renewed_entries
ends state root so_far = refl

pub first_renewing : (before : Memory) (main : Ref) (generation : ℕ) (made entries : List Ref) → made ≡ [] → entries ≡ [] → IsRenewing before main generation 0 before made entries
first_renewing before main generation made entries none empty =
    subst (λ m. IsRenewing before main generation 0 before m entries) (sym none) (subst (λ e. IsRenewing before main generation 0 before [] e) (sym empty) (record {
      makes = record { can = λ more can. can_fewer before [] (0 + more) more (omega arith) can; stay = λ r live. live; nodes = λ r live. refl; records = (refl, refl) };
      many = refl;
      live = All-nil (IsLive before.heap);
      draft = λ state root all is g same.
          (record { draft = first_draft state; entries = [] }, refl, record { draft_is = is; private = refl; entries_are = refl });
    }))

module _ (before : Memory) (indirection main : Ref) (generation : ℕ) (can : CanSwap before.heap indirection main 33) (i : ℕ) (memory : Memory) (made entries : List Ref)
    (inv : IsRenewing before main generation i memory made entries) where
  -- one more can be made
  pub can_one : i < 33 → CanMake memory made 1
  can_one less = inv.makes.can 1 (can_begin before indirection main [] 33 (i + 1) refl (omega arith) (omega (arith, less)) can)

  pub main_still : node_at memory.heap main ≡ node_at before.heap main
  main_still = inv.makes.nodes main can.main_live

  pub entry_still : (k : ℕ) → entry_at memory.heap main k ≡ entry_at before.heap main k
  entry_still k = ap (λ node. get_or (entries_of node) k no_ref) main_still

  module _ (bitmap : ℕ) (all : ArrayVec Ref) (branch : node_at before.heap main ≡ Branch bitmap all) (k : ℕ) (within : k < length all.items) where
    entry_live_before : IsLive before.heap (entry_at before.heap main k)
    entry_live_before =
        subst (λ node. IsLive before.heap (get_or (entries_of node) k no_ref)) (sym branch)
        (subst (λ node. AreLive before.heap (refs_of_node node)) branch can.entries k no_ref within)

    pub entry_node : (entry : Ref) → entry ≡ entry_at memory.heap main k → node_at memory.heap entry ≡ node_at before.heap entry
    entry_node entry at = inv.makes.nodes entry (subst (IsLive before.heap) (sym (at ∙ entry_still k)) entry_live_before)

  -- one more is renewed
  pub next_renewing : (entry fresh : Ref) (after : Memory) (made' entries' : List Ref) (bitmap : ℕ) (all : ArrayVec Ref) → node_at before.heap main ≡ Branch bitmap all → i < length all.items →
      entry ≡ entry_at memory.heap main i → entries' ≡ entries ++ fresh ∷ [] → Makes 1 memory made after made' → IsLive after.heap fresh →
      ((state : State) (root : Ref) (so_far : Renewal) (es : List Ref) → IsSoFar state so_far memory made es → generation_at state.heap root ≡ generation →
      node_at memory.heap entry ≡ node_at state.heap entry → IsSoFar state (renewed_entry state root entry (is_old state root entry) so_far) after made' (es ++ fresh ∷ [])) →
      IsRenewing before main generation (i + 1) after made' entries'
  next_renewing entry fresh after made' entries' bitmap all branch within at pushed makes lives step = record {
    makes = makes_on i 1 (i + 1) before memory after [] made made' refl inv.makes makes;
    many = omega (arith, ap length pushed, length-append entries (fresh ∷ []), inv.many);
    live = subst (AreLive after.heap) (sym pushed) (All-push (IsLive after.heap) entries fresh (All-weaker (IsLive memory.heap) (IsLive after.heap) makes.stay entries inv.live) lives);
    draft = λ state root items is g same.
        let (so_far, rest, stands) = inv.draft state root items is g same in
        let in_all : entry ≡ get_or items.items i no_ref = at ∙ entry_still i ∙ ap (λ l. get_or l i no_ref) same in
        let long : i < length items.items = omega (arith, within, ap length (sym same ∙ ap entries_of branch)) in
        let cut : drop i items.items ≡ entry ∷ drop (i + 1) items.items =
        drop-cons items.items i no_ref long ∙ ap (λ r. r ∷ drop (suc i) items.items) (sym in_all) ∙ ap (λ n. entry ∷ drop n items.items) (let one : suc i ≡ i + 1 = omega arith in one) in (
          renewed_entry state root entry (is_old state root entry) so_far,
          goes_on state root entry (drop (i + 1) items.items) so_far ∙ sym (ap (λ l. renewed_entries state root l so_far) cut) ∙ rest,
          subst (λ es. IsSoFar state (renewed_entry state root entry (is_old state root entry) so_far) after made' es) (sym pushed)
              (step state root so_far entries stands g (entry_node bitmap all branch i within entry at ∙ ap (λ h. node_at h entry) is.heap)),
        );
  }

  -- ---- the branch

  -- once all are renewed
  pub all_so_far : (state : State) (root : Ref) (items : ArrayVec Ref) → IsDraft state (first_draft state) before → generation_at state.heap root ≡ generation →
      entries_of (node_at before.heap main) ≡ items.items → length items.items ≤ i → IsSoFar state (renewal_of state root items) memory made entries
  all_so_far state root items is g same all =
      let (so_far, rest, stands) = inv.draft state root items is g same in
      subst (λ r. IsSoFar state r memory made entries) (ends state root so_far ∙ sym (ap (λ l. renewed_entries state root l so_far) (drop_all i items.items all)) ∙ rest) stands

  pub few_made : i ≤ 32 → length made ≤ 32
  few_made less = omega (arith, (can_one (omega (arith, less))).room)

  pub all_renewed : (state : State) (root : Ref) (bitmap own : ℕ) (items : ArrayVec Ref) (node : Node) (steps : ℕ) (after : Memory) → IsDraft state (first_draft state) before →
      generation_at state.heap root ≡ generation → node_at before.heap main ≡ Branch bitmap items → length items.items ≤ i → own ≡ bitmap → node ≡ renewed own entries →
      steps ≡ length entries + 3 * length made + 10 → i ≤ length items.items →
      ((draft : Draft) → IsDraft state draft memory → draft.private ≡ made → IsDraft state (swapped_in state (with_made state draft node) indirection main) after) →
      Renews state root indirection bitmap items steps after
  all_renewed state root bitmap own items node steps after is g branch all same_bitmap made_node count size swaps =
      let so = all_so_far state root items is g (ap entries_of branch) all in
      let made_so : node ≡ renewed bitmap (renewal_of state root items).entries = made_node ∙ ap (λ b. renewed b entries) same_bitmap ∙ ap (renewed bitmap) (sym so.entries_are) in
      let here : main ≡ main_at state.heap indirection = sym can.over ∙ ap (λ h. main_at h indirection) is.heap in
      record {
        draft_is = subst (λ m. IsDraft state (swapped_in state (with_made state (renewal_of state root items).draft (renewed bitmap (renewal_of state root items).entries)) indirection m) after) here
            (subst (λ n. IsDraft state (swapped_in state (with_made state (renewal_of state root items).draft n) indirection main) after) made_so
            (swaps (renewal_of state root items).draft so.draft_is so.private));
        takes = omega (
          arith,
          count,
          inv.many,
          all,
          size,
          steps_by_slots state root items.items,
          all_private state root items.items (record { draft = first_draft state; entries = [] }),
          ap length so.private,
        );
      }
