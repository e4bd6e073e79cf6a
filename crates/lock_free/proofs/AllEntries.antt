-- The entries of a main node, word after word.
use Rattle.std.proofs.Common.{◌≡◌, ◌<◌, ◌*◌, ◌+◌, ◌/◌, ◌++◌, ◌∷◌, ◌⊎◌, ℕ, Bool, true, false, inl, inr, List, [], refl}
use Rattle.std.proofs.Common.{sym, ap, subst, ◌∙◌, length, map, take, take_all, get_or, slice_get, Contains, arith, length-append, min, ◌%◌, if◌then◌else◌, eq-eqb, ne_eqb}
use Rattle.std.proofs.lemmas.Bool.{true≢false}
use Rattle.std.proofs.lemmas.List.{map-append, take_more, length-take, get_or-take}
use Rattle.std.proofs.lemmas.List.Elements.{Contains-get_or}
use Rattle.std.proofs.lemmas.Option.{slice_get-get_or}
use Rattle.trie_words.specs.Codes.{entry_code, entry_of, IsEntry}
use Rattle.trie_words.specs.declared.entries.Entry.{Entry}
use Rattle.trie_words.specs.declared.entries.Pair.{Pair}
use Rattle.trie_words.proofs.Parts.{entry_back}
use Rattle.machine_model.specs.Beneath.slot_arena.specs.declared.refs.Ref.{Ref}
use Rattle.machine_model.specs.Beneath.slot_arena.specs.declared.nodes.Node.{Node}
use Rattle.machine_model.specs.Beneath.slot_arena.specs.declared.nodes.Node.TheVariants.{Indirection, Branch, Single, Tomb, List as Listed}
use Rattle.machine_model.specs.Beneath.slot_arena.specs.declared.nodes.Slot.{Slot}
use Rattle.machine_model.specs.Beneath.slot_arena.specs.Heaps.{node_at, entries_of}
use Rattle.machine_model.specs.declared.operations.Operation.{Operation}
use Rattle.proof_memory.specs.Laws.{SameNode}
use Rattle.proof_memory.specs.Vocabulary.{HashKind}
use Rattle.proof_memory.specs.Wants.{is_branch_or_list, line_wants}
use Rattle.lock_free.specs.declared.rules.View.{View}
use Rattle.lock_free.specs.Accounts.{place_of}
use Rattle.lock_free.specs.Becoming.{Follows}
use Rattle.lock_free.specs.Entries.{HasStayed}
use Rattle.lock_free.specs.Halves.{IsHalf}
use Rattle.lock_free.specs.Live.{refs_of_claims}
use Rattle.lock_free.specs.Loading.{now, seen, IsSound, IsUsed, Holds, HasPosition, HasSeenPair, SaysPair}
use Rattle.lock_free.specs.Nodes.{half_in, is_single}
use Rattle.lock_free.specs.Passing.{Later}
use Rattle.lock_free.specs.SeenEntries.{entry_to, unowned, AreEntriesTo, HasEntries, HasSeenEntries}
use Rattle.lock_free.proofs.Asked.{live_in_use}
use Rattle.lock_free.proofs.Comings.{saw_runs}
use Rattle.lock_free.proofs.EntryHalves.{code_small}
use Rattle.lock_free.proofs.EntryLooks.{slot_small}
use Rattle.lock_free.proofs.Followings.{follows_later}
use Rattle.lock_free.proofs.GivenBack.{node_is}
use Rattle.lock_free.proofs.KeyMoves.{hash_is}
use Rattle.lock_free.proofs.Laters.{later_self, later_both, saw_later}
use Rattle.lock_free.proofs.MakeStep.{single_stays}
use Rattle.lock_free.proofs.LastingNodes.{same_entries, entry_lives}
use Rattle.lock_free.proofs.Pools.{first_there, more_there}
use Rattle.lock_free.proofs.Within.{held_lives}

-- ---- what is held stays so

abbrev hand_by : HashKind → Operation → List Ref
hand_by hash o = refs_of_claims (line_wants hash o.call o.access o.line) ++ o.private

pub holds_on : (v w : View) (s : HasStayed v w) (r : Ref) → Holds v r → Holds w r
holds_on v w s r (o, runs, how) =
    let there = s.comes o (o.is_marked, runs) in
    (record o { is_marked = there.0 }, there.1, by how)
  where
    same_hash : (now v).limits.hash ≡ (now w).limits.hash
    same_hash = hash_is v.sizes v.account ∙ ap (λ (x : View). x.sizes.hash) (sym s.later.is) ∙ sym (hash_is w.sizes w.account)

    hand : (q : Ref) → Contains (hand_by (now v).limits.hash o) q → Contains (hand_by (now w).limits.hash o) q
    hand q c = subst (λ h. Contains (hand_by h o) q) same_hash c

    by : Contains (hand_by (now v).limits.hash o) r ⊎ ((main : Ref) × (slot : Slot) × Contains (hand_by (now v).limits.hash o) main × IsUsed v main slot × Contains (entries_of slot.node) r) →
        Contains (hand_by (now w).limits.hash o) r ⊎ ((main : Ref) × (slot : Slot) × Contains (hand_by (now w).limits.hash o) main × IsUsed w main slot × Contains (entries_of slot.node) r)
    by (inl c) = inl (hand r c)
    by (inr (main, slot, c, used, e)) =
        let x = s.later.nodes main slot used in inr (main, x.0, hand main c, x.1, subst (λ es. Contains es r) (sym (same_entries slot.node x.0.node x.2)) e)

-- ---- entries stay what they are

module _ (v w : View) (f : Follows v w) where
  pub entry_same : (r : Ref) → (slot : Slot) × IsUsed v r slot → entry_to w r ≡ entry_to v r
  entry_same r (slot, used) =
      let y = f.nodes r slot used in
      ap (λ p. record { slot = p; own = false; is_single = is_single (node_at (now w).heap r) }) (f.places r slot used)
      ∙ ap (λ b. record { slot = place_of v.account r; own = false; is_single = b })
      (ap is_single (node_is (now w) r y.0 y.1) ∙ single_stays slot.node y.0.node y.2 ∙ sym (ap is_single (node_is (now v) r slot used)))

  pub entries_same : (rs : List Ref) → ((r : Ref) → Contains rs r → (slot : Slot) × IsUsed v r slot) → map (entry_to w) rs ≡ map (entry_to v) rs
  entries_same [] used = refl
  entries_same (r ∷ rs) used =
      ap (λ x. x ∷ map (entry_to w) rs) (entry_same r (used r (first_there r rs))) ∙ ap (λ xs. entry_to v r ∷ xs) (entries_same rs (λ q c. used q (more_there r rs q c)))

kind_stays : (before after : Node) → SameNode before after → is_branch_or_list before ≡ true → is_branch_or_list after ≡ true
kind_stays (Branch bitmap entries) after same is = ap is_branch_or_list same.1
kind_stays (Listed singles) after same is = ap is_branch_or_list same.1
kind_stays (Indirection generation main) after same is = absurd (true≢false (sym is))
kind_stays (Single key value) after same is = absurd (true≢false (sym is))
kind_stays (Tomb single) after same is = absurd (true≢false (sym is))

taken_from : (k : ℕ) (rs : List Ref) (r : Ref) → Contains (take k rs) r → Contains rs r
taken_from k rs r (i, low, is) =
    let size = length-take k rs in
    (i, omega (arith, low, size), sym (get_or-take k rs i r (omega (arith, low, size))) ∙ is)

-- ---- those that were seen so far

pub record SeenSome (before : View) (name count : ℕ) (v : View) (entries : List Entry) : Type 0 where
  pub stayed : HasStayed before v
  pub entries_to : (r : Ref) (slot : Slot) → Holds before r → IsUsed before r slot → is_branch_or_list slot.node ≡ true → count ≡ length (entries_of slot.node) → place_of before.account r ≡ name →
      AreEntriesTo v entries (take (length entries) (entries_of slot.node))

pub seen_none : (before : View) (name count : ℕ) → SeenSome before name count before []
seen_none before name count = record { stayed = record { later = later_self before; comes = λ o r. r }; entries_to = λ r slot h u b c p. refl }

module _ (n : ℕ) (before : View) (sound : IsSound n before) (name count : ℕ) where
  -- entries of what is held are in use
  used_there : (v : View) → IsSound n v → (r : Ref) (slot : Slot) → Holds v r → IsUsed v r slot → (e : Ref) → Contains (entries_of slot.node) e → (other : Slot) × IsUsed v e other
  used_there v sound_v r slot h u e c = live_in_use v.sizes v.account sound_v.bounds e (entry_lives v.sizes v.account r e slot (held_lives v r h) u c)

  module _ (v : View) (sound_v : IsSound n v) (entries : List Entry) (s : SeenSome before name count v entries) where
    -- the next one can be seen
    pub position_there : (position : ℕ) → position < count → HasEntries before name count → HasPosition v name position
    position_there position low (r, slot, h, u, kind, is, few, place) =
        let x = s.stayed.later.nodes r slot u in (
          r,
          x.0,
          holds_on before v s.stayed r h,
          x.1,
          kind_stays slot.node x.0.node x.2 kind,
          subst (λ es. position < length es) (sym (same_entries slot.node x.0.node x.2)) (subst (λ k. position < k) is low),
          omega (arith, low, few),
          s.stayed.later.places r slot u ∙ place,
        )

    module _ (w : View) (sound_w : IsSound n w) (position : ℕ) (pair : Pair) (g : HasSeenPair v name position pair w) where
      later : Later v w
      later = saw_later n v sound_v w g.0

      pub stayed_then : HasStayed before w
      stayed_then = record { later = later_both before v w s.stayed.later later; comes = λ o r. saw_runs v w g.0 o (s.stayed.comes o r) }

      -- the same ones are so still
      pub seen_still : SeenSome before name count w entries
      seen_still = record { stayed = stayed_then; entries_to = still }
        where
          still : (r : Ref) (slot : Slot) → Holds before r → IsUsed before r slot → is_branch_or_list slot.node ≡ true → count ≡ length (entries_of slot.node) → place_of before.account r ≡ name →
              AreEntriesTo w entries (take (length entries) (entries_of slot.node))
          still r slot h u kind is place =
              s.entries_to r slot h u kind is place
              ∙ sym (entries_same v w (follows_later v w later) (take (length entries) (entries_of slot.node))
              (λ e c. (let x = used_there before sound r slot h u e (taken_from (length entries) (entries_of slot.node) e c) in let y = s.stayed.later.nodes e x.0 x.1 in (y.0, y.1))))

      -- a half of the pair
      half_is : (k : ℕ) → k / 2 ≡ position / 2 → k < count → (r : Ref) (slot : Slot) → Holds before r → IsUsed before r slot → is_branch_or_list slot.node ≡ true →
          count ≡ length (entries_of slot.node) → place_of before.account r ≡ name →
          (said : Entry) × IsEntry said × (half_in pair k ≡ entry_code said) × (unowned said ≡ entry_to w (get_or (entries_of slot.node) k 0))
      half_is k beside low r slot h u kind count_is place =
          let x = s.stayed.later.nodes r slot u in
          let e = get_or (entries_of slot.node) k 0 in
          let inside : k < length (entries_of slot.node) = subst (λ m. k < m) count_is low in
          let middle = seen v g.0.account in
          let y = (saw_later n v sound_v w g.0).nodes r x.0 x.1 in
          let y_middle : IsUsed middle r y.0 = subst (λ z. IsUsed z r y.0) g.0.after_is y.1 in
          let both = same_entries x.0.node y.0.node y.2 ∙ same_entries slot.node x.0.node x.2 in
          let says : SaysPair g.0.account (now middle) r position pair = g.1 r (holds_on before v s.stayed r h) (s.stayed.later.places r slot u ∙ place) in
          let found = says y.0 k e y_middle (kind_stays x.0.node y.0.node y.2 (kind_stays slot.node x.0.node x.2 kind)) beside
          (ap (λ es. slice_get es k) both ∙ slice_get-get_or (entries_of slot.node) k 0 inside) in
          let used = used_there before sound r slot h u e (Contains-get_or (entries_of slot.node) k 0 inside) in
          let used_w = stayed_then.later.nodes e used.0 used.1 in
          let said : Entry = record { slot = place_of g.0.account e; own = found.own; is_single = is_single (node_at (now middle).heap e) } in (
            said,
            slot_small n middle (subst (IsSound n) g.0.after_is sound_w) e used_w.0 (subst (λ z. IsUsed z e used_w.0) g.0.after_is used_w.1),
            found.code,
            ap (λ (z : View). entry_to z e) (sym g.0.after_is),
          )

      pub half_seen : (k : ℕ) → k / 2 ≡ position / 2 → k < count → (entry : Entry) → unowned entry ≡ unowned (entry_of (half_in pair k)) → (r : Ref) (slot : Slot) → Holds before
          r → IsUsed before r slot →
          is_branch_or_list slot.node ≡ true → count ≡ length (entries_of slot.node) → place_of before.account r ≡ name → unowned entry ≡ entry_to w (get_or (entries_of slot.node) k 0)
      half_seen k beside low entry is r slot h u kind count_is place =
          let x = half_is k beside low r slot h u kind count_is place in is ∙ ap (λ m. unowned (entry_of m)) x.2 ∙ ap unowned (entry_back x.0 x.1) ∙ x.3

      pub half_small : (k : ℕ) → k / 2 ≡ position / 2 → k < count → HasEntries before name count → IsHalf (half_in pair k)
      half_small k beside low (r, slot, h, u, kind, count_is, few, place) =
          let x = half_is k beside low r slot h u kind count_is place in subst IsHalf (sym x.2) (code_small x.0 x.1)
      -- one more

  pub one_more : (w : View) (entries : List Entry) (s : SeenSome before name count w entries) → length entries < count → (entry : Entry) →
      ((r : Ref) (slot : Slot) → Holds before r → IsUsed before r slot → is_branch_or_list slot.node ≡ true → count ≡ length (entries_of slot.node) → place_of before.account r ≡ name →
      unowned entry ≡ entry_to w (get_or (entries_of slot.node) (length entries) 0)) → SeenSome before name count w (entries ++ entry ∷ [])
  one_more w entries s low entry is = record { stayed = s.stayed; entries_to = more }
    where
      more : (r : Ref) (slot : Slot) → Holds before r → IsUsed before r slot → is_branch_or_list slot.node ≡ true → count ≡ length (entries_of slot.node) → place_of before.account r ≡ name →
          AreEntriesTo w (entries ++ entry ∷ []) (take (length (entries ++ entry ∷ [])) (entries_of slot.node))
      more r slot h u kind count_is place =
          map-append unowned entries (entry ∷ []) ∙ ap (λ xs. xs ++ unowned entry ∷ []) (s.entries_to r slot h u kind count_is place)
          ∙ ap (λ x. map (entry_to w) (take (length entries) (entries_of slot.node)) ++ x ∷ []) (is r slot h u kind count_is place)
          ∙ sym (map-append (entry_to w) (take (length entries) (entries_of slot.node)) (get_or (entries_of slot.node) (length entries) 0 ∷ []))
          ∙ ap (map (entry_to w)) (sym (take_more (entries_of slot.node) (length entries) 0 (subst (λ k. length entries < k) count_is low))
          ∙ ap (λ k. take k (entries_of slot.node)) (sym (length-append entries (entry ∷ []))))

  pub all_seen : (v : View) (entries : List Entry) → SeenSome before name count v entries → length entries ≡ count → HasSeenEntries before name count entries v
  all_seen v entries s all = (
    s.stayed,
    λ r slot h u kind is place.
        s.entries_to r slot h u kind is place ∙ ap (λ rs. map (entry_to v) rs) (take_all (length entries) (entries_of slot.node) (omega (arith, all, is))),
  )

-- ---- a word of them

low_half : (pair : Pair) (n : ℕ) → half_in pair (2 * n) ≡ pair.low
low_half pair n = ap (λ (b : Bool). if b then pair.low else pair.high) (eq-eqb ((2 * n) % 2) 0 (omega arith))

high_half : (pair : Pair) (n : ℕ) → half_in pair (2 * n + 1) ≡ pair.high
high_half pair n = ap (λ (b : Bool). if b then pair.low else pair.high) (ne_eqb ((2 * n + 1) % 2) 0 (λ e. absurd (omega (arith, e))))

module _ (size : ℕ) (before : View) (sound : IsSound size before) (name count : ℕ) (v : View) (sound_v : IsSound size v) (entries : List Entry) (s : SeenSome before name count v entries)
    (w : View) (sound_w : IsSound size w) (n : ℕ) (pair : Pair) (g : HasSeenPair v name (2 * n) pair w) (few : 2 * n < count) (here : length entries ≡ min (2 * n) count) where
  here_is : length entries ≡ 2 * n
  here_is = omega (arith, few, here)

  pub low_seen : (low : Entry) → unowned low ≡ unowned (entry_of pair.low) → SeenSome before name count w (entries ++ low ∷ [])
  low_seen low is =
      one_more size before sound name count w entries (seen_still size before sound name count v sound_v entries s w sound_w (2 * n) pair g) (omega (arith, few, here)) low
      (λ r slot h u kind count_is place.
      half_seen size before sound name count v sound_v entries s w sound_w (2 * n) pair g (2 * n) refl few low (is ∙ ap (λ m. unowned (entry_of m)) (sym (low_half pair n))) r slot h u
      kind count_is place
      ∙ ap (λ k. entry_to w (get_or (entries_of slot.node) k 0)) (sym here_is))

  pub high_seen : (low high : Entry) → unowned low ≡ unowned (entry_of pair.low) → unowned high ≡ unowned (entry_of pair.high) → 2 * n + 1 < count →
      SeenSome before name count w ((entries ++ low ∷ []) ++ high ∷ [])
  high_seen low high is_low is_high more =
      one_more size before sound name count w (entries ++ low ∷ []) (low_seen low is_low) (omega (arith, more, length-append entries (low ∷ []), here_is)) high
      (λ r slot h u kind count_is place.
      half_seen size before sound name count v sound_v entries s w sound_w (2 * n) pair g (2 * n + 1) (omega arith) more high (is_high ∙ ap (λ m. unowned (entry_of m)) (sym (high_half pair n))) r slot
      h u kind count_is place
      ∙ ap (λ k. entry_to w (get_or (entries_of slot.node) k 0)) (sym (length-append entries (low ∷ []) ∙ ap (λ k. k + 1) here_is)))

  pub low_small : HasEntries before name count → IsHalf pair.low
  low_small held = subst IsHalf (low_half pair n) (half_small size before sound name count v sound_v entries s w sound_w (2 * n) pair g (2 * n) refl few held)

  pub high_small : 2 * n + 1 < count → HasEntries before name count → IsHalf pair.high
  high_small more held =
      subst IsHalf (high_half pair n) (half_small size before sound name count v sound_v entries s w sound_w (2 * n) pair g (2 * n + 1) (omega arith) more held)
