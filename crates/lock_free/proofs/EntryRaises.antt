-- References to the entries of a main node, as a loop over their halves raises or releases one after the other.
use Rattle.std.proofs.Common.{◌≡◌, ◌≢◌, ◌+◌, ◌<◌, ◌≤◌, ◌∷◌, [], ℕ, inl, inr, true, List, Contains, Option, Some, drop}
use Rattle.std.proofs.Common.{get_or, length, map, take, refl, sym, ap, subst, ◌∙◌, arith}
use Rattle.std.proofs.lemmas.Bool.{cases_eq, true≢false}
use Rattle.std.proofs.lemmas.List.{get_or-map, length-map, take-append-drop, take-map, take_all}
use Rattle.trie_words.specs.Codes.{entry_of}
use Rattle.trie_words.specs.declared.entries.Entry.{Entry}
use Rattle.machine_model.specs.Beneath.slot_arena.specs.declared.nodes.Node.{Node}
use Rattle.machine_model.specs.Beneath.slot_arena.specs.declared.nodes.Node.TheVariants.{Indirection, Branch, Single, Tomb, List as Listed}
use Rattle.machine_model.specs.Beneath.slot_arena.specs.declared.nodes.Slot.{Slot}
use Rattle.machine_model.specs.Beneath.slot_arena.specs.declared.refs.Ref.{Ref}
use Rattle.proof_memory.specs.Wants.{is_entry}
use Rattle.lock_free.specs.declared.limbo.Limbo.{Limbo}
use Rattle.lock_free.specs.declared.reclaiming.Kind.{Kind}
use Rattle.lock_free.specs.declared.rules.View.{View}
use Rattle.lock_free.specs.Counting.{HasAtHand, IsInSlot}
use Rattle.lock_free.specs.Counts.{how_often, without_one}
use Rattle.lock_free.specs.Halves.{entries_of_halves}
use Rattle.lock_free.specs.Limbos.{IsLimbo}
use Rattle.lock_free.specs.Loading.{Holds, IsUsed, now}
use Rattle.lock_free.specs.Nodes.{class_of, is_single}
use Rattle.lock_free.specs.Owing.{owing}
use Rattle.lock_free.specs.Raising.{all_but, kind_for, HasKept, HasRaisedAll, HasReleasedAll, LeadTo, MayRelease, OwesEntry, OwesOne}
use Rattle.lock_free.specs.Reclaiming.{kind_of_node}
use Rattle.lock_free.specs.SeenEntries.{AreEntriesTo, entry_to, unowned}
use Rattle.lock_free.proofs.ClaimsThere.{has_often, often_has}
use Rattle.lock_free.proofs.CountsStay.{often_first, often_less, often_other, often_same}
use Rattle.lock_free.proofs.GivenBack.{node_is}
use Rattle.lock_free.proofs.GoingOver.{as_many, entry_at_place}
use Rattle.lock_free.proofs.LimboStays.{limbo_stays}
use Rattle.lock_free.proofs.Raisings.{in_slot_owing}
use Rattle.lock_free.proofs.LeftOut.{more_often, next_out, next_there, often_next}

-- ---- one entry

pub entry_class : (node : Node) → is_entry node ≡ true → class_of node ≡ 0
entry_class (Indirection generation main) is = refl
entry_class (Single key value) is = refl
entry_class (Branch bitmap entries) is = absurd (true≢false (sym is))
entry_class (Tomb single) is = absurd (true≢false (sym is))
entry_class (Listed singles) is = absurd (true≢false (sym is))

pub entry_kind : (node : Node) → is_entry node ≡ true → kind_of_node node ≡ kind_for (is_single node)
entry_kind (Indirection generation main) is = refl
entry_kind (Single key value) is = refl
entry_kind (Branch bitmap entries) is = absurd (true≢false (sym is))
entry_kind (Tomb single) is = absurd (true≢false (sym is))
entry_kind (Listed singles) is = absurd (true≢false (sym is))

-- it says where the node is
pub entry_slot : (v : View) (entry : Entry) (k : Ref) → unowned entry ≡ entry_to v k → (slot : Slot) × IsUsed v k slot × (is_entry slot.node ≡ true) → IsInSlot v k 0 entry.slot
entry_slot v entry k named used = record { slot = used.0; used = used.1; class_is = entry_class used.0.node used.2; place = sym (ap (λ (e : Entry). e.slot) named) }

pub owes_by : (v : View) (half : ℕ) (k : Ref) → OwesEntry v (entry_of half) k → (entry : Entry) → entry ≡ entry_of half → (kind : Kind) → kind ≡ kind_for entry.is_single →
    OwesOne v k kind 0 entry.slot
owes_by v half k h entry is kind kind_is =
    let named = subst (λ e. unowned e ≡ entry_to v k) (sym is) h.named in (
      (h.owed, entry_slot v entry k named h.used, h.shared),
      ap kind_of_node (node_is (now v) k h.used.0 h.used.1) ∙ entry_kind h.used.0.node h.used.2
          ∙ ap (λ x. kind_for (is_single x)) (sym (node_is (now v) k h.used.0 h.used.1)) ∙ sym (kind_is ∙ ap (λ (e : Entry). kind_for e.is_single) named),
    )

-- ---- what the seat holds

pub kept_both : (v w u : View) (o p : List Ref) → HasKept v o w → HasKept w p u → HasKept v p u
kept_both v w u o p g h = record { is = h.is ∙ ap (λ (x : View). record x { epoch = u.epoch; passed = u.passed; retired = u.retired; owed = p; links = u.links }) g.is }

pub kept_owed : (v : View) (o : List Ref) (w : View) → HasKept v o w → w.owed ≡ o
kept_owed v o w h = ap (λ (x : View). x.owed) h.is

-- one more or less of it is one more or less of no other
pub one_more_of : (k it : Ref) (xs ys : List Ref) → ys ≡ it ∷ xs → how_often k ys ≡ how_often k (it ∷ []) + how_often k xs
one_more_of k it xs ys is = elim (cases_eq it k) [
  | inl same ↦
      (let all = ap (how_often k) is ∙ ap (λ j. how_often k (j ∷ xs)) same ∙ often_first k xs in
      let one = ap (λ j. how_often k (j ∷ [])) same ∙ often_first k [] in omega (arith, all, one))
  | inr differs ↦ (let all = ap (how_often k) is ∙ often_other k it xs differs in let one = often_other k it [] differs in omega (arith, all, one))
]

pub one_less_of : (k it : Ref) (xs ys : List Ref) → ys ≡ without_one it xs → Contains xs it → how_often k (it ∷ []) + how_often k ys ≡ how_often k xs
one_less_of k it xs ys is has = elim (cases_eq it k) [
  | inl same ↦
      (let less = often_less it xs has in
      let rest = ap (how_often k) is in
      let there = ap (λ j. how_often j (without_one it xs)) same in
      let all = ap (λ j. how_often j xs) same in
      let one = ap (λ j. how_often k (j ∷ [])) same ∙ often_first k [] in
      omega (arith, less, rest, there, all, one))
  | inr differs ↦ (let rest = ap (how_often k) is ∙ often_same k it xs differs in let one = often_other k it [] differs in omega (arith, rest, one))
]

-- ---- the next entry

module _ (v : View) (halves : List ℕ) (but : Option ℕ) (refs : List Ref) (lead : LeadTo v (entries_of_halves halves) but refs) (n : ℕ) (low : n < length halves) where
  low_there : n < length refs
  low_there = let same = as_many v (entries_of_halves halves) refs lead.named in let halved = length-map halves entry_of in omega (arith, low, same, halved)

  abbrev pub it : Ref
  it = get_or refs n 0

  abbrev pub entry : Entry
  entry = entry_of (get_or halves n 0)

  named : unowned entry ≡ entry_to v it
  named =
      subst (λ e. unowned e ≡ entry_to v it) (get_or-map entry_of halves n 0 (entry_of 0) low) (entry_at_place v (entries_of_halves halves) refs n (entry_of 0) 0 low_there lead.named)

  module _ (other : but ≢ Some n) where
    there : Contains (all_but but refs) it
    there = (next_there but refs n low_there 0 other).1

    -- where it is to be released
    module _ (w : View) (owed : (k : Ref) → how_often k (all_but but refs) ≤ how_often k v.owed) (done : HasReleasedAll v (all_but but (take n refs)) w) where
      has : Contains w.owed it
      has = let all = done.all it in let some = (next_there but refs n low_there 0 other).0 in let most = owed it in often_has it w.owed (omega (arith, all, some, most))

      pub release_ready : OwesEntry w entry it
      release_ready =
          subst (λ u. Contains w.owed it → OwesEntry u entry it) (sym done.kept.is) (λ c. record { owed = c; named = named; used = lead.used it there; shared = lead.shared it there }) has

      pub release_next : (u : View) → HasKept w (without_one it w.owed) u → HasReleasedAll v (all_but but (take (n + 1) refs)) u
      release_next u kept = record {
        kept = subst (λ o. HasKept v o u) (sym (kept_owed w (without_one it w.owed) u kept)) (kept_both v w u w.owed (without_one it w.owed) done.kept kept);
        all = λ k. (let next = often_next but refs n low_there 0 other k in
            let less = one_less_of k it w.owed u.owed (kept_owed w (without_one it w.owed) u kept) has in
            let before = done.all k in omega (arith, next, less, before));
      }

    -- or raised
    module _ (w : View) (done : HasRaisedAll v (all_but but (take n refs)) w) where
      pub raise_ready : (held : (k : Ref) → Contains (all_but but refs) k → Holds v k) → HasAtHand w it 0 entry.slot
      raise_ready held = subst (λ u. HasAtHand u it 0 entry.slot) (sym done.is) (held it there, in_slot_owing v w.owed it 0 entry.slot (entry_slot v entry it named (lead.used it there)))

      pub raise_next : (u : View) → u ≡ owing w (it ∷ w.owed) → HasRaisedAll v (all_but but (take (n + 1) refs)) u
      raise_next u is = record {
        is = is ∙ ap (λ (x : View). owing x (it ∷ w.owed)) done.is ∙ ap (owing v) (sym (ap (λ (x : View). x.owed) is));
        all = λ k. (let next = often_next but refs n low_there 0 other k in
            let more = one_more_of k it w.owed u.owed (ap (λ (x : View). x.owed) is) in
            let before = done.all k in omega (arith, next, more, before));
      }

  -- it is left out
  pub release_passes : but ≡ Some n → (w : View) → HasReleasedAll v (all_but but (take n refs)) w → HasReleasedAll v (all_but but (take (n + 1) refs)) w
  release_passes is w done = subst (λ ks. HasReleasedAll v ks w) (sym (next_out but refs n low_there 0 is)) done

  pub raise_passes : but ≡ Some n → (w : View) → HasRaisedAll v (all_but but (take n refs)) w → HasRaisedAll v (all_but but (take (n + 1) refs)) w
  raise_passes is w done = subst (λ ks. HasRaisedAll v ks w) (sym (next_out but refs n low_there 0 is)) done

-- ---- at the end

all_taken : (v : View) (halves : List ℕ) (refs : List Ref) → AreEntriesTo v (entries_of_halves halves) refs → (n : ℕ) → length halves ≤ n → take n refs ≡ refs
all_taken v halves refs named n high =
    take_all n refs (let same = as_many v (entries_of_halves halves) refs named in let halved = length-map halves entry_of in omega (arith, high, same, halved))

pub all_released : (v : View) (halves : List ℕ) (but : Option ℕ) (refs : List Ref) → LeadTo v (entries_of_halves halves) but refs → (n : ℕ) → length halves ≤ n → (w : View) →
    HasReleasedAll v (all_but but (take n refs)) w → HasReleasedAll v (all_but but refs) w
all_released v halves but refs lead n high w done = subst (λ xs. HasReleasedAll v (all_but but xs) w) (all_taken v halves refs lead.named n high) done

pub all_raised : (v : View) (halves : List ℕ) (but : Option ℕ) (refs : List Ref) → LeadTo v (entries_of_halves halves) but refs → (n : ℕ) → length halves ≤ n → (w : View) →
    HasRaisedAll v (all_but but (take n refs)) w → HasRaisedAll v (all_but but refs) w
all_raised v halves but refs lead n high w done = subst (λ xs. HasRaisedAll v (all_but but xs) w) (all_taken v halves refs lead.named n high) done

-- what the seat has retired hangs as it did
pub raised_hangs : (limbo : Limbo) (v : View) (ks : List Ref) (w : View) → IsLimbo limbo v → HasRaisedAll v ks w → IsLimbo limbo w
raised_hangs limbo v ks w h done = subst (IsLimbo limbo) (sym done.is) (limbo_stays limbo v (owing v w.owed) refl h)

pub raised_sizes : (v : View) (ks : List Ref) (w : View) → HasRaisedAll v ks w → w.sizes ≡ v.sizes
raised_sizes v ks w done = ap (λ (u : View). u.sizes) done.is

-- ---- one can't be raised: those before it are released

module _ (v : View) (halves : List ℕ) (but : Option ℕ) (refs : List Ref) (lead : LeadTo v (entries_of_halves halves) but refs) (n : ℕ) (w : View)
    (done : HasRaisedAll v (all_but but (take n refs)) w) where
  among : (k : Ref) → Contains (all_but but (take n refs)) k → Contains (all_but but refs) k
  among k c =
      let some = has_often k (all_but but (take n refs)) c in
      let most = more_often but k (take n refs) (drop n refs) in
      let same = ap (λ xs. how_often k (all_but but xs)) (take-append-drop n refs) in
      often_has k (all_but but refs) (omega (arith, some, most, same))

  pub back_ready : MayRelease w (entries_of_halves (take n halves)) but (take n refs)
  back_ready = subst (λ u. ((k : Ref) → how_often k (all_but but (take n refs)) ≤ how_often k w.owed) → MayRelease u (entries_of_halves (take n halves)) but (take n refs)) (sym done.is)
      (λ owed. record {
        lead = record {
          named = ap (map unowned) (sym (take-map entry_of n halves)) ∙ sym (take-map unowned n (entries_of_halves halves)) ∙ ap (take n) lead.named ∙ take-map (entry_to v) n refs;
          used = λ k c. lead.used k (among k c);
          shared = λ k c. lead.shared k (among k c);
        };
        owed = owed;
      })
      (λ k. (let all = done.all k in omega (arith, all)))

  pub back_done : (x : View) → HasReleasedAll w (all_but but (take n refs)) x → HasReleasedAll v [] x
  back_done x h = record {
    kept = record { is = h.kept.is ∙ ap (λ (u : View). record u { epoch = x.epoch; passed = x.passed; retired = x.retired; owed = x.owed; links = x.links }) done.is };
    all = λ k. (let less = h.all k in let more = done.all k in omega (arith, less, more));
  }
