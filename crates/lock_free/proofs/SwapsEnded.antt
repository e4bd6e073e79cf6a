-- What a SWAP gives to the seat at its end, in words of the halves that were seen before.
use Rattle.std.proofs.Common.{◌≡◌, ◌<◌, ◌++◌, inl, ℕ, Bool, true, false, if◌then◌else◌, List, Contains, Option, Some, None, get_or, length, refl, sym, ap, subst, ◌∙◌, arith}
use Rattle.std.proofs.lemmas.Option.{none-some}
use Rattle.std.proofs.lemmas.List.Elements.{Contains-append_left, Contains-get_or}
use Rattle.trie_words.specs.declared.entries.Entry.{Entry}
use Rattle.machine_model.specs.Beneath.slot_arena.specs.declared.refs.Ref.{Ref}
use Rattle.machine_model.specs.Beneath.slot_arena.specs.declared.nodes.Slot.{Slot}
use Rattle.machine_model.specs.Beneath.slot_arena.specs.Heaps.{entries_of, no_ref, node_at}
use Rattle.machine_model.specs.declared.lines.Purpose.{Purpose}
use Rattle.machine_model.specs.declared.operations.Operation.{Operation}
use Rattle.machine_model.specs.declared.reading.Swap.{Swap}
use Rattle.machine_model.specs.declared.reading.SwapLine.TheVariants as swap
use Rattle.proof_memory.specs.Wants.{AllHold, is_branch_or_list, is_entry, is_main_node, line_wants, purpose_wants, swap_wants}
use Rattle.proof_memory.proofs.Claims.Uses.{meets_of, safe_of}
use Rattle.lock_free.specs.declared.leaving.Drops.{Drops}
use Rattle.lock_free.specs.declared.leaving.Drops.TheVariants as drops
use Rattle.lock_free.specs.declared.leaving.Swapping.{Swapping}
use Rattle.lock_free.specs.declared.limbo.Limbo.{Limbo}
use Rattle.lock_free.specs.declared.reclaiming.Decided.{Decided}
use Rattle.lock_free.specs.declared.reclaiming.Decided.TheVariants as decided
use Rattle.lock_free.specs.declared.reclaiming.Kind.TheVariants as kinds
use Rattle.lock_free.specs.declared.reclaiming.Retiree.{Retiree}
use Rattle.lock_free.specs.declared.rules.View.{View}
use Rattle.lock_free.specs.Accounts.{place_of}
use Rattle.lock_free.specs.Becoming.{Follows}
use Rattle.lock_free.specs.Counting.{IsInSlot}
use Rattle.lock_free.specs.Entries.{entry_in, HasStayed, HoldsEntry, IsEntryIn}
use Rattle.lock_free.specs.Freeing.{HasLetGo}
use Rattle.lock_free.specs.Halves.{entries_of_halves}
use Rattle.lock_free.specs.Leaving.{HasCheckedOn, HasEndedSwap, IsAtCheck, IsCheckOf}
use Rattle.lock_free.specs.Dropping.{AreDropped, IsDroppedAt}
use Rattle.lock_free.specs.LettingGo.{names_of, taken_over, HoldsLeft}
use Rattle.lock_free.specs.Limbos.{hanging_of, IsLimbo}
use Rattle.lock_free.specs.Live.{line_claims, refs_of_claims, IsLive}
use Rattle.lock_free.specs.Loading.{now, Holds, HoldsSlot, Runs, IsSound, IsUsed}
use Rattle.lock_free.specs.Nodes.{class_of, is_single}
use Rattle.lock_free.specs.Raising.{kind_for, IsShared, LeadTo}
use Rattle.lock_free.specs.Reclaiming.{is_committed, retiree_of, kind_of_node}
use Rattle.lock_free.specs.SeenEntries.{AreEntriesTo}
use Rattle.lock_free.specs.SeenNames.{HasSeenNames, HasSeenTaken, HoldsMain, IsMainIn, MayLetGoBy, MayLetGoTold, HasDropped, HasSeenDropped}
use Rattle.lock_free.specs.Swaps.{is_done, swap_done, swapped_by, RetiresOwn}
use Rattle.lock_free.proofs.AllEntries.{holds_on}
use Rattle.lock_free.proofs.Comings.{runs_one}
use Rattle.lock_free.proofs.CopyMains.{in_slot_on}
use Rattle.lock_free.proofs.EntriesTo.{single_on}
use Rattle.lock_free.proofs.EntryRaises.{entry_class, entry_kind}
use Rattle.lock_free.proofs.Followings.{follows_both, follows_later, main_kind, main_node_on}
use Rattle.lock_free.proofs.GivenBack.{node_is}
use Rattle.lock_free.proofs.Idle.{empty_has}
use Rattle.lock_free.proofs.Laters.{placed_later}
use Rattle.lock_free.proofs.LimboStays.{limbo_stays}
use Rattle.lock_free.proofs.MainNames.{entry_named}
use Rattle.lock_free.proofs.NamesStay.{names_on, swap_dropped, swap_left, swap_live}
use Rattle.lock_free.proofs.NamesUsed.{entry_stays, named_over, names_differ, names_used, over_differs, over_used, still_lead}
use Rattle.lock_free.proofs.NewNodes.{class_on}
use Rattle.lock_free.proofs.RenewEntries.{main_kind_is}
use Rattle.lock_free.proofs.Retirings.{follows_retiring, retiring_after, retiring_more, retiring_sizes}
use Rattle.lock_free.proofs.Rootings.{stayed_both, stayed_none}

-- ---- at the last line

module _ (n : ℕ) (v : View) (sound : IsSound n v) (s : Swapping) (at : IsAtCheck v s) where
  abbrev i : Ref
  i = at.i

  abbrev m : Ref
  m = at.replaced

  abbrev f : Ref
  f = at.made

  abbrev p : Operation
  p = record at.its.operation { is_marked = at.its.runs.0 }

  abbrev its_swap : Swap
  its_swap = record { indirection = i; replaced = m; fresh = f; line = swap.Check }

  lives : AllHold (IsLive (now v)) (now v).heap (swap_wants its_swap)
  lives = swap_live v.sizes v.account sound.bounds v.actor p at.its.runs.1 at.why its_swap at.its.line_is

  m_lives : IsLive (now v) m
  m_lives = safe_of lives.1.0

  m_main : is_main_node (node_at (now v).heap m) ≡ true
  m_main = meets_of lives.1.0

  f_lives : IsLive (now v) f
  f_lives = safe_of lives.1.1.0

  f_main : is_main_node (node_at (now v).heap f) ≡ true
  f_main = meets_of lives.1.1.0

  hand : (r : Ref) → Contains (refs_of_claims (swap_wants its_swap ++ purpose_wants at.why)) r → Holds v r
  hand r c = (
    p,
    at.its.runs.1,
    inl (Contains-append_left (refs_of_claims (line_claims (now v) p)) p.private r
        (subst (λ l. Contains (refs_of_claims (line_wants (now v).limits.hash p.call p.access l)) r) (sym at.its.line_is) c)),
  )

  -- both stand in the slots that are said, and it has them at hand
  m_in : IsMainIn v s.replaced.slot m at.its.old.0.0
  m_in =
      let used_m = at.its.old.0 in
      (hand m (1, omega arith, refl), used_m.1, sym (ap is_main_node (node_is (now v) m used_m.0 used_m.1)) ∙ m_main, at.its.old.1)

  f_in : IsMainIn v s.fresh f at.its.fresh.0.0
  f_in =
      let used_f = at.its.fresh.0 in
      (hand f (2, omega arith, refl), used_f.1, sym (ap is_main_node (node_is (now v) f used_f.0 used_f.1)) ∙ f_main, at.its.fresh.1)

  -- what is dropped is one of its entries
  m_kind_is : (position : ℕ) → IsDroppedAt v m f position → is_branch_or_list at.its.old.0.0.node ≡ true
  m_kind_is position out = let used_m = at.its.old.0 in sym (ap is_branch_or_list (node_is (now v) m used_m.0 used_m.1)) ∙ out.kind

  m_inside : (position : ℕ) → IsDroppedAt v m f position → position < length (entries_of at.its.old.0.0.node)
  m_inside position out = let used_m = at.its.old.0 in subst (λ z. position < length (entries_of z)) (node_is (now v) m used_m.0 used_m.1) out.inside

  held_entry : (position : ℕ) → IsDroppedAt v m f position → HoldsEntry v m position
  held_entry position out = record { slot = at.its.old.0.0; used = at.its.old.0.1; holds = m_in.0; kind = m_kind_is position out; inside = m_inside position out }

  dropped_held : (d : Drops) → AreDropped v m f d → HasDropped v s.replaced.slot d
  dropped_held (drops.At position) out = (m, at.its.old.0.0, m_in.0, at.its.old.0.1, m_kind_is position out, m_inside position out, out.low, at.its.old.1)
  dropped_held drops.Nothing out = tt
  dropped_held drops.Others out = tt

  pub told_held : HasDropped v s.replaced.slot s.drops
  told_held = dropped_held s.drops at.its.drops

  seen_by : (d : Drops) (dropped : Option Entry) (w : View) → HasSeenDropped v s.replaced.slot d dropped w → HasStayed v w
  seen_by (drops.At position) (Some entry) w had = had.0
  seen_by (drops.At position) None w had = absurd had
  seen_by drops.Nothing None w had = subst (HasStayed v) (sym had) (stayed_none v)
  seen_by drops.Nothing (Some entry) w had = absurd had
  seen_by drops.Others None w had = subst (HasStayed v) (sym had) (stayed_none v)
  seen_by drops.Others (Some entry) w had = absurd had

  pub told_stayed : (dropped : Option Entry) (w : View) → HasSeenDropped v s.replaced.slot s.drops dropped w → HasStayed v w
  told_stayed = seen_by s.drops

  -- its fresh node is looked at
  pub fresh_slot : HoldsSlot v s.fresh
  fresh_slot = (f, f_in.0, at.its.fresh.1)

  pub replaced_held : HoldsMain v s.replaced.slot
  replaced_held = (m, at.its.old.0.0, m_in)

  -- ---- it is there still

  module _ (w : View) (stayed : HasStayed v w) where
    abbrev goes_on : Follows v w
    goes_on = follows_later v w stayed.later

    check_later : (why : Purpose) (j b c : Ref) → IsCheckOf v why j b c s → IsCheckOf w why j b c s
    check_later why j b c its = record {
      operation = its.operation;
      runs = stayed.comes its.operation its.runs;
      none = its.none;
      line_is = its.line_is;
      fresh = placed_later v w stayed.later c s.fresh its.fresh;
      old = placed_later v w stayed.later b s.replaced.slot its.old;
      owns = stayed.later.owns j b s.replaced.own its.owns;
      class = class_on v w goes_on b its.old.0 ∙ its.class;
      drops = swap_dropped v w goes_on sound.bounds (record its.operation { is_marked = its.runs.0 }) its.runs.1 why
          (record { indirection = j; replaced = b; fresh = c; line = swap.Check }) its.line_is s.drops its.drops;
    }

    pub still_checks : IsAtCheck w s
    still_checks = record { why = at.why; i = at.i; replaced = at.replaced; made = at.made; its = check_later at.why at.i at.replaced at.made at.its }

    f_in_w : (y : Slot) × IsMainIn w s.fresh f y
    f_in_w =
        let used_f = at.its.fresh.0 in
        let later = stayed.later.nodes f used_f.0 used_f.1 in (
          later.0,
          (holds_on v w stayed f f_in.0, later.1, main_kind used_f.0.node later.0.node later.2 f_in.2, stayed.later.places f used_f.0 used_f.1 ∙ f_in.3),
        )

    pub fresh_held : HoldsMain w s.fresh
    fresh_held = (f, f_in_w.0, f_in_w.1)

    pub stays_hung : (limbo : Limbo) → IsLimbo limbo v → IsLimbo limbo w
    stays_hung limbo is = limbo_stays limbo v w (ap hanging_of stayed.later.is) is

    pub stays_sized : w.sizes ≡ v.sizes
    stays_sized = ap (λ (x : View). x.sizes) stayed.later.is

  -- what it has come to since
  pub ended_since : (x : View) (stayed : HasStayed v x) (result : Decided) (y : View) → HasEndedSwap x s result y → HasEndedSwap v s result y
  ended_since x stayed result y g = record {
    later = retiring_after v x y stayed.later g.later;
    which = g.which;
    comes = λ why j b c its o runs.
        (let ended = g.comes why j b c (check_later x stayed why j b c its) o (stayed.comes o runs) in
        let l = swap_live v.sizes v.account sound.bounds v.actor (record its.operation { is_marked = its.runs.0 }) its.runs.1 why
        (record { indirection = j; replaced = b; fresh = c; line = swap.Check }) its.line_is in
        let used_c = its.fresh.0 in
        let node = main_node_on v x (follows_later v x stayed.later) c used_c.0 used_c.1 (sym (ap is_main_node (node_is (now v) c used_c.0 used_c.1)) ∙ meets_of l.1.1.0) in
        subst (λ k. Runs y (swap_done why k (is_done (swapped_by result)) o)) node ended);
  }

  -- ---- it has taken its last step

  module _ (x : View) (stayed_x : HasStayed v x) (result : Decided) (y : View) (checked : HasCheckedOn x s result y) where
    follows_x : Follows v x
    follows_x = follows_later v x stayed_x.later

    follows_y : Follows v y
    follows_y = follows_both v x y follows_x (follows_retiring x y checked.ended.later)

    checks_x : IsCheckOf x at.why i m f s
    checks_x = check_later x stayed_x at.why i m f at.its

    -- nothing is private then
    shared_y : (k : Ref) → IsShared y k
    shared_y k operation runs c =
        let node = node_at (now x).heap f in
        let ended = checked.ended.comes at.why i m f checks_x at.its.operation (stayed_x.comes at.its.operation at.its.runs) in
        let same = runs_one y operation (swap_done at.why node (is_done (swapped_by result)) at.its.operation) (operation.is_marked, runs) ended in
        empty_has k (subst (λ ks. Contains ks k) (ap (λ (o : Operation). o.private) same) c)

    holds : HoldsLeft v s.replaced.own m f (is_committed result) y.owed
    holds = swap_left v x follows_x sound.bounds p at.its.runs.1 at.why its_swap at.its.line_is s.replaced.own (is_committed result) y.owed (checked.holds at.why i m f checks_x)

    is_own : (r : Retiree) → Some r ≡ retiree_of s.replaced s.class → s.replaced.own ≡ true
    is_own r e = by s.replaced.own refl
      where
        by : (b : Bool) → s.replaced.own ≡ b → s.replaced.own ≡ true
        by true is = is
        by false is = absurd (none-some r (sym (e ∙ ap (λ b. if b then Some (record { class = s.class; slot = s.replaced.slot }) else None) is)))

    is_shared : None ≡ retiree_of s.replaced s.class → s.replaced.own ≡ false
    is_shared e = by s.replaced.own refl
      where
        by : (b : Bool) → s.replaced.own ≡ b → s.replaced.own ≡ false
        by false is = is
        by true is = absurd (none-some (record { class = s.class; slot = s.replaced.slot }) (e ∙ ap (λ b. if b then Some (record { class = s.class; slot = s.replaced.slot }) else None) is))

    m_slot : IsInSlot v m s.class s.replaced.slot
    m_slot =
        let used_m = at.its.old.0 in
        record { slot = used_m.0; used = used_m.1; class_is = sym (ap class_of (node_is (now v) m used_m.0 used_m.1)) ∙ at.its.class; place = at.its.old.1 }

    m_kind : kind_of_node (node_at (now y).heap m) ≡ kinds.Main
    m_kind = ap kind_of_node (main_node_on v y follows_y m at.its.old.0.0 at.its.old.0.1 m_in.2) ∙ main_kind_is (node_at (now v).heap m) m_main

    owes_by : (d : Decided) → RetiresOwn s.replaced s.class s.fresh (swapped_by d) → HoldsLeft v s.replaced.own m f (is_committed d) y.owed → MayLetGoTold y s d None
    owes_by (decided.Commits (Some r)) which left = tt
    owes_by (decided.Commits None) which left =
        (m, ((subst (λ b. HoldsLeft v b m f true y.owed) (is_shared which) left, in_slot_on v y follows_y m s.class s.replaced.slot m_slot, shared_y m), m_kind))
    owes_by (decided.Fails r) which left = tt

    -- the entry that was seen leads to what the replaced one names, and the fresh one doesn't
    dropped_by : (position : ℕ) → IsDroppedAt v m f position → (entry : Entry) → IsEntryIn x m position entry.slot entry.is_single → (d : Decided) →
        RetiresOwn s.replaced s.class s.fresh (swapped_by d) → HoldsLeft v s.replaced.own m f (is_committed d) y.owed → MayLetGoTold y s d (Some entry)
    dropped_by position out entry its (decided.Commits (Some r)) which left =
        let k = entry_in v m position in
        let among = entry_named (node_at (now v).heap m) out.kind k (Contains-get_or (entries_of (node_at (now v).heap m)) position no_ref out.inside) in
        let used_k = names_used n v sound m m_lives m_main k among in
        let later = follows_y.nodes k used_k.0 used_k.1 in
        let is_k = entry_stays used_k.0.node later.0.node later.2 used_k.2 in
        let same = ap (λ z. get_or (entries_of z) position no_ref) (main_node_on v x follows_x m at.its.old.0.0 at.its.old.0.1 m_in.2) in
        let place = subst (λ q. place_of x.account q ≡ entry.slot) same its.placed.1 in
        let single = subst (λ q. is_single (node_at (now x).heap q) ≡ entry.is_single) same its.kind in (
          k,
          (
            (
              subst (λ b. HoldsLeft v b m f true y.owed) (is_own r which) left k among out.out,
              record {
                slot = later.0;
                used = later.1;
                class_is = entry_class later.0.node is_k;
                place = follows_y.places k used_k.0 used_k.1 ∙ sym (follows_x.places k used_k.0 used_k.1) ∙ place;
              },
              shared_y k,
            ),
            ap kind_of_node (node_is (now y) k later.0 later.1) ∙ entry_kind later.0.node is_k
                ∙ ap kind_for (sym (ap is_single (node_is (now y) k later.0 later.1)) ∙ single_on v y follows_y k (used_k.0, used_k.1) ∙ sym (single_on v x follows_x k (used_k.0, used_k.1)) ∙ single),
          ),
        )
    dropped_by position out entry its (decided.Commits None) which left = owes_by (decided.Commits None) which left
    dropped_by position out entry its (decided.Fails r) which left = tt

    pub may_told : (d : Drops) → AreDropped v m f d → (dropped : Option Entry) → HasSeenDropped v s.replaced.slot d dropped x → MayLetGoTold y s result dropped
    may_told (drops.At position) out (Some entry) had =
        dropped_by position out entry (had.1 m (held_entry position out) at.its.old.1) result checked.ended.which holds
    may_told (drops.At position) out None had = absurd had
    may_told drops.Nothing out None had = owes_by result checked.ended.which holds
    may_told drops.Nothing out (Some entry) had = absurd had
    may_told drops.Others out None had = owes_by result checked.ended.which holds
    may_told drops.Others out (Some entry) had = absurd had

    pub checked_size : y.sizes ≡ v.sizes
    checked_size = retiring_sizes x y checked.ended.later ∙ stays_sized x stayed_x

    -- and then it has let go of what it was given
    pub ends : (z : View) → HasLetGo y z → HasEndedSwap v s result z
    ends z gone = ended_since x stayed_x result z (record {
      later = retiring_more x y z checked.ended.later gone;
      which = checked.ended.which;
      comes = λ why j b c its o runs. subst (λ q. Runs q (swap_done why (node_at (now x).heap c) (is_done (swapped_by result)) o)) (sym gone.is) (checked.ended.comes why j b c its o runs);
    })

  -- ---- it had looked at both before

  module _ (w : View) (olds : List ℕ) (g : HasSeenTaken v s.replaced (entries_of_halves olds) w) (x : View) (news : List ℕ)
      (h : HasSeenNames w s.fresh (entries_of_halves news) x) (result : Decided) (y : View) (checked : HasCheckedOn x s result y) where
    abbrev both : HasStayed v x
    both = stayed_both v w x g.0 h.0

    after_x : Follows v x
    after_x = follows_x x both result y checked

    after_y : Follows v y
    after_y = follows_y x both result y checked

    olds_y : AreEntriesTo y (entries_of_halves olds) (taken_over v s.replaced.own m)
    olds_y =
        still_lead v w y (follows_later v w g.0.later) (follows_both w x y (follows_later w x h.0.later) (follows_retiring x y checked.ended.later)) (entries_of_halves olds)
        (taken_over v s.replaced.own m)
        (over_used n v sound m m_lives m_main s.replaced.own) (g.1 m at.its.old.0.0 m_in)

    news_y : AreEntriesTo y (entries_of_halves news) (names_of v f)
    news_y =
        still_lead v x y after_x (follows_retiring x y checked.ended.later) (entries_of_halves news) (names_of v f) (names_used n v sound f f_lives f_main)
        (subst (AreEntriesTo x (entries_of_halves news)) (names_on v w (follows_later v w g.0.later) f at.its.fresh.0 f_main) (h.1 f (f_in_w w g.0).0 (f_in_w w g.0).1))

    lead_y : (entries : List Entry) (refs : List Ref) → ((k : Ref) → Contains refs k → (slot : Slot) × IsUsed v k slot × (is_entry slot.node ≡ true)) → AreEntriesTo y entries refs →
        LeadTo y entries None refs
    lead_y entries refs used_v named = record {
      named = named;
      used = λ k c. (let u = used_v k c in let z = after_y.nodes k u.0 u.1 in (z.0, z.1, entry_stays u.0.node z.0.node z.2 u.2));
      shared = λ k c. shared_y x both result y checked k;
    }

    may_by : (d : Decided) → RetiresOwn s.replaced s.class s.fresh (swapped_by d) → HoldsLeft v s.replaced.own m f (is_committed d) y.owed → MayLetGoBy y s d olds news
    may_by (decided.Commits (Some r)) which left =
        let own = is_own x both result y checked r which in
        record {
          refs = taken_over v s.replaced.own m;
          those = names_of v f;
          lead = lead_y (entries_of_halves olds) (taken_over v s.replaced.own m) (over_used n v sound m m_lives m_main s.replaced.own) olds_y;
          others_lead = news_y;
          once = over_differs n v sound m m_lives m_main s.replaced.own;
          holds = λ k c apart. subst (λ b. HoldsLeft v b m f true y.owed) own left k (named_over n v sound m m_lives m_main s.replaced.own k c) apart;
        }
    may_by (decided.Commits None) which left =
        owes_by x both result y checked (decided.Commits None) which left
    may_by (decided.Fails r) which left = record {
      refs = names_of v f;
      those = taken_over v s.replaced.own m;
      lead = lead_y (entries_of_halves news) (names_of v f) (names_used n v sound f f_lives f_main) news_y;
      others_lead = olds_y;
      once = names_differ n v sound f f_lives f_main;
      holds = left;
    }

    pub may_let_go : MayLetGoBy y s result olds news
    may_let_go = may_by result checked.ended.which (holds x both result y checked)
