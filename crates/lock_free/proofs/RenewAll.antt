-- RENEW goes over the entries of a branch.
use Rattle.std.proofs.Common.{◌≡◌, ◌⊎◌, ◌<◌, ◌≤◌, ◌+◌, ◌++◌, inl, inr, ℕ, Bool, true, false, List, [], ◌∷◌, All, Contains, length, length-append, get_or, nat_lt, None, Some}
use Rattle.std.proofs.Common.{append_assoc, append-nil, refl, sym, ap, ap₂, subst, ◌∙◌, arith, if◌then◌else◌}
use Rattle.std.proofs.lemmas.Bool.{lt-ltb, le-ltb}
use Rattle.std.proofs.lemmas.List.Elements.{All-from_get_or, All-weaker, Contains-append_left, Contains-get_or, Contains-push, Contains-push_cases}
use Rattle.history.specs.declared.replies.Reply.TheVariants as reply
use Rattle.trie_words.specs.declared.entries.Entry.{Entry}
use Rattle.machine_model.specs.Beneath.slot_arena.specs.declared.refs.Ref.{Ref}
use Rattle.machine_model.specs.Beneath.slot_arena.specs.Heaps.{no_ref, node_at, entries_of}
use Rattle.machine_model.specs.declared.lines.Line.{Line}
use Rattle.machine_model.specs.declared.lines.Line.TheVariants as line
use Rattle.machine_model.specs.declared.operations.Operation.{Operation}
use Rattle.machine_model.specs.declared.repairs.RenewLine.TheVariants as renew
use Rattle.machine_model.specs.Renewing.{renew_next, next_entry}
use Rattle.proof_memory.proofs.Claims.Uses.{Meets, safe_of, all_of}
use Rattle.proof_memory.specs.Wants.{AnEntry}
use Rattle.lock_free.specs.declared.reading.Way.{Way}
use Rattle.lock_free.specs.declared.renewing.RenewedEntries.{RenewedEntries}
use Rattle.lock_free.specs.declared.renewing.RenewedEntry.{RenewedEntry}
use Rattle.lock_free.specs.declared.rules.View.{View}
use Rattle.lock_free.specs.Becoming.{Follows, HasBecome}
use Rattle.lock_free.specs.Holding.{IsOn}
use Rattle.lock_free.specs.Live.{IsLive}
use Rattle.lock_free.specs.Loading.{now, IsSound}
use Rattle.lock_free.specs.Passing.{IsOnWay}
use Rattle.lock_free.specs.Repairing.{HasStart, IsAtRenewed, GivesUp, RenewedTo, HasRenewed, IsRenewing, RenewedAll, HasRenewedAll, made_unless}
use Rattle.lock_free.specs.SeenEntries.{AreEntriesTo, entry_to, unowned}
use Rattle.lock_free.proofs.KeyHolds.{LooksIn}
use Rattle.lock_free.proofs.Asked.{live_in_use}
use Rattle.lock_free.proofs.BecomesOn.{become_so, becomes_on, way_become, start_become}
use Rattle.lock_free.proofs.EntriesTo.{Used, entry_to_on, entries_on}
use Rattle.lock_free.proofs.Followings.{follows_self, follows_both, become_both, main_node_on, used_on}
use Rattle.lock_free.proofs.GivenBack.{node_is}
use Rattle.lock_free.proofs.GoingOver.{as_many, one_more, entry_at_place}
use Rattle.lock_free.proofs.Idle.{empty_has}
use Rattle.lock_free.proofs.LastingNodes.{entry_lives}
use Rattle.lock_free.proofs.NextEntries.{holds_next}
use Rattle.lock_free.proofs.OnLines.{line_is, finds_now}
use Rattle.lock_free.proofs.RepairLooks.{renew_same, renew_parts}

-- the operation with so much more of its own, on this line
abbrev pub with_more : List Ref → Line → Operation → Operation
with_more more next o = record o { private = o.private ++ more; line = next }

-- those that are kept, with this one where it is
abbrev pub kept_with : Bool → List Entry → Entry → List Entry
kept_with true kept entry = kept ++ entry ∷ []
kept_with false kept entry = kept

-- so many entries are done
pub record Renewing (v0 v : View) (path : List Ref) (main : Ref) (n : ℕ) (so_far kept_so_far : List Entry) : Type 0 where
  pub done : List Ref
  pub made : List Ref
  pub kept : List Ref
  pub count : length done ≡ n
  pub become : HasBecome (with_more made (renew_next (now v0) path main done)) v0 v
  pub names : AreEntriesTo v so_far done
  pub kept_names : AreEntriesTo v kept_so_far kept
  pub each : (k : Ref) → Contains done k → Contains made k ⊎ Contains kept k
  pub stood : (k : Ref) → Contains kept k → Contains (entries_of (node_at (now v0).heap main)) k

pub record GoesRenewing (words : ℕ) (way : Way) (start : ℕ) (v0 v : View) (entries : List Entry) (n : ℕ) (so_far kept_so_far : List Entry) : Type 0 where
  pub sound : IsSound words v
  pub on : IsOnWay v way
  pub begun : HasStart v start
  pub size : length so_far ≡ n
  pub kept_size : length kept_so_far ≤ n
  pub going : (at : IsRenewing v0 entries) → Renewing v0 v at.path at.main n so_far kept_so_far

module _ (words : ℕ) (way : Way) (start : ℕ) (v0 : View) (sound0 : IsSound words v0) (on0 : IsOnWay v0 way) (begun0 : HasStart v0 start) (entries : List Entry) (at : IsRenewing v0 entries) where
  abbrev path : List Ref
  path = at.path

  abbrev main : Ref
  main = at.main

  abbrev l0 : Line
  l0 = line.Renew (renew.Entry path main [])

  h : LooksIn v0 main 0
  h = holds_next v0 l0 at.on path main [] (λ k c a. refl) words sound0

  main_lives : IsLive (now v0) main
  main_lives = let claims = finds_now v0 l0 at.on words sound0 in safe_of claims.1.1.0

  entries_are : entries_of (node_at (now v0).heap main) ≡ at.refs.items
  entries_are = ap entries_of at.node

  node_on : (w : View) → Follows v0 w → node_at (now w).heap main ≡ node_at (now v0).heap main
  node_on w f = main_node_on v0 w f main h.slot h.used h.is_main

  -- each that stands there is in use
  entry_used : (k : Ref) → Contains (entries_of (node_at (now v0).heap main)) k → Used v0 k
  entry_used k c =
      live_in_use v0.sizes v0.account sound0.bounds k
      (entry_lives v0.sizes v0.account main k h.slot main_lives h.used (subst (λ x. Contains (entries_of x) k) (node_is (now v0) main h.slot h.used) c))

  place_used : (k : ℕ) → k < length at.refs.items → Used v0 (get_or at.refs.items k no_ref)
  place_used k low = let e = get_or at.refs.items k no_ref in entry_used e (subst (λ xs. Contains xs e) (sym entries_are) (Contains-get_or at.refs.items k no_ref low))

  many : length entries ≡ length at.refs.items
  many = as_many v0 entries at.refs.items at.names

  same_place : (other : IsRenewing v0 entries) → renew_parts l0 ≡ renew_parts (line.Renew (renew.Entry other.path other.main []))
  same_place other = ap renew_parts (sym (line_is v0 l0 at.on other.on.0 other.on.1) ∙ other.on.2)

  onto : (w : View) (n : ℕ) (so_far kept : List Entry) → Renewing v0 w path main n so_far kept → (other : IsRenewing v0 entries) → Renewing v0 w other.path other.main n so_far kept
  onto w n so_far kept here other = subst (λ (x : List Ref × Ref × List Ref). Renewing v0 w x.0 x.1 n so_far kept) (same_place other) here

  line_by : (done : List Ref) (b : Bool) → nat_lt (length done) (length (entries_of (node_at (now v0).heap main))) ≡ b →
      renew_next (now v0) path main done ≡ (if b then line.Renew (renew.Entry path main done) else line.Renew (renew.Branch path main done))
  line_by done b is = ap (λ (x : Bool). if x then line.Renew (renew.Entry path main done) else line.Renew (renew.Branch path main done)) is

  goes_by : (v : View) (n : ℕ) (so_far kept : List Entry) → IsSound words v → length so_far ≡ n → length kept ≤ n → Renewing v0 v path main n so_far kept →
      GoesRenewing words way start v0 v entries n so_far kept
  goes_by v n so_far kept sound size few here = record {
    sound = sound;
    on = way_become v0 v (with_more here.made (renew_next (now v0) path main here.done)) here.become l0 at.on way (λ o. refl) (λ o. refl) on0;
    begun = start_become v0 v (with_more here.made (renew_next (now v0) path main here.done)) here.become l0 at.on start (λ o. refl) begun0;
    size = size;
    kept_size = few;
    going = onto v n so_far kept here;
  }

  -- ---- it begins

  first_left : nat_lt 0 (length (entries_of (node_at (now v0).heap main))) ≡ true
  first_left = ap (λ x. nat_lt 0 (length (entries_of x))) (node_is (now v0) main h.slot h.used) ∙ lt-ltb 0 (length (entries_of h.slot.node)) h.inside

  none_yet : Renewing v0 v0 path main 0 [] []
  none_yet = record {
    done = [];
    made = [];
    kept = [];
    count = refl;
    become = become_so v0 v0 (λ o. o) (with_more [] (renew_next (now v0) path main []))
        (λ o runs. ap₂ (λ ps l. record o { private = ps; line = l }) (sym (append-nil o.private)) (line_is v0 l0 at.on o runs ∙ sym (line_by [] true first_left)))
        (record { follows = follows_self v0; comes = λ o runs. runs });
    names = refl;
    kept_names = refl;
    each = λ k c. absurd (empty_has k c);
    stood = λ k c. absurd (empty_has k c);
  }

  pub goes_first : (none kept : List Entry) → none ≡ [] → kept ≡ [] → GoesRenewing words way start v0 v0 entries 0 none kept
  goes_first none kept is kept_is =
      subst (λ xs. GoesRenewing words way start v0 v0 entries 0 none xs) (sym kept_is)
      (subst (λ xs. GoesRenewing words way start v0 v0 entries 0 xs []) (sym is) (goes_by v0 0 [] [] sound0 refl (omega arith) none_yet))

  -- ---- it goes on

  module _ (v : View) (n : ℕ) (so_far kept : List Entry) (g : GoesRenewing words way start v0 v entries n so_far kept) where
    it : Renewing v0 v path main n so_far kept
    it = g.going at

    module _ (few : n < length entries) (d : Entry) where
      low : n < length at.refs.items
      low = subst (λ k. n < k) many few

      some_left : nat_lt (length it.done) (length (entries_of (node_at (now v0).heap main))) ≡ true
      some_left = ap₂ nat_lt it.count (ap length entries_are) ∙ lt-ltb n (length at.refs.items) low

      abbrev l : Line
      l = line.Renew (renew.Entry path main it.done)

      become_there : HasBecome (with_more it.made l) v0 v
      become_there = subst (λ x. HasBecome (with_more it.made x) v0 v) (line_by it.done true some_left) it.become

      at_entry : IsOn v l
      at_entry = becomes_on v0 v (with_more it.made l) become_there l0 at.on l (λ o e. refl)

      abbrev f : Follows v0 v
      f = it.become.follows

      next_is : next_entry (now v) main it.done ≡ get_or at.refs.items n no_ref
      next_is = ap (λ x. get_or (entries_of x) (length it.done) no_ref) (node_on v f ∙ at.node) ∙ ap (λ k. get_or at.refs.items k no_ref) it.count

      abbrev e : Entry
      e = get_or entries n d

      next_stood : Contains (entries_of (node_at (now v0).heap main)) (get_or at.refs.items n no_ref)
      next_stood = subst (λ xs. Contains xs (get_or at.refs.items n no_ref)) (sym entries_are) (Contains-get_or at.refs.items n no_ref low)

      named : unowned e ≡ entry_to v (next_entry (now v) main it.done)
      named =
          entry_at_place v0 entries at.refs.items n d no_ref low at.names ∙ sym (entry_to_on v0 v f (get_or at.refs.items n no_ref) (place_used n low)) ∙ ap (entry_to v) (sym next_is)

      used_there : Used v (next_entry (now v) main it.done)
      used_there = subst (Used v) (sym next_is) (used_on v0 v f (get_or at.refs.items n no_ref) (place_used n low))

      pub entry_ready : IsAtRenewed v e
      entry_ready = (path, main, it.done, at_entry, record { placed = (used_there, ap (λ (x : Entry). x.slot) (sym named)); kind = ap (λ (x : Entry). x.is_single) (sym named) })

      -- what is done is in use
      done_used : All (Used v) it.done
      done_used =
          let claims = finds_now v l at_entry words g.sound in
          All-weaker (Meets (IsLive (now v)) (now v).heap AnEntry) (Used v) (λ r h. live_in_use v.sizes v.account g.sound.bounds r h.0) it.done (all_of claims.1.1.1.0)

      kept_used : All (Used v) it.kept
      kept_used = All-from_get_or (Used v) it.kept no_ref
          (λ i low. (let k = get_or it.kept i no_ref in used_on v0 v f k (entry_used k (it.stood k (Contains-get_or it.kept i no_ref low)))))

      module _ (w : View) (sound : IsSound words w) where
        -- an entry more is done
        module _ (next : RenewedEntry) (c : HasRenewed v (Some next) w) where
          to : RenewedTo v path main it.done next w
          to = c path main it.done at_entry

          abbrev own : List Ref
          own = made_unless next.is_kept to.one

          more_line : renew_next (now v) path main (it.done ++ to.one ∷ []) ≡ renew_next (now v0) path main (it.done ++ to.one ∷ [])
          more_line = renew_same (now v) (now v0) path main (node_on v f) (it.done ++ to.one ∷ [])

          abbrev next_line : Line
          next_line = renew_next (now v0) path main (it.done ++ to.one ∷ [])

          one_become : HasBecome (with_more (it.made ++ own) next_line) v0 w
          one_become =
              become_so v0 w (λ o. with_more own (renew_next (now v) path main (it.done ++ to.one ∷ [])) (with_more it.made l o)) (with_more (it.made ++ own) next_line)
              (λ o runs. ap₂ (λ ps x. record o { private = ps; line = x }) (append_assoc o.private it.made own) more_line)
              (become_both v0 v w (with_more it.made l) (with_more own (renew_next (now v) path main (it.done ++ to.one ∷ []))) become_there to.become)

          one_more_done : length (it.done ++ to.one ∷ []) ≡ n + 1
          one_more_done = (let k = length-append it.done (to.one ∷ []) in let c = it.count in omega (arith, k, c))

          all_names : AreEntriesTo w (so_far ++ next.entry ∷ []) (it.done ++ to.one ∷ [])
          all_names = one_more w so_far it.done next.entry to.one (entries_on v w to.become.follows so_far it.done done_used it.names) to.names

          old_names : AreEntriesTo w kept it.kept
          old_names = entries_on v w to.become.follows kept it.kept kept_used it.kept_names

          -- it is kept
          stays : next.is_kept ≡ true → Renewing v0 w path main (n + 1) (so_far ++ next.entry ∷ []) (kept ++ next.entry ∷ [])
          stays is = record {
            done = it.done ++ to.one ∷ [];
            made = it.made;
            kept = it.kept ++ to.one ∷ [];
            count = one_more_done;
            become = subst (λ ms. HasBecome (with_more ms next_line) v0 w) (ap (λ b. it.made ++ made_unless b to.one) is ∙ append-nil it.made) one_become;
            names = all_names;
            kept_names = one_more w kept it.kept next.entry to.one old_names to.names;
            each = λ k c. elim (Contains-push_cases it.done to.one k c) [
              | inl was ↦ elim (it.each k was) [ inl new ↦ inl new | inr old ↦ inr (Contains-append_left it.kept (to.one ∷ []) k old) ]
              | inr same ↦ inr (subst (Contains (it.kept ++ to.one ∷ [])) same (Contains-push it.kept to.one))
            ];
            stood = λ k c. elim (Contains-push_cases it.kept to.one k c) [
              | inl was ↦ it.stood k was
              | inr same ↦ subst (Contains (entries_of (node_at (now v0).heap main))) (sym (to.stood is ∙ next_is) ∙ same) next_stood
            ];
          }

          -- it was made
          was_made : next.is_kept ≡ false → Renewing v0 w path main (n + 1) (so_far ++ next.entry ∷ []) kept
          was_made is = record {
            done = it.done ++ to.one ∷ [];
            made = it.made ++ to.one ∷ [];
            kept = it.kept;
            count = one_more_done;
            become = subst (λ ms. HasBecome (with_more ms next_line) v0 w) (ap (λ b. it.made ++ made_unless b to.one) is) one_become;
            names = all_names;
            kept_names = old_names;
            each = λ k c. elim (Contains-push_cases it.done to.one k c) [
              | inl was ↦ elim (it.each k was) [ inl new ↦ inl (Contains-append_left it.made (to.one ∷ []) k new) | inr old ↦ inr old ]
              | inr same ↦ inl (subst (Contains (it.made ++ to.one ∷ [])) same (Contains-push it.made to.one))
            ];
            stood = it.stood;
          }

          one_done : (b : Bool) → next.is_kept ≡ b → Renewing v0 w path main (n + 1) (so_far ++ next.entry ∷ []) (kept_with b kept next.entry)
          one_done true is = stays is
          one_done false is = was_made is

          few_kept : (b : Bool) → length (kept_with b kept next.entry) ≤ n + 1
          few_kept true = (let k = length-append kept (next.entry ∷ []) in let c = g.kept_size in omega (arith, k, c))
          few_kept false = (let c = g.kept_size in omega (arith, c))

          pub goes_on : (more more_kept : List Entry) → more ≡ so_far ++ next.entry ∷ [] → more_kept ≡ kept_with next.is_kept kept next.entry →
              GoesRenewing words way start v0 w entries (n + 1) more more_kept
          goes_on more more_kept more_is kept_is =
              subst (λ xs. GoesRenewing words way start v0 w entries (n + 1) more xs) (sym kept_is)
              (subst (λ xs. GoesRenewing words way start v0 w entries (n + 1) xs (kept_with next.is_kept kept next.entry)) (sym more_is)
              (goes_by w (n + 1) (so_far ++ next.entry ∷ []) (kept_with next.is_kept kept next.entry) sound
              (let k = length-append so_far (next.entry ∷ []) in let c = g.size in omega (arith, k, c)) (few_kept next.is_kept) (one_done next.is_kept refl)))

        -- no slot is had
        pub gives_up : HasRenewed v None w → HasRenewedAll v0 None w
        gives_up c p m other =
            let from : GivesUp (λ o. reply.NoSlots) v w = c path main it.done at_entry in
            record {
              follows = follows_both v0 v w f from.follows;
              runs = λ o runs. (let x = from.runs (with_more it.made l o) (become_there.comes o runs) in (x.0, x.1, x.2, x.3));
            }

    -- ---- all are done

    pub all_renewed : n ≡ length entries → (result : RenewedEntries) → result.entries.items ≡ so_far → result.kept.items ≡ kept → HasRenewedAll v0 (Some result) v
    all_renewed last result is kept_is p m other =
        let none_left : nat_lt (length it.done) (length (entries_of (node_at (now v0).heap main))) ≡ false =
        ap₂ nat_lt (it.count ∙ last ∙ many) (ap length entries_are) ∙ le-ltb (length at.refs.items) (length at.refs.items) (omega arith) in
        let here : RenewedAll v0 path main result v = record {
          done = it.done;
          made = it.made;
          kept = it.kept;
          become = subst (λ x. HasBecome (with_more it.made x) v0 v) (line_by it.done false none_left) it.become;
          names = subst (λ xs. AreEntriesTo v xs it.done) (sym is) it.names;
          kept_names = subst (λ xs. AreEntriesTo v xs it.kept) (sym kept_is) it.kept_names;
          each = it.each;
          stood = it.stood;
        } in
        subst (λ (x : List Ref × Ref × List Ref). RenewedAll v0 x.0 x.1 result v) (ap renew_parts (sym (line_is v0 l0 at.on other.0 other.1) ∙ other.2)) here
