-- CLEAN goes over the entries of a branch.
use Rattle.std.proofs.Common.{◌≡◌, ◌⊎◌, ◌≤◌, ◌<◌, ◌==◌, ◌||◌, ◌++◌, ◌+◌, ℕ, suc, Bool, true, false, not, List, [], ◌∷◌, All, take, length, length-append, get_or, Contains, nat_eq, nat_lt, refl, sym}
use Rattle.std.proofs.Common.{inl, inr, ap, ap₂, eqb-true, ne_eqb, subst, ◌∙◌, arith, if◌then◌else◌}
use Rattle.std.proofs.Math.Seq.{take-suc, take-length}
use Rattle.std.specs.Cmp.Lexicographic.{pointwise}
use Rattle.std.proofs.lemmas.Bool.{true≢false, lt-ltb, le-ltb}
use Rattle.std.proofs.lemmas.List.{length-take-le}
use Rattle.std.proofs.lemmas.List.Elements.{All-contains, All-contains_itself, All-weaker, Contains-append_left, Contains-get_or, Contains-push, Contains-push_cases}
use Rattle.trie_words.specs.declared.entries.Entry.{Entry}
use Rattle.trie_words.specs.declared.headers.Header.{Header}
use Rattle.machine_model.specs.Beneath.slot_arena.specs.declared.refs.Ref.{Ref}
use Rattle.machine_model.specs.Beneath.slot_arena.specs.declared.nodes.Node.TheVariants.{Branch}
use Rattle.machine_model.specs.Beneath.slot_arena.specs.declared.nodes.Slot.{Slot}
use Rattle.machine_model.specs.Beneath.slot_arena.specs.Heaps.{no_ref, node_at, entries_of}
use Rattle.machine_model.specs.declared.actions.Action.TheVariants as act
use Rattle.machine_model.specs.declared.lines.Line.{Line}
use Rattle.machine_model.specs.declared.lines.Line.TheVariants as line
use Rattle.machine_model.specs.declared.repairs.CleanLine.TheVariants as clean
use Rattle.machine_model.specs.Cleaning.{clean_next, clean_after_main}
use Rattle.machine_model.specs.Lines.{new_try}
use Rattle.machine_model.specs.Renewing.{next_entry}
use Rattle.proof_memory.proofs.Claims.Uses.{Meets, safe_of, all_of}
use Rattle.proof_memory.specs.Wants.{AnEntry, is_main_node}
use Rattle.lock_free.specs.declared.cleaning.Cleaned.{Cleaned}
use Rattle.lock_free.specs.declared.cleaning.CleanedEntries.{CleanedEntries}
use Rattle.lock_free.specs.declared.reading.Way.{Way}
use Rattle.lock_free.specs.declared.rules.View.{View}
use Rattle.lock_free.specs.Becoming.{Follows}
use Rattle.lock_free.specs.Holding.{IsOn, HasComeTo}
use Rattle.lock_free.specs.Live.{IsLive}
use Rattle.lock_free.specs.Loading.{now, seen, IsUsed, IsSound, IsAtSlot, HasLookedAtMain}
use Rattle.lock_free.specs.Passing.{Later, IsOnWay}
use Rattle.lock_free.specs.Repairing.{IsAtCleaned, HasCleaned, IsCleaning, clean_end, CleanedTo, CleanedAll, HasCleanedAll, any_changed, singles_with}
use Rattle.lock_free.specs.SeenEntries.{AreEntriesTo, entry_to, unowned}
use Rattle.lock_free.proofs.Asked.{live_in_use}
use Rattle.lock_free.proofs.EntriesTo.{Used, entry_to_on, entries_on}
use Rattle.lock_free.proofs.Followings.{follows_later, main_node_on, used_on}
use Rattle.lock_free.proofs.GivenBack.{node_is}
use Rattle.lock_free.proofs.GoingOver.{as_many, one_more, entry_at_place, pointwise_more, not_both}
use Rattle.lock_free.proofs.Laters.{waited_later, went_later}
use Rattle.lock_free.proofs.LastingNodes.{entry_lives}
use Rattle.lock_free.proofs.OnLines.{line_is, at_look, finds_now, moves_on, moved, moved_both, way_on}
use Rattle.lock_free.proofs.RepairLooks.{clean_same}
use Rattle.lock_free.specs.Leaving.{IsSpent}
use Rattle.lock_free.proofs.Leavings.{halts_later}
use Rattle.history.specs.declared.replies.Reply.TheVariants as reply

-- ---- the singles of tombs

any_with : (singles : List Entry) (next : Cleaned) → any_changed (singles_with singles next) ≡ (any_changed singles || next.is_changed)
any_with singles next = by next.is_changed singles
  where
    or_true : (b : Bool) → true ≡ (b || true)
    or_true true = refl
    or_true false = refl

    or_false : (b : Bool) → b ≡ (b || false)
    or_false true = refl
    or_false false = refl

    by : (b : Bool) (xs : List Entry) → any_changed (if b then xs ++ next.entry ∷ [] else xs) ≡ (any_changed xs || b)
    by true xs =
        ap not (ne_eqb (length (xs ++ next.entry ∷ [])) 0 (λ e. let k = length-append xs (next.entry ∷ []) in absurd (omega (arith, k, e)))) ∙ or_true (any_changed xs)
    by false xs = or_false (any_changed xs)

singles_more : (singles : List Entry) (next : Cleaned) → length (singles_with singles next) ≤ length singles + 1
singles_more singles next = by next.is_changed
  where
    by : (b : Bool) → length (if b then singles ++ next.entry ∷ [] else singles) ≤ length singles + 1
    by true = let k = length-append singles (next.entry ∷ []) in omega (arith, k)
    by false = omega arith

-- so many entries are done
pub record Going (v0 v : View) (path : List Ref) (main : Ref) (n : ℕ) (so_far singles : List Entry) : Type 0 where
  pub done : List Ref
  pub count : length done ≡ n
  pub come : HasComeTo (clean_next (now v0) path main done) v0 v
  pub names : AreEntriesTo v so_far done
  pub changed_is : any_changed singles ≡ not (pointwise nat_eq done (take n (entries_of (node_at (now v0).heap main))))
  pub freed : List Ref
  pub freed_names : AreEntriesTo v singles freed
  pub among : (k : Ref) → Contains freed k → Contains done k
  pub others : (k : Ref) → Contains done k → Contains freed k ⊎ Contains (entries_of (node_at (now v0).heap main)) k

pub record GoesOver (words : ℕ) (way : Way) (v0 v : View) (name : ℕ) (entries : List Entry) (n : ℕ) (so_far singles : List Entry) : Type 0 where
  pub sound : IsSound words v
  pub on : IsOnWay v way
  pub size : length so_far ≡ n
  pub few : length singles ≤ n
  pub going : (at : IsCleaning v0 name entries) → Going v0 v at.path at.main n so_far singles

abbrev main_parts : Line → List Ref × Ref
main_parts (line.Clean (clean.Main path main)) = (path, main)
main_parts l = ([], no_ref)

module _ (words : ℕ) (way : Way) (v0 : View) (sound0 : IsSound words v0) (on0 : IsOnWay v0 way) (name : ℕ) (entries : List Entry) (at : IsCleaning v0 name entries) where
  abbrev path : List Ref
  path = at.path

  abbrev main : Ref
  main = at.main

  abbrev l0 : Line
  l0 = line.Clean (clean.Main path main)

  main_lives : IsLive (now v0) main
  main_lives = let claims = finds_now v0 l0 at.on words sound0 in safe_of claims.1.1.0

  main_used : (slot : Slot) × IsUsed v0 main slot
  main_used = live_in_use v0.sizes v0.account sound0.bounds main main_lives

  its_node : main_used.0.node ≡ Branch at.bitmap at.refs
  its_node = sym (node_is (now v0) main main_used.0 main_used.1) ∙ at.node

  is_main : is_main_node main_used.0.node ≡ true
  is_main = ap is_main_node its_node

  node_on : (w : View) → Later v0 w → node_at (now w).heap main ≡ node_at (now v0).heap main
  node_on w l = main_node_on v0 w (follows_later v0 w l) main main_used.0 main_used.1 is_main

  entry_used : (k : ℕ) → k < length at.refs.items → Used v0 (get_or at.refs.items k no_ref)
  entry_used k low =
      let e = get_or at.refs.items k no_ref in
      live_in_use v0.sizes v0.account sound0.bounds e
      (entry_lives v0.sizes v0.account main e main_used.0 main_lives main_used.1
      (subst (λ x. Contains (entries_of x) e) (sym its_node) (Contains-get_or at.refs.items k no_ref low)))

  pub main_ready : IsAtSlot v0 act.Look name
  main_ready = (main, at_look v0 l0 at.on main (λ o. refl), at.placed.1)

  same_place : (other : IsCleaning v0 name entries) → main_parts l0 ≡ main_parts (line.Clean (clean.Main other.path other.main))
  same_place other = ap main_parts (sym (line_is v0 l0 at.on other.on.0 other.on.1) ∙ other.on.2)

  -- ---- it begins

  module _ (v1 : View) (sound1 : IsSound words v1) (header : Header) (look : HasLookedAtMain v0 header v1) where
    begins : HasComeTo (clean_next (now v0) path main []) v0 v1
    begins =
        let w = look.0 in
        let u = seen v0 w.account in
        let same = node_on u (waited_later words v0 sound0 w.account w.waited) in
        moved v0 l0 at.on v1 (went_later words v0 sound0 words v1 sound1 w) w main (λ o. clean_next (now v0) path main []) (λ o. refl) (λ o. refl)
        (λ o mark runs. ap (clean_after_main (now u) path main) (same ∙ at.node) ∙ clean_same (now u) (now v0) path main same [])

    none_yet : Going v0 v1 path main 0 [] []
    none_yet = record {
      done = [];
      count = refl;
      come = begins;
      names = refl;
      changed_is = refl;
      freed = [];
      freed_names = refl;
      among = λ k c. c;
      others = λ k c. inl c;
    }

    first : GoesOver words way v0 v1 name entries 0 [] []
    first = record {
      sound = sound1;
      on = way_on v0 v1 l0 (λ o. clean_next (now v0) path main []) way at.on begins on0;
      size = refl;
      few = omega arith;
      going = λ other. subst (λ (x : List Ref × Ref). Going v0 v1 x.0 x.1 0 [] []) (same_place other) none_yet;
    }

    pub goes_first : (none : CleanedEntries) → none.entries.items ≡ [] → none.singles.items ≡ [] → GoesOver words way v0 v1 name entries 0 none.entries.items none.singles.items
    goes_first none is no_single =
        subst (λ xs. GoesOver words way v0 v1 name entries 0 none.entries.items xs) (sym no_single) (subst (λ xs. GoesOver words way v0 v1 name entries 0 xs []) (sym is) first)

  -- ---- it goes on

  module _ (v : View) (n : ℕ) (so_far singles : List Entry) (g : GoesOver words way v0 v name entries n so_far singles) where
    it : Going v0 v path main n so_far singles
    it = g.going at

    entries_are : entries_of (node_at (now v0).heap main) ≡ at.refs.items
    entries_are = ap entries_of at.node

    many : length entries ≡ length at.refs.items
    many = as_many v0 entries at.refs.items at.names

    module _ (few : n < length entries) (d : Entry) where
      low : n < length at.refs.items
      low = subst (λ k. n < k) many few

      some_left : nat_lt (length it.done) (length (entries_of (node_at (now v0).heap main))) ≡ true
      some_left = ap₂ nat_lt it.count (ap length entries_are) ∙ lt-ltb n (length at.refs.items) low

      abbrev l : Line
      l = line.Clean (clean.Entry path main it.done)

      come_there : HasComeTo l v0 v
      come_there =
          subst (λ (b : Bool). HasComeTo (if b then l else (if pointwise nat_eq it.done (entries_of (node_at (now v0).heap main)) then new_try else line.Clean (clean.Contracted path
          main it.done))) v0 v)
          some_left it.come

      at_entry : IsOn v l
      at_entry = moves_on v0 l0 at.on v l come_there

      pub spent_all : (w : View) → IsSpent v w → IsSpent v0 w
      spent_all w h = halts_later reply.NoSlots v0 v w (λ o. l) come_there h

      abbrev f : Follows v0 v
      f = follows_later v0 v come_there.later

      next_is : next_entry (now v) main it.done ≡ get_or at.refs.items n no_ref
      next_is =
          ap (λ x. get_or (entries_of x) (length it.done) no_ref) (node_on v come_there.later ∙ at.node) ∙ ap (λ k. get_or at.refs.items k no_ref) it.count

      abbrev e : Entry
      e = get_or entries n d

      named : unowned e ≡ entry_to v (next_entry (now v) main it.done)
      named =
          entry_at_place v0 entries at.refs.items n d no_ref low at.names ∙ sym (entry_to_on v0 v f (get_or at.refs.items n no_ref) (entry_used n low)) ∙ ap (entry_to v) (sym next_is)

      used_there : Used v (next_entry (now v) main it.done)
      used_there = subst (Used v) (sym next_is) (used_on v0 v f (get_or at.refs.items n no_ref) (entry_used n low))

      pub entry_ready : IsAtCleaned v e
      entry_ready = (path, main, it.done, at_entry, record { placed = (used_there, ap (λ (x : Entry). x.slot) (sym named)); kind = ap (λ (x : Entry). x.is_single) (sym named) })

      -- what is done is in use
      done_used : All (Used v) it.done
      done_used =
          let claims = finds_now v l at_entry words g.sound in
          All-weaker (Meets (IsLive (now v)) (now v).heap AnEntry) (Used v) (λ r h. live_in_use v.sizes v.account g.sound.bounds r h.0) it.done (all_of claims.1.1.1.0)

      module _ (w : View) (sound : IsSound words w) (next : Cleaned) (c : HasCleaned v next w) where
        to : CleanedTo v path main it.done next w
        to = c path main it.done at_entry

        more_come : HasComeTo (clean_next (now v0) path main (it.done ++ to.one ∷ [])) v0 w
        more_come =
            subst (λ x. HasComeTo x v0 w) (clean_same (now v) (now v0) path main (node_on v come_there.later) (it.done ++ to.one ∷ []))
            (moved_both v0 v w (λ o. l) (λ o. clean_next (now v) path main (it.done ++ to.one ∷ [])) (λ o. clean_next (now v) path main (it.done ++ to.one ∷ [])) (λ o x. refl) come_there to.come)

        abbrev es : List Ref
        es = entries_of (node_at (now v0).heap main)

        es_long : length (take n es) ≡ n
        es_long = length-take-le n es (subst (λ k. n ≤ length k) (sym entries_are) (omega (arith, low)))

        more_taken : take (suc n) es ≡ take n es ++ next_entry (now v) main it.done ∷ []
        more_taken =
            take-suc es n no_ref (subst (λ xs. n < length xs) (sym entries_are) low) ∙ ap (λ x. take n es ++ x ∷ []) (ap (λ xs. get_or xs n no_ref) entries_are ∙ sym next_is)

        more_changed : any_changed (singles_with singles next) ≡ not (pointwise nat_eq (it.done ++ to.one ∷ []) (take (suc n) es))
        more_changed =
            any_with singles next ∙ ap₂ (λ a b. a || b) it.changed_is to.changed ∙ sym (not_both (pointwise nat_eq it.done (take n es)) (to.one == next_entry (now v) main it.done))
            ∙ ap not (sym (pointwise_more it.done (take n es) to.one (next_entry (now v) main it.done) (it.count ∙ sym es_long)))
            ∙ ap (λ xs. not (pointwise nat_eq (it.done ++ to.one ∷ []) xs)) (sym more_taken)

        freed_still : AreEntriesTo w singles it.freed
        freed_still =
            entries_on v w (follows_later v w to.come.later) singles it.freed
            (All-weaker (Contains it.freed) (Used v) (λ k c. All-contains (Used v) it.done k done_used (it.among k c)) it.freed (All-contains_itself it.freed)) it.freed_names

        -- it is the main node's entry still, or a tomb's single
        abbrev Freed : Bool → Type 0
        Freed b =
            (freed : List Ref) × AreEntriesTo w (if b then singles ++ next.entry ∷ [] else singles) freed × ((k : Ref) → Contains freed k → Contains (it.done ++ to.one ∷ []) k)
            × ((k : Ref) → Contains (it.done ++ to.one ∷ []) k → Contains freed k ⊎ Contains es k)

        more_freed : Freed next.is_changed
        more_freed = by next.is_changed to.changed
          where
            earlier : (k : Ref) → Contains it.freed k → Contains (it.done ++ to.one ∷ []) k
            earlier k c = Contains-append_left it.done (to.one ∷ []) k (it.among k c)

            its_entry : to.one ≡ next_entry (now v) main it.done → Contains es to.one
            its_entry same =
                subst (Contains es) (sym (same ∙ next_is ∙ ap (λ xs. get_or xs n no_ref) (sym entries_are))) (Contains-get_or es n no_ref (subst (λ xs. n < length xs) (sym entries_are) low))

            by : (b : Bool) → b ≡ not (to.one == next_entry (now v) main it.done) → Freed b
            by true is = (
              it.freed ++ to.one ∷ [],
              one_more w singles it.freed next.entry to.one freed_still to.names,
              λ k c. elim (Contains-push_cases it.freed to.one k c) [
                | inl before ↦ earlier k before
                | inr same ↦ subst (Contains (it.done ++ to.one ∷ [])) same (Contains-push it.done to.one)
              ],
              λ k c. elim (Contains-push_cases it.done to.one k c) [
                | inl before ↦ elim (it.others k before) [
                  | inl one ↦ inl (Contains-append_left it.freed (to.one ∷ []) k one)
                  | inr stays ↦ inr stays
                ]
                | inr same ↦ inl (subst (Contains (it.freed ++ to.one ∷ [])) same (Contains-push it.freed to.one))
              ],
            )
            by false is = (
              it.freed,
              freed_still,
              earlier,
              λ k c. elim (Contains-push_cases it.done to.one k c) [
                | inl before ↦ it.others k before
                | inr same ↦ inr (subst (Contains es) same (its_entry (same_by (to.one == next_entry (now v) main it.done) refl is)))
              ],
            )
              where
                same_by : (c : Bool) → (to.one == next_entry (now v) main it.done) ≡ c → false ≡ not c → to.one ≡ next_entry (now v) main it.done
                same_by true e is = eqb-true to.one (next_entry (now v) main it.done) e
                same_by false e is = absurd (true≢false (sym is))

        one_done : Going v0 w path main (suc n) (so_far ++ next.entry ∷ []) (singles_with singles next)
        one_done = record {
          done = it.done ++ to.one ∷ [];
          count = (let k = length-append it.done (to.one ∷ []) in let c = it.count in omega (arith, k, c));
          come = more_come;
          names = one_more w so_far it.done next.entry to.one (entries_on v w (follows_later v w to.come.later) so_far it.done done_used it.names) to.names;
          changed_is = more_changed;
          freed = more_freed.0;
          freed_names = more_freed.1;
          among = more_freed.2;
          others = more_freed.3;
        }

        goes_more : GoesOver words way v0 w name entries (suc n) (so_far ++ next.entry ∷ []) (singles_with singles next)
        goes_more = record {
          sound = sound;
          on = way_on v0 w l0 (λ o. clean_next (now v0) path main (it.done ++ to.one ∷ [])) way at.on more_come on0;
          size = (let k = length-append so_far (next.entry ∷ []) in let c = g.size in omega (arith, k, c));
          few = (let k = singles_more singles next in let c = g.few in omega (arith, k, c));
          going = λ other. subst (λ (x : List Ref × Ref). Going v0 w x.0 x.1 (suc n) (so_far ++ next.entry ∷ []) (singles_with singles next)) (same_place other) one_done;
        }

        pub goes_on : (more : CleanedEntries) → more.entries.items ≡ so_far ++ next.entry ∷ [] → more.singles.items ≡ singles_with singles next →
            GoesOver words way v0 w name entries (n + 1) more.entries.items more.singles.items
        goes_on more is freed =
            subst (λ xs. GoesOver words way v0 w name entries (n + 1) more.entries.items xs) (sym freed)
            (subst (λ xs. GoesOver words way v0 w name entries (n + 1) xs (singles_with singles next)) (sym is)
            (subst (λ k. GoesOver words way v0 w name entries k (so_far ++ next.entry ∷ []) (singles_with singles next)) (omega arith) goes_more))

    -- ---- all are done

    module _ (last : n ≡ length entries) where
      whole : take n (entries_of (node_at (now v0).heap main)) ≡ entries_of (node_at (now v0).heap main)
      whole =
          let es = entries_of (node_at (now v0).heap main) in
          ap (λ k. take k es) (last ∙ many ∙ sym (ap length entries_are)) ∙ take-length es

      none_left : nat_lt (length it.done) (length (entries_of (node_at (now v0).heap main))) ≡ false
      none_left =
          ap₂ nat_lt (it.count ∙ last ∙ many) (ap length entries_are) ∙ le-ltb (length at.refs.items) (length at.refs.items) (omega arith)

      abbrev both : Bool → Line
      both b = if b then new_try else line.Clean (clean.Contracted path main it.done)

      ends_so : (b c : Bool) → c ≡ not b → both b ≡ clean_end path main it.done c
      ends_so true true is = absurd (true≢false is)
      ends_so true false is = refl
      ends_so false true is = refl
      ends_so false false is = absurd (true≢false (sym is))

      ends : clean_next (now v0) path main it.done ≡ clean_end path main it.done (any_changed singles)
      ends =
          let es = entries_of (node_at (now v0).heap main) in
          ap (λ (b : Bool). if b then line.Clean (clean.Entry path main it.done) else both (pointwise nat_eq it.done es)) none_left
          ∙ ends_so (pointwise nat_eq it.done es) (any_changed singles) (it.changed_is ∙ ap (λ xs. not (pointwise nat_eq it.done xs)) whole)

      pub all_cleaned : (all : CleanedEntries) → all.entries.items ≡ so_far → all.singles.items ≡ singles → HasCleanedAll v0 all v
      all_cleaned all so alone p m other =
          let here : CleanedAll v0 path main all v = record {
            done = it.done;
            come = subst (λ x. HasComeTo x v0 v) (ends ∙ ap (λ xs. clean_end path main it.done (any_changed xs)) (sym alone)) it.come;
            names = subst (λ xs. AreEntriesTo v xs it.done) (sym so) it.names;
            freed = it.freed;
            freed_names = subst (λ xs. AreEntriesTo v xs it.freed) (sym alone) it.freed_names;
            among = it.among;
            others = it.others;
          } in
          subst (λ (x : List Ref × Ref). CleanedAll v0 x.0 x.1 all v) (ap main_parts (sym (line_is v0 l0 at.on other.0 other.1) ∙ other.2)) here
