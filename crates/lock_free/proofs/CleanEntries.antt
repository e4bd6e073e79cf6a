-- CLEAN at an entry: it is kept, or a tomb's single comes to its place.
use Rattle.std.proofs.Common.{◌≡◌, ◌≢◌, ◌==◌, ◌++◌, ℕ, Bool, true, false, not, List, [], ◌∷◌, length, get_or, Contains, refl, sym, ap, ap₂, subst, ◌∙◌, arith, eq-eqb, ne_eqb}
use Rattle.std.proofs.lemmas.Bool.{true≢false}
use Rattle.std.proofs.lemmas.List.Elements.{Contains-get_or}
use Rattle.trie_words.specs.declared.entries.Entry.{Entry}
use Rattle.trie_words.specs.declared.headers.Header.{Header}
use Rattle.trie_words.specs.declared.headers.Shape.{Shape}
use Rattle.trie_words.specs.declared.headers.Shape.TheVariants as shape
use Rattle.machine_model.specs.Beneath.slot_arena.specs.declared.refs.Ref.{Ref}
use Rattle.machine_model.specs.Beneath.slot_arena.specs.declared.nodes.Node.{Node}
use Rattle.machine_model.specs.Beneath.slot_arena.specs.declared.nodes.Node.TheVariants.{Tomb}
use Rattle.machine_model.specs.Beneath.slot_arena.specs.declared.nodes.Slot.{Slot}
use Rattle.machine_model.specs.Beneath.slot_arena.specs.Heaps.{no_ref, node_at, entries_of, refs_of_node}
use Rattle.machine_model.specs.Beneath.slot_arena.specs.Refs.{slot_of}
use Rattle.machine_model.specs.declared.actions.Action.TheVariants as act
use Rattle.machine_model.specs.declared.lines.Line.{Line}
use Rattle.machine_model.specs.declared.lines.Line.TheVariants as line
use Rattle.machine_model.specs.declared.reading.ReadLine.TheVariants as read
use Rattle.machine_model.specs.declared.repairs.CleanLine.TheVariants as clean
use Rattle.machine_model.specs.Cleaning.{clean_next, clean_after_tomb}
use Rattle.machine_model.specs.Reading.{reading}
use Rattle.machine_model.specs.Renewing.{next_entry}
use Rattle.machine_model.specs.States.{State}
use Rattle.proof_memory.proofs.Claims.Uses.{safe_of}
use Rattle.lock_free.specs.declared.accounts.Account.{Account}
use Rattle.lock_free.specs.declared.cleaning.Cleaned.{Cleaned}
use Rattle.lock_free.specs.declared.reading.Given.{Given}
use Rattle.lock_free.specs.declared.reading.Passed.TheVariants as passed
use Rattle.lock_free.specs.declared.reading.Way.{Way}
use Rattle.lock_free.specs.declared.reading.ReadFrom.{ReadFrom}
use Rattle.lock_free.specs.declared.reading.ReadFrom.TheVariants as resume
use Rattle.lock_free.specs.declared.rules.View.{View}
use Rattle.lock_free.specs.Accounts.{place_of}
use Rattle.lock_free.specs.Entries.{entry_in}
use Rattle.lock_free.specs.Holding.{IsOn, HasComeTo}
use Rattle.lock_free.specs.Loading.{now, seen, IsUsed, IsSound, IsAtSlot, Went, HasLookedAtMain}
use Rattle.lock_free.specs.Nodes.{is_single, SaysShape, of_branch, of_tomb, of_list}
use Rattle.lock_free.specs.Passing.{Later, IsReading, IsPassing, IsOnWay, HasPassed, HasGiven}
use Rattle.lock_free.specs.Repairing.{IsAtCleaned, clean_looked, HasLookedOver, CleanedTo, HasCleaned}
use Rattle.lock_free.specs.SeenEntries.{entry_to, unowned}
use Rattle.lock_free.proofs.EntriesTo.{entry_named, entry_to_on, single_on}
use Rattle.lock_free.proofs.Followings.{follows_later, main_node_on}
use Rattle.lock_free.proofs.GivenBack.{node_is}
use Rattle.lock_free.proofs.KeyHolds.{LooksIn, node_then}
use Rattle.lock_free.proofs.Laters.{later_both, placed_later, waited_later, went_later}
use Rattle.lock_free.proofs.MainLooks.{kind_in}
use Rattle.lock_free.proofs.NextEntries.{holds_next}
use Rattle.lock_free.proofs.OnLines.{line_is, at_look, finds_now, moves_on, moved, reading_on, given_moved, moved_both, way_on}
use Rattle.lock_free.proofs.RepairLooks.{clean_same, clean_parts}
use Rattle.lock_free.proofs.TombSingles.{tomb_single}
use Rattle.lock_free.specs.Leaving.{IsSpent}
use Rattle.lock_free.proofs.Leavings.{halts_later, line_may, read_halts}
use Rattle.history.specs.declared.replies.Reply.TheVariants as reply

-- ---- what a header says of a tomb

abbrev entry_in_tomb : Shape → Entry
entry_in_tomb (shape.Branch bitmap) = record { slot = 0; own = false; is_single = false }
entry_in_tomb (shape.Tomb entry) = entry
entry_in_tomb (shape.List count) = record { slot = 0; own = false; is_single = false }

module _ (account : Account) (k : ℕ) where
  pub tomb_entry : (n : Node) (s : Shape) (e : Entry) → s ≡ shape.Tomb e → SaysShape account k n s → (single : Ref) × (n ≡ Tomb single) × (e.slot ≡ place_of account single) × (e.is_single ≡ true)
  tomb_entry n s e is (of_branch b entries) = absurd (omega (arith, (ap kind_in is)))
  tomb_entry n s e is (of_tomb single own owned) = (
    single,
    refl,
    ap (λ x. (entry_in_tomb x).slot) (sym is),
    ap (λ x. (entry_in_tomb x).is_single) (sym is),
  )
  tomb_entry n s e is (of_list singles) = absurd (omega (arith, (ap kind_in is)))

  -- any other main node is kept
  pub kept_by : (n : Node) (s : Shape) → kind_in s ≢ 1 → SaysShape account k n s → (state : State) (path : List Ref) (main : Ref) (done : List Ref) →
      clean_after_tomb state path main done n ≡ clean_next state path main (done ++ next_entry state main done ∷ [])
  kept_by n s other (of_branch b entries) state path main done = refl
  kept_by n s other (of_tomb single own owned) state path main done = absurd (other refl)
  kept_by n s other (of_list singles) state path main done = refl

module _ (n : ℕ) (v0 v1 : View) (sound0 : IsSound n v0) (entry : Entry) (is_at : IsAtCleaned v0 entry) (looked : HasLookedOver v0 entry.is_single v1) where
  abbrev path : List Ref
  path = is_at.0

  abbrev main : Ref
  main = is_at.1

  abbrev done : List Ref
  done = is_at.2

  abbrev l0 : Line
  l0 = line.Clean (clean.Entry path main done)

  abbrev at0 : IsOn v0 l0
  at0 = is_at.3

  abbrev e : Ref
  e = entry_in v0 main (length done)

  h : LooksIn v0 main (length done)
  h = holds_next v0 l0 at0 path main done (λ k c a. refl) n sound0

  come_by : (b : Bool) → entry.is_single ≡ b → HasComeTo (clean_looked (now v0) path main done b) v0 v1
  come_by b is = subst (λ x. HasComeTo (clean_looked (now v0) path main done x) v0 v1) is (looked path main done at0)

  later1 : Later v0 v1
  later1 = (looked path main done at0).later

  elsewhere : (result : Cleaned) (w : View) → CleanedTo v0 path main done result w → HasCleaned v0 result w
  elsewhere result w here p m d other =
      subst (λ (x : List Ref × Ref × List Ref). CleanedTo v0 x.0 x.1 x.2 result w) (ap clean_parts (sym (line_is v0 l0 at0 other.0 other.1) ∙ other.2)) here

  named_then : (w : View) → Later v0 w → unowned entry ≡ entry_to w e
  named_then w l = entry_named v0 main (length done) entry is_at.4 ∙ sym (entry_to_on v0 w (follows_later v0 w l) e h.entry_used)

  unchanged : false ≡ not (e == e)
  unchanged = sym (ap not (eq-eqb e e refl))

  -- ---- a single is kept

  pub single_cleaned : entry.is_single ≡ true → HasCleaned v0 (record { entry = entry; is_changed = false }) v1
  single_cleaned is =
      elsewhere (record { entry = entry; is_changed = false }) v1 (record { one = e; come = come_by true is; names = named_then v1 later1; changed = unchanged })

  -- ---- an indirection is read

  module _ (no_single : entry.is_single ≡ false) where
    abbrev l1 : Line
    l1 = line.Clean (clean.Child path main done (reading e))

    at1 : IsOn v1 l1
    at1 = moves_on v0 l0 at0 v1 l1 (come_by false no_single)

    is_reading : IsReading v1 e read.Main
    is_reading = reading_on v1 l1 at1 e read.Main refl

    pub child_passing : IsPassing v1 entry.slot resume.Start
    child_passing = (e, placed_later v0 v1 later1 e entry.slot is_at.4.placed, is_reading)

    pub child_way : (way : Way) → IsOnWay v0 way → IsOnWay v1 way
    child_way way on = way_on v0 v1 l0 (λ o. l1) way at0 (come_by false no_single) on

    -- the READ is out of tries
    pub spent_cleaned : (place : ReadFrom) (v2 : View) → HasPassed v1 (passed.Again place) v2 → IsSpent v0 v2
    spent_cleaned place v2 h =
        halts_later reply.NoSlots v0 v1 v2 (λ o. l1) (come_by false no_single)
        (read_halts (λ o. reply.NoSlots) v1 v2 e read.Main is_reading place h (line_may (λ o. reply.NoSlots) v1 l1 at1 (λ o. refl)))

    module _ (v2 : View) (sound2 : IsSound n v2) (given : Given) (p : HasPassed v1 (passed.Gives given) v2) where
      g : HasGiven v1 e given v2
      g = p e read.Main is_reading

      abbrev child : Ref
      child = g.main

      abbrev l2 : Line
      l2 = line.Clean (clean.Tomb path main done child)

      come2 : HasComeTo l2 v1 v2
      come2 = given_moved v1 l1 at1 v2 child g.come

      at2 : IsOn v2 l2
      at2 = moves_on v1 l1 at1 v2 l2 come2

      pub tomb_ready : IsAtSlot v2 act.Look given.link.main.slot
      tomb_ready = (child, at_look v2 l2 at2 child (λ o. refl), g.link.is.names.place)

      later2 : Later v0 v2
      later2 = later_both v0 v1 v2 later1 come2.later

      module _ (v3 : View) (sound3 : IsSound n v3) (header : Header) (look : HasLookedAtMain v2 header v3) where
        abbrev w : Went v2 v3
        w = look.0

        abbrev u : View
        u = seen v2 w.account

        later_u : Later v2 u
        later_u = waited_later n v2 sound2 w.account w.waited

        later3 : Later v2 v3
        later3 = went_later n v2 sound2 n v3 sound3 w

        abbrev later_all : Later v0 v3
        later_all = later_both v0 v2 v3 later2 later3

        child_node : node_at (now u).heap child ≡ g.header.slot.node
        child_node = main_node_on v2 u (follows_later v2 u later_u) child g.header.slot g.header.used g.header.is_main ∙ node_is (now v2) child g.header.slot g.header.used

        same : node_at (now u).heap main ≡ node_at (now v0).heap main
        same = node_then v0 main (length done) h u (later_both v0 v2 u later2 later_u)

        comes : (one : Ref) → clean_after_tomb (now u) path main done g.header.slot.node ≡ clean_next (now u) path main (done ++ one ∷ []) →
            HasComeTo (clean_next (now v0) path main (done ++ one ∷ [])) v0 v3
        comes one is =
            let last = moved v2 l2 at2 v3 later3 w child (λ o. clean_next (now v0) path main (done ++ one ∷ [])) (λ o. refl) (λ o. refl)
            (λ o mark runs. ap (clean_after_tomb (now u) path main done) child_node ∙ is ∙ clean_same (now u) (now v0) path main same (done ++ one ∷ [])) in
            moved_both v0 v2 v3 (λ o. l2) (λ o. clean_next (now v0) path main (done ++ one ∷ [])) (λ o. clean_next (now v0) path main (done ++ one ∷ [])) (λ o l. refl)
            (moved_both v0 v1 v2 (λ o. l1) (λ o. l2) (λ o. l2) (λ o l. refl) (come_by false no_single) come2) last

        -- it is no tomb
        pub link_cleaned : kind_in given.header.shape ≢ 1 → HasCleaned v0 (record { entry = entry; is_changed = false }) v3
        link_cleaned other =
            let at_u : next_entry (now u) main done ≡ e = ap (λ x. get_or (entries_of x) (length done) no_ref) same in
            elsewhere (record { entry = entry; is_changed = false }) v3 (record {
              one = e;
              come = comes e (kept_by v2.account (slot_of child) g.header.slot.node given.header.shape other g.header.is_shape (now u) path main done
                  ∙ ap (λ r. clean_next (now u) path main (done ++ r ∷ [])) at_u);
              names = named_then v3 later_all;
              changed = unchanged;
            })

        -- it is a tomb
        module _ (single : Entry) (tombed : given.header.shape ≡ shape.Tomb single) where
          t : (r : Ref) × (g.header.slot.node ≡ Tomb r) × (single.slot ≡ place_of v2.account r) × (single.is_single ≡ true)
          t = tomb_entry v2.account (slot_of child) g.header.slot.node given.header.shape single tombed g.header.is_shape

          abbrev r : Ref
          r = t.0

          used_r : (slot : Slot) × IsUsed v2 r slot
          used_r = g.header.names r (subst (λ x. Contains (refs_of_node x) r) (sym t.1) (Contains-get_or (r ∷ []) 0 r (omega arith)))

          is_one : is_single (node_at (now v2).heap r) ≡ true
          is_one =
              let claims = finds_now v2 l2 at2 n sound2 in
              tomb_single v2.sizes v2.account sound2.bounds child r (safe_of claims.1.1.1.1.1.0) (node_is (now v2) child g.header.slot g.header.used ∙ t.1)

          no_one : is_single (node_at (now v2).heap e) ≡ false
          no_one = single_on v0 v2 (follows_later v0 v2 later2) e h.entry_used ∙ is_at.4.kind ∙ no_single

          named : unowned single ≡ entry_to v3 r
          named =
              ap₂ (λ s b. record { slot = s; own = false; is_single = b }) t.2 (t.3 ∙ sym is_one) ∙ sym (entry_to_on v2 v3 (follows_later v2 v3 later3) r used_r)

          pub tomb_cleaned : (found : Entry) → unowned found ≡ unowned single → HasCleaned v0 (record { entry = found; is_changed = true }) v3
          tomb_cleaned found is =
              elsewhere (record { entry = found; is_changed = true }) v3 (record {
                one = r;
                come = comes r (ap (clean_after_tomb (now u) path main done) t.1);
                names = is ∙ named;
                changed = sym (ap not (ne_eqb r e (λ both. true≢false (sym is_one ∙ ap (λ x. is_single (node_at (now v2).heap x)) both ∙ no_one))));
              })
