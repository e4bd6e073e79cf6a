-- The header of the main node at which the way down has ended is seen once more.
use Rattle.std.proofs.Common.{◌≡◌, [], ℕ, true, List, Option, refl, sym, ap, subst, ◌∙◌}
use Rattle.std.proofs.lemmas.List.Elements.{Contains-append_left}
use Rattle.trie_words.specs.declared.headers.Header.{Header}
use Rattle.trie_words.specs.declared.links.Link.{Link}
use Rattle.machine_model.specs.Beneath.slot_arena.specs.declared.refs.Ref.{Ref}
use Rattle.machine_model.specs.Beneath.slot_arena.specs.declared.nodes.Node.{Node}
use Rattle.machine_model.specs.Beneath.slot_arena.specs.declared.nodes.Node.TheVariants.{Indirection, Branch, Single, Tomb, List as Listed}
use Rattle.machine_model.specs.Beneath.slot_arena.specs.Heaps.{node_at, refs_of_node, refs_of_prev, with_main_word}
use Rattle.machine_model.specs.declared.building.BuildLine.TheVariants as build
use Rattle.machine_model.specs.declared.building.Site.{Site}
use Rattle.machine_model.specs.declared.finding.KeyLine.TheVariants as key
use Rattle.machine_model.specs.declared.lines.Line.{Line}
use Rattle.machine_model.specs.declared.lines.Line.TheVariants as line
use Rattle.machine_model.specs.declared.repairs.RenewLine.TheVariants as renew
use Rattle.machine_model.specs.Paths.{current}
use Rattle.proof_memory.specs.Wants.{is_list}
use Rattle.lock_free.specs.declared.reading.Given.{Given}
use Rattle.lock_free.specs.declared.rules.View.{View}
use Rattle.lock_free.specs.declared.tasks.Task.{Task}
use Rattle.lock_free.specs.Descending.{IsAtOne, IsHere, IsPlace, IsAtList, IsTask}
use Rattle.lock_free.specs.Entries.{HasStayed, IsEntryIn, entry_in}
use Rattle.lock_free.specs.Holding.{IsOn}
use Rattle.lock_free.specs.LinkReads.{given_by, IsThere}
use Rattle.lock_free.specs.Loading.{now, seen, IsUsed, IsSound, Holds, HoldsSlot, HasSeenMain}
use Rattle.lock_free.specs.Nodes.{is_single}
use Rattle.lock_free.specs.Passing.{Later, IsPlaced, KnowsMain}
use Rattle.lock_free.specs.Seeking.{IsToRenew}
use Rattle.lock_free.proofs.Comings.{saw_runs}
use Rattle.lock_free.proofs.Descents.{are_at_later, known_stays, task_stayed}
use Rattle.lock_free.proofs.Followings.{main_kind}
use Rattle.lock_free.proofs.GivenBack.{node_is}
use Rattle.lock_free.proofs.KeyHolds.{LooksIn, entry_then, holds_to_build, looks_in_entry, looks_in_list}
use Rattle.lock_free.proofs.Laters.{link_later, placed_later, saw_later}
use Rattle.lock_free.proofs.NextEntries.{holds_next, node_later}

module _ (n : ℕ) (v : View) (sound : IsSound n v) (slots : List ℕ) (link : Link) (first : Header) (path : List Ref) (main : Ref) (place : IsPlace v slots (given_by link first) path main)
    (holds : Holds v main) where
  pub held : HoldsSlot v link.main.slot
  held = (main, holds, place.link.is.names.place)

  module _ (w : View) (sound_w : IsSound n w) (header : Header) (g : HasSeenMain v link.main.slot header w) where
    later : Later v w
    later = saw_later n v sound w g.0

    pub stayed : HasStayed v w
    stayed = record { later = later; comes = λ o r. saw_runs v w g.0 o r }

    header_then : KnowsMain w main header
    header_then =
        let there = seen v g.0.account in
        let x = later.nodes main place.header.slot place.header.used in
        let used = subst (λ (z : View). IsUsed z main x.0) g.0.after_is x.1 in
        let h = g.1 main holds place.link.is.names.place x.0 used (main_kind place.header.slot.node x.0.node x.2 place.header.is_main) in
        let known : KnowsMain there main header = record {
          slot = h.slot;
          used = h.stores;
          is_main = h.is_main;
          is_shape = h.is_shape;
          fits = h.fits;
          names = λ r c. h.used r (Contains-append_left (refs_of_node h.slot.node) (refs_of_prev h.slot.prev) r c);
        } in
        subst (λ z. KnowsMain z main header) (sym g.0.after_is) known

    pub place_then : IsPlace w slots (given_by link header) path main
    place_then = record { places = are_at_later v w later path slots place.places; link = link_later v w later (current path) main link place.link; header = header_then }

    pub on_then : (l : Line) → IsOn v l → IsOn w l
    on_then l on = (on.0, stayed.comes on.0 on.1, on.2)

-- ---- of a branch that is to be renewed

module _ (n : ℕ) (v : View) (sound : IsSound n v) (slots : List ℕ) (link : Link) (at : IsThere v slots link (IsToRenew v)) where
  abbrev here : IsHere v slots (given_by link at.0) (IsToRenew v)
  here = at.1

  holds_branch : Holds v here.1
  holds_branch = (holds_next v (line.Renew (renew.Entry here.0 here.1 [])) here.3 here.0 here.1 [] (λ k c a. refl) n sound).holds

  pub branch_held : HoldsSlot v link.main.slot
  branch_held = held n v sound slots link at.0 here.0 here.1 here.2 holds_branch

  module _ (w : View) (sound_w : IsSound n w) (header : Header) (g : HasSeenMain v link.main.slot header w) where
    pub branch_stayed : HasStayed v w
    branch_stayed = stayed n v sound slots link at.0 here.0 here.1 here.2 holds_branch w sound_w header g

    pub branch_here : IsHere w slots (given_by link header) (IsToRenew w)
    branch_here = (
      here.0,
      here.1,
      place_then n v sound slots link at.0 here.0 here.1 here.2 holds_branch w sound_w header g,
      on_then n v sound slots link at.0 here.0 here.1 here.2 holds_branch w sound_w header g (line.Renew (renew.Entry here.0 here.1 [])) here.3,
    )

-- ---- of a list

module _ (n : ℕ) (v : View) (sound : IsSound n v) (slots : List ℕ) (link : Link) (at : IsThere v slots link (IsAtList v)) where
  abbrev there : IsHere v slots (given_by link at.0) (IsAtList v)
  there = at.1

  holds_list : Holds v there.1
  holds_list = (looks_in_list v there.0 there.1 0 there.3.1 n sound).holds

  pub list_held : HoldsSlot v link.main.slot
  list_held = held n v sound slots link at.0 there.0 there.1 there.2 holds_list

  module _ (w : View) (sound_w : IsSound n w) (header : Header) (g : HasSeenMain v link.main.slot header w) where
    pub list_stayed : HasStayed v w
    list_stayed = stayed n v sound slots link at.0 there.0 there.1 there.2 holds_list w sound_w header g

    pub list_here : IsHere w slots (given_by link header) (IsAtList w)
    list_here = (
      there.0,
      there.1,
      place_then n v sound slots link at.0 there.0 there.1 there.2 holds_list w sound_w header g,
      (
        ap is_list (known_stays v w list_stayed.later there.1 at.0 there.2.header) ∙ there.3.0,
        on_then n v sound slots link at.0 there.0 there.1 there.2 holds_list w sound_w header g (line.Key (key.Listed there.0 there.1 0)) there.3.1,
      ),
    )

    pub list_task : (task : Task) → IsTask v task → IsTask w task
    list_task task t = task_stayed v w task there.3.1.0 there.3.1.1 list_stayed t

-- ---- of a branch with an entry that is a single

-- what an entry is it stays
one_kind : (node : Node) (m : Ref) → is_single (with_main_word m node) ≡ is_single node
one_kind (Indirection generation main) m = refl
one_kind (Branch bitmap entries) m = refl
one_kind (Single key value) m = refl
one_kind (Tomb single) m = refl
one_kind (Listed singles) m = refl

module _ (n : ℕ) (v : View) (sound : IsSound n v) (slots : List ℕ) (link : Link) (position name : ℕ) (at : IsThere v slots link (IsAtOne v position name)) where
  abbrev one_here : IsHere v slots (given_by link at.0) (IsAtOne v position name)
  one_here = at.1

  looks : LooksIn v one_here.1 position
  looks = looks_in_entry v one_here.0 one_here.1 position one_here.3.1 n sound

  pub one_held : HoldsSlot v link.main.slot
  one_held = held n v sound slots link at.0 one_here.0 one_here.1 one_here.2 looks.holds

  module _ (w : View) (sound_w : IsSound n w) (header : Header) (g : HasSeenMain v link.main.slot header w) where
    pub one_stayed : HasStayed v w
    one_stayed = stayed n v sound slots link at.0 one_here.0 one_here.1 one_here.2 looks.holds w sound_w header g

    entry_then_is : IsEntryIn w one_here.1 position name true
    entry_then_is =
        let e = one_here.3.0 in
        let x = node_later v one_here.1 position looks w one_stayed.later (node_at (now v).heap (entry_in v one_here.1 position)) refl in
        record {
          placed =
              subst (λ r. IsPlaced w r name) (sym (entry_then v one_here.1 position looks w one_stayed.later))
              (placed_later v w one_stayed.later (entry_in v one_here.1 position) name e.placed);
          kind = ap is_single (node_is (now w) (entry_in w one_here.1 position) x.0 x.1 ∙ x.2.1) ∙ one_kind (node_at (now v).heap (entry_in v one_here.1 position)) x.2.0 ∙ e.kind;
        }

    pub one_given : IsHere w slots (given_by link header) (IsAtOne w position name)
    one_given = (
      one_here.0,
      one_here.1,
      place_then n v sound slots link at.0 one_here.0 one_here.1 one_here.2 looks.holds w sound_w header g,
      (
        entry_then_is,
        on_then n v sound slots link at.0 one_here.0 one_here.1 one_here.2 looks.holds w sound_w header g (line.Key (key.Entry one_here.0 one_here.1 position)) one_here.3.1,
      ),
    )

-- ---- of a branch in which a single is to be inserted

module _ (n : ℕ) (v : View) (sound : IsSound n v) (slots : List ℕ) (link : Link) (place : Site) (former : Option ℕ) (first : Header) (path : List Ref) (main : Ref) (is_place : IsPlace v slots
    (given_by link first) path main) (on : IsOn v (line.Build (build.Single path main place former))) where
  holds_built : Holds v main
  holds_built = holds_to_build v path main place former on n sound

  pub built_held : HoldsSlot v link.main.slot
  built_held = held n v sound slots link first path main is_place holds_built

  module _ (w : View) (sound_w : IsSound n w) (header : Header) (g : HasSeenMain v link.main.slot header w) where
    pub built_stayed : HasStayed v w
    built_stayed = stayed n v sound slots link first path main is_place holds_built w sound_w header g

    pub built_place : IsPlace w slots (given_by link header) path main
    built_place = place_then n v sound slots link first path main is_place holds_built w sound_w header g

    pub built_on : IsOn w (line.Build (build.Single path main place former))
    built_on = on_then n v sound slots link first path main is_place holds_built w sound_w header g (line.Build (build.Single path main place former)) on

-- what was given by this link
module _ (v : View) (slots : List ℕ) (link : Link) (given : Given) (is : given.link ≡ link) where
  pub as_given : (At : List Ref → Ref → Type 0) → IsHere v slots (given_by link given.header) At → IsHere v slots given At
  as_given At h = subst (λ l. IsHere v slots (given_by l given.header) At) (sym is) h

  pub as_placed : (path : List Ref) (main : Ref) → IsPlace v slots (given_by link given.header) path main → IsPlace v slots given path main
  as_placed path main p = subst (λ l. IsPlace v slots (given_by l given.header) path main) (sym is) p
