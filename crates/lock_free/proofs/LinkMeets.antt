-- KEY's look at an indirection that is an entry of a branch.
use Rattle.std.proofs.Common.{◌≡◌, ℕ, true, false, List, [], get_or, length, nat_lt, refl, sym, ap, subst, ◌∙◌, if◌then◌else◌}
use Rattle.std.proofs.lemmas.Bool.{true≢false}
use Rattle.trie_words.specs.declared.links.Link.{Link}
use Rattle.machine_model.specs.Beneath.slot_arena.specs.declared.refs.Ref.{Ref}
use Rattle.machine_model.specs.Beneath.slot_arena.specs.declared.nodes.Node.{Node}
use Rattle.machine_model.specs.Beneath.slot_arena.specs.declared.nodes.Node.TheVariants.{Indirection, Branch, Single, Tomb, List as Listed}
use Rattle.machine_model.specs.Beneath.slot_arena.specs.declared.nodes.Slot.{Slot}
use Rattle.machine_model.specs.Beneath.slot_arena.specs.Heaps.{no_ref, node_at, entry_at, entries_of, with_main_word}
use Rattle.machine_model.specs.declared.finding.KeyLine.TheVariants as key
use Rattle.machine_model.specs.declared.lines.Line.{Line}
use Rattle.machine_model.specs.declared.lines.Line.TheVariants as line
use Rattle.machine_model.specs.declared.operations.Operation.{Operation}
use Rattle.machine_model.specs.declared.repairs.RenewLine.TheVariants as renew
use Rattle.machine_model.specs.Finding.{going_down, is_passable, key_after_entry}
use Rattle.machine_model.specs.States.{State}
use Rattle.proof_memory.specs.Wants.{is_entry}
use Rattle.lock_free.specs.declared.accounts.Account.{Account}
use Rattle.lock_free.specs.declared.rules.View.{View}
use Rattle.lock_free.specs.Entries.{entry_in}
use Rattle.lock_free.specs.GoingDown.{IsAtKey, HasMoved, IsAtBelow, line_below, HasMetLink}
use Rattle.lock_free.specs.Loading.{now, seen, IsUsed, IsSound, HasLink, HasLookedAtLink}
use Rattle.lock_free.specs.Nodes.{is_single}
use Rattle.lock_free.specs.Passing.{Later}
use Rattle.lock_free.proofs.EntryLooks.{node_stays}
use Rattle.lock_free.proofs.GivenBack.{node_is}
use Rattle.lock_free.proofs.KeyHolds.{looks_in_entry}
use Rattle.lock_free.proofs.OnLines.{line_is, at_look, finds_now, moved}
use Rattle.lock_free.proofs.Laters.{went_later, waited_later}
use Rattle.lock_free.proofs.OneStep.Entries.{entry_stands}

-- which entry a line is at
abbrev parts_of : Line → List Ref × Ref × ℕ
parts_of (line.Key (key.Entry path main position)) = (path, main, position)
parts_of l = ([], no_ref, 0)

-- an entry that is no single is an indirection
pub link_of : (node : Node) → is_entry node ≡ true → is_single node ≡ false → (generation : ℕ) × (main : Ref) × (node ≡ Indirection generation main)
link_of (Indirection generation main) is no_single = (generation, main, refl)
link_of (Single k v) is no_single = absurd (true≢false no_single)
link_of (Branch bitmap entries) is no_single = absurd (true≢false (sym is))
link_of (Tomb single) is no_single = absurd (true≢false (sym is))
link_of (Listed singles) is no_single = absurd (true≢false (sym is))

module _ (n : ℕ) (before after : View) (sound : IsSound n before) (name : ℕ) (is_at : IsAtBelow before name) where
  abbrev path : List Ref
  path = is_at.0

  abbrev main : Ref
  main = is_at.1

  abbrev position : ℕ
  position = is_at.2

  abbrev at : IsAtKey before (key.Entry path main position)
  at = is_at.3

  abbrev e : Ref
  e = entry_in before main position

  is_link : (generation : ℕ) × (word : Ref) × (node_at (now before).heap e ≡ Indirection generation word)
  is_link =
      let claims = finds_now before (line.Key (key.Entry path main position)) at n sound in
      link_of (node_at (now before).heap e) (entry_stands before.sizes before.account sound.bounds main position claims.1.1.0 claims.1.1.1.0) is_at.4.kind

  module _ (last : IsSound n after) (link : Link) (g : HasLookedAtLink before link after) where
    abbrev account : Account
    account = g.0.account

    abbrev state : State
    state = now (seen before account)

    abbrev later : Later before (seen before account)
    later = waited_later n before sound account g.0.waited

    main_then : node_at state.heap main ≡ node_at (now before).heap main
    main_then = let looks = looks_in_entry before path main position at n sound in node_stays before (seen before account) later main looks.slot looks.used looks.is_main

    entry_then : entry_at state.heap main position ≡ e
    entry_then = ap (λ x. get_or (entries_of x) position no_ref) main_then

    link_then : (slot : Slot) × (word : Ref) × IsUsed (seen before account) e slot × (slot.node ≡ Indirection is_link.0 word)
    link_then =
        let used = is_at.4.placed.0 in
        let y = later.nodes e used.0 used.1 in
        let was : used.0.node ≡ Indirection is_link.0 is_link.1 = sym (node_is (now before) e used.0 used.1) ∙ is_link.2 in
        (y.0, y.2.0, y.1, y.2.1 ∙ ap (with_main_word y.2.0) was)

    h : HasLink account state e link
    h = (g.1 e (at_look before (line.Key (key.Entry path main position)) at e (λ o. refl))).0 link_then.0 is_link.0 link_then.1 link_then.2 link_then.3

    node_then : node_at state.heap (entry_at state.heap main position) ≡ Indirection link.generation h.main
    node_then = ap (node_at state.heap) entry_then ∙ node_is state e h.slot h.stores ∙ h.is_link

    -- what comes next goes by the main node alone
    abbrev next : Ref → ℕ → Operation → Line
    next below entries o =
        if is_passable o link.generation then going_down path below
        else (if nat_lt 0 entries then line.Renew (renew.Entry path main []) else line.Renew (renew.Branch path main []))

    next_same : (o : Operation) → next (entry_at state.heap main position) (length (entries_of (node_at state.heap main))) o ≡ line_below (now before) path main position link.generation o
    next_same o =
        ap (λ b. next b (length (entries_of (node_at state.heap main))) o) entry_then ∙ ap (λ x. next e (length (entries_of x)) o) main_then

    pub meets_link : HasMetLink before link after
    meets_link p m q other =
        let here = moved before (line.Key (key.Entry path main position)) at after (went_later n before sound n after last g.0) g.0 (entry_at state.heap main position)
        (line_below (now before) path main position link.generation) (λ o. refl) (λ o. refl)
        (λ o mark r. ap (key_after_entry state (record o { is_marked = mark }) path main position) node_then ∙ next_same o) in
        let same = ap parts_of (sym (line_is before (line.Key (key.Entry path main position)) at other.0 other.1) ∙ other.2) in
        subst (λ (x : List Ref × Ref × ℕ). HasMoved (line_below (now before) x.0 x.1 x.2 link.generation) before after) same here
