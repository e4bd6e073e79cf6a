-- WALK at a main node: all its entries are seen.
use Rattle.std.proofs.Common.{◌≡◌, ◌≤◌, ℕ, true, false, List, [], ◌∷◌, length, count_ones, sym, ap, ap₂, subst, ◌∙◌, arith}
use Rattle.std.proofs.lemmas.List.Elements.{Contains-append_right, Contains-get_or}
use Rattle.trie_words.specs.declared.entries.Entry.{Entry}
use Rattle.trie_words.specs.declared.headers.Shape.TheVariants as shape
use Rattle.machine_model.specs.Beneath.slot_arena.specs.declared.refs.Ref.{Ref}
use Rattle.machine_model.specs.Beneath.slot_arena.specs.declared.nodes.Node.TheVariants.{Branch, List as Listed}
use Rattle.machine_model.specs.Beneath.slot_arena.specs.Heaps.{node_at, entries_of}
use Rattle.machine_model.specs.Beneath.slot_arena.specs.Refs.{slot_of}
use Rattle.machine_model.specs.declared.lines.Line.{Line}
use Rattle.machine_model.specs.declared.lines.Line.TheVariants as line
use Rattle.machine_model.specs.declared.walking.WalkLine.TheVariants as walk
use Rattle.proof_memory.specs.Wants.{AllHold, line_wants, is_branch_or_list}
use Rattle.proof_memory.proofs.Claims.Uses.{safe_of}
use Rattle.lock_free.specs.declared.reading.Given.{Given}
use Rattle.lock_free.specs.declared.rules.View.{View}
use Rattle.lock_free.specs.Live.{IsLive}
use Rattle.lock_free.specs.Loading.{now, Holds, IsSound}
use Rattle.lock_free.specs.SeenEntries.{AreEntriesTo, HasEntries, HasSeenEntries}
use Rattle.lock_free.specs.Walks.{IsAtWalkedMain}
use Rattle.lock_free.proofs.CleanEntries.{tomb_entry}
use Rattle.lock_free.proofs.Counts.{entries_counted, entries_few, list_counted, list_few}
use Rattle.lock_free.proofs.GivenBack.{node_is}
use Rattle.lock_free.proofs.MainLooks.{branch_says, list_says}
use Rattle.lock_free.proofs.OnLines.{finds_now}
use Rattle.lock_free.proofs.TombSingles.{tomb_single}
use Rattle.lock_free.proofs.OneWalk.Lines.{line_holds}

module _ (n : ℕ) (v : View) (sound : IsSound n v) (given : Given) (at : IsAtWalkedMain v given) where
  abbrev main : Ref
  main = at.main

  abbrev l : Line
  l = line.Walk (walk.Main main at.todo at.pairs)

  pub holds_main : Holds v main
  holds_main = line_holds v l at.on main (Contains-append_right at.todo (main ∷ []) main (Contains-get_or (main ∷ []) 0 main (omega arith)))

  node_so : node_at (now v).heap main ≡ at.header.slot.node
  node_so = node_is (now v) main at.header.slot at.header.used

  -- so many entries were seen of a branch or a list
  seen_by : (count : ℕ) (w : View) (entries : List Entry) → HasSeenEntries v given.link.main.slot count entries w → is_branch_or_list at.header.slot.node ≡ true →
      count ≡ length (entries_of at.header.slot.node) → AreEntriesTo w entries (entries_of (node_at (now v).heap main))
  seen_by count w entries g kind is =
      subst (λ x. AreEntriesTo w entries (entries_of x)) (sym node_so) (g.1 main at.header.slot holds_main at.header.used kind is at.placed.1)

  module _ (bitmap : ℕ) (e : given.header.shape ≡ shape.Branch bitmap) where
    branch : (entries : _) × (at.header.slot.node ≡ Branch bitmap entries)
    branch = branch_says v.account (slot_of main) at.header.slot.node given.header.shape bitmap e at.header.is_shape

    branch_count : count_ones bitmap ≡ length (entries_of at.header.slot.node)
    branch_count = sym (entries_counted n v sound main at.header.slot at.header.used bitmap branch.0 branch.1) ∙ ap (λ x. length (entries_of x)) (sym branch.1)

    pub branch_has : HasEntries v given.link.main.slot (count_ones bitmap)
    branch_has = (
      main,
      at.header.slot,
      holds_main,
      at.header.used,
      ap is_branch_or_list branch.1,
      branch_count,
      subst (λ k. k ≤ 32) (entries_counted n v sound main at.header.slot at.header.used bitmap branch.0 branch.1) (entries_few n v sound main at.header.slot at.header.used bitmap branch.0 branch.1),
      at.placed.1,
    )

    pub branch_seen : (w : View) (entries : List Entry) → HasSeenEntries v given.link.main.slot (count_ones bitmap) entries w → AreEntriesTo w entries (entries_of (node_at (now v).heap main))
    branch_seen w entries g = seen_by (count_ones bitmap) w entries g (ap is_branch_or_list branch.1) branch_count

  module _ (count : ℕ) (e : given.header.shape ≡ shape.List count) where
    lists : (singles : _) × (at.header.slot.node ≡ Listed singles)
    lists = list_says v.account (slot_of main) at.header.slot.node given.header.shape count e at.header.is_shape

    list_count : count ≡ length lists.0.items
    list_count = list_counted v.account (slot_of main) at.header.slot.node given.header.shape count lists.0 e lists.1 at.header.is_shape

    list_so : count ≡ length (entries_of at.header.slot.node)
    list_so = list_count ∙ ap (λ x. length (entries_of x)) (sym lists.1)

    pub list_has : HasEntries v given.link.main.slot count
    list_has = (
      main,
      at.header.slot,
      holds_main,
      at.header.used,
      ap is_branch_or_list lists.1,
      list_so,
      subst (λ k. k ≤ 32) (sym list_count) (list_few n v sound main at.header.slot at.header.used lists.0 lists.1),
      at.placed.1,
    )

    pub list_seen : (w : View) (entries : List Entry) → HasSeenEntries v given.link.main.slot count entries w → AreEntriesTo w entries (entries_of (node_at (now v).heap main))
    list_seen w entries g = seen_by count w entries g (ap is_branch_or_list lists.1) list_so

  -- a tomb's header tells its single
  pub tomb_seen : (single : Entry) → given.header.shape ≡ shape.Tomb single → AreEntriesTo v (single ∷ []) (entries_of (node_at (now v).heap main))
  tomb_seen single e =
      let claims : AllHold (IsLive (now v)) (now v).heap (line_wants v.sizes.hash at.on.0.call at.on.0.access l) = finds_now v l at.on n sound in
      let t = tomb_entry v.account (slot_of main) at.header.slot.node given.header.shape single e at.header.is_shape in
      let one = tomb_single v.sizes v.account sound.bounds main t.0 (safe_of claims.1.0) (node_so ∙ t.1) in
      subst (λ x. AreEntriesTo v (single ∷ []) (entries_of x)) (sym (node_so ∙ t.1))
      (ap (λ x. x ∷ []) (ap₂ (λ s b. record { slot = s; own = false; is_single = b }) t.2 (t.3 ∙ sym one)))
