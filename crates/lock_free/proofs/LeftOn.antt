-- What the words of a free slot say of the node that stood there they say too once more has happened.
use Rattle.std.proofs.Common.{◌≡◌, ◌*◌, ℕ, false, true, List, Contains, sym, ap, subst, ◌∙◌}
use Rattle.trie_words.specs.declared.headers.Shape.{Shape}
use Rattle.trie_words.specs.declared.headers.Shape.TheVariants as shape
use Rattle.machine_model.specs.Beneath.slot_arena.specs.declared.nodes.Node.{Node}
use Rattle.machine_model.specs.Beneath.slot_arena.specs.declared.nodes.Node.TheVariants.{Branch, Indirection, Single, Tomb, List as Listed}
use Rattle.machine_model.specs.Beneath.slot_arena.specs.declared.refs.Ref.{Ref}
use Rattle.machine_model.specs.Beneath.slot_arena.specs.Heaps.{node_at}
use Rattle.lock_free.specs.declared.rules.View.{View}
use Rattle.lock_free.specs.Accounts.{place_of}
use Rattle.lock_free.specs.LeftNodes.{LeavesEntries, LeavesLink, LeavesShape, LeavesWords, NamesShape, a_branch, a_list, a_tomb}
use Rattle.lock_free.specs.Loading.{now}
use Rattle.lock_free.specs.Nodes.{is_single}
use Rattle.lock_free.specs.SeenEntries.{entry_to}

module _ (v w : View) (drafts : w.drafts ≡ v.drafts) (places : (r : Ref) → place_of w.account r ≡ place_of v.account r) (nodes : (r : Ref) → node_at (now w).heap r ≡ node_at (now v).heap r) where
  has_on : (d : ℕ × ℕ) → Contains v.drafts d → Contains w.drafts d
  has_on d c = subst (λ ds. Contains ds d) (sym drafts) c

  shape_on : (node : Node) (says : Shape) → NamesShape v node says → NamesShape w node says
  shape_on node says (a_branch bitmap entries) = a_branch bitmap entries
  shape_on node says (a_tomb single own) =
      subst (λ n. NamesShape w (Tomb single) (shape.Tomb (record { slot = n; own = own; is_single = true }))) (places single) (a_tomb single own)
  shape_on node says (a_list singles) = a_list singles

  entry_on : (e : Ref) → entry_to v e ≡ entry_to w e
  entry_on e =
      ap (λ n. record { slot = n; own = false; is_single = is_single (node_at (now v).heap e) }) (sym (places e))
      ∙ ap (λ x. record { slot = place_of w.account e; own = false; is_single = is_single x }) (sym (nodes e))

  link_on : (name : ℕ) (main : Ref) → LeavesLink v name main → LeavesLink w name main
  link_on name main h = (h.0, has_on (2 * name, h.0) h.1, h.2 ∙ sym (places main))

  header_on : (name : ℕ) (node : Node) → LeavesShape v name node → LeavesShape w name node
  header_on name node h = (h.0, has_on (2 * name, h.0) h.1, shape_on node _ h.2)

  entries_on : (name : ℕ) (entries : List Ref) → LeavesEntries v name entries → LeavesEntries w name entries
  entries_on name entries h = (h.0, λ position e at_e. (let x = h.1 position e at_e in (x.0, has_on _ x.1, x.2 ∙ entry_on e)))

  pub words_on : (name : ℕ) (node : Node) → LeavesWords v name node → LeavesWords w name node
  words_on name (Indirection generation main) h = link_on name main h
  words_on name (Single key value) h = tt
  words_on name (Tomb single) h = header_on name (Tomb single) h
  words_on name (Branch bitmap entries) h = (header_on name (Branch bitmap entries) h.0, entries_on name entries.items h.1)
  words_on name (Listed singles) h = (header_on name (Listed singles) h.0, entries_on name singles.items h.1)
