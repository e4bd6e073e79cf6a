-- The main node of two singles, and the branches above it.
use Rattle.std.proofs.Common.{◌≡◌, ◌≢◌, ◌∷◌, ℕ, Bool, true, false, [], sym, ap, ap₂, subst, map, nat_lt, if◌then◌else◌, eq-eqb, ne_eqb}
use Rattle.std.specs.Prelude.{bit_or}
use Rattle.trie_words.specs.declared.entries.Entry.{Entry}
use Rattle.machine_model.specs.Beneath.slot_arena.specs.declared.nodes.Node.{Node}
use Rattle.machine_model.specs.Beneath.slot_arena.specs.declared.nodes.Node.TheVariants.{Branch, List as Listed}
use Rattle.machine_model.specs.Beneath.slot_arena.specs.Heaps.{entries_from}
use Rattle.machine_model.specs.declared.actions.Action.TheVariants as act
use Rattle.nodes.specs.Builders.{by_index}
use Rattle.nodes.specs.Levels.{flag_of, index_in, list_depth}
use Rattle.lock_free.specs.declared.building.Builder.{Builder}
use Rattle.lock_free.specs.declared.rules.View.{View}
use Rattle.lock_free.specs.BuildingUp.{by_rising, MakesPair, MakesRung}
use Rattle.lock_free.specs.Loading.{IsAt}
use Rattle.lock_free.specs.SeenEntries.{entry_to, unowned, IsAtBranch, IsAtList}

module _ (v : View) (by : Builder) (depth hash : ℕ) (old single : Entry) (m : MakesPair v by depth hash old single) where
  abbrev parted : Node
  parted = Branch (bit_or (flag_of hash depth) (flag_of by.hash depth)) (entries_from (by_index (index_in hash depth) (index_in by.hash depth) m.its_old m.its_single))

  abbrev crowd : Node
  crowd = Listed (entries_from (m.its_old ∷ m.its_single ∷ []))

  pub list_pair : depth ≡ list_depth by.hashes → IsAtList v (old ∷ single ∷ [])
  list_pair same = (
    m.its_old ∷ m.its_single ∷ [],
    subst (λ x. IsAt v (act.Make x)) (ap (λ (b : Bool). if b then crowd else parted) (eq-eqb depth (list_depth by.hashes) same)) m.making,
    ap₂ (λ x y. x ∷ y ∷ []) m.old_to m.single_to,
  )

  rising : (b : Bool) → map unowned (if b then old ∷ single ∷ [] else single ∷ old ∷ []) ≡ map (entry_to v) (if b then m.its_old ∷ m.its_single ∷ [] else m.its_single ∷ m.its_old ∷ [])
  rising true = ap₂ (λ x y. x ∷ y ∷ []) m.old_to m.single_to
  rising false = ap₂ (λ x y. x ∷ y ∷ []) m.single_to m.old_to

  pub branch_pair : depth ≢ list_depth by.hashes → IsAtBranch v (bit_or (flag_of hash depth) (flag_of by.hash depth)) (by_rising (index_in hash depth) (index_in by.hash depth) old single)
  branch_pair other = (
    by_index (index_in hash depth) (index_in by.hash depth) m.its_old m.its_single,
    subst (λ x. IsAt v (act.Make x)) (ap (λ (b : Bool). if b then crowd else parted) (ne_eqb depth (list_depth by.hashes) other)) m.making,
    rising (nat_lt (index_in hash depth) (index_in by.hash depth)),
  )

pub rung_at : (v : View) (flag link : ℕ) → MakesRung v flag link → IsAtBranch v flag (record { slot = link; own = false; is_single = false } ∷ [])
rung_at v flag link m = (m.below ∷ [], m.making, ap (λ x. x ∷ []) (sym m.entry_to))
