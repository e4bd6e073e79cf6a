-- Kinds and classes of what was retired: chains of one kind and class are not of another.
use Rattle.std.proofs.Common.{◌≡◌, ◌≢◌, ◌⊎◌, ◌<◌, inl, inr, ℕ, zero, suc, Bool, true, false, Option, Some, None, get_or, refl, sym, ap, subst, ◌∙◌, arith}
use Rattle.std.proofs.lemmas.Bool.{cases_eq}
use Rattle.machine_model.specs.Beneath.slot_arena.specs.declared.nodes.Node.{Node}
use Rattle.machine_model.specs.Beneath.slot_arena.specs.declared.nodes.Node.TheVariants as nodes
use Rattle.machine_model.specs.Beneath.slot_arena.specs.declared.nodes.Slot.{Slot}
use Rattle.proof_memory.specs.Laws.{SameNode}
use Rattle.lock_free.specs.declared.limbo.ByClass.{ByClass}
use Rattle.lock_free.specs.declared.limbo.Chains.{Chains}
use Rattle.lock_free.specs.declared.limbo.Limbo.{Limbo}
use Rattle.lock_free.specs.declared.reclaiming.Kind.{Kind}
use Rattle.lock_free.specs.declared.reclaiming.Kind.TheVariants.{Replaced, Single, Indirection, Main}
use Rattle.lock_free.specs.declared.rules.Retired.{Retired}
use Rattle.lock_free.specs.declared.rules.View.{View}
use Rattle.lock_free.specs.declared.sizes.Sizes.{Sizes}
use Rattle.lock_free.specs.Accounts.{state_of}
use Rattle.lock_free.specs.Limbos.{by_kind, chains_of, in_class, with_chains, with_class, with_kind, AreHung}
use Rattle.lock_free.specs.Reclaiming.{kind_by, kind_in, kind_of, kind_of_node}

pub same_or : (a b : Kind) → (a ≡ b) ⊎ (a ≢ b)
same_or Replaced Replaced = inl refl
same_or Replaced Single = inr (λ e. (let wrong : ⊥ = cc e in wrong))
same_or Replaced Indirection = inr (λ e. (let wrong : ⊥ = cc e in wrong))
same_or Replaced Main = inr (λ e. (let wrong : ⊥ = cc e in wrong))
same_or Single Replaced = inr (λ e. (let wrong : ⊥ = cc e in wrong))
same_or Single Single = inl refl
same_or Single Indirection = inr (λ e. (let wrong : ⊥ = cc e in wrong))
same_or Single Main = inr (λ e. (let wrong : ⊥ = cc e in wrong))
same_or Indirection Replaced = inr (λ e. (let wrong : ⊥ = cc e in wrong))
same_or Indirection Single = inr (λ e. (let wrong : ⊥ = cc e in wrong))
same_or Indirection Indirection = inl refl
same_or Indirection Main = inr (λ e. (let wrong : ⊥ = cc e in wrong))
same_or Main Replaced = inr (λ e. (let wrong : ⊥ = cc e in wrong))
same_or Main Single = inr (λ e. (let wrong : ⊥ = cc e in wrong))
same_or Main Indirection = inr (λ e. (let wrong : ⊥ = cc e in wrong))
same_or Main Main = inl refl

-- ---- by kind

kind_here : (limbo : Limbo) (what : Kind) (classes : ByClass) → by_kind (with_kind limbo what classes) what ≡ classes
kind_here limbo Replaced classes = refl
kind_here limbo Single classes = refl
kind_here limbo Indirection classes = refl
kind_here limbo Main classes = refl

kind_other : (limbo : Limbo) (what other : Kind) (classes : ByClass) → other ≢ what → by_kind (with_kind limbo what classes) other ≡ by_kind limbo other
kind_other limbo Replaced Replaced classes differs = absurd (differs refl)
kind_other limbo Replaced Single classes differs = refl
kind_other limbo Replaced Indirection classes differs = refl
kind_other limbo Replaced Main classes differs = refl
kind_other limbo Single Replaced classes differs = refl
kind_other limbo Single Single classes differs = absurd (differs refl)
kind_other limbo Single Indirection classes differs = refl
kind_other limbo Single Main classes differs = refl
kind_other limbo Indirection Replaced classes differs = refl
kind_other limbo Indirection Single classes differs = refl
kind_other limbo Indirection Indirection classes differs = absurd (differs refl)
kind_other limbo Indirection Main classes differs = refl
kind_other limbo Main Replaced classes differs = refl
kind_other limbo Main Single classes differs = refl
kind_other limbo Main Indirection classes differs = refl
kind_other limbo Main Main classes differs = absurd (differs refl)

kind_seen : (limbo : Limbo) (what : Kind) (classes : ByClass) → (with_kind limbo what classes).seen ≡ limbo.seen
kind_seen limbo Replaced classes = refl
kind_seen limbo Single classes = refl
kind_seen limbo Indirection classes = refl
kind_seen limbo Main classes = refl

seen_kind : (limbo : Limbo) (what : Kind) (n : ℕ) → by_kind (record limbo { seen = n }) what ≡ by_kind limbo what
seen_kind limbo Replaced n = refl
seen_kind limbo Single n = refl
seen_kind limbo Indirection n = refl
seen_kind limbo Main n = refl

-- ---- by class

class_here : (classes : ByClass) (class : ℕ) (chains : Chains) → class < 3 → in_class (with_class classes class chains) class ≡ chains
class_here classes zero chains low = refl
class_here classes (suc zero) chains low = refl
class_here classes (suc (suc zero)) chains low = refl
class_here classes (suc (suc (suc class))) chains low = absurd (omega (arith, low))

class_other : (classes : ByClass) (class other : ℕ) (chains : Chains) → class < 3 → other < 3 → other ≢ class → in_class (with_class classes class chains) other ≡ in_class classes other
class_other classes zero zero chains low small differs = absurd (differs refl)
class_other classes zero (suc zero) chains low small differs = refl
class_other classes zero (suc (suc zero)) chains low small differs = refl
class_other classes (suc zero) zero chains low small differs = refl
class_other classes (suc zero) (suc zero) chains low small differs = absurd (differs refl)
class_other classes (suc zero) (suc (suc zero)) chains low small differs = refl
class_other classes (suc (suc zero)) zero chains low small differs = refl
class_other classes (suc (suc zero)) (suc zero) chains low small differs = refl
class_other classes (suc (suc zero)) (suc (suc zero)) chains low small differs = absurd (differs refl)
class_other classes (suc (suc (suc class))) other chains low small differs = absurd (omega (arith, low))
class_other classes class (suc (suc (suc other))) chains low small differs = absurd (omega (arith, small))

-- ---- by both

same_both : (a b : Kind) (m n : ℕ) → ((a ≡ b) × (m ≡ n)) ⊎ ¬ ((a ≡ b) × (m ≡ n))
same_both a b m n = elim (same_or a b) [
  | inl same ↦ elim (cases_eq m n) [
    | inl equal ↦ inl (same, equal)
    | inr apart ↦ inr (λ both. apart both.1)
  ]
  | inr differs ↦ inr (λ both. differs both.0)
]

pub with_here : (limbo : Limbo) (what : Kind) (class : ℕ) (chains : Chains) → class < 3 → chains_of (with_chains limbo what class chains) what class ≡ chains
with_here limbo what class chains low =
    ap (λ classes. in_class classes class) (kind_here limbo what (with_class (by_kind limbo what) class chains)) ∙ class_here (by_kind limbo what) class chains low

pub with_other : (limbo : Limbo) (what other : Kind) (class b : ℕ) (chains : Chains) → class < 3 → b < 3 → ¬ ((other ≡ what) × (b ≡ class)) →
    chains_of (with_chains limbo what class chains) other b ≡ chains_of limbo other b
with_other limbo what other class b chains low small differs = elim (same_or other what) [
  | inl same ↦ subst (λ o. chains_of (with_chains limbo what class chains) o b ≡ chains_of limbo o b) (sym same)
      (ap (λ classes. in_class classes b) (kind_here limbo what (with_class (by_kind limbo what) class chains))
      ∙ class_other (by_kind limbo what) class b chains low small (λ equal. differs (same, equal)))
  | inr apart ↦ ap (λ classes. in_class classes b) (kind_other limbo what other (with_class (by_kind limbo what) class chains) apart)
]

pub with_seen : (limbo : Limbo) (what : Kind) (class : ℕ) (chains : Chains) → (with_chains limbo what class chains).seen ≡ limbo.seen
with_seen limbo what class chains = kind_seen limbo what (with_class (by_kind limbo what) class chains)

-- what the seat has seen is not of this
pub seen_chains : (limbo : Limbo) (what : Kind) (class n : ℕ) → chains_of (record limbo { seen = n }) what class ≡ chains_of limbo what class
seen_chains limbo what class n = ap (λ classes. in_class classes class) (seen_kind limbo what n)

-- all hang where those of one kind and class hang so, and all others as they did
pub all_hung : (limbo : Limbo) (v : View) (what : Kind) (class : ℕ) (chains : Chains) → class < 3 → AreHung v what class chains →
    ((other : Kind) (b : ℕ) → b < 3 → ¬ ((other ≡ what) × (b ≡ class)) → AreHung v other b (chains_of limbo other b)) →
    (other : Kind) (b : ℕ) → b < 3 → AreHung v other b (chains_of (with_chains limbo what class chains) other b)
all_hung limbo v what class chains low its others other b small =
    let then = with_chains limbo what class chains in
    elim (same_both other what b class) [
      | inl same ↦ subst (λ o. AreHung v o b (chains_of then o b)) (sym same.0)
          (subst (λ n. AreHung v what n (chains_of then what n)) (sym same.1) (subst (AreHung v what class) (sym (with_here limbo what class chains low)) its))
      | inr differs ↦ subst (AreHung v other b) (sym (with_other limbo what other class b chains low small differs)) (others other b small differs)
    ]

-- ---- of what was retired

abbrev its_slot : Sizes → Retired → Option Slot
its_slot sizes x = get_or (state_of sizes x.account).heap.slots x.number None

pub shallow_kind : (sizes : Sizes) (x : Retired) → x.deep ≡ false → kind_of sizes x ≡ Replaced
shallow_kind sizes x shallow = ap (λ b. kind_in b (its_slot sizes x)) shallow

node_kept : (node : Node) → kind_of_node node ≢ Replaced
node_kept (nodes.Indirection generation main) e = let wrong : ⊥ = cc e in wrong
node_kept (nodes.Branch bitmap entries) e = let wrong : ⊥ = cc e in wrong
node_kept (nodes.Single key value) e = let wrong : ⊥ = cc e in wrong
node_kept (nodes.Tomb single) e = let wrong : ⊥ = cc e in wrong
node_kept (nodes.List singles) e = let wrong : ⊥ = cc e in wrong

pub replaced_shallow : (sizes : Sizes) (x : Retired) → kind_of sizes x ≡ Replaced → x.deep ≡ false
replaced_shallow sizes x is = by x.deep (its_slot sizes x) is
  where
    by : (deep : Bool) (found : Option Slot) → kind_in deep found ≡ Replaced → deep ≡ false
    by false found e = refl
    by true None e = let wrong : ⊥ = cc e in absurd wrong
    by true (Some slot) e = absurd (node_kept slot.node e)

pub kind_same : (before after : Node) → SameNode before after → kind_of_node after ≡ kind_of_node before
kind_same (nodes.Indirection generation main) after same = ap kind_of_node same.1
kind_same (nodes.Branch bitmap entries) after same = ap kind_of_node same.1
kind_same (nodes.Single key value) after same = ap kind_of_node same.1
kind_same (nodes.Tomb single) after same = ap kind_of_node same.1
kind_same (nodes.List singles) after same = ap kind_of_node same.1

pub stored_kind : (sizes : Sizes) (x : Retired) (slot : Slot) → its_slot sizes x ≡ Some slot → kind_of sizes x ≡ kind_by x.deep slot.node
stored_kind sizes x slot is = ap (kind_in x.deep) is ∙ by x.deep
  where
    by : (deep : Bool) → kind_in deep (Some slot) ≡ kind_by deep slot.node
    by true = refl
    by false = refl
