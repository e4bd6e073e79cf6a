-- What a seat has retired hangs in two chains of its kind and class, by the links of its slots: so it takes no memory that grows.
use Rattle.std.specs.Prelude.{◌≡◌, ◌≢◌, ◌⊎◌, ◌<◌, ◌≤◌, ◌==◌, ◌++◌, ℕ, if◌then◌else◌, List, [], ◌∷◌, Contains, map, Option, Some, None}
use Rattle.trie_words.specs.declared.entries.Pair.{Pair}
use Rattle.lock_free.specs.declared.limbo.ByClass.{ByClass}
use Rattle.lock_free.specs.declared.limbo.Chain.{Chain}
use Rattle.lock_free.specs.declared.limbo.Chains.{Chains}
use Rattle.lock_free.specs.declared.limbo.Limbo.{Limbo}
use Rattle.lock_free.specs.declared.reclaiming.Kind.{Kind}
use Rattle.lock_free.specs.declared.reclaiming.Kind.TheVariants as kinds
use Rattle.lock_free.specs.declared.reclaiming.Retiree.{Retiree}
use Rattle.lock_free.specs.declared.rules.Retired.{Retired}
use Rattle.lock_free.specs.declared.rules.View.{View}
use Rattle.lock_free.specs.declared.sizes.Sizes.{Sizes}
use Rattle.lock_free.specs.Places.{count_word, IsSlot}
use Rattle.lock_free.specs.Reclaiming.{kind_of}
use Rattle.lock_free.specs.Rules.{IsFree, Once}

-- no slot has the name 0
abbrev pub link_to : Option ℕ → ℕ
link_to None = 0
link_to (Some slot) = slot

abbrev pub linked_by : ℕ → Option ℕ
linked_by link = if link == 0 then None else Some link

-- These hang one after the other, from this slot on: the link of each leads to the next one, and that of the last to none.
abbrev pub Hangs : Sizes → List (ℕ × ℕ) → Option ℕ → List Retired → Type 0
Hangs sizes links first [] = first ≡ None
Hangs sizes links first (x ∷ rest) =
    (first ≡ Some x.name) × (next : Option ℕ) × Contains links (count_word sizes x.class x.name, link_to next) × Hangs sizes links next rest

-- none of them was retired after the epoch of the chain
pub record IsChain (v : View) (chain : Chain) (items : List Retired) : Type 0 where
  pub hangs : Hangs v.sizes v.links chain.first items
  pub stamps : (x : Retired) → Contains items x → x.stamp ≤ chain.stamp

abbrev pub names : List Retired → List ℕ
names items = map (λ (x : Retired). x.name) items

-- each slot of this kind and class that the seat has retired hangs once
pub record AreHung (v : View) (what : Kind) (class : ℕ) (chains : Chains) : Type 0 where
  pub young : List Retired
  pub aged : List Retired
  pub is_young : IsChain v chains.young young
  pub is_aged : IsChain v chains.aged aged
  pub once : Once (names (young ++ aged))
  pub held : (x : Retired) → Contains (young ++ aged) x → Contains v.retired x × (kind_of v.sizes x ≡ what) × (x.class ≡ class)
  pub all : (x : Retired) → Contains v.retired x → kind_of v.sizes x ≡ what → x.class ≡ class → Contains (young ++ aged) x

-- ---- by class

abbrev pub in_class : ByClass → ℕ → Chains
in_class classes class = if class == 0 then classes.small else (if class == 1 then classes.medium else classes.wide)

abbrev pub with_class : ByClass → ℕ → Chains → ByClass
with_class classes class chains =
    if class == 0 then record classes { small = chains } else (if class == 1 then record classes { medium = chains } else record classes { wide = chains })

-- ---- by kind

abbrev pub by_kind : Limbo → Kind → ByClass
by_kind limbo kinds.Replaced = limbo.replaced
by_kind limbo kinds.Single = limbo.singles
by_kind limbo kinds.Indirection = limbo.indirections
by_kind limbo kinds.Main = limbo.mains

abbrev pub with_kind : Limbo → Kind → ByClass → Limbo
with_kind limbo kinds.Replaced classes = record limbo { replaced = classes }
with_kind limbo kinds.Single classes = record limbo { singles = classes }
with_kind limbo kinds.Indirection classes = record limbo { indirections = classes }
with_kind limbo kinds.Main classes = record limbo { mains = classes }

-- ---- by both

abbrev pub chains_of : Limbo → Kind → ℕ → Chains
chains_of limbo what class = in_class (by_kind limbo what) class

abbrev pub with_chains : Limbo → Kind → ℕ → Chains → Limbo
with_chains limbo what class chains = with_kind limbo what (with_class (by_kind limbo what) class chains)

-- each slot that the seat has retired hangs with those of its kind and class, and the seat has seen this epoch
pub record IsLimbo (limbo : Limbo) (v : View) : Type 0 where
  pub hung : (what : Kind) (class : ℕ) → class < 3 → AreHung v what class (chains_of limbo what class)
  pub once : Once (names v.retired)
  pub slots : (x : Retired) → Contains v.retired x → (x.class < 3) × IsSlot v.sizes x.class x.name
  pub seen : limbo.seen ≤ v.epoch

-- what of a seat this is of
abbrev pub Hanging : Type 0
Hanging = Sizes × List Retired × List (ℕ × ℕ) × ℕ

abbrev pub hanging_of : View → Hanging
hanging_of v = (v.sizes, v.retired, v.links, v.epoch)

-- ---- one more is retired

abbrev pub having_retired : View → List Retired → View
having_retired v retired = record v { retired = retired }

-- the seat has just retired this slot, which is of this kind: all others hang
pub record IsNewest (limbo : Limbo) (v : View) (what : Kind) (class name : ℕ) : Type 0 where
  pub item : Retired
  pub its_class : item.class ≡ class
  pub its_name : item.name ≡ name
  pub its_kind : kind_of v.sizes item ≡ what
  pub rest : List Retired
  pub is : v.retired ≡ rest ++ item ∷ []
  pub hanging : IsLimbo limbo (having_retired v rest)

-- The seat has retired this slot, which is of this kind: of what it had retired till then all others hang. It may have retired more since.
pub record IsNext (limbo : Limbo) (v : View) (what : Kind) (class name : ℕ) : Type 0 where
  pub now : List Retired
  pub later : List Retired
  pub all : v.retired ≡ now ++ later
  pub newest : IsNewest limbo (having_retired v now) what class name

-- one hangs that is to be used again as it is
abbrev pub IsOfRoot : View → Retired → ℕ → Type 0
IsOfRoot v x name = (x.class ≡ 0) × (x.name ≡ name) × (kind_of v.sizes x ≡ kinds.Replaced)

abbrev pub IsOfSecond : View → List Retired → ℕ → Type 0
IsOfSecond v [] name = name ≡ 0
IsOfSecond v (x ∷ []) name = IsOfRoot v x name × (name ≢ 0)
IsOfSecond v xs name = ⊥

-- The seat has just retired the slots of these roots, one or two of them: all others hang.
pub record AreNewest (limbo : Limbo) (v : View) (roots : Pair) : Type 0 where
  pub rest : List Retired
  pub first : Retired
  pub second : List Retired
  pub is : v.retired ≡ rest ++ first ∷ second
  pub its_first : IsOfRoot v first roots.low
  pub its_second : IsOfSecond v second roots.high
  pub hanging : IsLimbo limbo (having_retired v rest)

-- the same where it has retired this slot, whose node was replaced, or none
abbrev pub IsNewestOrNone : Limbo → View → Option Retiree → Type 0
IsNewestOrNone limbo v None = IsLimbo limbo v
IsNewestOrNone limbo v (Some r) = IsNewest limbo v kinds.Replaced r.class r.slot

-- the seat has seen the epoch, and knows another link
pub record HasHung (before after : View) : Type 0 where
  pub is : after ≡ record before { epoch = after.epoch; passed = after.passed; links = after.links }
  pub grows : before.epoch ≤ after.epoch

-- ---- some are free again

abbrev pub no_chains : Chains
no_chains = record { young = record { first = None; stamp = 0 }; aged = record { first = None; stamp = 0 } }

abbrev pub no_classes : ByClass
no_classes = record { small = no_chains; medium = no_chains; wide = no_chains }

-- once the aged chain has none, the young one is it
abbrev pub turned : Option ℕ → Chains → Chains
turned None chains = record { young = record { first = None; stamp = chains.young.stamp }; aged = chains.young }
turned (Some slot) chains = chains

-- the chains of this kind and class are turned so
abbrev pub turned_in : Limbo → Kind → ℕ → Limbo
turned_in limbo what class = with_chains limbo what class (turned (chains_of limbo what class).aged.first (chains_of limbo what class))

-- the first of the aged ones of this kind and class is left out, whose link this was
abbrev pub led_on : Limbo → Kind → ℕ → ℕ → Limbo
led_on limbo what class link =
    with_chains limbo what class
    (record { young = (chains_of limbo what class).young; aged = record { first = linked_by link; stamp = (chains_of limbo what class).aged.stamp } })

-- what was free is free, and what was retired is retired still or free
pub record HasReclaimedSome (before after : View) : Type 0 where
  pub is : after ≡ record before { epoch = after.epoch; passed = after.passed; pool = after.pool; retired = after.retired; links = after.links }
  pub free : (class name : ℕ) → IsFree before class name → IsFree after class name
  pub each : (x : Retired) → Contains before.retired x → Contains after.retired x ⊎ IsFree after x.class x.name
