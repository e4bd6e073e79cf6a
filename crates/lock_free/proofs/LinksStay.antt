-- What the rule says of links stays where no link changes, and each seat knows those that it knew and has retired what it had.
use Rattle.std.proofs.Common.{◌≡◌, inl, inr, ℕ, List, [], Contains, set, slice_index, subst, ◌∙◌}
use mathlib.Core.Option.{some}
use lib.ListN.{get_elem?}
use Rattle.atomic_table.proofs.Lists.{at_set}
use Rattle.lock_free.specs.declared.rules.Retired.{Retired}
use Rattle.lock_free.specs.declared.rules.View.{View}
use Rattle.lock_free.specs.declared.sizes.Sizes.{Sizes}
use Rattle.lock_free.specs.Counts.{IsCount}
use Rattle.lock_free.specs.Links.{AreLinked, IsLinked, link_in}
use Rattle.lock_free.proofs.Idle.{empty_has}

abbrev pub SameLinks : Sizes → List ℕ → List ℕ → Type 0
SameLinks sizes words words_then = (c : ℕ) → IsCount sizes c → link_in (slice_index words_then c) ≡ link_in (slice_index words c)

-- it knows no more links than a seat did that has retired no more; or it is a new one
pub data Knew (views : List View) (w : View) : Type 0 where
  knew : (id : ℕ) (v : View) → get_elem? views id ≡ some v → ((d : ℕ × ℕ) → Contains w.links d → Contains v.links d) → ((x : Retired) → Contains v.retired x → Contains w.retired x) → Knew views w
  knew_none : w.links ≡ [] → Knew views w

module _ (sizes : Sizes) (words words_then : List ℕ) (views views_then : List View) (same : SameLinks sizes words words_then)
    (was : (k : ℕ) (w : View) → get_elem? views_then k ≡ some w → Knew views w) (h : AreLinked sizes words views) where
  linked_by : (w : View) → Knew views w → (d : ℕ × ℕ) → Contains w.links d → IsLinked sizes words_then w d
  linked_by w (knew id v at links retired) d c =
      let z = h.linked id v at d (links d c) in
      record { count = z.count; item = z.item; its = retired z.item z.its; word = z.word; is = same d.0 z.count ∙ z.is }
  linked_by w (knew_none none) d c = absurd (empty_has d (subst (λ ds. Contains ds d) none c))

  pub links_stay : AreLinked sizes words_then views_then
  links_stay = record { linked = λ k w e d c. linked_by w (was k w e) d c }

pub knew_self : (views : List View) (k : ℕ) (v : View) → get_elem? views k ≡ some v → Knew views v
knew_self views k v at = knew k v at (λ d c. c) (λ x c. c)

-- one seat is another then
module _ (views : List View) (id : ℕ) (v : View) (at : get_elem? views id ≡ some v) (w : View) (links : w.links ≡ v.links) (retired : (x : Retired) → Contains v.retired x → Contains w.retired x) where
  pub knew_then : (k : ℕ) (x : View) → get_elem? (set views id w) k ≡ some x → Knew views x
  knew_then k x e = elim (at_set views id k w x e) [
    | inl p ↦ subst (Knew views) p.1 (knew id v at (λ d c. subst (λ ds. Contains ds d) links c) retired)
    | inr p ↦ knew_self views k x p.1
  ]

  pub linked_then : (sizes : Sizes) (words words_then : List ℕ) → SameLinks sizes words words_then → AreLinked sizes words views → AreLinked sizes words_then (set views id w)
  linked_then sizes words words_then same h = links_stay sizes words words_then views (set views id w) same knew_then h
