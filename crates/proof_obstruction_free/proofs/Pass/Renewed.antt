-- Where all entries of a branch were renewed, it leads on to indirections of the root's generation alone.
use Rattle.std.proofs.Common.{◌≡◌, ℕ, ◌<◌, ◌≤◌, inl, inr, List, get_or, length, sym, ap, ap₂, subst, ◌∙◌, arith}
use Rattle.std.proofs.lemmas.List.{take_all}
use Rattle.proof_obstruction_free.specs.Vocabulary.{position_of, Ref, Branch, bitmap_of, entries_from, entries_of, no_ref, renewed}
use Rattle.proof_obstruction_free.specs.Alone.{Lone, node}
use Rattle.proof_obstruction_free.specs.Keys.{IsOf, IsRenewed, Leads, flag_at}
use Rattle.proof_obstruction_free.proofs.Clean.Ends.{link_no_single}

module _ (a : Lone) where
  pub renewed_leads : (depth g h : ℕ) (main fresh below next : Ref) (done : List Ref) → length done ≤ 32 → node a fresh ≡ renewed (bitmap_of (node a main)) done →
      length done ≡ length (entries_of (node a main)) →
      ((k : ℕ) → 0 ≤ k → k < length done → IsRenewed a g (get_or done k no_ref)) → (x : Leads a depth main below) → position_of (flag_at a depth) x.bitmap < length (entries_of (node a main)) →
      Leads a depth fresh next → IsOf a next h → IsOf a next g
  renewed_leads depth g h main fresh below next done few branch same each x within y of =
      by (each (position_of (flag_at a depth) x.bitmap) (omega arith) (subst (λ n. position_of (flag_at a depth) x.bitmap < n) (sym same) within))
    where
      bits : bitmap_of (node a main) ≡ x.bitmap
      bits = ap bitmap_of x.branch

      nodes : Branch y.bitmap y.entries ≡ Branch (bitmap_of (node a main)) (entries_from done)
      nodes = sym y.branch ∙ branch

      one : y.bitmap ≡ x.bitmap
      one = ap bitmap_of nodes ∙ bits

      two : y.entries.items ≡ done
      two = ap entries_of nodes ∙ take_all 32 done few

      place : get_or done (position_of (flag_at a depth) x.bitmap) no_ref ≡ next
      place = ap₂ (λ (es : List Ref) b. get_or es (position_of (flag_at a depth) b) no_ref) (sym two) (sym one) ∙ y.entry

      by : IsRenewed a g (get_or done (position_of (flag_at a depth) x.bitmap) no_ref) → IsOf a next g
      by (inl is) = subst (λ r. IsOf a r g) place is
      by (inr (k, v, is)) = absurd (link_no_single a next h k v of (ap (node a) (sym place) ∙ is))
