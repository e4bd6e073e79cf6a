-- A root over a main node that another root leads to: a reference to it is counted before it is made, and let go of again where it couldn't be.
use Rattle.std.proofs.Common.{◌≡◌, ◌∷◌, [], ℕ, Some, None, refl, sym, ap, subst, ◌∙◌}
use Rattle.trie_words.specs.declared.names.Name.{Name}
use Rattle.lock_free.specs.declared.reclaiming.Kind.{Kind}
use Rattle.lock_free.specs.declared.rules.View.{View}
use Rattle.lock_free.specs.Becoming.{HasRested}
use Rattle.lock_free.specs.CopySteps.{HasNewRoot, HasRoot, HasSharedRoot, IsAtCopy, IsAtNewRoot}
use Rattle.lock_free.specs.Counts.{without_one}
use Rattle.lock_free.specs.Owing.{owing}
use Rattle.lock_free.specs.Raising.{HasKept, MayHoldOne, OwesOne}
use Rattle.lock_free.proofs.Followings.{follows_self}
use Rattle.lock_free.proofs.Pools.{first_there}
use Rattle.lock_free.proofs.Resting.{rested_both, rested_kept}
use Rattle.lock_free.proofs.SharedMakes.{one_done, raised_kept}

-- its own slots alone are others
rested_slots : (w x : View) → x ≡ record w { pool = x.pool; drafts = x.drafts } → HasRested w x
rested_slots w x same =
    let f = follows_self w in
    subst (HasRested w) (sym same) (record {
      follows = record { is = refl; places = f.places; owns = f.owns; nodes = f.nodes; goes_on = f.goes_on };
      comes = λ o r. r;
    })

module _ (v : View) (kind : Kind) (class name : ℕ) (h : MayHoldOne v kind class name) (w : View) (raised : w ≡ owing v (h.one ∷ v.owed)) where
  pub root_raised : (over : Name) → IsAtNewRoot v over → IsAtNewRoot w over
  root_raised over p = subst (λ u. IsAtNewRoot u over) (sym raised) p

  pub root_built : (slot : ℕ) (y : View) → HasRoot w (Some slot) y → HasSharedRoot v (Some slot) y
  root_built slot y made l main at is =
      from (subst (λ u. HasNewRoot u l slot y) raised (made l main (subst (λ u. IsAtCopy u l) (sym raised) at) is))
    where
      from : HasNewRoot (owing v (h.one ∷ v.owed)) l slot y → HasNewRoot v l slot y
      from g = record {
        made = g.made;
        placed = g.placed;
        become = record {
          follows = record {
            is = g.become.follows.is;
            places = g.become.follows.places;
            owns = g.become.follows.owns;
            nodes = g.become.follows.nodes;
            goes_on = g.become.follows.goes_on;
          };
          comes = g.become.comes;
        };
      }

  -- none was made
  pub unmade : (over : Name) → IsAtNewRoot v over → (x : View) → HasRoot w None x → x ≡ record w { pool = x.pool; drafts = x.drafts }
  unmade over p x none = let q = root_raised over p in none q.0 q.1 q.2 q.3

  module _ (x : View) (same : x ≡ record w { pool = x.pool; drafts = x.drafts }) where
    pub root_owes : OwesOne x h.one kind class name
    root_owes =
        let s = h.hand.1 in
        subst (λ u. OwesOne u h.one kind class name) (sym (same ∙ ap (λ (u : View). record u { pool = x.pool; drafts = x.drafts }) raised))
        ((first_there h.one v.owed, record { slot = s.slot; used = s.used; class_is = s.class_is; place = s.place }, h.shared), h.its_kind)

    pub root_back : (y : View) → HasKept x (without_one h.one x.owed) y → HasRested v y
    root_back y kept =
        rested_both v x y
        (rested_both v w x (rested_kept v w.owed w (raised_kept v (h.one ∷ []) w (one_done v kind class name h w raised))) (rested_slots w x same))
        (rested_kept x (without_one h.one x.owed) y kept)
