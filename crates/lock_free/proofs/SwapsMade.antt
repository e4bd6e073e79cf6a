-- What a seat owns after a SWAP of what its operation has made.
use Rattle.std.proofs.Common.{◌≡◌, ◌∷◌, ◌⊎◌, inl, inr, ℕ, Bool, false, List, [], Option, refl, sym, ap, subst, ◌∙◌, map}
use Rattle.trie_words.specs.declared.links.Link.{Link}
use Rattle.machine_model.specs.Beneath.slot_arena.specs.declared.refs.Ref.{Ref}
use Rattle.machine_model.specs.Beneath.slot_arena.specs.Heaps.{node_at}
use Rattle.machine_model.specs.declared.lines.Purpose.{Purpose}
use Rattle.machine_model.specs.declared.operations.Operation.{Operation}
use Rattle.machine_model.specs.Machine.{AreBounds}
use Rattle.lock_free.specs.declared.accounts.Account.{Account}
use Rattle.lock_free.specs.declared.rules.Pool.{Pool}
use Rattle.lock_free.specs.declared.reclaiming.Retiree.{Retiree}
use Rattle.lock_free.specs.declared.rules.View.{View}
use Rattle.lock_free.specs.Reclaiming.{LaterRetiring}
use Rattle.lock_free.specs.Limbos.{IsLimbo}
use Rattle.lock_free.proofs.Retirings.{follows_retiring, retiring_pool, retiring_sizes}
use Rattle.lock_free.specs.declared.swapping.Swapped.{Swapped}
use Rattle.lock_free.specs.declared.swapping.Swapped.TheVariants.{Commits, Fails, Misses}
use Rattle.lock_free.specs.Accounts.{bounds_for, gone_on}
use Rattle.lock_free.specs.Becoming.{Follows, HasBecome}
use Rattle.lock_free.specs.GivingUp.{given_back, given_up}
use Rattle.lock_free.specs.Loading.{now, seen, Runs, IsSound}
use Rattle.lock_free.specs.Making.{with_slot}
use Rattle.lock_free.specs.Passing.{Later}
use Rattle.lock_free.specs.Stocks.{Stocked, IsStock, HasSwapped, own_of, own_nodes, made_of, put_back}
use Rattle.lock_free.specs.Swaps.{IsAtSwap, IsSwapping, HasSwapDone, swap_done, is_done}
use Rattle.lock_free.proofs.Followings.{follows_later}
use Rattle.lock_free.proofs.Laters.{gone_later, waited_later}
use Rattle.lock_free.proofs.NewNodes.{all_made_same, own_used}

-- slots that are put back are those that are given back
pub back_is : (v : View) (account : Account) (rs : List Ref) (pool : Pool) → put_back (map (made_of (seen v account)) rs) pool ≡ given_back (now (seen v account)) account rs pool
back_is v account [] pool = refl
back_is v account (r ∷ rs) pool = back_is v account rs (with_slot pool (made_of (seen v account) r).class (made_of (seen v account) r).slot)

module _ (n : ℕ) (before after : View) (sound : IsSound n before) (last : IsSound n after) (why : Purpose) (i replaced made : Ref) (s : IsSwapping before why i replaced made) where
  abbrev o : Operation
  o = record s.0 { is_marked = s.1.0 }

  -- nothing of it is the operation's own any more
  none_own : (done : Bool) → Runs after (swap_done why (node_at (now before).heap made) done s.0) → own_nodes after ≡ []
  none_own done r = ap own_of r.1

  module _ (g : HasSwapDone before Misses after) where
    abbrev account : Account
    account = g.0.0

    its : after ≡ given_up before account s.0.private after.drafts
    its = g.0.2 s.0 s.1

    bounds : AreBounds (bounds_for before.sizes (gone_on before.actor account).steps)
    bounds = subst (λ (x : View). AreBounds (bounds_for x.sizes x.account.steps)) its last.bounds

    gone : Later before (seen before (gone_on before.actor account))
    gone = gone_later n before sound account g.0.1 bounds

    follows : Follows before after
    follows = subst (Follows before) (sym its) (record { is = refl; places = gone.places; owns = gone.owns; nodes = gone.nodes; goes_on = gone.goes_on })

    pub missed_become : HasBecome (swap_done why (node_at (now before).heap made) false) before after
    missed_become = record { follows = follows; comes = g.1 why i replaced made s }

    pub missed_stock : (stock next : Stocked) → IsStock stock before → next.sizes ≡ stock.sizes → next.pool ≡ put_back stock.made stock.pool → next.made ≡ [] →
        IsLimbo next.limbo after → IsStock next after
    missed_stock stock next is sizes pool none limbo = record {
      sizes = sizes ∙ is.sizes ∙ ap (λ (x : View). x.sizes) (sym its);
      pool = pool ∙ ap (put_back stock.made) is.pool ∙ ap (λ ms. put_back ms before.pool) (is.made ∙ ap (λ x. map (made_of before) (own_of x)) s.1.1 ∙ sym same)
          ∙ back_is before account s.0.private before.pool ∙ ap (λ (x : View). x.pool) (sym its);
      made = none ∙ ap (map (made_of after)) (sym (none_own false (g.1 why i replaced made s s.0 s.1)));
      limbo = limbo;
    }
      where
        same : map (made_of (seen before account)) s.0.private ≡ map (made_of before) s.0.private
        same = all_made_same before (seen before account) (follows_later before (seen before account) (waited_later n before sound account g.0.1)) s.0.private (own_used n before sound o s.1.1)

  module _ (result : Swapped) (later : LaterRetiring before after) (comes : (p : Operation) → Runs before p → Runs after
      (swap_done why (node_at (now before).heap made) (is_done result) p)) where
    pub hit_become : HasBecome (swap_done why (node_at (now before).heap made) (is_done result)) before after
    hit_become = record { follows = follows_retiring before after later; comes = comes }

    pub hit_stock : (stock next : Stocked) → IsStock stock before → next.sizes ≡ stock.sizes → next.pool ≡ stock.pool → next.made ≡ [] → IsLimbo next.limbo after →
        IsStock next after
    hit_stock stock next is sizes pool none limbo = record {
      sizes = sizes ∙ is.sizes ∙ sym (retiring_sizes before after later);
      pool = pool ∙ is.pool ∙ sym (retiring_pool before after later);
      made = none ∙ ap (map (made_of after)) (sym (none_own (is_done result) (comes s.0 s.1)));
      limbo = limbo;
    }

-- ---- by what it came to

module _ (n : ℕ) (before after : View) (sound : IsSound n before) (last : IsSound n after) (name : ℕ) (link : Link) (class fresh : ℕ) (at : IsAtSwap before name link class fresh) (result : Swapped)
    (g : HasSwapDone before result after) where
  abbrev this : IsSwapping before at.0 at.1 at.2 at.3
  this = at.4

  module _ (is : result ≡ Misses) where
    missed : HasSwapDone before Misses after
    missed = subst (λ x. HasSwapDone before x after) is g

    pub missed_swapped : HasSwapped before result after
    missed_swapped = subst (λ x. HasSwapped before x after) (sym is) (λ why i a f s. missed_become n before after sound last why i a f s missed)

    pub missed_owns : (stock next : Stocked) → IsStock stock before → next.sizes ≡ stock.sizes → next.pool ≡ put_back stock.made stock.pool → next.made ≡ [] →
        IsLimbo next.limbo after → IsStock next after
    missed_owns = missed_stock n before after sound last at.0 at.1 at.2 at.3 this missed

  module _ (is : ((r : Option Retiree) × (result ≡ Commits r)) ⊎ ((r : Retiree) × (result ≡ Fails r))) where
    later : LaterRetiring before after
    later = elim is [
      | inl e ↦ (subst (λ x. HasSwapDone before x after) e.1 g).0
      | inr e ↦ (subst (λ x. HasSwapDone before x after) e.1 g).0
    ]

    pub hit_swapped : HasSwapped before result after
    hit_swapped why i a f s = hit_become n before after sound last why i a f s result later (g.1 why i a f s)

    pub hit_owns : (stock next : Stocked) → IsStock stock before → next.sizes ≡ stock.sizes → next.pool ≡ stock.pool → next.made ≡ [] → IsLimbo next.limbo after →
        IsStock next after
    hit_owns = hit_stock n before after sound last at.0 at.1 at.2 at.3 this result later (g.1 at.0 at.1 at.2 at.3 this)
