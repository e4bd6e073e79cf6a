-- A stock is its seat's while its operation makes nothing.
use Rattle.std.proofs.Common.{◌≡◌, ℕ, refl, sym, ap, ◌∙◌, map}
use Rattle.machine_model.specs.declared.operations.Operation.{Operation}
use Rattle.machine_model.specs.declared.lines.Line.{Line}
use Rattle.lock_free.specs.declared.rules.View.{View}
use Rattle.lock_free.specs.Becoming.{Follows}
use Rattle.lock_free.specs.GoingDown.{HasMoved}
use Rattle.lock_free.specs.Entries.{HasStayed}
use Rattle.lock_free.specs.Loading.{Runs, IsSound}
use Rattle.lock_free.specs.Passing.{Later}
use Rattle.lock_free.specs.Stocks.{Stocked, IsStock, own_of, made_of}
use Rattle.lock_free.specs.Limbos.{hanging_of}
use Rattle.lock_free.proofs.LimboStays.{limbo_so}
use Rattle.lock_free.proofs.Followings.{follows_later}
use Rattle.lock_free.proofs.NewNodes.{all_made_same, own_used}

module _ (n : ℕ) (v w : View) (sound : IsSound n v) (o : Operation) (runs : Runs v o) (stock : Stocked) (is : IsStock stock v) where
  -- over more that has happened, with the same slots and the same nodes of its own
  pub stock_follows : Follows v w → w.pool ≡ v.pool → hanging_of w ≡ hanging_of v → (next : Operation) → Runs w next → next.private ≡ o.private → IsStock stock w
  stock_follows f pool hangs next runs_w same = record {
    sizes = is.sizes ∙ ap (λ (x : View). x.sizes) (sym f.is);
    pool = is.pool ∙ sym pool;
    made = is.made ∙ ap (λ x. map (made_of v) (own_of x)) runs.1 ∙ sym (all_made_same v w f o.private (own_used n v sound (record o { is_marked = runs.0 }) runs.1))
        ∙ ap (map (made_of w)) (sym same) ∙ ap (λ x. map (made_of w) (own_of x)) (sym runs_w.1);
    limbo = limbo_so stock stock v w is refl hangs;
  }

  pub stock_later : Later v w → (next : Operation) → Runs w next → next.private ≡ o.private → IsStock stock w
  stock_later l next runs_w same = stock_follows (follows_later v w l) (ap (λ (x : View). x.pool) l.is) (ap hanging_of l.is) next runs_w same

  pub stock_moved : (next : Operation → Line) → HasMoved next v w → IsStock stock w
  stock_moved next m = stock_later m.later (record o { line = next o }) (m.comes o runs) refl

  pub stock_stayed : HasStayed v w → IsStock stock w
  stock_stayed s = stock_later s.later o (s.comes o runs) refl
