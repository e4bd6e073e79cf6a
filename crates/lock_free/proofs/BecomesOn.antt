-- An operation becomes another one, and what is known of it goes on.
use Rattle.std.proofs.Common.{◌≡◌, ℕ, ap, subst, ◌∙◌}
use Rattle.machine_model.specs.declared.lines.Line.{Line}
use Rattle.machine_model.specs.declared.operations.Operation.{Operation}
use Rattle.machine_model.specs.Calls.{handle_of}
use Rattle.lock_free.specs.declared.reading.Way.{Way}
use Rattle.lock_free.specs.declared.rules.View.{View}
use Rattle.lock_free.specs.Becoming.{HasBecome}
use Rattle.lock_free.specs.GoingDown.{HasMoved}
use Rattle.lock_free.specs.Holding.{IsOn}
use Rattle.lock_free.specs.Loading.{Runs, IsSound}
use Rattle.lock_free.specs.Passing.{IsOnWay}
use Rattle.lock_free.specs.Repairing.{HasStart}
use Rattle.lock_free.specs.Stocks.{Stocked, IsStock}
use Rattle.lock_free.proofs.Comings.{runs_one}
use Rattle.lock_free.proofs.Followings.{follows_later}
use Rattle.lock_free.proofs.StockStays.{stock_moved as moves_stock}

pub moved_become : (v w : View) (f : Operation → Line) → HasMoved f v w → HasBecome (λ o. record o { line = f o }) v w
moved_become v w f m = record { follows = follows_later v w m.later; comes = m.comes }

pub become_so : (v w : View) (f g : Operation → Operation) → ((o : Operation) → Runs v o → f o ≡ g o) → HasBecome f v w → HasBecome g v w
become_so v w f g same m = record { follows = m.follows; comes = λ o runs. subst (Runs w) (same o runs) (m.comes o runs) }

module _ (v w : View) (next : Operation → Operation) (m : HasBecome next v w) (l : Line) (at : IsOn v l) where
  one_then : (q : Operation) → Runs w q → (o : Operation) × Runs v o × (record q { is_marked = o.is_marked } ≡ record (next o) { is_marked = o.is_marked })
  one_then q runs = (at.0, at.1, ap (λ (z : Operation). record z { is_marked = at.0.is_marked }) (runs_one w q (next at.0) runs (m.comes at.0 at.1)))

  pub becomes_on : (l2 : Line) → ((o : Operation) → o.line ≡ l → (next o).line ≡ l2) → IsOn w l2
  becomes_on l2 is = (next at.0, m.comes at.0 at.1, is at.0 at.2)

  pub way_become : (way : Way) → ((o : Operation) → (next o).access ≡ o.access) → ((o : Operation) → (next o).call ≡ o.call) → IsOnWay v way → IsOnWay w way
  way_become way access call on q runs =
      let x = one_then q runs in
      let it = on x.0 x.1 in
      (ap (λ (z : Operation). z.access) x.2 ∙ access x.0 ∙ it.0, ap (λ (z : Operation). handle_of z.call) x.2 ∙ ap handle_of (call x.0) ∙ it.1)

  pub start_become : (start : ℕ) → ((o : Operation) → (next o).generation ≡ o.generation) → HasStart v start → HasStart w start
  start_become start same begun q runs = let x = one_then q runs in ap (λ (z : Operation). z.generation) x.2 ∙ same x.0 ∙ begun x.0 x.1

-- a stock stays where only the line changes
pub stock_moved : (n : ℕ) (v w : View) (sound : IsSound n v) (l : Line) (at : IsOn v l) (next : Operation → Line) (m : HasMoved next v w) (stock : Stocked) → IsStock stock v → IsStock stock w
stock_moved n v w sound l at next m stock is = moves_stock n v w sound at.0 at.1 stock is next m
