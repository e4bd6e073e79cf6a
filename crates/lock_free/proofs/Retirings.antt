-- What stays of a seat, and of what it knows, where more has happened and it has retired a slot, or none.
use Rattle.std.proofs.Common.{◌≡◌, ℕ, List, sym, ap, subst, ◌∙◌}
use Rattle.machine_model.specs.Beneath.slot_arena.specs.declared.refs.Ref.{Ref}
use Rattle.lock_free.specs.declared.rules.View.{View}
use Rattle.lock_free.specs.Becoming.{Follows}
use Rattle.lock_free.specs.Freeing.{HasLetGo}
use Rattle.lock_free.specs.Loading.{seen, IsSound}
use Rattle.lock_free.specs.Owing.{owing}
use Rattle.lock_free.specs.Passing.{Later}
use Rattle.lock_free.specs.Reclaiming.{LaterRetiring}
use Rattle.lock_free.specs.RunningOn.{IsStill}
use Rattle.lock_free.proofs.Laters.{later_both}
use Rattle.lock_free.proofs.RunningOn.{still_follows}

-- what has become of those that it has retired, and of their links, is no matter
pub sound_without : (n : ℕ) (gone w : View) → w ≡ record gone { epoch = w.epoch; passed = w.passed; retired = w.retired; owed = w.owed; links = w.links } → IsSound n w → IsSound n gone
sound_without n gone w is sound =
    let s = subst (IsSound n) is sound in
    record { size = s.size; range = s.range; bounds = s.bounds; keys = s.keys; counted = s.counted; inside = s.inside; free = λ b name free. s.free b name free }

module _ (v w : View) (l : LaterRetiring v w) where
  gone_is : w ≡ record (seen v l.gone.account) { epoch = w.epoch; passed = w.passed; retired = w.retired; owed = w.owed; links = w.links }
  gone_is = l.is ∙ ap (λ (x : View). record x { epoch = w.epoch; passed = w.passed; retired = w.retired; owed = w.owed; links = w.links }) l.later.is

  pub retiring_sizes : w.sizes ≡ v.sizes
  retiring_sizes = ap (λ (x : View). x.sizes) gone_is

  pub retiring_pool : w.pool ≡ v.pool
  retiring_pool = ap (λ (x : View). x.pool) gone_is

  pub follows_retiring : Follows v w
  follows_retiring =
      subst (Follows v) (sym l.is)
      (record {
        is = ap (λ (x : View). record x { epoch = w.epoch; passed = w.passed; retired = w.retired; owed = w.owed; links = w.links }) l.later.is
            ∙ ap (λ (x : View). record v {
              account = l.gone.account;
              epoch = w.epoch;
              passed = w.passed;
              pool = x.pool;
              drafts = x.drafts;
              retired = w.retired;
              owed = w.owed;
              links = w.links;
            })
            (sym l.later.is);
        places = l.later.places;
        owns = l.later.owns;
        nodes = l.later.nodes;
        goes_on = l.later.goes_on;
      })

  pub still_retiring : IsStill v w
  still_retiring = still_follows v w follows_retiring

-- after more that has happened
pub retiring_after : (u v w : View) → Later u v → LaterRetiring v w → LaterRetiring u w
retiring_after u v w p q = record { gone = q.gone; later = later_both u v q.gone p q.later; is = q.is }

-- and the seat has let go of others since
pub retiring_more : (v w x : View) → LaterRetiring v w → HasLetGo w x → LaterRetiring v x
retiring_more v w x p q = record {
  gone = p.gone;
  later = p.later;
  is = q.is ∙ ap (λ (y : View). record y { epoch = x.epoch; passed = x.passed; retired = x.retired; owed = x.owed; links = x.links }) p.is;
}

-- what the seat holds itself is no matter to what it knows
pub later_owing : (v w : View) (owed : List Ref) → Later (owing v owed) w → Later v (owing w v.owed)
later_owing v w owed l = record {
  is = ap (λ (x : View). owing x v.owed) l.is;
  places = l.places;
  owns = l.owns;
  nodes = l.nodes;
  goes_on = l.goes_on;
  offers = l.offers;
}

pub retiring_owing : (u v w : View) (owed : List Ref) → Later u v → LaterRetiring (owing v owed) w → LaterRetiring u w
retiring_owing u v w owed p q = record {
  gone = owing q.gone v.owed;
  later = later_both u v (owing q.gone v.owed) p (later_owing v q.gone owed q.later);
  is = q.is;
}
