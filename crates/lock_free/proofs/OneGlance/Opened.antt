-- A new table keeps the rule of shadows: its first seat doesn't glance.
use Rattle.history.specs.declared.calls.Call.{Call}
use Rattle.std.proofs.Common.{[], ◌∷◌, refl}
use Rattle.std.proofs.lemmas.Option.{none-some}
use Rattle.atomic_table.specs.Table.{opening}
use Rattle.lock_free.specs.declared.sizes.Sizes.{Sizes}
use Rattle.lock_free.specs.FirstViews.{first_view}
use Rattle.lock_free.specs.Opening.{first_words}
use Rattle.lock_free.specs.Places.{AreSizes}
use Rattle.lock_free.specs.Shadows.{IsShadowed, itself, more, none}
use Rattle.lock_free.proofs.Opens.{opens_ruled}

pub opens_shadowed : (sizes : Sizes) → AreSizes sizes → IsShadowed sizes (opening {S = Call} (first_words sizes) [] (first_view sizes))
opens_shadowed sizes ok = record {
  shadows = first_view sizes ∷ [];
  ruled = opens_ruled sizes ok;
  are = more (first_view sizes) (first_view sizes) [] [] (itself refl refl (λ p is. absurd (none-some p is))) none;
}
