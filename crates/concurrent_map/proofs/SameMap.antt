-- Which map it is.
use Rattle.std.proofs.Common.{◌≡◌, ap, ◌∙◌}
use Rattle.lock_free.specs.Naming.{MapId}

pub same_id : (m n : MapId) → m.table ≡ n.table → m.sizes ≡ n.sizes → m ≡ n
same_id m n table sizes = ap (λ t. record { table = t; sizes = m.sizes }) table ∙ ap (λ z. record { table = n.table; sizes = z }) sizes
