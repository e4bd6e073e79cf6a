-- How many slots the shards of a map have together.
use Rattle.std.proofs.Common.{◌≡◌, ℕ, ◌+◌, ◌*◌, ◌≤◌, ◌<◌, ◌^◌, List, [], ◌∷◌, length, sym, ap, ◌∙◌, arith}
use Rattle.std.proofs.Math.Nat.{mul-suc, mul-zero}
use Rattle.std.proofs.lemmas.List.Sums.{sum_by-cons}
use Rattle.std.proofs.lemmas.Nat.{mul-le}
use Rattle.shared_map.specs.Vocabulary.{HashKind}
use Rattle.ctrie_map.specs.Cores.{reserve}
use Rattle.ctrie_map.specs.Maps.{MapState, slots_asked}
use Rattle.shared_map.specs.Opening.{AreNew, AreNewMaps}
use Rattle.shared_map.specs.Shards.{slots_of_all}

pub few_slots : (slots shards : ℕ) → slots < 2 ^ 32 → shards < 2 ^ 8 → slots * shards < 2 ^ 64
few_slots slots shards p q =
    let most : slots * shards ≤ 4294967296 * 256 = mul-le slots shards 4294967296 256 (omega arith) (omega arith) in omega (arith, most)

slots_are : (slots : ℕ) (hash : HashKind) (ms : List MapState) → AreNew slots hash ms → slots_of_all ms ≡ slots * length ms
slots_are slots hash [] new = sym (mul-zero slots)
slots_are slots hash (m ∷ ms) new =
    let one = sum_by-cons slots_asked m ms in
    let more = slots_are slots hash ms new.1 in
    let product = mul-suc slots (length ms) in
    let its : m.core.limits.slots ≡ slots + reserve = ap (λ (l : _). l.slots) new.0.0 in omega (arith, one, more, product, its)

-- new maps
pub new_slots : (slots shards : ℕ) (hash : HashKind) (ms : List MapState) → AreNewMaps slots hash shards ms → slots_of_all ms ≡ slots * shards
new_slots slots shards hash ms new = slots_are slots hash ms new.0 ∙ ap (λ n. slots * n) new.1
