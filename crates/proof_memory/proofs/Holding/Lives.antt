-- What is in use is live, as the heap's calls say it.
use Rattle.std.proofs.Common.{◌≡◌, ℕ, ◌==◌, Bool, true, false, cond, Option, Some, None, refl}
use Rattle.std.proofs.lemmas.Option.{none-some}
use Rattle.proof_memory.specs.Vocabulary.{birth_of, Ref, Slot, Heap, stored, node_at, IsLive, has_birth, of_birth, run, action_of}
use Rattle.proof_memory.specs.Wants.{action_wants}
use Rattle.proof_memory.specs.Laws.{IsInUse}
use Rattle.proof_memory.specs.Holding.{LinesLive}
use Rattle.proof_memory.proofs.Claims.Uses.{all_carried, same_node}
use Rattle.proof_memory.proofs.Safety.AtEachTime.{safe_along}
use Rattle.proof_memory.proofs.Safety.AtTimes.{action_finds}

live_if : (b : Bool) (kept slot : Slot) → cond b (Some kept) None ≡ Some slot → b ≡ true
live_if true kept slot e = refl
live_if false kept slot e = absurd (none-some slot e)

live_by : (birth : ℕ) (o : Option Slot) (slot : Slot) → of_birth birth o ≡ Some slot → has_birth birth o ≡ true
live_by birth None slot e = absurd (none-some slot e)
live_by birth (Some kept) slot e = live_if (kept.birth == birth) kept slot e

pub in_use_lives : (heap : Heap) (r : Ref) → IsInUse heap r → IsLive heap r
in_use_lives heap r used = live_by (birth_of r) (stored heap r) used.0 used.1

pub lines_live : LinesLive
lines_live limits steps actor operation ok e =
    let heap = (run limits steps).heap in
    all_carried (IsInUse heap) heap (IsLive heap) heap (λ r used. (in_use_lives heap r used, same_node (node_at heap r)))
    (action_wants (action_of (run limits steps) operation)) (action_finds (run limits steps) (safe_along limits ok steps) actor operation e)
