-- Lists of references in parts, of which a node has room for 32.
use Rattle.std.specs.Prelude.{◌≡◌, ◌+◌, ◌≤◌, List, ◌++◌, length, take}
use Rattle.std.proofs.Common.{arith, sym, length-append}
use Rattle.std.proofs.lemmas.List.{take_all}
use Rattle.slot_arena.specs.declared.refs.Ref.{Ref}

-- where there is room all stand
pub whole : (rs : List Ref) → length rs ≤ 32 → take 32 rs ≡ rs
whole rs room = take_all 32 rs room

-- three lists, one added after the other
pub three : (front middle back : List Ref) → length front + length middle + length back ≤ 32 → front ++ middle ++ back ≡ take 32 (front ++ middle ++ back)
three front middle back room =
    let all : length (front ++ middle ++ back) ≤ 32 = omega (arith, room, length-append (front ++ middle) back, length-append front middle) in
    sym (whole (front ++ middle ++ back) all)
