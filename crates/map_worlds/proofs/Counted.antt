-- At rest as many handles are taken as are open.
use Rattle.std.proofs.Common.{◌≡◌, ℕ, zero, suc, ◌+◌, ◌||◌, Bool, true, false, cond, is_some, List, [], ◌∷◌, length, Option, Some, None, get_or, nat_cmp, refl, sym, ap, ◌∙◌, arith}
use Rattle.std.specs.Cmp.{nat_cmp_total}
use Rattle.std.specs.FinMap as map
use Rattle.std.specs.FinMap.{get-from_entries, len-empty, len-insert}
use Rattle.std.specs.List.{list_any}
use Rattle.std.proofs.lemmas.Bool.{true≢false}
use Rattle.map_worlds.specs.Beneath.history.specs.Worlds.{HandleState}
use Rattle.map_worlds.specs.Beneath.machine_model.specs.declared.operations.Operation.{Operation}
use Rattle.map_worlds.specs.Beneath.machine_model.specs.declared.roots.Root.{Root}
use Rattle.map_worlds.specs.Beneath.machine_model.specs.Machine.{is_busy, is_number, is_taken, reserved_by, run, taken_below}
use Rattle.map_worlds.specs.Beneath.machine_model.specs.States.{State, root_at}
use Rattle.map_worlds.specs.Beneath.proof_memory.proofs.Holding.Sizes.{sizes_stay}
use Rattle.map_worlds.specs.Worlds.{named_at, named_from}
use Rattle.map_worlds.specs.Laws.{HandlesAtRest}
use Rattle.map_worlds.proofs.Shown.{none_below}

-- ---- what is taken

none_reserved : (handle : ℕ) (actors : List (Option Operation)) → list_any is_some actors ≡ false → list_any (λ operation. is_number handle (reserved_by operation)) actors ≡ false
none_reserved handle [] e = refl
none_reserved handle (None ∷ more) e = none_reserved handle more e
none_reserved handle (Some operation ∷ more) e = absurd (true≢false e)

or_none : (a b : Bool) → b ≡ false → (a || b) ≡ a
or_none true b e = refl
or_none false b e = e

taken_open : (state : State) → is_busy state ≡ false → (handle : ℕ) → is_taken state handle ≡ is_some (root_at state handle)
taken_open state rest handle = or_none (is_some (root_at state handle)) _ (none_reserved handle state.actors rest)

-- ---- counting

abbrev bit : Bool → ℕ
bit b = cond b 1 0

-- how many of the first numbers pass
abbrev below : (ℕ → Bool) → ℕ → ℕ
below f zero = 0
below f (suc n) = below f n + bit (f n)

taken_is : (state : State) → is_busy state ≡ false → (n : ℕ) → taken_below state n ≡ below (λ k. is_some (root_at state k)) n
unfolding taken_below
taken_is state rest zero = refl
taken_is state rest (suc n) = omega (arith, taken_is state rest n, ap bit (taken_open state rest n))

first_out : (f : ℕ → Bool) (n : ℕ) → below f (suc n) ≡ bit (f 0) + below (λ k. f (suc k)) n
first_out f zero = omega arith
first_out f (suc n) = omega (arith, first_out f n)

abbrev count : List (Option Root) → ℕ
count [] = 0
count (o ∷ roots) = bit (is_some o) + count roots

all_counted : (roots : List (Option Root)) → below (λ k. is_some (get_or roots k None)) (length roots) ≡ count roots
all_counted [] = refl
all_counted (o ∷ roots) = omega (arith, first_out (λ k. is_some (get_or (o ∷ roots) k None)) (length roots), all_counted roots)

-- ---- the world's size

len_is : (state : State) (roots : List (Option Root)) (n : ℕ) → map.len (map.from_entries {R = nat_cmp} (named_from state n roots)) ≡ count roots
len_is state [] n = len-empty nat_cmp HandleState
len_is state (None ∷ roots) n = len_is state roots (n + 1) ∙ omega arith
len_is state (Some root ∷ roots) n =
    let rest = named_from state (n + 1) roots in
    let new : map.contains_key (map.from_entries {R = nat_cmp} rest) n ≡ false =
    ap is_some (get-from_entries nat_cmp_total rest n ∙ none_below state roots (n + 1) n (omega arith)) in
    len-insert nat_cmp_total (map.from_entries rest) n (named_at state n root)
    ∙ ap (λ b. cond b (map.len (map.from_entries {R = nat_cmp} rest)) (map.len (map.from_entries {R = nat_cmp} rest) + 1)) new
    ∙ omega (arith, len_is state roots (n + 1))

pub handles_at_rest : HandlesAtRest
handles_at_rest limits steps rest =
    let state = run limits steps in
    let size = (sizes_stay limits steps).0 in
    taken_is state rest _ ∙ ap (below (λ k. is_some (root_at state k))) (sym size) ∙ all_counted state.roots ∙ sym (len_is state state.roots 0)
