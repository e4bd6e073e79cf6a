-- What a copy says that has an effect.
use Rattle.std.specs.Prelude.{◌≡◌, ℕ, Bool, true, false, is_some, if◌then◌else◌, Option, Some, None, option_and_then}
use Rattle.std.specs.FinMap as map
use Rattle.std.proofs.Common.{refl, sym, ap}
use Rattle.std.proofs.lemmas.Option.{same_Some}
use Rattle.ctrie_map.specs.Vocabulary.{Access, Reply, Opened, naming, HandleMap, HandleState, KeyMap}

module _ (world : HandleMap) (opens : Option ℕ) (access : Access) where
  abbrev opened : KeyMap → ℕ → Bool → Option (Reply × HandleMap)
  opened m n b = if b then None else Some (Opened n, naming world n access m)

  -- a copy of the map that there may be
  abbrev pub copied : Option KeyMap → Option (Reply × HandleMap)
  copied = option_and_then (λ m. option_and_then (λ n. opened m n (map.contains_key world n)) opens)

  pub record IsOpened (source : Option KeyMap) (answer : Reply) (next : HandleMap) : Type 0 where
    pub m : KeyMap
    pub at : source ≡ Some m
    pub copy : ℕ
    pub new : map.get world copy ≡ None
    pub told : answer ≡ Opened copy
    pub there : next ≡ naming world copy access m

  not_there : (n : ℕ) → (o : Option HandleState) → map.get world n ≡ o → is_some o ≡ false → map.get world n ≡ None
  not_there n None e is = e
  not_there n (Some shown) e is = cc is

  module _ (answer : Reply) (next : HandleMap) where
    by_there : (m : KeyMap) (n : ℕ) (b : Bool) → map.contains_key world n ≡ b → opened m n b ≡ Some (answer, next) → IsOpened (Some m) answer next
    by_there m n true is e = cc e
    by_there m n false is e =
        let same = same_Some (Opened n, naming world n access m) (answer, next) e in
        record { m = m; at = refl; copy = n; new = not_there n (map.get world n) refl is; told = ap (λ p. p.0) (sym same); there = ap (λ p. p.1) (sym same) }

    by_opens : (m : KeyMap) (o : Option ℕ) → option_and_then (λ n. opened m n (map.contains_key world n)) o ≡ Some (answer, next) → IsOpened (Some m) answer next
    by_opens m None e = cc e
    by_opens m (Some n) e = by_there m n (map.contains_key world n) refl e

    pub is_opened : (source : Option KeyMap) → copied source ≡ Some (answer, next) → IsOpened source answer next
    is_opened None e = cc e
    is_opened (Some m) e = by_opens m opens e
