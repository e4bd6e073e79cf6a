-- How maps and worlds are stored as data.
use Rattle.std.specs.Prelude.{◌≡◌, Bool, true, false, refl}
use Rattle.std.specs.FinMap as map
use Rattle.std.specs.Coded.{Coded, code_by, coded×, coded_ℕ, coded_bool}
use Rattle.history.specs.declared.calls.Access.{Access}
use Rattle.history.specs.declared.calls.Access.TheVariants.{Writable, ReadOnly}
use Rattle.history.specs.Worlds.{KeyMap, HandleState, HandleMap}

abbrev pub map_code : Coded KeyMap
map_code = map.code coded_ℕ coded_ℕ

abbrev is_writable : Access → Bool
is_writable Writable = true
is_writable ReadOnly = false

abbrev access_of : Bool → Access
access_of true = Writable
access_of false = ReadOnly

pub access_of-is_writable : (access : Access) → access_of (is_writable access) ≡ access
access_of-is_writable Writable = refl
access_of-is_writable ReadOnly = refl

abbrev access_code : Coded Access
access_code = code_by Bool coded_bool is_writable access_of access_of-is_writable

-- a handle's state is stored as the pair of its fields
abbrev pub state_code : Coded HandleState
state_code =
    code_by (Access × KeyMap) (coded× access_code map_code) (λ s. (s.access, s.pairs)) (λ p. record { access = p.0; pairs = p.1 }) (λ _. refl)

abbrev pub world_code : Coded HandleMap
world_code = map.code coded_ℕ state_code
