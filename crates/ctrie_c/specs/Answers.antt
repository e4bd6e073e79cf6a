-- What an export's code tells.
use Rattle.std.specs.Prelude.{◌≡◌, ◌<◌, ℕ, Bool, true, false, nat_eq, Option, Some, None, Result, Ok, Err, if◌then◌else◌}
use Rattle.shared_map.specs.Beneath.ctrie_map.specs.declared.errors.MapError.{MapError}
use Rattle.shared_map.specs.Beneath.ctrie_map.specs.declared.errors.MapError.TheVariants.{NoHandle, ReadOnly, HandlesFull, Crowded, Full, BadSizes, WornOut, Memory}
use Rattle.shared_map.specs.Beneath.ctrie_map.specs.Maps.{MapState}

-- the codes by which a map's answers are told lie below
abbrev pub code_limit : ℕ
code_limit = 10

-- of a call where there is no map, of a `ctrie_new` where there is one already, and of one that names no hash
abbrev pub no_map : ℕ
no_map = 11

abbrev pub has_map : ℕ
has_map = 12

abbrev pub bad_hash : ℕ
bad_hash = 13

-- why the map refused
abbrev pub refusal_of : ℕ → MapError
refusal_of code =
    if nat_eq code 2 then NoHandle else if nat_eq code 3 then ReadOnly else if nat_eq code 4 then HandlesFull else if nat_eq code 5 then Crowded else if nat_eq code 6 then Full
    else if nat_eq code 7 then BadSizes else if nat_eq code 8 then WornOut else Memory

-- 0 tells the one answer, 1 the other, and each further code why there is none
abbrev pub told_by : {A : Type 0} → A → A → ℕ → Result A MapError
told_by zeroth first code = if nat_eq code 0 then Ok zeroth else if nat_eq code 1 then Ok first else Err (refusal_of code)

-- none or this one
abbrev pub value_told : ℕ → ℕ → Result (Option ℕ) MapError
value_told code value = told_by None (Some value) code

abbrev pub truth_told : ℕ → Result Bool MapError
truth_told code = told_by false true code

abbrev pub number_told : ℕ → ℕ → Result ℕ MapError
number_told code number = told_by number number code

abbrev pub done_told : ℕ → Result (Unit {0}) MapError
done_told code = told_by tt tt code

-- what a call did with the map that is held, if there is one
abbrev pub Does : Option MapState → Option MapState → ℕ → (MapState → MapState → Type 0) → Type 0
Does (Some old) (Some new) code Holds = (code < code_limit) × Holds old new
Does None None code Holds = code ≡ no_map
Does before after code Holds = ⊥
