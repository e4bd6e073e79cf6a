-- What the methods tell of a reply.
use Rattle.std.specs.Prelude.{ℕ, Bool, Option, Result, Ok, Err}
use Rattle.ctrie_map.specs.Vocabulary.{Reply, Found, Truth, Crowded as IsCrowded, Opened, Closed, Cleared}
use Rattle.ctrie_map.specs.declared.errors.MapError.{MapError}
use Rattle.ctrie_map.specs.declared.errors.MapError.TheVariants.{Crowded, Full}

-- a value
abbrev pub found_in : Result Reply MapError → Result (Option ℕ) MapError
found_in (Ok (Found value)) = Ok value
found_in (Ok IsCrowded) = Err Crowded
found_in (Ok other) = Err Full
found_in (Err error) = Err error

-- whether something was done
abbrev pub truth_in : Result Reply MapError → Result Bool MapError
truth_in (Ok (Truth truth)) = Ok truth
truth_in (Ok IsCrowded) = Err Crowded
truth_in (Ok other) = Err Full
truth_in (Err error) = Err error

-- a new handle
abbrev pub opened_in : Result Reply MapError → Result ℕ MapError
opened_in (Ok (Opened handle)) = Ok handle
opened_in (Ok IsCrowded) = Err Crowded
opened_in (Ok other) = Err Full
opened_in (Err error) = Err error

-- nothing but that it is done
abbrev pub done_in : Result Reply MapError → Result (Unit {0}) MapError
done_in (Ok Cleared) = Ok tt
done_in (Ok Closed) = Ok tt
done_in (Ok IsCrowded) = Err Crowded
done_in (Ok other) = Err Full
done_in (Err error) = Err error
