-- Calls that walk over no pairs.
use Rattle.std.specs.Prelude.{◌≡◌, ◌⊎◌, true}
use Rattle.std.proofs.Common.{inl, inr, refl}
use Rattle.proof_obstruction_free.specs.Vocabulary.{Call, Close, Entries, Count, is_close}
use Rattle.proof_obstruction_free.specs.Calls.{IsNoWalk}
use Rattle.proof_obstruction_free.specs.Laws.{IsOnKeyOrRoot}

-- any call that walks over no pairs is on one key or on a root, or it is a close
pub of_no_walk : (call : Call) → IsNoWalk call → IsOnKeyOrRoot call ⊎ (is_close call ≡ true)
of_no_walk (Close h) short = inr refl
of_no_walk (Entries h) short = absurd short
of_no_walk (Count h) short = absurd short
of_no_walk call short = inl tt
