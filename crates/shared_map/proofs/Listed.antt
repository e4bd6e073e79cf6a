-- What all shards list, from what each does.
use Rattle.std.proofs.Common.{◌≡◌, ℕ, false, ◌++◌, List, [], ◌∷◌, Option, Some, None, Result, Ok, Err, IfOk}
use Rattle.std.proofs.Common.{refl, sym, ap, ap₂, ◌∙◌, append_assoc, append-nil}
use Rattle.std.specs.Global.{Vec}
use Rattle.std.specs.FinMap as maps
use Rattle.shared_map.specs.Vocabulary.{HandleState}
use Rattle.ctrie_map.specs.declared.errors.MapError.{MapError}
use Rattle.ctrie_map.specs.Maps.{MapState, handles_of}
use Rattle.ctrie_map.specs.Reading.{read_of}
use Rattle.shared_map.specs.Beneath.proof_core.specs.Reading.{next_of}
use Rattle.shared_map.specs.declared.listing.Listing.{Listing}
use Rattle.shared_map.specs.Listing.{Lists, collected, listed_of, pairs_listed}
use Rattle.shared_map.specs.Shards.{worlds_of}
use Rattle.shared_map.specs.Uniting.{pairs_of}
use Rattle.shared_map.specs.Visits.{VisitedEach}

-- what is read of a handle is listed of its pairs
read_pairs : (f : List (ℕ × ℕ) → List (ℕ × ℕ)) (o : Option HandleState) (pairs : List (ℕ × ℕ)) → read_of (λ m. f (maps.entries m)) o ≡ Ok pairs → pairs ≡ f (pairs_of o)
read_pairs f None pairs e = cc
read_pairs f (Some shown) pairs e = let same : pairs ≡ f (maps.entries shown.pairs) = cc in same

pub all_listed : (o : Option HandleState) (told : Result (Vec (ℕ × ℕ)) MapError) → IfOk told (λ pairs. read_of (λ m. maps.entries m) o ≡ Ok pairs.items) →
    IfOk told (λ pairs. pairs.items ≡ pairs_of o)
all_listed o (Ok pairs) read = read_pairs (λ ps. ps) o pairs.items read
all_listed o (Err error) read = tt

pub next_listed : (cursor : Option ℕ) (room : ℕ) (o : Option HandleState) (told : Result (Vec (ℕ × ℕ)) MapError) →
    IfOk told (λ pairs. read_of (λ m. next_of cursor room (maps.entries m)) o ≡ Ok pairs.items) → IfOk told (λ pairs. pairs.items ≡ next_of cursor room (pairs_of o))
next_listed cursor room o (Ok pairs) read = read_pairs (next_of cursor room) o pairs.items read
next_listed cursor room o (Err error) read = tt

pub listed : (before after : Listing) (ss ts : List MapState) → VisitedEach Lists before ss after ts →
    (ts ≡ ss) × (after.failed ≡ false → (before.failed ≡ false)
    × (collected after.pairs ≡ collected before.pairs ++ pairs_listed before.listed before.handle (worlds_of ss)))
listed before after [] [] each =
    (refl, λ fine. (ap (λ (l : Listing). l.failed) (sym each) ∙ fine, ap (λ (l : Listing). collected l.pairs) each ∙ sym (append-nil (collected before.pairs))))
listed before after [] (t ∷ ts) each = absurd each
listed before after (s ∷ ss) [] each = absurd each
listed before after (s ∷ ss) (t ∷ ts) (between, did, each) =
    let (same, more) = listed between after ss ts each in (
      ap₂ (λ x xs. x ∷ xs) did.0 same,
      λ fine.
          let (well, rest) = more fine in
          let (good, its) = did.3 well in (
            good,
            rest ∙ ap (λ ps. ps ++ pairs_listed between.listed between.handle (worlds_of ss)) its
                ∙ ap₂ (λ l h. (collected before.pairs ++ listed_of before.listed (pairs_of (maps.get (handles_of s) before.handle))) ++ pairs_listed l h (worlds_of ss)) did.2 did.1
                ∙ append_assoc (collected before.pairs) (listed_of before.listed (pairs_of (maps.get (handles_of s) before.handle)))
                (pairs_listed before.listed before.handle (worlds_of ss)),
          ),
    )
