-- What closings and new places keep.
use Rattle.std.specs.Prelude.{ℕ, ◌<◌, ◌≤◌, List, [], ◌∷◌, ◌++◌, All}
use Rattle.std.proofs.Common.{arith}
use Rattle.std.proofs.lemmas.List.Elements.{All-push, All-weaker}
use Rattle.places.specs.declared.place.Place.{Place}
use Rattle.places.specs.Segments.{IsCut, IsKept}
use Rattle.places.proofs.Cuts.{above, AreUpTo, counts_joined, push_cut, low_cut, up_to_from_all}

-- a closing, behind all places
pub kept_closed : (places listed stray : List Place) (closings : List ℕ) (closed step : ℕ) → IsKept places listed stray closings closed →
    All (λ c. c < step) closings → All (λ p. p.step ≤ step) places → IsKept places listed stray (closings ++ step ∷ []) step
kept_closed places listed stray closings closed step kept later behind =
    let low : AreUpTo step listed = omega (arith, kept.all (above step), up_to_from_all step places behind) in
    record {
      cut = All-push (λ c. IsCut c listed) closings step kept.cut (low_cut step listed low);
      newest = All-push (λ c. c ≤ step) closings step (All-weaker (λ c. c < step) (λ c. c ≤ step) (λ c less. omega (arith, less)) closings later) (omega arith);
      all = kept.all;
    }

-- a place behind all closings
pub kept_listed : (places listed stray : List Place) (closings : List ℕ) (closed : ℕ) (p : Place) → IsKept places listed stray closings closed →
    closed < p.step → IsKept (places ++ p ∷ []) (listed ++ p ∷ []) stray closings closed
kept_listed places listed stray closings closed p kept less = record {
  cut = λ k d within. push_cut _ listed p (omega (arith, less, kept.newest k d within)) (kept.cut k d within);
  newest = kept.newest;
  all = λ t. omega (arith, kept.all t, counts_joined t places (p ∷ []), counts_joined t listed (p ∷ []));
}

-- a place of a segment that was ended
pub kept_stray : (places listed stray : List Place) (closings : List ℕ) (closed : ℕ) (p : Place) → IsKept places listed stray closings closed →
    IsKept (places ++ p ∷ []) listed (stray ++ p ∷ []) closings closed
kept_stray places listed stray closings closed p kept = record {
  cut = kept.cut;
  newest = kept.newest;
  all = λ t. omega (arith, kept.all t, counts_joined t places (p ∷ []), counts_joined t stray (p ∷ []));
}
