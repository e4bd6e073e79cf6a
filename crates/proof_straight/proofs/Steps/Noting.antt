-- What is recorded of the steps of a call that runs alone.
use Rattle.std.proofs.Common.{◌≡◌, ℕ, suc, ◌-◌, ◌<◌, ◌==◌, Bool, true, false, cond, max, List, [], ◌∷◌, ◌++◌, length, get_or, set, Option, Some, None, refl, ap, ◌∙◌, eq-eqb, arith}
use Rattle.std.specs.Prelude.{find, option_and_then}
use Rattle.std.proofs.lemmas.List.{set-set, append-nil, get_or-set_same, set-get_or}
use Rattle.proof_straight.specs.Vocabulary.{Ref, Place, on_time, Closing, Entrant, Moment, Progress, Publication, Record, committed_at, entered, entered_by, moment_after, no_moment, noted_progress}
use Rattle.proof_straight.specs.Recorded.{moment_of}

-- of a step that tells nothing nothing is recorded
abbrev pub quiet : Progress
quiet = record { committed = None; given = None; counts = false; published = None; carried = None }

index : (k : ℕ) → suc k - 1 ≡ k
index k = omega arith

-- of a step that neither commits nor swaps in nor carries out just the READ's moment is
abbrev pub reading : Option Ref → Bool → Progress
reading given counts = record { committed = None; given = given; counts = counts; published = None; carried = None }

abbrev with_own : Record → ℕ → Moment → Record
with_own past k m = record past { moments = set past.moments k m }

noted_reading : (past : Record) (step k : ℕ) (given : Option Ref) (counts : Bool) →
    noted_progress past step (suc k) (reading given counts) ≡ with_own past k (moment_after past step (reading given counts) (get_or past.moments k no_moment))
noted_reading past step k given counts =
    let m = moment_after past step (reading given counts) (get_or past.moments k no_moment) in
    ap (λ i. record past { closings = past.closings ++ []; places = (past.places ++ []) ++ []; moments = set past.moments i m }) (index k)
    ∙ ap (λ c. record (with_own past k m) { closings = c; places = (past.places ++ []) ++ [] }) (append-nil past.closings)
    ∙ ap (λ p. record (with_own past k m) { places = p }) (append-nil (past.places ++ []) ∙ append-nil past.places)

pub noted_quiet : (past : Record) (step k : ℕ) → noted_progress past step (suc k) quiet ≡ past
noted_quiet past step k = noted_reading past step k None false ∙ ap (λ m. record past { moments = m }) (set-get_or past.moments k no_moment)

-- the record once a READ of this main node is done, whose main word was read in this step
abbrev pub with_read : Record → ℕ → ℕ → Ref → Record
with_read past k step main = with_own past k (moment_of past step main)

pub noted_read : (past : Record) (step later k : ℕ) (main : Ref) → k < length past.moments →
    noted_progress (noted_progress past step (suc k) (reading None true)) later (suc k) (reading (Some main) false) ≡ with_read past k step main
noted_read past step later k main within =
    let old = get_or past.moments k no_moment in
    let first : Moment = record { read_at = step; moment = old.moment } in
    ap (λ r. noted_progress r later (suc k) (reading (Some main) false)) (noted_reading past step k None true)
    ∙ noted_reading (with_own past k first) later k (Some main) false
    ∙ ap (λ (m : Moment). record past { moments = set (set past.moments k first) k (record { read_at = m.read_at; moment = max m.read_at (committed_at past main) }) })
    (get_or-set_same past.moments k first no_moment within)
    ∙ ap (λ m. record past { moments = m }) (set-set past.moments k first (moment_of past step main))

-- twice is once
pub read_again : (past : Record) (k before step : ℕ) (other main : Ref) → with_read (with_read past k before other) k step main ≡ with_read past k step main
read_again past k before step other main = ap (λ m. record past { moments = m }) (set-set past.moments k (moment_of past before other) (moment_of past step main))

-- ---- a change of a key

-- the step that swaps it in, for whom it is the change
abbrev pub publishing : Option Entrant → Ref → Progress
publishing changer fresh = record { committed = None; given = None; counts = false; published = Some (record { main = fresh; changer = changer }); carried = None }

-- the step that commits it
abbrev pub committing : Ref → Progress
committing fresh = record { committed = Some fresh; given = Some fresh; counts = false; published = None; carried = None }

pub noted_publishing : (past : Record) (step k : ℕ) (changer : Option Entrant) (fresh : Ref) →
    noted_progress past step (suc k) (publishing changer fresh) ≡ record past { published = record { main = fresh; changer = changer } ∷ past.published }
noted_publishing past step k changer fresh = ap (λ (r : Record). record r { published = record { main = fresh; changer = changer } ∷ past.published }) (noted_quiet past step k)

-- the record behind a commit of the node that was swapped in last, where this is known of the READs before
abbrev pub with_commit_of : Record → (step k : ℕ) → Option Entrant → Ref → Moment → Record
with_commit_of past step k changer fresh m = record past {
  commits = past.commits ++ record { main = fresh; step = step } ∷ [];
  places = past.places ++ entered_by past step changer;
  moments = set past.moments k (record { read_at = m.read_at; moment = max m.read_at step });
}

pub noted_committing : (past : Record) (step k : ℕ) (changer : Option Entrant) (fresh : Ref) (m : Moment) (rest : List Publication) →
    past.published ≡ record { main = fresh; changer = changer } ∷ rest → get_or past.moments k no_moment ≡ m →
    noted_progress past step (suc k) (committing fresh) ≡ with_commit_of past step k changer fresh m
noted_committing past step k changer fresh m rest newest own =
    ap (λ i. by (past.closings ++ []) ((past.places ++ entered past step (Some fresh)) ++ []) (set past.moments i (moment_now (get_or past.moments k no_moment)))) (index k)
    ∙ ap (λ x. by (past.closings ++ []) ((past.places ++ entered past step (Some fresh)) ++ []) (set past.moments k (moment_now x))) own
    ∙ ap (λ cs. by cs ((past.places ++ entered past step (Some fresh)) ++ []) (set past.moments k (moment_now m))) (append-nil past.closings)
    ∙ ap (λ ps. by past.closings ps (set past.moments k (moment_now m))) (append-nil (past.places ++ entered past step (Some fresh)))
    ∙ ap (λ ps. by past.closings (past.places ++ ps) (set past.moments k (moment_now m))) enters
  where
    moment_now : Moment → Moment
    moment_now x = record { read_at = x.read_at; moment = max x.read_at step }

    by : List Closing → List Place → List Moment → Record
    by closings places moments = record past { commits = past.commits ++ record { main = fresh; step = step } ∷ []; closings = closings; places = places; moments = moments }

    whose : Option Publication → Option Entrant
    whose found = option_and_then (λ (p : Publication). p.changer) found

    enters : entered past step (Some fresh) ≡ entered_by past step changer
    enters =
        ap (λ ps. entered_by past step (whose (find (λ (p : Publication). p.main == fresh) ps))) newest
        ∙ ap (λ b. entered_by past step (whose (cond b (Some (record { main = fresh; changer = changer })) (find (λ (p : Publication). p.main == fresh) rest)))) (eq-eqb fresh fresh refl)

-- ---- an offer

-- the step that carries it out
abbrev pub carrying : ℕ → ℕ → Progress
carrying generation id = record { committed = None; given = None; counts = false; published = None; carried = Some (record { generation = generation; operation = id }) }

pub noted_carrying : (past : Record) (step k generation id : ℕ) →
    noted_progress past step (suc k) (carrying generation id)
    ≡ record past { closings = past.closings ++ record { generation = generation; step = step } ∷ []; places = past.places ++ on_time step false id ∷ [] }
noted_carrying past step k generation id =
    ap (λ i. by ((past.places ++ []) ++ on_time step false id ∷ []) (set past.moments i (get_or past.moments k no_moment))) (index k)
    ∙ ap (λ ms. by ((past.places ++ []) ++ on_time step false id ∷ []) ms) (set-get_or past.moments k no_moment)
    ∙ ap (λ ps. by (ps ++ on_time step false id ∷ []) past.moments) (append-nil past.places)
  where
    by : List Place → List Moment → Record
    by places moments = record past { closings = past.closings ++ record { generation = generation; step = step } ∷ []; places = places; moments = moments }
