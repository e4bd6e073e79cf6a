-- Counts of which some are lent.
use Rattle.std.proofs.Common.{◌≡◌, ℕ, ◌+◌, ◌-◌, ◌<◌, ◌≤◌, ◌==◌, List, [], ◌∷◌, ◌++◌, ◌⊎◌, length, remove, get_or, set, slice_index, All, refl, sym, ap, ◌∙◌, subst, ◌^◌, inl, inr, arith, zero, suc}
use Rattle.std.proofs.lemmas.Bool.{cases_eq, cases_lt}
use Rattle.std.proofs.lemmas.Grind.{same_number_lists}
use Rattle.std.proofs.lemmas.List.{get_or-set_same, get_or-set_other, length-set}
use Rattle.std.proofs.lemmas.List.Elements.{All-nil, All-cons, All-head, All-tail}
use Rattle.std.proofs.lemmas.List.Sums.{sum_by-remove}
use Rattle.slot_arena.specs.Refs.{slot_of}
use Rattle.slot_arena.specs.declared.refs.Ref.{Ref}
use Rattle.slot_arena.specs.Tallies.{Tally, naming, NotesZeros}
use Rattle.slot_arena.specs.Loans.{Loan, Ledger, IsBacked, IsOver, KeepsLoan, lent, owed}
use Rattle.slot_arena.proofs.Times.{once, once_same, once_other}
use Rattle.slot_arena.proofs.Namings.{names, naming-cons, lowered_at, raised_at}
use Rattle.slot_arena.proofs.Marks.{neither_zero}

pub length-owed : (counts : List ℕ) (rs : List Ref) → length (owed counts rs) ≡ length counts
length-owed counts [] = refl
length-owed counts (r ∷ rs) = length-set (owed counts rs) (slot_of r) (slice_index (owed counts rs) (slot_of r) + 1) ∙ length-owed counts rs

-- each count is what stands there and what is lent
pub owed_at : (counts : List ℕ) (rs : List Ref) (slot : ℕ) → All (λ r. slot_of r < length counts) rs → slice_index (owed counts rs) slot ≡ slice_index counts slot + naming slot rs
owed_at counts [] slot all = omega arith
owed_at counts (r ∷ rs) slot all =
    let here : slot_of r < length counts = All-head (λ (q : Ref). slot_of q < length counts) r rs all in
    omega (
      arith,
      raised_at (owed counts rs) (slot_of r) slot (omega (arith, length-owed counts rs, here)),
      owed_at counts rs slot (All-tail (λ (q : Ref). slot_of q < length counts) r rs all),
      naming-cons slot r rs,
    )

-- counts that are so are these
pub owed_is : (counts : List ℕ) (rs : List Ref) (seen : List ℕ) → All (λ r. slot_of r < length counts) rs → length seen ≡ length counts →
    ((k : ℕ) → slice_index seen k ≡ slice_index counts k + naming k rs) → owed counts rs ≡ seen
owed_is counts rs seen within size each =
    same_number_lists (owed counts rs) seen (length-owed counts rs ∙ sym size) (λ k inside. owed_at counts rs k within ∙ sym (each k))

-- the bounds stay where the size does
pub within_size : (n m : ℕ) (rs : List Ref) → n ≡ m → All (λ r. slot_of r < n) rs → All (λ r. slot_of r < m) rs
within_size n m rs same all = subst (λ k. All (λ r. slot_of r < k) rs) same all

-- one count that is written
pub owed_set : (counts : List ℕ) (rs : List Ref) (k v w : ℕ) → k < length counts → All (λ r. slot_of r < length counts) rs → v + naming k rs ≡ w →
    owed (set counts k v) rs ≡ set (owed counts rs) k w
owed_set counts rs k v w within all sum =
    owed_is (set counts k v) rs (set (owed counts rs) k w) (within_size _ _ rs (sym (length-set counts k v)) all)
    (omega (arith, length-set (owed counts rs) k w, length-owed counts rs, length-set counts k v)) each
  where
    inside : k < length (owed counts rs)
    inside = omega (arith, length-owed counts rs)

    each : (j : ℕ) → slice_index (set (owed counts rs) k w) j ≡ slice_index (set counts k v) j + naming j rs
    each j = elim (cases_eq j k) [
      | inl same ↦ subst (λ i. slice_index (set (owed counts rs) k w) i ≡ slice_index (set counts k v) i + naming i rs) (sym same)
          (omega (arith, get_or-set_same (owed counts rs) k w 0 inside, get_or-set_same counts k v 0 within))
      | inr other ↦ omega (arith, get_or-set_other (owed counts rs) k j w 0 other, get_or-set_other counts k j v 0 other, owed_at counts rs j all)
    ]

-- a count is zero where what stands there is
pub owed_zero : (counts : List ℕ) (rs : List Ref) (k : ℕ) → IsBacked counts rs → (slice_index (owed counts rs) k == 0) ≡ (slice_index counts k == 0)
owed_zero counts rs k backed = elim (cases_lt 0 (slice_index counts k)) [
  | inl some ↦ neither_zero (slice_index (owed counts rs) k) (slice_index counts k) (omega (arith, owed_at counts rs k backed.within)) some
  | inr none ↦ ap (λ n. n == 0) (omega (arith, owed_at counts rs k backed.within, backed.some k (omega arith)))
]

-- so zeros that are noted are noted where some counts are lent
pub zeros_lent : (a b : Tally) (xs ys : List Ref) (s t : ℕ) → IsBacked a.counts xs → IsBacked b.counts ys → NotesZeros a b →
    NotesZeros (record { counts = owed a.counts xs; noted = a.noted; ticks = s }) (record { counts = owed b.counts ys; noted = b.noted; ticks = t })
zeros_lent a b xs ys s t first second notes slot free =
    ((notes slot free).0, owed_zero a.counts xs slot first ∙ (notes slot free).1 ∙ sym (owed_zero b.counts ys slot second))

-- nothing is lent where the loan is over
pub over_lent : (loan : Loan) → IsOver loan → lent loan ≡ []
over_lent loan over = nothing loan.refs loan.kept over
  where
    nothing : (refs : List Ref) (kept : ℕ) → refs ≡ [] → remove refs kept ≡ []
    nothing refs kept none = ap (λ rs. remove rs kept) none ∙ empty kept
      where
        empty : (k : ℕ) → remove {X = Ref} [] k ≡ []
        empty zero = refl
        empty (suc k) = refl

-- a slot is lent at most as often as the references name it
pub lent-le : (refs : List Ref) (kept slot : ℕ) → naming slot (remove refs kept) ≤ naming slot refs
lent-le [] kept slot = omega (arith, ap (naming slot) (over_lent (record { lender = 0; refs = []; kept = kept }) refl))
lent-le (r ∷ rs) zero slot = omega (arith, naming-cons slot r rs)
lent-le (r ∷ rs) (suc kept) slot = omega (arith, naming-cons slot r rs, naming-cons slot r (remove rs kept), lent-le rs kept slot)

-- the one that isn't lent is what else the references name
pub lent_besides : (refs : List Ref) (kept : ℕ) (r : Ref) (k : ℕ) → kept < length refs → r ≡ get_or refs kept r → naming k (remove refs kept) + once k (slot_of r) ≡ naming k refs
lent_besides refs kept r k within is = omega (arith, sum_by-remove (names k) refs kept r within, ap (λ q. once k (slot_of q)) is)

-- past the end all are lent
pub lent_whole : (refs : List Ref) (kept : ℕ) → length refs ≤ kept → remove refs kept ≡ refs
lent_whole [] zero past = refl
lent_whole [] (suc kept) past = refl
lent_whole (r ∷ rs) zero past = absurd (omega arith)
lent_whole (r ∷ rs) (suc kept) past = ap (λ qs. r ∷ qs) (lent_whole rs kept (omega arith))

pub all_lent : (P : Ref → Type 0) (refs : List Ref) (kept : ℕ) → All P refs → All P (remove refs kept)
all_lent P [] zero all = all
all_lent P [] (suc kept) all = all
all_lent P (r ∷ rs) zero all = All-tail P r rs all
all_lent P (r ∷ rs) (suc kept) all = All-cons P r (remove rs kept) (All-head P r rs all) (all_lent P rs kept (All-tail P r rs all))

pub all_behind : {X : Type 0} (P : X → Type 0) (xs ys : List X) → All P (xs ++ ys) → All P ys
all_behind P [] ys all = all
all_behind P (x ∷ xs) ys all = all_behind P xs ys (All-tail P x (xs ++ ys) all)

-- counts that grew back what is lent
pub backed_grown : (a b : List ℕ) (rs : List Ref) → IsBacked a rs → length b ≡ length a → ((k : ℕ) → slice_index a k ≤ slice_index b k) →
    ((k : ℕ) → slice_index b k + naming k rs < 2 ^ 32) → IsBacked b rs
backed_grown a b rs backed size more small = record {
  within = within_size _ _ rs (sym size) backed.within;
  some = λ k none. backed.some k (omega (arith, more k));
  room = small;
}

-- one that is counted once less, where it isn't the last that is lent
pub backed_lowered : (a b : List ℕ) (rs : List Ref) (at : ℕ) → IsBacked a rs → b ≡ set a at (slice_index a at - 1) → at < length a → 0 < slice_index a at →
    (naming at rs ≡ 0) ⊎ (1 < slice_index a at) → IsBacked b rs
backed_lowered a b rs at backed is within some spare = record {
  within = within_size _ _ rs (sym (ap length is ∙ length-set a at (slice_index a at - 1))) backed.within;
  some = some';
  room = λ k. omega (arith, lowered k, backed.room k);
}
  where
    lowered : (k : ℕ) → slice_index b k + once k at ≡ slice_index a k
    lowered k = ap (λ cs. slice_index cs k + once k at) is ∙ lowered_at a at k within some

    some' : (k : ℕ) → slice_index b k ≡ 0 → naming k rs ≡ 0
    some' k none = elim (cases_eq k at) [
      | inl same ↦ subst (λ i. naming i rs ≡ 0) (sym same) (elim spare [
        | inl unlent ↦ unlent
        | inr more ↦ absurd (omega (arith, subst (λ i. slice_index b i ≡ 0) same none, lowered at, once_same at))
      ])
      | inr other ↦ backed.some k (omega (arith, lowered k, once_other k at other, none))
    ]

-- one that is counted once more has room
pub raised_room : (a b : List ℕ) (rs : List Ref) (at : ℕ) → IsBacked a rs → ((k : ℕ) → slice_index b k ≡ slice_index a k + once k at) →
    slice_index a at + naming at rs + 1 < 2 ^ 32 → (k : ℕ) → slice_index b k + naming k rs < 2 ^ 32
raised_room a b rs at backed raised small k = elim (cases_eq k at) [
  | inl same ↦ subst (λ i. slice_index b i + naming i rs < 2 ^ 32) (sym same) (omega (arith, raised at, once_same at))
  | inr other ↦ omega (arith, raised k, once_other k at other, backed.room k)
]

-- the ledger of these counts, where this is lent
abbrev pub shown : Tally → Loan → Ledger
shown a loan = record { tally = record { counts = owed a.counts (lent loan); noted = a.noted; ticks = a.ticks }; loan = loan }

module _ (a : Tally) (loan : Loan) (now : Ledger) (seen : shown a loan ≡ now) where
  pub size_seen : length now.tally.counts ≡ length a.counts
  size_seen = ap (λ (l : Ledger). length l.tally.counts) (sym seen) ∙ length-owed a.counts (lent loan)

  pub within_seen : (rs : List Ref) → All (λ r. slot_of r < length now.tally.counts) rs → All (λ r. slot_of r < length a.counts) rs
  within_seen rs all = within_size _ _ rs size_seen all

  pub count_seen : IsBacked a.counts (lent loan) → (k : ℕ) → slice_index now.tally.counts k ≡ slice_index a.counts k + naming k (lent loan)
  count_seen backed k = ap (λ (l : Ledger). slice_index l.tally.counts k) (sym seen) ∙ owed_at a.counts (lent loan) k backed.within

  pub zeros_seen : (b : Tally) (later : Loan) (t : ℕ) → IsBacked a.counts (lent loan) → IsBacked b.counts (lent later) → NotesZeros a b →
      NotesZeros now.tally (record { counts = owed b.counts (lent later); noted = b.noted; ticks = t })
  zeros_seen b later t first second notes =
      subst (λ (l : Ledger). NotesZeros l.tally (record { counts = owed b.counts (lent later); noted = b.noted; ticks = t })) seen
      (zeros_lent a b (lent loan) (lent later) a.ticks t first second notes)

  -- where no loan is out the counts are these
  pub plain_seen : IsOver now.loan → a.counts ≡ now.tally.counts
  plain_seen over = sym (ap (owed a.counts) (over_lent loan (ap (λ (l : Ledger). l.loan.refs) seen ∙ over))) ∙ ap (λ (l : Ledger). l.tally.counts) seen

  -- what is counted stands there at least once
  pub some_seen : IsBacked a.counts (lent loan) → (k : ℕ) → 0 < slice_index now.tally.counts k → 0 < slice_index a.counts k
  some_seen backed k some = elim (cases_lt 0 (slice_index a.counts k)) [
    | inl there ↦ there
    | inr none ↦ absurd (omega (arith, some, count_seen backed k, backed.some k (omega arith)))
  ]

  -- counts that stay show the same
  pub counts_same : (b : Tally) (counts : List ℕ) → b.counts ≡ a.counts → counts ≡ owed b.counts (lent loan) → counts ≡ now.tally.counts
  counts_same b counts same are = are ∙ ap (λ cs. owed cs (lent loan)) same ∙ ap (λ (l : Ledger). l.tally.counts) seen

-- where nothing is lent the counts are what stands there
pub backed_none : (counts : List ℕ) → ((k : ℕ) → slice_index counts k < 2 ^ 32) → IsBacked counts []
backed_none counts small = record {
  within = All-nil (λ (r : Ref). slot_of r < length counts);
  some = λ k none. refl;
  room = λ k. omega (arith, small k);
}

-- a loan that stays, call after call
pub keeps_trans : (a b c : Loan) → KeepsLoan a b → KeepsLoan b c → KeepsLoan a c
keeps_trans a b c first (inr over) = inr over
keeps_trans a b c (inl same) (inl again) = inl (again ∙ same)
keeps_trans a b c (inr over) (inl again) = inr (ap (λ (l : Loan). l.refs) again ∙ over)
