-- The pairs of entries that stand at places, where the pairs at a place have its index.
use Rattle.std.proofs.Common.{◌≡◌, ◌≢◌, ℕ, zero, suc, ◌+◌, ◌≤◌, List, [], ◌∷◌, flat_map, Option, Some, None, refl, ap, ◌∙◌, arith}
use Rattle.proof_contents.specs.Vocabulary.{Ref}
use Rattle.proof_contents.specs.Nodes.Branches.{standing, at_place}
use Rattle.proof_contents.proofs.Pairs.Lists.{Pairs, found_in, EachKey, AreApart, each-append, each-weaker, apart-append, found-none, found-append_left, found-append_right}

module _ (f : Ref → Pairs) (index : ℕ → ℕ) where
  -- the pairs at each place have its index, counted from b
  abbrev pub HaveIndex : ℕ → List (Option Ref) → Type 0
  HaveIndex b places = (x : ℕ) (entry : Ref) → at_place places x ≡ Some entry → EachKey (λ k. index k ≡ b + x) (f entry)

  rest : (b : ℕ) (p : Option Ref) (places : List (Option Ref)) → HaveIndex b (p ∷ places) → HaveIndex (suc b) places
  rest b p places h x entry at = each-weaker (λ k. index k ≡ b + suc x) (λ k. index k ≡ suc b + x) (λ k e. omega (arith, e)) (f entry) (h (suc x) entry at)

  above : (b : ℕ) (places : List (Option Ref)) → HaveIndex b places → EachKey (λ k. b ≤ index k) (flat_map f (standing places))
  above b [] h = tt
  above b (None ∷ places) h = each-weaker (λ k. suc b ≤ index k) (λ k. b ≤ index k) (λ k le. omega arith) (flat_map f (standing places)) (above (suc b) places (rest b None places h))
  above b (Some entry ∷ places) h =
      each-append (λ k. b ≤ index k) (f entry) (flat_map f (standing places)) (each-weaker (λ k. index k ≡ b + 0) (λ k. b ≤ index k) (λ k e. omega (arith, e)) (f entry) (h 0 entry refl))
      (each-weaker (λ k. suc b ≤ index k) (λ k. b ≤ index k) (λ k le. omega arith) (flat_map f (standing places)) (above (suc b) places (rest b (Some entry) places h)))

  abbrev pub found_at : ℕ → Option Ref → Option ℕ
  found_at q None = None
  found_at q (Some entry) = found_in q (f entry)

  -- a key is found among the pairs at its index
  pub spread-found : (b q x : ℕ) (places : List (Option Ref)) → HaveIndex b places → index q ≡ b + x → found_in q (flat_map f (standing places)) ≡ found_at q (at_place places x)
  spread-found b q x [] h e = refl
  spread-found b q zero (None ∷ places) h e =
      found-none q (flat_map f (standing places))
      (each-weaker (λ k. suc b ≤ index k) (λ k. k ≢ q) (λ k le same. omega (arith, ap index same)) (flat_map f (standing places)) (above (suc b) places (rest b None places h)))
  spread-found b q zero (Some entry ∷ places) h e =
      found-append_left q (f entry) (flat_map f (standing places))
      (each-weaker (λ k. suc b ≤ index k) (λ k. k ≢ q) (λ k le same. omega (arith, ap index same)) (flat_map f (standing places)) (above (suc b) places (rest b (Some entry) places h)))
  spread-found b q (suc x) (None ∷ places) h e = spread-found (suc b) q x places (rest b None places h) (omega arith)
  spread-found b q (suc x) (Some entry ∷ places) h e =
      found-append_right q (f entry) (flat_map f (standing places))
      (each-weaker (λ k. index k ≡ b + 0) (λ k. k ≢ q) (λ k at same. omega (arith, at, ap index same)) (f entry) (h 0 entry refl))
      ∙ spread-found (suc b) q x places (rest b (Some entry) places h) (omega arith)

  -- no key stands twice
  pub spread-apart : (b : ℕ) (places : List (Option Ref)) → HaveIndex b places → ((x : ℕ) (entry : Ref) → at_place places x ≡ Some entry → AreApart (f entry)) →
      AreApart (flat_map f (standing places))
  spread-apart b [] h a = tt
  spread-apart b (None ∷ places) h a = spread-apart (suc b) places (rest b None places h) (λ x. a (suc x))
  spread-apart b (Some entry ∷ places) h a =
      apart-append (f entry) (flat_map f (standing places)) (a 0 entry refl) (spread-apart (suc b) places (rest b (Some entry) places h) (λ x. a (suc x)))
      (each-weaker (λ k. index k ≡ b + 0) (λ k. EachKey (λ l. l ≢ k) (flat_map f (standing places)))
      (λ k at. each-weaker (λ l. suc b ≤ index l) (λ l. l ≢ k) (λ l le same. omega (arith, at, ap index same)) (flat_map f (standing places)) (above (suc b) places (rest b (Some entry) places h)))
      (f entry) (h 0 entry refl))

  -- what holds of each entry's keys
  pub spread-each : (P : ℕ → Type 0) (places : List (Option Ref)) → ((x : ℕ) (entry : Ref) → at_place places x ≡ Some entry → EachKey P (f entry)) →
      EachKey P (flat_map f (standing places))
  spread-each P [] a = tt
  spread-each P (None ∷ places) a = spread-each P places (λ x. a (suc x))
  spread-each P (Some entry ∷ places) a = each-append P (f entry) (flat_map f (standing places)) (a 0 entry refl) (spread-each P places (λ x. a (suc x)))
