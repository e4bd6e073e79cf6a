-- The path to a child parts into that to its parent and its index.
use Rattle.std.proofs.Common.{◌≡◌, ℕ, ◌+◌, ◌*◌, ◌%◌, ◌^◌, ◌<◌, sym, ap, ◌∙◌, arith, pow_pos, mod-lt, add_comm}
use Rattle.std.proofs.lemmas.Nat.{mod-pow-add, mod-mul-add}
use Rattle.proof_contents.specs.Vocabulary.{hash_of, Ref, index_in}
use Rattle.proof_contents.specs.Tries.{Trie, IsChild}
use Rattle.proof_contents.proofs.Changes.Repairs.{same_factor}

module _ (trie : Trie) (fits : (i : Ref) → trie.path i < 2 ^ (5 * trie.depth i)) where
  -- the path to a child parts into that to its parent and its index
  pub parted : (i child : Ref) (x k : ℕ) → IsChild trie i x child → hash_of trie.kind k % 2 ^ (5 * trie.depth child) ≡ trie.path child →
      (index_in (hash_of trie.kind k) (trie.depth i) ≡ x) × (hash_of trie.kind k % 2 ^ (5 * trie.depth i) ≡ trie.path i)
  parted i child x k c led = (same_factor (index_in h (trie.depth i)) x P pos (omega (arith, whole, low)), low)
    where
      h : ℕ
      h = hash_of trie.kind k

      P : ℕ
      P = 2 ^ (5 * trie.depth i)

      pos : 0 < P
      pos = pow_pos (5 * trie.depth i)

      five : 5 * trie.depth child ≡ 5 + 5 * trie.depth i
      five = omega (arith, c.deeper)

      whole : index_in h (trie.depth i) * P + h % P ≡ x * P + trie.path i
      whole = sym (mod-pow-add h 5 (5 * trie.depth i)) ∙ ap (λ n. h % 2 ^ n) (sym five) ∙ led ∙ c.led ∙ add_comm (trie.path i) (x * P)

      low : h % P ≡ trie.path i
      low = sym (mod-mul-add (index_in h (trie.depth i)) P (h % P) (mod-lt h pos)) ∙ ap (λ n. n % P) whole ∙ mod-mul-add x P (trie.path i) (fits i)

  -- a path that leads to a key leads on to it at its index
  pub leads_down : (i child : Ref) (key : ℕ) → hash_of trie.kind key % 2 ^ (5 * trie.depth i) ≡ trie.path i → IsChild trie i (index_in (hash_of trie.kind key) (trie.depth i)) child →
      hash_of trie.kind key % 2 ^ (5 * trie.depth child) ≡ trie.path child
  leads_down i child key led c =
      let h = hash_of trie.kind key in
      let five : 5 * trie.depth child ≡ 5 + 5 * trie.depth i = omega (arith, c.deeper) in
      ap (λ n. h % 2 ^ n) five ∙ mod-pow-add h 5 (5 * trie.depth i) ∙ add_comm (index_in h (trie.depth i) * 2 ^ (5 * trie.depth i)) (h % 2 ^ (5 * trie.depth i))
      ∙ ap (λ p. p + index_in h (trie.depth i) * 2 ^ (5 * trie.depth i)) led ∙ sym c.led
