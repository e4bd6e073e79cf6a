-- A handle's word says one thing.
use Rattle.std.proofs.Common.{◌≡◌, ℕ, ◌+◌, ◌*◌, ◌/◌, ◌%◌, ◌^◌, ◌<◌, refl, sym, ap, ◌∙◌, arith}
use Rattle.trie_words.specs.Codes.{root_code, root_of, root_by, IsRootWord}
use Rattle.trie_words.specs.declared.roots.RootWord.{RootWord}
use Rattle.trie_words.specs.declared.roots.RootWord.TheVariants as word

parts : (kind slot seat : ℕ) → slot < 2 ^ 27 → seat < 2 ^ 8 → root_of (slot + 2 ^ 27 * seat + 2 ^ 35 * kind) ≡ root_by kind slot seat
parts kind slot seat low small =
    let n = slot + 2 ^ 27 * seat + 2 ^ 35 * kind in
    let k : n / 2 ^ 35 ≡ kind = omega (arith, low, small) in
    let s : n % 2 ^ 27 ≡ slot = omega (arith, low, small) in
    let t : (n / 2 ^ 27) % 2 ^ 8 ≡ seat = omega (arith, low, small) in
    ap (λ x. root_by x (n % 2 ^ 27) ((n / 2 ^ 27) % 2 ^ 8)) k ∙ ap (λ x. root_by kind x ((n / 2 ^ 27) % 2 ^ 8)) s ∙ ap (λ x. root_by kind slot x) t

back_by : (kind slot seat n : ℕ) (w : RootWord) → slot < 2 ^ 27 → seat < 2 ^ 8 → n ≡ slot + 2 ^ 27 * seat + 2 ^ 35 * kind → root_by kind slot seat ≡ w → root_of n ≡ w
back_by kind slot seat n w low small is says = ap root_of is ∙ parts kind slot seat low small ∙ says

pub root_back : (w : RootWord) → IsRootWord w → root_of (root_code w) ≡ w
root_back word.Closed h = back_by 0 0 0 0 word.Closed (omega arith) (omega arith) (omega arith) refl
root_back (word.Writable slot) h = back_by 1 slot 0 (slot + 2 ^ 35) (word.Writable slot) h (omega arith) (omega arith) refl
root_back (word.ReadOnly slot) h = back_by 2 slot 0 (slot + 2 * 2 ^ 35) (word.ReadOnly slot) h (omega arith) (omega arith) refl
root_back (word.Offered slot) h = back_by 3 slot 0 (slot + 3 * 2 ^ 35) (word.Offered slot) h (omega arith) (omega arith) refl
root_back (word.Opening slot) h = back_by 4 slot 0 (slot + 4 * 2 ^ 35) (word.Opening slot) h (omega arith) (omega arith) refl
root_back word.Reserved h = back_by 5 0 0 (5 * 2 ^ 35) word.Reserved (omega arith) (omega arith) (omega arith) refl
root_back (word.ClosingWritable slot seat) h = back_by 6 slot seat (slot + 2 ^ 27 * seat + 6 * 2 ^ 35) (word.ClosingWritable slot seat) h.0 h.1 (omega arith) refl
root_back (word.ClosingReadOnly slot seat) h = back_by 7 slot seat (slot + 2 ^ 27 * seat + 7 * 2 ^ 35) (word.ClosingReadOnly slot seat) h.0 h.1 (omega arith) refl

pub same_word : (v w : RootWord) → IsRootWord v → IsRootWord w → root_code v ≡ root_code w → v ≡ w
same_word v w fv fw e = sym (root_back v fv) ∙ ap root_of e ∙ root_back w fw

abbrev pub kind : RootWord → ℕ
kind word.Closed = 0
kind (word.Writable slot) = 1
kind (word.ReadOnly slot) = 2
kind (word.Offered slot) = 3
kind (word.Opening slot) = 4
kind word.Reserved = 5
kind (word.ClosingWritable slot seat) = 6
kind (word.ClosingReadOnly slot seat) = 7

pub same_kind : (v w : RootWord) → IsRootWord v → IsRootWord w → root_code v ≡ root_code w → kind v ≡ kind w
same_kind v w fv fw e = ap kind (same_word v w fv fw e)

-- the slot of the offer that it names
abbrev pub slot_in : RootWord → ℕ
slot_in (word.Offered slot) = slot
slot_in (word.Opening slot) = slot
slot_in w = 0
