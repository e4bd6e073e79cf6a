-- What was packed comes back. A header: its three parts stand apart in the word, and each of them comes back.
use Rattle.std.proofs.Common.{◌≡◌, ℕ, ◌+◌, ◌*◌, ◌/◌, ◌%◌, ◌^◌, ◌<◌, Bool, true, false, refl, ap, arith, ◌∙◌}
use Rattle.std.proofs.lemmas.Grind.{common_steps}
use Rattle.trie_words.specs.declared.names.Name.{Name}
use Rattle.trie_words.specs.declared.entries.Entry.{Entry}
use Rattle.trie_words.specs.declared.entries.Pair.{Pair}
use Rattle.trie_words.specs.declared.links.Link.{Link}
use Rattle.trie_words.specs.declared.headers.Previous.{Previous}
use Rattle.trie_words.specs.declared.headers.Previous.TheVariants as previous
use Rattle.trie_words.specs.declared.headers.Shape.{Shape}
use Rattle.trie_words.specs.declared.headers.Shape.TheVariants.{Branch, Tomb, List as Listed}
use Rattle.trie_words.specs.declared.headers.Header.{Header}
use Rattle.trie_words.specs.Codes.{bit, IsName, name_code, name_of, IsEntry, entry_code, entry_of, IsPrevious, previous_code, previous_of, IsShape, low_code, kind_code, shape_of, IsHeader}
use Rattle.trie_words.specs.Codes.{header_code, header_of, IsLink, link_code, link_of, IsPair, pair_code, pair_of}

bit_small : (b : Bool) → bit b < 2
bit_small true = omega arith
bit_small false = omega arith

pub name_small : (name : Name) → IsName name → name_code name < 2 ^ 28
name_small name h = let b = bit_small name.own in omega (arith, b, h)

entry_small : (entry : Entry) → IsEntry entry → entry_code entry < 2 ^ 32
entry_small entry h = let b = bit_small entry.own in let c = bit_small entry.is_single in omega (arith, b, c, h)

previous_small : (p : Previous) → IsPrevious p → previous_code p < 2 ^ 30
previous_small previous.None h = omega arith
previous_small (previous.Pending name) h = let n = name_small name h in omega (arith, n)
previous_small (previous.Failed name) h = let n = name_small name h in omega (arith, n)

low_small : (s : Shape) → IsShape s → low_code s < 2 ^ 32
low_small (Branch bitmap) h = h
low_small (Tomb entry) h = entry_small entry h
low_small (Listed count) h = h

name_back : (name : Name) (above : ℕ) → IsName name → name_of (name_code name + 2 ^ 28 * above) ≡ name
name_back name above h = grind (arith, common_steps, h)

previous_back : (p : Previous) → IsPrevious p → previous_of (previous_code p) ≡ p
previous_back previous.None h = refl
previous_back (previous.Pending name) h =
    let small = name_small name h in
    let back = name_back name 1 h in
    let tag : ((name_code name + 2 ^ 28) / 2 ^ 28) % 4 ≡ 1 = omega (arith, small) in
    rw tag (ap (λ x. previous.Pending x) back)
previous_back (previous.Failed name) h =
    let small = name_small name h in
    let back = name_back name 2 h in
    let tag : ((name_code name + 2 ^ 29) / 2 ^ 28) % 4 ≡ 2 = omega (arith, small) in
    rw tag (ap (λ x. previous.Failed x) back)

pub entry_back : (entry : Entry) → IsEntry entry → entry_of (entry_code entry) ≡ entry
entry_back entry h = grind (arith, common_steps, h)

shape_back : (s : Shape) → IsShape s → shape_of (low_code s) (kind_code s) ≡ s
shape_back (Branch bitmap) h = refl
shape_back (Tomb entry) h = ap (λ x. Tomb x) (entry_back entry h)
shape_back (Listed count) h = refl

parts_back : (low middle high : ℕ) → low < 2 ^ 32 → middle < 2 ^ 30 →
    ((low + 2 ^ 32 * middle + 2 ^ 62 * high) % 2 ^ 32 ≡ low) × (((low + 2 ^ 32 * middle + 2 ^ 62 * high) / 2 ^ 32) % 2 ^ 30 ≡ middle) × ((low + 2 ^ 32 * middle + 2 ^ 62 * high) / 2 ^ 62 ≡ high)
parts_back low middle high a b = (omega (arith, a, b), omega (arith, a, b), omega (arith, a, b))

pub header_back : (header : Header) → IsHeader header → header_of (header_code header) ≡ header
header_back header h =
    let parts = parts_back (low_code header.shape) (previous_code header.previous) (kind_code header.shape) (low_small header.shape h.1) (previous_small header.previous h.0) in
    let before : previous_of ((header_code header / 2 ^ 32) % 2 ^ 30) ≡ header.previous = ap previous_of parts.1 ∙ previous_back header.previous h.0 in
    let shape : shape_of (header_code header % 2 ^ 32) (header_code header / 2 ^ 62) ≡ header.shape =
    ap (λ x. shape_of x (header_code header / 2 ^ 62)) parts.0 ∙ ap (λ x. shape_of (low_code header.shape) x) parts.2 ∙ shape_back header.shape h.1 in
    ap (λ x. record { previous = x; shape = shape_of (header_code header % 2 ^ 32) (header_code header / 2 ^ 62) }) before ∙ ap (λ x. record { previous = header.previous; shape = x }) shape

pub link_back : (link : Link) → IsLink link → link_of (link_code link) ≡ link
link_back link h = grind (arith, common_steps, h)

pub pair_back : (pair : Pair) → IsPair pair → pair_of (pair_code pair) ≡ pair
pair_back pair h = grind (arith, common_steps, h)
