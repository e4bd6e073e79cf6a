-- Lists of entries, and of the nodes to which they lead, as a repair goes over them.
use Rattle.std.proofs.Common.{◌≡◌, ◌<◌, ◌==◌, ◌&&◌, ◌||◌, ◌++◌, ℕ, suc, zero, Bool, true, false, not, List, [], ◌∷◌, length, get_or, nat_eq, refl, sym, ap, ap₂, ◌∙◌, arith}
use Rattle.std.specs.Cmp.Lexicographic.{pointwise}
use Rattle.std.proofs.lemmas.List.{map-append, length-map}
use Rattle.trie_words.specs.declared.entries.Entry.{Entry}
use Rattle.machine_model.specs.Beneath.slot_arena.specs.declared.refs.Ref.{Ref}
use Rattle.lock_free.specs.declared.rules.View.{View}
use Rattle.lock_free.specs.SeenEntries.{AreEntriesTo, entry_to, unowned}

-- ---- entries

pub as_many : (v : View) (entries : List Entry) (refs : List Ref) → AreEntriesTo v entries refs → length entries ≡ length refs
as_many v entries refs h = sym (length-map entries unowned) ∙ ap length h ∙ length-map refs (entry_to v)

pub one_more : (v : View) (entries : List Entry) (refs : List Ref) (e : Entry) (r : Ref) → AreEntriesTo v entries refs → unowned e ≡ entry_to v r → AreEntriesTo v (entries ++ e ∷ []) (refs ++ r ∷ [])
one_more v entries refs e r h same =
    map-append unowned entries (e ∷ []) ∙ ap₂ (λ (xs : List Entry) (x : Entry). xs ++ x ∷ []) h same ∙ sym (map-append (entry_to v) refs (r ∷ []))

pub entry_at_place : (v : View) (entries : List Entry) (refs : List Ref) (k : ℕ) (d : Entry) (c : Ref) → k < length refs → AreEntriesTo v entries refs →
    unowned (get_or entries k d) ≡ entry_to v (get_or refs k c)
entry_at_place v [] [] k d c low h = absurd (omega (arith, low))
entry_at_place v [] (r ∷ rs) k d c low h = absurd (omega (arith, (ap length h)))
entry_at_place v (e ∷ es) [] k d c low h = absurd (omega (arith, low))
entry_at_place v (e ∷ es) (r ∷ rs) zero d c low h = ap (first (entry_to v r)) h
  where
    first : Entry → List Entry → Entry
    first x [] = x
    first x (y ∷ ys) = y
entry_at_place v (e ∷ es) (r ∷ rs) (suc k) d c low h = entry_at_place v es rs k d c (omega (arith, low)) (ap rest h)
  where
    rest : List Entry → List Entry
    rest [] = []
    rest (y ∷ ys) = ys

-- ---- comparing

both_then : (a b c : Bool) → (a && (b && c)) ≡ ((a && b) && c)
both_then true b c = refl
both_then false b c = refl

pub pointwise_more : (xs ys : List Ref) (x y : Ref) → length xs ≡ length ys → pointwise nat_eq (xs ++ x ∷ []) (ys ++ y ∷ []) ≡ (pointwise nat_eq xs ys && (x == y))
pointwise_more [] [] x y e = last (x == y)
  where
    last : (b : Bool) → (b && true) ≡ b
    last true = refl
    last false = refl
pointwise_more [] (y ∷ ys) x z e = absurd (omega (arith, e))
pointwise_more (x ∷ xs) [] z y e = absurd (omega (arith, e))
pointwise_more (x ∷ xs) (y ∷ ys) a b e = ap (λ r. (x == y) && r) (pointwise_more xs ys a b (omega (arith, e))) ∙ both_then (x == y) (pointwise nat_eq xs ys) (a == b)

pub not_both : (a b : Bool) → not (a && b) ≡ (not a || not b)
not_both true b = refl
not_both false b = refl
