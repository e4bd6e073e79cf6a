-- A branch with other entries in the same places.
use Rattle.std.proofs.Common.{◌≡◌, ℕ, zero, suc, true, false, List, [], ◌∷◌, map, length, take, get_or, Option, Some, None, is_some, refl, sym, ap, ◌∙◌, arith, take_all}
use Rattle.proof_contents.specs.Vocabulary.{Ref}
use lib.Lanes.{mask_l}
use Rattle.proof_contents.specs.Nodes.Branches.{standing, HasPlaces, at_place}
use Rattle.proof_contents.proofs.Nodes.Branches.{before, standing-le}

-- the same places, with these entries in order
abbrev pub refilled : List (Option Ref) → List Ref → List (Option Ref)
refilled [] entries = []
refilled (None ∷ places) entries = None ∷ refilled places entries
refilled (Some q ∷ places) [] = None ∷ refilled places []
refilled (Some q ∷ places) (entry ∷ entries) = Some entry ∷ refilled places entries

refilled-bits : (places : List (Option Ref)) (entries : List Ref) → length entries ≡ length (standing places) → map (is_some {T = Ref}) (refilled places entries) ≡ map is_some places
refilled-bits [] entries e = refl
refilled-bits (None ∷ places) entries e = ap (λ bs. false ∷ bs) (refilled-bits places entries e)
refilled-bits (Some q ∷ places) [] e = absurd (omega arith)
refilled-bits (Some q ∷ places) (entry ∷ entries) e = ap (λ bs. true ∷ bs) (refilled-bits places entries (omega arith))

refilled-stand : (places : List (Option Ref)) (entries : List Ref) → length entries ≡ length (standing places) → entries ≡ standing (refilled places entries)
refilled-stand [] [] e = refl
refilled-stand [] (entry ∷ entries) e = absurd (omega arith)
refilled-stand (None ∷ places) entries e = refilled-stand places entries e
refilled-stand (Some q ∷ places) [] e = absurd (omega arith)
refilled-stand (Some q ∷ places) (entry ∷ entries) e = ap (λ es. entry ∷ es) (refilled-stand places entries (omega arith))

refilled-length : (places : List (Option Ref)) (entries : List Ref) → length (refilled places entries) ≡ length places
refilled-length [] entries = refl
refilled-length (None ∷ places) entries = ap suc (refilled-length places entries)
refilled-length (Some q ∷ places) [] = ap suc (refilled-length places [])
refilled-length (Some q ∷ places) (entry ∷ entries) = ap suc (refilled-length places entries)

pub refilled-places : (bitmap : ℕ) (entries others : List Ref) (places : List (Option Ref)) → HasPlaces bitmap entries places → length others ≡ length entries →
    HasPlaces bitmap (take 32 others) (refilled places others)
refilled-places bitmap entries others places h e =
    let count : length others ≡ length (standing places) = e ∙ ap length h.stand in
    record {
      size = refilled-length places others ∙ h.size;
      bits = h.bits ∙ ap mask_l (sym (refilled-bits places others count));
      stand = take_all 32 others (omega (arith, standing-le places, h.size, count)) ∙ refilled-stand places others count;
    }

-- where nothing stood nothing stands
pub refilled-none : (places : List (Option Ref)) (entries : List Ref) (x : ℕ) → at_place places x ≡ None → at_place (refilled places entries) x ≡ None
refilled-none [] entries x e = refl
refilled-none (None ∷ places) entries zero e = refl
refilled-none (Some q ∷ places) entries zero e = absurd (let bad : Some q ≡ None = e in cc)
refilled-none (None ∷ places) entries (suc x) e = refilled-none places entries x e
refilled-none (Some q ∷ places) [] (suc x) e = refilled-none places [] x e
refilled-none (Some q ∷ places) (entry ∷ entries) (suc x) e = refilled-none places entries x e

-- where an entry stood the one of the same position stands
pub refilled-some : (places : List (Option Ref)) (entries : List Ref) (x : ℕ) (q d : Ref) → length entries ≡ length (standing places) → at_place places x ≡ Some q →
    at_place (refilled places entries) x ≡ Some (get_or entries (before places x) d)
refilled-some [] entries x q d c e = absurd (let bad : None ≡ Some q = e in cc)
refilled-some (None ∷ places) entries zero q d c e = absurd (let bad : None ≡ Some q = e in cc)
refilled-some (Some p ∷ places) [] x q d c e = absurd (omega arith)
refilled-some (Some p ∷ places) (entry ∷ entries) zero q d c e = refl
refilled-some (None ∷ places) entries (suc x) q d c e = refilled-some places entries x q d c e
refilled-some (Some p ∷ places) (entry ∷ entries) (suc x) q d c e = refilled-some places entries x q d (omega arith) e
