-- What a call does with a key is the same in the map of its shard and in that of all shards.
use Rattle.std.proofs.Common.{◌≡◌, ◌≢◌, ℕ, Bool, true, false, cond, not, ◌&&◌, ◌==◌, Some, None, is_some, nat_eq, if◌then◌else◌}
use Rattle.std.proofs.Common.{nat_cmp, refl, sym, ap, ap₂, ◌∙◌, ne_eqb}
use Rattle.std.specs.Cmp.{nat_cmp_total, unsigned_tied}
use Rattle.std.specs.Option.{option_eq}
use Rattle.std.specs.Ordering.{eq_by_cmp}
use Rattle.std.specs.FinMap as map
use Rattle.shared_map.specs.Vocabulary.{Reply, has_value, is_crowded, put_if_absent_in, remove_if_in, remove_in, replace_if_in, replace_in, KeyMap}
use Rattle.history.specs.declared.replies.Reply.TheVariants as reply
use Rattle.history.specs.Effects.{put_in}
use Rattle.std.proofs.lemmas.Bool.{true≢false}
use Rattle.shared_map.proofs.Finding.{same_others}

-- Keys with one place, where `here` is this key's. The map of all has there what that of the shard has.
module _ (hash place : ℕ → ℕ) (placed : (q k : ℕ) → hash q ≡ hash k → place q ≡ place k) (here k : ℕ) (at : place k ≡ here)
    (all own : KeyMap) (alike : (q : ℕ) → place q ≡ here → map.get all q ≡ map.get own q) where
  -- the two maps have become these
  pub record Follows (next mine : KeyMap) : Type 0 where
    pub same : (q : ℕ) → place q ≡ here → map.get next q ≡ map.get mine q
    pub others_stay : (q : ℕ) → place q ≢ here → map.get next q ≡ map.get all q
    pub own_stay : (q : ℕ) → place q ≢ here → map.get mine q ≡ map.get own q

  pub record Acts (one mine : Reply × KeyMap) : Type 0 where
    pub told : one.0 ≡ mine.0
    pub follows : Follows one.1 mine.1

  stay : Follows all own
  stay = record { same = alike; others_stay = λ q apart. refl; own_stay = λ q apart. refl }

  untied : (q : ℕ) → place q ≢ here → eq_by_cmp nat_cmp q k ≡ false
  untied q apart = unsigned_tied q k ∙ ne_eqb q k (λ same. apart (ap place same ∙ at))

  set_at : (m : KeyMap) (v q : ℕ) → place q ≢ here → map.get (map.insert m k v) q ≡ map.get m q
  set_at m v q apart = map.get-insert nat_cmp_total m k v q ∙ ap (λ b. cond b (Some v) (map.get m q)) (untied q apart)

  gone_at : (m : KeyMap) (q : ℕ) → place q ≢ here → map.get (map.remove m k) q ≡ map.get m q
  gone_at m q apart = map.get-remove nat_cmp_total m k q ∙ ap (λ b. cond b None (map.get m q)) (untied q apart)

  set : (v : ℕ) → Follows (map.insert all k v) (map.insert own k v)
  set v = record {
    same = λ q is.
        map.get-insert nat_cmp_total all k v q ∙ ap (λ o. cond (eq_by_cmp nat_cmp q k) (Some v) o) (alike q is) ∙ sym (map.get-insert nat_cmp_total own k v q);
    others_stay = set_at all v;
    own_stay = set_at own v;
  }

  gone : Follows (map.remove all k) (map.remove own k)
  gone = record {
    same = λ q is.
        map.get-remove nat_cmp_total all k q ∙ ap (λ o. cond (eq_by_cmp nat_cmp q k) None o) (alike q is) ∙ sym (map.get-remove nat_cmp_total own k q);
    others_stay = gone_at all;
    own_stay = gone_at own;
  }

  -- ---- the same choice

  picked : (a b : Bool) → a ≡ b → (x y u v : KeyMap) → Follows x u → Follows y v → Follows (if a then x else y) (if b then u else v)
  picked true true e x y u v p q = p
  picked true false e x y u v p q = absurd (true≢false e)
  picked false true e x y u v p q = absurd (true≢false (sym e))
  picked false false e x y u v p q = q

  chosen : (a b : Bool) → a ≡ b → (x y u v : Reply × KeyMap) → Acts x u → Acts y v → Acts (if a then x else y) (if b then u else v)
  chosen true true e x y u v p q = p
  chosen true false e x y u v p q = absurd (true≢false e)
  chosen false true e x y u v p q = absurd (true≢false (sym e))
  chosen false false e x y u v p q = q

  -- ---- the calls

  found_same : map.get all k ≡ map.get own k
  found_same = alike k at

  there_same : map.contains_key all k ≡ map.contains_key own k
  there_same = ap is_some found_same

  has_same : (v : ℕ) → has_value all k v ≡ has_value own k v
  has_same v = ap (λ o. option_eq nat_eq o (Some v)) found_same

  crowded_same : is_crowded hash all k ≡ is_crowded hash own k
  crowded_same =
      ap₂ (λ b n. not b && (n == 32)) there_same (same_others hash all own k (λ q e. alike q (placed q k e ∙ at)))

  replies_found : reply.Found (map.get all k) ≡ reply.Found (map.get own k)
  replies_found = ap reply.Found found_same

  pub puts : (v : ℕ) → Acts (put_in hash all k v) (put_in hash own k v)
  puts v =
      chosen (is_crowded hash all k) (is_crowded hash own k) crowded_same (reply.Crowded, all) (reply.Found (map.get all k), map.insert all k v)
      (reply.Crowded, own) (reply.Found (map.get own k), map.insert own k v) (record { told = refl; follows = stay }) (record { told = replies_found; follows = set v })

  pub puts_if_absent : (v : ℕ) → Acts (put_if_absent_in hash all k v) (put_if_absent_in hash own k v)
  puts_if_absent v =
      chosen (map.contains_key all k) (map.contains_key own k) there_same (reply.Found (map.get all k), all) (put_in hash all k v)
      (reply.Found (map.get own k), own) (put_in hash own k v) (record { told = replies_found; follows = stay }) (puts v)

  pub replaces : (v : ℕ) → Acts (replace_in all k v) (replace_in own k v)
  replaces v = record {
    told = replies_found;
    follows = picked (map.contains_key all k) (map.contains_key own k) there_same (map.insert all k v) all (map.insert own k v) own (set v) stay;
  }

  pub replaces_if : (a b : ℕ) → Acts (replace_if_in all k a b) (replace_if_in own k a b)
  replaces_if a b = record {
    told = ap reply.Truth (has_same a);
    follows = picked (has_value all k a) (has_value own k a) (has_same a) (map.insert all k b) all (map.insert own k b) own (set b) stay;
  }

  pub removes : Acts (remove_in all k) (remove_in own k)
  removes = record { told = replies_found; follows = gone }

  pub removes_if : (v : ℕ) → Acts (remove_if_in all k v) (remove_if_in own k v)
  removes_if v = record {
    told = ap reply.Truth (has_same v);
    follows = picked (has_value all k v) (has_value own k v) (has_same v) (map.remove all k) all (map.remove own k) own gone stay;
  }
