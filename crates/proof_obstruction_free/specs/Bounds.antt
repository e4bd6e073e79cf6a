-- How many steps a call on one key takes at most, on a writable handle, where its actor alone takes steps; a READ costs c.
use Rattle.std.specs.Prelude.{ℕ, zero, suc, ◌+◌, ◌*◌}

-- ---- a fresh pass

-- from the main node where the key's path ends, if it is no tomb
abbrev pub bottom_most : ℕ → ℕ
bottom_most c = 14 * (c + 12) + 80

-- Cleaning tombs that stand alone in their branches, one above the other: each CLEAN of one entry makes the path one shorter, and the next pass goes along it.
unfoldable pub cleaning_most : ℕ → ℕ → ℕ
cleaning_most c zero = 0
cleaning_most c (suc n) = cleaning_most c n + (c + 10 + (n + 2) * (c + 2))

-- from where the path ends, with so many levels above; at most one CLEAN is of more entries than one
abbrev pub tombs_most : ℕ → ℕ → ℕ
tombs_most c n = cleaning_most c n + 31 * (c + 2) + bottom_most c

-- from where ROOT gave the root
abbrev pub rooted_most : ℕ → ℕ
rooted_most c = 14 * (34 * (c + 2) + 10) + tombs_most c 13

-- from a new try
abbrev pub fresh_most : ℕ → ℕ
fresh_most c = c + 3 + rooted_most c

-- ---- a pass that was under way

-- a level, with its RENEW
abbrev pub level_most : ℕ → ℕ
level_most c = 34 * (c + 2) + 12

-- from where its path ends to a new try
abbrev pub stale_bottom_most : ℕ → ℕ
stale_bottom_most c = 33 * c + 250
