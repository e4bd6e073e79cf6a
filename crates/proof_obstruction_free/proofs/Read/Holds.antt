-- Each line that is in a READ holds it; and the line after it is in none.
use Rattle.std.proofs.Common.{◌≡◌, ℕ, List, Option, Some, None, refl, subst, arith}
use Rattle.std.proofs.lemmas.Option.{none-some, same_Some}
use Rattle.proof_obstruction_free.specs.Vocabulary.{Call, Ref, Line, Purpose, Operation, Read, ReadLine, SwapLine, Climb, CompleteLine, Descriptor, RootLine, after_given, read_of, walk_after_read}
use Rattle.proof_obstruction_free.specs.Beneath.machine_model.specs.declared.copying.CopyLine.TheVariants as copy
use Rattle.proof_obstruction_free.specs.Beneath.machine_model.specs.declared.finding.KeyLine.TheVariants as key
use Rattle.proof_obstruction_free.specs.Beneath.machine_model.specs.declared.lines.Line.TheVariants as line
use Rattle.proof_obstruction_free.specs.Beneath.machine_model.specs.declared.reading.SwapLine.TheVariants as swap
use Rattle.proof_obstruction_free.specs.Beneath.machine_model.specs.declared.repairs.CleanLine.TheVariants as clean
use Rattle.proof_obstruction_free.specs.Beneath.machine_model.specs.declared.repairs.ClimbLine.TheVariants as climb
use Rattle.proof_obstruction_free.specs.Beneath.machine_model.specs.declared.repairs.RenewLine.TheVariants as renew
use Rattle.proof_obstruction_free.specs.Beneath.machine_model.specs.declared.roots.CompleteLine.TheVariants as complete
use Rattle.proof_obstruction_free.specs.Beneath.machine_model.specs.declared.roots.RootLine.TheVariants as root
use Rattle.proof_obstruction_free.specs.Beneath.machine_model.specs.declared.walking.WalkLine.TheVariants as walk
use Rattle.proof_obstruction_free.specs.Alone.{Lone}
use Rattle.proof_obstruction_free.specs.Machines.{HoldsRead}
use Rattle.proof_obstruction_free.proofs.Read.Embedded.{holds_read}
use Rattle.proof_obstruction_free.proofs.Clean.First.{current_read, current_main, current_reads}
use Rattle.proof_obstruction_free.proofs.Clean.Lines.{child_read, child_tomb, child_reads}
use Rattle.proof_obstruction_free.proofs.Climb.Lines.{climb_read, climb_gives, climb_holds_read}
use Rattle.proof_obstruction_free.proofs.Copy.Lines.{copy_reads, complete_reads}
use Rattle.proof_obstruction_free.proofs.Pass.Lines.{key_read_of, key_gives, key_holds_read_of}
use Rattle.proof_obstruction_free.proofs.Renew.Lines.{entry_read, entry_link, entry_reads}
use Rattle.proof_obstruction_free.proofs.Root.Ends.{first_holds, climb_holds}
use Rattle.proof_obstruction_free.proofs.Root.Lines.{root_reads}
use Rattle.proof_obstruction_free.proofs.Swap.Lines.{deciding, checking, swap_reads}

-- ---- a walk's READ

abbrev walk_read : List Ref → List (ℕ × ℕ) → Ref → ReadLine → Line
walk_read todo pairs i l = line.Walk (walk.Read (record { indirection = i; line = l }) todo pairs)

abbrev walk_main : List Ref → List (ℕ × ℕ) → Ref → Line
walk_main todo pairs m = line.Walk (walk.Main m todo pairs)

walk_reads : (own : Operation) (todo : List Ref) (pairs : List (ℕ × ℕ)) (i : Ref) → HoldsRead own (walk_read todo pairs i) (walk_main todo pairs) i
walk_reads own todo pairs i =
    holds_read own (λ r. line.Walk (walk.Read r todo pairs)) (walk_main todo pairs) (walk_after_read todo pairs) i
    (λ r. refl) (λ state operation r. refl) (λ state operation r. refl) (λ r. refl) (λ m. refl) (λ state operation r. refl)

-- what a copy does with its root's main node reads nothing
given_reads_none : (call : Call) (r m : Ref) → read_of (after_given call r m) ≡ None
given_reads_none call r m = grind arith

-- ---- each line

module _ (a : Lone) where
  pub record Holding (l : Line) (r : Read) : Type 0 where
    pub wrap : ReadLine → Line
    pub gives : Ref → Line
    pub holds : HoldsRead a.own wrap gives r.indirection
    pub is : l ≡ wrap r.line
    pub over : (m : Ref) → read_of (gives m) ≡ None

  abbrev Held : Line → Option Read → Type 0
  Held l o = (r : Read) → o ≡ Some r → Holding l r

  held : (l : Line) (own : Read) → Holding l own → Held l (Some own)
  held l own h r e = subst (Holding l) (same_Some own r e) h

  held_complete : (l : Line) (offer : Descriptor) (own : ReadLine) → Holding l (record { indirection = offer.root; line = own }) → Held l (Some (record { indirection = offer.root; line = own }))
  held_complete l offer own h = held l (record { indirection = offer.root; line = own }) h

  root_holding : (l : RootLine) → Held (line.Root l) (read_of (line.Root l))
  root_holding root.Read = λ r e. absurd (none-some r e)
  root_holding (root.Completing c) = by c.offer c.line
    where
      by : (offer : Descriptor) (l : CompleteLine) → Held (line.Root (root.Completing (record { offer = offer; line = l })))
          (read_of (line.Root (root.Completing (record { offer = offer; line = l }))))
      by offer (complete.Swap m) = λ r e. absurd (none-some r e)
      by offer (complete.Reading own) = held_complete _ offer own (record {
        wrap = λ x. line.Root (root.Completing (record { offer = offer; line = complete.Reading x }));
        gives = λ m. line.Root (root.Completing (record { offer = offer; line = complete.Swap m }));
        holds = root_reads a.own _ _ (first_holds a.own) offer;
        is = refl;
        over = λ m. refl;
      })

  climb_root_holding : (x : Climb) (l : RootLine) → Held (line.Climb (climb.Root x l)) (read_of (line.Climb (climb.Root x l)))
  climb_root_holding x root.Read = λ r e. absurd (none-some r e)
  climb_root_holding x (root.Completing c) = by c.offer c.line
    where
      by : (offer : Descriptor) (l : CompleteLine) →
          Held (line.Climb (climb.Root x (root.Completing (record { offer = offer; line = l })))) (read_of (line.Climb (climb.Root x (root.Completing (record { offer = offer; line = l })))))
      by offer (complete.Swap m) = λ r e. absurd (none-some r e)
      by offer (complete.Reading own) = held_complete _ offer own (record {
        wrap = λ y. line.Climb (climb.Root x (root.Completing (record { offer = offer; line = complete.Reading y })));
        gives = λ m. line.Climb (climb.Root x (root.Completing (record { offer = offer; line = complete.Swap m })));
        holds = root_reads a.own _ _ (climb_holds a.own x) offer;
        is = refl;
        over = λ m. refl;
      })

  copy_holding : (offer : Descriptor) (l : CompleteLine) → Held (line.Copy (copy.Complete (record { offer = offer; line = l })))
      (read_of (line.Copy (copy.Complete (record { offer = offer; line = l }))))
  copy_holding offer (complete.Swap m) = λ r e. absurd (none-some r e)
  copy_holding offer (complete.Reading own) = held_complete _ offer own (record {
    wrap = λ x. line.Copy (copy.Complete (record { offer = offer; line = complete.Reading x }));
    gives = λ m. line.Copy (copy.Complete (record { offer = offer; line = complete.Swap m }));
    holds = complete_reads a.own offer;
    is = refl;
    over = λ m. refl;
  })

  swap_holding : (why : Purpose) (i replaced fresh : Ref) (l : SwapLine) →
      Held (line.Swap why (record { indirection = i; replaced = replaced; fresh = fresh; line = l }))
      (read_of (line.Swap why (record { indirection = i; replaced = replaced; fresh = fresh; line = l })))
  swap_holding why i replaced fresh swap.Publish = λ r e. absurd (none-some r e)
  swap_holding why i replaced fresh swap.Check = λ r e. absurd (none-some r e)
  swap_holding why i replaced fresh (swap.Deciding own) = held _ (record { indirection = i; line = own }) (record {
    wrap = deciding a why i replaced fresh;
    gives = checking a why i replaced fresh;
    holds = swap_reads a why i replaced fresh;
    is = refl;
    over = λ m. refl;
  })

  pub holding : (l : Line) → Held l (read_of l)
  holding (line.Root l) = root_holding l
  holding (line.Climb (climb.Root x l)) = climb_root_holding x l
  holding (line.Copy (copy.Complete c)) = copy_holding c.offer c.line
  holding (line.Swap why s) = swap_holding why s.indirection s.replaced s.fresh s.line
  holding (line.Key (key.Read path own)) =
      held _ own (record { wrap = key_read_of path own.indirection; gives = key_gives path; holds = key_holds_read_of a.own path own.indirection; is = refl; over = λ m. refl })
  holding (line.Renew (renew.Read path main done own)) = held _ own (record {
    wrap = entry_read path main done own.indirection;
    gives = entry_link path main done;
    holds = entry_reads a.own path main done own.indirection;
    is = refl;
    over = λ m. refl;
  })
  holding (line.Clean (clean.Read path own)) =
      held _ own (record { wrap = current_read path own.indirection; gives = current_main path; holds = current_reads a.own path own.indirection; is = refl; over = λ m. refl })
  holding (line.Clean (clean.Child path main done own)) = held _ own (record {
    wrap = child_read path main done own.indirection;
    gives = child_tomb path main done;
    holds = child_reads a.own path main done own.indirection;
    is = refl;
    over = λ m. refl;
  })
  holding (line.Climb (climb.Read x own)) =
      held _ own (record { wrap = climb_read x own.indirection; gives = climb_gives x; holds = climb_holds_read a.own x own.indirection; is = refl; over = λ m. refl })
  holding (line.Copy (copy.Read r own)) = held _ own (record {
    wrap = λ l. line.Copy (copy.Read r (record { indirection = own.indirection; line = l }));
    gives = λ m. after_given a.own.call r m;
    holds = copy_reads a.own r own.indirection;
    is = refl;
    over = λ m. given_reads_none a.own.call r m;
  })
  holding (line.Walk (walk.Read own todo pairs)) = held _ own (record {
    wrap = walk_read todo pairs own.indirection;
    gives = walk_main todo pairs;
    holds = walk_reads a.own todo pairs own.indirection;
    is = refl;
    over = λ m. refl;
  })
  holding l = λ r e. absurd (none-some r e)
