use Rattle.std.proofs.Common.{◌≡◌, ℕ, IfSome, sym, ap, ◌∙◌, subst}
use Rattle.machine_core.specs.Vocabulary.{Call, handle_of}
use Rattle.running.specs.Places.{call_for}
use Rattle.running.specs.declared.job.Program.{Program}
use Rattle.running.specs.declared.job.Program.TheVariants.{Key, Copy, Close}
use Rattle.machine_core.specs.Seen.{seen}
use Rattle.machine_core.specs.Straight.{CarriesOutForAny, MayBegin}
use Rattle.machine_core.proofs.straight.at_once.Goals as goal

-- the call is that of its program, on its handle
call_is : (call : Call) (handle : ℕ) (program own : Program) → handle ≡ handle_of call → call_for (handle_of call) program ≡ call → program ≡ own → call_for handle own ≡ call
call_is call handle program own on is same = ap (λ h. call_for h own) on ∙ (ap (call_for (handle_of call)) (sym same) ∙ is)

pub change_at_once-requires-clause-allowed : goal.change_at_once-requires-clause-allowed
change_at_once-requires-clause-allowed c =
    subst (MayBegin (seen c.args.parts.now)) (sym (call_is c.args.call c.handle-handle.result c.program_of.result (Key c.in-Key.asked) c.handle-handle.ensures c.program_of.ensures c.in-Key.is))
    c.requires.allowed

pub returns-in-Key-clause-done : goal.returns-in-Key-clause-done
returns-in-Key-clause-done c =
    subst (λ call. IfSome c.change_at_once.result (λ reply. CarriesOutForAny (seen c.args.parts.now) call reply (seen c.change_at_once.new.parts)))
    (call_is c.args.call c.handle-handle.result c.program_of.result (Key c.in-Key.asked) c.handle-handle.ensures c.program_of.ensures c.in-Key.is)
    c.change_at_once.ensures.done

pub copy_at_once-requires-clause-allowed : goal.copy_at_once-requires-clause-allowed
copy_at_once-requires-clause-allowed c =
    subst (MayBegin (seen c.args.parts.now)) (sym (call_is c.args.call c.handle-handle.result c.program_of.result (Copy c.in-Copy.copy) c.handle-handle.ensures c.program_of.ensures c.in-Copy.is))
    c.requires.allowed

pub returns-in-Copy-clause-done : goal.returns-in-Copy-clause-done
returns-in-Copy-clause-done c =
    subst (λ call. IfSome c.copy_at_once.result (λ reply. CarriesOutForAny (seen c.args.parts.now) call reply (seen c.copy_at_once.new.parts)))
    (call_is c.args.call c.handle-handle.result c.program_of.result (Copy c.in-Copy.copy) c.handle-handle.ensures c.program_of.ensures c.in-Copy.is)
    c.copy_at_once.ensures.done

pub close_at_once-requires-clause-allowed : goal.close_at_once-requires-clause-allowed
close_at_once-requires-clause-allowed c =
    subst (MayBegin (seen c.args.parts.now)) (sym (call_is c.args.call c.handle-handle.result c.program_of.result (Close) c.handle-handle.ensures c.program_of.ensures c.in-Close.is))
    c.requires.allowed

pub returns-in-Close-clause-done : goal.returns-in-Close-clause-done
returns-in-Close-clause-done c =
    subst (λ call. IfSome c.close_at_once.result (λ reply. CarriesOutForAny (seen c.args.parts.now) call reply (seen c.close_at_once.new.parts)))
    (call_is c.args.call c.handle-handle.result c.program_of.result (Close) c.handle-handle.ensures c.program_of.ensures c.in-Close.is)
    c.close_at_once.ensures.done
