-- The words of a command are read again.
use Rattle.std.proofs.Common.{◌≡◌, ℕ, refl, ap, Ok, Some, None, arith}
use Rattle.std.specs.Fmt.{decimal}
use Rattle.ctrie_base.specs.declared.kinds.Kind.{Kind}
use Rattle.ctrie_base.specs.declared.kinds.Kind.TheVariants as kind
use Rattle.ctrie_base.specs.Kinds as kinds
use Rattle.history.specs.declared.calls.Call.{Call}
use Rattle.history.specs.declared.calls.Call.TheVariants as call
use Rattle.text_lines.specs.Words.{made}
use Rattle.text_lines.proofs.Again.{both_again, range_again}
use Rattle.history_text.specs.declared.names.CallName.TheVariants as name
use Rattle.history_text.specs.Names.{call_named}
use Rattle.history_text.specs.Texts.{call_words}
use Rattle.history_text.specs.Words.{actor_word}
use Rattle.history_text.specs.Grammar.{CallFits}
use Rattle.history_text.proofs.Again.{handle_again, actor_again}
use Rattle.history_text.proofs.AgainCalls.{call_again}
use Rattle.script_text.specs.declared.commands.Command.{Command}
use Rattle.script_text.specs.declared.commands.Command.TheVariants.{Begin, Go, Until, Finish, Do, Sweep}
use Rattle.script_text.specs.Names.{command_named, kind_named}
use Rattle.script_text.specs.Commands.{opening, opening_call, script_call, times_word, kind_word, begin_of, do_of, go_of, until_of, finish_of, sweep_of, command_of}
use Rattle.script_text.specs.Grammar.{command_words, CommandFits, IsTimes, IsOfOperation}

script_call_again : (c : Call) → CallFits c → script_call (call_words c) ≡ Ok c
unfolding script_call opening_call call_named
script_call_again (call.Snapshot h) f = ap (made (opening (Some name.Snapshot))) (handle_again h f)
script_call_again (call.Freeze h) f = ap (made (opening (Some name.Freeze))) (handle_again h f)
script_call_again c f = ap (made (λ (said : Call × _). said.0)) (call_again c None f tt refl)

times_again : (n : ℕ) → IsTimes n → times_word (decimal n) ≡ Ok n
times_again n f = range_again 1 1000000 n f.0 f.1 (omega arith)

kind_again : (k : Kind) → IsOfOperation k → kind_word (kinds.name_of k) ≡ Ok k
unfolding kind_named
kind_again kind.ReadRoot is = refl
kind_again kind.SwapRoot is = refl
kind_again kind.ReadMain is = refl
kind_again kind.SwapMain is = refl
kind_again kind.ReadPrev is = refl
kind_again kind.SwapPrev is = refl
kind_again kind.Look is = refl
kind_again kind.Make is = refl
kind_again kind.End is = refl
kind_again other is = absurd is

pub command_again : (c : Command) → CommandFits c → command_of (command_words c) ≡ Ok c
unfolding command_of command_named begin_of do_of go_of until_of finish_of sweep_of
command_again (Begin a c) f = ap (made (λ (x : ℕ × Call). Begin x.0 x.1)) (both_again (actor_word (decimal a)) (script_call (call_words c)) a c (actor_again a f.0) (script_call_again c f.1))
command_again (Do a c) f = ap (made (λ (x : ℕ × Call). Do x.0 x.1)) (both_again (actor_word (decimal a)) (script_call (call_words c)) a c (actor_again a f.0) (script_call_again c f.1))
command_again (Go a n) f = ap (made (λ (x : ℕ × ℕ). Go x.0 x.1)) (both_again (actor_word (decimal a)) (times_word (decimal n)) a n (actor_again a f.0) (times_again n f.1))
command_again (Until a k) f = ap (made (λ (x : ℕ × Kind). Until x.0 x.1)) (both_again (actor_word (decimal a)) (kind_word (kinds.name_of k)) a k (actor_again a f.0) (kind_again k f.1))
command_again (Finish a) f = ap (made Finish) (actor_again a f)
command_again (Sweep n) f = ap (made Sweep) (times_again n f)
