-- Which faults are those of a writer.
use Rattle.std.proofs.Common.{◌≡◌, ℕ, refl, subst, sym}
use Rattle.std.specs.Prelude.{IfErr, OnOk, Result, Ok, Err}
use Rattle.rt_input.specs.declared.fault.ConsoleError.TheVariants as console
use Rattle.rt_link.specs.declared.error.LinkFault.{LinkFault}
use Rattle.rt_link.specs.declared.error.LinkFault.TheVariants as link
use Rattle.rt_watch.specs.declared.effect.WatchFault.{WatchFault}
use Rattle.rt_watch.specs.declared.effect.WatchFault.TheVariants.{NotConnected, System, Ended}
use Rattle.rt_watch.specs.declared.lines.End.{End}
use Rattle.rt_watch.specs.declared.lines.End.TheVariants as end
use Rattle.rt_watch.specs.Faults.{IsNoWriteFault, TellsWrite, after_input, of_link}

-- where the writer has not failed
pub still : (e : WatchFault) (old new : ℕ) → IsNoWriteFault e → new ≡ old → TellsWrite e old new
still (NotConnected address why) old new h e = e
still (System why) old new h e = e
still (Ended console.ReadFault) old new h e = e
still (Ended console.WriteFault) old new h e = absurd (h refl)
still (Ended console.BadWords) old new h e = e
still (Ended console.NoMemory) old new h e = e

-- no fault of a link is one
pub of_link_writes : (why : LinkFault) → IsNoWriteFault (of_link why)
of_link_writes (link.Client why) = λ e. cc
of_link_writes (link.System why) = λ e. cc
of_link_writes link.NoMemory = λ e. cc

-- no end of an input is one
pub after_input_writes : (ended : End) → IfErr (after_input ended) IsNoWriteFault
after_input_writes end.Read = tt
after_input_writes end.Unread = λ e. cc
after_input_writes end.NoMemory = λ e. cc

-- what a run answers tells of the writer what its rounds do: no close of a connection writes
pub outcome_tells : (outcome : Result Unit WatchFault) (closed : Result Unit LinkFault)
    (answer : Result ℕ WatchFault) (bad old new : ℕ) → OnOk outcome (new ≡ old)
    → IfErr outcome (λ e. TellsWrite e old new) → IfErr outcome (λ why. answer ≡ Err why)
    → OnOk outcome (IfErr closed (λ why. answer ≡ Err (of_link why)))
    → OnOk outcome (OnOk closed (answer ≡ Ok bad)) → IfErr answer (λ e. TellsWrite e old new)
outcome_tells (Err why) closed answer bad old new same tells run close done =
    subst (λ r. IfErr r (λ e. TellsWrite e old new)) (sym run) tells
outcome_tells (Ok v) (Err why) answer bad old new same tells run close done =
    subst (λ r. IfErr r (λ e. TellsWrite e old new)) (sym close)
    (still (of_link why) old new (of_link_writes why) same)
outcome_tells (Ok v) (Ok w) answer bad old new same tells run close done =
    subst (λ r. IfErr r (λ e. TellsWrite e old new)) (sym done) tt

-- so a run that does not write has no such fault
pub ruleset faults = (still, of_link_writes, after_input_writes)
