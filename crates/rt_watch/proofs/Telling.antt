-- What an error tells of the reads before it.
use Rattle.std.proofs.Common.{◌≡◌, ◌+◌, ℕ, inl, inr, ◌∙◌, arith}
use Rattle.rt_input.specs.Lines.{TellsOfReads}
use Rattle.rt_input.specs.declared.fault.ConsoleError.{ConsoleError}
use Rattle.rt_input.specs.declared.fault.ConsoleError.TheVariants as console

-- an error behind lines that were read tells as much of the whole input
pub tells_of_all : (e : ConsoleError) (count given now later first mid last : ℕ) → now ≡ given + count
    → mid ≡ first → TellsOfReads e count now later mid last → TellsOfReads e 0 given later first last
tells_of_all console.ReadFault count given now later first mid last is same (inl h) =
    inl (omega (arith, same, h))
tells_of_all console.ReadFault count given now later first mid last is same (inr h) =
    inr (omega (arith, is, h))
tells_of_all console.WriteFault count given now later first mid last is same h = h
tells_of_all console.BadWords count given now later first mid last is same h = h
tells_of_all console.NoMemory count given now later first mid last is same h = h ∙ same
