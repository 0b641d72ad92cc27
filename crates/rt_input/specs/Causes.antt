-- Which error a fault with its cause is.
use Rattle.rt_input.specs.declared.fault.ConsoleError.{ConsoleError}
use Rattle.rt_input.specs.declared.fault.ConsoleError.TheVariants as Error
use Rattle.rt_input.specs.declared.fault.Fault.{Fault}
use Rattle.rt_input.specs.declared.fault.Fault.TheVariants.{Unread, TooLong, Unwritten, BadWords, NoMemory}

-- a read that failed and too much input are one error
abbrev pub error_of : Fault → ConsoleError
error_of (Unread why) = Error.ReadFault
error_of TooLong = Error.ReadFault
error_of (Unwritten why) = Error.WriteFault
error_of BadWords = Error.BadWords
error_of NoMemory = Error.NoMemory
