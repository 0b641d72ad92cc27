-- The exit status of a word that can't be had.
use Rattle.std.specs.Prelude.{ℕ}
use Rattle.rt_console.specs.declared.arguments.ArgumentError.{ArgumentError}
use Rattle.rt_console.specs.declared.arguments.ArgumentError.TheVariants as argument

-- the exit status
abbrev pub argument_status : ArgumentError → ℕ
argument_status (argument.NotUtf8 number) = 2
argument_status (argument.TooLong number) = 2
argument_status argument.NoMemory = 1
