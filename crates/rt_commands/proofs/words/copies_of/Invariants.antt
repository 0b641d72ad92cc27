use Rattle.std.proofs.Common.{◌≡◌, ◌++◌, drop, map, string_bytes}
use Rattle.std.specs.Prelude.{option_map}
use Rattle.rt_commands.specs.Words.{origins_of}
use Rattle.rt_commands.proofs.Several.{now_of}
use Rattle.rt_commands.proofs.words.copies_of.Given as goal

abbrev pub invariant-loop-text : goal.invariant-loop-text
invariant-loop-text l =
    origins_of (now_of l.texts)
    ≡ option_map (λ os. map string_bytes l.all.items ++ os) (origins_of (now_of (drop l.text-index l.texts)))
