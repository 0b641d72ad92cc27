use Rattle.std.proofs.Common.{◌≡◌, ◌++◌, drop}
use Rattle.std.specs.Prelude.{option_map}
use Rattle.rt_commands.specs.Words.{paths_of}
use Rattle.rt_commands.proofs.Several.{now_of}
use Rattle.rt_commands.proofs.words.read_paths.Given as goal

abbrev pub invariant-loop-text : goal.invariant-loop-text
invariant-loop-text l =
    paths_of (now_of l.texts)
    ≡ option_map (λ ps. l.paths.items ++ ps) (paths_of (now_of (drop l.text-index l.texts)))
