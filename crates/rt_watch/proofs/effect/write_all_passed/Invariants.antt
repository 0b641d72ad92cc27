use Rattle.std.proofs.Common.{◌≡◌, ◌++◌, drop, string_bytes}
use Rattle.rt_watch.specs.Watching.{passed_texts}
use Rattle.rt_watch.proofs.effect.write_all_passed.Given as goal

abbrev pub invariant-loop-why : goal.invariant-loop-why
invariant-loop-why l =
    string_bytes l.initial.out ++ passed_texts l.passed
    ≡ string_bytes l.out ++ passed_texts (drop l.why-index l.passed)
