use Rattle.std.proofs.Common.{◌≡◌, ◌++◌, ℕ, List, IsUtf8}
use Rattle.std.specs.Str.Iter.{chars_rest}
use Rattle.rt_input.specs.Plains.{plain}
use Rattle.rt_input.proofs.text.push_plain.Given as goal

abbrev pub invariant-loop-letter : goal.invariant-loop-letter
invariant-loop-letter l =
    IsUtf8 (chars_rest l.letter-iterator)
    × (part : List ℕ) × (plain l.fn.text ≡ part ++ plain (chars_rest l.letter-iterator))
    × (l.line.items ≡ l.initial.line.items ++ part)
