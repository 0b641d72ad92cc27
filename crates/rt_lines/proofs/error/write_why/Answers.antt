use Rattle.std.proofs.Common.{ℕ, List, String, Global, Result, Ok, Err, string_bytes}
use Rattle.std.specs.Prelude.{OnOk}
use Rattle.rt_lines.specs.Bad.{why_line}
use Rattle.rt_lines.specs.inside.Appending.{Appends}
use Rattle.rt_lines.proofs.error.write_why.Goals as goal

-- it is said in these words
said : {E : Type 0} (r : Result Unit E) (old new : String Global) (number : ℕ) (words : List ℕ)
    → OnOk r (Appends old new (why_line number words))
    → OnOk r ((some : List ℕ) × Appends old new (why_line number some))
said (Ok done) old new number words h = (words, h)
said (Err e) old new number words h = tt

pub returns : goal.returns
returns c =
    said c.write.result c.args.out.now c.write.new.self c.args.number (string_bytes c.in_ok-why.why)
    c.write.ensures.bytes
