use Rattle.std.proofs.Common.{◌≡◌, ◌++◌, ℕ, List, Option, sym, ap, ◌∙◌}
use Rattle.rt_lines.specs.Bad.{Tells, fault_line}
use Rattle.rt_lines.specs.Lines.{data_of_bytes}
use Rattle.rt_lines.proofs.error.say_line.Goals as goal

-- what is told of a line, where it is that line
said : {old new : Option (List ℕ)} (line text : List ℕ) → line ≡ text → Tells old new line → Tells old new text
said line text is t = rw (sym is) t

pub returns-clause-bad : goal.returns-clause-bad
returns-clause-bad g c bad on kept =
    let text : List ℕ = fault_line c.args.taken.now c.args.number (data_of_bytes c.args.bytes.now) in
    said c.as_str.result.now text
    (c.as_str.ensures.value ∙ c.in_ok-write_told.ensures.bad bad ∙ ap (λ l. l ++ text) c.new-line.ensures.bytes)
    (c.tell_some.ensures.told on kept)
