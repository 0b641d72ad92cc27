use Rattle.std.proofs.Common.{◌≡◌, ℕ, List, [], Option, Some}
use Rattle.rt_input.specs.Lines.{lines_of}
use Rattle.rt_input.specs.Streams.{AppendsPart}
use Rattle.rt_script.specs.Run.{after_lines}
use Rattle.rt_script.specs.inside.Pieces.{so_far}
use Rattle.rt_script.proofs.Written.{err_always, first_with}
use Rattle.rt_script.proofs.script.Script.run.Goals as goal

pub returns-in_err-write_out-in-Err-NoMemory-clause-stopped :
    goal.returns-in_err-write_out-in-Err-NoMemory-clause-stopped
returns-in_err-write_out-in-Err-NoMemory-clause-stopped g c =
    let first : Option (List ℕ) = g.D.Drain.contents c.args.writer.now in
    let before : Option (List ℕ) = g.D.Drain.contents c.read_all.new.writer in
    let after : Option (List ℕ) = g.D.Drain.contents c.write_out.new.writer in
    let Stopped : Type 0 = (text : List ℕ) → g.S.Source.remaining c.args.reader.now ≡ Some text
    → AppendsPart first after (after_lines (lines_of text) (so_far [] c.args.self.now)).printed in
    let stopped : Stopped = λ text e.
    first_with (lines_of text) (so_far [] c.args.self.now) first before after c.read_all.new.self
    (c.in-Err-NoMemory.ensures.stopped text e) c.in_err-write_out-in-Err-NoMemory.ensures.part in
    err_always Stopped c.from_residual.result stopped
