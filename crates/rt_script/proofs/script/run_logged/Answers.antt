use Rattle.std.proofs.Common.{◌≡◌, ℕ, List, Some, subst}
use Rattle.std.specs.Prelude.{OnErr}
use Rattle.rt_input.specs.Faults.{counts}
use Rattle.rt_input.specs.Lines.{lines_of}
use Rattle.rt_input.specs.Streams.{AppendsPart}
use Rattle.rt_script.specs.Run.{Progress, after_lines}
use Rattle.rt_script.specs.inside.Pieces.{Runs}
use Rattle.rt_script.proofs.Written.{Ran-whole, if_ok_three, runs_script}
use Rattle.rt_script.proofs.script.run_logged.Goals as goal

pub returns : goal.returns
returns g c =
    runs_script c.run.result
    (counts (g.S.Source.given c.args.reader.now) (g.S.Source.failures c.args.reader.now) (g.D.Drain.failures c.args.writer.now))
    (counts (g.S.Source.given c.run.new.reader) (g.S.Source.failures c.run.new.reader) (g.D.Drain.failures c.run.new.writer))
    (g.S.Source.remaining c.args.reader.now) (g.S.Source.remaining c.run.new.reader)
    (g.D.Drain.contents c.args.writer.now) (g.D.Drain.contents c.run.new.writer)
    c.run.ensures.end
    (if_ok_three _ _ _ _ c.run.result (λ n ran nothing counted text e.
    let P : Progress → Type 0 = λ p. Runs (lines_of text) p (g.D.Drain.contents c.args.writer.now) c.run.new.self (g.D.Drain.contents c.run.new.writer) in
    Ran-whole text n _ _ c.run.new.self (subst P c.new.ensures (ran text e)) nothing counted) c.run.ensures.ran c.run.ensures.nothing_waits c.run.ensures.bad_lines)
    (let P : Progress → Type 0 = λ p. OnErr c.run.result ((text : List ℕ)
    → g.S.Source.remaining c.args.reader.now ≡ Some text
    → AppendsPart (g.D.Drain.contents c.args.writer.now) (g.D.Drain.contents c.run.new.writer)
    (after_lines (lines_of text) p).printed) in
    subst P c.new.ensures c.run.ensures.stopped)
    c.run.ensures.within c.run.ensures.fault c.run.ensures.ok
