use Rattle.std.proofs.Common.{rules, ◌≡◌, ℕ, ◌∷◌, List, [], true, false, Option, Some, arith, subst, ◌∙◌, string_bytes}
use Rattle.std.specs.Io.KnownBytes.{Appends}
use Rattle.rt_input.specs.Lines.{lines_of}
use Rattle.rt_script.specs.Run.{Progress}
use Rattle.rt_input.specs.Streams.{AppendsPart}
use Rattle.rt_script.specs.inside.Pieces.{Begins, Runs, so_far}
use Rattle.rt_script.proofs.Runs.{Did-all, Did-begun, Did-line, Did-some, not_false, not_true}
use Rattle.rt_script.proofs.Written.{Begins-none, Begins-part, Runs-written, err_always, on_err, on_ok}
use Rattle.rt_script.proofs.script.Script.read_all.Goals as goal

pub lines-preserved : goal.lines-preserved
lines-preserved g c =
    let goes : c.lines.lines.ended ≡ false =
    not_true c.in_ok-next.field-0 c.lines.lines.ended c.in_ok-next.ensures.more (search rules) in
    let before : Option (List ℕ) = g.D.Drain.contents c.lines.writer in
    let after : Option (List ℕ) = g.D.Drain.contents c.do_line_to.new.writer in
    let Ran : List ℕ → Type 0 = λ line. Runs (line ∷ []) (so_far [] c.lines.self) before c.do_line_to.new.self after in
    let ran : Ran c.next.new.self.line = subst Ran (search rules) c.in_ok-do_line_to.ensures.after in (
      omega (arith, c.in_ok-next.ensures.given, c.lines.invariant.0),
      c.in_ok-next.ensures.ok ∙ c.lines.invariant.1,
      c.in_ok-do_line_to.ensures.ok ∙ c.lines.invariant.2,
      c.in_ok-next.ensures.within,
      λ e. c.in_ok-next.ensures.end goes e,
      λ text e.
          Did-line (lines_of text) (so_far [] c.args.self.now) (g.D.Drain.contents c.args.writer.now) before after
          (g.S.Source.remaining c.lines.reader) (g.S.Source.remaining c.next.new.reader) c.lines.lines
          c.next.new.self c.lines.self c.do_line_to.new.self (c.lines.invariant.5 text e) goes
          c.in_ok-next.ensures.gives ran,
    )

pub returns-clause-ran : goal.returns-clause-ran
returns-clause-ran g c =
    let ended : c.lines.lines.ended ≡ true =
    not_false c.in_ok-next.field-0 c.lines.lines.ended c.in_ok-next.ensures.more (search rules) in
    let old : Progress = so_far [] c.args.self.now in
    let first : Option (List ℕ) = g.D.Drain.contents c.args.writer.now in
    let before : Option (List ℕ) = g.D.Drain.contents c.lines.writer in
    let after : Option (List ℕ) = g.D.Drain.contents c.write_out.new.writer in
    let Written : Type 0 = Appends before after (string_bytes c.lines.self.printed) in
    let Done : Type 0 = (text : List ℕ) → g.S.Source.remaining c.args.reader.now ≡ Some text
    → Runs (lines_of text) old first c.write_out.new.self after in
    on_ok Written Done c.write_out.result (λ written text e.
    Runs-written (lines_of text) old first before after c.lines.self c.write_out.new.self
    (Did-all (lines_of text) old first before (g.S.Source.remaining c.lines.reader) c.lines.lines c.lines.self
    (c.lines.invariant.5 text e) ended)
    written c.write_out.ensures.nothing_waits c.write_out.ensures.state c.write_out.ensures.lines
    c.write_out.ensures.bad_lines) c.write_out.ensures.written

pub returns-in_err-lines-clause-stopped : goal.returns-in_err-lines-clause-stopped
returns-in_err-lines-clause-stopped g c =
    let first : Option (List ℕ) = g.D.Drain.contents c.args.writer.now in
    let Stopped : Type 0 = (text : List ℕ) → g.S.Source.remaining c.args.reader.now ≡ Some text
    → Begins (lines_of text) (so_far [] c.args.self.now) first c.args.self.now first in
    let stopped : Stopped = λ text e. Begins-none (lines_of text) first c.args.self.now in
    err_always Stopped _ stopped

pub returns-in_err-next-clause-stopped : goal.returns-in_err-next-clause-stopped
returns-in_err-next-clause-stopped g c =
    let first : Option (List ℕ) = g.D.Drain.contents c.args.writer.now in
    let before : Option (List ℕ) = g.D.Drain.contents c.lines.writer in
    let Stopped : Type 0 = (text : List ℕ) → g.S.Source.remaining c.args.reader.now ≡ Some text
    → Begins (lines_of text) (so_far [] c.args.self.now) first c.lines.self before in
    let stopped : Stopped = λ text e.
    Did-some (lines_of text) (so_far [] c.args.self.now) first before (g.S.Source.remaining c.lines.reader)
    c.lines.lines c.lines.self (c.lines.invariant.5 text e) in
    err_always Stopped _ stopped

pub returns-in_err-do_line_to-clause-stopped : goal.returns-in_err-do_line_to-clause-stopped
returns-in_err-do_line_to-clause-stopped g c =
    let goes : c.lines.lines.ended ≡ false =
    not_true c.in_ok-next.field-0 c.lines.lines.ended c.in_ok-next.ensures.more (search rules) in
    let first : Option (List ℕ) = g.D.Drain.contents c.args.writer.now in
    let before : Option (List ℕ) = g.D.Drain.contents c.lines.writer in
    let after : Option (List ℕ) = g.D.Drain.contents c.do_line_to.new.writer in
    let Begun : List ℕ → Type 0 = λ line. Begins (line ∷ []) (so_far [] c.lines.self) before c.do_line_to.new.self after in
    let begun : Begun c.next.new.self.line = subst Begun (search rules) c.in_err-do_line_to.ensures.stopped in
    let Stopped : Type 0 = (text : List ℕ) → g.S.Source.remaining c.args.reader.now ≡ Some text
    → Begins (lines_of text) (so_far [] c.args.self.now) first c.do_line_to.new.self after in
    let stopped : Stopped = λ text e.
    Did-begun (lines_of text) (so_far [] c.args.self.now) first before after
    (g.S.Source.remaining c.lines.reader) (g.S.Source.remaining c.next.new.reader) c.lines.lines
    c.next.new.self c.lines.self c.do_line_to.new.self (c.lines.invariant.5 text e) goes
    c.in_ok-next.ensures.gives begun in
    err_always Stopped _ stopped

pub returns-clause-stopped : goal.returns-clause-stopped
returns-clause-stopped g c =
    let ended : c.lines.lines.ended ≡ true =
    not_false c.in_ok-next.field-0 c.lines.lines.ended c.in_ok-next.ensures.more (search rules) in
    let old : Progress = so_far [] c.args.self.now in
    let first : Option (List ℕ) = g.D.Drain.contents c.args.writer.now in
    let before : Option (List ℕ) = g.D.Drain.contents c.lines.writer in
    let after : Option (List ℕ) = g.D.Drain.contents c.write_out.new.writer in
    let Part : Type 0 = AppendsPart before after (string_bytes c.lines.self.printed) in
    let Stopped : Type 0 = (text : List ℕ) → g.S.Source.remaining c.args.reader.now ≡ Some text
    → Begins (lines_of text) old first c.write_out.new.self after in
    on_err Part Stopped c.write_out.result (λ part text e.
    Begins-part (lines_of text) old first before after c.lines.self c.write_out.new.self
    (Did-all (lines_of text) old first before (g.S.Source.remaining c.lines.reader) c.lines.lines c.lines.self
    (c.lines.invariant.5 text e) ended)
    part c.write_out.ensures.nothing_waits) c.write_out.ensures.part
