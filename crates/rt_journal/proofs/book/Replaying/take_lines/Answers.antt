use Rattle.std.proofs.Common.{rules, ◌≡◌, None}
use Rattle.std.specs.Prelude.{position}
use Rattle.rt_journal.specs.Entries.{is_feed}
use Rattle.rt_journal.proofs.Pieces.{ended_lines, ended_torn}
use Rattle.rt_journal.proofs.book.Replaying.take_lines.Goals as goal

pub returns-clause-ok : goal.returns-clause-ok
returns-clause-ok c =
    let none : position is_feed c.lines.rest.now ≡ None = search rules in
    ended_lines c.args.self.now c.lines.self c.args.journal.now c.lines.rest.now none c.lines.invariant.0

pub returns-clause-torn : goal.returns-clause-torn
returns-clause-torn c =
    let none : position is_feed c.lines.rest.now ≡ None = search rules in
    ended_torn c.args.journal.now c.lines.rest.now none c.lines.invariant.1
