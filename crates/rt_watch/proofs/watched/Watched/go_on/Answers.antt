use Rattle.std.proofs.Common.{rules, ◌≡◌, ◌≢◌, refl}
use Rattle.rt_watch.proofs.Turned.{turn_changed, turn_written}
use Rattle.rt_watch.proofs.watched.Watched.go_on.Goals as goal

pub returns-then-ne-clause-done : goal.returns-then-ne-clause-done
returns-then-ne-clause-done g c =
    let differs : c.turn-turned.new.self.standing ≢ c.args.self.now.standing = search rules in
    turn_changed (g.D.Drain.contents c.args.writer.now) (g.D.Drain.contents c.write_out.new.writer)
    c.args.enough c.args.self.now c.turn-turned.new.self
    (record c.turn-turned.new.self { terminal = c.write_out.new.self }) c.in_ok-turned.ensures.turned
    (record {
      written = c.in_ok-write_out.ensures.written;
      nothing_waits = c.in_ok-write_out.ensures.nothing_waits;
      rest = c.in_ok-write_out.ensures.rest;
    }) refl differs

pub returns-clause-done : goal.returns-clause-done
returns-clause-done g c =
    let same : c.turn-turned.new.self.standing ≡ c.args.self.now.standing = search rules in
    turn_written c.next.result (g.D.Drain.contents c.args.writer.now)
    (g.D.Drain.contents c.write_out.new.writer) c.args.enough c.args.self.now c.turn-turned.new.self
    (record c.turn-turned.new.self { terminal = c.write_out.new.self }) c.in_ok-turned.ensures.turned
    (record {
      written = c.in_ok-write_out.ensures.written;
      nothing_waits = c.in_ok-write_out.ensures.nothing_waits;
      rest = c.in_ok-write_out.ensures.rest;
    }) refl same c.next.ensures.next
