use Rattle.std.proofs.Common.{rules, ◌≡◌, [], ◌∷◌, ◌++◌, length}
use Rattle.rt_watch.proofs.Queues.{line_counted}
use Rattle.rt_watch.proofs.lines.Queue.put.Goals as goal

pub invariant_of-self-2 : goal.invariant_of-self-2
invariant_of-self-2 c =
    let size : c.len-len.result ≡ length c.args.line.items = search rules in
    let put : c.push_back.new.self.items ≡ c.self.inside.lines.items ++ c.args.line ∷ [] = search rules in
    line_counted c.self.inside.lines.items c.push_back.new.self.items c.args.line c.self.inside.bytes
    c.len-len.result c.saturating_add-self-inside.result c.self.invariant size
    c.saturating_add-self-inside.ensures put
