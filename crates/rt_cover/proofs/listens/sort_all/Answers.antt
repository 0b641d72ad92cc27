use Rattle.std.proofs.Common.{rules, ◌≡◌, ◌++◌, subst}
use Rattle.rt_cover.specs.inside.Index.{SameCounts}
use Rattle.rt_cover.proofs.listens.sort_all.Goals as goal

pub returns-clause-same : goal.returns-clause-same
returns-clause-same c =
    let all : c.append-in_reserved_room.new.self.items ≡ c.args.by_path.now.items ++ c.args.new.items = search rules in
    subst (SameCounts c.sort_by_form.new.listens.items) all c.sort_by_form.ensures.same
