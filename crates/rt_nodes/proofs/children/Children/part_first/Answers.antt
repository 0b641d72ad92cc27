use Rattle.std.proofs.Common.{rules, ◌≡◌, length, take, drop, ap, ◌∙◌, arith}
use Rattle.std.specs.List.{insert}
use Rattle.std.proofs.lemmas.Slice.{between_to_end}
use Rattle.rt_nodes.specs.declared.children.TheConstants.{LOWER}
use Rattle.rt_nodes.proofs.Pieces.{parted_first}
use Rattle.rt_nodes.proofs.children.Children.part_first.Goals as goal

pub returns : goal.returns
returns c m =
    let xs = c.args.self.now.first.items in
    let slice = c.as_slice.result.now in
    let upper : c.in_ok-upper.upper.items ≡ drop LOWER xs = c.in_ok-upper.ensures.items ∙ between_to_end slice LOWER (length slice) (omega arith) ∙ ap (drop LOWER) c.as_slice.ensures.value in
    let more : c.insert.new.self.items ≡ insert c.args.self.now.more.items 0 c.in_ok-upper.upper = search rules in
    let lower : c.truncate.new.self.items ≡ take LOWER xs = search rules in
    parted_first m LOWER c.args.self.now.more.items c.insert.new.self.items xs c.in_ok-upper.upper c.truncate.new.self upper more lower
