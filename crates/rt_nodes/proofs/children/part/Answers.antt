use Rattle.std.proofs.Common.{rules, ◌≡◌, ◌+◌, length, drop, ap, ◌∙◌, arith}
use Rattle.std.specs.List.{insert}
use Rattle.std.proofs.lemmas.Slice.{between_to_end}
use Rattle.rt_nodes.specs.declared.children.TheConstants.{LOWER}
use Rattle.rt_nodes.proofs.Pieces.{parted}
use Rattle.rt_nodes.proofs.children.part.Goals as goal

pub returns : goal.returns
returns c m =
    let p = c.index-2.result.now in
    let slice = c.as_slice.result.now in
    let upper : c.in_ok-upper.upper.items ≡ drop LOWER p.items = c.in_ok-upper.ensures.items ∙ between_to_end slice LOWER (length slice) (omega arith) ∙ ap (drop LOWER) c.as_slice.ensures.value in
    let more : c.insert.new.self.items ≡ insert c.args.pieces.now.items (c.args.at + 1) c.in_ok-upper.upper = search rules in
    parted m c.args.at LOWER c.args.pieces.now.items c.insert.new.self.items p c.index_mut.result.now c.in_ok-upper.upper c.truncate.new.self c.requires c.index-2.ensures upper more c.index_mut.ensures.value c.truncate.ensures.items
