use Rattle.rt_lines.specs.inside.Appending.{Appends}
use Rattle.rt_connect.proofs.Seating.{told_binary, told_text}
use Rattle.rt_connect.proofs.seats.take_told.Goals as goal

pub returns-in-Text : goal.returns-in-Text
returns-in-Text c =
    told_text (Appends c.args.out.now c.take_text.new.out) c.take_text.result c.args.shared.now
    c.take_text.new.shared c.args.told c.in-Text.words c.as_str.result.now c.in-Text.is c.as_str.ensures
    c.take_text.ensures

pub returns-in-Binary : goal.returns-in-Binary
returns-in-Binary c =
    told_binary (Appends c.args.out.now c.write_refusal.new.out) c.write_refusal.result c.args.shared.now
    c.args.told c.in-Binary.is c.write_refusal.ensures
