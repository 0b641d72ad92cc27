use Rattle.std.proofs.lemmas.Result.{on_ok_weaker}
use Rattle.serde_json.specs.Data.{string}
use Rattle.rt_wire.proofs.Putting.{field_put, string_put}
use Rattle.rt_wire.proofs.members.write_text.Goals as goal

pub returns : goal.returns
returns c =
    on_ok_weaker c.string.result
    (λ e. field_put (c.args.name.now, string c.args.text.now) c.args.out.now c.key.new.self c.string.new.self c.key.ensures.room.0 c.in_ok-key.ensures.ok
    (string_put c.args.text.now c.key.new.self c.string.new.self c.string.ensures.room.0 e))
    c.string.ensures.ok
