use Rattle.std.proofs.Common.{◌≡◌, ◌++◌, ◌∷◌, [], refl, ap, ◌∙◌, arith, decimal}
use Rattle.std.proofs.lemmas.Result.{on_ok_weaker}
use Rattle.serde_json.specs.Data.{string, number, unsigned, item, no_items}
use Rattle.json.specs.Token as token
use Rattle.rt_wire.proofs.Putting.{array_put, string_put, number_put}
use Rattle.rt_wire.proofs.query.write_rows.Goals as goal

pub returns : goal.returns
returns c =
    let same : c.from.result ≡ c.args.rows = c.from.ensures in
    on_ok_weaker c.end_array.result
    (λ e. array_put (item (string c.args.word.now) (item (number (unsigned c.args.rows)) no_items)) c.args.out.now c.begin_array.new.self c.u64.new.self c.end_array.new.self c.begin_array.ensures.room.0 c.in_ok-begin_array.ensures.ok (
      c.string.new.self,
      string_put c.args.word.now c.begin_array.new.self c.string.new.self c.string.ensures.room.0 c.in_ok-string.ensures.ok,
      (c.u64.new.self, number_put c.args.rows c.string.new.self c.u64.new.self (omega arith) c.u64.ensures.room.0 (c.in_ok-u64.ensures.ok ∙ ap (λ n. c.string.new.self.tokens ++ token.number (decimal n) ∷ []) same), (refl, refl)),
    ) c.end_array.ensures.room.0 e)
    c.end_array.ensures.ok
