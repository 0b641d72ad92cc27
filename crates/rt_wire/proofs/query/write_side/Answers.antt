use Rattle.std.proofs.Common.{◌++◌, ◌∷◌, [], refl, ap, ◌∙◌}
use Rattle.std.proofs.lemmas.Result.{on_ok_weaker}
use Rattle.json.specs.Token.{string}
use Rattle.rt_wire.proofs.Putting.{string_put}
use Rattle.rt_wire.proofs.query.write_side.Goals as goal

pub returns-clause-put : goal.returns-clause-put
returns-clause-put c =
    on_ok_weaker c.string-2.result
    (λ e. (
      c.string.new.self,
      string_put c.args.word.now c.args.out.now c.string.new.self c.string.ensures.room.0 c.in_ok-string.ensures.ok,
      (
        c.string-2.new.self,
        string_put c.args.key.now c.string.new.self c.string-2.new.self c.string-2.ensures.room.0 (e ∙ ap (λ s. c.string.new.self.tokens ++ string s ∷ []) c.text.ensures.text),
        (refl, refl),
      ),
    ))
    c.string-2.ensures.ok
