use Rattle.std.proofs.Common.{◌++◌, ◌∷◌, [], ap, ◌∙◌}
use Rattle.std.proofs.lemmas.Result.{on_ok_weaker}
use Rattle.json.specs.Token.{string}
use Rattle.rt_tree.specs.Path.{path_text}
use Rattle.rt_wire.proofs.Putting.{string_put}
use Rattle.rt_wire.proofs.members.write_path_text.Goals as goal

pub returns-clause-put : goal.returns-clause-put
returns-clause-put c =
    on_ok_weaker c.string.result
    (λ e. string_put (path_text c.args.path.now) c.args.out.now c.string.new.self c.string.ensures.room.0
    (e ∙ ap (λ s. c.args.out.now.tokens ++ string s ∷ []) (c.as_str.ensures.value ∙ c.in_ok-text.ensures.text)))
    c.string.ensures.ok
