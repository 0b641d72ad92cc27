use Rattle.std.proofs.Common.{◌++◌, ◌∷◌, [], cond, sym, ◌∙◌}
use Rattle.std.proofs.lemmas.Result.{IfOk-weaker}
use Rattle.std.specs.Option.{option_copied}
use Rattle.rt_query.specs.laws.Select.{select-whole}
use Rattle.rt_view.specs.declared.change.Change.TheVariants.{Value}
use Rattle.rt_view.proofs.TreeLaws.{plain_same}
use Rattle.rt_view.proofs.difference.with_value.Goals as goal

pub returns : goal.returns
returns c =
    let q = c.args.query.now in
    let known = c.args.known.now in
    IfOk-weaker c.with_whole.result _ _
    (λ list is t rows old.
    let same = c.is_same_plain-same.ensures ∙ plain_same q known t c.as_slice.result.now (option_copied c.args.leaf) c.requires (c.as_slice.ensures.value ∙ rows) old in
    is ∙ (λ i. rows i ++ cond (same i) [] (Value (sym (select-whole q known c.requires) i) ∷ [])))
    c.with_whole.ensures
