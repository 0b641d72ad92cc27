use Rattle.std.proofs.Common.{◌≡◌, Some, sym, ap, ◌∙◌}
use Rattle.serde_json.specs.View.{view as data_of, items_view}
use Rattle.rt_lines.proofs.Parts.{parts_in-array}
use Rattle.rt_lines.proofs.words.parts_of.Goals as goal

pub returns : goal.returns
returns c =
    let split : c.in_ok-as_array.field-0.now.items ≡ _ = sym c.as_slice.ensures.value ∙ c.in_ok-name.ensures.cases.0 in
    parts_in-array (data_of c.args.value.now) c.in_ok-name.name.now c.in_ok-name.words.now c.in_ok-as_str.field-0.now (ap (λ vs. Some (items_view vs)) (sym split) ∙ c.in_ok-as_array.ensures) c.in_ok-as_str.ensures
