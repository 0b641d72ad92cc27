use Rattle.std.proofs.Common.{sym, ap, ◌∙◌}
use Rattle.serde_json.specs.View.{view as data_of}
use Rattle.rt_lines.specs.Forms.{part_words}
use Rattle.rt_lines.specs.inside.FormView.{views}
use Rattle.rt_lines.proofs.Lists.{part_in_array}
use Rattle.rt_lines.proofs.form.part.Goals as goal

pub returns : goal.returns
returns c =
    c.part_of.ensures ∙ ap (λ vs. part_words (views vs)) c.as_slice.ensures.value
    ∙ sym (part_in_array (data_of c.args.value.now) c.in_ok-as_array.field-0.now.items c.in_ok-as_array.ensures)
