use Rattle.std.proofs.Common.{sym, ap, ◌∙◌}
use Rattle.serde_json.specs.View.{view as data_of}
use Rattle.rt_lines.specs.Words.{twelve_of}
use Rattle.rt_lines.specs.inside.FormView.{views}
use Rattle.rt_lines.proofs.Lists.{random_in_array}
use Rattle.rt_lines.proofs.words.random_of.Goals as goal

pub returns : goal.returns
returns c =
    c.twelve_of.ensures ∙ ap (λ vs. twelve_of (views vs)) c.as_slice.ensures.value
    ∙ sym (random_in_array (data_of c.args.value.now) c.in_ok-as_array.field-0.now.items c.in_ok-as_array.ensures)
