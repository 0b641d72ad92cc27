use Rattle.std.proofs.Common.{◌≡◌, OnOk, List, ℕ, ap, subst, ◌∙◌}
use Rattle.std.specs.Option.{option_copied}
use Rattle.rt_sync.specs.Core.{world_in}
use Rattle.rt_lines.specs.Printing.{view_text}
use Rattle.rt_lines.specs.inside.Appending.{Appends}
use Rattle.rt_script.proofs.Doings.{views_ok}
use Rattle.rt_script.proofs.line.show_view.Goals as goal

pub returns-in-Ok : goal.returns-in-Ok
returns-in-Ok c =
    let same : option_copied c.as_ref.result ≡ c.in-Ok.view = c.as_ref.ensures.value in
    let P : List ℕ → Type 0 = λ t. OnOk c.write_view.result (Appends c.args.out.now c.write_view.new.out t) in
    subst P (ap view_text same ∙ views_ok (world_in c.args.core.now) c.args.listener c.in-Ok.view c.in-Ok.ensures) c.write_view.ensures
