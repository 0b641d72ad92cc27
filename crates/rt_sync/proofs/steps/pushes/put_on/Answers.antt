use Rattle.std.proofs.Common.{sym, ap, ◌∙◌}
use Rattle.std.specs.Option.{option_copied}
use Rattle.rt_sync.proofs.steps.pushes.put_on.Goals as goal

pub put_all-requires : goal.put_all-requires
put_all-requires c =
    let there = sym c.form_at.ensures ∙ ap option_copied c.in-Some.is in
    record { on = c.requires.on c.in-Some.query.now there; kept = c.requires.kept c.in-Some.query.now there }
