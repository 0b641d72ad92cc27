use Rattle.std.proofs.Common.{List, Ok, inl, map, ap, ◌∙◌}
use Rattle.rt_cover.specs.Cover.{Registered}
use Rattle.rt_cover.specs.State.{shown_with}
use Rattle.rt_sync.proofs.state.State.cover.Goals as goal

pub returns-in-Ok : goal.returns-in-Ok
returns-in-Ok c = inl (ap Ok (c.in-Ok.ensures.listens ∙ ap (λ (ls : List Registered). map (shown_with ls) c.args.self.now.cover.kept) c.requires.tied.listened))
