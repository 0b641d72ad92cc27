use Rattle.std.proofs.Common.{◌==◌, ap, ◌∙◌}
use Rattle.std.specs.Prelude.{is_some}
use Rattle.std.specs.List.{list_any}
use Rattle.std.specs.Map.{values_of}
use Rattle.rt_world.specs.declared.step.Request.{Request}
use Rattle.rt_parts.proofs.RequestLaws.{found_is, is_found}
use Rattle.rt_parts.proofs.requests.Requests.is_unsettled.Goals as goal

pub returns : goal.returns
returns c =
    c.contains_key.ensures ∙ ap is_some (found_is c.args.id c.self.inside.items.entries c.self.inside.pending c.self.invariant)
    ∙ is_found (λ (r : Request). r.id == c.args.id) (values_of c.self.inside.items.entries)
    ∙ ap (list_any (λ (r : Request). r.id == c.args.id)) c.self.view_is
