use Rattle.std.proofs.Common.{rules, ℕ, ◌==◌, not, ap, ◌∙◌}
use Rattle.std.specs.List.{filter}
use Rattle.std.proofs.lemmas.Fn.{filter_same}
use Rattle.rt_cover.proofs.listeners.Numbers.take_out.Goals as goal

pub returns : goal.returns
returns c =
    filter_same _ (λ (t : ℕ). not (t == c.args.number)) _ (λ x b f' k. search rules) _ _ c.retain.ensures.filtered
    ∙ ap (filter (λ (t : ℕ). not (t == c.args.number))) c.self.view_is
