use Rattle.std.proofs.Common.{◌==◌, rules}
use Rattle.std.proofs.lemmas.Fn.{filter_same}
use Rattle.rt_serve.proofs.serve.keep_own.Goals as goal

pub returns : goal.returns
returns c =
    filter_same _ (λ s. s.to == c.args.connection) _ (λ x b f' k. search rules) _ _
    c.retain.ensures.filtered
