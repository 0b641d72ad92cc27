use Rattle.std.proofs.Common.{rules}
use Rattle.std.proofs.lemmas.Map.Made.{map_same_pairs}
use Rattle.rt_world.specs.steps.Closing.{unseated}
use Rattle.rt_parts.proofs.requests.unseat_all.Goals as goal

pub returns : goal.returns
returns c = map_same_pairs _ (unseated c.args.seat) _ (λ k v b w f' t. search rules) _ _ c.retain.ensures.filtered
