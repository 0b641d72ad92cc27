use Rattle.std.proofs.Common.{rules, ◌≡◌, ◌∙◌, ap, length, drop, Some, arith}
use Rattle.rt_cache.proofs.Strips.{strip_drop, strip_fits}
use Rattle.rt_cache.proofs.regions.rest_of.Goals as goal

pub split_at-requires : goal.split_at-requires
split_at-requires c =
    let fits = strip_fits c.args.above.now c.args.path.now c.requires in
    omega (arith, fits, ap length c.keys.ensures.keys, ap length c.keys-2.ensures.keys)

pub returns : goal.returns
returns c =
    let rest : c.split_at.result.1.now ≡ drop (length c.keys-2.result.now) c.keys.result.now = search rules in
    ap Some (rest ∙ (λ i. drop (length (c.keys-2.ensures.keys i)) (c.keys.ensures.keys i))) ∙ strip_drop c.args.above.now c.args.path.now c.requires
