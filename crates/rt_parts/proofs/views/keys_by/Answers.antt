use Rattle.std.proofs.Common.{◌≡◌, ◌<◌, ◌++◌, ◌∷◌, [], ℕ, List, length, take, get_or, rules, ap, sym, ◌∙◌}
use Rattle.std.specs.List.{filter_map}
use Rattle.std.proofs.lemmas.List.{take_more}
use Rattle.std.proofs.lemmas.List.Elements.{filter_map-append}
use Rattle.rt_tree.specs.PathTree.{Key}
use Rattle.rt_parts.specs.inside.Pairs.{named_at}
use Rattle.rt_parts.proofs.views.keys_by.Goals as goal

pub loop-pair-preserved : goal.loop-pair-preserved
loop-pair-preserved c =
    let xs : List (ℕ × ℕ) = c.args.own.now in
    let i = c.loop-pair.pair-index in
    let d : ℕ × ℕ = (0, 0) in
    let within : i < length xs = search rules in
    let put : c.put_named.new.keys.items ≡ c.loop-pair.keys.items ++ filter_map (named_at c.args.path.now c.args.entries.now) (get_or xs i d ∷ []) = search rules in
    put
    ∙ ap (λ (z : List Key). z ++ filter_map (named_at c.args.path.now c.args.entries.now) (get_or xs i d ∷ [])) c.loop-pair.invariant
    ∙ sym (filter_map-append (named_at c.args.path.now c.args.entries.now) (take i xs) (get_or xs i d ∷ []))
    ∙ ap (filter_map (named_at c.args.path.now c.args.entries.now)) (sym (take_more xs i d within))
