use Rattle.std.proofs.Common.{◌≡◌, ◌++◌, ◌∷◌, [], ℕ, None, ap, sym, ◌∙◌, rules}
use Rattle.std.specs.Map.{values_of}
use Rattle.rt_chain.specs.Chains.{below, last_or}
use Rattle.rt_chain.proofs.Entries.{last-push}
use Rattle.rt_chain.proofs.chain.below.Goals as goal

pub returns-in-Some : goal.returns-in-Some
returns-in-Some g c =
    let x : g.row.K.Denot × ℕ = (c.in-Some.field-0-0.now, c.in-Some.slot.now) in
    let left = c.next_back.new.self in
    let steps : c.range.result ≡ left ++ x ∷ [] = search rules in
    let all : c.range.result ≡ below (g.K.Ord.cmp c.args.key.now) c.args.places.now.entries = c.range.ensures.between tt in
    sym (last-push None left x) ∙ ap (λ es. last_or None (values_of es)) (sym steps ∙ all)
