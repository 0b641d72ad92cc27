use Rattle.std.proofs.Common.{◌≡◌, ◌∷◌, ◌+◌, false, take, rules, sym, ap, ◌∙◌}
use Rattle.std.specs.Prelude.{◌==◌}
use Rattle.std.specs.Cmp.Lexicographic.{pointwise, texts_ties}
use Rattle.rt_tree.specs.PathTree.{Key, Path, key_eq}
use Rattle.rt_tree.specs.Assignments.{is_at_or_above}
use Rattle.rt_parts.proofs.MetLaws.{shared_apart, shared_more}
use Rattle.rt_parts.proofs.places.+shared.Goals as goal

pub returns-then-ne-clause-most : goal.returns-then-ne-clause-most
returns-then-ne-clause-most t c =
    let k : Key = c.in-Some.key.now in
    let j : Key = c.in-Some-split_first.other.now in
    let left : c.args.left.now ≡ k ∷ c.in-Some.keys.now = search rules in
    let right : c.args.right.now ≡ j ∷ c.in-Some-split_first.others.now = search rules in
    let apart : pointwise ◌==◌ k j ≡ false = search rules in
    let other : key_eq k j ≡ false = sym (texts_ties k j) ∙ apart in
    λ r a b. shared_apart k j c.in-Some.keys.now c.in-Some-split_first.others.now other r (ap (is_at_or_above r) (sym left) ∙ a) (ap (is_at_or_above r) (sym right) ∙ b)

pub returns-clause-most : goal.returns-clause-most
returns-clause-most t c =
    let k : Key = c.in-Some.key.now in
    let j : Key = c.in-Some-split_first.other.now in
    let n = c.shared.result in
    let left : c.args.left.now ≡ k ∷ c.in-Some.keys.now = search rules in
    let right : c.args.right.now ≡ j ∷ c.in-Some-split_first.others.now = search rules in
    λ r a b. ap (λ (z : Path). is_at_or_above r (take (n + 1) z)) right
    ∙ shared_more k j c.in-Some.keys.now c.in-Some-split_first.others.now n c.shared.ensures.most r (ap (is_at_or_above r) (sym left) ∙ a) (ap (is_at_or_above r) (sym right) ∙ b)
