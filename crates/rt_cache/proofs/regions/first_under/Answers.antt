use Rattle.std.proofs.Common.{rules, ◌≡◌, ◌<◌, ◌≤◌, ◌-◌, ℕ, suc, subst, arith, length, get_or, true, false, nat_lt, refl}
use Rattle.std.proofs.lemmas.Bool.{ltb-true, ltb-false}
use Rattle.std.proofs.lemmas.List.Elements.{at_read}
use Rattle.std.specs.Ordering.{is_lt}
use Rattle.rt_tree.specs.PathTree.{path_cmp}
use Rattle.rt_tree.specs.Assignments.{is_at_or_above}
use Rattle.rt_cache.specs.declared.regions.Region.{Region}
use Rattle.rt_cache.proofs.Halves.{above_first}
use Rattle.rt_cache.proofs.Under.{not_under, not_in_front}
use Rattle.rt_cache.proofs.regions.first_under.Goals as goal

pub returns-then-count-eq0-clause-behind : goal.returns-then-count-eq0-clause-behind
returns-then-count-eq0-clause-behind c = λ k d le lt.
    let none : c.place_of-count.result ≡ 0 = search rules in
    let there : c.place_of-count.result < length c.args.regions.now = omega (arith, none, lt) in
    not_in_front c.args.path.now c.args.regions.now c.place_of-count.result k d c.requires.sorted (omega (arith, none)) lt
    (c.place_of-count.ensures.behind d there)

pub returns-then-is_prefix_of-clause-front : goal.returns-then-is_prefix_of-clause-front
returns-then-is_prefix_of-clause-front c = λ k d lt.
    let last : ℕ = c.place_of-count.result - 1 in
    let one_more : suc last ≡ c.place_of-count.result = omega arith in
    not_under c.args.path.now c.args.regions.now k last d c.requires.sorted lt (omega (arith, one_more, c.place_of-count.ensures.within))
    (c.place_of-count.ensures.front last d one_more)

pub returns-then-is_prefix_of-clause-behind : goal.returns-then-is_prefix_of-clause-behind
returns-then-is_prefix_of-clause-behind c = λ k d le lt.
    let region : Region = c.index-regions-last.result in
    let last : ℕ = c.place_of-count.result - 1 in
    let one_more : suc last ≡ c.place_of-count.result = omega arith in
    let within : last < length c.args.regions.now = omega (arith, one_more, c.place_of-count.ensures.within) in
    let at : region ≡ get_or c.args.regions.now last region = search rules in
    let is : is_at_or_above c.args.path.now region.path ≡ true = search rules in
    elim (nat_lt last k) as (λ b. nat_lt last k ≡ b → is_lt (path_cmp (get_or c.args.regions.now k d).path c.args.path.now) ≡ false) [
      | true ↦ λ f.
          let behind : last < k = ltb-true last k f in
          not_in_front c.args.path.now c.args.regions.now c.place_of-count.result k d c.requires.sorted (omega (arith, behind, one_more)) lt
          (c.place_of-count.ensures.behind d (omega (arith, behind, one_more, lt)))
      | false ↦ λ f.
          let ge : k ≤ last = ltb-false last k f in
          let same : last ≡ k = omega (arith, ge, le) in
          subst (λ n. is_lt (path_cmp (get_or c.args.regions.now n d).path c.args.path.now) ≡ false) same
          (above_first c.args.path.now (get_or c.args.regions.now last d).path
          (at_read c.args.regions.now (λ (r : Region). is_at_or_above c.args.path.now r.path ≡ true) last region within at is d))
    ] refl

pub returns-else-is_prefix_of-clause-front : goal.returns-else-is_prefix_of-clause-front
returns-else-is_prefix_of-clause-front c = λ k d lt.
    let region : Region = c.index-regions-last.result in
    let last : ℕ = c.place_of-count.result - 1 in
    let one_more : suc last ≡ c.place_of-count.result = omega arith in
    let within : last < length c.args.regions.now = omega (arith, one_more, c.place_of-count.ensures.within) in
    let at : region ≡ get_or c.args.regions.now last region = search rules in
    let is : is_at_or_above c.args.path.now region.path ≡ false = search rules in
    elim (nat_lt k last) as (λ b. nat_lt k last ≡ b → is_at_or_above c.args.path.now (get_or c.args.regions.now k d).path ≡ false) [
      | true ↦ λ f.
          not_under c.args.path.now c.args.regions.now k last d c.requires.sorted (ltb-true k last f) within (c.place_of-count.ensures.front last d one_more)
      | false ↦ λ f.
          let ge : last ≤ k = ltb-false k last f in
          let same : last ≡ k = omega (arith, ge, lt, one_more) in
          subst (λ n. is_at_or_above c.args.path.now (get_or c.args.regions.now n d).path ≡ false) same
          (at_read c.args.regions.now (λ (r : Region). is_at_or_above c.args.path.now r.path ≡ false) last region within at is d)
    ] refl

pub returns-else-is_prefix_of-clause-behind : goal.returns-else-is_prefix_of-clause-behind
returns-else-is_prefix_of-clause-behind c = λ k d le lt.
    not_in_front c.args.path.now c.args.regions.now c.place_of-count.result k d c.requires.sorted le lt
    (c.place_of-count.ensures.behind d (omega (arith, le, lt)))
