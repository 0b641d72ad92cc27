use Rattle.std.proofs.Common.{◌≡◌, sym, ap, subst, ◌∙◌}
use Rattle.std.specs.Cmp.Lexicographic.{nat_list_cmp_total, texts_ties}
use Rattle.std.specs.List.{dedup, list_any}
use Rattle.std.specs.List.Sorted.{IsStrictlySortedBy}
use Rattle.std.proofs.lemmas.List.Filters.{dedup_is}
use Rattle.std.proofs.lemmas.List.Kept.{IsStrictlySortedBy-dedup}
use Rattle.std.proofs.lemmas.List.Sorted.{list_any-IsPermutation}
use Rattle.rt_tree.specs.PathTree.{key_cmp}
use Rattle.rt_parts.proofs.NamedLaws.{same_key, once_same}
use Rattle.rt_parts.proofs.views.sort_once.Goals as goal

pub returns-clause-rise : goal.returns-clause-rise
returns-clause-rise c =
    let is : c.dedup.new.self.items ≡ dedup same_key c.sort_unstable.new.self.items = dedup_is same_key c.sort_unstable.new.self.items c.dedup.new.self.items c.dedup.ensures.filtered in
    subst (IsStrictlySortedBy key_cmp) (sym is) (IsStrictlySortedBy-dedup nat_list_cmp_total texts_ties c.sort_unstable.new.self.items c.sort_unstable.ensures.sorted)

pub returns-clause-same : goal.returns-clause-same
returns-clause-same c = λ p.
    let is : c.dedup.new.self.items ≡ dedup same_key c.sort_unstable.new.self.items = dedup_is same_key c.sort_unstable.new.self.items c.dedup.new.self.items c.dedup.ensures.filtered in
    ap (list_any p) is ∙ once_same c.sort_unstable.new.self.items p
    ∙ sym (list_any-IsPermutation p c.args.keys.now.items c.sort_unstable.new.self.items c.sort_unstable.ensures.permutation)
