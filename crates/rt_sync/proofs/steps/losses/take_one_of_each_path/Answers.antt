use Rattle.std.proofs.Common.{rules, ◌≡◌, ap, sym, ◌∙◌}
use Rattle.std.specs.List.{dedup}
use Rattle.std.proofs.lemmas.Fn.{dedup_same}
use Rattle.std.proofs.lemmas.List.Sorted.{list_any-IsPermutation}
use Rattle.rt_tree.specs.PathTree.{path_eq}
use Rattle.rt_query.specs.Queries.{Query}
use Rattle.rt_sync.specs.inside.Moving.{is_of_path}
use Rattle.rt_sync.proofs.MovingLaws.{of_one_path, one_of_each_path}
use Rattle.rt_sync.proofs.steps.losses.take_one_of_each_path.Goals as goal

pub returns : goal.returns
returns c = λ p.
    let is : c.dedup_by.new.self.items ≡ dedup of_one_path c.sort_unstable_by.new.self.items =
    dedup_same _ of_one_path _ (λ x y b f' x' y' k. search rules) _ _ c.dedup_by.ensures.filtered in
    ap (λ fs. is_of_path fs p) is ∙ one_of_each_path c.sort_unstable_by.new.self.items p
    ∙ sym (list_any-IsPermutation (λ (f : Query). path_eq f.path p) c.args.forms.now.items c.sort_unstable_by.new.self.items c.sort_unstable_by.ensures.permutation)
