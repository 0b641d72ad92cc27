use Rattle.std.specs.Prelude.{T}
use Rattle.std.proofs.Common.{ap, sym, subst, ◌∙◌}
use Rattle.std.specs.FinMap.Entries.{is_sorted}
use Rattle.rt_tree.specs.Children.{children_of}
use Rattle.rt_order.specs.Entries.{entry_cmp}
use Rattle.rt_query.specs.Select.{sorted_by}
use Rattle.rt_view.specs.inside.Windows.{Entries, IsWindow, rest_in, shown_in}
use Rattle.rt_view.specs.inside.ViewIndex.{in_order}
use Rattle.rt_view.specs.inside.Ranged.{inside}
use Rattle.rt_view.proofs.Listed.{listed-children}
use Rattle.rt_view.proofs.position.window_of.Goals as goal

pub of-requires : goal.of-requires
of-requires c =
    let all = c.in_ok-children.ensures ∙ ap (λ index. sorted_by index (children_of c.args.known.now)) c.index.ensures in
    subst (λ (es : Entries). T (is_sorted entry_cmp es)) (sym all) (listed-children c.args.query.now.index c.args.known.now).rises

pub returns : goal.returns
returns c =
    let w = c.in_ok-window.window in
    let q = c.args.query.now in
    let all = c.in_ok-children.ensures ∙ ap (λ index. sorted_by index (children_of c.args.known.now)) c.index.ensures in
    let ranged = c.range.ensures.range in
    record {
      limit = c.in_ok-window.ensures.limit ∙ c.limit.ensures.limit;
      range = c.in_ok-window.ensures.range ∙ ranged;
      all = c.in_ok-window.ensures.known ∙ all;
      cut = subst (λ l. IsWindow l (shown_in w) (rest_in w) (in_order q (children_of c.args.known.now))) c.limit.ensures.limit
          (subst (λ (es : Entries). IsWindow c.limit.result (shown_in w) (rest_in w) es) (λ i. inside (ranged i) (all i)) c.in_ok-window.ensures.cut);
    }
