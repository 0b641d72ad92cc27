use Rattle.std.specs.Prelude.{T}
use Rattle.std.proofs.Common.{◌≡◌, ◌≤◌, ◌++◌, ℕ, map, ap, sym, subst, ◌∙◌, length}
use Rattle.std.specs.FinMap.Entries.{is_sorted}
use Rattle.std.proofs.lemmas.Result.{IfOk-weaker}
use Rattle.rt_chain.specs.Chains.{all_in}
use Rattle.rt_order.specs.Entries.{entry_cmp}
use Rattle.rt_query.specs.Select.{row_of}
use Rattle.rt_view.specs.inside.ChildChain.{halves_of, near_cut}
use Rattle.rt_view.specs.inside.Ranged.{OrderedChildren, inner}
use Rattle.rt_view.specs.inside.Windows.{half_in, known_in}
use Rattle.rt_view.proofs.KnownLaws.{half-length, has_names}
use Rattle.rt_view.proofs.RangedLaws.{inner_of, near_fits, near_inner}
use Rattle.rt_view.proofs.window.OrderedChildren.half_rows.Goals as goal

pub rows_of-requires-clause-named : goal.rows_of-requires-clause-named
rows_of-requires-clause-named c = has_names c.self.inside.from (all_in c.self.inside.chain) c.self.invariant.marks

pub rows_of-requires-clause-many : goal.rows_of-requires-clause-many
rows_of-requires-clause-many c =
    let s = c.self.inside in
    let old = halves_of s.chain in
    let len : c.len.result ≡ length (half_in c.args.half (inner_of s.from s.to old)) = c.len.ensures.len ∙ ap (λ (o : OrderedChildren). length (half_in c.args.half (inner o.children))) (sym c.self.view_is) in
    subst (λ (n : ℕ). c.len.result ≤ n) (sym (half-length c.args.half s.chain))
    (subst (λ (n : ℕ). n ≤ length (half_in c.args.half old)) (sym len) (near_fits s.from s.to old s.low s.high c.self.invariant.spread c.args.half))

pub returns : goal.returns
returns c =
    let s = c.self.inside in
    let old = halves_of s.chain in
    let rise : T (is_sorted entry_cmp (old.0 ++ old.1)) = subst (λ (o : OrderedChildren). T (is_sorted entry_cmp (known_in o))) (sym c.self.view_is) c.len.ensures.rises in
    let len : c.len.result ≡ length (half_in c.args.half (inner_of s.from s.to old)) = c.len.ensures.len ∙ ap (λ (o : OrderedChildren). length (half_in c.args.half (inner o.children))) (sym c.self.view_is) in
    IfOk-weaker c.rows_of.result _ _
    (λ rows is. is ∙ ap (map row_of) (ap (λ (n : ℕ). near_cut c.args.half n (half_in c.args.half old)) len ∙ near_inner s.from s.to old s.low s.high c.self.invariant.spread c.args.half rise
    ∙ ap (λ (o : OrderedChildren). half_in c.args.half (inner o.children)) c.self.view_is)) c.rows_of.ensures
