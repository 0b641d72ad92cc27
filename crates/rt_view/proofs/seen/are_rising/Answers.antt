use Rattle.std.proofs.Common.{◌≡◌, ◌-◌, get_or, subst, ◌∙◌, arith, rules}
use Rattle.std.proofs.lemmas.List.{get_or_default}
use Rattle.std.specs.declared.cmp.Ordering.TheVariants.{Less}
use Rattle.rt_order.specs.Entries.{entry_cmp}
use Rattle.rt_view.proofs.SeenLaws.{next_rises, put_rising}
use Rattle.rt_view.proofs.seen.are_rising.Goals as goal

pub loop-next-preserved : goal.loop-next-preserved
loop-next-preserved g c =
    let es = c.args.children.now in
    let n = c.loop-next.next in
    let a = c.index-children-next.result in
    let b = c.index-children-next-in-loop-next.result in
    let less : entry_cmp a.0 b.0 ≡ Less = search rules in
    let first : (d : _) → a ≡ get_or es (n - 1) d = λ d. c.index-children-next.is ∙ get_or_default es (n - 1) a d (omega arith) in
    let second : (d : _) → b ≡ get_or es n d = λ d. c.index-children-next-in-loop-next.is ∙ get_or_default es n b d (omega arith) in
    next_rises (λ p q. entry_cmp p.0 q.0 ≡ Less) es n (omega arith) c.loop-next.invariant
    (λ d. subst (λ p. entry_cmp p.0 (get_or es n d).0 ≡ Less) (first d) (subst (λ q. entry_cmp a.0 q.0 ≡ Less) (second d) less))

pub returns : goal.returns
returns g c _ = put_rising c.args.children.now (λ k d l. c.loop-next.invariant k d (omega arith))
