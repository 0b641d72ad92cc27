use Rattle.std.proofs.Common.{map, ap, ◌≡◌, ◌<◌, ◌++◌, [], ◌∷◌, List, Some, None, sym, subst, ◌∙◌, arith, rules, length}
use Rattle.std.specs.List.{AllByRecursion}
use Rattle.std.specs.Option.{option_copied}
use Rattle.rt_query.specs.declared.row.Row.{Row}
use Rattle.rt_query.specs.Select.{row_of}
use Rattle.rt_chain.specs.Chains.{in_half}
use Rattle.rt_view.specs.inside.ChildChain.{Walks, near_cut}
use Rattle.rt_view.proofs.KnownLaws.{marked-right, among, near-half, near_length, walk_begins, walk_done, walk_more, walk_next, walk_on}
use Rattle.rt_view.proofs.window.rows_of.Goals as goal

pub loop-alloc-init : goal.loop-alloc-init
loop-alloc-init c =
    let all = near_cut c.args.half c.args.number (in_half c.args.half c.args.chain.now) in
    let empty : c.in_ok-rows.rows.items ≡ [] = search rules in
    subst (λ (rs : List Row). Walks all rs c.first_near-next.result) (sym empty) (walk_begins all c.first_near-next.result c.first_near-next.ensures)

pub loop-alloc-preserved : goal.loop-alloc-preserved
loop-alloc-preserved c =
    let all = near_cut c.args.half c.args.number (in_half c.args.half c.args.chain.now) in
    let many = near_length c.args.half c.args.number (in_half c.args.half c.args.chain.now) c.requires.many in
    let fewer : length c.loop-alloc.rows.items < length all = omega (arith, many, c.loop-alloc-test.true) in
    let n = walk_next all c.loop-alloc.rows.items c.loop-alloc.next c.loop-alloc.invariant fewer in
    let slot : n.x.1.0 ≡ c.in-Some.slot = search (rules, n.is) in
    let a = among c.args.half c.args.number c.args.chain.now n.done n.left n.x n.whole in
    let there : option_copied c.get.result ≡ Some n.x.1.1 = c.get.ensures.value a.0 (n.left ++ a.1.0) n.x.0 n.x.1.1 (a.1.1 ∙ (λ i. a.0 ++ (n.x.0, (slot i, n.x.1.1)) ∷ (n.left ++ a.1.0))) in
    let child : c.in-Some-get.child.now ≡ n.x.1.1 = search (rules, there) in
    let named = (marked-right (λ e. e.1.1.key ≡ e.0.1) a.0 (n.x ∷ (n.left ++ a.1.0)) (subst (AllByRecursion (λ e. e.1.1.key ≡ e.0.1)) a.1.1 c.requires.named)).0 in
    walk_more all c.loop-alloc.rows.items c.push.new.self.items c.loop-alloc.next c.next-next.result n a.1.0 named (c.in_ok-push.ensures.items ∙ search (rules, child)) (c.next-next.ensures.value a.0 (n.left ++ a.1.0) n.x.0 n.x.1.1 (a.1.1 ∙ (λ i. a.0 ++ (n.x.0, (slot i, n.x.1.1)) ∷ (n.left ++ a.1.0))))

pub returns : goal.returns
returns c =
    let all = near_cut c.args.half c.args.number (in_half c.args.half c.args.chain.now) in
    let many = near_length c.args.half c.args.number (in_half c.args.half c.args.chain.now) c.requires.many in
    walk_done all c.loop-alloc.rows.items c.loop-alloc.next c.loop-alloc.invariant (λ fewer. omega (arith, fewer, many, c.loop-alloc-test.false))
    ∙ ap (map row_of) (near-half c.args.half c.args.number c.args.chain.now)

pub returns-in_default : goal.returns-in_default
returns-in_default c =
    let all = near_cut c.args.half c.args.number (in_half c.args.half c.args.chain.now) in
    let many = near_length c.args.half c.args.number (in_half c.args.half c.args.chain.now) c.requires.many in
    let fewer : length c.loop-alloc.rows.items < length all = omega (arith, many, c.loop-alloc-test.true) in
    let none : c.loop-alloc.next ≡ None = search rules in
    absurd (walk_on all c.loop-alloc.rows.items c.loop-alloc.next c.loop-alloc.invariant fewer none)

pub returns-in_default-get : goal.returns-in_default-get
returns-in_default-get c =
    let all = near_cut c.args.half c.args.number (in_half c.args.half c.args.chain.now) in
    let many = near_length c.args.half c.args.number (in_half c.args.half c.args.chain.now) c.requires.many in
    let fewer : length c.loop-alloc.rows.items < length all = omega (arith, many, c.loop-alloc-test.true) in
    let n = walk_next all c.loop-alloc.rows.items c.loop-alloc.next c.loop-alloc.invariant fewer in
    let slot : n.x.1.0 ≡ c.in-Some.slot = search (rules, n.is) in
    let a = among c.args.half c.args.number c.args.chain.now n.done n.left n.x n.whole in
    let there : option_copied c.get.result ≡ Some n.x.1.1 = c.get.ensures.value a.0 (n.left ++ a.1.0) n.x.0 n.x.1.1 (a.1.1 ∙ (λ i. a.0 ++ (n.x.0, (slot i, n.x.1.1)) ∷ (n.left ++ a.1.0))) in
    let none : option_copied c.get.result ≡ None = search rules in
    cc
