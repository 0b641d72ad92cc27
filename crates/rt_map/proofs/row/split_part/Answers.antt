use Rattle.std.proofs.Common.{◌≡◌, ◌∙◌, ap, sym, subst, ◌<◌, ◌++◌, ◌-◌, length, take, drop, set, get_or, add-one, take-append-drop}
use Rattle.std.specs.List.{insert}
use Rattle.rt_map.specs.inside.Joined.{joined, AllFilled}
use Rattle.rt_map.proofs.Parts.{split-joined, split-filled, ends, long_take, long_drop}
use Rattle.rt_map.proofs.row.split_part.Goals as goal

pub returns-clause-filled : goal.returns-clause-filled
returns-clause-filled g c =
    let here : c.entries-entries.result.now ≡ (get_or c.args.parts.now.items c.args.at c.index.result.now).value = c.entries-entries.ensures ∙ c.deref.ensures ∙ ap (λ a. a.value) c.index.ensures in
    let wide : c.args.cut < length c.entries-entries.result.now = subst (λ es. c.args.cut < length es) (sym here) (c.requires.right c.index.result.now) in
    let l : c.in_ok-left-2.left.value ≡ take c.args.cut c.entries-entries.result.now = c.in_ok-left-2.ensures.ok ∙ c.in_ok-left.ensures in
    let r : c.in_ok-right-2.right.value ≡ take (length c.entries-entries.result.now - c.args.cut) (drop c.args.cut c.entries-entries.result.now) = c.in_ok-right-2.ensures.ok ∙ c.in_ok-right.ensures in
    let r' : c.in_ok-right-2.right.value ≡ drop c.args.cut c.entries-entries.result.now = r ∙ ends c.entries-entries.result.now c.args.cut in
    subst (λ ps. AllFilled (set ps c.args.at c.in_ok-left-2.left)) (sym (c.in_ok-insert.ensures.items ∙ ap (λ n. insert c.args.parts.now.items n c.in_ok-right-2.right) (add-one c.args.at)))
    (split-filled c.args.parts.now.items c.args.at c.in_ok-left-2.left c.in_ok-right-2.right c.requires.within
    (subst (λ es. 0 < length es) (sym l) (long_take c.entries-entries.result.now c.args.cut c.requires.left wide))
    (subst (λ es. 0 < length es) (sym r') (long_drop c.entries-entries.result.now c.args.cut wide)) c.requires.filled)

pub returns-clause-entries : goal.returns-clause-entries
returns-clause-entries g c =
    let here : c.entries-entries.result.now ≡ (get_or c.args.parts.now.items c.args.at c.index.result.now).value = c.entries-entries.ensures ∙ c.deref.ensures ∙ ap (λ a. a.value) c.index.ensures in
    let l : c.in_ok-left-2.left.value ≡ take c.args.cut c.entries-entries.result.now = c.in_ok-left-2.ensures.ok ∙ c.in_ok-left.ensures in
    let r : c.in_ok-right-2.right.value ≡ take (length c.entries-entries.result.now - c.args.cut) (drop c.args.cut c.entries-entries.result.now) = c.in_ok-right-2.ensures.ok ∙ c.in_ok-right.ensures in
    let r' : c.in_ok-right-2.right.value ≡ drop c.args.cut c.entries-entries.result.now = r ∙ ends c.entries-entries.result.now c.args.cut in
    let both : c.in_ok-left-2.left.value ++ c.in_ok-right-2.right.value ≡ c.entries-entries.result.now = (λ i. l i ++ r' i) ∙ take-append-drop c.args.cut c.entries-entries.result.now in
    ap (λ ps. joined (set ps c.args.at c.in_ok-left-2.left)) (c.in_ok-insert.ensures.items ∙ ap (λ n. insert c.args.parts.now.items n c.in_ok-right-2.right) (add-one c.args.at))
    ∙ split-joined c.args.parts.now.items c.args.at c.index.result.now c.in_ok-left-2.left c.in_ok-right-2.right c.requires.within (both ∙ here)
