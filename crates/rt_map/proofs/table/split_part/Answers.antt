use Rattle.std.proofs.Common.{◌≡◌, ◌∙◌, ap, sym, subst, ◌<◌, ◌++◌, length, set, get_or, add-one, IfSome}
use Rattle.std.specs.List.{insert}
use Rattle.rt_map.specs.inside.Joined.{joined, AllFilled}
use Rattle.rt_map.proofs.Parts.{split-joined, split-filled}
use Rattle.rt_map.proofs.table.split_part.Goals as goal

pub returns-clause-filled : goal.returns-clause-filled
returns-clause-filled g c =
    let l : 0 < length c.in-Some.left = subst (λ o. IfSome o (λ p. 0 < length p.0)) c.in-Some.is c.in_ok-left.ensures.left in
    let r : 0 < length c.in-Some.right = subst (λ o. IfSome o (λ p. 0 < length p.1)) c.in-Some.is c.in_ok-left.ensures.right in
    subst (λ ps. AllFilled (set ps c.args.at c.in_ok-left-2.left)) (sym (c.in_ok-insert.ensures.items ∙ ap (λ n. insert c.args.parts.now.items n c.in_ok-right.right) (add-one c.args.at)))
    (split-filled c.args.parts.now.items c.args.at c.in_ok-left-2.left c.in_ok-right.right c.requires.within
    (subst (λ es. 0 < length es) (sym c.in_ok-left-2.ensures.ok) l) (subst (λ es. 0 < length es) (sym c.in_ok-right.ensures.ok) r) c.requires.filled)

pub returns-clause-entries : goal.returns-clause-entries
returns-clause-entries g c =
    let here : c.deref.result.now ≡ (get_or c.args.parts.now.items c.args.at c.index.result.now).value = c.deref.ensures ∙ ap (λ a. a.value) c.index.ensures in
    let all : c.in-Some.left ++ c.in-Some.right ≡ c.deref.result.now = subst (λ o. IfSome o (λ p. p.0 ++ p.1 ≡ c.deref.result.now)) c.in-Some.is c.in_ok-left.ensures.all in
    let both : c.in_ok-left-2.left.value ++ c.in_ok-right.right.value ≡ c.deref.result.now = (λ i. c.in_ok-left-2.ensures.ok i ++ c.in_ok-right.ensures.ok i) ∙ all in
    ap (λ ps. joined (set ps c.args.at c.in_ok-left-2.left)) (c.in_ok-insert.ensures.items ∙ ap (λ n. insert c.args.parts.now.items n c.in_ok-right.right) (add-one c.args.at))
    ∙ split-joined c.args.parts.now.items c.args.at c.index.result.now c.in_ok-left-2.left c.in_ok-right.right c.requires.within (both ∙ here)
