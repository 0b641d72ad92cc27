use Rattle.std.proofs.Common.{◌∙◌, sym}
use Rattle.std.specs.Arc.{arc_str_bytes}
use Rattle.std.specs.Ordering.{nat_cmp}
use Rattle.std.specs.Cmp.Lexicographic.{slice_cmp}
use Rattle.rt_tree.proofs.KeyWords.{cmp-head, cmp-next, cmp-words}
use Rattle.rt_tree.proofs.key.KeyOrd.cmp.Goals as goal

-- by the first words
pub returns-then-self-other : goal.returns-then-self-other
returns-then-self-other c =
    let a = c.self.inside in
    let b = c.other.inside in
    c.cmp.ensures
    ∙ sym (cmp-head (arc_str_bytes a.text) (arc_str_bytes b.text) a.head a.next b.head b.next c.self.invariant.1 c.other.invariant.1 c.self.invariant.0 c.other.invariant.0 c.if-self-other.true)
    ∙ (λ i. slice_cmp nat_cmp (c.self.view_is i) (c.other.view_is i))

-- by the next
pub returns-then-self-other-2 : goal.returns-then-self-other-2
returns-then-self-other-2 c =
    let a = c.self.inside in
    let b = c.other.inside in
    c.cmp-then-self-other-2.ensures
    ∙ sym (cmp-next (arc_str_bytes a.text) (arc_str_bytes b.text) a.head a.next b.head b.next c.self.invariant.1 c.other.invariant.1 c.self.invariant.0 c.other.invariant.0 c.if-self-other.false c.if-self-other-2.true)
    ∙ (λ i. slice_cmp nat_cmp (c.self.view_is i) (c.other.view_is i))

-- both texts are in their words
pub returns-then-self-eq0 : goal.returns-then-self-eq0
returns-then-self-eq0 c =
    let a = c.self.inside in
    let b = c.other.inside in
    sym (cmp-words (arc_str_bytes a.text) (arc_str_bytes b.text) a.head a.next b.head b.next c.self.invariant.1 c.other.invariant.1 c.self.invariant.0 c.other.invariant.0 c.if-self-other.false c.if-self-other-2.false c.if-self-eq0.true)
    ∙ (λ i. slice_cmp nat_cmp (c.self.view_is i) (c.other.view_is i))
