-- Keys are compared byte by byte.
use Rattle.std.proofs.Common.{◌≡◌, ℕ, List, ◌==◌, sym, ◌∙◌}
use Rattle.std.specs.Bool.{one_answer}
use Rattle.std.specs.Cmp.Lexicographic.{pointwise}
use Rattle.std.proofs.lemmas.Slice.Eq.{bytes_eq-Decides}
use Rattle.rt_tree.specs.PathTree.{key_eq}
use Rattle.rt_tree.specs.TreeEq.{key_eq_tells}
use Rattle.rt_order.specs.Equality.{place_eq}
use Rattle.rt_order.proofs.cut.PlacePartialEq.eq.Goals as goal

same_test : (j k : List ℕ) → pointwise ◌==◌ j k ≡ key_eq j k
same_test j k = one_answer _ _ (bytes_eq-Decides j k) (key_eq_tells j k)

pub returns-in-Before-Before : goal.returns-in-Before-Before
returns-in-Before-Before c =
    let at = c.in-Before-Before in
    c.eq.ensures ∙ same_test at.key at.other ∙ (λ i. place_eq (sym at.is-0 i) (sym at.is-1 i))

pub returns-in-After-After : goal.returns-in-After-After
returns-in-After-After c =
    let at = c.in-After-After in
    c.eq-in-After-After.ensures ∙ same_test at.key at.other ∙ (λ i. place_eq (sym at.is-0 i) (sym at.is-1 i))
