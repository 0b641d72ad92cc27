-- What is noted of queries that were looked at.
use Rattle.std.proofs.Common.{◌≡◌, true, false, List, [], Option, Some, None, refl, sym, ap, subst, ◌∙◌}
use Rattle.std.specs.Prelude.{IfSome, if◌then◌else◌}
use Rattle.std.specs.Ordering.{is_eq}
use Rattle.std.specs.Cmp.{Equal-is}
use Rattle.rt_tree.specs.PathTree.{PathTree, sub}
use Rattle.rt_tree.specs.TreeEq.{tree_eq_tells}
use Rattle.rt_tree.specs.Assignments.{Assignment}
use Rattle.rt_query.specs.Queries.{Query}
use Rattle.rt_query.specs.QueryOrder.{query_cmp}
use Rattle.rt_query.specs.laws.QueryOrder.{exact_queries}
use Rattle.rt_peer.specs.Pushes.{seen, written}
use Rattle.rt_peer.specs.inside.Looked.{at_query, told_of, AreLooked}
use Rattle.rt_peer.specs.inside.Standing.{leaves_part}
use Rattle.rt_peer.proofs.StandingLaws.{kept, seen_so}

pub same_query : (q r : Query) → is_eq (query_cmp q r) ≡ true → q ≡ r
same_query q r e = exact_queries q r ((Equal-is (query_cmp q r)).0 e)

pub looked_none : (t u : PathTree) (looked : List (Query × Option PathTree)) → looked ≡ [] → AreLooked t u looked
looked_none t u looked none = subst (AreLooked t u) (sym none) (λ q. tt)

pub looked_more : (t u : PathTree) (q : Query) (told : Option PathTree) (old new : List (Query × Option PathTree))
    → ((r : Query) → at_query new r ≡ (if is_eq (query_cmp q r) then Some told else at_query old r))
    → told ≡ told_of t u q → AreLooked t u old → AreLooked t u new
looked_more t u q told old new more is h r =
    subst (λ o. IfSome o (λ x. x ≡ told_of t u r)) (sym (more r))
    (elim (is_eq (query_cmp q r)) as (λ b. is_eq (query_cmp q r) ≡ b
    → IfSome (if b then Some told else at_query old r) (λ x. x ≡ told_of t u r)) [
      | true ↦ λ e. is ∙ ap (told_of t u) (same_query q r e)
      | false ↦ λ e. h r
    ] refl)

-- what is noted of a query is what it is told
pub noted_is : (t u : PathTree) (q : Query) (told : Option PathTree) (looked : List (Query × Option PathTree))
    → Some told ≡ at_query looked q → AreLooked t u looked → told ≡ told_of t u q
noted_is t u q told looked e h = subst (λ o. IfSome o (λ x. x ≡ told_of t u q)) (sym e) (h q)

-- ---- what is told

-- where it shows the same
pub told_none : (t u : PathTree) (q : Query) → seen q t ≡ seen q u → None ≡ told_of t u q
told_none t u q e = sym (ap (λ b. if b then None else Some (seen q u)) ((tree_eq_tells (seen q t) (seen q u)).1 e))

-- the part stays
pub part_so : (t u : PathTree) (es : List Assignment) (q : Query) → sub u q.path ≡ sub (written t es) q.path → leaves_part t q.path es ≡ true
    → sub u q.path ≡ sub t q.path
part_so t u es q made e = made ∙ kept t q.path es e

pub still_none : (t u : PathTree) (es : List Assignment) (q : Query) → sub u q.path ≡ sub (written t es) q.path
    → leaves_part t q.path es ≡ true → None ≡ told_of t u q
still_none t u es q made e = told_none t u q (seen_so q t u (sym (part_so t u es q made e)))
