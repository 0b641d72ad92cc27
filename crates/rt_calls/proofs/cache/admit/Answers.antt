use Rattle.std.proofs.Common.{◌≡◌, ◌∙◌, true, List, [], ◌∷◌, sym, subst}
use Rattle.std.specs.List.{list_all, All, Contains}
use Rattle.std.proofs.lemmas.List.Elements.{All-nil, All-cons}
use Rattle.rt_tree.specs.TreeEq.{both_first, both_second}
use Rattle.rt_query.specs.Queries.{Query}
use Rattle.rt_cache.specs.Recover.{is_among}
use Rattle.rt_cache.specs.Runs.{IsKept}
use Rattle.rt_cache.proofs.Among.{of_among}
use Rattle.rt_calls.proofs.cache.admit.Goals as goal

each : (those queries : List Query) → list_all (is_among those) queries ≡ true → All (Contains those) queries
each those [] e = All-nil (Contains those)
each those (q ∷ queries) e =
    All-cons (Contains those) q queries (of_among those q (both_first (is_among those q) (list_all (is_among those) queries) e))
    (each those queries (both_second (is_among those q) (list_all (is_among those) queries) e))

-- the listens kept are registered
pub returns-then-are_among : goal.returns-then-are_among
returns-then-are_among c =
    let all : list_all (is_among c.as_slice.result.now) c.as_slice-in-Recover.result.now ≡ true = sym c.are_among.ensures ∙ c.if-are_among.true in
    subst (IsKept c.args.brought.now) (sym c.in-Recover.is)
    (subst (λ (ks : List Query). All (Contains c.in-Recover.registered) ks) c.as_slice-in-Recover.ensures
    (subst (λ (rs : List Query). All (Contains rs) c.as_slice-in-Recover.result.now) c.as_slice.ensures (each c.as_slice.result.now c.as_slice-in-Recover.result.now all)))
