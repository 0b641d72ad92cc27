-- Outside examples, which the prover computes: what changes of a new cover tell.
use Rattle.std.specs.Prelude.{◌≡◌, ℕ, List, [], ◌∷◌, map, Some, None, codes}
use Rattle.rt_tree.specs.Path.{path_keys}
use Rattle.rt_order.specs.declared.index.Index.{Index}
use Rattle.rt_query.specs.declared.query.Limit.TheVariants.{First}
use Rattle.rt_query.specs.Drafts.{finished}
use Rattle.rt_query.specs.Queries.{Query, plain}
use Rattle.rt_query.specs.Calls.{limited_to}
use Rattle.rt_query.specs.laws.Examples.{between, from}
use Rattle.rt_cover.specs.declared.error.CoverError.TheVariants.{UnknownTag, NoTag}
use Rattle.rt_cover.specs.State.{Cover, empty_cover, supplier}
use Rattle.rt_cover.specs.Runs.{Change, Add, Remove, Revoke, fault, told, after, after_all}

-- the tags that start, with the listeners that they are shown with, and the tags that stop
abbrev pub line : Cover → Change → List (ℕ × ℕ) × List ℕ
line c change = (map (λ k. (k.tag, k.listener)) (told c change).started, (told c change).stopped)

-- for each of some changes
abbrev pub lines : Cover → List Change → List (List (ℕ × ℕ) × List ℕ)
lines c [] = []
lines c (change ∷ rest) = line c change ∷ lines (after c change) rest

-- the first child of /a
abbrev pub first_child : Query
first_child = record {
  path = path_keys (codes "/a");
  index = Index.Key;
  range = record { lower = None; upper = None };
  limit = Some (First 1);
}

-- all of a path
abbrev pub whole : List ℕ → Query
whole p = plain (path_keys p)

-- a child, the parent's first child, and the parent; the parent's listener ends, and the child's
-- listen is revoked
abbrev pub changes : List Change
changes =
    Add 1 (whole (codes "/a/b")) ∷ Add 2 first_child ∷ Add 3 (whole (codes "/a"))
    ∷ Remove (3 ∷ []) ∷ Revoke 4 ∷ []

-- the parent takes over from both, and they from the parent
abbrev pub CoverChanges : Type 0
CoverChanges = lines (empty_cover 100) changes
    ≡ ((1, 1) ∷ [], []) ∷ ((2, 2) ∷ [], []) ∷ ((3, 3) ∷ [], 1 ∷ 2 ∷ [])
    ∷ ((4, 1) ∷ (5, 2) ∷ [], 3 ∷ []) ∷ ([], []) ∷ []

-- a tag is revoked once
abbrev pub RevokedOnce : Type 0
RevokedOnce = fault (after_all (empty_cover 100) changes) (Revoke 4) ≡ Some UnknownTag

-- two tags do not do for three listens
abbrev pub NoTagLeft : Type 0
NoTagLeft =
    let adds = Add 1 (whole (codes "/a")) ∷ Add 2 (whole (codes "/b")) ∷ [] in
    fault (after_all (empty_cover 2) adds) (Add 3 (whole (codes "/c"))) ≡ Some NoTag

-- a range of the values at one path, and the first in it
abbrev pub ranged : ℕ → ℕ → Query
ranged m n = finished (between m n)

abbrev pub first_ranged : ℕ → ℕ → Query
first_ranged m n = finished (limited_to (First 1) (between m n))

-- two ranges supply the third, which starts once both are gone; the first two start at once
abbrev pub range_changes : List Change
range_changes =
    Add 1 (ranged 1 9) ∷ Add 2 (ranged 3 20) ∷ Add 3 (ranged 4 8) ∷ Remove (1 ∷ [])
    ∷ Remove (2 ∷ []) ∷ []

abbrev pub RangesAreShared : Type 0
RangesAreShared = lines (empty_cover 100) range_changes
    ≡ ((1, 1) ∷ [], []) ∷ ((2, 2) ∷ [], []) ∷ ([], []) ∷ ([], 1 ∷ []) ∷ ((3, 3) ∷ [], 2 ∷ []) ∷ []

-- a wider range takes over from one with a limit, and gives it back
abbrev pub WiderTakesOver : Type 0
WiderTakesOver =
    lines (empty_cover 100) (Add 1 (first_ranged 5 9) ∷ Add 2 (finished (from 3)) ∷ Remove (2 ∷ []) ∷ [])
    ≡ ((1, 1) ∷ [], []) ∷ ((2, 2) ∷ [], 1 ∷ []) ∷ ((3, 1) ∷ [], 2 ∷ []) ∷ []

-- of two that supply a query the lesser tag is told
abbrev pub LesserTagSupplies : Type 0
LesserTagSupplies =
    let adds = Add 1 (ranged 3 20) ∷ Add 2 (ranged 1 9) ∷ [] in
    supplier (after_all (empty_cover 100) adds) (ranged 4 8) ≡ Some 1
