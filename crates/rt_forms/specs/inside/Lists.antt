-- Filtered forms with the numbers of their listeners, as a list.
use Rattle.std.specs.Prelude.{◌≡◌, ◌+◌, ℕ, suc, true, cond, ◌==◌, length, List, [], ◌∷◌, Option, Some, None}
use Rattle.std.specs.Option.{option_map}
use Rattle.rt_tree.specs.PathTree.{Path}
use Rattle.rt_query.specs.Queries.{Query, is_filtered}
use Rattle.rt_query.specs.QueryEq.{query_eq}
use Rattle.rt_forms.specs.Numbers.{with_number, without_number}
use Rattle.rt_forms.specs.inside.Trees.{among, of_filtered, AreAt}

-- where a form stands
abbrev pub entry_at : Query → List (Query × List ℕ) → Option ℕ
entry_at q [] = None
entry_at q (e ∷ es) = cond (query_eq e.0 q) (Some 0) (option_map suc (entry_at q es))

-- a form got a listener more
pub record IsJoined (old new : List (Query × List ℕ)) (r : Query) (n : ℕ) : Type 0 where
  pub numbers : (q : Query) → among q new ≡ cond (query_eq r q) (with_number n (among q old)) (among q old)
  pub holds : of_filtered new ≡ of_filtered old + 1
  pub at : (p : Path) → is_filtered r ≡ true → r.path ≡ p → AreAt p old → AreAt p new

-- the forms with a listener less: a form that has none goes
abbrev pub parted : Query → ℕ → List (Query × List ℕ) → List (Query × List ℕ)
parted q n [] = []
parted q n (e ∷ es) =
    cond (query_eq e.0 q) (cond (length (without_number n e.1) == 0) es ((e.0, without_number n e.1) ∷ es)) (e ∷ parted q n es)
