-- The filtered ones of the registered forms, as they stand beside these.
use Rattle.std.specs.Prelude.{◌≡◌, ◌<◌, ◌==◌, nat_lt, Bool, ◌&&◌, ◌||◌, List, map}
use Rattle.std.specs.List.{filter, AllPairs}
use Rattle.std.specs.Ordering.{is_lt}
use Rattle.rt_tree.specs.PathTree.{Path, path_cmp, path_eq}
use Rattle.rt_query.specs.Queries.{Query, is_filtered}
use Rattle.rt_cache.specs.declared.forms.Form.{Form}
use Rattle.rt_cache.specs.inside.ByPath.{AreByPath}

-- the query of a form, and those of forms
abbrev pub form_query : Form → Query
form_query f = f.query

abbrev pub queries_of : List Form → List Query
queries_of forms = map form_query forms

-- whether a form is of the path, and whether it is filtered besides
abbrev pub stands_at : Path → Form → Bool
stands_at p f = path_eq (f.query).path p

abbrev pub is_filtered_at : Path → Form → Bool
is_filtered_at p f = is_filtered f.query && stands_at p f

-- whether it is of the path and the stamp of the form
abbrev pub is_same_form : Form → Form → Bool
is_same_form f g = stands_at (f.query).path g && g.stamp == f.stamp

-- whether another stands before the form: by its path, and at one path by its stamp
abbrev pub is_form_before : Form → Form → Bool
is_form_before f g =
    is_lt (path_cmp (g.query).path (f.query).path) || stands_at (f.query).path g && nat_lt g.stamp f.stamp

-- stamps rise; the filtered forms stand by their paths, and those of one path in the order of all
pub record AreFilteredOf (registered filtered : List Form) : Type 0 where
  pub rising : AllPairs (λ (f g : Form). f.stamp < g.stamp) registered
  pub order : AreByPath form_query filtered
  pub same : (p : Path) → filter (stands_at p) filtered ≡ filter (is_filtered_at p) registered
