-- The members of an object, one after another.
use Rattle.std.proofs.Common.{◌≡◌, List, [], ◌∷◌, ◌++◌, String, Global, string_bytes, sym, ap, ap₂, ◌∙◌}
use Rattle.std.proofs.Common.{append_assoc, append-nil, reverse, Result, Ok, Err}
use Rattle.std.specs.Prelude.{IfOk}
use Rattle.std.proofs.lemmas.List.{reverse-reverse}
use Rattle.serde_json.specs.View.{view, members_view}
use Rattle.serde_json.specs.declared.value.Value.{Value}
use Rattle.rt_tree.specs.Leaves.{Key}
use Rattle.rt_tree.specs.Trees.{PathTree, object}
use Rattle.rt_tree.specs.Reading.{member_trees, tree_of_data}

-- one member more is read
pub next_member : (all done : List (Key × PathTree)) (es rest : List (String Global × Value)) (k : String Global)
    (v : Value) (key : Key) (child : PathTree) → es ≡ (k, v) ∷ rest → key ≡ string_bytes k
    → child ≡ tree_of_data (view v) → all ≡ done ++ member_trees (members_view es)
    → all ≡ (done ++ (key, child) ∷ []) ++ member_trees (members_view rest)
next_member all done es rest k v key child is ek ec e =
    e ∙ ap (λ x. done ++ member_trees (members_view x)) is
    ∙ ap₂ (λ (a : Key) (b : PathTree). done ++ ((a, b) ∷ member_trees (members_view rest))) (sym ek) (sym ec)
    ∙ sym (append_assoc done ((key, child) ∷ []) (member_trees (members_view rest)))

-- all are read
all_members : (all done turned : List (Key × PathTree)) (es : List (String Global × Value)) (tree : PathTree)
    → es ≡ [] → all ≡ done ++ member_trees (members_view es) → turned ≡ reverse done
    → tree ≡ object (reverse turned) → tree ≡ object all
all_members all done turned es tree none e turns is =
    is ∙ ap (λ x. object (reverse x)) turns ∙ ap object (reverse-reverse done) ∙ ap object (sym (append-nil done))
    ∙ ap (λ x. object (done ++ member_trees (members_view x))) (sym none) ∙ ap object (sym e)

pub all_read : {E : Type 0} (r : Result PathTree E) (all done turned : List (Key × PathTree))
    (es : List (String Global × Value)) → es ≡ [] → all ≡ done ++ member_trees (members_view es)
    → turned ≡ reverse done → IfOk r (λ tree. tree ≡ object (reverse turned)) → IfOk r (λ tree. tree ≡ object all)
all_read (Ok tree) all done turned es none e turns is = all_members all done turned es tree none e turns is
all_read (Err why) all done turned es none e turns is = tt
