-- The entries of an update, one after another.
use Rattle.std.proofs.Common.{◌≡◌, ℕ, List, [], ◌∷◌, ◌++◌, Result, Ok, Err, refl, sym, ap, ◌∙◌, append_assoc}
use Rattle.serde_json.specs.Data.{Data, Members, member}
use Rattle.rt_tree.specs.Assignments.{Assignment}
use Rattle.rt_tree.specs.PathTree.{Path}
use Rattle.rt_http.specs.Asks.{entries_in, entry_of}
use Rattle.rt_http.specs.Steps.{and_then}
use Rattle.rt_http.specs.declared.fault.Fault.{Fault}

shift : (done : List Assignment) (entry : Assignment) (rest : Result (List Assignment) Fault)
    → and_then (and_then rest (λ xs. Ok (entry ∷ xs))) (λ xs. Ok (done ++ xs))
    ≡ and_then rest (λ xs. Ok ((done ++ entry ∷ []) ++ xs))
shift done entry (Err e) = refl
shift done entry (Ok xs) = ap Ok (sym (append_assoc done (entry ∷ []) xs))

-- one more member
pub entries_more : (base : Path) (all : Result (List Assignment) Fault) (name : List ℕ) (d : Data) (ms : Members)
    (done : List Assignment) (entry : Assignment)
    → all ≡ and_then (entries_in base (member name d ms)) (λ xs. Ok (done ++ xs))
    → entry_of base name d ≡ Ok entry
    → all ≡ and_then (entries_in base ms) (λ xs. Ok ((done ++ entry ∷ []) ++ xs))
entries_more base all name d ms done entry e is =
    e
    ∙ ap (λ r. and_then (and_then r (λ x. and_then (entries_in base ms) (λ xs. Ok (x ∷ xs)))) (λ xs. Ok (done ++ xs))) is
    ∙ shift done entry (entries_in base ms)
