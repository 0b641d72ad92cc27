-- Calls and entries that are read one after another.
use Rattle.std.proofs.Common.{◌≡◌, List, [], ◌∷◌, ◌++◌, Option, Some, None, Result, Ok, Err, ℕ, refl, sym, ap, ◌∙◌, append_assoc}
use Rattle.std.specs.Option.{option_map, option_and_then}
use Rattle.std.proofs.lemmas.List.{map-append}
use Rattle.serde_json.specs.Data.{Data, Members, member}
use Rattle.serde_json.specs.Find.{as_array}
use Rattle.serde_json.specs.View.{items_view}
use Rattle.serde_json.specs.declared.value.Value.{Value}
use Rattle.rt_lines.specs.declared.call.QueryCall.{QueryCall as CodeCall}
use Rattle.rt_lines.specs.Calls.{QueryCall, call_in, calls_in, calls_of}
use Rattle.rt_lines.specs.Forms.{all_parts, part_in, part_words, parts_in}
use Rattle.rt_lines.specs.Words.{elements, random_in, twelve_of}
use Rattle.rt_lines.specs.Reading.{and_then, path_in, tree_in, in_front, entries_in}
use Rattle.rt_lines.specs.declared.error.LineError.{LineError}
use Rattle.rt_tree.specs.Assignments.{Assignment}
use Rattle.rt_tree.specs.PathTree.{Path, PathTree}
use Rattle.rt_lines.proofs.Parts.{elements-items_of}
use Rattle.rt_lines.specs.inside.FormView.{as_call, as_calls, views}

joined : (found : List CodeCall) (call : CodeCall) (o : Option (List QueryCall))
    → option_map (λ rest. as_calls found ++ rest) (option_map (λ rest. as_call call ∷ rest) o) ≡ option_map (λ rest. as_calls (found ++ call ∷ []) ++ rest) o
joined found call None = refl
joined found call (Some rest) =
    ap Some (sym (append_assoc (as_calls found) (as_call call ∷ []) rest) ∙ ap (λ xs. xs ++ rest) (sym (map-append as_call found (call ∷ []))))

-- the next call goes behind the others
pub calls-more : (all : Option (List QueryCall)) (found : List CodeCall) (d : Data) (ds : List Data) (call : CodeCall)
    → all ≡ option_map (λ rest. as_calls found ++ rest) (calls_of (d ∷ ds))
    → Some (as_call call) ≡ call_in d → all ≡ option_map (λ rest. as_calls (found ++ call ∷ []) ++ rest) (calls_of ds)
calls-more all found d ds call h is =
    h
    ∙ ap (λ o. option_map (λ rest. as_calls found ++ rest) (option_and_then (λ c. option_map (λ rest. c ∷ rest) (calls_of ds)) o)) (sym is)
    ∙ joined found call (calls_of ds)

pub calls_in_array : (d : Data) (vs : List Value) → Some (items_view vs) ≡ as_array d → calls_in d ≡ calls_of (views vs)
calls_in_array d vs e =
    ap (option_and_then (λ ds. calls_of (elements ds))) (sym e) ∙ ap calls_of (elements-items_of (views vs))

pub parts_in_array : (d : Data) (vs : List Value) → Some (items_view vs) ≡ as_array d → parts_in d ≡ all_parts (views vs)
parts_in_array d vs e =
    ap (option_and_then (λ ds. all_parts (elements ds))) (sym e) ∙ ap all_parts (elements-items_of (views vs))

pub part_in_array : (d : Data) (vs : List Value) → Some (items_view vs) ≡ as_array d → part_in d ≡ part_words (views vs)
part_in_array d vs e =
    ap (option_and_then (λ ds. part_words (elements ds))) (sym e) ∙ ap part_words (elements-items_of (views vs))

pub random_in_array : (d : Data) (vs : List Value) → Some (items_view vs) ≡ as_array d → random_in d ≡ twelve_of (views vs)
random_in_array d vs e =
    ap (option_and_then (λ ds. twelve_of (elements ds))) (sym e) ∙ ap twelve_of (elements-items_of (views vs))

joined_entries : (items : List Assignment) (a : Assignment) (r : Result (List Assignment) LineError)
    → and_then (in_front a.0 a.1 r) (λ rest. Ok (items ++ rest)) ≡ and_then r (λ rest. Ok ((items ++ a ∷ []) ++ rest))
joined_entries items a (Err e) = refl
joined_entries items a (Ok rest) = ap Ok (sym (append_assoc items (a ∷ []) rest))

-- the next member's entry goes behind the others
pub entries-more : (all : Result (List Assignment) LineError) (items : List Assignment) (name : List ℕ) (d : Data) (ms : Members) (path : Path) (tree : PathTree)
    → all ≡ and_then (entries_in (member name d ms)) (λ rest. Ok (items ++ rest))
    → path_in name ≡ Ok path → tree_in d ≡ Ok tree → all ≡ and_then (entries_in ms) (λ rest. Ok ((items ++ (path, tree) ∷ []) ++ rest))
entries-more all items name d ms path tree h is_path is_tree =
    h
    ∙ ap (λ (p : Result Path LineError). and_then (and_then p (λ q. and_then (tree_in d) (λ t. in_front q t (entries_in ms)))) (λ rest. Ok (items ++ rest))) is_path
    ∙ ap (λ (u : Result PathTree LineError). and_then (and_then u (λ t. in_front path t (entries_in ms))) (λ rest. Ok (items ++ rest))) is_tree
    ∙ joined_entries items (path, tree) (entries_in ms)
