-- Texts, paths and trees that are read from bytes.
use Rattle.std.proofs.Common.{◌≡◌, ◌⊎◌, ℕ, List, Option, Some, None, Result, Ok, Err, IfSome, true, false, cond, refl, sym, subst, ap, ◌∙◌, inl, inr}
use Rattle.std.specs.Prelude.{IfErr, IfOk}
use Rattle.std.specs.Option.{option_map, option_map_or}
use Rattle.std.specs.Str.{IsUtf8, is_utf8}
use Rattle.std.proofs.lemmas.Result.{IfOk-weaker}
use Rattle.std.proofs.lemmas.Str.{is_utf8-from_IsUtf8, IsUtf8-from_is_utf8}
use Rattle.serde_json.specs.Data.{Data}
use Rattle.serde_json.specs.Read.{read}
use Rattle.rt_tree.specs.declared.error.TreeError.{TreeError}
use Rattle.rt_tree.specs.declared.error.TreeError.TheVariants.{NotJson}
use Rattle.rt_tree.specs.Path.{path_fault, path_keys}
use Rattle.rt_tree.specs.PathTree.{Path, PathTree}
use Rattle.rt_tree.specs.Reading.{data_fault, text_fault, tree_of_data}
use Rattle.rt_lines.specs.declared.error.LineError.{LineError}
use Rattle.rt_lines.specs.declared.error.LineError.TheVariants.{Bad, NoMemory, Refused}
use Rattle.rt_lines.specs.declared.error.Refusal.TheVariants.{Tree}
use Rattle.rt_lines.specs.Reading.{and_then, path_in, unless}
use Rattle.rt_world.specs.declared.step.Call.{Call}
use Rattle.rt_query.specs.Queries.{Query}
use Rattle.rt_foreign.specs.Reading.{asked_read, filtered_read, in_order, json_read, limited_words, listen_words}
use Rattle.rt_foreign.specs.Reading.{order_alone, order_read, ordered_read, path_read, query_in}
use Rattle.rt_foreign.specs.Reading.{text_read, tree_of, tree_read}

-- bytes that are a text
pub text_good : (bytes text : List ℕ) → text ≡ bytes → IsUtf8 bytes → text_read bytes ≡ Ok text
text_good bytes text same u = rw (is_utf8-from_IsUtf8 bytes u) (ap Ok (sym same))

-- bytes that are none
pub text_bad : (bytes : List ℕ) → ¬ (IsUtf8 bytes) → text_read bytes ≡ Err Bad
text_bad bytes h =
    elim (is_utf8 bytes) as (λ b. is_utf8 bytes ≡ b → cond b (Ok bytes) (Err Bad) ≡ Err Bad) [
      | true ↦ λ e. absurd (h (IsUtf8-from_is_utf8 bytes e))
      | false ↦ λ e. refl
    ] refl

-- what would be refused is not answered
unless_ok : {A : Type 0} (o : Option TreeError) (x y : A) → IfSome o (λ e. Ok x ≡ Err e) → x ≡ y → unless o y ≡ Ok x
unless_ok None x y h is = cc
unless_ok (Some e) x y h is = cc

-- a path that is read
pub path_good : (bytes text : List ℕ) (path : Path) → text_read bytes ≡ Ok text
    → IfSome (path_fault text) (λ e. Ok path ≡ Err e) → path ≡ path_keys text → path_read bytes ≡ Ok path
path_good bytes text path is h same =
    ap (λ r. and_then r path_in) is ∙ unless_ok (path_fault text) path (path_keys text) h same

-- a text that is no path
pub path_bad : (bytes text : List ℕ) (e : TreeError) → text_read bytes ≡ Ok text → path_fault text ≡ Some e
    → path_read bytes ≡ Err (Refused (Tree e))
path_bad bytes text e is fault =
    ap (λ r. and_then r path_in) is ∙ ap (λ o. unless o (path_keys text)) fault

good : (o : Option Data) (t : PathTree) → option_map tree_of_data o ≡ Some t
    → option_map_or data_fault o (Some NotJson) ≡ None → tree_of o ≡ Ok t
good None t is fine = cc
good (Some d) t is fine = cc

bad : (o : Option Data) (e : TreeError) → option_map_or data_fault o (Some NotJson) ≡ Some e
    → tree_of o ≡ Err (Refused (Tree e))
bad None e is = cc
bad (Some d) e is = cc

-- a tree that is read
pub tree_good : (bytes text : List ℕ) (t : PathTree) → text_read bytes ≡ Ok text
    → option_map tree_of_data (read text) ≡ Some t → text_fault text ≡ None → tree_read bytes ≡ Ok t
tree_good bytes text t is made fine =
    ap (λ r. and_then r (λ s. tree_of (read s))) is ∙ good (read text) t made fine

-- a text that is no tree
pub tree_bad : (bytes text : List ℕ) (e : TreeError) → text_read bytes ≡ Ok text → text_fault text ≡ Some e
    → tree_read bytes ≡ Err (Refused (Tree e))
tree_bad bytes text e is fault = ap (λ r. and_then r (λ s. tree_of (read s))) is ∙ bad (read text) e fault

-- ---- lines and queries

-- a line that is read, by what it is equal to
pub line_read : (r : Result Call LineError) (line words : List ℕ) → line ≡ words
    → IfOk r (λ call. order_read line ≡ Ok call) → IfOk r (λ call. order_read words ≡ Ok call)
line_read r line words is h = subst (λ l. IfOk r (λ call. order_read l ≡ Ok call)) is h

-- a line that is not read, by what it is equal to
pub line_fault : (r : Result Call LineError) (line words : List ℕ) → line ≡ words
    → IfErr r (λ e. (order_read line ≡ Err e) ⊎ (e ≡ NoMemory))
    → IfErr r (λ e. (order_read words ≡ Err e) ⊎ (e ≡ NoMemory))
line_fault r line words is h = subst (λ l. IfErr r (λ e. (order_read l ≡ Err e) ⊎ (e ≡ NoMemory))) is h

-- the query of a path and a `q` is that of its order alone, or of the message that listens with them
pub filtered_is : (path_bytes bytes path q : List ℕ) (d : Data) (order : Option (List ℕ)) → path ≡ path_bytes
    → text_read bytes ≡ Ok q → json_read q ≡ Ok d → order ≡ order_alone d
    → filtered_read path_bytes bytes ≡ asked_read path q order
filtered_is path_bytes bytes path q d order same is json alone =
    ap (λ r. and_then r (λ t. and_then (json_read t) (λ u. asked_read path_bytes t (order_alone u)))) is
    ∙ ap (λ r. and_then r (λ u. asked_read path_bytes q (order_alone u))) json
    ∙ ap (asked_read path_bytes q) (sym alone) ∙ ap (λ p. asked_read p q order) (sym same)

-- a message that listens is read, by what it is equal to
pub query_found : (r : Result Query LineError) (text words : List ℕ) → text ≡ words
    → IfOk r (λ query. query_in text ≡ Ok query) → IfOk r (λ query. query_in words ≡ Ok query)
query_found r text words is h = subst (λ t. IfOk r (λ query. query_in t ≡ Ok query)) is h

-- one that is not read
pub query_lost : (r : Result Query LineError) (text words : List ℕ) → text ≡ words
    → IfErr r (λ e. (query_in text ≡ Err e) ⊎ (e ≡ NoMemory))
    → IfErr r (λ e. (query_in words ≡ Err e) ⊎ (e ≡ NoMemory))
query_lost r text words is h = subst (λ t. IfErr r (λ e. (query_in t ≡ Err e) ⊎ (e ≡ NoMemory))) is h

-- an order alone is what a message with a limit asks for, without the limit
ordered_is : (path order q : List ℕ) (r : Result Query LineError) → q ≡ limited_words order
    → query_in (listen_words path q) ≡ r → ordered_read path order ≡ and_then r (λ query. Ok (in_order query))
ordered_is path order q r is found =
    ap (λ w. and_then (query_in (listen_words path w)) (λ query. Ok (in_order query))) (sym is)
    ∙ ap (λ it. and_then it (λ query. Ok (in_order query))) found

pub ordered_found : (path order q : List ℕ) (query : Query) (r : Result Query LineError) → q ≡ limited_words order
    → query_in (listen_words path q) ≡ Ok query → IfOk r (λ all. all ≡ in_order query)
    → IfOk r (λ all. ordered_read path order ≡ Ok all)
ordered_found path order q query r is found =
    IfOk-weaker r _ _ (λ all same. ordered_is path order q (Ok query) is found ∙ ap Ok (sym same))

pub ordered_lost : (path order q : List ℕ) (e : LineError) → q ≡ limited_words order
    → (query_in (listen_words path q) ≡ Err e) ⊎ (e ≡ NoMemory)
    → (ordered_read path order ≡ Err e) ⊎ (e ≡ NoMemory)
ordered_lost path order q e is (inl found) = inl (ordered_is path order q (Err e) is found)
ordered_lost path order q e is (inr lacks) = inr lacks

-- what a `q` asks for is read, by what it is equal to
pub asked_found : (r : Result Query LineError) (whole asked : Result Query LineError) → whole ≡ asked
    → IfOk r (λ query. asked ≡ Ok query) → IfOk r (λ query. whole ≡ Ok query)
asked_found r whole asked is h = subst (λ t. IfOk r (λ query. t ≡ Ok query)) (sym is) h

pub asked_lost : (r : Result Query LineError) (whole asked : Result Query LineError) → whole ≡ asked
    → IfErr r (λ e. (asked ≡ Err e) ⊎ (e ≡ NoMemory)) → IfErr r (λ e. (whole ≡ Err e) ⊎ (e ≡ NoMemory))
asked_lost r whole asked is h = subst (λ t. IfErr r (λ e. (t ≡ Err e) ⊎ (e ≡ NoMemory))) (sym is) h
