-- A walk over some values and then others.
use Rattle.std.proofs.Common.{◌≡◌, ℕ, suc, ◌+◌, ◌<◌, length, get_or, drop, String, Global, string_bytes, true, false, cond, List, [], ◌∷◌, ◌++◌, nat_le, Some, None, Result, Ok, Err, ◌⊎◌, inl, inr, refl, sym, ap, ◌∙◌, subst}
use Rattle.std.proofs.lemmas.List.{drop_more}
use Rattle.std.proofs.lemmas.Result.{err_from_is_err_and}
use Rattle.std.specs.Option.{option_map_or}
use Rattle.std.specs.Result.{IsErrAnd, IfErr}
use Rattle.serde_json.specs.Data.{item, member}
use Rattle.serde_json.specs.View.{view, items_view, members_view}
use Rattle.serde_json.specs.declared.value.Value.{Value}
use Rattle.rt_tree.specs.declared.error.TreeError.{TreeError}
use Rattle.rt_tree.specs.declared.error.TreeError.TheVariants.{TooManyNodes, NoMemory}
use Rattle.rt_tree.specs.Reading.{Visit, walked, place_fault}

abbrev after : Result ℕ TreeError → List Visit → Result ℕ TreeError
after (Ok m) ws = walked m ws
after (Err e) ws = Err e

both : (n : ℕ) (vs ws : List Visit) → walked n (vs ++ ws) ≡ after (walked n vs) ws
both n [] ws = refl
both n (v ∷ vs) ws =
    elim (nat_le 65536 n) as (λ b. cond b (Err TooManyNodes) (option_map_or Err (place_fault v) (walked (suc n) (vs ++ ws))) ≡ after (cond b (Err TooManyNodes) (option_map_or Err (place_fault v) (walked (suc n) vs))) ws) [
      | true ↦ refl
      | false ↦ elim (place_fault v) as (λ o. option_map_or Err o (walked (suc n) (vs ++ ws)) ≡ after (option_map_or Err o (walked (suc n) vs)) ws) [
        | None ↦ both (suc n) vs ws
        | Some e ↦ refl
      ]
    ]

pub walked-goes_on : (n m : ℕ) (vs ws : List Visit) → Ok m ≡ walked n vs → walked n (vs ++ ws) ≡ walked m ws
walked-goes_on n m vs ws e = both n vs ws ∙ ap (λ r. after r ws) (sym e)

pub walked-stops : (n : ℕ) (f : TreeError) (vs ws : List Visit) → Err f ≡ walked n vs → walked n (vs ++ ws) ≡ Err f
walked-stops n f vs ws e = both n vs ws ∙ ap (λ r. after r ws) (sym e)

-- the fault that a `?` passes on
pub passed_on : (r : Result ℕ TreeError) (f : TreeError) → IsErrAnd r (λ e. e ≡ f) → r ≡ Err f
passed_on r f h = let p = err_from_is_err_and r h in p.1 ∙ ap Err p.2

pub passes_on : {A : Type 0} (r : Result A TreeError) (f : TreeError) (P : TreeError → Type 0) → IsErrAnd r (λ e. e ≡ f) → P f → IfErr r P
passes_on r f P h p = let q = err_from_is_err_and r h in subst (λ s. IfErr s P) (sym (q.1 ∙ ap Err q.2)) p

-- a walk that has come to vs ends there, or memory lacks
pub stops_there : (r : Result ℕ TreeError) (n : ℕ) (vs ws : List Visit) (e : TreeError) → r ≡ walked n (vs ++ ws) → (walked n vs ≡ Err e) ⊎ (e ≡ NoMemory) → (r ≡ Err e) ⊎ (e ≡ NoMemory)
stops_there r n vs ws e so_far (inl f) = inl (so_far ∙ walked-stops n e vs ws (sym f))
stops_there r n vs ws e so_far (inr f) = inr f

-- ---- over items and over members
pub item_next : (xs : List Value) (i : ℕ) (x : Value) → i < length xs → x ≡ get_or xs i x → items_view (drop i xs) ≡ item (view x) (items_view (drop (i + 1) xs))
item_next xs i x within is = ap items_view (drop_more xs i x within) ∙ ap (λ y. item (view y) (items_view (drop (i + 1) xs))) (sym is)

pub member_next : (es rest : List (String Global × Value)) (k : String Global) (v : Value) → es ≡ (k, v) ∷ rest → members_view es ≡ member (string_bytes k) (view v) (members_view rest)
member_next es rest k v is = ap members_view is
