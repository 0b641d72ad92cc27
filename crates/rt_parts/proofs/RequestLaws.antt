-- Requests by number, with one more, without one, and of a closed seat.
use Rattle.std.proofs.Common.{◌≡◌, ℕ, zero, suc, ◌<◌, ◌==◌, nat_lt, Bool, true, false, cond, not, ◌||◌, List, [], ◌∷◌, ◌++◌, map, arith, refl, subst, sym, ap, ◌∙◌, get_or, slice_index_or, Some, None, eqb-true}
use Rattle.std.specs.Prelude.{is_some}
use Rattle.std.specs.BTreeMap.{insert_entry, is_at}
use Rattle.std.specs.List.{All, AllPairs, filter, find, list_any}
use Rattle.std.specs.Map.{lookup, remove_entry, values_of}
use Rattle.std.specs.Option.{option_eq}
use Rattle.std.specs.Ordering.{is_eq, match_ordering, nat_cmp}
use Rattle.std.specs.declared.cmp.Ordering.{Ordering}
use Rattle.std.specs.declared.cmp.Ordering.TheVariants.{Less, Equal, Greater}
use Rattle.std.proofs.lemmas.Bool.Decides.{nat_tests}
use Rattle.std.proofs.lemmas.List.Elements.{All-contains, All-head, All-map, All-tail}
use Rattle.std.proofs.lemmas.List.Kept.{AllPairs-cons, AllPairs-filter}
use Rattle.rt_cover.specs.laws.Pairs.{AllPairs-nil, AllPairs-append, AllPairs-map}
use Rattle.rt_world.specs.declared.step.Request.{Request}
use Rattle.rt_writes.specs.Writes.{Write, without}
use Rattle.rt_world.specs.steps.Closing.{unseated}
use Rattle.rt_world.specs.World.{pending}
use Rattle.rt_world.specs.laws.Steps.{SettledIsNotPending, UnseatedIsPending}
use Rattle.rt_parts.specs.inside.Requests.{IsTied, entry_of}

-- an order of numbers
abbrev InOrder : List Request → Type 0
InOrder rs = AllPairs (λ (r s : Request). r.id < s.id) rs

-- one above all comes last
pub rises_with : (rs : List Request) (new : Request) → InOrder rs → All (λ (r : Request). r.id < new.id) rs → InOrder (rs ++ new ∷ [])
rises_with rs new h low =
    AllPairs-append (λ (r s : Request). r.id < s.id) rs (new ∷ []) h
    (AllPairs-cons (λ (r s : Request). r.id < s.id) new [] (λ k d lt. absurd (omega arith)) (AllPairs-nil (λ (r s : Request). r.id < s.id)))
    (λ r s mr ms. at r s (All-contains (λ (x : Request). x.id < new.id) rs r low mr) ms.0 ms.1 ms.2)
  where
    at : (r s : Request) → r.id < new.id → (k : ℕ) → k < 1 → slice_index_or (new ∷ []) k s ≡ s → r.id < s.id
    at r s less zero lt e = subst (λ (x : Request). r.id < x.id) e less
    at r s less (suc k) lt e = absurd (omega arith)

id-unseated : (seat : ℕ) (r : Request) → (unseated seat r).id ≡ r.id
id-unseated seat r = elim (option_eq (λ a b. a == b) r.seat (Some seat)) as (λ b. (cond b (record r { seat = None }) r).id ≡ r.id) [ true ↦ refl | false ↦ refl ]

-- numbers stay where a seat goes
pub rises_unseated : (seat : ℕ) (rs : List Request) → InOrder rs → InOrder (map (unseated seat) rs)
rises_unseated seat rs h =
    AllPairs-map (unseated seat) (λ (r s : Request). r.id < s.id) rs
    (λ i j d lt within. let low = h i j d lt within in omega (arith, low, id-unseated seat (slice_index_or rs i d), id-unseated seat (slice_index_or rs j d)))

-- one is found where there is one
pub is_found : (test : Request → Bool) (rs : List Request) → is_some (find test rs) ≡ list_any test rs
is_found test [] = refl
is_found test (r ∷ rs) = elim (test r) as (λ b. is_some (cond b (Some r) (find test rs)) ≡ (b || list_any test rs)) [ true ↦ refl | false ↦ is_found test rs ]

-- ---- each under its number

pub values_numbered : (rs : List Request) → values_of (map entry_of rs) ≡ rs
values_numbered [] = refl
values_numbered (r ∷ rs) = ap (λ z. r ∷ z) (values_numbered rs)

is_key : (a c : ℕ) → is_eq (nat_cmp a c) ≡ (c == a)
is_key a c =
    elim (nat_lt a c) as (λ b. nat_lt a c ≡ b → is_eq (cond b Less (cond (a == c) Equal Greater)) ≡ (c == a)) [
      | true ↦ λ e. sym (other a c e)
      | false ↦ λ e. elim (a == c) as (λ d. (a == c) ≡ d → is_eq (cond d Equal Greater) ≡ (c == a)) [
        | true ↦ λ f. sym (back a c true f)
        | false ↦ λ f. sym (back a c false f)
      ] refl
    ] refl
  where
    other : (a c : ℕ) → nat_lt a c ≡ true → (c == a) ≡ false
    other a c e = grind (arith, nat_tests)

    back : (a c : ℕ) (b : Bool) → (a == c) ≡ b → (c == a) ≡ b
    back a c true e = grind (arith, nat_tests)
    back a c false e = grind (arith, nat_tests)

-- the one of a number
pub found_under : (id : ℕ) (rs : List Request) → lookup (is_at (nat_cmp id)) (map entry_of rs) ≡ find (λ (r : Request). r.id == id) rs
found_under id [] = refl
found_under id (r ∷ rs) = λ i. cond (is_key id r.id i) (Some r) (found_under id rs i)

-- the others
pub left_under : (id : ℕ) (rs : List Request) → InOrder rs → remove_entry (is_at (nat_cmp id)) (map entry_of rs) ≡ map entry_of (filter (λ (r : Request). not (r.id == id)) rs)
left_under id [] h = refl
left_under id (r ∷ rs) h =
    let rest = filter (λ (s : Request). not (s.id == id)) rs in
    ap (λ b. cond b (map entry_of rs) (entry_of r ∷ remove_entry (is_at (nat_cmp id)) (map entry_of rs))) (is_key id r.id)
    ∙ elim (r.id == id) as (λ b. (r.id == id) ≡ b → cond b (map entry_of rs) (entry_of r ∷ remove_entry (is_at (nat_cmp id)) (map entry_of rs)) ≡ map entry_of (cond (not b) (r ∷ rest) rest)) [
      | true ↦ λ e.
          let here : r.id ≡ id = eqb-true r.id id e in
          ap (map entry_of) (all_stay rs (λ k d lt. let above : r.id < (get_or rs k d).id = h 0 (suc k) d (omega arith) (omega arith) in omega (arith, here, above)))
      | false ↦ λ e. ap (λ es. entry_of r ∷ es) (left_under id rs (λ i j d lt within. h (suc i) (suc j) d (omega arith) (omega arith)))
    ] refl
  where
    higher : (m n : ℕ) → n < m → (m == n) ≡ false
    higher m n lt = grind (arith, nat_tests)

    all_stay : (xs : List Request) → All (λ (s : Request). id < s.id) xs → xs ≡ filter (λ (s : Request). not (s.id == id)) xs
    all_stay [] low = refl
    all_stay (x ∷ xs) low =
        ap (λ ys. x ∷ ys) (all_stay xs (All-tail (λ (s : Request). id < s.id) x xs low))
        ∙ sym (ap (λ b. cond (not b) (x ∷ filter (λ (s : Request). not (s.id == id)) xs) (filter (λ (s : Request). not (s.id == id)) xs)) (higher x.id id (All-head (λ (s : Request). id < s.id) x xs low)))

-- one above all comes last
pub put_last : (id : ℕ) (new : Request) (es : List (ℕ × Request)) → All (λ (e : ℕ × Request). e.0 < id) es → insert_entry nat_cmp es id new ≡ es ++ (id, new) ∷ []
put_last id new [] low = refl
put_last id new (e ∷ es) low =
    ap (λ o. match_ordering o ((id, new) ∷ e ∷ es) ((e.0, new) ∷ es) (e ∷ insert_entry nat_cmp es id new)) (greater id e.0 (All-head (λ (x : ℕ × Request). x.0 < id) e es low))
    ∙ ap (λ xs. e ∷ xs) (put_last id new es (All-tail (λ (x : ℕ × Request). x.0 < id) e es low))
  where
    not_before : (a c : ℕ) → c < a → nat_lt a c ≡ false
    not_before a c lt = grind (arith, nat_tests)

    not_same : (a c : ℕ) → c < a → (a == c) ≡ false
    not_same a c lt = grind (arith, nat_tests)

    greater : (a c : ℕ) → c < a → nat_cmp a c ≡ Greater
    greater a c lt = ap (λ b. cond b Less (cond (a == c) Equal Greater)) (not_before a c lt) ∙ ap (λ b. cond b Equal Greater) (not_same a c lt)

-- a number stays where a seat goes
pub unseated_under : (seat : ℕ) (rs : List Request) → map (λ (e : ℕ × Request). (e.0, unseated seat e.1)) (map entry_of rs) ≡ map entry_of (map (unseated seat) rs)
unseated_under seat [] = refl
unseated_under seat (r ∷ rs) = (λ i. (sym (id-unseated seat r) i, unseated seat r) ∷ unseated_under seat rs i)

-- ---- what is held

-- it is what the requests are
pub tied_by : (rs : List Request) (es : List (ℕ × Request)) (ws : List Write) → es ≡ map entry_of rs → InOrder rs → ws ≡ pending rs → IsTied es ws
tied_by rs es ws is rise written =
    let same : values_of es ≡ rs = ap values_of is ∙ values_numbered rs in
    record {
      numbered = is ∙ ap (map entry_of) (sym same);
      rise = subst InOrder (sym same) rise;
      written = written ∙ ap pending (sym same);
    }

-- the numbers of requests below one
pub keys_below : (id : ℕ) (es : List (ℕ × Request)) (ws : List Write) → IsTied es ws → All (λ (r : Request). r.id < id) (values_of es) → All (λ (e : ℕ × Request). e.0 < id) es
keys_below id es ws tied low = subst (All (λ (e : ℕ × Request). e.0 < id)) (sym tied.numbered) (All-map (λ (e : ℕ × Request). e.0 < id) entry_of (values_of es) low)

-- one more, above all
pub with_last : (es : List (ℕ × Request)) (ws : List Write) (new : Request) → IsTied es ws → es ++ (new.id, new) ∷ [] ≡ map entry_of (values_of es ++ new ∷ [])
with_last es ws new tied = ap (λ xs. xs ++ entry_of new ∷ []) tied.numbered ∙ more (values_of es)
  where
    more : (rs : List Request) → map entry_of rs ++ entry_of new ∷ [] ≡ map entry_of (rs ++ new ∷ [])
    more [] = refl
    more (r ∷ rs) = ap (λ xs. entry_of r ∷ xs) (more rs)

-- the one of a number
pub found_is : (id : ℕ) (es : List (ℕ × Request)) (ws : List Write) → IsTied es ws → lookup (is_at (nat_cmp id)) es ≡ find (λ (r : Request). r.id == id) (values_of es)
found_is id es ws tied = ap (lookup (is_at (nat_cmp id))) tied.numbered ∙ found_under id (values_of es)

-- the others
left_is : (id : ℕ) (es : List (ℕ × Request)) (ws : List Write) → IsTied es ws → (left : List (ℕ × Request)) → left ≡ remove_entry (is_at (nat_cmp id)) es
    → left ≡ map entry_of (filter (λ (r : Request). not (r.id == id)) (values_of es))
left_is id es ws tied left le = le ∙ ap (remove_entry (is_at (nat_cmp id))) tied.numbered ∙ left_under id (values_of es) tied.rise

pub values_left : (id : ℕ) (es : List (ℕ × Request)) (ws : List Write) → IsTied es ws → (left : List (ℕ × Request)) → left ≡ remove_entry (is_at (nat_cmp id)) es
    → values_of left ≡ filter (λ (r : Request). not (r.id == id)) (values_of es)
values_left id es ws tied left le = ap values_of (left_is id es ws tied left le) ∙ values_numbered (filter (λ (r : Request). not (r.id == id)) (values_of es))

-- a settled request is pending no more
pub tied_without : (id : ℕ) (es : List (ℕ × Request)) (ws : List Write) → IsTied es ws → SettledIsNotPending
    → (left : List (ℕ × Request)) → left ≡ remove_entry (is_at (nat_cmp id)) es → (rest : List Write) → rest ≡ without id ws → IsTied left rest
tied_without id es ws tied law left le rest re =
    let rs = values_of es in
    tied_by (filter (λ (r : Request). not (r.id == id)) rs) left rest (left_is id es ws tied left le)
    (AllPairs-filter (λ (r s : Request). r.id < s.id) (λ (r : Request). not (r.id == id)) rs tied.rise)
    (re ∙ ap (without id) tied.written ∙ sym (law rs id))

-- a seat goes
unseated_is : (seat : ℕ) (es : List (ℕ × Request)) (ws : List Write) → IsTied es ws → (left : List (ℕ × Request)) → left ≡ map (λ (e : ℕ × Request). (e.0, unseated seat e.1)) es
    → left ≡ map entry_of (map (unseated seat) (values_of es))
unseated_is seat es ws tied left le = le ∙ ap (map (λ (e : ℕ × Request). (e.0, unseated seat e.1))) tied.numbered ∙ unseated_under seat (values_of es)

pub values_unseated : (seat : ℕ) (es : List (ℕ × Request)) (ws : List Write) → IsTied es ws → (left : List (ℕ × Request)) → left ≡ map (λ (e : ℕ × Request). (e.0, unseated seat e.1)) es
    → values_of left ≡ map (unseated seat) (values_of es)
values_unseated seat es ws tied left le = ap values_of (unseated_is seat es ws tied left le) ∙ values_numbered (map (unseated seat) (values_of es))

pub tied_unseated : (seat : ℕ) (es : List (ℕ × Request)) (ws : List Write) → IsTied es ws → UnseatedIsPending
    → (left : List (ℕ × Request)) → left ≡ map (λ (e : ℕ × Request). (e.0, unseated seat e.1)) es → IsTied left ws
tied_unseated seat es ws tied law left le =
    let rs = values_of es in
    tied_by (map (unseated seat) rs) left ws (unseated_is seat es ws tied left le) (rises_unseated seat rs tied.rise) (tied.written ∙ sym (law rs seat))
