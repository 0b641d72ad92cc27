-- What is read of a message, as the grammar says it.
use Rattle.std.proofs.Common.{◌≡◌, ℕ, ◌<◌, true, false, List, [], ◌∷◌, length, Option, Some, None, Ok, Err, refl, sym, ap, subst, ◌∙◌, arith}
use Rattle.std.specs.Prelude.{codes, bytes_eq, if◌then◌else◌, Decides, Result}
use Rattle.std.specs.Option.{option_map, option_and_then}
use Rattle.std.proofs.lemmas.Option.{option_and_then_some, same_Some}
use Rattle.std.proofs.lemmas.Slice.Eq.{bytes_eq-Decides}
use Rattle.serde_json.specs.Data.{Data, Members, no_members, member}
use Rattle.serde_json.specs.Find.{get, as_object}
use Rattle.rt_tree.specs.PathTree.{Path, PathTree}
use Rattle.rt_tree.specs.Assignments.{Assignment}
use Rattle.rt_wire.specs.declared.error.WireError.{WireError}
use Rattle.rt_wire.specs.Fields.{field, any_of, path_of_text, tree_of, with, made}
use Rattle.rt_wire.specs.EntryFields.{places_of, some_of, entries_of, in_front, trees_of}
use Rattle.rt_wire.specs.Grammar.{HasTree, AreSaid, HasEntries}

-- ---- what a result is made of
pub with_ok : {A B P : Type 0} (o : Option A) (f : A → Result B WireError) (y : B) → with o f ≡ Ok y
    → ((x : A) → o ≡ Some x → f x ≡ Ok y → P) → P
with_ok None f y h k = absurd cc
with_ok (Some x) f y h k = k x refl h

-- that is the result
abbrev pub IsOkOf : {A : Type 0} → Result A WireError → A → Type 0
IsOkOf r y = r ≡ Ok y

-- what is answered, or else d
answer_or : {A : Type 0} → A → Result A WireError → A
answer_or d (Ok x) = x
answer_or d (Err e) = d

pub same_Ok : {A : Type 0} (x y : A) → IsOkOf (Ok x) y → x ≡ y
unfolding answer_or
same_Ok x y h = ap (answer_or x) h

pub made_ok : {A B P : Type 0} (r : Result A WireError) (f : A → B) (y : B) → made r f ≡ Ok y
    → ((x : A) → r ≡ Ok x → f x ≡ y → P) → P
made_ok (Err e) f y h k = absurd cc
made_ok (Ok x) f y h k = k x refl (same_Ok (f x) y h)

pub map_some : {A B P : Type 0} (f : A → B) (o : Option A) (y : B) → option_map f o ≡ Some y
    → ((x : A) → o ≡ Some x → f x ≡ y → P) → P
map_some f None y h k = absurd cc
map_some f (Some x) y h k = k x refl (same_Some (f x) y h)

-- a kind that is looked for before others
pub by_kind : {A P : Type 0} (s name : List ℕ) (this others : Result A WireError) (m : A)
    → (if bytes_eq s name then this else others) ≡ Ok m
    → (s ≡ name → this ≡ Ok m → P) → (others ≡ Ok m → P) → P
by_kind {P = P} s name this others m h f g =
    elim (bytes_eq s name) as (λ b. Decides b (s ≡ name) → (if b then this else others) ≡ Ok m → P) [
      | true ↦ λ is h. f (is.0 refl) h
      | false ↦ λ is h. g h
    ] (bytes_eq-Decides s name) h

-- ---- a value and entries
any_value : (o : Option Data) (v : Data) → option_and_then any_of o ≡ Some v → o ≡ Some v
any_value None v h = h
any_value (Some x) v h = h

pub tree_said : (d : Data) (v : Data) (t : PathTree) → field any_of (codes "value") d ≡ Some v
    → tree_of v ≡ Ok t → HasTree t d
tree_said d v t h is = (v, any_value (get (codes "value") d) v h, is)

pub tree_read : {B : Type 0} (d : Data) (t : PathTree) (f : PathTree → B) → HasTree t d
    → with (field any_of (codes "value") d) (λ value. made (tree_of value) f) ≡ Ok (f t)
tree_read d t f h =
    ap (λ o. with (option_and_then any_of o) (λ value. made (tree_of value) f)) h.1 ∙ ap (λ r. made r f) h.2

in_front_ok : {P : Type 0} (path : Path) (r : Result PathTree WireError)
    (rest : Result (List Assignment) WireError) (es : List Assignment)
    → in_front path r rest ≡ Ok es → ((t : PathTree) (others : List Assignment) → r ≡ Ok t
    → rest ≡ Ok others → (path, t) ∷ others ≡ es → P) → P
in_front_ok path (Err e) rest es h k = absurd cc
in_front_ok path (Ok t) rest es h k = made_ok rest (λ entries. (path, t) ∷ entries) es h
    (λ others is same. k t others refl is same)

members_said : (ms : Members) (ps : List (Path × Data)) (es : List Assignment) → places_of ms ≡ Some ps
    → trees_of ps ≡ Ok es → AreSaid ms es
members_said no_members ps es h g = subst (AreSaid no_members)
    (same_Ok [] es (ap trees_of (same_Some [] ps h) ∙ g)) tt
members_said (member name d ms) ps es h g =
    option_and_then_some (λ path. option_map (λ places. (path, d) ∷ places) (places_of ms))
    (path_of_text name) ps h (λ path is_path mapped.
    map_some (λ places. (path, d) ∷ places) (places_of ms) ps mapped (λ rest is_rest same.
    in_front_ok path (tree_of d) (trees_of rest) es (ap trees_of same ∙ g) (λ t others is_tree are_trees all.
    subst (AreSaid (member name d ms)) all (is_path, is_tree, members_said ms rest others is_rest are_trees))))

pub some_filled : {A : Type 0} (xs ys : List A) → some_of xs ≡ Some ys → (xs ≡ ys) × (0 < length ys)
some_filled [] ys h = absurd cc
some_filled (x ∷ xs) ys h =
    let same = same_Some (x ∷ xs) ys h in
    (same, subst (λ zs. 0 < length zs) same (omega arith))

pub as_many : (ps : List (Path × Data)) (es : List Assignment) → trees_of ps ≡ Ok es → length es ≡ length ps
as_many [] es h = ap length (sym (same_Ok [] es h))
as_many (p ∷ ps) es h = in_front_ok p.0 (tree_of p.1) (trees_of ps) es h (λ t others is_tree are_trees all.
    omega (arith, ap length all, as_many ps others are_trees))

pub entries_said : (d : Data) (places : List (Path × Data)) (es : List Assignment)
    → field entries_of (codes "entries") d ≡ Some places → trees_of places ≡ Ok es
    → HasEntries es d
entries_said d places es h g =
    option_and_then_some entries_of (get (codes "entries") d) places h (λ v is_v found.
    option_and_then_some some_of (option_and_then places_of (as_object v)) places found (λ ps are_ps some.
    option_and_then_some places_of (as_object v) ps are_ps (λ ms are_ms are_places.
    let filled = some_filled ps places some in (
      ms,
      ap (option_and_then as_object) is_v ∙ are_ms,
      omega (arith, as_many places es g, filled.1),
      members_said ms places es (are_places ∙ ap Some filled.0) g,
    ))))

pub members_read : (ms : Members) (es : List Assignment) → AreSaid ms es
    → (ps : List (Path × Data)) × (places_of ms ≡ Some ps) × (trees_of ps ≡ Ok es)
members_read no_members [] h = ([], refl, refl)
members_read no_members (e ∷ es) h = absurd h
members_read (member name d ms) [] h = absurd h
members_read (member name d ms) (e ∷ es) h =
    let rest = members_read ms es h.2 in (
      (e.0, d) ∷ rest.0,
      (λ i. option_and_then (λ path. option_map (λ places. (path, d) ∷ places)
          (rest.1 i)) (h.0 i)),
      (λ i. in_front e.0 (h.1 i) (rest.2 i)),
    )

pub some_read : {A : Type 0} (xs : List A) → 0 < length xs → some_of xs ≡ Some xs
some_read [] h = absurd (omega arith)
some_read (x ∷ xs) h = refl

field_entries : {B : Type 0} (f : List Assignment → B) (o : Option Data) (ms : Members)
    → option_and_then as_object o ≡ Some ms
    → with (option_and_then entries_of o) (λ places. made (trees_of places) f) ≡ with
    (option_and_then some_of (places_of ms)) (λ places. made (trees_of places) f)
field_entries f None ms e = absurd cc
field_entries f (Some v) ms e = ap (λ o. with (option_and_then some_of (option_and_then places_of o))
    (λ places. made (trees_of places) f)) e

pub entries_read : {B : Type 0} (d : Data) (es : List Assignment) (f : List Assignment → B) → HasEntries es d
    → with (field entries_of (codes "entries") d) (λ places. made (trees_of places) f) ≡ Ok (f es)
entries_read d es f h =
    let read = members_read h.0 es h.3 in
    let some : some_of read.0 ≡ Some read.0 = some_read read.0 (omega (arith, h.2, as_many read.0 es read.2)) in
    field_entries f (get (codes "entries") d) h.0 h.1
    ∙ ap (λ o. with (option_and_then some_of o) (λ places. made (trees_of places) f)) read.1
    ∙ ap (λ o. with o (λ places. made (trees_of places) f)) some ∙ ap (λ r. made r f) read.2
