-- Options that are given several times, one text after another.
use Rattle.std.proofs.Common.{◌≡◌, ◌<◌, ◌+◌, ℕ, List, [], ◌∷◌, ◌++◌, map, drop, length, get_or, Option, Some, None}
use Rattle.std.proofs.Common.{String, Global, string_bytes, refl, sym, ap, ◌∙◌, append_assoc, append-nil}
use Rattle.std.specs.Prelude.{option_map, option_and_then}
use Rattle.std.specs.Borrow.{Bor}
use Rattle.std.specs.Option.{unwrap_or}
use Rattle.std.proofs.lemmas.List.{drop_more, map-append}
use Rattle.clap.specs.Words.{Row, all_of}
use Rattle.rt_tree.specs.PathTree.{Path}
use Rattle.rt_commands.specs.Words.{all_texts, origin_of, origins_of, path_of, paths_of}

-- the texts that are lent
abbrev pub now_of : List (Bor (List ℕ)) → List (List ℕ)
now_of texts = map (λ t. t.now) texts

-- what is left, where one more is taken
next_of : (xs : List (Bor (List ℕ))) (i : ℕ) (x : Bor (List ℕ)) → i < length xs → x ≡ get_or xs i x
    → now_of (drop i xs) ≡ x.now ∷ now_of (drop (i + 1) xs)
next_of xs i x within is =
    ap now_of (drop_more xs i x within) ∙ ap (λ y. y.now ∷ now_of (drop (i + 1) xs)) (sym is)

-- ---- origins

behind_text : (done : List (List ℕ)) (text : List ℕ) (rest : Option (List (List ℕ)))
    → option_map (λ os. done ++ os) (option_map (λ os. text ∷ os) rest)
    ≡ option_map (λ os. (done ++ text ∷ []) ++ os) rest
behind_text done text None = refl
behind_text done text (Some os) = ap Some (sym (append_assoc done (text ∷ []) os))

pub next_origin : (xs : List (Bor (List ℕ))) (i : ℕ) (x : Bor (List ℕ)) (all : List (String Global))
    (copy : String Global) → i < length xs → x ≡ get_or xs i x → origin_of x.now ≡ Some (string_bytes copy)
    → origins_of (now_of xs)
    ≡ option_map (λ os. map string_bytes all ++ os) (origins_of (now_of (drop i xs)))
    → origins_of (now_of xs)
    ≡ option_map (λ os. map string_bytes (all ++ copy ∷ []) ++ os) (origins_of (now_of (drop (i + 1) xs)))
next_origin xs i x all copy within is read e =
    e ∙ ap (λ l. option_map (λ os. map string_bytes all ++ os) (origins_of l)) (next_of xs i x within is)
    ∙ ap (λ o. option_map (λ os. map string_bytes all ++ os)
    (option_and_then (λ t. option_map (λ os. t ∷ os) (origins_of (now_of (drop (i + 1) xs)))) o)) read
    ∙ behind_text (map string_bytes all) (string_bytes copy) (origins_of (now_of (drop (i + 1) xs)))
    ∙ ap (λ l. option_map (λ os. l ++ os) (origins_of (now_of (drop (i + 1) xs))))
    (sym (map-append string_bytes all (copy ∷ [])))

-- one of them is refused, and so all are
pub no_origin_of : (xs : List (Bor (List ℕ))) (i : ℕ) (x : Bor (List ℕ)) (done : List (List ℕ)) → i < length xs
    → x ≡ get_or xs i x → origin_of x.now ≡ None
    → origins_of (now_of xs) ≡ option_map (λ os. done ++ os) (origins_of (now_of (drop i xs)))
    → origins_of (now_of xs) ≡ None
no_origin_of xs i x done within is refused e =
    e ∙ ap (λ l. option_map (λ os. done ++ os) (origins_of l)) (next_of xs i x within is)
    ∙ ap (λ o. option_map (λ os. done ++ os)
    (option_and_then (λ t. option_map (λ os. t ∷ os) (origins_of (now_of (drop (i + 1) xs)))) o)) refused

pub all_origins : (xs : List (Bor (List ℕ))) (done : List (List ℕ)) (rest : List (Bor (List ℕ))) → rest ≡ []
    → origins_of (now_of xs) ≡ option_map (λ os. done ++ os) (origins_of (now_of rest))
    → origins_of (now_of xs) ≡ Some done
all_origins xs done rest none e =
    e ∙ ap (λ l. option_map (λ os. done ++ os) (origins_of (now_of l))) none ∙ ap Some (append-nil done)

-- ---- paths

-- a path behind those that were read
behind : (done : List Path) (path : Path) (rest : Option (List Path))
    → option_map (λ ps. done ++ ps) (option_map (λ ps. path ∷ ps) rest)
    ≡ option_map (λ ps. (done ++ path ∷ []) ++ ps) rest
behind done path None = refl
behind done path (Some ps) = ap Some (sym (append_assoc done (path ∷ []) ps))

pub next_path : (xs : List (Bor (List ℕ))) (i : ℕ) (x : Bor (List ℕ)) (done : List Path) (path : Path)
    → i < length xs → x ≡ get_or xs i x → path_of x.now ≡ Some path
    → paths_of (now_of xs) ≡ option_map (λ ps. done ++ ps) (paths_of (now_of (drop i xs)))
    → paths_of (now_of xs) ≡ option_map (λ ps. (done ++ path ∷ []) ++ ps) (paths_of (now_of (drop (i + 1) xs)))
next_path xs i x done path within is read e =
    e ∙ ap (λ l. option_map (λ ps. done ++ ps) (paths_of l)) (next_of xs i x within is)
    ∙ ap (λ o. option_map (λ ps. done ++ ps)
    (option_and_then (λ p. option_map (λ ps. p ∷ ps) (paths_of (now_of (drop (i + 1) xs)))) o)) read
    ∙ behind done path (paths_of (now_of (drop (i + 1) xs)))

-- one of them is refused, and so all are
pub no_path_of : (xs : List (Bor (List ℕ))) (i : ℕ) (x : Bor (List ℕ)) (done : List Path) → i < length xs
    → x ≡ get_or xs i x → path_of x.now ≡ None
    → paths_of (now_of xs) ≡ option_map (λ ps. done ++ ps) (paths_of (now_of (drop i xs)))
    → paths_of (now_of xs) ≡ None
no_path_of xs i x done within is refused e =
    e ∙ ap (λ l. option_map (λ ps. done ++ ps) (paths_of l)) (next_of xs i x within is)
    ∙ ap (λ o. option_map (λ ps. done ++ ps)
    (option_and_then (λ p. option_map (λ ps. p ∷ ps) (paths_of (now_of (drop (i + 1) xs)))) o)) refused

pub all_paths : (xs : List (Bor (List ℕ))) (done : List Path) (rest : List (Bor (List ℕ))) → rest ≡ []
    → paths_of (now_of xs) ≡ option_map (λ ps. done ++ ps) (paths_of (now_of rest))
    → paths_of (now_of xs) ≡ Some done
all_paths xs done rest none e =
    e ∙ ap (λ l. option_map (λ ps. done ++ ps) (paths_of (now_of l))) none ∙ ap Some (append-nil done)

-- ---- the texts of a name

pub all_given : (name : List ℕ) (rows : List Row) (got : Option (Bor (List (Bor (List ℕ)))))
    (texts : Bor (List (Bor (List ℕ)))) → option_map (λ s. map (λ v. v.now) s.now) got ≡ all_of name rows
    → got ≡ Some texts → now_of texts.now ≡ all_texts name rows
all_given name rows got texts e is =
    ap (λ o. unwrap_or (option_map (λ s. now_of s.now) o) []) (sym is) ∙ ap (λ o. unwrap_or o []) e

pub none_given : (name : List ℕ) (rows : List Row) (got : Option (Bor (List (Bor (List ℕ)))))
    → option_map (λ s. map (λ v. v.now) s.now) got ≡ all_of name rows → got ≡ None → all_texts name rows ≡ []
none_given name rows got e is =
    sym (ap (λ o. unwrap_or o []) e) ∙ ap (λ o. unwrap_or (option_map (λ s. now_of s.now) o) []) is
