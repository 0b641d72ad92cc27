-- No name leads out of a folder.
use Rattle.std.proofs.Common.{◌≡◌, ℕ, Bool, true, false, cond, List, [], ◌∷◌, Option, Some, None, nat_eq, refl, ap, ◌∙◌, arith}
use Rattle.std.proofs.lemmas.Bool.Decides.{nat_tests}
use Rattle.std.specs.Option.{option_and_then}
use Rattle.rt_files.specs.Names.{are_names, behind_slash, named, whole}
use Rattle.rt_files.specs.Places.{is_below, place_of}
use Rattle.rt_files.specs.laws.Names.{NamesStay}

-- what is named has names alone
named-names : (text name : List ℕ) → named text ≡ Some name → are_names name ≡ true
named-names text name h = go (are_names text) refl h
  where
    go : (t : Bool) → are_names text ≡ t → cond t (Some text) None ≡ Some name → are_names name ≡ true
    go true e is = let same : name ≡ text = cc in ap are_names same ∙ e
    go false e is = cc

file-names : (name : List ℕ) (text : Option (List ℕ)) → option_and_then (λ t. named (whole t)) text ≡ Some name
    → are_names name ≡ true
file-names name None h = cc
file-names name (Some t) h = named-names (whole t) name h

nat_eq-self : (n : ℕ) → nat_eq n n ≡ true
nat_eq-self n = grind (arith, nat_tests)

-- what is put behind a folder and a slash is below it
place-below : (folder name : List ℕ) → is_below folder (place_of folder name) ≡ true
place-below [] name = refl
place-below (c ∷ folder) name = rw (nat_eq-self c) (place-below folder name)

pub names-stay : NamesStay
names-stay path name folder h = (file-names name (behind_slash path) h, place-below folder name)
