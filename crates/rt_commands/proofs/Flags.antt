-- The flags among the words.
use Rattle.std.proofs.Common.{◌≡◌, ℕ, Bool, true, false, List, Option, Some, None, Ok, Err}
use Rattle.std.proofs.Common.{refl, sym, ap, codes}
use Rattle.std.specs.Option.{unwrap_or}
use Rattle.std.specs.Str.{bytes_eq}
use Rattle.std.specs.Str.Parse.{ParsesBool}
use Rattle.std.proofs.lemmas.Slice.Eq.{bytes_eq-Decides}
use Rattle.clap.specs.Words.{ReadsOne}
use Rattle.rt_commands.specs.Words.{flag_of}

read_flag : (E : Type 0) (t : List ℕ) (b : Bool) → ParsesBool {E = E} t (Ok b) → b ≡ flag_of (Some t)
read_flag E t true h = sym (ap (λ x. bytes_eq x (codes "true")) h)
read_flag E t false h = sym (ap (λ x. bytes_eq x (codes "true")) h)

none_read : {E : Type 0} (t : List ℕ) (e : E) → ParsesBool t (Err e) → false ≡ flag_of (Some t)
none_read t e h = go (bytes_eq t (codes "true")) refl
  where
    go : (b : Bool) → bytes_eq t (codes "true") ≡ b → false ≡ bytes_eq t (codes "true")
    go false is = sym is
    go true is = absurd (h.0 ((bytes_eq-Decides t (codes "true")).0 is))

-- what `get_one` gives
pub one_flag : (E : Type 0) (text : Option (List ℕ)) (got : Option Bool) → (text ≡ None → got ≡ None)
    → ((t : List ℕ) → text ≡ Some t → ReadsOne (ParsesBool {E = E}) t got) → unwrap_or got false ≡ flag_of text
one_flag E None got none value = ap (λ g. unwrap_or g false) (none refl)
one_flag E (Some t) (Some b) none value = read_flag E t b (value t refl)
one_flag E (Some t) None none value =
    let read = value t refl in
    none_read t read.0 read.1
