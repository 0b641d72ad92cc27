-- The origins that a handshake names, one after another.
use Rattle.std.proofs.Common.{◌≡◌, ◌&&◌, ℕ, Bool, true, false, List, [], ◌∷◌, map, Option, Some, None}
use Rattle.std.proofs.Common.{Result, Ok, Err}
use Rattle.std.proofs.Common.{String, Global, string_bytes, refl, sym, ap, subst, ◌∙◌, if◌then◌else◌}
use Rattle.std.specs.Borrow.{Bor}
use Rattle.std.specs.List.{slice_get}
use Rattle.std.specs.Option.{MatchOption, is_none, option_map}
use Rattle.std.specs.Prelude.{IfOk, IfSome}
use Rattle.std.specs.Result.{result_ok}
use Rattle.std.specs.declared.alloc.AllocError.{AllocError}
use Rattle.std.proofs.lemmas.List.Sums.{list_all-from_AllPass}
use Rattle.http.specs.FieldValue.{FieldValue, IsVisibleAscii, is_visible_text}
use Rattle.http.specs.Token.{is_visible_or_blank}
use Rattle.rt_socket.specs.Handshakes.{page_refusal, refusal_of}
use Rattle.rt_socket.specs.Origins.{allows, allows_all, visible_in}

-- one comes first, and these behind it
abbrev pub First : List FieldValue → Option (Bor FieldValue) → List FieldValue → Type 0
First all o rest = MatchOption o ((all ≡ []) × (rest ≡ [])) (λ x. all ≡ x.now ∷ rest)

abbrev pub text_in : Option (Bor FieldValue) → Option (List ℕ)
text_in o = option_map (λ v. v.now.bytes) o

abbrev pub texts_in : List FieldValue → List (List ℕ)
texts_in all = map (λ v. v.bytes) all

pub first_text : (all rest : List FieldValue) (o : Option (Bor FieldValue)) → First all o rest
    → slice_get (texts_in all) 0 ≡ text_in o
first_text all rest None h = ap (λ l. slice_get (texts_in l) 0) h.0
first_text all rest (Some x) h = ap (λ l. slice_get (texts_in l) 0) h

pub judged : (allowed : List (List ℕ)) (all rest more : List FieldValue) (first second : Option (Bor FieldValue))
    → First all first rest → First rest second more
    → allows_all allowed (texts_in all) ≡ (is_none second && allows allowed (text_in first))
judged allowed all rest more None None f s = ap (λ l. allows_all allowed (texts_in l)) f.0
judged allowed all rest more None (Some y) f s = cc
judged allowed all rest more (Some x) None f s =
    ap (λ l. allows_all allowed (texts_in l)) f ∙ ap (λ l. allows_all allowed (x.now.bytes ∷ texts_in l)) s.0
judged allowed all rest more (Some x) (Some y) f s =
    ap (λ l. allows_all allowed (texts_in l)) f ∙ ap (λ l. allows_all allowed (x.now.bytes ∷ texts_in l)) s

-- ---- what is answered

pub refuses : (origins allowed : List (List ℕ)) → allows_all allowed origins ≡ false
    → refusal_of origins allowed ≡ Some (page_refusal (slice_get origins 0))
refuses origins allowed none = ap (λ a. if a then None else Some (page_refusal (slice_get origins 0))) none

-- ---- visible bytes

if_visible : (bytes : List ℕ) (b : Bool) → is_visible_text bytes ≡ b → b ≡ true → visible_in bytes ≡ Some bytes
if_visible bytes true e t = rw e refl
if_visible bytes false e t = cc

pub visible : (bytes : List ℕ) → IsVisibleAscii bytes → visible_in bytes ≡ Some bytes
visible bytes h = if_visible bytes (is_visible_text bytes) refl (list_all-from_AllPass is_visible_or_blank bytes h)

pub visible_text : (bytes text : List ℕ) → text ≡ bytes → IsVisibleAscii bytes → Some text ≡ visible_in bytes
visible_text bytes text e h = ap Some e ∙ sym (visible bytes h)

-- ---- words

-- a text, where there was memory for it
pub told : (given words : List ℕ) (r : Result (String Global) AllocError) (body : Option (String Global))
    → body ≡ result_ok r → IfOk r (λ s. string_bytes s ≡ given) → given ≡ words
    → IfSome body (λ s. string_bytes s ≡ words)
told given words (Ok s) body e h is = subst (λ b. IfSome b (λ s. string_bytes s ≡ words)) (sym e) (h ∙ is)
told given words (Err x) body e h is = subst (λ b. IfSome b (λ s. string_bytes s ≡ words)) (sym e) tt
