-- The text that says who is connected, piece by piece.
use Rattle.std.proofs.Common.{◌≡◌, ◌++◌, ◌∷◌, [], ◌+◌, ◌-◌, ◌<◌, ◌≤◌, ◌&&◌, ◌⊎◌, inl, inr, ℕ, List, Bool, true, false, not, length, map, Option, Some, None, is_some, Result, Ok, Err, refl, sym, ap, ◌∙◌, arith, length-append, append-nil, if◌then◌else◌}
use mathlib.Core.Bool.{true≢false}
use Rattle.std.specs.Prelude.{nat_le, OnOk}
use Rattle.std.specs.Result.{is_ok}
use Rattle.std.proofs.lemmas.Bool.Decides.{nat_tests}
use Rattle.std.proofs.lemmas.List.{append_assoc}
use Rattle.rt_hub.specs.Hubs.{Hub}
use Rattle.rt_emulate.specs.Clients.{Client, bounded, client_text, comma, listed}
use Rattle.rt_emulate.specs.declared.draft.TheConstants.{MOST_TOLD}
use Rattle.rt_emulate.specs.declared.guest.Guest.{Guest}
use Rattle.rt_emulate.specs.inside.Rosters.{client_if, client_of, held_of, put_to, text_if_there}

-- ---- lengths

over_more : (a b c m : ℕ) → c ≡ a + b → nat_le a m ≡ false → nat_le c m ≡ false
over_more a b c m e h = grind (arith, nat_tests)

over_by : (a b c m : ℕ) → c ≡ a + b → m - a < b → a ≤ m → nat_le c m ≡ false
over_by a b c m e more le = grind (arith, nat_tests)

within : (a b c m : ℕ) → c ≡ a + b → b ≤ m - a → a ≤ m → nat_le c m ≡ true
within a b c m e few le = grind (arith, nat_tests)

-- ---- pieces

pub put_none : (piece : List ℕ) → put_to piece None ≡ None
put_none [] = refl
put_none (c ∷ piece) = refl

onto : (t a b : List ℕ) → nat_le (length (t ++ a)) MOST_TOLD ≡ true → put_to b (Some (t ++ a)) ≡ bounded (t ++ (a ++ b))
onto t a [] e =
    sym (ap (λ z. if z then Some (t ++ a) else None) e) ∙ ap (λ r. bounded (t ++ r)) (sym (append-nil a))
onto t a (c ∷ b) e = ap bounded (append_assoc t a (c ∷ b))

beyond : (t a b : List ℕ) → nat_le (length (t ++ a)) MOST_TOLD ≡ false → bounded (t ++ (a ++ b)) ≡ None
beyond t a b e =
    ap bounded (sym (append_assoc t a b))
    ∙ ap (λ z. if z then Some (t ++ a ++ b) else None)
    (over_more (length (t ++ a)) (length b) (length (t ++ a ++ b)) MOST_TOLD (length-append (t ++ a) b) e)

-- two pieces are as one
pub put_twice : (a b : List ℕ) (x : Option (List ℕ)) → put_to b (put_to a x) ≡ put_to (a ++ b) x
put_twice [] b x = refl
put_twice (c ∷ a) b None = put_none b
put_twice (c ∷ a) b (Some t) =
    elim (nat_le (length (t ++ c ∷ a)) MOST_TOLD) as (λ z. nat_le (length (t ++ c ∷ a)) MOST_TOLD ≡ z
    → put_to b (if z then Some (t ++ c ∷ a) else None) ≡ bounded (t ++ c ∷ (a ++ b))) [
      | true ↦ λ e. onto t (c ∷ a) b e
      | false ↦ λ e. put_none b ∙ sym (beyond t (c ∷ a) b e)
    ] refl

pub put_next : (a b : List ℕ) (x y z : Option (List ℕ)) → y ≡ put_to a x → z ≡ put_to b y → z ≡ put_to (a ++ b) x
put_next a b x y z g h = h ∙ ap (put_to b) g ∙ put_twice a b x

-- the same, where the last piece may not come behind for want of memory
pub put_last : {E : Type 0} (r : Result Unit E) (a b : List ℕ) (x y z : Option (List ℕ)) → y ≡ put_to a x
    → OnOk r (z ≡ put_to b y) → OnOk r (z ≡ put_to (a ++ b) x)
put_last (Ok done) a b x y z g h = put_next a b x y z g h
put_last (Err e) a b x y z g h = tt

-- ---- a draft

pub over_stays : (piece text : List ℕ) (over : Bool) (was : Option (List ℕ)) → held_of over text ≡ was → over ≡ true
    → was ≡ put_to piece was
over_stays piece text true was view e = sym view ∙ sym (put_none piece) ∙ ap (put_to piece) view
over_stays piece text false was view e = absurd (true≢false (sym e))

pub gets_over : (piece text : List ℕ) (over : Bool) (was : Option (List ℕ)) → held_of over text ≡ was → over ≡ false
    → length text ≤ MOST_TOLD → MOST_TOLD - length text < length piece → None ≡ put_to piece was
gets_over piece text true was view e le more = absurd (true≢false e)
gets_over [] text false was view e le more = absurd (omega (arith, more))
gets_over (c ∷ piece) text false was view e le more =
    sym (ap (λ z. if z then Some (text ++ c ∷ piece) else None)
    (over_by (length text) (length (c ∷ piece)) (length (text ++ c ∷ piece)) MOST_TOLD (length-append text (c ∷ piece)) more le))
    ∙ ap (put_to (c ∷ piece)) view

pub fits : (piece text : List ℕ) (over : Bool) (was : Option (List ℕ)) → held_of over text ≡ was → over ≡ false
    → length text ≤ MOST_TOLD → length piece ≤ MOST_TOLD - length text → Some (text ++ piece) ≡ put_to piece was
fits piece text true was view e le few = absurd (true≢false e)
fits [] text false was view e le few = ap Some (append-nil text) ∙ view
fits (c ∷ piece) text false was view e le few =
    sym (ap (λ z. if z then Some (text ++ c ∷ piece) else None)
    (within (length text) (length (c ∷ piece)) (length (text ++ c ∷ piece)) MOST_TOLD (length-append text (c ∷ piece)) few le))
    ∙ ap (put_to (c ∷ piece)) view

pub comes_behind : {E : Type 0} (r : Result Unit E) (piece text new : List ℕ) (over : Bool) (was : Option (List ℕ))
    → held_of over text ≡ was → over ≡ false → length text ≤ MOST_TOLD → length piece ≤ MOST_TOLD - length text
    → new ≡ (if is_ok r then text ++ piece else text) → OnOk r (held_of over new ≡ put_to piece was)
comes_behind (Ok done) piece text new true was view e le few put = absurd (true≢false e)
comes_behind (Ok done) piece text new false was view e le few put = ap Some put ∙ fits piece text false was view e le few
comes_behind (Err e) piece text new over was view f le few put = tt

-- ---- lists

-- a text that comes first, and those behind it
pub listed_on : (first : Bool) (text : List ℕ) (rest texts : List (List ℕ)) (x y : Option (List ℕ)) → texts ≡ text ∷ rest
    → y ≡ put_to (comma first ++ text) x → put_to (listed false rest) y ≡ put_to (listed first texts) x
listed_on first text rest texts x y e one =
    ap (put_to (listed false rest)) one
    ∙ put_twice (comma first ++ text) (listed false rest) x
    ∙ ap (λ t. put_to t x) (append_assoc (comma first) text (listed false rest) ∙ ap (listed first) (sym e))

-- where none is left, or the text is too long already
pub listed_end : (first : Bool) (texts : List (List ℕ)) (x : Option (List ℕ)) → (texts ≡ []) ⊎ (x ≡ None)
    → x ≡ put_to (listed first texts) x
listed_end first texts x (inl none) = ap (λ ts. put_to (listed first ts) x) (sym none)
listed_end first texts x (inr over) =
    over ∙ sym (put_none (listed first texts)) ∙ ap (put_to (listed first texts)) (sym over)

first_still : (b : Bool) → (b && not false) ≡ b
first_still true = refl
first_still false = refl

first_no_more : (b : Bool) → (b && not true) ≡ false
first_no_more true = refl
first_no_more false = refl

-- one that may be connected, and those behind it
pub placed_on : (first there : Bool) (hub : Option Hub) (n : ℕ) (g : Option Guest) (clients : List Client)
    (x y : Option (List ℕ)) → there ≡ is_some g → y ≡ put_to (text_if_there first hub n g) x
    → put_to (listed (first && not there) (map client_text clients)) y
    ≡ put_to (listed first (map client_text (client_if hub n g clients))) x
placed_on first there hub n None clients x y e one =
    (λ i. put_to (listed (first && not (e i)) (map client_text clients)) (one i))
    ∙ ap (λ b. put_to (listed b (map client_text clients)) x) (first_still first)
placed_on first there hub n (Some g) clients x y e one =
    ap (λ b. put_to (listed b (map client_text clients)) y) (ap (λ b. first && not b) e ∙ first_no_more first)
    ∙ listed_on first (client_text (client_of hub n g)) (map client_text clients)
    (client_text (client_of hub n g) ∷ map client_text clients) x y refl one
