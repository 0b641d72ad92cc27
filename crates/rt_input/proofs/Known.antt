-- Known bytes.
use Rattle.std.proofs.Common.{◌≡◌, ℕ, ◌+◌, ◌-◌, ◌≤◌, List, [], ◌++◌, length, take, drop, Option, Some, None, Result, Ok, Err}
use Rattle.std.proofs.Common.{OnOk, refl, sym, ap, subst, ◌∙◌, append-nil, append_assoc}
use Rattle.std.specs.Prelude.{OnErr}
use Rattle.std.specs.Io.KnownBytes.{Appends, Keeps}
use Rattle.std.proofs.lemmas.List.{take-append-drop, take_all, take_rest}
use Rattle.std.proofs.Math.Seq.{take-add}
use Rattle.rt_input.specs.Streams.{AppendsPart}

pub on_ok_always : {A E : Type 0} (P : Type 0) (r : Result A E) → P → OnOk r P
on_ok_always P (Ok x) h = h
on_ok_always P (Err e) h = tt

pub Appends-kept : (a b c : Option (List ℕ)) (bs : List ℕ) → Appends a b bs → Keeps b c → Appends a c bs
Appends-kept None b c bs p q = tt
Appends-kept (Some x) None c bs p q = absurd p
Appends-kept (Some x) (Some y) None bs p q = absurd q
Appends-kept (Some x) (Some y) (Some z) bs p q = q ∙ p

pub Appends-nil : (a : Option (List ℕ)) → Appends a a []
Appends-nil None = tt
Appends-nil (Some x) = sym (append-nil x)

pub Appends-more : (a b c : Option (List ℕ)) (xs ys : List ℕ) → Appends a b xs → Appends b c ys → Appends a c (xs ++ ys)
Appends-more None b c xs ys p q = tt
Appends-more (Some x) None c xs ys p q = absurd p
Appends-more (Some x) (Some y) None xs ys p q = absurd q
Appends-more (Some x) (Some y) (Some z) xs ys p q = q ∙ ap (λ l. l ++ ys) p ∙ append_assoc x xs ys

-- some of a text was written, and then some of what was left
pub Appends-on : (a b c : Option (List ℕ)) (n k : ℕ) (bs : List ℕ) → Appends a b (take n bs)
    → Appends b c (take k (take (length bs - n) (drop n bs))) → Appends a c (take (n + k) bs)
Appends-on a b c n k bs p q =
    subst (λ xs. Appends a c xs) (sym (take-add n k bs))
    (Appends-more a b c (take n bs) (take k (drop n bs)) p
    (subst (λ xs. Appends b c (take k xs)) (take_rest bs n) q))

-- all of it was written, and then nothing
pub Appends-all : (a b c : Option (List ℕ)) (n : ℕ) (bs : List ℕ) → length bs ≤ n → Appends a b (take n bs)
    → Keeps b c → Appends a c bs
Appends-all a b c n bs le p q = subst (λ xs. Appends a c xs) (take_all n bs le) (Appends-kept a b c (take n bs) p q)

-- what was written is what the text begins with
pub part_of : (a b c : Option (List ℕ)) (n : ℕ) (bs : List ℕ) → Appends a b (take n bs) → Keeps b c
    → AppendsPart a c bs
part_of a b c n bs p q =
    (take n bs, drop n bs, sym (take-append-drop n bs), Appends-kept a b c (take n bs) p q)

pub Keeps-same : (a : Option (List ℕ)) → Keeps a a
Keeps-same None = tt
Keeps-same (Some x) = refl

pub on_err_always : {A E : Type 0} (P : Type 0) (r : Result A E) → P → OnErr r P
on_err_always P (Ok x) h = tt
on_err_always P (Err e) h = h
