-- What is read of a head.
use Rattle.std.proofs.Common.{◌≡◌, ◌≢◌, ◌⊎◌, inl, inr, ℕ, ◌+◌, ◌<◌, min, ◌≤◌, List, [], length, take, drop, map, Option, Some, Result, Ok, Err, refl, sym, ap, ◌∙◌, subst, arith, length-append, length-take}
use Rattle.std.specs.Borrow.{Bor}
use Rattle.std.specs.Prelude.{IfErr, IfOk, option_copied}
use Rattle.std.specs.Option.{unwrap_or}
use Rattle.std.proofs.lemmas.List.{length-take-le, take_all}
use Rattle.httparse.specs.Borrowed.{HoldsRequest, HoldsSomeRequest, header_parts}
use Rattle.httparse.specs.Grammar.{RequestHead, ReadsRequest, HasNoRequest, print_request}
use Rattle.httparse.specs.Spans.{name_and_value}
use Rattle.httparse.specs.declared.borrowed.Request.{Request}
use Rattle.httparse.proofs.GrammarLemmas.{request_unique}
use Rattle.rt_http.specs.Heads.{Said, said_of}
use Rattle.rt_http.specs.Readings.{IsHead, IsRefusedHead, IsSaid, head_says}
use Rattle.rt_http.specs.Incomings.{Incoming, IsRefusedAt}
use Rattle.rt_http.specs.declared.head.Head.{Head}
use Rattle.rt_http.specs.declared.request.Begun.{Begun}
use Rattle.rt_http.specs.declared.fault.TheConstants.{MAX_FIELDS, MAX_HEAD_BYTES}
use Rattle.rt_http.specs.declared.fault.Refusal.{Refusal}
use Rattle.rt_http.specs.declared.fault.Refusal.TheVariants.{HeadTooLong, NoMemory}

-- ---- the window

pub full_window : (n : ℕ) (bytes : List ℕ) → n < length bytes → n ≡ length (take n bytes)
full_window n bytes more = sym (length-take-le n bytes (omega (arith, more)))

pub whole_window : (n : ℕ) (bytes : List ℕ) → length bytes ≤ n → bytes ≡ take n bytes
whole_window n bytes few = sym (take_all n bytes few)

-- ---- what a head says

by_parts : (most : ℕ) (h : RequestHead) (method target : List ℕ) (minor : ℕ) (fields : List (List ℕ × List ℕ))
    → method ≡ h.method → target ≡ h.target → minor ≡ h.minor → fields ≡ map name_and_value h.fields
    → head_says most h ≡ said_of most method target minor fields
by_parts most h method target minor fields a b c d =
    ap (λ x. said_of most x h.target h.minor (map name_and_value h.fields)) (sym a)
    ∙ ap (λ x. said_of most method x h.minor (map name_and_value h.fields)) (sym b)
    ∙ ap (λ x. said_of most method target x (map name_and_value h.fields)) (sym c)
    ∙ ap (λ x. said_of most method target minor x) (sym d)

-- the parts that the parser holds
parts_are : (most : ℕ) (buf : List ℕ) (size : ℕ) (r : Request) (k : RequestHead) (m t : Bor (List ℕ)) (minor : ℕ)
    → HoldsRequest buf size r k → r.method ≡ Some m → r.path ≡ Some t → r.version ≡ Some minor
    → head_says most k ≡ said_of most m.now t.now minor (map header_parts r.headers.now)
parts_are most buf size r k m t minor h a b c =
    by_parts most k m.now t.now minor (map header_parts r.headers.now)
    (ap (λ o. unwrap_or o []) (sym (ap option_copied a) ∙ h.method))
    (ap (λ o. unwrap_or o []) (sym (ap option_copied b) ∙ h.path))
    (ap (λ o. unwrap_or o 0) (sym c ∙ h.version))
    h.fields

-- a head at the front is the one that the parser holds
says_same : (most : ℕ) (bytes buf : List ℕ) (size : ℕ) (r : Request) (m t : Bor (List ℕ)) (minor : ℕ) → buf ≡ bytes
    → HoldsSomeRequest buf r size → r.method ≡ Some m → r.path ≡ Some t → r.version ≡ Some minor
    → (h : RequestHead) (rest : List ℕ) → ReadsRequest bytes h rest
    → head_says most h ≡ said_of most m.now t.now minor (map header_parts r.headers.now)
says_same most bytes buf size r m t minor is holds a b c h rest reads =
    ap (head_says most)
    (request_unique buf h holds.0 rest (drop size buf) (subst (λ bs. ReadsRequest bs h rest) (sym is) reads) holds.1.reads).0
    ∙ parts_are most buf size r holds.0 m t minor holds.1 a b c

-- ---- what is answered

pub found_ok : (most : ℕ) (bytes buf : List ℕ) (size : ℕ) (r : Request) (m t : Bor (List ℕ)) (minor : ℕ)
    (read : Result Said Refusal) (said : Said)
    → buf ≡ bytes → HoldsSomeRequest buf r size → r.method ≡ Some m → r.path ≡ Some t → r.version ≡ Some minor
    → IfOk read (λ q. said_of most m.now t.now minor (map header_parts r.headers.now) ≡ Ok q) → read ≡ Ok said
    → (h : RequestHead) (rest : List ℕ) → ReadsRequest bytes h rest → length h.fields ≤ MAX_FIELDS
    → IsSaid (head_says most h) (Ok (Some (record { request = said; length = size })))
found_ok most bytes buf size r m t minor read said is holds a b c says was h rest reads few =
    let mine : said_of most m.now t.now minor (map header_parts r.headers.now) ≡ Ok said =
    subst (λ x. IfOk x (λ q. said_of most m.now t.now minor (map header_parts r.headers.now) ≡ Ok q)) was says in
    subst (λ s. IsSaid s (Ok (Some (record { request = said; length = size }))))
    (sym (says_same most bytes buf size r m t minor is holds a b c h rest reads ∙ mine)) refl

said_err : (s : Result Said Refusal) (r : Result Said Refusal) (e : Refusal) → (s ≡ Err e) ⊎ (e ≡ NoMemory)
    → IfErr s (λ d. r ≡ Err d) → r ≡ Err e → IsSaid s (Err e)
said_err (Ok said) r e (inl f) refused is = cc
said_err (Ok said) r e (inr f) refused is = f
said_err (Err d) r e h refused is = let same : e ≡ d = cc in ap Err same

pub found_err : (most : ℕ) (bytes buf : List ℕ) (size : ℕ) (r : Request) (m t : Bor (List ℕ)) (minor : ℕ)
    (read : Result Said Refusal) (e : Refusal) (result : Result (Option Head) Refusal)
    → buf ≡ bytes → HoldsSomeRequest buf r size → r.method ≡ Some m → r.path ≡ Some t → r.version ≡ Some minor
    → IfErr read (λ d. (said_of most m.now t.now minor (map header_parts r.headers.now) ≡ Err d) ⊎ (d ≡ NoMemory))
    → IfErr (said_of most m.now t.now minor (map header_parts r.headers.now)) (λ d. read ≡ Err d)
    → read ≡ Err e → result ≡ Err e
    → (h : RequestHead) (rest : List ℕ) → ReadsRequest bytes h rest → length h.fields ≤ MAX_FIELDS
    → IsSaid (head_says most h) result
found_err most bytes buf size r m t minor read e result is holds a b c why refused was out h rest reads few =
    let mine =
    subst (λ x. IfErr x (λ d. (said_of most m.now t.now minor (map header_parts r.headers.now) ≡ Err d) ⊎ (d ≡ NoMemory))) was why in
    subst (λ x. IsSaid (head_says most h) x) (sym out)
    (subst (λ s. IsSaid s (Err e)) (sym (says_same most bytes buf size r m t minor is holds a b c h rest reads))
    (said_err (said_of most m.now t.now minor (map header_parts r.headers.now)) read e mine refused was))

-- ---- no head

pub full_head : (most : ℕ) (bytes buf : List ℕ) → buf ≡ bytes → HasNoRequest buf → length buf ≡ MAX_HEAD_BYTES
    → (HeadTooLong ≡ NoMemory) ⊎ IsRefusedHead most bytes HeadTooLong
full_head most bytes buf is free full =
    subst (λ b. (HeadTooLong ≡ NoMemory) ⊎ IsRefusedHead most b HeadTooLong) is (inr (inr (inr (free, full))))

pub open_head : (n : ℕ) (bytes buf : List ℕ) → buf ≡ take n bytes → HasNoRequest buf → length buf ≢ n
    → HasNoRequest (take n bytes) × (length bytes < n)
open_head n bytes buf is free ne =
    let size : length buf ≡ min n (length bytes) = ap length is ∙ length-take n bytes in
    (subst HasNoRequest is free, omega (arith, size, ne))

-- ---- where it is used

-- the head lies within the bytes
pub head_fits : (most n : ℕ) (bytes : List ℕ) (size : ℕ) (said : Said) → IsHead most (take n bytes) size said
    → size ≤ length bytes
head_fits most n bytes size said h =
    let all : length (take n bytes) ≡ length (print_request h.0) + length (drop size (take n bytes)) =
    ap length h.1.1 ∙ length-append (print_request h.0) (drop size (take n bytes)) in
    omega (arith, all, h.2, length-take n bytes)

-- the head of what holds these bytes
pub at_front : (most ours : ℕ) (bytes mine : List ℕ) (size : ℕ) (said : Said) → ours ≡ most → mine ≡ bytes
    → IsHead most (take MAX_HEAD_BYTES bytes) size said → IsHead ours (take MAX_HEAD_BYTES mine) size said
at_front most ours bytes mine size said e f h =
    subst (λ m. IsHead m (take MAX_HEAD_BYTES mine) size said) (sym e)
    (subst (λ b. IsHead most (take MAX_HEAD_BYTES b) size said) (sym f) h)

-- a head that is refused is refused of what holds these bytes
pub refused_at : (a : Incoming) (most : ℕ) (bytes : List ℕ) (r : Result (Option Head) Refusal) (e : Refusal)
    (out : Result Begun Refusal) → a.most ≡ most → a.bytes ≡ bytes
    → IfErr r (λ d. (d ≡ NoMemory) ⊎ IsRefusedHead most (take MAX_HEAD_BYTES bytes) d) → r ≡ Err e → out ≡ Err e
    → IfErr out (IsRefusedAt a)
refused_at a most bytes r e out same_most same_bytes why was is =
    let mine : (e ≡ NoMemory) ⊎ IsRefusedHead most (take MAX_HEAD_BYTES bytes) e =
    subst (λ x. IfErr x (λ d. (d ≡ NoMemory) ⊎ IsRefusedHead most (take MAX_HEAD_BYTES bytes) d)) was why in
    subst (λ x. IfErr x (IsRefusedAt a)) (sym is)
    (subst (λ m. (e ≡ NoMemory) ⊎ IsRefusedHead m (take MAX_HEAD_BYTES a.bytes) e) (sym same_most)
    (subst (λ b. (e ≡ NoMemory) ⊎ IsRefusedHead most (take MAX_HEAD_BYTES b) e) (sym same_bytes) mine))

pub on_err : {A E : Type 0} {P Q : E → Type 0} (r : Result A E) → ((e : E) → P e → Q e) → IfErr r P → IfErr r Q
on_err (Ok a) f h = tt
on_err (Err e) f h = f e h
