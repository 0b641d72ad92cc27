-- What was written of entries is read back, line by line.
use Rattle.std.proofs.Common.{◌≡◌, ℕ, suc, ◌+◌, ◌-◌, ◌*◌, ◌/◌, ◌%◌, ◌^◌, ◌<◌, ◌≤◌, Bool, true, false, cond, not}
use Rattle.std.proofs.Common.{nat_lt, eqb, ltb, List, [], ◌∷◌, ◌++◌, length, take, drop, get_or, Option, Some, None}
use Rattle.std.proofs.Common.{refl, sym, ap, ap₂, subst, ◌∙◌, arith, rules, append_assoc, append-nil}
use Rattle.std.specs.Prelude.{decimal, position}
use Rattle.std.specs.List.{All, onto_first, prefix_len}
use Rattle.std.specs.Option.{option_map, option_map_or, option_and_then}
use Rattle.std.proofs.lemmas.Bool.{eqb-true, eq-eqb}
use Rattle.std.proofs.lemmas.Bool.Decides.{nat_tests}
use Rattle.std.proofs.lemmas.Fmt.{decimal_by_steps, decimal_nonempty}
use Rattle.std.proofs.lemmas.List.{length-append}
use Rattle.std.proofs.lemmas.List.Elements.{All-cons, All-nil}
use Rattle.std.proofs.lemmas.List.Splits.{slice_split_at}
use Rattle.std.proofs.Math.Seq.{drop-append-add, take-append_seam}
use Rattle.rt_journal.specs.Entries.{Entry, IsEntry, as_text, entry_in, escaped, escaped_byte, is_feed, is_space}
use Rattle.rt_journal.specs.Entries.{line_of, next_number, number_in, number_on, pieces_of, text_in, text_part}
use Rattle.rt_journal.specs.Entries.{unescaped}
use Rattle.rt_journal.proofs.Texts.{text_there}

-- ---- lists of which no byte passes a test, by recursion
abbrev None_pass : (ℕ → Bool) → List ℕ → Type 0
None_pass p [] = Unit {0}
None_pass p (b ∷ bs) = (p b ≡ false) × None_pass p bs

None_pass-append : (p : ℕ → Bool) (xs ys : List ℕ) → None_pass p xs → None_pass p ys → None_pass p (xs ++ ys)
None_pass-append p [] ys hx hy = hy
None_pass-append p (x ∷ xs) ys hx hy = (hx.0, None_pass-append p xs ys hx.1 hy)

one_more : (n : ℕ) → 1 + n ≡ suc n
one_more n = omega arith

first_len : (p : ℕ → Bool) (xs : List ℕ) (y : ℕ) (ys : List ℕ) → None_pass p xs → p y ≡ true
    → prefix_len (λ x. not (p x)) (xs ++ y ∷ ys) ≡ length xs
first_len p [] y ys hx hy = ap (λ t. cond (not t) (1 + prefix_len (λ x. not (p x)) ys) 0) hy
first_len p (x ∷ xs) y ys hx hy =
    ap (λ t. cond (not t) (1 + prefix_len (λ x. not (p x)) (xs ++ y ∷ ys)) 0) hx.0
    ∙ ap (λ n. 1 + n) (first_len p xs y ys hx.1 hy) ∙ one_more (length xs)

whole_len : (p : ℕ → Bool) (xs : List ℕ) → None_pass p xs → prefix_len (λ x. not (p x)) xs ≡ length xs
whole_len p [] hx = refl
whole_len p (x ∷ xs) hx =
    ap (λ t. cond (not t) (1 + prefix_len (λ x. not (p x)) xs) 0) hx.0 ∙ ap (λ n. 1 + n) (whole_len p xs hx.1)
    ∙ one_more (length xs)

-- ---- escapes
by_byte : (b : ℕ) (rest : List ℕ) (t u : Bool) → eqb b 10 ≡ t → eqb b 27 ≡ u
    → unescaped false (cond t (27 ∷ 110 ∷ []) (cond u (27 ∷ 27 ∷ []) (b ∷ [])) ++ rest)
    ≡ option_map (λ bs. b ∷ bs) (unescaped false rest)
by_byte b rest true u e f = ap (λ x. option_map (λ bs. x ∷ bs) (unescaped false rest)) (sym (eqb-true b 10 e))
by_byte b rest false true e f = ap (λ x. option_map (λ bs. x ∷ bs) (unescaped false rest)) (sym (eqb-true b 27 f))
by_byte b rest false false e f =
    ap (λ t. cond t (unescaped true rest) (option_map (λ bs. b ∷ bs) (unescaped false rest))) f

unescaped-escaped : (text : List ℕ) → unescaped false (escaped text) ≡ Some text
unescaped-escaped [] = refl
unescaped-escaped (b ∷ bs) =
    by_byte b (escaped bs) (eqb b 10) (eqb b 27) refl refl
    ∙ ap (option_map (λ cs. b ∷ cs)) (unescaped-escaped bs)

no_feed_in : (b : ℕ) (t u : Bool) → eqb b 10 ≡ t
    → None_pass is_feed (cond t (27 ∷ 110 ∷ []) (cond u (27 ∷ 27 ∷ []) (b ∷ [])))
no_feed_in b true u e = (refl, (refl, tt))
no_feed_in b false true e = (refl, (refl, tt))
no_feed_in b false false e = (e, tt)

no_feed-escaped : (text : List ℕ) → None_pass is_feed (escaped text)
no_feed-escaped [] = tt
no_feed-escaped (b ∷ bs) =
    None_pass-append is_feed (escaped_byte b) (escaped bs) (no_feed_in b (eqb b 10) (eqb b 27) refl)
    (no_feed-escaped bs)

-- ---- numbers
number_on-append : (n : ℕ) (xs ys : List ℕ)
    → number_on n (xs ++ ys) ≡ option_and_then (λ m. number_on m ys) (number_on n xs)
number_on-append n [] ys = refl
number_on-append n (x ∷ xs) ys =
    elim (next_number n x) as (λ o. option_and_then (λ m. number_on m (xs ++ ys)) o
    ≡ option_and_then (λ m. number_on m ys) (option_and_then (λ m. number_on m xs) o)) [
      | None ↦ refl
      | Some m ↦ number_on-append m xs ys
    ]

digit_next : (n d : ℕ) → d < 10 → n * 10 + d < 2 ^ 64 → next_number n (48 + d) ≡ Some (n * 10 + d)
digit_next n d small fits = grind (arith, nat_tests)

abbrev Reads : ℕ → List ℕ → Type 0
Reads n ds = n < 2 ^ 64 → number_on 0 ds ≡ Some n

reads_one : (n : ℕ) → n < 10 → Reads n ((48 + n) ∷ [])
reads_one n small fits =
    ap (option_and_then (λ m. Some m)) (digit_next 0 n small (omega arith)) ∙ ap Some (from_zero n) where
      from_zero : (k : ℕ) → 0 * 10 + k ≡ k
      from_zero k = omega arith

reads_more : (n : ℕ) (ds : List ℕ) → 10 ≤ n → Reads (n / 10) ds → Reads n (ds ++ ((48 + n % 10) ∷ []))
reads_more n ds large before fits =
    number_on-append 0 ds ((48 + n % 10) ∷ [])
    ∙ ap (option_and_then (λ m. number_on m ((48 + n % 10) ∷ []))) (before (omega arith))
    ∙ ap (option_and_then (λ m. Some m)) (digit_next (n / 10) (n % 10) (omega arith) (omega arith))
    ∙ ap Some (omega arith)

number_in-decimal : (n : ℕ) → n < 2 ^ 64 → number_in (decimal n) ≡ Some n
number_in-decimal n fits =
    ap (λ t. cond t (number_on 0 (decimal n)) None) (ltb_there (length (decimal n)) (decimal_nonempty n fits))
    ∙ decimal_by_steps Reads reads_one reads_more n fits fits where
      ltb_there : (k : ℕ) → 0 < k → nat_lt 0 k ≡ true
      ltb_there k h = grind (arith, nat_tests)

abbrev Plain : (ℕ → Bool) → ℕ → List ℕ → Type 0
Plain p n ds = None_pass p ds

-- no digit passes
abbrev Spares : (ℕ → Bool) → Type 0
Spares p = (d : ℕ) → d < 10 → p (48 + d) ≡ false

plain_decimal : (p : ℕ → Bool) → Spares p → (n : ℕ) → n < 2 ^ 64 → None_pass p (decimal n)
plain_decimal p spares n fits =
    decimal_by_steps (Plain p) (λ m small. (spares m small, tt))
    (λ m ds large before. None_pass-append p ds ((48 + m % 10) ∷ []) before (spares (m % 10) (omega arith), tt))
    n fits

space_spares : Spares is_space
space_spares d small = grind (arith, nat_tests)

feed_spares : Spares is_feed
feed_spares d small = grind (arith, nat_tests)

-- ---- lines

text_spares : (text : Option (List ℕ)) → None_pass is_feed (text_part text)
text_spares None = tt
text_spares (Some text) = (refl, no_feed-escaped text)

-- a line without its line feed
abbrev pub body : Entry → List ℕ
body e = decimal e.0 ++ text_part e.1

body_spares : (e : Entry) → e.0 < 2 ^ 64 → None_pass is_feed (body e)
body_spares e fits =
    None_pass-append is_feed (decimal e.0) (text_part e.1) (plain_decimal is_feed feed_spares e.0 fits)
    (text_spares e.1)

place_of_space : (n : ℕ) (part : List ℕ) → n < 2 ^ 64
    → position is_space (decimal n ++ 32 ∷ part) ≡ Some (length (decimal n))
place_of_space n part fits =
    let here = first_len is_space (decimal n) 32 part (plain_decimal is_space space_spares n fits) refl in
    ap (λ k. cond (nat_lt k (length (decimal n ++ 32 ∷ part))) (Some k) None) here
    ∙ ap (λ t. cond t (Some (length (decimal n))) None) (inside (decimal n) part) where
      inside : (xs part : List ℕ) → nat_lt (length xs) (length (xs ++ 32 ∷ part)) ≡ true
      inside xs part = grind (arith, nat_tests, length-append xs (32 ∷ part))

no_space : (n : ℕ) → n < 2 ^ 64 → position is_space (decimal n ++ []) ≡ None
no_space n fits =
    let all = append-nil (decimal n) in
    let none = whole_len is_space (decimal n) (plain_decimal is_space space_spares n fits) in
    ap (position is_space) all
    ∙ ap (λ k. cond (nat_lt k (length (decimal n))) (Some k) None) none
    ∙ ap (λ t. cond t (Some (length (decimal n))) None) (not_inside (length (decimal n))) where
      not_inside : (k : ℕ) → nat_lt k k ≡ false
      not_inside k = grind (arith, nat_tests)

drop-seam : (xs : List ℕ) (y : ℕ) (ys : List ℕ) → drop (length xs + 1) (xs ++ y ∷ ys) ≡ ys
drop-seam xs y ys = drop-append-add xs (y ∷ ys) 1

-- the entry of a line is read from where its space is
abbrev read_at : Option ℕ → List ℕ → Option Entry
read_at at line =
    option_and_then (λ n. option_map (λ text. (n, text)) (text_in (option_map (λ i. drop (i + 1) line) at)))
    (number_in (option_map_or (λ i. take i line) at line))

pub entry-body : (e : Entry) → IsEntry e → entry_in (body e) ≡ Some e
entry-body (n, None) is =
    ap (λ at. read_at at (decimal n ++ [])) (no_space n is.0)
    ∙ ap (λ digits. option_and_then (λ m. Some (m, None)) (number_in digits)) (append-nil (decimal n))
    ∙ ap (option_and_then (λ m. Some (m, None))) (number_in-decimal n is.0)
entry-body (n, Some text) is =
    let line = decimal n ++ 32 ∷ escaped text in
    ap (λ at. read_at at line) (place_of_space n (escaped text) is.0)
    ∙ ap₂ (λ digits part. option_and_then (λ m. option_map (λ t. (m, t)) (text_in (Some part))) (number_in digits))
    (take-append_seam (decimal n) (32 ∷ escaped text)) (drop-seam (decimal n) 32 (escaped text))
    ∙ ap (λ m. option_and_then (λ k. option_map (λ t. (k, t)) (text_in (Some (escaped text)))) m)
    (number_in-decimal n is.0)
    ∙ ap (λ t. option_map (λ u. (n, u)) (option_map Some (option_and_then as_text t))) (unescaped-escaped text)
    ∙ ap (λ t. option_map (λ u. (n, u)) (option_map Some t)) (text_there text is.1)

-- ---- pieces

to_all : (bytes : List ℕ) → None_pass is_feed bytes → All (λ b. is_feed b ≡ false) bytes
to_all [] h = All-nil (λ b. is_feed b ≡ false)
to_all (b ∷ bs) h = All-cons (λ c. is_feed c ≡ false) b bs h.0 (to_all bs h.1)

pub one_line : (e : Entry) (rest : List ℕ) → e.0 < 2 ^ 64
    → pieces_of (line_of e ++ rest) ≡ body e ∷ pieces_of rest
one_line e rest fits =
    ap pieces_of (append_assoc (body e) (10 ∷ []) rest)
    ∙ slice_split_at is_feed (body e) 10 rest (to_all (body e) (body_spares e fits)) refl

pub some_piece : (bytes : List ℕ) → (p : List ℕ) × (ps : List (List ℕ)) × (pieces_of bytes ≡ p ∷ ps)
some_piece [] = ([], [], refl)
some_piece (b ∷ bs) =
    let h = some_piece bs in
    elim (is_feed b) as (λ t. (p : List ℕ) × (ps : List (List ℕ))
    × (cond t ([] ∷ pieces_of bs) (onto_first b (pieces_of bs)) ≡ p ∷ ps)) [
      | true ↦ ([], pieces_of bs, refl)
      | false ↦ (b ∷ h.0, h.1, ap (onto_first b) h.2)
    ]
