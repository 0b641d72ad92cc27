-- Ids rise.
use Rattle.std.proofs.Common.{◌≡◌, ℕ, zero, suc, ◌+◌, ◌*◌, ◌/◌, ◌%◌, ◌^◌, ◌<◌, Bool, true, false, not, ◌&&◌, if◌then◌else◌, nat_lt, List, [], ◌∷◌, ◌++◌, map, length, Option, Some, None, inl, inr, refl, ap, sym, subst, ◌∙◌, arith}
use Rattle.std.specs.Option.{is_some}
use Rattle.std.specs.List.{AllByRecursion, list_all}
use Rattle.std.specs.List.Sorted.{IsStrictlySortedBy}
use Rattle.std.specs.declared.cmp.Ordering.{Ordering}
use Rattle.std.specs.declared.cmp.Ordering.TheVariants.{Less, Equal, Greater}
use Rattle.std.specs.Ordering.{ordering_then, nat_cmp}
use Rattle.std.specs.Cmp.{nat_cmp_is}
use Rattle.std.specs.Cmp.Lexicographic.{slice_cmp}
use Rattle.std.proofs.Math.Nat.{pow-succ'}
use Rattle.std.proofs.lemmas.Bool.{cases_lt, ltb-true}
use Rattle.std.proofs.lemmas.Cmp.{nat_list_cmp_total}
use Rattle.rt_push.specs.Digits.{digit_byte, is_digit, number, text}
use Rattle.rt_push.specs.PushIds.{Stamp, push_fault, push_id, used}
use Rattle.rt_push.specs.laws.Ids.{Call, ids, stamps}
use Rattle.rt_push.specs.declared.error.PushError.{PushError}
use Rattle.rt_push.specs.declared.error.PushError.TheVariants.{Exhausted, MomentTooLarge, RandomOutOfRange}
use Rattle.rt_push.proofs.DigitLaws.{and-first, and-second, text-suc, length-text}

-- ---- bytes of digits

-- whether the bytes of the digits up to this one rise
abbrev bytes_rise : ℕ → Bool
bytes_rise zero = true
bytes_rise (suc n) = nat_lt (digit_byte n) (digit_byte (suc n)) && bytes_rise n

all_bytes_rise : bytes_rise 63 ≡ true
unfolding digit_byte
all_bytes_rise = refl

next_byte : (n d : ℕ) → bytes_rise n ≡ true → d < n → digit_byte d < digit_byte (suc d)
next_byte zero d e h = absurd (omega arith)
next_byte (suc n) d e h = elim (cases_lt d n) [
  | inl less ↦ next_byte n d (and-second (nat_lt (digit_byte n) (digit_byte (suc n))) (bytes_rise n) e) less
  | inr more ↦ subst (λ x. digit_byte x < digit_byte (suc x)) (omega arith) (ltb-true (digit_byte n) (digit_byte (suc n)) (and-first (nat_lt (digit_byte n) (digit_byte (suc n))) (bytes_rise n) e))
]

byte-lt : (a b : ℕ) → a < b → b < 64 → digit_byte a < digit_byte b
byte-lt a zero h l = absurd (omega arith)
byte-lt a (suc b) h l =
    let next : digit_byte b < digit_byte (suc b) = next_byte 63 b all_bytes_rise (omega arith) in elim (cases_lt a b) [
      | inl less ↦ omega (arith, byte-lt a b less (omega arith))
      | inr more ↦ subst (λ x. digit_byte x < digit_byte (suc b)) (omega arith) next
    ]

-- ---- comparing lists

then-then : (a b c : Ordering) → ordering_then a (ordering_then b c) ≡ ordering_then (ordering_then a b) c
then-then Less b c = refl
then-then Equal b c = refl
then-then Greater b c = refl

cmp-append : (xs ys us vs : List ℕ) → length xs ≡ length ys → slice_cmp nat_cmp (xs ++ us) (ys ++ vs) ≡ ordering_then (slice_cmp nat_cmp xs ys) (slice_cmp nat_cmp us vs)
cmp-append [] [] us vs e = refl
cmp-append [] (y ∷ ys) us vs e = absurd (omega arith)
cmp-append (x ∷ xs) [] us vs e = absurd (omega arith)
cmp-append (x ∷ xs) (y ∷ ys) us vs e =
    ap (ordering_then (nat_cmp x y)) (cmp-append xs ys us vs (omega arith)) ∙ then-then (nat_cmp x y) (slice_cmp nat_cmp xs ys) (slice_cmp nat_cmp us vs)

cmp-same : (xs : List ℕ) → slice_cmp nat_cmp xs xs ≡ Equal
cmp-same [] = refl
cmp-same (x ∷ xs) = ap (λ o. ordering_then o (slice_cmp nat_cmp xs xs)) (sym (nat_cmp_is x x Equal refl)) ∙ cmp-same xs

-- ---- texts and ids

last-digit : (m n : ℕ) → m < n → n < 64 → slice_cmp nat_cmp (digit_byte m ∷ []) (digit_byte n ∷ []) ≡ Less
last-digit m n h l = ap (λ o. ordering_then o Equal) (sym (nat_cmp_is (digit_byte m) (digit_byte n) Less (byte-lt m n h l)))

text-cmp : (k m n : ℕ) → slice_cmp nat_cmp (text (suc k) m) (text (suc k) n) ≡ ordering_then (slice_cmp nat_cmp (text k (m / 64)) (text k (n / 64))) (slice_cmp nat_cmp (digit_byte (m % 64) ∷ []) (digit_byte (n % 64) ∷ []))
text-cmp k m n =
    ap (λ t. slice_cmp nat_cmp t (text (suc k) n)) (text-suc k m) ∙ ap (slice_cmp nat_cmp (text k (m / 64) ++ digit_byte (m % 64) ∷ [])) (text-suc k n)
    ∙ cmp-append (text k (m / 64)) (text k (n / 64)) (digit_byte (m % 64) ∷ []) (digit_byte (n % 64) ∷ []) (length-text k (m / 64) ∙ sym (length-text k (n / 64)))

-- the text of a greater number is greater
pub text-rises : (k m n : ℕ) → m < n → n < 64 ^ k → slice_cmp nat_cmp (text k m) (text k n) ≡ Less
text-rises zero m n h l = absurd (omega arith)
text-rises (suc k) m n h l =
    let below : n < 64 * 64 ^ k = subst (λ p. n < p) (pow-succ' 64 k) l in
    let last = slice_cmp nat_cmp (digit_byte (m % 64) ∷ []) (digit_byte (n % 64) ∷ []) in elim (cases_lt (m / 64) (n / 64)) [
      | inl less ↦ text-cmp k m n ∙ ap (λ o. ordering_then o last) (text-rises k (m / 64) (n / 64) less (omega arith))
      | inr more ↦ text-cmp k m n ∙ ap (λ q. ordering_then (slice_cmp nat_cmp (text k q) (text k (n / 64))) last) (omega arith)
          ∙ ap (λ o. ordering_then o last) (cmp-same (text k (n / 64))) ∙ last-digit (m % 64) (n % 64) (omega arith) (omega arith)
    ]

id-cmp : (s t : Stamp) → slice_cmp nat_cmp (push_id s) (push_id t) ≡ ordering_then (slice_cmp nat_cmp (text 8 s.0) (text 8 t.0)) (slice_cmp nat_cmp (text 12 s.1) (text 12 t.1))
id-cmp s t = cmp-append (text 8 s.0) (text 8 t.0) (text 12 s.1) (text 12 t.1) (length-text 8 s.0 ∙ sym (length-text 8 t.0))

-- ---- what the next call uses is above what was used last

abbrev stamp_by : Bool → Stamp → ℕ → ℕ → Stamp
stamp_by later last now random = if later then (now, random) else (last.0, last.1 + 1)

above : (last : Stamp) (now random : ℕ) (later : Bool) → later ≡ nat_lt last.0 now → now < 2 ^ 48 → (stamp_by later last now random).1 < 64 ^ 12 →
    slice_cmp nat_cmp (push_id last) (push_id (stamp_by later last now random)) ≡ Less
above last now random true e small fits =
    id-cmp last (now, random) ∙ ap (λ o. ordering_then o (slice_cmp nat_cmp (text 12 last.1) (text 12 random))) (text-rises 8 last.0 now (ltb-true last.0 now (sym e)) small)
above last now random false e small fits =
    id-cmp last (last.0, last.1 + 1) ∙ ap (λ o. ordering_then o (slice_cmp nat_cmp (text 12 last.1) (text 12 (last.1 + 1)))) (cmp-same (text 8 last.0))
    ∙ text-rises 12 last.1 (last.1 + 1) (omega arith) fits

no_fault : (a b c : Bool) → (if not a then Some MomentTooLarge else if not b then Some RandomOutOfRange else if not c then Some Exhausted else None) ≡ None → (a ≡ true) × (c ≡ true)
no_fault true true true e = (refl, refl)
no_fault true true false e = cc
no_fault true false c e = cc
no_fault false b c e = cc

-- above the id of what was used last
abbrev Above : Option Stamp → List ℕ → Type 0
Above None id = Unit {0}
Above (Some last) id = slice_cmp nat_cmp (push_id last) id ≡ Less

used-above : (last : Option Stamp) (now : ℕ) (random : List ℕ) → push_fault last now random ≡ None → Above last (push_id (used last now (number random)))
used-above None now random e = tt
used-above (Some last) now random e =
    let causes = no_fault (nat_lt now (2 ^ 48)) (list_all is_digit random) (nat_lt (used (Some last) now (number random)).1 (64 ^ 12)) e in
    above last now (number random) (nat_lt last.0 now) refl (ltb-true now (2 ^ 48) causes.0) (ltb-true (used (Some last) now (number random)).1 (64 ^ 12) causes.1)

above-next : (last : Option Stamp) (id next : List ℕ) → Above last id → slice_cmp nat_cmp id next ≡ Less → Above last next
above-next None id next h k = tt
above-next (Some last) id next h k = nat_list_cmp_total.trans (push_id last) id next h k

all-above : (last : Option Stamp) (id : List ℕ) (ys : List (List ℕ)) → Above last id → AllByRecursion (λ y. slice_cmp nat_cmp id y ≡ Less) ys → AllByRecursion (Above last) ys
all-above last id [] h k = tt
all-above last id (y ∷ ys) h k = (above-next last id y h k.0, all-above last id ys h k.1)

-- ---- all calls

abbrev Rise : Option Stamp → List (List ℕ) → Type 0
Rise last ys = AllByRecursion (Above last) ys × IsStrictlySortedBy (slice_cmp nat_cmp) ys

rise_more : (last : Option Stamp) (call : Call) (calls : List Call) (fault : Option PushError) → push_fault last call.0 call.1 ≡ fault → ((l : Option Stamp) → Rise l (ids l calls)) →
    let stamp = used last call.0 (number call.1) in Rise last (map push_id (if is_some fault then stamps last calls else stamp ∷ stamps (Some stamp) calls))
unfolding IsStrictlySortedBy
rise_more last call calls (Some e) f rest = rest last
rise_more last call calls None f rest =
    let stamp = used last call.0 (number call.1) in
    let id_above = used-above last call.0 call.1 f in
    let more = rest (Some stamp) in
    ((id_above, all-above last (push_id stamp) (ids (Some stamp) calls) id_above more.0), (more.0, more.1))

-- the ids of all calls are above what was used last, and each is above those before it
pub rise : (last : Option Stamp) (calls : List Call) → Rise last (ids last calls)
unfolding IsStrictlySortedBy
rise last [] = (tt, tt)
rise last (call ∷ calls) = rise_more last call calls (push_fault last call.0 call.1) refl (λ l. rise l calls)
