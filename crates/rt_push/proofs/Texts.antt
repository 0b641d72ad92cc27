-- Ids are texts.
use Rattle.std.proofs.Common.{◌≡◌, ℕ, zero, suc, ◌/◌, ◌%◌, ◌<◌, true, nat_lt, List, [], ◌∷◌, IsAscii, refl, sym, subst}
use Rattle.std.specs.List.{list_all}
use Rattle.std.specs.Str.{IsUtf8}
use Rattle.std.proofs.lemmas.Bool.{ltb-true}
use Rattle.std.proofs.lemmas.Str.{IsAscii-append, IsUtf8-from_ascii}
use Rattle.std.proofs.lemmas.Str.Ascii.{IsAscii-cons, IsAscii-nil}
use Rattle.rt_push.specs.Digits.{alphabet, digit_byte, text}
use Rattle.rt_push.specs.PushIds.{Stamp, push_id}
use Rattle.rt_push.proofs.DigitLaws.{and-first, and-second, text-suc, text-zero}

ascii_from : (bytes : List ℕ) → list_all (λ b. nat_lt b 128) bytes ≡ true → IsAscii bytes
ascii_from [] e = IsAscii-nil
ascii_from (b ∷ bytes) e =
    IsAscii-cons b bytes (ltb-true b 128 (and-first (nat_lt b 128) (list_all (λ c. nat_lt c 128) bytes) e))
    (ascii_from bytes (and-second (nat_lt b 128) (list_all (λ c. nat_lt c 128) bytes) e))

alphabet_is_ascii : IsAscii alphabet
alphabet_is_ascii = ascii_from alphabet refl

byte_lt : (value : ℕ) → digit_byte value < 128
unfolding digit_byte
byte_lt value = alphabet_is_ascii value

text_is_ascii : (count n : ℕ) → IsAscii (text count n)
text_is_ascii zero n = subst IsAscii (sym (text-zero n)) IsAscii-nil
text_is_ascii (suc count) n =
    subst IsAscii (sym (text-suc count n))
    (IsAscii-append (text count (n / 64)) (digit_byte (n % 64) ∷ []) (text_is_ascii count (n / 64)) (IsAscii-cons (digit_byte (n % 64)) [] (byte_lt (n % 64)) IsAscii-nil))

pub id_is_text : (stamp : Stamp) → IsUtf8 (push_id stamp)
id_is_text stamp = IsUtf8-from_ascii (push_id stamp) (IsAscii-append (text 8 stamp.0) (text 12 stamp.1) (text_is_ascii 8 stamp.0) (text_is_ascii 12 stamp.1))
