-- Bytes that are a text, and bytes that are none.
use Rattle.std.proofs.Common.{◌≡◌, ℕ, Bool, true, false, cond, List, Some, None, refl, sym, ap, ◌∙◌}
use Rattle.std.specs.Str.{IsUtf8, is_utf8}
use Rattle.std.proofs.lemmas.Str.{IsUtf8-from_is_utf8, is_utf8-from_IsUtf8}
use Rattle.rt_journal.specs.Entries.{as_text}

pub text_there : (bytes : List ℕ) → IsUtf8 bytes → as_text bytes ≡ Some bytes
text_there bytes is = ap (λ b. cond b (Some bytes) None) (is_utf8-from_IsUtf8 bytes is)

by_test : (bytes : List ℕ) (b : Bool) → is_utf8 bytes ≡ b → ¬ (IsUtf8 bytes) → cond b (Some bytes) None ≡ None
by_test bytes true e never = absurd (never (IsUtf8-from_is_utf8 bytes e))
by_test bytes false e never = refl

pub no_text : (bytes : List ℕ) → ¬ (IsUtf8 bytes) → as_text bytes ≡ None
no_text bytes never = by_test bytes (is_utf8 bytes) refl never
