-- Bytes as JSON.
use Rattle.std.proofs.Common.{◌≡◌, ℕ, List, true, false, cond, Option, Some, None, refl, sym, ap, ◌∙◌}
use Rattle.std.specs.Prelude.{if◌then◌else◌}
use Rattle.std.specs.Str.{IsUtf8, is_utf8}
use Rattle.std.proofs.lemmas.Str.{is_utf8-from_IsUtf8, IsUtf8-from_is_utf8}
use Rattle.serde_json.specs.Data.{Data}
use Rattle.serde_json.specs.Read.{read}
use Rattle.rt_lines.specs.Lines.{data_of_bytes, unmarked}

-- the JSON value of a text of UTF-8
abbrev text_data : List ℕ → Option Data
text_data text = if is_utf8 text then read text else None

text_data-none : (text : List ℕ) → (IsUtf8 text → read text ≡ None) → text_data text ≡ None
text_data-none text h =
    elim (is_utf8 text) as (λ b. is_utf8 text ≡ b → cond b (read text) None ≡ None) [
      | true ↦ λ e. h (IsUtf8-from_is_utf8 text e)
      | false ↦ λ e. refl
    ] refl

-- bytes are read behind their mark
pub data_of_bytes-read : (bytes text : List ℕ) (d : Data) → text ≡ unmarked bytes → IsUtf8 text
    → read text ≡ Some d → data_of_bytes bytes ≡ Some d
data_of_bytes-read bytes text d same u r =
    let is : text_data text ≡ Some d = rw (is_utf8-from_IsUtf8 text u) r in
    ap text_data (sym same) ∙ is

pub data_of_bytes-none : (bytes text : List ℕ) → text ≡ unmarked bytes → (IsUtf8 text → read text ≡ None)
    → data_of_bytes bytes ≡ None
data_of_bytes-none bytes text same h = ap text_data (sym same) ∙ text_data-none text h
