use Rattle.std.proofs.Common.{◌≡◌, ◌++◌, ℕ, Bool, true, List, [], String, Global, Option, Some, None, Result, Ok, Err, refl, sym, ap, ◌∙◌}
use Rattle.std.specs.Prelude.{OnOk, codes, decimal, if◌then◌else◌}
use Rattle.rt_lines.specs.Bad.{IsNote, why_line}
use Rattle.rt_lines.specs.Lines.{has_mark}
use Rattle.rt_lines.specs.declared.error.Refusal.{Refusal}
use Rattle.rt_lines.specs.inside.Appending.{Appends}
use Rattle.rt_lines.proofs.error.write_note.Goals as goal

-- a refused word is told
noted : {E : Type 0} (r : Result Unit E) (old new : String Global) (found : Option Refusal) (why : Refusal)
    (number : ℕ) (bytes : List ℕ) → found ≡ Some why
    → OnOk r ((words : List ℕ) × Appends old new (why_line number words))
    → OnOk r ((text : List ℕ) × Appends old new text × IsNote found number bytes text)
noted (Ok done) old new found why number bytes is h = (why_line number h.0, h.1, rw is (h.0, refl))
noted (Err e) old new found why number bytes is h = tt

-- what is told of a mark
abbrev marked_text : ℕ → List ℕ
marked_text number =
    codes "line " ++ decimal number ++ codes " begins with a byte order mark, which is passed over"

marked : {E : Type 0} (r : Result Unit E) (old new : String Global) (found : Option Refusal) (number : ℕ)
    (bytes : List ℕ) → found ≡ None → has_mark bytes ≡ true → OnOk r (Appends old new (marked_text number))
    → OnOk r ((text : List ℕ) × Appends old new text × IsNote found number bytes text)
marked (Ok done) old new found number bytes none mark h =
    (marked_text number, h, rw none (ap (λ (b : Bool). if b then marked_text number else []) (sym mark)))
marked (Err e) old new found number bytes none mark h = tt

pub returns-in-Some : goal.returns-in-Some
returns-in-Some c =
    noted c.write_why.result c.args.out.now c.write_why.new.out _ c.in-Some.why c.args.number c.args.bytes.now
    (sym c.in_ok-why.ensures ∙ c.in-Some.is) c.write_why.ensures

pub returns-in-None : goal.returns-in-None
returns-in-None c =
    marked c.write.result c.args.out.now c.write.new.self _ c.args.number c.args.bytes.now
    (sym c.in_ok-why.ensures ∙ c.in-None.is) (sym c.has_mark.ensures.mark ∙ c.if-has_mark.true) c.write.ensures.bytes
