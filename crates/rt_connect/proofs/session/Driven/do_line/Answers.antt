use Rattle.std.proofs.Common.{◌≡◌, ◌==◌, ◌∙◌, sym, refl, ℕ, Bool, false, List, [], ◌∷◌, length}
use Rattle.rt_lines.specs.Orders.{is_formed, is_good_order, order_of_bytes}
use Rattle.rt_connect.proofs.session.Driven.do_line.Goals as goal

-- of a line that isn't empty the order decides
filled : (bytes : List ℕ) (is_empty : Bool) → is_empty ≡ false → is_empty ≡ (length bytes == 0)
    → is_good_order bytes ≡ is_formed (order_of_bytes bytes)
filled [] is_empty f e = cc
filled (b ∷ bytes) is_empty f e = refl

pub returns-clause-good : goal.returns-clause-good
returns-clause-good g c =
    c.in_ok-is_good.ensures.good
    ∙ sym (filled c.args.bytes.now c.is_empty.result c.if-is_empty.false c.is_empty.ensures)
