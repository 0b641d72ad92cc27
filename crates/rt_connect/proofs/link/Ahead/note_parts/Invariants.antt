use Rattle.std.proofs.Common.{◌≡◌, drop, map}
use Rattle.rt_wire.specs.Parts.{Part}
use Rattle.rt_connect.specs.declared.link.Name.TheVariants.{Listen}
use Rattle.rt_connect.specs.Ahead.{all_answered}
use Rattle.rt_connect.proofs.link.Ahead.note_parts.Given as goal

-- with what is left it is all
abbrev pub invariant-loop-part : goal.invariant-loop-part
invariant-loop-part l =
    all_answered (map (λ (p : Part). Listen p.0) (drop l.part-index l.parts)) l.self ≡ all_answered (map (λ (p : Part). Listen p.0) l.parts) l.initial.self
