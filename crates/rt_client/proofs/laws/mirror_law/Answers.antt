use Rattle.rt_client.specs.laws.Reflecting.{MirrorStaysCore}
use Rattle.rt_client.proofs.Mirrored.{mirror_stays_core, mirror_is_core}
use Rattle.rt_client.proofs.laws.mirror_law.Goals as goal

pub returns : goal.returns
returns c =
    let onward : MirrorStaysCore = mirror_stays_core c.sound_law.ensures.next c.reflection_law.ensures.step in
    record { empty = mirror_is_core c.sound_law.ensures.worlds onward; onward = onward }
