use Rattle.std.proofs.Common.{Some, ap, sym, ◌∙◌}
use Rattle.std.specs.Prelude.{option_map, string_bytes}
use Rattle.clap.specs.Words.{found_of, rows_of}
use Rattle.rt_emulate.specs.Emulating.{Emulation}
use Rattle.rt_commands.specs.Words.{tree_of}
use Rattle.rt_commands.proofs.Asking.{asked_by}
use Rattle.rt_commands.proofs.words.read_emulating.Goals as goal

pub returns : goal.returns
returns c =
    let rows = rows_of (found_of c.args.entries.now) in
    let seed = option_map string_bytes c.in_ok-seed.seed in
    let public = option_map string_bytes c.in_ok-public.public in
    let page = option_map string_bytes c.in_ok-page.page in
    asked_by c.args.host rows _ _ _ _ _ _ _ _ _ _ c.number-port.ensures c.read_count-count.ensures
    (ap tree_of (sym c.text.ensures) ∙ c.in_ok-tree.ensures)
    (c.in_ok-seed.ensures ∙ c.text-2.ensures) (c.in_ok-file.ensures ∙ c.text-3.ensures)
    (c.in_ok-public.ensures ∙ c.text-4.ensures) (c.in_ok-page.ensures ∙ c.text-5.ensures)
    c.flag-is_synced.ensures c.in_ok-denied.ensures c.in_ok-origins.ensures
    ∙ ap (λ (e : Emulation). Some (record e { seed = seed; public = public; page = page; host = c.args.host }))
    (sym c.new-emulating.ensures.given)
    ∙ ap (λ (e : Emulation). Some (record e { public = public; page = page; host = c.args.host })) (sym c.seeded.ensures)
    ∙ ap (λ (e : Emulation). Some (record e { host = c.args.host })) (sym c.serving.ensures)
    ∙ ap Some (sym c.at.ensures)
