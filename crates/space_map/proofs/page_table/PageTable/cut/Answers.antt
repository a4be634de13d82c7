use Rattle.std.proofs.Common.{sym, ap, ◌∙◌, map, take}
use Rattle.std.proofs.lemmas.List.{take-map}
use Rattle.vax_pte.specs.Words.{place_named}
use Rattle.space_map.proofs.page_table.PageTable.cut.Goals as goal

pub returns : goal.returns
returns c =
    ap (map place_named) c.truncate.ensures.items ∙
    sym (take-map place_named c.args.pages c.self.inside.words.items) ∙
    ap (take c.args.pages) c.self.view_is
