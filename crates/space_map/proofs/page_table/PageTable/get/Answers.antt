use Rattle.std.proofs.Common.{Some, List, sym, ap, ◌∙◌, slice_get}
use Rattle.vax_pte.specs.declared.Place.{Place}
use Rattle.space_map.proofs.WordLaws.{read_at, place_at}
use Rattle.space_map.proofs.page_table.PageTable.get.Goals as goal

pub returns : goal.returns
returns c =
    let words = c.self.inside.words.items in
    let word = c.in_ok-word.field-0.now in
    let got = read_at words c.deref.result.now c.args.v word c.deref.ensures.value c.in_ok-word.ensures.lookup.3.0 c.in_ok-word.ensures.lookup.1 in
    ap (λ (p : Place). Some p) c.place_named.ensures.named ∙
    sym (place_at words c.args.v word got) ∙
    ap (λ (ps : List Place). slice_get ps c.args.v) c.self.view_is
