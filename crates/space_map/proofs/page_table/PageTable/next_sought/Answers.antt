use Rattle.std.proofs.Common.{◌≡◌, List, map, slice_get, ap, ◌∙◌, subst, arith}
use Rattle.std.proofs.lemmas.List.{length-map}
use Rattle.vax_pte.specs.declared.Place.{Place}
use Rattle.space_map.specs.Space.{IsNextOfKind}
use Rattle.space_map.specs.Tables.{is_sought}
use Rattle.vax_pte.specs.Words.{place_named}
use Rattle.space_map.proofs.NextPlace.{next_past}
use Rattle.space_map.proofs.page_table.PageTable.next_sought.Goals as goal

pub returns : goal.returns
returns c =
    let words = c.as_slice-words.result.now in
    let places : List Place = map place_named words in
    let end = c.no_more.result in
    let same : places ≡ c.args.self.now = ap (map place_named) c.as_slice-words.ensures.value ∙ c.self.view_is in
    let count = length-map words place_named in
    subst (λ (ps : List Place). IsNextOfKind (is_sought c.args.sought) (slice_get ps) c.args.from c.args.to c.first_sought.result) same
    (next_past (is_sought c.args.sought) places c.args.from end c.args.to c.first_sought.result c.no_more.ensures.most
    (λ less. let all = c.no_more.ensures.all less in omega (arith, all, count)) c.first_sought.ensures)
