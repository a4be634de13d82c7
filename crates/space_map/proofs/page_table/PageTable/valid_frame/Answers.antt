use Rattle.std.proofs.Common.{List, sym, ap, ◌∙◌, slice_get}
use Rattle.vax_pte.specs.declared.Place.{Place}
use Rattle.space_map.specs.Space.{entry_frame}
use Rattle.vax_pte.specs.Words.{place_named}
use Rattle.space_map.specs.Tables.{IsWord}
use Rattle.space_map.proofs.WordLaws.{read_at, word_at, place_at}
use Rattle.space_map.proofs.page_table.PageTable.valid_frame.Goals as goal

pub returns : goal.returns
unfolding IsWord
returns c =
    let u = c.self.inside.user_write in
    let words = c.self.inside.words.items in
    let word = c.in_ok-word.field-0.now in
    let got = read_at words c.deref.result.now c.args.v word c.deref.ensures.value c.in_ok-word.ensures.lookup.3.0 c.in_ok-word.ensures.lookup.1 in
    c.valid_frame.ensures (record { user_write = u; place = place_named word })
    (word_at u words c.args.v word c.self.invariant.words got) ∙
    sym (ap entry_frame (place_at words c.args.v word got)) ∙
    ap (λ (ps : List Place). entry_frame (slice_get ps c.args.v)) c.self.view_is
