use Rattle.std.proofs.Common.{List, sym, ap, ap₂, ◌∙◌, subst, slice_set}
use Rattle.std.proofs.lemmas.List.{map-set}
use Rattle.std.proofs.lemmas.List.Elements.{All-set}
use Rattle.vax_pte.specs.declared.Place.{Place}
use Rattle.vax_pte.specs.Words.{place_named}
use Rattle.space_map.specs.Tables.{IsWord}
use Rattle.space_map.proofs.WordLaws.{named, is_word}
use Rattle.space_map.proofs.page_table.PageTable.set.Goals as goal

pub invariant_of-self : goal.invariant_of-self
invariant_of-self c =
    let u = c.self.inside.user_write in
    record {
      words = All-set (IsWord u) c.self.inside.words.items c.args.v c.pack.result
          (subst (IsWord u) (sym c.pack.ensures) (is_word u c.args.place c.requires.in_range)) c.self.invariant.words;
    }

pub returns : goal.returns
returns c =
    map-set place_named c.self.inside.words.items c.args.v c.pack.result ∙
    ap₂ (λ (ps : List Place) (p : Place). slice_set ps c.args.v p) c.self.view_is
    (ap place_named c.pack.ensures ∙ named c.self.inside.user_write c.args.place c.requires.in_range)
