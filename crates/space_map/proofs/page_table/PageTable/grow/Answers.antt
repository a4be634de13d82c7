use Rattle.std.proofs.Common.{◌≡◌, ◌≤◌, ◌-◌, ◌++◌, ℕ, List, sym, ap, ap₂, ◌∙◌, subst, length, map, replicate, is_ok, vec_len, arith}
use Rattle.std.proofs.lemmas.Grind.{common_steps}
use Rattle.std.proofs.lemmas.List.{length-map}
use Rattle.vax_pte.specs.declared.Place.{Place}
use Rattle.vax_pte.specs.declared.Place.TheVariants.{Zero}
use Rattle.vax_pte.specs.Words.{place_named}
use Rattle.space_map.specs.Tables.{IsWord}
use Rattle.space_map.proofs.WordLaws.{named, is_word, grown_words, grown_places}
use Rattle.space_map.proofs.page_table.PageTable.grow.Goals as goal

pub invariant_of-self-2 : goal.invariant_of-self-2
invariant_of-self-2 c =
    let u = c.self.inside.user_write in
    record {
      words = grown_words u c.self.inside.words.items c.resize.new.self.items (is_ok c.resize.result) c.args.pages
          (c.args.pages - vec_len c.self.inside.words) c.pack-zeros.result c.resize.ensures.items
          (subst (IsWord u) (sym c.pack-zeros.ensures) (is_word u Zero tt)) c.self.invariant.words;
    }

pub returns-clause-ok : goal.returns-clause-ok
returns-clause-ok c =
    let words = c.self.inside.words.items in
    let more = c.args.pages - vec_len c.self.inside.words in
    let zeros = c.pack-zeros.result in
    let fewer : length words ≤ c.args.pages = grind (arith, common_steps) in
    let counted : vec_len c.self.inside.words ≡ length words = grind (arith, common_steps) in
    let same : vec_len c.self.inside.words ≡ length c.args.self.now = counted ∙ sym (length-map words place_named) ∙ ap (λ (ps : List Place). length ps) c.self.view_is in
    ap (map place_named) c.in_ok-resize.ensures.items ∙
    grown_places words c.args.pages more zeros Zero fewer (ap place_named c.pack-zeros.ensures ∙ named c.self.inside.user_write Zero tt) ∙
    ap₂ (λ (ps : List Place) (n : ℕ). ps ++ replicate (c.args.pages - n) Zero) c.self.view_is same
