use Rattle.std.proofs.Common.{◌*◌, ◌++◌, [], ◌∷◌, List, not, nat_lt, sym, ap, ap₂, ◌∙◌, subst, arith, map}
use Rattle.std.proofs.lemmas.Grind.{common_steps}
use Rattle.std.proofs.lemmas.List.{map-append}
use Rattle.std.proofs.lemmas.List.Elements.{All-push, All-same}
use Rattle.std.proofs.lemmas.List.FromFn.{map-range_with_len_more}
use Rattle.aout_image.specs.Image.{given_of}
use Rattle.vax_pte.specs.Words.{IsInRange, place_named}
use Rattle.vax_pte.specs.declared.Place.{Place}
use Rattle.space_map.specs.Space.{first_place}
use Rattle.space_map.specs.Tables.{IsWord}
use Rattle.space_map.proofs.WordLaws.{named, is_word, filled_in_range}
use Rattle.space_map.proofs.page_table.PageTable.of_image.Goals as goal

pub loop-v-preserved : goal.loop-v-preserved
loop-v-preserved c =
    let u = not c.args.text in
    let words = c.loop-v.words.items in
    let v = c.loop-v.v in
    let place = c.first_place-place.result in
    let in_range : IsInRange place =
    subst IsInRange (sym c.first_place-place.ensures)
    (filled_in_range (nat_lt (1024 * v) (given_of c.args.text c.args.facts.now)) v (omega arith)) in
    record {
      room = grind (arith, common_steps);
      count = grind (arith, common_steps);
      words = All-same (IsWord u) c.push_reserved.new.self.items (words ++ c.pack.result ∷ []) c.push_reserved.ensures.items
          (All-push (IsWord u) words c.pack.result c.loop-v.invariant.words (subst (IsWord u) (sym c.pack.ensures) (is_word u place in_range)));
      places = ap (map place_named) c.push_reserved.ensures.items ∙
          map-append place_named words (c.pack.result ∷ []) ∙
          ap₂ (λ (ps : List Place) (p : Place). ps ++ p ∷ []) c.loop-v.invariant.places
          (ap place_named c.pack.ensures ∙ named u place in_range ∙ c.first_place-place.ensures) ∙
          sym (map-range_with_len_more (first_place c.args.facts.now c.args.text) 0 v v (omega arith));
    }
