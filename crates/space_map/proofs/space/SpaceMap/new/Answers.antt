use Rattle.std.proofs.Common.{◌≤◌, ℕ, List, sym, ap, ◌∙◌, subst, length, true, false}
use Rattle.std.proofs.lemmas.List.{length-replicate}
use Rattle.std.proofs.lemmas.List.FromFn.{length-map-range_with_len}
use Rattle.vax_pte.specs.declared.Place.{Place}
use Rattle.vax_pte.specs.declared.Place.TheVariants.{Zero}
use Rattle.space_map.specs.Space.{first_place}
use Rattle.space_map.proofs.space.SpaceMap.new.Goals as goal

pub invariant_of-result : goal.invariant_of-result
invariant_of-result c =
    record {
      text_whole = ap (λ (ps : List Place). length ps) c.in_ok-text.ensures ∙ length-map-range_with_len (first_place c.args.facts true) 0 c.text_pages.result ∙ c.text_pages.ensures.value;
      text_fits = subst (λ (n : ℕ). n ≤ 2048)
          (sym (ap (λ (ps : List Place). length ps) c.in_ok-text.ensures ∙ length-map-range_with_len (first_place c.args.facts true) 0 c.text_pages.result))
          (subst (λ (n : ℕ). n ≤ 2048) (sym c.text_pages.ensures.value) c.requires.sound.text_fits);
      data_fits = subst (λ (n : ℕ). n ≤ 4096)
          (sym (ap (λ (ps : List Place). length ps) c.in_ok-data.ensures ∙ length-map-range_with_len (first_place c.args.facts false) 0 c.args.data_pages))
          c.requires.data_fits;
      stack_fits = subst (λ (n : ℕ). n ≤ 512)
          (sym (ap (λ (ps : List Place). length ps) c.in_ok-stack.ensures ∙ length-replicate c.args.stack_pages Zero))
          c.requires.stack_fits;
    }
